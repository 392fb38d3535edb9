-- What tables say of constants, types and headings still stands at the end, where no statement has a token of theirs.
use Rattle.std.proofs.Common.{◌∙◌, ◌≡◌, ◌⊎◌, ℕ, inl, inr, sym}
use Rattle.core_program.specs.declared.rows.Row.{Row}
use Rattle.check_steps.specs.Known.{Known, row_at}
use Rattle.rule_laws.proofs.{Faces.Shown, Faces.said, Touches.Same}

-- Each row says what it says at the end, or nothing.
pub record Stood (f j : Known) : Type 0 where
  pub of : (n : ℕ) → (said (row_at j n) ≡ Row.Nothing) ⊎ (said (row_at f n) ≡ said (row_at j n))

pub stood_later : {Q : ℕ → Type 0} {strict : Shown} (f j i : Known) → Same Q strict j i → Stood f j → Stood f i
stood_later f j i s h = record {
  of = λ n. elim (s.sayings n) [
    | inl p ↦ inl p.1
    | inr same ↦ elim (h.of n) [
      | inl none ↦ inl (same ∙ none)
      | inr e ↦ inr (e ∙ sym same)
    ]
  ];
}
