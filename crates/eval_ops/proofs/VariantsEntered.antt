-- The variants around a field, one more of them.
use Rattle.std.proofs.Common.{if◌then◌else◌, ◌-◌, ◌<◌, ◌∙◌, ◌≡◌, ℕ, Bool, None, Some, ap, arith, lt-ltb, nat_lt, refl, suc, zero}
use Rattle.core_program.specs.{Actions.◌>>=◌, Actions.Action, Actions.Give, Actions.NoMeaning, ProgramRows.ProgramRows, Variants.all_entered}
use Rattle.core_program.specs.{Variants.on_variant, Variants.variant_at, Variants.variant_entered, declared.variants.VariantPart.VariantPart}

module _ (p : ProgramRows) (target : Bool) (addr : ℕ) where
  -- the variant of a holder, with at most n of those around it
  abbrev entered : (n holder : ℕ) → VariantPart → ℕ → Action (Unit {0})
  entered n holder part position = if nat_lt part.holder holder
      then (all_entered p target addr n part.holder >>= λ _. variant_entered p target addr part position) else NoMeaning

  one_more : (n holder : ℕ) → (n ≡ 0 → ⊥) → all_entered p target addr n holder ≡ on_variant (variant_at p holder) (entered (n - 1) holder)
  one_more zero holder h = absurd (h refl)
  one_more (suc n) holder h = ap (λ k. on_variant (variant_at p holder) (entered k holder)) (let e : n ≡ suc n - 1 = omega arith in e)

  -- the one that holds another is entered before it
  pub entered_next : (n holder : ℕ) (v : VariantPart × ℕ) → (n ≡ 0 → ⊥) → variant_at p holder ≡ Some (Some v) → v.0.holder < holder
      → all_entered p target addr n holder ≡ (all_entered p target addr (n - 1) v.0.holder >>= λ _. variant_entered p target addr v.0 v.1)
  entered_next n holder v h e before = one_more n holder h ∙ ap (λ o. on_variant o (entered (n - 1) holder)) e
      ∙ ap (λ b. if b then (all_entered p target addr (n - 1) v.0.holder >>= λ _. variant_entered p target addr v.0 v.1) else NoMeaning)
      (lt-ltb v.0.holder holder before)

  -- the record itself has no tag around it
  pub entered_none : (n holder : ℕ) → (n ≡ 0 → ⊥) → variant_at p holder ≡ Some None → all_entered p target addr n holder ≡ Give tt
  entered_none n holder h e = one_more n holder h ∙ ap (λ o. on_variant o (entered (n - 1) holder)) e
