-- Headings are compared section by section, and routines answer for those of their name.
use Rattle.std.proofs.Common.{◌+◌, ◌-◌, ◌<◌, ◌∙◌, ◌∷◌, ◌≡◌, [], ℕ, Bool, List, None, Option, Some, ap, arith, cond, false, find, length, refl, suc, sym, true}
use Rattle.std.specs.List.{range_with_len}
use Rattle.core_program.specs.{Headings.signature_at, ProgramRows.routine_at, declared.program.Routine.Routine}
use Rattle.reference_oracle.specs.{Fitting.sections_in_turn, Shapes.Programs, declared.headings.InTurn.InTurn, declared.headings.Section.Section}
use Rattle.reference_oracle.specs.Fitting.{counterpart, if_same_headings, in_turn, is_namesake, same_headings, same_sections, same_signatures, section_at}

-- ---- sections

-- two sections agree, and the lists go on
pub sections_further : (ps : Programs) (n k a b next after : ℕ) (s t : Section) → s ≡ section_at ps.subject a → t ≡ section_at ps.reference b
    → (turn : InTurn) → turn ≡ sections_in_turn ps s t → turn ≡ InTurn.Further next after → k < n
    → same_sections ps (n - (k + 1)) next after ≡ same_sections ps (n - k) a b
sections_further ps n k a b next after s t here there turn is goes_on less =
    let one : n - k ≡ suc (n - (k + 1)) = omega arith in
    let both : InTurn.Further next after ≡ sections_in_turn ps (section_at ps.subject a) (section_at ps.reference b) =
    sym goes_on ∙ is ∙ (λ i. sections_in_turn ps (here i) (there i)) in
    ap (in_turn (same_sections ps (n - (k + 1)))) both ∙ ap (λ m. same_sections ps m a b) (sym one)

-- ---- routines

none_passes : (p : ℕ → Bool) (xs : List ℕ) → ((x : ℕ) → p x ≡ false) → find p xs ≡ None
none_passes p [] h = refl
none_passes p (x ∷ xs) h = ap (λ (b : Bool). cond b (Some x) (find p xs)) (h x) ∙ none_passes p xs h

-- a routine of another name is passed over
pub name_passed : (p : ℕ → Bool) (k n : ℕ) → k < n → p k ≡ false → find p (range_with_len (k + 1) (n - (k + 1))) ≡ find p (range_with_len k (n - k))
name_passed p k n less other =
    let one : n - k ≡ suc (n - (k + 1)) = omega arith in
    sym (ap (λ m. find p (range_with_len k m)) one ∙ ap (λ (b : Bool). cond b (Some k) (find p (range_with_len (k + 1) (n - (k + 1))))) other)

-- what has no number has no counterpart
pub no_routine : (ps : Programs) (routine : ℕ) → routine_at ps.subject routine ≡ None → None ≡ counterpart ps routine
unfolding counterpart
no_routine ps routine e =
    sym (ap (if_same_headings ps routine) (none_passes (λ s. is_namesake ps (routine_at ps.subject routine) (routine_at ps.reference s))
    (range_with_len 0 (length ps.reference.routines)) (λ s. ap (λ r. is_namesake ps r (routine_at ps.reference s)) e)))

module _ (ps : Programs) (routine : ℕ) (r : Routine) (here : routine_at ps.subject routine ≡ Some r) (found : Option ℕ)
    (is : found ≡ find (λ s. is_namesake ps (Some r) (routine_at ps.reference s)) (range_with_len 0 (length ps.reference.routines))) where
  by_name : counterpart ps routine ≡ if_same_headings ps routine found
  unfolding counterpart
  by_name =
      ap (if_same_headings ps routine)
      ((λ i. find (λ s. is_namesake ps (here i) (routine_at ps.reference s)) (range_with_len 0 (length ps.reference.routines))) ∙ sym is)

  pub no_namesake : found ≡ None → None ≡ counterpart ps routine
  no_namesake e = sym (by_name ∙ ap (if_same_headings ps routine) e)

  headings_by : (s : ℕ) → found ≡ Some s → (o : Option Routine) → routine_at ps.reference s ≡ o
      → counterpart ps routine ≡ cond (same_headings ps (Some r) o) (Some s) None
  headings_by s e o there =
      by_name ∙ ap (if_same_headings ps routine) e
      ∙ (λ i. cond (same_headings ps (here i) (there i)) (Some s) None)

  pub namesake_gone : (s : ℕ) → found ≡ Some s → routine_at ps.reference s ≡ None → None ≡ counterpart ps routine
  namesake_gone s e there = sym (headings_by s e None there)

  module _ (s : ℕ) (e : found ≡ Some s) (other : Routine) (there : routine_at ps.reference s ≡ Some other) (same : Bool)
      (told : same ≡ same_signatures ps (signature_at ps.subject r.heading) (signature_at ps.reference other.heading)) where
    pub headings_agree : same ≡ true → Some s ≡ counterpart ps routine
    headings_agree t = sym (headings_by s e (Some other) there ∙ ap (λ (b : Bool). cond b (Some s) None) (sym told ∙ t))

    pub headings_differ : same ≡ false → None ≡ counterpart ps routine
    headings_differ t = sym (headings_by s e (Some other) there ∙ ap (λ (b : Bool). cond b (Some s) None) (sym told ∙ t))
