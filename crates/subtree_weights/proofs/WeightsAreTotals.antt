-- The weight of a call as a sum over all calls.
use Rattle.std.proofs.Common.{◌+◌, ◌<◌, ◌==◌, ◌∙◌, ◌≡◌, ◌≤◌, ℕ, Bool, List, Option, Some, ap, arith, cond, false, inl, inr, length, refl, sym, true}
use Rattle.std.proofs.lemmas.Bool.{cases_Bool, cond-false, cond-true, eq-eqb, false_from_ne_true, ne_eqb}
use Rattle.call_tree.specs.{Clear.is_clear, Clear.is_unjudged, declared.records.Mark.Mark}
use Rattle.subtree_weights.proofs.SuspectTests.{below_is, clear_counts, counts, open_counts, suspect_is}
use Rattle.subtree_weights.proofs.Totals.{sum_of_numbers, total, total_but_one, total_none, total_of_few}
use Rattle.subtree_weights.specs.{Searched.is_suspect, Searched.mark_at, Weights.suspects_below, Weights.under_of, Weights.weight_of}

pub suspects_are : (last : List ℕ) (marks : List Mark) (top : Option ℕ)
    → suspects_below last marks top ≡ total (λ call. cond (is_suspect last marks top call) 1 0) (length last)
unfolding suspects_below
suspects_are last marks top = sum_of_numbers (λ call. cond (is_suspect last marks top call) 1 0) (length last)

one_at_most : (b : Bool) → cond b 1 0 ≤ 1
one_at_most true = omega arith
one_at_most false = omega arith

pub few_suspects : (last : List ℕ) (marks : List Mark) (top : Option ℕ) → suspects_below last marks top ≤ length last
few_suspects last marks top =
    let all = suspects_are last marks top in
    let few = total_of_few (λ call. cond (is_suspect last marks top call) 1 0) (length last) (λ call inside. one_at_most (is_suspect last marks top call)) in
    omega arith

not_below_itself : (last : List ℕ) (marks : List Mark) (top : ℕ) → is_suspect last marks (Some top) top ≡ false
not_below_itself last marks top =
    false_from_ne_true (is_suspect last marks (Some top) top) (λ h.
    let suspect = suspect_is last marks (Some top) top h in
    let below = below_is last top top suspect.below in
    let later = below.0 in
    omega arith)

module _ (last : List ℕ) (marks : List Mark) (top : ℕ) (a_call : top < length last) where
  abbrev counted : ℕ → ℕ
  counted call = cond (counts last marks top call) 1 0

  abbrev below : ℕ → ℕ
  below call = cond (is_suspect last marks (Some top) call) 1 0

  -- all that an open call weighs beside itself is below it
  counted_open : is_clear (mark_at marks top) ≡ false → total counted (length last) ≡ under_of last marks top + cond (is_unjudged (mark_at marks top)) 1 0
  counted_open open' =
      let elsewhere : (call : ℕ) → call < length last → (call ≡ top → ⊥) → counted call ≡ below call =
      (λ call inside apart. ap (λ b. cond b 1 0) (open_counts last marks top call open'
      ∙ cond-false (top == call) (is_unjudged (mark_at marks call)) (is_suspect last marks (Some top) call) (ne_eqb top call (λ e. apart (sym e))))) in
      let swapped = total_but_one counted below (length last) top a_call elsewhere in
      let here : counted top ≡ cond (is_unjudged (mark_at marks top)) 1 0 =
      ap (λ b. cond b 1 0) (open_counts last marks top top open'
      ∙ cond-true (top == top) (is_unjudged (mark_at marks top)) (is_suspect last marks (Some top) top) (eq-eqb top top refl)) in
      let none : below top ≡ 0 = ap (λ b. cond b 1 0) (not_below_itself last marks top) in
      let all = suspects_are last marks (Some top) in
      omega arith

  pub weight_is_total : weight_of last marks top ≡ total counted (length last)
  weight_is_total = elim (cases_Bool (is_clear (mark_at marks top))) [
    | inl clear ↦
        cond-true (is_clear (mark_at marks top)) 0 (cond (is_unjudged (mark_at marks top)) (under_of last marks top + 1) (under_of last marks top)) clear
        ∙ sym (total_none counted (length last) (λ call inside. ap (λ b. cond b 1 0) (clear_counts last marks top call clear)))
    | inr open' ↦
        cond-false (is_clear (mark_at marks top)) 0 (cond (is_unjudged (mark_at marks top)) (under_of last marks top + 1) (under_of last marks top)) open'
        ∙ one_more (is_unjudged (mark_at marks top)) (under_of last marks top) ∙ sym (counted_open open')
  ] where
    one_more : (unsaid : Bool) (under : ℕ) → cond unsaid (under + 1) under ≡ under + cond unsaid 1 0
    one_more true under = refl
    one_more false under = omega arith
