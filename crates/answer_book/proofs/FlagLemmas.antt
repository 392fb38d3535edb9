-- The flags of the calls that are judged wrong.
use Rattle.std.proofs.Common.{◌<◌, ◌==◌, ◌∙◌, ◌∷◌, ◌≡◌, ◌≤◌, [], ℕ, All, Bool, List, None, Option, Some, ap, arith, false, get_or, length, map, not, refl}
use Rattle.std.proofs.Common.{replicate, set, slice_get, suc, sym, true, zero}
use Rattle.std.proofs.lemmas.Bool.{eq-eqb, ne_eqb, not_from_false, not_from_true}
use Rattle.std.proofs.lemmas.List.{length-map, length-replicate, length-set, map-set}
use Rattle.weight_lanes.specs.Places.{IsSet}
use Rattle.answer_book.proofs.LastWhere.{last_where_from, no_last_where}
use Rattle.answer_book.specs.Judged.{AreFlagged, is_wrong_at, last_wrong, wrong_flag}
use Rattle.answer_book.specs.declared.entries.Judgement.{Judgement, TheVariants.Right, TheVariants.Unknown, TheVariants.Wrong}

no_flags : (n : ℕ) → replicate n 0 ≡ map wrong_flag (replicate n None)
no_flags zero = refl
no_flags (suc n) = ap (λ l. 0 ∷ l) (no_flags n)

pub new_are_flagged : (n : ℕ) (judged : List (Option Judgement)) (wrong : List ℕ) → judged ≡ replicate n None → wrong ≡ replicate n 0
    → n ≤ 500000 → AreFlagged judged wrong
new_are_flagged n judged wrong is zeros few = record {
  few = omega (arith, ap length is, length-replicate {A = Option Judgement} n None);
  flagged = zeros ∙ no_flags n ∙ ap (map wrong_flag) (sym is);
}

pub set_is_flagged : (judged : List (Option Judgement)) (wrong : List ℕ) (call : ℕ) (judgement : Option Judgement) → AreFlagged judged wrong
    → AreFlagged (set judged call judgement) (set wrong call (wrong_flag judgement))
set_is_flagged judged wrong call judgement are = record {
  few = omega (arith, are.few, length-set judged call judgement);
  flagged = ap (λ l. set l call (wrong_flag judgement)) are.flagged ∙ sym (map-set wrong_flag judged call judgement);
}

by_judgement : (judgement : Option Judgement) → is_wrong_at (Some judgement) ≡ not (wrong_flag judgement == 0)
by_judgement None = refl
by_judgement (Some Right) = refl
by_judgement (Some Wrong) = refl
by_judgement (Some Unknown) = refl

flag_says : (judged : List (Option Judgement)) (call : ℕ) → call < length judged
    → is_wrong_at (slice_get judged call) ≡ not (get_or (map wrong_flag judged) call 0 == 0)
flag_says [] call inside = absurd (omega arith)
flag_says (judgement ∷ judged) zero inside = by_judgement judgement
flag_says (judgement ∷ judged) (suc call) inside = flag_says judged call (omega arith)

says : (judged : List (Option Judgement)) (wrong : List ℕ) (call : ℕ) → AreFlagged judged wrong → call < length judged
    → is_wrong_at (slice_get judged call) ≡ not (get_or wrong call 0 == 0)
says judged wrong call are inside = flag_says judged call inside ∙ ap (λ l. not (get_or l call 0 == 0)) (sym are.flagged)

is_flagged : (judged : List (Option Judgement)) (wrong : List ℕ) (call : ℕ) → AreFlagged judged wrong → IsSet wrong call
    → is_wrong_at (slice_get judged call) ≡ true
is_flagged judged wrong call are at =
    let inside : call < length judged = omega (arith, at.inside, ap length are.flagged, length-map judged wrong_flag) in
    says judged wrong call are inside ∙ not_from_false (get_or wrong call 0 == 0) (ne_eqb (get_or wrong call 0) 0 at.nonzero)

-- a call whose flag is not set
flag_cases : (judged : List (Option Judgement)) (wrong : List ℕ) (call : ℕ) → AreFlagged judged wrong → call < length judged
    → ¬ (IsSet wrong call) → (b : Bool) → is_wrong_at (slice_get judged call) ≡ b → is_wrong_at (slice_get judged call) ≡ false
flag_cases judged wrong call are inside unset false is = is
flag_cases judged wrong call are inside unset true is =
    let within : call < length wrong = omega (arith, inside, ap length are.flagged, length-map judged wrong_flag) in
    absurd (unset (record {
      inside = within;
      nonzero = λ none. let e = sym is ∙ says judged wrong call are inside
          ∙ not_from_true (get_or wrong call 0 == 0) (eq-eqb (get_or wrong call 0) 0 none) in cc;
    }))

not_flagged : (judged : List (Option Judgement)) (wrong : List ℕ) (call : ℕ) → AreFlagged judged wrong → call < length judged
    → ¬ (IsSet wrong call) → is_wrong_at (slice_get judged call) ≡ false
not_flagged judged wrong call are inside unset = flag_cases judged wrong call are inside unset (is_wrong_at (slice_get judged call)) refl

pub last_flag : (judged : List (Option Judgement)) (wrong : List ℕ) (place : ℕ) → AreFlagged judged wrong → IsSet wrong place
    → ((other : ℕ) → IsSet wrong other → other ≤ place) → Some place ≡ last_wrong judged
last_flag judged wrong place are at greatest =
    sym (last_where_from (λ call. is_wrong_at (slice_get judged call)) (length judged) place
    (record {
      inside = omega (arith, at.inside, ap length are.flagged, length-map judged wrong_flag);
      passes = is_flagged judged wrong place are at;
      none_later = λ other later inside. not_flagged judged wrong other are inside (λ set. let l = greatest other set in absurd (omega arith));
    }))

pub no_flag : (judged : List (Option Judgement)) (wrong : List ℕ) → AreFlagged judged wrong → All (λ flag. flag ≡ 0) wrong
    → None ≡ last_wrong judged
no_flag judged wrong are none =
    sym (no_last_where (λ call. is_wrong_at (slice_get judged call)) (length judged)
    (λ call inside. not_flagged judged wrong call are inside (λ set. set.nonzero (none call 0 set.inside))))
