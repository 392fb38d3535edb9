-- Entries one after another: those before a place, and those that are left.
use Rattle.std.proofs.Common.{◌++◌, ◌+◌, ◌-◌, ◌==◌, ◌∙◌, ◌∷◌, ◌≡◌, [], ℕ, List, None, Some, ap, arith, drop, slice_get, suc, sym, take}
use Rattle.std.proofs.Math.Seq.{drop-cons}
use Rattle.std.proofs.lemmas.{Bool.cond-false, Bool.ne_eqb, List.take_more, Option.get_or_from_slice_get, Option.slice_get_within}
use Rattle.answer_book.specs.{Entries.entry_at, declared.entries.Entry.Entry}

-- one more
pub one_more : {X : Type 0} (xs : List X) (i : ℕ) (x : X) → slice_get xs i ≡ Some x → take (i + 1) xs ≡ take i xs ++ x ∷ []
one_more xs i x here =
    take_more xs i x (slice_get_within xs i x here) ∙ ap (λ y. take i xs ++ y ∷ []) (get_or_from_slice_get xs i x x here)

-- one fewer is left
pub one_fewer : {X : Type 0} (xs : List X) (i : ℕ) (x : X) → slice_get xs i ≡ Some x → drop i xs ≡ x ∷ drop (i + 1) xs
one_fewer xs i x here =
    let next : suc i ≡ i + 1 = omega arith in
    drop-cons xs i x (slice_get_within xs i x here) ∙ ap (λ y. y ∷ drop (suc i) xs) (get_or_from_slice_get xs i x x here)
    ∙ ap (λ n. x ∷ drop n xs) next

-- ---- an entry by its number

pub at_place : (entries : List Entry) (place : ℕ) (entry : Entry) → entry_at entries (place + 1) ≡ Some entry → slice_get entries place ≡ Some entry
at_place entries place entry at =
    let back : place ≡ place + 1 - 1 = omega arith in
    ap (slice_get entries) back
    ∙ sym (cond-false (place + 1 == 0) None (slice_get entries (place + 1 - 1)) (ne_eqb (place + 1) 0 (λ none. absurd (omega (arith, none))))) ∙ at
