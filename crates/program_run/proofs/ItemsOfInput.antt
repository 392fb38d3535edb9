-- The items of an input, byte by byte.
use Rattle.std.proofs.Common.{if◌then◌else◌, ◌&&◌, ◌++◌, ◌+◌, ◌<◌, ◌==◌, ◌∙◌, ◌∷◌, ◌≡◌, [], ℕ, Bool, List, None, Option, Some, ap, append-nil, append_assoc}
use Rattle.std.proofs.Common.{arith, drop, false, get_or, length, refl, slice_get, suc, sym, true, zero}
use Rattle.std.proofs.lemmas.Option.{slice_get-get_or}
use Rattle.core_program.specs.Run.{input_items}
use Rattle.eval_ops.proofs.Lists.{drop_get}
use Rattle.program_run.specs.History.{items_at}

by_tests : (b : ℕ) (xs : List ℕ) (t u : Bool) → (if t then 256 ∷ xs else if u then xs else b ∷ xs) ≡ (if t then 256 ∷ [] else if u then [] else b ∷ []) ++ xs
by_tests b xs true u = refl
by_tests b xs false true = refl
by_tests b xs false false = refl

head : (b : ℕ) (ys : List ℕ) → input_items (b ∷ ys) ≡ items_at b (slice_get ys 0) ++ input_items ys
head b [] = sym (append-nil (items_at b None))
head b (c ∷ cs) = by_tests b (input_items (c ∷ cs)) (b == 10) ((b == 13) && (c == 10))

next : {A : Type 0} (xs : List A) (at : ℕ) (x : A) → slice_get xs at ≡ Some x → slice_get (drop (suc at) xs) 0 ≡ slice_get xs (suc at)
next [] at x e = absurd (let z : ⊥ = cc in z)
next (y ∷ []) zero x e = refl
next (y ∷ z ∷ zs) zero x e = refl
next (y ∷ ys) (suc at) x e = next ys at x e

pub items_step : (xs : List ℕ) (at b : ℕ) → slice_get xs at ≡ Some b
    → input_items (drop at xs) ≡ items_at b (slice_get xs (at + 1)) ++ input_items (drop (at + 1) xs)
items_step xs at b e =
    ap input_items (drop_get xs at b e)
    ∙ head b (drop (suc at) xs)
    ∙ ap (λ o. items_at b o ++ input_items (drop (suc at) xs)) (next xs at b e)
    ∙ (λ i. items_at b (slice_get xs ((let x : suc at ≡ at + 1 = omega arith in x) i))
    ++ input_items (drop ((let x : suc at ≡ at + 1 = omega arith in x) i) xs))

pub items_more : (input items items' : List ℕ) (at : ℕ) (after : Option ℕ) → at < length input → items' ≡ items ++ items_at (get_or input at 0) after
    → after ≡ slice_get input (at + 1) → items ++ input_items (drop at input) ≡ input_items input
    → items' ++ input_items (drop (at + 1) input) ≡ input_items input
items_more input items items' at after h put e came =
    let rest = input_items (drop (at + 1) input) in
    ap (λ xs. xs ++ rest) (put ∙ ap (λ o. items ++ items_at (get_or input at 0) o) e)
    ∙ append_assoc items (items_at (get_or input at 0) (slice_get input (at + 1))) rest
    ∙ ap (λ xs. items ++ xs) (sym (items_step input at (get_or input at 0) (slice_get-get_or input at 0 h)))
    ∙ came
