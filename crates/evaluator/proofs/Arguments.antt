-- The arguments of a call, and the limit that its frame may pass.
use Rattle.std.proofs.Common.{if◌then◌else◌, ◌++◌, ◌+◌, ◌∙◌, ◌∷◌, ◌≡◌, ◌≤◌, [], ℕ, Bool, List, None, Some, ap, arith, drop, false}
use Rattle.std.proofs.Common.{length, map, min, nat_lt, refl, reverse, slice_get, slice_set, suc, sym, true}
use Rattle.std.proofs.lemmas.{Bool.Decides.nat_tests, List.length-append, List.map-append, List.reverse-append}
use Rattle.std.specs.Global.{Vec}
use Rattle.cell_value.specs.declared.{values.Value.Value, ways_out.Which.TheVariants.Calls, ways_out.Which.TheVariants.Depth, ways_out.Which.TheVariants.Stack}
use Rattle.core_program.{proofs.OutcomesCompose.none_some, specs.State.State, specs.State.most_calls, specs.State.most_depth, specs.State.stack_end}
use Rattle.core_program.specs.{Acts.limit_passed, Passed.copied, Passed.placed}
use Rattle.eval_ops.proofs.Lists.{drop_get}
use Rattle.evaluator.specs.{Rest.copies_in, Rest.copy_of, declared.body.Copied.Copied}

-- copies of one call more
pub copies_pushed : (xs ys : List (Vec Copied)) (x : Vec Copied) → ys ≡ xs ++ x ∷ []
    → reverse (map copies_in ys) ≡ copies_in x ∷ reverse (map copies_in xs)
copies_pushed xs ys x h = ap (λ l. reverse (map copies_in l)) h ∙ ap reverse (map-append copies_in xs (x ∷ []))
    ∙ reverse-append (map copies_in xs) (copies_in x ∷ [])

-- a number of cells that stands for more passes the limit of the stack as those do
same_test : (t c n : ℕ) (a b : Bool) → nat_lt 524288 (t + min (c + min n 4294967295) 4294967295) ≡ a → nat_lt 524288 (t + (c + n)) ≡ b → a ≡ b
same_test t c n true true e f = refl
same_test t c n false false e f = refl
same_test t c n true false e f = absurd (grind (arith, nat_tests))
same_test t c n false true e f = absurd (grind (arith, nat_tests))

pub limit_counted : (σ : State) (c n : ℕ) → limit_passed σ (min (c + min n 4294967295) 4294967295) ≡ limit_passed σ (c + n)
limit_counted σ c n = ap (λ b. if nat_lt most_calls (σ.calls + 1) then Some Calls else if nat_lt most_depth σ.depth then Some Depth
    else if b then Some Stack else None) (same_test σ.top c n _ _ refl refl)

pub frame_fits : (σ : State) (n : ℕ) → limit_passed σ n ≡ None → σ.top + n ≤ stack_end
frame_fits σ n e = by (nat_lt most_calls (σ.calls + 1)) (nat_lt most_depth σ.depth) (nat_lt stack_end (σ.top + n)) refl e
  where
    by : (a b c : Bool) → nat_lt stack_end (σ.top + n) ≡ c → (if a then Some Calls else if b then Some Depth else if c then Some Stack else None) ≡ None
        → σ.top + n ≤ stack_end
    by true b c f h = absurd (none_some (sym h))
    by false true c f h = absurd (none_some (sym h))
    by false false true f h = absurd (none_some (sym h))
    by false false false f h = grind (arith, nat_tests)

-- ---- the copies one after the other

next : {A : Type 0} (xs : List A) (i : ℕ) (x : A) → slice_get xs i ≡ Some x → drop i xs ≡ x ∷ drop (i + 1) xs
next xs i x h = drop_get xs i x h ∙ ap (λ n. x ∷ drop n xs) (let e : suc i ≡ i + 1 = omega arith in e)

pub copied_next : (cs : List Copied) (i : ℕ) (x : Copied) → slice_get cs i ≡ Some x
    → copied (map copy_of (drop i cs)) ≡ x.cells ++ copied (map copy_of (drop (i + 1) cs))
copied_next cs i x h = ap (λ l. copied (map copy_of l)) (next cs i x h)

pub cells_next : (cs : List Copied) (i : ℕ) (x : Copied) → slice_get cs i ≡ Some x
    → length (copied (map copy_of (drop i cs))) ≡ length x.cells + length (copied (map copy_of (drop (i + 1) cs)))
cells_next cs i x h = ap length (copied_next cs i x h) ∙ length-append x.cells (copied (map copy_of (drop (i + 1) cs)))

pub placed_next : (cs : List Copied) (i : ℕ) (x : Copied) (addr : ℕ) (vs : List Value) → slice_get cs i ≡ Some x → placed addr (map copy_of (drop i cs)) vs
    ≡ placed (addr + length x.cells) (map copy_of (drop (i + 1) cs)) (slice_set vs x.at (Value.Place addr))
placed_next cs i x addr vs h = ap (λ l. placed addr (map copy_of l) vs) (next cs i x h)
