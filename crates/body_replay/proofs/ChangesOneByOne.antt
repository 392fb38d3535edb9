-- Changes of cells, made one after the other.
use Rattle.std.proofs.Common.{◌+◌, ◌<◌, ◌∙◌, ◌∷◌, ◌≡◌, ◌≤◌, [], ℕ, List, None, Option, Some, ap, arith, drop, refl, slice_get, suc, sym, zero}
use Rattle.std.proofs.lemmas.List.Elements.{All-cons, All-nil}
use Rattle.std.specs.{FinMap.FinMap, List.All, List.cons_option, List.filter_map, List.range_with_len, Option.option_map, Ordering.nat_cmp}
use Rattle.cell_value.specs.Effects.{listed}
use Rattle.cell_value.specs.declared.{entries.Change.Change, entries.Change.TheVariants.Gone, entries.Change.TheVariants.Set, values.Value.Value}
use Rattle.core_program.specs.Apply.{changed_cells}
use Rattle.eval_ops.proofs.Lists.{drop_get}

changed_more : (addr : ℕ) (change : Change) (cs : List (ℕ × Change)) (m : FinMap nat_cmp Value)
    → changed_cells ((addr, change) ∷ cs) m ≡ changed_cells cs (changed_cells ((addr, change) ∷ []) m)
changed_more addr (Set value) cs m = refl
changed_more addr Gone cs m = refl

-- one change more
pub one_more : (cs : List (ℕ × Change)) (i : ℕ) (x : ℕ × Change) (m m' : FinMap nat_cmp Value) → slice_get cs i ≡ Some x
    → m' ≡ changed_cells ((x.0, x.1) ∷ []) m → changed_cells (drop i cs) m ≡ changed_cells (drop (i + 1) cs) m'
one_more cs i x m m' h e =
    ap (λ l. changed_cells l m) (drop_get cs i x h)
    ∙ changed_more x.0 x.1 (drop (suc i) cs) m
    ∙ ap (changed_cells (drop (suc i) cs)) (sym e)
    ∙ ap (λ n. changed_cells (drop n cs) m') (let e : suc i ≡ i + 1 = omega arith in e)

below : {X : Type 0} (top a : ℕ) (o : Option X) (xs : List (ℕ × X)) → a < top → All (λ (x : ℕ × X). x.0 < top) xs
    → All (λ (x : ℕ × X). x.0 < top) (cons_option (option_map (λ x. (a, x)) o) xs)
below top a None xs l h = h
below top a (Some x) xs l h = All-cons (λ x. x.0 < top) (a, x) xs l h

below_pairs : {X : Type 0} (f : ℕ → Option X) (top n a : ℕ) → a + n ≤ top
    → All (λ (x : ℕ × X). x.0 < top) (filter_map (λ q. option_map (λ x. (q, x)) (f q)) (range_with_len a n))
below_pairs f top zero a h = All-nil (λ x. x.0 < top)
below_pairs f top (suc n) a h = below top a (f a) _ (omega arith) (below_pairs f top n (a + 1) (omega arith))

-- what is listed are addresses
pub below_listed : {X : Type 0} (f : ℕ → Option X) → All (λ (x : ℕ × X). x.0 < 1048576) (listed f)
unfolding listed
below_listed f = below_pairs f 1048576 1048576 0 (omega arith)
