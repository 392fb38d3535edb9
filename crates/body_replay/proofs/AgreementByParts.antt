-- The parts of the test of agreement, gone over one by one.
use Rattle.std.proofs.Common.{◌+◌, ◌∙◌, ◌∷◌, ◌≡◌, ℕ, List, Some, ap, arith, drop, subst, suc, sym, take}
use Rattle.std.{proofs.lemmas.List.Elements.All-cons, proofs.lemmas.Option.slice_get-map, specs.List.All, specs.List.slice_get, specs.Option.option_map}
use Rattle.call_tree.specs.Recording.{depths_of}
use Rattle.call_tree.specs.declared.records.Call as table
use Rattle.eval_ops.proofs.Lists.{drop_get}

-- one more of which it holds
pub one_more_holds : {X : Type 0} (P : X → Type 0) (xs : List X) (i : ℕ) (x : X) → slice_get xs i ≡ Some x → P x → All P (drop (i + 1) xs)
    → All P (drop i xs)
one_more_holds P xs i x e h k = subst (All P) (sym (drop_get xs i x e)) (All-cons P x (drop (suc i) xs) h
    (subst (λ n. All P (drop n xs)) (let z : i + 1 ≡ suc i = omega arith in z) k))

-- the depth of one more call
pub one_more_depth : (rows : List table.Call) (row : table.Call) (many others k : ℕ) → slice_get rows k ≡ Some row → many ≡ suc others
    → take many (drop k (depths_of rows)) ≡ row.depth ∷ take others (drop (k + 1) (depths_of rows))
one_more_depth rows row many others k e q =
    ap (λ n. take n (drop k (depths_of rows))) q
    ∙ ap (take (suc others)) (drop_get (depths_of rows) k row.depth (slice_get-map (λ call. call.depth) rows k ∙ ap (option_map (λ call. call.depth)) e)
    ∙ ap (λ j. row.depth ∷ drop j (depths_of rows)) (let z : suc k ≡ k + 1 = omega arith in z))
