-- The order in which keyed calls stand, and what stands between two with the same key.
use Rattle.std.proofs.Common.{◌+◌, ◌-◌, ◌<◌, ◌==◌, ◌∙◌, ◌∷◌, ◌≡◌, ◌≤◌, [], ℕ, Bool, Equal, Greater, Less, List, None, Option, Ordering, Some, ap, arith, cond}
use Rattle.std.proofs.Common.{false, fold, get_or, inl, inr, nat_lt, refl, slice_get, subst, sym, true}
use Rattle.std.proofs.lemmas.{Bool.Decides.eqb_tells, Bool.Decides.nat_tests, Fn.always_returns_same, Option.get_or_from_slice_get, Option.slice_get_within}
use Rattle.std.proofs.lemmas.Cmp.{alike_right, lists_total, nat_cmp_total, nat_list_cmp_total, on_total, ranked, then_total, tied_itself}
use Rattle.std.proofs.lemmas.List.{Folds.fold-map, Sorted.ranks_by, Sorted.sorted_far}
use Rattle.std.specs.{Cmp.IsTotalOrder, Cmp.Lexicographic.slice_cmp, Fn.Called, List.Sorted.IsSortedBy, List.Sorted.IsSortedByClosure}
use Rattle.std.specs.{List.Sorted.IsSortedWithin, Option.option_cmp, Ordering.is_lt, Ordering.nat_cmp, Ordering.ordering_reverse, Ordering.ordering_then}
use denote.Param.Members.{Mut}
use denote.Ref.{Bor}
use Rattle.program_run.specs.declared.history.History.{History}
use Rattle.answer_reuse.specs.{Figures.value_figure, Keys.touches_key, Keys.work_order, declared.keys.Keyed.Keyed}
use Rattle.answer_reuse.specs.Keys.{IsKeyed, Key, compare_keys, contents_order, digest_of, key_head, key_of, key_order, mixed_figure, touches_digest}
use Rattle.answer_reuse.specs.Sorting.{AreKeys, AreSorted, IsKeyOf, SameKey, comes_first, order_in, rises}

-- ---- what ties is the same

pub both_tie : (a b : Ordering) → ordering_then a b ≡ Equal → (a ≡ Equal) × (b ≡ Equal)
both_tie Equal b e = (refl, e)
both_tie Less b e = absurd (let z : Less ≡ Equal = e in cc)
both_tie Greater b e = absurd (let z : Greater ≡ Equal = e in cc)

numbers_exact : (m n : ℕ) → nat_cmp m n ≡ Equal → m ≡ n
numbers_exact m n e = ranked m n Equal (sym e)

lists_exact : {X : Type 0} (R : X → X → Ordering) → ((x y : X) → R x y ≡ Equal → x ≡ y) → (xs ys : List X) → slice_cmp R xs ys ≡ Equal → xs ≡ ys
lists_exact R exact [] [] e = refl
lists_exact R exact [] (y ∷ ys) e = absurd (let z : Less ≡ Equal = e in cc)
lists_exact R exact (x ∷ xs) [] e = absurd (let z : Greater ≡ Equal = e in cc)
lists_exact R exact (x ∷ xs) (y ∷ ys) e =
    let t = both_tie (R x y) (slice_cmp R xs ys) e in
    λ i. exact x y t.0 i ∷ lists_exact R exact xs ys t.1 i

figures_exact : (x y : List ℕ) → slice_cmp nat_cmp x y ≡ Equal → x ≡ y
figures_exact = lists_exact nat_cmp numbers_exact

options_exact : (x y : Option (List ℕ)) → option_cmp (slice_cmp nat_cmp) x y ≡ Equal → x ≡ y
options_exact None None e = refl
options_exact None (Some y) e = absurd (let z : Less ≡ Equal = e in cc)
options_exact (Some x) None e = absurd (let z : Greater ≡ Equal = e in cc)
options_exact (Some x) (Some y) e = ap Some (figures_exact x y e)

keys_exact : (q r : Key) → key_order q r ≡ Equal → q ≡ r
keys_exact q r e =
    let a = both_tie (slice_cmp nat_cmp q.head r.head) (contents_order q r) e in
    let b = both_tie (slice_cmp (slice_cmp nat_cmp) q.args r.args) (work_order q r) a.1 in
    let c = both_tie (slice_cmp (option_cmp (slice_cmp nat_cmp)) q.touches r.touches) (slice_cmp (slice_cmp nat_cmp) q.items r.items) b.1 in
    let head = figures_exact q.head r.head a.0 in
    let args = lists_exact (slice_cmp nat_cmp) figures_exact q.args r.args b.0 in
    let touches = lists_exact (option_cmp (slice_cmp nat_cmp)) options_exact q.touches r.touches c.0 in
    let items = lists_exact (slice_cmp nat_cmp) figures_exact q.items r.items c.1 in
    λ i. record { head = head i; args = args i; touches = touches i; items = items i }

-- ---- the order is total

listed : Option (List ℕ) → List (List ℕ)
listed None = []
listed (Some x) = x ∷ []

then_Equal : (r : Ordering) → ordering_then r Equal ≡ r
then_Equal Less = refl
then_Equal Equal = refl
then_Equal Greater = refl

as_lists : (p q : Option (List ℕ)) → slice_cmp (slice_cmp nat_cmp) (listed p) (listed q) ≡ option_cmp (slice_cmp nat_cmp) p q
unfolding listed
as_lists None None = refl
as_lists None (Some y) = refl
as_lists (Some x) None = refl
as_lists (Some x) (Some y) = then_Equal (slice_cmp nat_cmp x y)

options_total : IsTotalOrder (option_cmp (slice_cmp nat_cmp))
options_total = subst IsTotalOrder (λ i p q. as_lists p q i) (on_total listed (lists_total nat_list_cmp_total))

pub options_tie : (x y : Option (List ℕ)) → x ≡ y → Equal ≡ option_cmp (slice_cmp nat_cmp) x y
options_tie x y e = sym (tied_itself options_total x) ∙ ap (option_cmp (slice_cmp nat_cmp) x) e

key_total : IsTotalOrder key_order
key_total = then_total (on_total (λ (q : Key). q.head) nat_list_cmp_total) (then_total (on_total (λ (q : Key). q.args) (lists_total nat_list_cmp_total))
    (then_total (on_total (λ (q : Key). q.touches) (lists_total options_total)) (on_total (λ (q : Key). q.items) (lists_total nat_list_cmp_total))))

module _ (h : History) where
  keys_total : IsTotalOrder (compare_keys h)
  unfolding compare_keys
  keys_total = on_total (key_of h) key_total

  pub same_from_tie : (k l : Keyed) → compare_keys h k l ≡ Equal → SameKey h k l
  unfolding compare_keys
  same_from_tie k l e = keys_exact (key_of h k) (key_of h l) e

  pub tie_from_same : (k l : Keyed) → SameKey h k l → compare_keys h k l ≡ Equal
  unfolding compare_keys
  tie_from_same k l e = ap (key_order (key_of h k)) (sym e) ∙ tied_itself key_total (key_of h k)

  -- ---- the digest is that of the key

  abbrev digest_by : Key → ℕ
  digest_by q = mixed_figure (fold mixed_figure (touches_digest 0 q.touches) q.args) q.head

  digest_is : (k : Keyed) → digest_of h k ≡ digest_by (key_of h k)
  digest_is k = ap (λ d. mixed_figure d (key_head k.row.now k.looked))
      (sym (fold-map mixed_figure (value_figure 0 0) (touches_digest 0 (touches_key h.log k.row.now)) k.row.now.args))

  pub same_digest : (k l : Keyed) → IsKeyed h k → IsKeyed h l → SameKey h k l → k.digest ≡ l.digest
  same_digest k l a b e = a.digest ∙ digest_is k ∙ ap digest_by e ∙ sym (digest_is l) ∙ sym b.digest

  -- ---- the order of keyed calls

  abbrev by_key : Keyed → Keyed → Ordering
  by_key k l = ordering_then (nat_cmp k.digest l.digest) (compare_keys h k l)

  by_key_total : IsTotalOrder by_key
  by_key_total = then_total (on_total (λ (k : Keyed). k.digest) nat_cmp_total) keys_total

  pub order_total : IsTotalOrder (order_in h)
  unfolding order_in
  order_total = then_total (on_total (λ (k : Keyed). k.digest) nat_cmp_total) (then_total keys_total (on_total (λ (k : Keyed). k.call) nat_cmp_total))

  -- keys are in order where a closure sorted them that answers by it
  pub sorted_by_order : {F : Type 0} {g : Mut F (Bor Keyed × (Bor Keyed × Unit {0})) Ordering} {f : F} (keys : List Keyed) → IsSortedByClosure g f keys
      → ((a : Bor Keyed × (Bor Keyed × Unit {0})) (r : Ordering) (f' : F) → Called g f a r f' → (r ≡ order_in h a.0.now a.1.0.now) × (f' ≡ f))
      → IsSortedBy (comes_first h) keys
  sorted_by_order {g = g} {f = f} keys sorted answers = sorted (comes_first h) (ranks_by order_total (λ (k : Keyed). k))
      (always_returns_same g (λ a r. is_lt r ≡ comes_first h a.0.now a.1.0.now) f
      (λ a r f' k. (ap is_lt (answers a r f' k).0, (answers a r f' k).1)))

  not_before : (a b c : Ordering) → is_lt (ordering_then a (ordering_then b c)) ≡ false → is_lt (ordering_then a b) ≡ false
  not_before Less b c e = e
  not_before Equal Less c e = e
  not_before Equal Equal c e = refl
  not_before Equal Greater c e = refl
  not_before Greater b c e = refl

  not_less_by_key : (k l : Keyed) → comes_first h k l ≡ false → is_lt (by_key k l) ≡ false
  unfolding order_in
  not_less_by_key k l e = not_before (nat_cmp k.digest l.digest) (compare_keys h k l) (nat_cmp k.call l.call) e

  neither : (a b : Ordering) → a ≡ ordering_reverse b → is_lt a ≡ false → is_lt b ≡ false → b ≡ Equal
  neither a Less e f g = absurd (let z : true ≡ false = g in cc)
  neither a Equal e f g = refl
  neither a Greater e f g = absurd (let z : true ≡ false = ap is_lt (sym e) ∙ f in cc)

  ties_by_key : (k l : Keyed) → IsKeyed h k → IsKeyed h l → SameKey h k l → by_key k l ≡ Equal
  ties_by_key k l a b e = ap (λ d. ordering_then (nat_cmp d l.digest) (compare_keys h k l)) (same_digest k l a b e)
      ∙ ap (λ o. ordering_then o (compare_keys h k l)) (tied_itself nat_cmp_total l.digest) ∙ tie_from_same k l e

  -- ---- neighbours in order

  not_less_from : (m n : ℕ) → n ≤ m → is_lt (nat_cmp m n) ≡ false
  not_less_from m n l = by (nat_lt m n) (m == n) refl
    where
      by : (b c : Bool) → nat_lt m n ≡ b → is_lt (cond b Less (cond c Equal Greater)) ≡ false
      by true c e = absurd (let z : m < n = grind (arith, nat_tests) in omega (arith, z, l))
      by false true e = refl
      by false false e = refl

  greater_from : (m n : ℕ) → n < m → nat_cmp m n ≡ Greater
  greater_from m n l = by (nat_lt m n) (m == n) refl refl
    where
      by : (b c : Bool) → nat_lt m n ≡ b → (m == n) ≡ c → cond b Less (cond c Equal Greater) ≡ Greater
      by true c e f = absurd (let z : m < n = grind (arith, nat_tests) in omega (arith, z, l))
      by false true e f = absurd (let z : m ≡ n = grind (arith, nat_tests) in omega (arith, z, l))
      by false false e f = refl

  -- two neighbours are in order that rise by their digests, or by their numbers where they have the same key
  pub pair_in_order : (a b : Keyed) → IsKeyed h a → IsKeyed h b → (t : Bool) → (t ≡ true → SameKey h a b) → rises t a b ≡ true
      → comes_first h b a ≡ false
  unfolding order_in
  pair_in_order a b ka kb true same e =
      let t = both_tie (nat_cmp b.digest a.digest) (compare_keys h b a) (ties_by_key b a kb ka (sym (same refl))) in
      ap (λ o. is_lt (ordering_then o (ordering_then (compare_keys h b a) (nat_cmp b.call a.call)))) t.0
      ∙ ap (λ o. is_lt (ordering_then o (nat_cmp b.call a.call))) t.1
      ∙ not_less_from b.call a.call (let z : a.call ≤ b.call = grind (arith, nat_tests) in z)
  pair_in_order a b ka kb false same e =
      ap (λ o. is_lt (ordering_then o (ordering_then (compare_keys h b a) (nat_cmp b.call a.call))))
      (greater_from b.digest a.digest (let z : a.digest < b.digest = grind (arith, nat_tests) in z))

  pub sorted_one : (keys : List Keyed) → IsSortedWithin (comes_first h) keys 0 1
  sorted_one keys k d low l = absurd (omega arith)

  pub sorted_fewer : (keys : List Keyed) (many few : ℕ) → few ≤ many → IsSortedWithin (comes_first h) keys 0 many
      → IsSortedWithin (comes_first h) keys 0 few
  sorted_fewer keys many few le s k d low l = s k d low (omega arith)

  pub sorted_more : (keys : List Keyed) (i : ℕ) (a b : Keyed) → 1 ≤ i → slice_get keys (i - 1) ≡ Some a → slice_get keys i ≡ Some b
      → IsSortedWithin (comes_first h) keys 0 i → comes_first h b a ≡ false → IsSortedWithin (comes_first h) keys 0 (i + 1)
  sorted_more keys i a b first at next s e k d low l = elim (eqb_tells (k + 1) i) [
    | inl q ↦
        let here : get_or keys (k + 1) d ≡ b = ap (λ n. get_or keys n d) q.1 ∙ get_or_from_slice_get keys i b d next in
        let before : k ≡ i - 1 = (let z = q.1 in omega (arith, z)) in
        let lesser : get_or keys k d ≡ a = ap (λ n. get_or keys n d) before ∙ get_or_from_slice_get keys (i - 1) a d at in
        subst (λ m. comes_first h m (get_or keys k d) ≡ false) (sym here) (subst (λ m. comes_first h b m ≡ false) (sym lesser) e)
    | inr q ↦ s k d low (let z = q.1 in omega arith)
  ]

  pub keyed_of : (keys : List Keyed) → AreKeys h keys → (i : ℕ) (k : Keyed) → slice_get keys i ≡ Some k → IsKeyOf h k
  keyed_of keys g i k e = subst (IsKeyOf h) (get_or_from_slice_get keys i k k e) (g.each i k (slice_get_within keys i k e))

  module _ (keys : List Keyed) (s : AreSorted h keys) where
    pub key_is : (i : ℕ) (k : Keyed) → slice_get keys i ≡ Some k → IsKeyOf h k
    key_is i k e = subst (IsKeyOf h) (get_or_from_slice_get keys i k k e) (s.keys'.each i k (slice_get_within keys i k e))

    in_order : (i j : ℕ) (k l : Keyed) → i ≤ j → slice_get keys i ≡ Some k → slice_get keys j ≡ Some l → comes_first h l k ≡ false
    in_order i j k l le e f =
        let far = sorted_far (comes_first h) (ranks_by order_total (λ (k : Keyed). k)) keys s.sorted i j k le (slice_get_within keys j l f) in
        subst (λ m. comes_first h l m ≡ false) (get_or_from_slice_get keys i k k e)
        (subst (λ m. comes_first h m (get_or keys i k) ≡ false) (get_or_from_slice_get keys j l k f) far)

    -- what stands between two calls with the same key has that key
    pub same_between : (i j m : ℕ) (a b c : Keyed) → i ≤ j → j ≤ m → slice_get keys i ≡ Some a → slice_get keys j ≡ Some b → slice_get keys m ≡ Some c
        → SameKey h a c → SameKey h b c
    same_between i j m a b c ij jm at bt ct same =
        let before = not_less_by_key b a (in_order i j a b ij at bt) in
        let after = not_less_by_key c b (in_order j m b c jm bt ct) in
        let tie = ties_by_key a c (key_is i a at).keyed (key_is m c ct).keyed same in
        let moved : is_lt (by_key b c) ≡ false = ap is_lt (sym (alike_right by_key_total a c b tie)) ∙ before in
        let equal : by_key b c ≡ Equal = neither (by_key c b) (by_key b c) (by_key_total.antisymm c b) after moved in
        same_from_tie b c (both_tie (nat_cmp b.digest c.digest) (compare_keys h b c) equal).1

    -- calls with the same key rise
    pub calls_rise : (i j : ℕ) (a b : Keyed) → i ≤ j → slice_get keys i ≡ Some a → slice_get keys j ≡ Some b → SameKey h a b → a.call ≤ b.call
    unfolding order_in
    calls_rise i j a b ij at bt same =
        let tie = ties_by_key b a (key_is j b bt).keyed (key_is i a at).keyed (sym same) in
        let t = both_tie (nat_cmp b.digest a.digest) (compare_keys h b a) tie in
        let less = in_order i j a b ij at bt in
        let calls : is_lt (nat_cmp b.call a.call) ≡ false =
        sym (ap (λ o. is_lt (ordering_then o (ordering_then (compare_keys h b a) (nat_cmp b.call a.call)))) t.0
        ∙ ap (λ o. is_lt (ordering_then o (nat_cmp b.call a.call))) t.1) ∙ less in
        not_less b.call a.call calls
      where
        not_less : (m n : ℕ) → is_lt (nat_cmp m n) ≡ false → n ≤ m
        not_less m n e = by (nat_lt m n) refl e
          where
            by : (b : Bool) → nat_lt m n ≡ b → is_lt (cond b Less (cond (m == n) Equal Greater)) ≡ false → n ≤ m
            by true f e = absurd (let z : true ≡ false = e in cc)
            by false f e = grind (arith, nat_tests)
