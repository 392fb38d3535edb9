-- Calls that lie in one another as in a forest, and what follows of their numbers.
use Rattle.std.proofs.Common.{◌++◌, ◌+◌, ◌-◌, ◌<◌, ◌∙◌, ◌∷◌, ◌≡◌, ◌≤◌, [], ℕ, Bool, List, Some, ap, arith, cond, false, get_or, length, length-append, refl}
use Rattle.std.proofs.Common.{subst, suc, sym, true, zero}
use Rattle.std.proofs.Math.{Dec.leb, ListN.get_or-append, Seq.get_or-append_right}
use Rattle.std.proofs.lemmas.Bool.{le-leb, leb-false, leb-true, lt-leb}
use Rattle.core_program.specs.Numbering.{Child, InSubtree, Inside, Root, count, depth_of, greatest, is_below, last_below, parent_of}

-- tests that say the same
pub same_test : (a b c d : ℕ) → (a ≤ b → c ≤ d) → (b < a → d < c) → leb a b ≡ leb c d
same_test a b c d f g = go (leb a b) refl
  where
    go : (t : Bool) → leb a b ≡ t → t ≡ leb c d
    go true e = sym (le-leb c d (f (leb-true a b e)))
    go false e = sym (lt-leb c d (g (leb-false a b e)))

pub count_same : (p q : ℕ → Bool) (n : ℕ) → ((j : ℕ) → j < n → p j ≡ q j) → count p n ≡ count q n
count_same p q zero h = refl
count_same p q (suc n) h =
    ap (λ b. cond b 1 0 + count p n) (h n (omega arith)) ∙ ap (λ m. cond (q n) 1 0 + m) (count_same p q n (λ j k. h j (omega arith)))

pub record Forest (bs : List ℕ) : Type 0 where
  pub inside : (k : ℕ) → k < length bs → last_below bs k < length bs
  pub nested : (j k : ℕ) → k < length bs → j ≤ k → k ≤ last_below bs j → last_below bs k ≤ last_below bs j

pub forest_none : Forest []
forest_none = record { inside = λ k h. absurd (omega arith); nested = λ j k h a b. absurd (omega arith) }

left_last : (bs cs : List ℕ) (k : ℕ) → k < length bs → last_below (bs ++ cs) k ≡ last_below bs k
left_last bs cs k h = ap (λ g. k + g) (get_or-append bs cs 0 k h)

right_last : (bs cs : List ℕ) (k : ℕ) → length bs ≤ k → last_below (bs ++ cs) k ≡ length bs + last_below cs (k - length bs)
right_last bs cs k h = ap (λ g. k + g) (get_or-append_right bs cs k 0 h) ∙ (let x : k + get_or cs (k - length bs) 0
    ≡ length bs + (k - length bs + get_or cs (k - length bs) 0) = omega arith in x)

pub within_append : (bs cs : List ℕ) → Inside bs → Inside cs → Inside (bs ++ cs)
within_append bs cs f g = record { inside = λ k h. in_k k h (leb (length bs) k) refl }
  where
    size : length (bs ++ cs) ≡ length bs + length cs
    size = length-append bs cs

    in_k : (k : ℕ) → k < length (bs ++ cs) → (t : Bool) → leb (length bs) k ≡ t → last_below (bs ++ cs) k < length (bs ++ cs)
    in_k k h true e = let m = leb-true _ _ e in let l = right_last bs cs k m in let x = g.inside (k - length bs) (omega (arith, size)) in
        omega (arith, size, l, x)
    in_k k h false e = let m = leb-false _ _ e in let l = left_last bs cs k m in let x = f.inside k m in omega (arith, size, l, x)

pub within_call : (b : ℕ) (bs : List ℕ) → b ≡ length bs → Inside bs → Inside (b ∷ bs)
within_call b bs e f = record { inside = in_k }
  where
    in_k : (k : ℕ) → k < length (b ∷ bs) → last_below (b ∷ bs) k < length (b ∷ bs)
    in_k zero h = omega arith
    in_k (suc k) h = let x = f.inside k (omega arith) in omega (arith, x)

pub forest_append : (bs cs : List ℕ) → Forest bs → Forest cs → Forest (bs ++ cs)
forest_append bs cs f g = record {
  inside = λ k h. (within_append bs cs (within f) (within g)).inside k h;
  nested = λ j k h a b. nest j k h a b (leb (length bs) j) refl (leb (length bs) k) refl;
}
  where
    size : length (bs ++ cs) ≡ length bs + length cs
    size = length-append bs cs

    within : {ds : List ℕ} → Forest ds → Inside ds
    within f = record { inside = λ k h. f.inside k h }

    nest : (j k : ℕ) → k < length (bs ++ cs) → j ≤ k → k ≤ last_below (bs ++ cs) j → (t : Bool) → leb (length bs) j ≡ t → (u : Bool) → leb (length bs) k ≡ u
        → last_below (bs ++ cs) k ≤ last_below (bs ++ cs) j
    nest j k h a b true e u e' =
        let m = leb-true _ _ e in
        let lj = right_last bs cs j m in
        let lk = right_last bs cs k (omega arith) in
        let x = g.nested (j - length bs) (k - length bs) (omega (arith, size)) (omega arith) (omega (arith, lj)) in
        omega (arith, lj, lk, x)
    nest j k h a b false e true e' =
        let m = leb-false _ _ e in
        let n = leb-true _ _ e' in
        let lj = left_last bs cs j m in
        let x = f.inside j m in
        absurd (omega (arith, lj, x, n))
    nest j k h a b false e false e' =
        let m = leb-false _ _ e in
        let n = leb-false _ _ e' in
        let lj = left_last bs cs j m in
        let lk = left_last bs cs k n in
        let x = f.nested j k n a (omega (arith, lj)) in
        omega (arith, lj, lk, x)

pub forest_call : (b : ℕ) (bs : List ℕ) → b ≡ length bs → Forest bs → Forest (b ∷ bs)
forest_call b bs e f = record { inside = λ k h. (within_call b bs e (record { inside = λ k h. f.inside k h })).inside k h; nested = nest }
  where
    nest : (j k : ℕ) → k < length (b ∷ bs) → j ≤ k → k ≤ last_below (b ∷ bs) j → last_below (b ∷ bs) k ≤ last_below (b ∷ bs) j
    nest zero zero h a c = omega arith
    nest zero (suc k) h a c = let x = f.inside k (omega arith) in omega (arith, x)
    nest (suc j) zero h a c = absurd (omega arith)
    nest (suc j) (suc k) h a c = let x = f.nested j k (omega arith) (omega arith) (omega arith) in omega (arith, x)

-- what the greatest number that passes is
pub greatest_is : (p : ℕ → Bool) (n m : ℕ) → greatest p n ≡ Some m → (m < n) × (p m ≡ true) × ((i : ℕ) → m < i → i < n → p i ≡ false)
greatest_is p zero m e = absurd (let x : ⊥ = cc in x)
greatest_is p (suc n) m e = go (greatest_is p n m) (p n) refl e
  where
    go : (greatest p n ≡ Some m → (m < n) × (p m ≡ true) × ((i : ℕ) → m < i → i < n → p i ≡ false)) → (b : Bool) → p n ≡ b
        → cond b (Some n) (greatest p n) ≡ Some m → (m < suc n) × (p m ≡ true) × ((i : ℕ) → m < i → i < suc n → p i ≡ false)
    go ih true q e = let x : n ≡ m = cc in (omega arith, ap p (sym x) ∙ q, λ i a b. absurd (omega arith))
    go ih false q e =
        let x = ih e in
        (let y = x.0 in omega (arith, y), x.1, λ i a b. last i a b (leb n i) refl)
      where
        last : (i : ℕ) → m < i → i < suc n → (t : Bool) → leb n i ≡ t → p i ≡ false
        last i a b true t = let u = leb-true _ _ t in ap p (let x : i ≡ n = omega (arith, u) in x) ∙ q
        last i a b false t = let u = leb-false _ _ t in (ih e).2 i a u

pub greatest_from : (p : ℕ → Bool) (n i : ℕ) → i < n → p i ≡ true → (m : ℕ) × ((greatest p n ≡ Some m) × (i ≤ m))
greatest_from p zero i h e = absurd (omega arith)
greatest_from p (suc n) i h e = go (λ k. greatest_from p n i k e) (p n) refl
  where
    below : p n ≡ false → i < n
    below q = apart (leb n i) refl
      where
        apart : (t : Bool) → leb n i ≡ t → i < n
        apart true t = let u = leb-true _ _ t in let x : i ≡ n = omega (arith, u) in let y : true ≡ false = sym e ∙ ap p x ∙ q in absurd (let z : ⊥ = cc in z)
        apart false t = leb-false _ _ t

    go : (i < n → (m : ℕ) × ((greatest p n ≡ Some m) × (i ≤ m))) → (b : Bool) → p n ≡ b → (m : ℕ) × ((cond (p n) (Some n) (greatest p n) ≡ Some m) × (i ≤ m))
    go ih true q = (n, (ap (λ b. cond b (Some n) (greatest p n)) q, omega arith))
    go ih false q = let x = ih (below q) in (x.0, (ap (λ b. cond b (Some n) (greatest p n)) q ∙ x.1.0, x.1.1))

pub count_top : (p : ℕ → Bool) (n m : ℕ) → m < n → p m ≡ true → ((i : ℕ) → m < i → i < n → p i ≡ false) → count p n ≡ count p m + 1
count_top p zero m h e f = absurd (omega arith)
count_top p (suc n) m h e f = go (λ u. count_top p n m u e (λ i a b. f i a (omega arith))) (leb n m) refl
  where
    go : (m < n → count p n ≡ count p m + 1) → (t : Bool) → leb n m ≡ t → count p (suc n) ≡ count p m + 1
    go ih true t =
        let u = leb-true _ _ t in let x : n ≡ m = omega (arith, u) in
        ap (λ j. cond (p j) 1 0 + count p j) x ∙ ap (λ b. cond b 1 0 + count p m) e ∙ (let y : 1 + count p m ≡ count p m + 1 = omega arith in y)
    go ih false t =
        let u = leb-false _ _ t in
        ap (λ b. cond b 1 0 + count p n) (f n u (omega arith)) ∙ (let y = ih u in let z : 0 + count p n ≡ count p m + 1 = omega (arith, y) in z)

module _ (bs : List ℕ) (f : Forest bs) where
  -- the subtree of a call is an interval
  pub subtree_in : (k j : ℕ) → k < length bs → InSubtree bs k j → (k ≤ j) × (j ≤ last_below bs k)
  subtree_in k _ h Root = (omega arith, omega arith)
  subtree_in k _ h (Child j parent e s) =
      let x = subtree_in k parent h s in
      let y = greatest_is (is_below bs j) j parent e in
      let z = leb-true _ _ y.1 in
      let i = f.inside k h in
      let n = f.nested k parent (let a = x.1 in omega (arith, a, i)) x.0 x.1 in
      (let a = x.0 in let b = y.0 in omega (arith, a, b), omega (arith, z, n))

  upward : (n k j : ℕ) → j ≤ n → k ≤ j → j ≤ last_below bs k → InSubtree bs k j
  upward zero k j h a b = subst (λ i. InSubtree bs k i) (let x : k ≡ j = omega arith in x) Root
  upward (suc n) k j h a b = go (upward n k) (leb j k) refl
    where
      go : ((i : ℕ) → i ≤ n → k ≤ i → i ≤ last_below bs k → InSubtree bs k i) → (t : Bool) → leb j k ≡ t → InSubtree bs k j
      go ih true t = let u = leb-true _ _ t in subst (λ i. InSubtree bs k i) (let x : k ≡ j = omega (arith, u) in x) Root
      go ih false t =
          let u = leb-false _ _ t in
          let x = greatest_from (is_below bs j) j k u (le-leb j (last_below bs k) b) in
          let y = greatest_is (is_below bs j) j x.0 x.1.0 in
          Child j x.0 x.1.0 (ih x.0 (let c = y.0 in omega (arith, c)) x.1.1 (let c = y.0 in omega (arith, c)))

  pub subtree_of : (k j : ℕ) → k ≤ j → j ≤ last_below bs k → InSubtree bs k j
  subtree_of k j a b = upward j k j (omega arith) a b

  -- each call but the first has a parent before it, one less deep
  pub parent_is : (k : ℕ) → 0 < k → k < length bs → last_below bs 0 + 1 ≡ length bs
      → (j : ℕ) × ((parent_of bs k ≡ Some j) × (j < k) × (depth_of bs k ≡ depth_of bs j + 1))
  parent_is k a h r =
      let x = greatest_from (is_below bs k) k 0 a (le-leb k (last_below bs 0) (omega arith)) in
      let y = greatest_is (is_below bs k) k x.0 x.1.0 in
      (x.0, (x.1.0, y.0, count_top (is_below bs k) k x.0 y.0 y.1 y.2 ∙ ap (λ n. n + 1) (count_same _ _ x.0 (λ i b. test x.0 i y.0 (leb-true _ _ y.1) b))))
    where
      test : (j i : ℕ) → j < k → k ≤ last_below bs j → i < j → is_below bs k i ≡ is_below bs j i
      test j i b c d = same_test k (last_below bs i) j (last_below bs i) (λ u. omega arith) (λ u. other u (leb j (last_below bs i)) refl)
        where
          other : last_below bs i < k → (t : Bool) → leb j (last_below bs i) ≡ t → last_below bs i < j
          other u true t = let v = leb-true _ _ t in let n = f.nested i j (omega arith) (omega arith) v in absurd (omega (arith, n))
          other u false t = leb-false _ _ t
