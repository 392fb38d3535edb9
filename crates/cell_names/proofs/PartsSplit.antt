-- A list of parts whose places rise, split at a place.
use Rattle.std.proofs.Common.{◌++◌, ◌+◌, ◌-◌, ◌<◌, ◌∙◌, ◌∷◌, ◌≡◌, ◌≤◌, [], ℕ, Bool, List, None, Some, ap, append-nil, arith, false, filter, get_or, length}
use Rattle.std.proofs.Common.{nat_le, nat_lt, refl, slice_index_or, suc, sym, take, true, zero}
use Rattle.std.proofs.lemmas.{Bool.Decides.nat_tests, List.Elements.filter-append}
use Rattle.cell_value.specs.Effects.{last_of}
use Rattle.cell_names.specs.{Places.IsRising, Places.IsSplit, Places.is_begun, Places.last_at, declared.places.PlacedPart.PlacedPart}

pub get_or_any : {X : Type 0} (xs : List X) (k : ℕ) (d e : X) → k < length xs → get_or xs k d ≡ get_or xs k e
get_or_any [] k d e h = absurd (omega (arith, h))
get_or_any (x ∷ xs) zero d e h = refl
get_or_any (x ∷ xs) (suc k) d e h = get_or_any xs k d e (omega (arith, h))

begun : (at : ℕ) (part : PlacedPart) → part.place < at + 1 → is_begun at part ≡ true
begun at part h = grind (arith, nat_tests, h)

not_begun : (at : ℕ) (part : PlacedPart) → at + 1 ≤ part.place → is_begun at part ≡ false
not_begun at part h = grind (arith, nat_tests, h)

kept : {X : Type 0} (test : X → Bool) (x : X) (xs : List X) → test x ≡ true → filter test (x ∷ xs) ≡ x ∷ filter test xs
kept test x xs e = simp e refl

dropped : {X : Type 0} (test : X → Bool) (x : X) (xs : List X) → test x ≡ false → filter test (x ∷ xs) ≡ filter test xs
dropped test x xs e = simp e refl

-- none of them has begun
none_begun : (at : ℕ) (parts : List PlacedPart) → ((k : ℕ) (d : PlacedPart) → k < length parts → at + 1 ≤ (slice_index_or parts k d).place)
    → filter (is_begun at) parts ≡ []
none_begun at [] after = refl
none_begun at (x ∷ xs) after =
    dropped (is_begun at) x xs (not_begun at x (after 0 x (omega arith)))
    ∙ none_begun at xs (λ k d h. after (suc k) d (omega (arith, h)))

-- those before the split are the ones that have begun
begun_are_first : (at : ℕ) (parts : List PlacedPart) (n : ℕ) → ((k : ℕ) (d : PlacedPart) → k < n → (slice_index_or parts k d).place < at + 1)
    → ((k : ℕ) (d : PlacedPart) → n ≤ k → k < length parts → at + 1 ≤ (slice_index_or parts k d).place) → filter (is_begun at) parts ≡ take n parts
begun_are_first at parts zero before after = none_begun at parts (λ k d h. after k d (omega arith) h)
begun_are_first at [] (suc n) before after = refl
begun_are_first at (x ∷ xs) (suc n) before after =
    kept (is_begun at) x xs (begun at x (before 0 x (omega arith)))
    ∙ ap (λ l. x ∷ l) (begun_are_first at xs n (λ k d h. before (suc k) d (omega (arith, h)))
    (λ k d h i. after (suc k) d (omega (arith, h)) (omega (arith, i))))

first_by : (at : ℕ) (x : PlacedPart) (xs : List PlacedPart) (n : ℕ) → filter (is_begun at) xs ≡ filter (is_begun at) (take n xs) → (b : Bool)
    → is_begun at x ≡ b
    → filter (is_begun at) (x ∷ xs) ≡ filter (is_begun at) (x ∷ take n xs)
first_by at x xs n rest true e = kept (is_begun at) x xs e ∙ ap (λ l. x ∷ l) rest ∙ sym (kept (is_begun at) x (take n xs) e)
first_by at x xs n rest false e = dropped (is_begun at) x xs e ∙ rest ∙ sym (dropped (is_begun at) x (take n xs) e)

-- where the later ones have not begun, those that have are among the first
only_first : (at : ℕ) (parts : List PlacedPart) (n : ℕ) → ((k : ℕ) (d : PlacedPart) → n ≤ k → k < length parts → at + 1 ≤ (slice_index_or parts k d).place)
    → filter (is_begun at) parts ≡ filter (is_begun at) (take n parts)
only_first at parts zero after = none_begun at parts (λ k d h. after k d (omega arith) h)
only_first at [] (suc n) after = refl
only_first at (x ∷ xs) (suc n) after =
    first_by at x xs n (only_first at xs n (λ k d h i. after (suc k) d (omega (arith, h)) (omega (arith, i)))) (is_begun at x) refl

last_taken : (parts : List PlacedPart) (n : ℕ) (d : PlacedPart) → n < length parts → last_of (take (suc n) parts) ≡ Some (get_or parts n d)
last_taken [] n d h = absurd (omega (arith, h))
last_taken (x ∷ xs) zero d h = refl
last_taken (x ∷ []) (suc n) d h = absurd (omega (arith, h))
last_taken (x ∷ y ∷ ys) (suc n) d h = last_taken (y ∷ ys) n d (omega (arith, h))

pub none_at : (at : ℕ) (parts : List PlacedPart) → IsSplit (at + 1) parts 0 → last_at at parts ≡ None
unfolding last_at
none_at at parts s = ap last_of (begun_are_first at parts 0 s.before s.after)

pub found_at : (at : ℕ) (parts : List PlacedPart) (n : ℕ) (d : PlacedPart) → IsSplit (at + 1) parts (suc n) → last_at at parts ≡ Some (get_or parts n d)
unfolding last_at
found_at at parts n d s = ap last_of (begun_are_first at parts (suc n) s.before s.after) ∙ last_taken parts n d (let h = s.inside in omega (arith, h))

-- the first parts begin before a place, and the last ones there or after it
pub record IsHalved (place : ℕ) (parts : List PlacedPart) (low high : ℕ) : Type 0 where
  pub in_order : low ≤ high
  pub inside : high ≤ length parts
  pub before : (k : ℕ) (d : PlacedPart) → k < low → (slice_index_or parts k d).place < place
  pub after : (k : ℕ) (d : PlacedPart) → high ≤ k → k < length parts → place ≤ (slice_index_or parts k d).place

pub whole : (place : ℕ) (parts : List PlacedPart) → IsHalved place parts 0 (length parts)
whole place parts = record {
  in_order = omega arith;
  inside = omega arith;
  before = λ k d h. absurd (omega (arith, h));
  after = λ k d h i. absurd (omega (arith, h, i));
}

rises_by : (parts : List PlacedPart) → IsRising parts → (k m : ℕ) (d : PlacedPart) → k ≤ m → m < length parts → (b : Bool) → nat_lt k m ≡ b
    → (slice_index_or parts k d).place ≤ (slice_index_or parts m d).place
rises_by parts rising k m d h inside true e =
    let l : k < m = grind (arith, nat_tests, e) in let r = rising k m d l inside in omega (arith, r)
rises_by parts rising k m d h inside false e =
    let s : k ≡ m = grind (arith, nat_tests, e, h) in
    let t : (slice_index_or parts k d).place ≡ (slice_index_or parts m d).place = ap (λ n. (slice_index_or parts n d).place) s in
    omega (arith, t)

-- no part before one begins after it
pub rises_to : (parts : List PlacedPart) → IsRising parts → (k m : ℕ) (d : PlacedPart) → k ≤ m → m < length parts
    → (slice_index_or parts k d).place ≤ (slice_index_or parts m d).place
rises_to parts rising k m d h inside = rises_by parts rising k m d h inside (nat_lt k m) refl

-- one part rises
pub rises_first : (parts : List PlacedPart) (i j : ℕ) (d : PlacedPart) → i < j → j < 1
    → (slice_index_or parts i d).place < (slice_index_or parts j d).place
rises_first parts i j d below end = absurd (omega (arith, below, end))

rises_from : (parts : List PlacedPart) (at : ℕ) (e : PlacedPart) (i : ℕ) (d : PlacedPart) → 1 ≤ at → i < at
    → (slice_index_or parts (at - 1) d).place ≡ (slice_index_or parts (at - 1) e).place
    → (slice_index_or parts at d).place ≡ (slice_index_or parts at e).place
    → (slice_index_or parts (at - 1) e).place < (slice_index_or parts at e).place
    → (i < at - 1 → at - 1 < at → (slice_index_or parts i d).place < (slice_index_or parts (at - 1) d).place)
    → (b : Bool) → nat_lt i (at - 1) ≡ b → (slice_index_or parts i d).place < (slice_index_or parts at d).place
rises_from parts at e i d some below last here less earlier true t =
    let h : i < at - 1 = grind (arith, nat_tests, t) in
    let r = earlier h (omega (arith, some)) in omega (arith, r, last, here, less)
rises_from parts at e i d some below last here less earlier false t =
    let same : i ≡ at - 1 = grind (arith, nat_tests, t, below) in
    let s : (slice_index_or parts i d).place ≡ (slice_index_or parts (at - 1) d).place = ap (λ n. (slice_index_or parts n d).place) same in
    omega (arith, s, last, here, less)

-- the parts before a place in their list rise
abbrev RisesTo : List PlacedPart → (at : ℕ) → Type 0
RisesTo parts at = (i j : ℕ) (d : PlacedPart) → i < j → j < at → (slice_index_or parts i d).place < (slice_index_or parts j d).place

rises_until : (parts : List PlacedPart) (at : ℕ) (e : PlacedPart) → 1 ≤ at → at < length parts
    → (slice_index_or parts (at - 1) e).place < (slice_index_or parts at e).place → RisesTo parts at
    → (i j : ℕ) (d : PlacedPart) → i < j → j < at + 1 → (b : Bool) → nat_lt j at ≡ b
    → (slice_index_or parts i d).place < (slice_index_or parts j d).place
rises_until parts at e some inside less so_far i j d below end true t = so_far i j d below (grind (arith, nat_tests, t))
rises_until parts at e some inside less so_far i j d below end false t =
    let same : j ≡ at = grind (arith, nat_tests, t, end) in
    let s : (slice_index_or parts j d).place ≡ (slice_index_or parts at d).place = ap (λ n. (slice_index_or parts n d).place) same in
    let r = rises_from parts at e i d some (omega (arith, below, same)) (ap (λ x. x.place) (get_or_any parts (at - 1) d e (omega (arith, inside))))
    (ap (λ x. x.place) (get_or_any parts at d e inside)) less (so_far i (at - 1) d) (nat_lt i (at - 1)) refl in
    omega (arith, r, s)

-- and one more, where it begins after the one before it
pub rises_on : (parts : List PlacedPart) (at : ℕ) (e : PlacedPart) → 1 ≤ at → at < length parts
    → (slice_index_or parts (at - 1) e).place < (slice_index_or parts at e).place → RisesTo parts at → RisesTo parts (at + 1)
rises_on parts at e some inside less so_far = λ i j d below end. rises_until parts at e some inside less so_far i j d below end (nat_lt j at) refl

pub go_up : (place : ℕ) (parts : List PlacedPart) (low high middle : ℕ) (d : PlacedPart) → IsRising parts → IsHalved place parts low high → middle < high
    → (slice_index_or parts middle d).place < place → IsHalved place parts (middle + 1) high
go_up place parts low high middle d rising so_far below less =
    let inside : middle < length parts = let i = so_far.inside in omega (arith, i, below) in
    record {
      in_order = omega (arith, below);
      inside = so_far.inside;
      before = λ k e h.
          let m : slice_index_or parts middle e ≡ slice_index_or parts middle d = get_or_any parts middle e d inside in
          let r = rises_to parts rising k middle e (omega (arith, h)) inside in
          let s : (slice_index_or parts middle e).place ≡ (slice_index_or parts middle d).place = ap (λ x. x.place) m in
          omega (arith, r, s, less);
      after = so_far.after;
    }

pub go_down : (place : ℕ) (parts : List PlacedPart) (low high middle : ℕ) (d : PlacedPart) → IsRising parts → IsHalved place parts low high → low ≤ middle
    → middle < high → place ≤ (slice_index_or parts middle d).place → IsHalved place parts low middle
go_down place parts low high middle d rising so_far above below least =
    let inside : middle < length parts = let i = so_far.inside in omega (arith, i, below) in
    record {
      in_order = above;
      inside = omega (arith, inside);
      before = so_far.before;
      after = λ k e h i.
          let m : slice_index_or parts middle e ≡ slice_index_or parts middle d = get_or_any parts middle e d inside in
          let r = rises_to parts rising middle k e h i in
          let s : (slice_index_or parts middle e).place ≡ (slice_index_or parts middle d).place = ap (λ x. x.place) m in
          omega (arith, r, s, least);
    }

pub split_found : (place : ℕ) (parts : List PlacedPart) (low high : ℕ) → IsHalved place parts low high → high ≤ low → IsSplit place parts low
split_found place parts low high so_far met = record {
  inside = let o = so_far.in_order in let i = so_far.inside in omega (arith, o, i);
  before = so_far.before;
  after = λ k d h i. so_far.after k d (omega (arith, met, h)) i;
}

pub none_by : (at : ℕ) (parts slice : List PlacedPart) (place n : ℕ) → slice ≡ parts → place ≡ at → IsSplit (place + 1) slice n → n ≡ 0
    → None ≡ last_at at parts
none_by at parts slice place n e f s z =
    let t : IsSplit (at + 1) parts 0 = rw (← e, ← f, ← z) s in sym (none_at at parts t)

pub found_by : (at : ℕ) (parts slice : List PlacedPart) (place n : ℕ) (x : PlacedPart) → slice ≡ parts → place ≡ at → IsSplit (place + 1) slice n → (n ≡ 0 → ⊥)
    → x ≡ get_or parts (n - 1) x → Some x ≡ last_at at parts
found_by at parts slice place n x e f s some is =
    let m : n ≡ suc (n - 1) = omega (arith, some) in
    let t : IsSplit (at + 1) parts (suc (n - 1)) = rw (← e, ← f, ← m) s in
    ap Some is ∙ sym (found_at at parts (n - 1) x t)

pub last_pushed : {X : Type 0} (xs : List X) (x : X) → last_of (xs ++ x ∷ []) ≡ Some x
last_pushed [] x = refl
last_pushed (y ∷ []) x = refl
last_pushed (y ∷ z ∷ zs) x = last_pushed (z ∷ zs) x

-- a part that has begun is the last of all
begun_last : (at : ℕ) (parts : List PlacedPart) (part : PlacedPart) → is_begun at part ≡ true → last_at at (parts ++ part ∷ []) ≡ Some part
unfolding last_at
begun_last at parts part e =
    ap last_of (filter-append (is_begun at) parts (part ∷ []) ∙ ap (λ l. filter (is_begun at) parts ++ l) (kept (is_begun at) part [] e))
    ∙ last_pushed (filter (is_begun at) parts) part

-- one that has not begun is none of them
not_begun_last : (at : ℕ) (parts : List PlacedPart) (part : PlacedPart) → is_begun at part ≡ false → last_at at (parts ++ part ∷ []) ≡ last_at at parts
unfolding last_at
not_begun_last at parts part e =
    ap last_of (filter-append (is_begun at) parts (part ∷ []) ∙ ap (λ l. filter (is_begun at) parts ++ l) (dropped (is_begun at) part [] e)
    ∙ append-nil (filter (is_begun at) parts))

none_later : (at : ℕ) (parts : List PlacedPart) (n place : ℕ) → IsSplit place parts n → at < place → last_at at (take n parts) ≡ last_at at parts
unfolding last_at
none_later at parts n place s below = ap last_of (sym (only_first at parts n (λ k d h i. let a = s.after k d h i in omega (arith, a, below))))

pushed_by : (parts : List PlacedPart) (n : ℕ) (part : PlacedPart) → IsSplit part.place parts n → (at : ℕ) (b : Bool) → is_begun at part ≡ b
    → last_at at (take n parts ++ part ∷ []) ≡ last_at at (parts ++ part ∷ [])
pushed_by parts n part s at true e = begun_last at (take n parts) part e ∙ sym (begun_last at parts part e)
pushed_by parts n part s at false e =
    let below : at < part.place = grind (arith, nat_tests, e) in
    not_begun_last at (take n parts) part e ∙ none_later at parts n part.place s below ∙ sym (not_begun_last at parts part e)

-- one more part after those that begin before it: parts that begin there or after it are not found any more
pub pushed : (parts slice : List PlacedPart) (place n : ℕ) (part : PlacedPart) → slice ≡ parts → place ≡ part.place → IsSplit place slice n
    → (at : ℕ) → last_at at (take n parts ++ part ∷ []) ≡ last_at at (parts ++ part ∷ [])
pushed parts slice place n part e f s at =
    let t : IsSplit part.place parts n = rw (← e, ← f) s in pushed_by parts n part t at (nat_le part.place at) refl

-- where one part begins before a place, so do those before it
pub before_all : (parts : List PlacedPart) (count place : ℕ) (d : PlacedPart) → IsRising parts → count ≤ length parts → (count ≡ 0 → ⊥)
    → (slice_index_or parts (count - 1) d).place < place → (k : ℕ) (e : PlacedPart) → k < count → (slice_index_or parts k e).place < place
before_all parts count place d rising inside some less k e below =
    let within : count - 1 < length parts = omega (arith, inside, some) in
    let r = rises_to parts rising k (count - 1) e (omega (arith, below)) within in
    let s : (slice_index_or parts (count - 1) e).place ≡ (slice_index_or parts (count - 1) d).place =
    ap (λ y. y.place) (get_or_any parts (count - 1) e d within) in
    omega (arith, r, s, less)

-- where one part begins at a place or after it, so do those after it
pub after_all : (parts : List PlacedPart) (count place : ℕ) (d : PlacedPart) → IsRising parts → count < length parts
    → place ≤ (slice_index_or parts count d).place → (k : ℕ) (e : PlacedPart) → count ≤ k → k < length parts → place ≤ (slice_index_or parts k e).place
after_all parts count place d rising inside least k e above within =
    let r = rises_to parts rising count k e above within in
    let s : (slice_index_or parts count e).place ≡ (slice_index_or parts count d).place = ap (λ y. y.place) (get_or_any parts count e d inside) in
    omega (arith, r, s, least)

-- up to where the next part begins as many parts have begun
pub still_split : (parts : List PlacedPart) (at k n : ℕ) (d : PlacedPart) → IsRising parts → IsSplit (at + 1) parts n → n < length parts
    → k ≤ ((slice_index_or parts n d).place - at) - 1 → IsSplit ((at + k) + 1) parts n
still_split parts at k n d rising s inside below = record {
  inside = s.inside;
  before = λ j e h. let b = s.before j e h in omega (arith, b);
  after = after_all parts n ((at + k) + 1) d rising inside (let room = s.after n d (omega arith) inside in omega (arith, below, room));
}

-- which part has these places
pub none_near : (at more n : ℕ) (parts slice : List PlacedPart) → slice ≡ parts → ((k : ℕ) → k ≤ more → IsSplit ((at + k) + 1) slice n) → n ≡ 0
    → (k : ℕ) → k ≤ more → last_at (at + k) parts ≡ None
none_near at more n parts slice e s z k below = sym (none_by (at + k) parts slice (at + k) n e refl (s k below) z)

pub found_near : (at more n : ℕ) (parts slice : List PlacedPart) (x : PlacedPart) → slice ≡ parts
    → ((k : ℕ) → k ≤ more → IsSplit ((at + k) + 1) slice n) → (n ≡ 0 → ⊥) → x ≡ get_or parts (n - 1) x
    → (k : ℕ) → k ≤ more → last_at (at + k) parts ≡ Some x
found_near at more n parts slice x e s some is k below = sym (found_by (at + k) parts slice (at + k) n x e refl (s k below) some is)
