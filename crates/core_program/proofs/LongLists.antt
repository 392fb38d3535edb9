-- One item more in front of the long lists.
use Rattle.std.proofs.Common.{if◌then◌else◌, ◌&&◌, ◌+◌, ◌<◌, ◌∙◌, ◌≡◌, ◌≤◌, ℕ, ℤ, BTreeMap, Bool, Equal, Greater, Less, List, None, Option, Ordering, Some, ap}
use Rattle.std.proofs.Common.{arith, cond, eq-eqb, false, inl, inr, int_cmp, int_eq, is_eq, length, length-set, lt-ltb, nat_cmp, nat_eq, nat_lt, refl}
use Rattle.std.proofs.Common.{replicate, slice_set, subst, suc, sym, true, unwrap_or, zero}
use Rattle.std.proofs.lemmas.{Bool.cases_Bool, Bool.cases_eq, Bool.cases_lt, Bool.Decides.Decides-eqb, List.length-replicate, Option.slice_get_past}
use Rattle.std.specs.{BTreeMap.IsEmpty, BTreeMap.Updates, BTreeMap.is_at, Cmp.unsigned_tied, Map.lookup, Ordering.ordering_then}
use Rattle.core_program.proofs.{ItemsInOrder.one_item, ListsClassed.class_beside, ListsClassed.class_set}
use Rattle.core_program.specs.{Choices.Sought, Choices.on_to, ProgramRows.ProgramRows, declared.search.ListItem.ListItem, declared.search.ListKind.ListKind}
use Rattle.core_program.specs.Lists.{Added, AreLong, LongFrom, found_at, is_key, item_at, key_cmp, looked, or_in_tail, sought_along, tail_at}

-- ---- tests

if_both : (a b : Bool) (x y : Option ℕ) → b ≡ true → (if a && b then x else y) ≡ (if a then x else y)
if_both true true x y h = refl
if_both false b x y h = refl
if_both true false x y h = absurd (let q : ⊥ = cc in q)

if_not_second : (a b : Bool) (x y : Option ℕ) → b ≡ false → (if a && b then x else y) ≡ y
if_not_second false b x y h = refl
if_not_second true false x y h = refl
if_not_second true true x y h = absurd (let q : ⊥ = cc in q)

by_item : (b : Bool) (found : ℕ) (o : Option ℕ) (rest : Sought)
    → (if b then Some (Some found) else or_in_tail o rest) ≡ or_in_tail (if b then Some found else o) rest
by_item true found o rest = refl
by_item false found o rest = refl

not_equal : (a b : ℕ) → (a ≡ b → ⊥) → nat_eq a b ≡ false
not_equal a b ne = elim (cases_Bool (nat_eq a b)) [ inl t ↦ absurd (ne ((Decides-eqb a b).0 t)) | inr f ↦ f ]

goes_on : (at next : ℕ) (go : ℕ → Sought) → at < next → on_to at next go ≡ go next
goes_on at next go l =
    ap (λ b. if b then Some None else if nat_lt at next then go next else None) (not_equal next 0 (λ e. absurd (omega (arith, l, e))))
    ∙ ap (λ b. if b then go next else None) (lt-ltb at next l)

not_none : (t : ℕ) → (t ≡ 0 → ⊥) → 0 < t
not_none t ne = elim (cases_lt 0 t) [ inl l ↦ l | inr l ↦ absurd (ne (omega (arith, l))) ]

inside : (tails : List ℕ) (a : ℕ) → 0 < tail_at tails a → a < length tails
inside tails a h = elim (cases_lt a (length tails)) [
  | inl l ↦ l
  | inr l ↦ let e : tail_at tails a ≡ 0 = ap (λ o. unwrap_or o 0) (slice_get_past tails a (omega (arith, l))) in absurd (omega (arith, h, e))
]

module _ (p : ProgramRows) (kind : ListKind) where
  abbrev Told : (found : ℕ → ℤ → Option ℕ) (tail first : ℕ) → ℤ → Type 0
  Told found tail first wanted = sought_along p kind (length p.rows) first wanted
      ≡ or_in_tail (found tail wanted) (sought_along p kind (length p.rows) tail wanted)

  module _ (at : ℕ) (tails : List ℕ) (found : ℕ → ℤ → Option ℕ) (k : LongFrom p kind (at + 1) tails found) where
    later_now : (a : ℕ) → 0 < tail_at tails a → at < tail_at tails a
    later_now a h = let l : at + 1 ≤ tail_at tails a = k.later a h in omega (arith, l)

    -- no item of such a list stands at the row, or its list is short
    pub as_before : LongFrom p kind at tails found
    as_before = record {
      size = k.size;
      lists = k.lists;
      apart = k.apart;
      rows = λ a h. let l : at + 1 ≤ a = k.rows a h in omega (arith, l);
      later = λ a h. let l : at < tail_at tails a = later_now a h in omega (arith, l);
      fresh = λ tail wanted l. k.fresh tail wanted (omega (arith, l));
    }

    -- ---- a long list whose items are all in its tail

    module _ (there : at < length p.rows) where
      within : at < length tails
      within = subst (λ n. at < n) (sym k.size) there

      own : tail_at (slice_set tails at at) at ≡ at
      own = class_set tails at at within

      others : (a : ℕ) → (a ≡ at → ⊥) → tail_at (slice_set tails at at) a ≡ tail_at tails a
      others a ne = class_beside tails at at a ne

      begun_told : (first : ℕ) (wanted : ℤ) → 0 < tail_at (slice_set tails at at) first
          → Told found (tail_at (slice_set tails at at) first) first wanted
      begun_told first wanted h = elim (cases_eq first at) [
        | inl e ↦ subst (λ a. Told found (tail_at (slice_set tails at at) a) a wanted) (sym e) (subst (λ t. Told found t at wanted) (sym own)
            (sym (ap (λ o. or_in_tail o (sought_along p kind (length p.rows) at wanted)) (k.fresh at wanted (omega arith)))))
        | inr ne ↦ subst (λ t. Told found t first wanted) (sym (others first ne)) (k.lists first wanted (subst (λ t. 0 < t) (others first ne) h))
      ]

      begun_later : (a : ℕ) → 0 < tail_at (slice_set tails at at) a → (a ≡ at → ⊥) → at < tail_at (slice_set tails at at) a
      begun_later a h ne = subst (λ t. at < t) (sym (others a ne)) (later_now a (subst (λ t. 0 < t) (others a ne) h))

      begun_apart : (a b : ℕ) → 0 < tail_at (slice_set tails at at) a → tail_at (slice_set tails at at) a ≡ tail_at (slice_set tails at at) b → a ≡ b
      begun_apart a b h e = elim (cases_eq a at) [
        | inl x ↦ elim (cases_eq b at) [
          | inl y ↦ x ∙ sym y
          | inr y ↦
              let u : tail_at (slice_set tails at at) a ≡ at = ap (tail_at (slice_set tails at at)) x ∙ own in
              let l : at < tail_at (slice_set tails at at) b = begun_later b (subst (λ t. 0 < t) e h) y in
              absurd (omega (arith, u, l, e))
        ]
        | inr x ↦ elim (cases_eq b at) [
          | inl y ↦
              let u : tail_at (slice_set tails at at) b ≡ at = ap (tail_at (slice_set tails at at)) y ∙ own in
              let l : at < tail_at (slice_set tails at at) a = begun_later a h x in
              absurd (omega (arith, u, l, e))
          | inr y ↦ k.apart a b (subst (λ t. 0 < t) (others a x) h) (sym (others a x) ∙ e ∙ others b y)
        ]
      ]

      pub begun : LongFrom p kind at (slice_set tails at at) found
      begun = record {
        size = length-set tails at at ∙ k.size;
        lists = begun_told;
        rows = λ a h. elim (cases_eq a at) [
          | inl x ↦ omega (arith, x)
          | inr x ↦ let l : at + 1 ≤ a = k.rows a (subst (λ t. 0 < t) (others a x) h) in omega (arith, l)
        ];
        apart = begun_apart;
        later = λ a h. elim (cases_eq a at) [
          | inl x ↦ let u : tail_at (slice_set tails at at) a ≡ at = ap (tail_at (slice_set tails at at)) x ∙ own in omega (arith, u)
          | inr x ↦ let l : at < tail_at (slice_set tails at at) a = begun_later a h x in omega (arith, l)
        ];
        fresh = λ tail wanted l. k.fresh tail wanted (omega (arith, l));
      }

    -- ---- an item in front of a long list

    module _ (there : at < length p.rows) (item : ListItem) (is : item_at p kind at ≡ Some item) (old : 0 < tail_at tails item.next)
        (found' : ℕ → ℤ → Option ℕ) (add : Added (tail_at tails item.next) item found found') where
      rises : at < item.next
      rises = let l : at + 1 ≤ item.next = k.rows item.next old in omega (arith, l)

      abbrev tail : ℕ
      tail = tail_at tails item.next

      abbrev taken : List ℕ
      taken = slice_set tails at (tail_at tails item.next)

      abbrev after : List ℕ
      after = slice_set (slice_set tails at (tail_at tails item.next)) item.next 0

      in_front : tail_at after at ≡ tail
      in_front = class_beside taken item.next 0 at (λ e. absurd (omega (arith, rises, e)))
          ∙ class_set tails at tail (subst (λ n. at < n) (sym k.size) there)

      behind : tail_at after item.next ≡ 0
      behind = class_set taken item.next 0 (subst (λ n. item.next < n) (sym (length-set tails at tail)) (inside tails item.next old))

      beside : (a : ℕ) → (a ≡ at → ⊥) → (a ≡ item.next → ⊥) → tail_at after a ≡ tail_at tails a
      beside a x y = class_beside taken item.next 0 a y ∙ class_beside tails at tail a x

      not_next : (a : ℕ) → 0 < tail_at after a → a ≡ item.next → ⊥
      not_next a h e = let z : tail_at after a ≡ 0 = ap (tail_at after) e ∙ behind in absurd (omega (arith, h, z))

      was : (a : ℕ) → 0 < tail_at after a → (a ≡ at → ⊥) → 0 < tail_at tails a
      was a h x = subst (λ t. 0 < t) (beside a x (not_next a h)) h

      -- the tail is of no other list
      other_tail : (a : ℕ) → 0 < tail_at after a → (a ≡ at → ⊥) → tail ≡ tail_at after a → ⊥
      other_tail a h x e = absurd (not_next a h (sym (k.apart item.next a old (e ∙ beside a x (not_next a h)))))

      front_told : (wanted : ℤ) → Told found' tail at wanted
      front_told wanted =
          one_item p wanted kind at
          ∙ ap (λ o. looked at o wanted (λ next. sought_along p kind (length p.rows) next wanted)) is
          ∙ ap (λ s. if is_key item.key wanted then Some (Some item.found) else s)
          (goes_on at item.next (λ next. sought_along p kind (length p.rows) next wanted) rises ∙ k.lists item.next wanted old)
          ∙ by_item (is_key item.key wanted) item.found (found tail wanted) (sought_along p kind (length p.rows) tail wanted)
          ∙ ap (λ o. or_in_tail o (sought_along p kind (length p.rows) tail wanted))
          (sym (add tail wanted ∙ if_both (is_key item.key wanted) (nat_eq tail tail) (Some item.found) (found tail wanted) (eq-eqb tail tail refl)))

      other_told : (first : ℕ) (wanted : ℤ) → 0 < tail_at after first → (first ≡ at → ⊥) → Told found' (tail_at after first) first wanted
      other_told first wanted h x =
          let e : tail_at after first ≡ tail_at tails first = beside first x (not_next first h) in
          subst (λ t. Told found t first wanted) (sym e) (k.lists first wanted (was first h x))
          ∙ ap (λ o. or_in_tail o (sought_along p kind (length p.rows) (tail_at after first) wanted))
          (sym (add (tail_at after first) wanted ∙ if_not_second (is_key item.key wanted) (nat_eq tail (tail_at after first)) (Some item.found)
          (found (tail_at after first) wanted) (not_equal tail (tail_at after first) (other_tail first h x))))

      front_lists : AreLong p kind after found'
      front_lists first wanted h = elim (cases_eq first at) [
        | inl e ↦ subst (λ a. Told found' (tail_at after a) a wanted) (sym e) (subst (λ t. Told found' t at wanted) (sym in_front) (front_told wanted))
        | inr x ↦ other_told first wanted h x
      ]

      front_apart : (a b : ℕ) → 0 < tail_at after a → tail_at after a ≡ tail_at after b → a ≡ b
      front_apart a b h e = elim (cases_eq a at) [
        | inl x ↦ elim (cases_eq b at) [
          | inl y ↦ x ∙ sym y
          | inr y ↦ absurd (other_tail b (subst (λ t. 0 < t) e h) y (sym (ap (tail_at after) x ∙ in_front) ∙ e))
        ]
        | inr x ↦ elim (cases_eq b at) [
          | inl y ↦ absurd (other_tail a h x (sym (ap (tail_at after) y ∙ in_front) ∙ sym e))
          | inr y ↦
              let hb : 0 < tail_at after b = subst (λ t. 0 < t) e h in
              k.apart a b (was a h x) (sym (beside a x (not_next a h)) ∙ e ∙ beside b y (not_next b hb))
        ]
      ]

      front_later : (a : ℕ) → 0 < tail_at after a → at ≤ tail_at after a
      front_later a h = elim (cases_eq a at) [
        | inl x ↦
            let u : tail_at after a ≡ tail = ap (tail_at after) x ∙ in_front in
            let l : at < tail = later_now item.next old in
            omega (arith, u, l)
        | inr x ↦
            let u : tail_at after a ≡ tail_at tails a = beside a x (not_next a h) in
            let l : at < tail_at tails a = later_now a (was a h x) in
            omega (arith, u, l)
      ]

      front_fresh : (t : ℕ) (wanted : ℤ) → t < at → found' t wanted ≡ None
      front_fresh t wanted l =
          let m : at < tail = later_now item.next old in
          add t wanted ∙ if_not_second (is_key item.key wanted) (nat_eq tail t) (Some item.found) (found t wanted)
          (not_equal tail t (λ e. absurd (omega (arith, l, m, e)))) ∙ k.fresh t wanted (omega (arith, l))

      pub in_front_of : LongFrom p kind at after found'
      in_front_of = record {
        size = length-set taken item.next 0 ∙ length-set tails at tail ∙ k.size;
        lists = front_lists;
        rows = λ a h. elim (cases_eq a at) [
          | inl x ↦ omega (arith, x)
          | inr x ↦ let l : at + 1 ≤ a = k.rows a (was a h x) in omega (arith, l)
        ];
        apart = front_apart;
        later = front_later;
        fresh = front_fresh;
      }

    -- the same, by what the code says
    pub begun_by : (tails' : List ℕ) → at < length p.rows → tails' ≡ slice_set tails at at → LongFrom p kind at tails' found
    begun_by tails' there e = subst (λ ts. LongFrom p kind at ts found) (sym e) (begun there)

    pub joined_by : (tails' : List ℕ) (found' : ℕ → ℤ → Option ℕ) (item : ListItem) (t : ℕ) → at < length p.rows → item_at p kind at ≡ Some item
        → t ≡ tail_at tails item.next → (t ≡ 0 → ⊥) → Added t item found found' → tails' ≡ slice_set (slice_set tails at t) item.next 0
        → LongFrom p kind at tails' found'
    joined_by tails' found' item t there is e ne add so =
        subst (λ ts. LongFrom p kind at ts found') (sym (so ∙ ap (λ u. slice_set (slice_set tails at u) item.next 0) e))
        (in_front_of there item is (subst (λ u. 0 < u) e (not_none t ne)) found' (subst (λ u. Added u item found found') e add))

pub ruleset one_more_row = (as_before, joined_by)

-- ---- none yet

blank : (n a : ℕ) → tail_at (replicate n 0) a ≡ 0
blank zero a = refl
blank (suc n) zero = refl
blank (suc n) (suc a) = blank n a

no_tail : (n a : ℕ) → 0 < tail_at (replicate n 0) a → ⊥
no_tail n a h = let z : tail_at (replicate n 0) a ≡ 0 = blank n a in absurd (omega (arith, h, z))

pub none_long : (p : ProgramRows) (kind : ListKind) (found : ℕ → ℤ → Option ℕ) → ((tail : ℕ) (wanted : ℤ) → found tail wanted ≡ None)
    → LongFrom p kind (length p.rows) (replicate (length p.rows) 0) found
none_long p kind found none = record {
  size = length-replicate (length p.rows) 0;
  lists = λ first wanted h. absurd (no_tail (length p.rows) first h);
  rows = λ a h. absurd (no_tail (length p.rows) a h);
  apart = λ a b h e. absurd (no_tail (length p.rows) a h);
  later = λ a h. absurd (no_tail (length p.rows) a h);
  fresh = λ tail wanted l. none tail wanted;
}

-- ---- one key more

both_equal : (a b : Ordering) → is_eq (ordering_then a b) ≡ (is_eq b && is_eq a)
both_equal Less Less = refl
both_equal Less Equal = refl
both_equal Less Greater = refl
both_equal Equal Less = refl
both_equal Equal Equal = refl
both_equal Equal Greater = refl
both_equal Greater Less = refl
both_equal Greater Equal = refl
both_equal Greater Greater = refl

at_key : (tail t : ℕ) (key wanted : ℤ) → is_at (key_cmp (tail, key)) (t, wanted) ≡ (int_eq key wanted && nat_eq tail t)
at_key tail t key wanted = both_equal (nat_cmp tail t) (int_cmp key wanted) ∙ ap (λ b. int_eq key wanted && b) (unsigned_tied tail t)

pub one_put : (old new : BTreeMap (ℕ × ℤ) ℕ) (tail : ℕ) (key : ℤ) (row : ℕ) → Updates key_cmp old new (tail, key) (Some row)
    → (t : ℕ) (wanted : ℤ) → found_at new t wanted ≡ (if int_eq key wanted && nat_eq tail t then Some row else found_at old t wanted)
one_put old new tail key row h t wanted = h.0 (t, wanted) ∙ ap (λ b. cond b (Some row) (found_at old t wanted)) (at_key tail t key wanted)

pub none_found : (found : BTreeMap (ℕ × ℤ) ℕ) → IsEmpty found → (tail : ℕ) (wanted : ℤ) → found_at found tail wanted ≡ None
none_found found h tail wanted = ap (lookup (is_at (key_cmp (tail, wanted)))) h

pub none_begun : (p : ProgramRows) (kind : ListKind) (found : BTreeMap (ℕ × ℤ) ℕ) → IsEmpty found
    → LongFrom p kind (length p.rows) (replicate (length p.rows) 0) (found_at found)
none_begun p kind found h = none_long p kind (found_at found) (none_found found h)

-- ---- what is found, where the tail begins that was read

pub told_by : (p : ProgramRows) (kind : ListKind) (tails : List ℕ) (found : ℕ → ℤ → Option ℕ) → AreLong p kind tails found
    → (first t : ℕ) (wanted : ℤ) (o : Sought) → t ≡ tail_at tails first → (t ≡ 0 → ⊥)
    → o ≡ or_in_tail (found t wanted) (sought_along p kind (length p.rows) t wanted) → o ≡ sought_along p kind (length p.rows) first wanted
told_by p kind tails found known first t wanted o e ne is =
    is ∙ subst (λ u. or_in_tail (found u wanted) (sought_along p kind (length p.rows) u wanted) ≡ sought_along p kind (length p.rows) first wanted) (sym e)
    (sym (known first wanted (subst (λ u. 0 < u) e (not_none t ne))))
