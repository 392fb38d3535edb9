-- Constructs that have named their parts have none in common.
use Rattle.std.proofs.Common.{if◌then◌else◌, ◌&&◌, ◌+◌, ◌<◌, ◌||◌, ◌∙◌, ◌∷◌, ◌≡◌, ◌⊎◌, [], ℕ, Bool, List, None, Option, Some, ap, arith, false, inl, inr}
use Rattle.std.proofs.Common.{length, refl, slice_get, slice_set, subst, suc, sym, true, zero}
use Rattle.core_program.proofs.{ActionsMeant.no, WholeActions.below_length, WholeParts.and_both}
use Rattle.core_program.specs.ProgramRows.{ProgramRows, row_at}
use Rattle.core_program.specs.WholeTables.{is_choice_row, is_common_row, part_at, parts_of}
use Rattle.whole_tables.proofs.RowsFit.{last_or_below}
use Rattle.whole_tables.specs.{Once.IsOnce, Parts.all_named, Parts.named, Parts.named_by, Parts.named_on, declared.once.Naming.Naming}

abbrev Column : Type 0
Column = List (Option Naming)

-- A number has the name of a construct, or that of another with which it may share it.
pub record HasName (p : ProgramRows) (column : Column) (a i n : ℕ) : Type 0 where
  pub by : Naming
  pub is : slice_get column n ≡ Some (Some by)
  pub shared : ((a ≡ by.construct) × (i ≡ by.place)) ⊎ ((is_choice_row (row_at p a) ≡ true) × (is_choice_row (row_at p by.construct) ≡ true))

-- names stay
pub record Stays (old new : Column) : Type 0 where
  pub at : (n : ℕ) (x : Naming) → slice_get old n ≡ Some (Some x) → slice_get new n ≡ Some (Some x)

-- the parts of the constructs below a number are named
pub record Named (p : ProgramRows) (m : ℕ) (column : Column) : Type 0 where
  pub each : (a i n : ℕ) → a < m → part_at p a i ≡ Some n → is_common_row (row_at p n) ≡ false → HasName p column a i n

-- ---- columns

set_same : (xs : Column) (n : ℕ) (x y : Option Naming) → slice_get xs n ≡ Some y → slice_get (slice_set xs n x) n ≡ Some x
set_same [] n x y h = absurd (let z : None ≡ Some y = h in cc)
set_same (z ∷ zs) zero x y h = refl
set_same (z ∷ zs) (suc n) x y h = set_same zs n x y h

set_stays : (xs : Column) (n m : ℕ) (x : Option Naming) (c : Naming) → slice_get xs n ≡ Some None → slice_get xs m ≡ Some (Some c)
    → slice_get (slice_set xs n x) m ≡ Some (Some c)
set_stays [] n m x c h k = absurd (let z : None ≡ Some (Some c) = k in cc)
set_stays (z ∷ zs) zero zero x c h k = absurd (let e : Some None ≡ Some (Some c) = sym h ∙ k in cc)
set_stays (z ∷ zs) zero (suc m) x c h k = k
set_stays (z ∷ zs) (suc n) zero x c h k = k
set_stays (z ∷ zs) (suc n) (suc m) x c h k = set_stays zs n m x c h k

stays_self : (old new : Column) → Some old ≡ Some new → Stays old new
stays_self old new h = let q : old ≡ new = (let z : Some old ≡ Some new = h in cc) in
    record { at = λ n x e. ap (λ c. slice_get c n) (sym q) ∙ e }

stays_on : (a b c : Column) → Stays a b → Stays b c → Stays a c
stays_on a b c f g = record { at = λ n x e. g.at n x (f.at n x e) }

module _ (p : ProgramRows) where
  name_stays : (old new : Column) (a i n : ℕ) → Stays old new → HasName p old a i n → HasName p new a i n
  name_stays old new a i n f h = record { by = h.by; is = f.at n h.by h.is; shared = h.shared }

  -- what a construct's naming of a number leaves
  record Left (old new : Column) (a i n : ℕ) : Type 0 where
    pub stays : Stays old new
    pub has : is_common_row (row_at p n) ≡ false → HasName p new a i n

  named_left : (old new : Column) (a i n : ℕ) → named p old a i n ≡ Some new → Left old new a i n
  named_left old new a i n h = by_common (is_common_row (row_at p n)) refl h where
    naming : Naming
    naming = record { construct = a; place = i }

    by_again : (other : Naming) (b : Bool) → slice_get old n ≡ Some (Some other)
        → (is_choice_row (row_at p a) && is_choice_row (row_at p other.construct)) ≡ b → (if b then Some old else None) ≡ Some new → Left old new a i n
    by_again other true g e h = record {
      stays = stays_self old new h;
      has = λ f. name_stays old new a i n (stays_self old new h) (record { by = other; is = g; shared = inr (and_both _ _ e) });
    }
    by_again other false g e h = absurd (let z : None ≡ Some new = h in cc)

    by_got : (o : Option (Option Naming)) → slice_get old n ≡ o → named_by p old a i n o ≡ Some new → Left old new a i n
    by_got None g h = absurd (let z : None ≡ Some new = h in cc)
    by_got (Some None) g h =
        let set : Stays (slice_set old n (Some naming)) new = stays_self (slice_set old n (Some naming)) new h in record {
          stays = stays_on old (slice_set old n (Some naming)) new (record { at = λ m c e. set_stays old n m (Some naming) c g e }) set;
          has = λ f. name_stays (slice_set old n (Some naming)) new a i n set
              (record { by = naming; is = set_same old n (Some naming) None g; shared = inl (refl, refl) });
        }
    by_got (Some (Some other)) g h = by_again other (is_choice_row (row_at p a) && is_choice_row (row_at p other.construct)) g refl h

    by_common : (b : Bool) → is_common_row (row_at p n) ≡ b → (if b then Some old else named_by p old a i n (slice_get old n)) ≡ Some new
        → Left old new a i n
    by_common true e h = record { stays = stays_self old new h; has = λ f. no (sym f ∙ e) }
    by_common false e h = by_got (slice_get old n) refl h

  record AllLeft (old new : Column) (a i : ℕ) (ns : List ℕ) : Type 0 where
    pub stays : Stays old new
    pub has : (k n : ℕ) → slice_get ns k ≡ Some n → is_common_row (row_at p n) ≡ false → HasName p new a (i + k) n

  one_left : (old new : Column) (a i n : ℕ) (ns : List ℕ) → ((mid : Column) → all_named p mid a (suc i) ns ≡ Some new → AllLeft mid new a (suc i) ns)
      → (o : Option Column) → named p old a i n ≡ o → named_on o (λ next. all_named p next a (suc i) ns) ≡ Some new → AllLeft old new a i (n ∷ ns)
  one_left old new a i n ns more None e h = absurd (let z : None ≡ Some new = h in cc)
  one_left old new a i n ns more (Some mid) e h =
      let first = named_left old mid a i n e in
      let rest = more mid h in
      record {
        stays = stays_on old mid new first.stays rest.stays;
        has = λ k m. by mid first rest k m;
      } where
        by : (mid : Column) → Left old mid a i n → AllLeft mid new a (suc i) ns → (k m : ℕ) → slice_get (n ∷ ns) k ≡ Some m
            → is_common_row (row_at p m) ≡ false → HasName p new a (i + k) m
        by mid first rest zero m g f =
            let q : n ≡ m = (let z : Some n ≡ Some m = g in cc) in
            let r : i ≡ i + 0 = omega arith in
            subst (λ j. HasName p new a j m) r (subst (λ x. HasName p new a i x) q
            (name_stays mid new a i n rest.stays (first.has (ap (λ x. is_common_row (row_at p x)) q ∙ f))))
        by mid first rest (suc k) m g f =
            let r : suc i + k ≡ i + suc k = omega arith in
            subst (λ j. HasName p new a j m) r (rest.has k m g f)

  all_left : (old new : Column) (a i : ℕ) (ns : List ℕ) → all_named p old a i ns ≡ Some new → AllLeft old new a i ns
  all_left old new a i [] h = record { stays = stays_self old new h; has = λ k n e f. absurd (let z : None ≡ Some n = e in cc) }
  all_left old new a i (n ∷ ns) h = one_left old new a i n ns (λ mid k. all_left mid new a (suc i) ns k) (named p old a i n) refl h

  pub none_named : (column : Column) → Named p 0 column
  none_named column = record { each = λ a i n l. absurd (omega (arith, l)) }

  pub next_named : (m : ℕ) (old new : Column) → Named p m old → all_named p old m 0 (parts_of (row_at p m)) ≡ Some new → Named p (suc m) new
  next_named m old new before h = record { each = by } where
    now : AllLeft old new m 0 (parts_of (row_at p m))
    now = all_left old new m 0 (parts_of (row_at p m)) h

    first : (i n : ℕ) → part_at p m i ≡ Some n → is_common_row (row_at p n) ≡ false → HasName p new m i n
    first i n g f =
        let r : 0 + i ≡ i = omega arith in
        subst (λ j. HasName p new m j n) r (now.has i n g f)

    by : (a i n : ℕ) → a < suc m → part_at p a i ≡ Some n → is_common_row (row_at p n) ≡ false → HasName p new a i n
    by a i n l g f =
        elim (last_or_below a m l) [
          | inl e ↦ subst (λ b. HasName p new b i n) (sym e) (first i n (ap (λ b. part_at p b i) (sym e) ∙ g) f)
          | inr k ↦ name_stays old new a i n now.stays (before.each a i n k g f)
        ]

  -- ---- no part has two names

  common_none : (a b : Bool) → (a || b) ≡ false → (a ≡ false) × (b ≡ false)
  common_none true b h = no (sym h)
  common_none false b h = (refl, h)

  part_inside : (a i n : ℕ) → part_at p a i ≡ Some n → a < length p.rows
  part_inside a i n h = elim (below_length p.rows a) [
    | inl e ↦ absurd (let z : None ≡ Some n = ap (λ r. slice_get (parts_of r) i) (sym e) ∙ h in cc)
    | inr l ↦ l
  ]

  same_by : (column : Column) (n : ℕ) (x y : Naming) → slice_get column n ≡ Some (Some x) → slice_get column n ≡ Some (Some y) → x ≡ y
  same_by column n x y g h = let z : Some (Some x) ≡ Some (Some y) = sym g ∙ h in cc

  both_choose : (a b : Bool) → (a && b) ≡ false → a ≡ true → b ≡ true → ⊥
  both_choose true true d x y = no (sym d)
  both_choose true false d x y = no y
  both_choose false b d x y = no x

  pub once_named : (column : Column) → Named p (length p.rows) column → IsOnce p
  once_named column all a i b j n g h d =
      let none = common_none (is_common_row (row_at p n)) (is_choice_row (row_at p a) && is_choice_row (row_at p b)) d in
      let x = all.each a i n (part_inside a i n g) g none.0 in
      let y = all.each b j n (part_inside b j n h) h none.0 in
      let q : x.by ≡ y.by = same_by column n x.by y.by x.is y.is in
      elim x.shared [
        | inl e ↦ elim y.shared [
          | inl f ↦ (e.0 ∙ ap (λ (c : Naming). c.construct) q ∙ sym f.0, e.1 ∙ ap (λ (c : Naming). c.place) q ∙ sym f.1)
          | inr f ↦ absurd (both_choose (is_choice_row (row_at p a)) (is_choice_row (row_at p b)) none.1
              (ap (λ c. is_choice_row (row_at p c)) (e.0 ∙ ap (λ (c : Naming). c.construct) q) ∙ f.1) f.0)
        ]
        | inr e ↦ elim y.shared [
          | inl f ↦ absurd (both_choose (is_choice_row (row_at p a)) (is_choice_row (row_at p b)) none.1 e.0
              (ap (λ c. is_choice_row (row_at p c)) (f.0 ∙ ap (λ (c : Naming). c.construct) (sym q)) ∙ e.1))
          | inr f ↦ absurd (both_choose (is_choice_row (row_at p a)) (is_choice_row (row_at p b)) none.1 e.0 f.0)
        ]
      ]

  -- ---- the loop over all constructs

  pub naming-goes : (m : ℕ) (old new : Column) (ns : List ℕ) → Named p m old → ns ≡ parts_of (row_at p m) → all_named p old m 0 ns ≡ Some new
      → Named p (m + 1) new
  naming-goes m old new ns before e h =
      let q : suc m ≡ m + 1 = omega arith in
      subst (λ k. Named p k new) q (next_named m old new before (ap (λ xs. all_named p old m 0 xs) (sym e) ∙ h))

  pub naming-ends : (column : Column) (m : ℕ) → Named p m column → m ≡ length p.rows → IsOnce p
  naming-ends column m all e = once_named column (subst (λ k. Named p k column) e all)

pub ruleset naming = (none_named, naming-ends)
