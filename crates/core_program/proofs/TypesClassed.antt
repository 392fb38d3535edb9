-- Types get their classes from the last row on, and two types have one class exactly if they match.
use Rattle.std.proofs.Common.{if◌then◌else◌, ◌&&◌, ◌+◌, ◌<◌, ◌||◌, ◌∙◌, ◌≡◌, ◌≤◌, ℕ, Bool, Decides, List, None, Option, Some, ap, arith, eq-eqb, eqb-true}
use Rattle.std.proofs.Common.{false, get_or-set_other, get_or-set_same, inl, inr, is_some, length, length-set, ltb-true, nat_eq, refl, slice_get, slice_set}
use Rattle.std.proofs.Common.{subst, suc, sym, true, unwrap_or, zero}
use Rattle.std.proofs.lemmas.{Bool.and_from, Bool.cases_lt, Bool.Decides.Decides-eqb, Bool.Decides.same_from_decides, Option.unwrap_or-slice_get}
use Rattle.std.specs.Map.{update}
use Rattle.core_program.proofs.{ActionsMeant.no, FormsKnown.OneKnown, FormsKnown.one_known, OutcomesCompose.none_some, OutcomesCompose.some_same}
use Rattle.core_program.proofs.{WholeActions.there, WholeParts.and_both, WholeParts.or_cases, WholeParts.or_left, WholeParts.or_right}
use Rattle.core_program.specs.Headings.{components_alike, pair_fits, pair_if, same_packing, types_match}
use Rattle.core_program.specs.ProgramRows.{ProgramRows, row_at, type_at, type_in}
use Rattle.core_program.specs.TypeClasses.{AreTypeClasses, TypesClassed, same_type_form, type_class, type_form}
use Rattle.core_program.specs.WholeTables.{RowFits, WholeTables, is_conformant, is_conformant_type}
use Rattle.core_program.specs.declared.{rows.Row.Row, rows.TypeRow.TypeRow, type_classes.TypeForm.TypeForm}

-- ---- forms that are told to be the same are one

packing_told : (a b : Bool) → same_packing a b ≡ true → a ≡ b
packing_told true true h = refl
packing_told true false h = no h
packing_told false true h = no h
packing_told false false h = refl

packing_itself : (a : Bool) → same_packing a a ≡ true
packing_itself true = refl
packing_itself false = refl

abbrev form : Bool → ℕ → ℕ → TypeForm
form packed index component = record { packed = packed; index = index; component = component }

told_by : (a b : Bool) (i j c d : ℕ) → same_type_form (form a i c) (form b j d) ≡ true → form a i c ≡ form b j d
told_by true true i j c d h = let k = and_both (nat_eq i j) (nat_eq c d) h in
    ap (λ z. form true z c) (eqb-true i j k.0) ∙ ap (λ z. form true j z) (eqb-true c d k.1)
told_by true false i j c d h = no h
told_by false true i j c d h = no h
told_by false false i j c d h =
    let k = and_both (nat_eq i j) (nat_eq c d) h in ap (λ z. form false z c) (eqb-true i j k.0) ∙ ap (λ z. form false j z) (eqb-true c d k.1)

pub type_form_told : (f g : TypeForm) → same_type_form f g ≡ true → f ≡ g
type_form_told f g h = told_by f.packed g.packed f.index g.index f.component g.component h

-- ---- one class put down

abbrev held : List ℕ → ℕ → ℕ
held types t = unwrap_or (slice_get types t) t

held_set : (cs : List ℕ) (i c : ℕ) → i < length cs → held (slice_set cs i c) i ≡ c
held_set cs i c l = unwrap_or-slice_get (slice_set cs i c) i i ∙ get_or-set_same cs i c i l

held_beside : (cs : List ℕ) (i c a : ℕ) → (a ≡ i → ⊥) → held (slice_set cs i c) a ≡ held cs a
held_beside cs i c a ne = unwrap_or-slice_get (slice_set cs i c) a a ∙ get_or-set_other cs i a c a ne ∙ sym (unwrap_or-slice_get cs a a)

abbrev class_by : Bool → List ℕ → ℕ → ℕ
class_by conformant types t = if conformant then held types t else t

-- ---- schemas inside of schemas stand after them

abbrev InnerAfter : ProgramRows → ℕ → Option TypeRow → Type 0
InnerAfter p a (Some (TypeRow.Conformant packed index component place)) = is_conformant p component ≡ true → a < component
InnerAfter p a t = Unit {0}

row_after : (p : ProgramRows) (a : ℕ) (r : Row) → RowFits p a r → InnerAfter p a (type_in r)
row_after p a (Row.Type (TypeRow.Conformant packed index component place)) f = λ h. ltb-true a component (f.2 h)
row_after p a (Row.Type t) f = tt
row_after p a r f = tt

schema_told : (p : ProgramRows) (cs : List ℕ) (t : Option TypeRow) (f : TypeForm) → type_form p cs t ≡ Some f → is_conformant_type t ≡ true
schema_told p cs (Some (TypeRow.Conformant packed index component place)) f e = refl
schema_told p cs t f e = absurd (none_some e)

module _ (p : ProgramRows) (w : WholeTables p) where
  inner_after : (a : ℕ) → InnerAfter p a (type_at p a)
  inner_after a = row_after p a (row_at p a) (w.rows a)

  inside : (a : ℕ) → is_conformant p a ≡ true → a < length p.rows
  inside a h = there p (λ r. is_conformant_type (type_in r)) a refl h

  later : (a : ℕ) → is_conformant p a ≡ true → 0 < a
  later a h = elim (cases_lt 0 a) [
    | inl l ↦ l
    | inr l ↦ let e : a ≡ 0 = omega (arith, l) in no (sym (ap is_conformant_type w.integer) ∙ ap (is_conformant p) (sym e) ∙ h)
  ]

  -- ---- one type more

  module _ (cs : List ℕ) (i c : ℕ) where
    class_beside : (a : ℕ) → (a ≡ i → ⊥) → type_class p (slice_set cs i c) a ≡ type_class p cs a
    class_beside a ne = ap (λ n. if is_conformant p a then n else a) (held_beside cs i c a ne)

    component_stays : (a b : ℕ) → i ≤ a → (is_conformant p b ≡ true → a < b) → type_class p (slice_set cs i c) b ≡ type_class p cs b
    component_stays a b l h = by (is_conformant p b) refl
      where
        by : (t : Bool) → is_conformant p b ≡ t → class_by t (slice_set cs i c) b ≡ class_by t cs b
        by true e = held_beside cs i c b (λ q. let m : a < b = h e in absurd (omega (arith, l, m, q)))
        by false e = refl

    form_stays : (a : ℕ) (t : Option TypeRow) → i ≤ a → InnerAfter p a t → type_form p (slice_set cs i c) t ≡ type_form p cs t
    form_stays a (Some (TypeRow.Conformant packed index component place)) l h = ap (λ n. Some (form packed index n)) (component_stays a component l h)
    form_stays a t l h = refl

  module _ (cs : List ℕ) (old new : TypeForm → Option ℕ) (i c : ℕ) (g : TypeForm) (l : i < length p.rows) (k : TypesClassed p old (i + 1) cs)
      (e : type_form p cs (type_at p i) ≡ Some g) (m : OneKnown i old new g c) where
    class_here : type_class p (slice_set cs i c) i ≡ c
    class_here =
        ap (λ b. class_by b (slice_set cs i c) i) (schema_told p cs (type_at p i) g e)
        ∙ held_set cs i c (subst (λ n. i < n) (sym k.size) l)

    form_same : (a : ℕ) → i ≤ a → type_form p (slice_set cs i c) (type_at p a) ≡ type_form p cs (type_at p a)
    form_same a b = form_stays cs i c a (type_at p a) b (inner_after a)

    known_here : (a : ℕ) (f : TypeForm) → a ≡ i → type_form p cs (type_at p a) ≡ Some f → new f ≡ Some (type_class p (slice_set cs i c) a)
    known_here a f q h =
        let s : f ≡ g = some_same (sym h ∙ ap (λ n. type_form p cs (type_at p n)) q ∙ e) in
        ap new s ∙ m.has ∙ ap (λ n. Some n) (sym class_here) ∙ ap (λ n. Some (type_class p (slice_set cs i c) n)) (sym q)

    known_all : (a : ℕ) (f : TypeForm) → i ≤ a → type_form p (slice_set cs i c) (type_at p a) ≡ Some f
        → new f ≡ Some (type_class p (slice_set cs i c) a)
    known_all a f b h = elim (cases_lt i a) [
      | inl q ↦
          m.keeps f (type_class p cs a) (k.schemas a f (omega (arith, q)) (sym (form_same a b) ∙ h))
          ∙ ap (λ n. Some n) (sym (class_beside cs i c a (λ z. absurd (omega (arith, q, z)))))
      | inr q ↦ known_here a f (omega (arith, b, q)) (sym (form_same a b) ∙ h)
    ]

    above : (f : TypeForm) (d : ℕ) → old f ≡ Some d → i < d
    above f d h = let q : i + 1 ≤ d = (k.taken f d h).0 in omega (arith, q)

    kept_apart : (f h : TypeForm) (d : ℕ) → new f ≡ Some d → new h ≡ Some d → f ≡ h
    kept_apart f h d x y = elim (m.comes f d x) [
      | inl a ↦ elim (m.comes h d y) [
        | inl b ↦ k.apart f h d a b
        | inr b ↦ let u : i < d = above f d a in let v : d ≡ i = b.1 in absurd (omega (arith, u, v))
      ]
      | inr a ↦ elim (m.comes h d y) [
        | inl b ↦ let u : i < d = above h d b in let v : d ≡ i = a.1 in absurd (omega (arith, u, v))
        | inr b ↦ sym a.0 ∙ b.0
      ]
    ]

    kept_taken : (f : TypeForm) (d : ℕ) → new f ≡ Some d → (i ≤ d) × (type_form p (slice_set cs i c) (type_at p d) ≡ Some f)
    kept_taken f d x = elim (m.comes f d x) [
      | inl a ↦ let u : i ≤ d = (let v = above f d a in omega (arith, v)) in (u, form_same d u ∙ (k.taken f d a).1)
      | inr a ↦
          let v : d ≡ i = a.1 in
          (omega (arith, v), ap (λ n. type_form p (slice_set cs i c) (type_at p n)) v ∙ form_same i (omega arith) ∙ e ∙ ap (λ n. Some n) a.0)
    ]

    schema_classed : TypesClassed p new i (slice_set cs i c)
    schema_classed = record { size = length-set cs i c ∙ k.size; schemas = known_all; apart = kept_apart; taken = kept_taken }

  -- a row that is no schema
  pub other_classed : (cs : List ℕ) (known : TypeForm → Option ℕ) (i : ℕ) → TypesClassed p known (i + 1) cs
      → type_form p cs (type_at p i) ≡ None → TypesClassed p known i cs
  other_classed cs known i k e = record {
    size = k.size;
    schemas = λ a f b h. elim (cases_lt i a) [
      | inl q ↦ k.schemas a f (omega (arith, q)) h
      | inr q ↦
          let s : i ≡ a = omega (arith, b, q) in
          absurd (none_some (sym e ∙ ap (λ n. type_form p cs (type_at p n)) s ∙ h))
    ];
    apart = k.apart;
    taken = λ f d h. let u : i + 1 ≤ d = (k.taken f d h).0 in (omega (arith, u), (k.taken f d h).1);
  }

  -- ---- all of them

  module _ (known : TypeForm → Option ℕ) (cs : List ℕ) (k : TypesClassed p known 0 cs) where
    abbrev Alike : ℕ → ℕ → ℕ → Type 0
    Alike n a b = Decides (types_match n p a b) (type_class p cs a ≡ type_class p cs b)

    -- So many specs are enough to look at from here.
    abbrev Enough : ℕ → ℕ → Type 0
    Enough n a = is_conformant p a ≡ true → length p.rows < n + a

    plain_class : (a : ℕ) → is_conformant p a ≡ false → type_class p cs a ≡ a
    plain_class a e = ap (λ b. class_by b cs a) e

    -- a class is that of a schema or not, as the type is
    abbrev Kept : ℕ → Option TypeRow → Type 0
    Kept a t = is_conformant_type t ≡ true → is_conformant p (type_class p cs a) ≡ true

    schema_known : (a : ℕ) (packed : Bool) (index component place : ℕ) → type_at p a ≡ Some (TypeRow.Conformant packed index component place)
        → known (form packed index (type_class p cs component)) ≡ Some (type_class p cs a)
    schema_known a packed index component place q = k.schemas a (form packed index (type_class p cs component)) (omega arith) (ap (type_form p cs) q)

    class_kept : (a : ℕ) (t : Option TypeRow) → type_at p a ≡ t → Kept a t
    class_kept a (Some (TypeRow.Conformant packed index component place)) q = λ h.
        schema_told p cs (type_at p (type_class p cs a)) (form packed index (type_class p cs component))
        (k.taken (form packed index (type_class p cs component)) (type_class p cs a) (schema_known a packed index component place q)).1
    class_kept a t q = λ h. no h

    schema_class : (a : ℕ) → is_conformant p a ≡ true → is_conformant p (type_class p cs a) ≡ true
    schema_class a h = class_kept a (type_at p a) refl h

    -- a schema and another type, or two others
    not_schema : (a b : ℕ) → is_conformant p b ≡ false → type_class p cs a ≡ type_class p cs b → a ≡ b
    not_schema a b e h = by (is_conformant p a) refl
      where
        by : (t : Bool) → is_conformant p a ≡ t → a ≡ b
        by true f = no (sym e ∙ ap (is_conformant p) (sym (h ∙ plain_class b e)) ∙ schema_class a f)
        by false f = sym (plain_class a f) ∙ h ∙ plain_class b e

    one_number : (a b : ℕ) (t : Bool) → t ≡ false → is_conformant p b ≡ false → Decides (nat_eq a b || t) (type_class p cs a ≡ type_class p cs b)
    one_number a b t z e = (
      λ h. elim (or_cases (nat_eq a b) t h) [ inl q ↦ ap (type_class p cs) (eqb-true a b q) | inr q ↦ no (sym z ∙ q) ],
      λ h. or_left (nat_eq a b) t (eq-eqb a b (not_schema a b e h)),
    )

    other_number : (a b : ℕ) (t : Bool) → t ≡ false → is_conformant p a ≡ false → Decides (nat_eq a b || t) (type_class p cs a ≡ type_class p cs b)
    other_number a b t z e = (
      λ h. elim (or_cases (nat_eq a b) t h) [ inl q ↦ ap (type_class p cs) (eqb-true a b q) | inr q ↦ no (sym z ∙ q) ],
      λ h. or_left (nat_eq a b) t (eq-eqb a b (sym (not_schema b a e (sym h)))),
    )

    -- two schemas
    schemas_alike : (n a b : ℕ) (packed other : Bool) (index i component d place at : ℕ)
        → type_at p a ≡ Some (TypeRow.Conformant packed index component place) → type_at p b ≡ Some (TypeRow.Conformant other i d at)
        → Alike n component d
        → Decides (nat_eq a b || pair_fits (types_match n p) (pair_if (same_packing packed other && nat_eq index i) component d))
        (type_class p cs a ≡ type_class p cs b)
    schemas_alike n a b packed other index i component d place at qa qb ih = (
      λ h. elim (or_cases (nat_eq a b) _ h) [
        | inl q ↦ ap (type_class p cs) (eqb-true a b q)
        | inr q ↦ one (same_packing packed other && nat_eq index i) refl q
      ],
      λ h. or_right (nat_eq a b) _ (back h),
    )
      where
        of_a : known (form packed index (type_class p cs component)) ≡ Some (type_class p cs a)
        of_a = schema_known a packed index component place qa

        of_b : known (form other i (type_class p cs d)) ≡ Some (type_class p cs b)
        of_b = schema_known b other i d at qb

        one : (t : Bool) → (same_packing packed other && nat_eq index i) ≡ t → pair_fits (types_match n p) (pair_if t component d) ≡ true
            → type_class p cs a ≡ type_class p cs b
        one false e h = no h
        one true e h =
            let x = and_both (same_packing packed other) (nat_eq index i) e in
            let s : form packed index (type_class p cs component) ≡ form other i (type_class p cs d) =
            ap (λ z. form z index (type_class p cs component)) (packing_told packed other x.0)
            ∙ ap (λ z. form other z (type_class p cs component)) (eqb-true index i x.1) ∙ ap (λ z. form other i z) (ih.0 h) in
            some_same (sym of_a ∙ ap known s ∙ of_b)

        back : type_class p cs a ≡ type_class p cs b → pair_fits (types_match n p) (pair_if (same_packing packed other && nat_eq index i) component d) ≡ true
        back h =
            let s : form packed index (type_class p cs component) ≡ form other i (type_class p cs d) =
            k.apart (form packed index (type_class p cs component)) (form other i (type_class p cs d)) (type_class p cs b)
            (of_a ∙ ap (λ z. Some z) h) of_b in
            let x : same_packing packed other ≡ true =
            subst (λ (z : TypeForm). same_packing packed z.packed ≡ true) s (packing_itself packed) in
            let y : nat_eq index i ≡ true = eq-eqb index i (ap (λ (z : TypeForm). z.index) s) in
            ap (λ t. pair_fits (types_match n p) (pair_if t component d)) (and_from (same_packing packed other) (nat_eq index i) x y)
            ∙ ih.1 (ap (λ (z : TypeForm). z.component) s)

    abbrev By : ℕ → ℕ → ℕ → Option TypeRow → Option TypeRow → Type 0
    By n a b s t = Decides (nat_eq a b || pair_fits (types_match n p) (components_alike s t)) (type_class p cs a ≡ type_class p cs b)

    rows_alike : (n a b : ℕ) (s t : Option TypeRow) → type_at p a ≡ s → type_at p b ≡ t
        → ((c d : ℕ) → is_conformant p a ≡ true → is_conformant p b ≡ true → (is_conformant p c ≡ true → a < c) → (is_conformant p d ≡ true → b < d)
        → Alike n c d)
        → InnerAfter p a s → InnerAfter p b t → By n a b s t
    rows_alike n a b (Some (TypeRow.Conformant packed index c place)) (Some (TypeRow.Conformant other i d at)) qa qb ih u v =
        schemas_alike n a b packed other index i c d place at qa qb
        (ih c d (ap is_conformant_type qa) (ap is_conformant_type qb) u v)
    rows_alike n a b (Some (TypeRow.Conformant packed index c place)) t qa qb ih u v = one_number a b false refl (ap is_conformant_type qb)
    rows_alike n a b s t qa qb ih u v = other_number a b false refl (ap is_conformant_type qa)

    types_alike : (n a b : ℕ) → Enough n a → Enough n b → Alike n a b
    types_alike zero a b h j = by (is_conformant p a) refl
      where
        plain : (c : ℕ) → Enough 0 c → is_conformant p c ≡ true → ⊥
        plain c f e = let l = f e in let m = inside c e in absurd (omega (arith, l, m))

        by : (t : Bool) → is_conformant p a ≡ t → Alike zero a b
        by true e = absurd (plain a h e)
        by false e = (
          λ q. ap (type_class p cs) (eqb-true a b q),
          λ q. eq-eqb a b (sym (not_schema b a e (sym q))),
        )
    types_alike (suc n) a b h j = rows_alike n a b (type_at p a) (type_at p b) refl refl
        (λ c d x y u v. types_alike n c d (λ e. let m = h x in let l = u e in omega (arith, l, m)) (λ e. let m = j y in let l = v e in omega (arith, l, m)))
        (inner_after a) (inner_after b)

    pub all_types_classed : AreTypeClasses p cs
    all_types_classed a b =
        same_from_decides {P = type_class p cs a ≡ type_class p cs b} (types_match (length p.rows) p a b) (nat_eq (type_class p cs a) (type_class p cs b))
        (types_alike (length p.rows) a b (λ e. let l = later a e in omega (arith, l)) (λ e. let l = later b e in omega (arith, l)))
        (Decides-eqb (type_class p cs a) (type_class p cs b))

-- ---- none yet

pub no_types_classed : (p : ProgramRows) (known : TypeForm → Option ℕ) (cs : List ℕ) → length cs ≡ length p.rows → ((f : TypeForm) → known f ≡ None)
    → TypesClassed p known (length p.rows) cs
no_types_classed p known cs size none = record {
  size = size;
  schemas = λ a f l h. let m = there p (λ r. is_conformant_type (type_in r)) a refl (schema_told p cs (type_at p a) f h) in absurd (omega (arith, l, m));
  apart = λ f g c e q. no (ap (λ o. is_some o) (sym (none f) ∙ e));
  taken = λ f c e. no (ap (λ o. is_some o) (sym (none f) ∙ e));
}

-- ---- as code finds them

pub one_type_classed : (p : ProgramRows) (w : WholeTables p) (cs : List ℕ) (old new : TypeForm → Option ℕ) (i c : ℕ) (g : TypeForm) → i < length p.rows
    → TypesClassed p old (i + 1) cs → type_form p cs (type_at p i) ≡ Some g → c ≡ unwrap_or (old g) i
    → ((f : TypeForm) → new f ≡ update same_type_form old g (Some c) f) → new g ≡ Some c → TypesClassed p new i (slice_set cs i c)
one_type_classed p w cs old new i c g l k e class all has =
    schema_classed p w cs old new i c g l k e (one_known same_type_form type_form_told i old new g c class all has)
