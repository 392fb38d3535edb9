-- Where tables are whole, the specs of a schema are counted right, and so are the extents of what is passed for it.
use Rattle.std.proofs.Common.{◌+◌, ◌-◌, ◌<◌, ◌∙◌, ◌∷◌, ◌≡◌, ◌≤◌, [], ℕ, Bool, List, None, Option, Some, ap, arith, drop, eqb-true, false, inl, inr, is_some}
use Rattle.std.proofs.Common.{length, length-drop, nat_eq, nat_le, refl, subst, suc, sym, true, zero}
use Rattle.std.proofs.lemmas.Bool.Decides.{nat_tests}
use Rattle.core_program.proofs.{ActionsMeant.no, OutcomesCompose.none_some, OutcomesCompose.some_same, WholeParts.and_both, WholeParts.or_cases}
use Rattle.core_program.specs.Conformant.{Dimensions, and_spec, dimensions_in, dimensions_of, dimensions_within, extent_before, extent_in, fixed_extents}
use Rattle.core_program.specs.ProgramRows.{ProgramRows, row_at, type_at, type_in}
use Rattle.core_program.specs.WholeTables.{RowFits, TypeFits, WholeTables, is_conformant, is_conformant_type, is_ordinal_type, type_accessed}
use Rattle.core_program.specs.declared.{components.Extent.Extent, components.HeldSpec.HeldSpec, rows.AccessRow.AccessRow, rows.Row.Row, rows.TypeRow.TypeRow}
use Rattle.run_laws.specs.LaidOut.{FitsSchema, extents_given, extents_held, extents_of}
use Rattle.run_laws.specs.LaidTests.{and_deeper, and_inside, array_component, extents_reach, fits_schema, given_reaches, has_one_spec, is_deep, schema_of}
use Rattle.run_laws.specs.LaidTests.{schema_within, spec_component, specs_before}

-- the specs of an array with these dimensions, and the type inside of them
abbrev measure : Option Dimensions → Option (ℕ × ℕ)
measure None = None
measure (Some d) = Some (length d.specs, d.component)

extent_there : (t : Option TypeRow) → is_ordinal_type t ≡ true → (e : Extent) × (extent_in t ≡ Some e)
extent_there (Some (TypeRow.Ordinal least greatest)) h = (record { least = least; greatest = greatest }, refl)
extent_there (Some (TypeRow.Subrange host least greatest)) h = (record { least = least; greatest = greatest }, refl)
extent_there t h = no h

one_spec : (place : ℕ) (e : Extent) (o : Option Dimensions) → measure (and_spec place (Some e) o) ≡ specs_before 1 (measure o)
one_spec place e None = refl
one_spec place e (Some d) = let q : suc (length d.specs) ≡ 1 + length d.specs = omega arith in ap (λ k. Some (k, d.component)) q

fits_in : (p : ProgramRows) (at : ℕ) (r : Row) (t : TypeRow) → RowFits p at r → type_in r ≡ Some t → TypeFits p at t
fits_in p at (Row.Type t) u f e = subst (TypeFits p at) (some_same e) f
fits_in p at r u f e = absurd (none_some e)

-- what is no conformant array is itself inside
pub no_specs : (p : ProgramRows) (n of' : ℕ) (s : ℕ × ℕ) → is_conformant p of' ≡ false → schema_within n p of' ≡ Some s → s ≡ (0, of')
no_specs p zero of' s c e = absurd (none_some e)
no_specs p (suc n) of' s c e = by (type_at p of') c e
  where
    by : (t : Option TypeRow) → is_conformant_type t ≡ false → and_inside (schema_within n p) of' (is_some t) (spec_component t) ≡ Some s → s ≡ (0, of')
    by (Some (TypeRow.Conformant packed index component place)) c e = no (sym c)
    by None c e = absurd (none_some e)
    by (Some t) c e = sym (some_same e)

module _ (p : ProgramRows) (W : WholeTables p) where
  type_fits : (at : ℕ) (t : TypeRow) → type_at p at ≡ Some t → TypeFits p at t
  type_fits at t e = fits_in p at (row_at p at) t (W.rows at) e

  in_type : (n : ℕ) → ((t : ℕ) → measure (dimensions_within n p t) ≡ schema_within n p t) → (t : ℕ) (r : Option TypeRow) → type_at p t ≡ r
      → measure (dimensions_in (dimensions_within n p) p t r) ≡ and_inside (schema_within n p) t (is_some r) (spec_component r)
  in_type n rest t (Some (TypeRow.Conformant packed index component place)) e =
      let x = extent_there (type_at p index) (type_fits t (TypeRow.Conformant packed index component place) e).0 in
      ap (λ o. measure (and_spec place o (dimensions_within n p component))) x.1 ∙ one_spec place x.0 (dimensions_within n p component)
      ∙ ap (specs_before 1) (rest component)
  in_type n rest t None e = refl
  in_type n rest t (Some row) e = refl

  measured : (n t : ℕ) → measure (dimensions_within n p t) ≡ schema_within n p t
  measured zero t = refl
  measured (suc n) t = in_type n (measured n) t (type_at p t) refl

  pub counted : (of' : ℕ) (d : Dimensions) → dimensions_of p of' ≡ Some d → schema_of p of' ≡ Some (length d.specs, d.component)
  counted of' d e = sym (measured (length p.rows) of') ∙ ap measure e

  -- the dimensions that a count stands for
  pub dimensions : (of' : ℕ) (s : ℕ × ℕ) → schema_of p of' ≡ Some s
      → (d : Dimensions) × (dimensions_of p of' ≡ Some d) × (length d.specs ≡ s.0) × (d.component ≡ s.1)
  dimensions of' s e = by (dimensions_of p of') refl (measured (length p.rows) of' ∙ e)
    where
      by : (o : Option Dimensions) → dimensions_of p of' ≡ o → measure o ≡ Some s
          → (d : Dimensions) × (dimensions_of p of' ≡ Some d) × (length d.specs ≡ s.0) × (d.component ≡ s.1)
      by None q e = absurd (none_some e)
      by (Some d) q e = let f = some_same e in (d, q, ap (λ (s : ℕ × ℕ). s.0) f, ap (λ (s : ℕ × ℕ). s.1) f)

  at_type : (s : HeldSpec) (ss : List HeldSpec)
      → ((c : ℕ) → is_deep (length ss) p c ≡ true → length (fixed_extents p ss (type_at p c)) ≡ length ss) → (t : ℕ) (r : Option TypeRow) → type_at p t ≡ r
      → and_deeper (is_deep (length ss) p) (array_component r) ≡ true → length (fixed_extents p (s ∷ ss) r) ≡ suc (length ss)
  at_type s ss rest t (Some (TypeRow.Array packed index component cells)) e h =
      let x = extent_there (type_at p index) (type_fits t (TypeRow.Array packed index component cells) e).0 in
      ap (λ o. length (extent_before o (fixed_extents p ss (type_at p component)))) x.1 ∙ ap suc (rest component h)
  at_type s ss rest t r e h = no h

  -- each array that is within another gives an extent
  deep : (ss : List HeldSpec) (t : ℕ) → is_deep (length ss) p t ≡ true → length (fixed_extents p ss (type_at p t)) ≡ length ss
  deep [] t h = refl
  deep (s ∷ ss) t h = at_type s ss (deep ss) t (type_at p t) refl h

  module _ (ss : List HeldSpec) (t : ℕ) (s : ℕ × ℕ) (e : schema_of p t ≡ Some s) (l : s.0 ≤ length ss) (h : is_deep (length ss - s.0) p s.1 ≡ true) where
    further_in : (n c : ℕ) → n ≡ s.0 → c ≡ s.1 → n + length (fixed_extents p (drop n ss) (type_at p c)) ≡ length ss
    further_in n c f g =
        let k : length (drop n ss) ≡ length ss - s.0 = length-drop n ss ∙ ap (λ m. length ss - m) f in
        let d = deep (drop n ss) c (ap (λ m. is_deep m p c) k ∙ ap (is_deep (length ss - s.0) p) g ∙ h) in
        omega (arith, d, k, f, l)

    reached : (b : Bool) → is_conformant p t ≡ b → extents_of p ss t b ≡ length ss
    reached true c =
        let d = dimensions t s e in
        ap (extents_held p ss) d.1 ∙ further_in (length d.0.specs) d.0.component d.2 d.3
    reached false c =
        let z = no_specs p (length p.rows) t s c e in
        let n : s.0 ≡ 0 = ap (λ (s : ℕ × ℕ). s.0) z in
        let m : length ss - s.0 ≡ length ss = omega (arith, n) in
        deep ss t (ap (λ k. is_deep k p t) (sym m) ∙ ap (is_deep (length ss - s.0) p) (sym (ap (λ (s : ℕ × ℕ). s.1) z)) ∙ h)

  reaches : (ss : List HeldSpec) (t : ℕ) (o : Option (ℕ × ℕ)) → schema_of p t ≡ o → extents_reach p (length ss) o ≡ true
      → extents_of p ss t (is_conformant p t) ≡ length ss
  reaches ss t None e h = no h
  reaches ss t (Some s) e h =
      let k = and_both (nat_le s.0 (length ss)) (is_deep (length ss - s.0) p s.1) h in
      let l : s.0 ≤ length ss = let q = k.0 in grind (arith, nat_tests, q) in
      reached ss t s e l k.1 (is_conformant p t) refl

  -- an array of the very type
  itself : (of' : ℕ) (d : Dimensions) → dimensions_of p of' ≡ Some d → extents_of p d.specs of' (is_conformant p of') ≡ length d.specs
  itself of' d e =
      let z : length d.specs - length d.specs ≡ 0 = omega arith in
      let l : length d.specs ≤ length d.specs = omega arith in
      reached d.specs of' (length d.specs, d.component) (counted of' d e) l (ap (λ n. is_deep n p d.component) z) (is_conformant p of') refl

  given_mean : (of' t : ℕ) (d : Dimensions) → dimensions_of p of' ≡ Some d → given_reaches p t (schema_of p of') ≡ true
      → extents_of p d.specs t (is_conformant p t) ≡ length d.specs
  given_mean of' t d e h = reaches d.specs t (schema_of p t) refl (ap (given_reaches p t) (sym (counted of' d e)) ∙ h)

  one_only : (of' : ℕ) (d : Dimensions) → dimensions_of p of' ≡ Some d → has_one_spec (schema_of p of') ≡ true → 1 ≡ length d.specs
  one_only of' d e h = sym (eqb-true (length d.specs) 1 (ap has_one_spec (sym (counted of' d e)) ∙ h))

  pub schema_means : (of' : ℕ) (r : Row) → fits_schema p of' r ≡ true → FitsSchema p of' r
  schema_means of' (Row.Access a) h d e = elim (or_cases (nat_eq (type_accessed a) of') (given_reaches p (type_accessed a) (schema_of p of')) h) [
    | inl q ↦ subst (λ t. extents_of p d.specs t (is_conformant p t) ≡ length d.specs) (sym (eqb-true (type_accessed a) of' q)) (itself of' d e)
    | inr q ↦ given_mean of' (type_accessed a) d e q
  ]
  schema_means of' r h d e = one_only of' d e h
