-- The dimensions of a type, spec by spec, and the extents of a fixed one.
use Rattle.std.proofs.Common.{◌++◌, ◌+◌, ◌-◌, ◌<◌, ◌∙◌, ◌∷◌, ◌≡◌, ◌≤◌, [], ℕ, List, None, Option, Some, ap, append-nil, append_assoc, arith, drop, false}
use Rattle.std.proofs.Common.{length, refl, suc, sym, zero}
use Rattle.std.proofs.lemmas.List.{drop_all}
use Rattle.core_program.specs.Conformant.{Dimensions, all_lie_in, and_spec, dimensions_in, dimensions_within, extent_before, extent_in, fixed_extents}
use Rattle.core_program.specs.ProgramRows.{ProgramRows, type_at}
use Rattle.core_program.specs.declared.{components.Extent.Extent, components.HeldSpec.HeldSpec, rows.TypeRow.TypeRow}
use Rattle.eval_ops.specs.{Arrays.size_in, Conformant.and_specs, Conformant.array_types, Conformant.no_dimensions, Conformant.spec_parts}

-- by what a type row says of a spec
abbrev by_spec : (inner : ℕ → Option Dimensions) → ProgramRows → (t : ℕ) → Option TypeRow → Option (ℕ × ℕ × ℕ) → Option Dimensions
by_spec inner p t row None = no_dimensions t (size_in row)
by_spec inner p t row (Some (index, component, place)) = and_spec place (extent_in (type_at p index)) (inner component)

spec_by : (inner : ℕ → Option Dimensions) (p : ProgramRows) (t : ℕ) (row : Option TypeRow)
    → dimensions_in inner p t row ≡ by_spec inner p t row (spec_parts row)
spec_by inner p t None = refl
spec_by inner p t (Some (TypeRow.Ordinal least greatest)) = refl
spec_by inner p t (Some (TypeRow.Subrange host least greatest)) = refl
spec_by inner p t (Some (TypeRow.Set packed base)) = refl
spec_by inner p t (Some (TypeRow.Pointer domain)) = refl
spec_by inner p t (Some (TypeRow.Array packed index component cells)) = refl
spec_by inner p t (Some (TypeRow.Conformant packed index component place)) = refl
spec_by inner p t (Some (TypeRow.Record packed region cells variants)) = refl

pub none_before : (o : Option Dimensions) → and_specs [] o ≡ o
none_before None = refl
none_before (Some d) = refl

one_more : (ss : List HeldSpec) (place : ℕ) (e : Extent) (o : Option Dimensions)
    → and_specs ss (and_spec place (Some e) o) ≡ and_specs (ss ++ (record { within = e; place = place }) ∷ []) o
one_more ss place e None = refl
one_more ss place e (Some d) = ap (λ l. Some (record { specs = l; component = d.component; size = d.size })) (sym (append_assoc ss _ d.specs))

inward : (p : ProgramRows) (n i t : ℕ) → i < n → dimensions_within (n - i) p t
    ≡ by_spec (dimensions_within (n - (i + 1)) p) p t (type_at p t) (spec_parts (type_at p t))
inward p n i t below =
    let e : n - i ≡ suc (n - (i + 1)) = omega arith in
    ap (λ m. dimensions_within m p t) e ∙ spec_by (dimensions_within (n - (i + 1)) p) p t (type_at p t)

module _ (p : ProgramRows) (n i t : ℕ) (ss : List HeldSpec) (below : i < n) where
  -- a spec, and then those inside
  pub spec_found : (index component place : ℕ) (e : Extent) → spec_parts (type_at p t) ≡ Some (index, component, place) → extent_in (type_at p index) ≡ Some e
      → and_specs ss (dimensions_within (n - i) p t)
      ≡ and_specs (ss ++ (record { within = e; place = place }) ∷ []) (dimensions_within (n - (i + 1)) p component)
  spec_found index component place e f g = ap (and_specs ss) (inward p n i t below ∙ ap (by_spec (dimensions_within (n - (i + 1)) p) p t (type_at p t)) f
      ∙ ap (λ x. and_spec place x (dimensions_within (n - (i + 1)) p component)) g) ∙ one_more ss place e (dimensions_within (n - (i + 1)) p component)

  -- a spec whose type has no values
  pub spec_broken : (index component place : ℕ) → spec_parts (type_at p t) ≡ Some (index, component, place) → extent_in (type_at p index) ≡ None
      → and_specs ss (dimensions_within (n - i) p t) ≡ None
  spec_broken index component place f g = ap (and_specs ss) (inward p n i t below ∙ ap (by_spec (dimensions_within (n - (i + 1)) p) p t (type_at p t)) f
      ∙ ap (λ x. and_spec place x (dimensions_within (n - (i + 1)) p component)) g)

  -- the innermost component
  pub specs_ended : spec_parts (type_at p t) ≡ None
      → and_specs ss (dimensions_within (n - i) p t) ≡ and_specs ss (no_dimensions t (size_in (type_at p t)))
  specs_ended f = ap (and_specs ss) (inward p n i t below ∙ ap (by_spec (dimensions_within (n - (i + 1)) p) p t (type_at p t)) f)

pub specs_run_out : (p : ProgramRows) (n i t : ℕ) (ss : List HeldSpec) → n - i ≡ 0 → and_specs ss (dimensions_within (n - i) p t) ≡ None
specs_run_out p n i t ss e = ap (λ m. and_specs ss (dimensions_within m p t)) e

-- ---- fixed arrays

abbrev by_types : ProgramRows → List HeldSpec → Option (ℕ × ℕ) → List Extent
by_types p ss None = []
by_types p ss (Some (index, component)) = extent_before (extent_in (type_at p index)) (fixed_extents p ss (type_at p component))

fixed_by : (p : ProgramRows) (s : HeldSpec) (ss : List HeldSpec) (t : Option TypeRow) → fixed_extents p (s ∷ ss) t ≡ by_types p ss (array_types t)
fixed_by p s ss None = refl
fixed_by p s ss (Some (TypeRow.Ordinal least greatest)) = refl
fixed_by p s ss (Some (TypeRow.Subrange host least greatest)) = refl
fixed_by p s ss (Some (TypeRow.Set packed base)) = refl
fixed_by p s ss (Some (TypeRow.Pointer domain)) = refl
fixed_by p s ss (Some (TypeRow.Array packed index component cells)) = refl
fixed_by p s ss (Some (TypeRow.Conformant packed index component place)) = refl
fixed_by p s ss (Some (TypeRow.Record packed region cells variants)) = refl

cut_at : {A : Type 0} (xs : List A) (i : ℕ) → i < length xs → (x : A) × (drop i xs ≡ x ∷ drop (suc i) xs)
cut_at [] i h = absurd (let q : ⊥ = omega (arith, h) in q)
cut_at (x ∷ xs) zero h = (x, refl)
cut_at (x ∷ xs) (suc i) h = cut_at xs i (omega (arith, h))

cut : {A : Type 0} (xs : List A) (i : ℕ) → i < length xs → (x : A) × (drop i xs ≡ x ∷ drop (i + 1) xs)
cut xs i h = let c = cut_at xs i h in (c.0, c.1 ∙ ap (λ n. c.0 ∷ drop n xs) (let e : suc i ≡ i + 1 = omega arith in e))

put_before : (e : Option Extent) (es : List Extent) → extent_before e es ≡ extent_before e [] ++ es
put_before None es = refl
put_before (Some e) es = refl

pub extents_onward : (p : ProgramRows) (ss : List HeldSpec) (i t index component : ℕ) (es : List Extent) → i < length ss
    → array_types (type_at p t) ≡ Some (index, component)
    → es ++ fixed_extents p (drop i ss) (type_at p t)
    ≡ (es ++ extent_before (extent_in (type_at p index)) []) ++ fixed_extents p (drop (i + 1) ss) (type_at p component)
extents_onward p ss i t index component es h f =
    let c = cut ss i h in
    ap (λ l. es ++ l) (ap (λ l. fixed_extents p l (type_at p t)) c.1 ∙ fixed_by p c.0 (drop (i + 1) ss) (type_at p t) ∙ ap (by_types p (drop (i + 1) ss)) f
    ∙ put_before (extent_in (type_at p index)) (fixed_extents p (drop (i + 1) ss) (type_at p component)))
    ∙ sym (append_assoc es (extent_before (extent_in (type_at p index)) []) (fixed_extents p (drop (i + 1) ss) (type_at p component)))

pub extents_stop : (p : ProgramRows) (ss : List HeldSpec) (i t : ℕ) (es : List Extent) → i < length ss → array_types (type_at p t) ≡ None
    → es ++ fixed_extents p (drop i ss) (type_at p t) ≡ es
extents_stop p ss i t es h f =
    let c = cut ss i h in
    ap (λ l. es ++ l) (ap (λ l. fixed_extents p l (type_at p t)) c.1 ∙ fixed_by p c.0 (drop (i + 1) ss) (type_at p t) ∙ ap (by_types p (drop (i + 1) ss)) f)
    ∙ append-nil es

pub extents_end : (p : ProgramRows) (ss : List HeldSpec) (i : ℕ) (t : Option TypeRow) (es : List Extent) → length ss ≤ i
    → es ++ fixed_extents p (drop i ss) t ≡ es
extents_end p ss i t es h = ap (λ l. es ++ fixed_extents p l t) (drop_all i ss h) ∙ append-nil es

pub lies_past : (es : List Extent) (ss : List HeldSpec) (i : ℕ) → i < length es → length ss ≤ i → all_lie_in (drop i es) (drop i ss) ≡ false
lies_past es ss i h k = let c = cut es i h in ap (λ l. all_lie_in l (drop i ss)) c.1 ∙ ap (all_lie_in (c.0 ∷ drop (i + 1) es)) (drop_all i ss k)
