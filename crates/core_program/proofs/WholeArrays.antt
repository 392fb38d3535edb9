-- Where tables are whole, the arrays of conformant parameters have dimensions, and their actions are meant.
use Rattle.std.proofs.Common.{◌++◌, ◌+◌, ◌<◌, ◌∙◌, ◌∷◌, ◌≡◌, [], ℕ, Bool, List, None, Option, Some, ap, arith, false, inl, inr, is_some, length, ltb-true, min}
use Rattle.std.proofs.Common.{nat_lt, refl, suc, sym, true, zero}
use Rattle.std.proofs.lemmas.Bool.{cases_lt}
use Rattle.cell_value.specs.{Effects.heap_end, declared.values.Value.Value}
use Rattle.core_program.proofs.ActionsMeant.{IsMeant, component_meant, if_meant, next, no, read_meant, reads_meant}
use Rattle.core_program.proofs.WholeActions.{there}
use Rattle.core_program.specs.{Cells.read_value, Cells.read_values, Conformant.or_undefined, Conformant.read_each, Conformant.whole_at, Conformant.whole_over}
use Rattle.core_program.specs.{ProgramRows.ProgramRows, ProgramRows.row_at, ProgramRows.type_at, ProgramRows.type_in, declared.components.Components.Components}
use Rattle.core_program.specs.{declared.components.Extent.Extent, declared.components.HeldSpec.HeldSpec, declared.rows.Row.Row, declared.rows.TypeRow.TypeRow}
use Rattle.core_program.specs.Conformant.{Dimensions, all_lie_in, and_spec, bound_cells, bounds_tested, cells_over, component_or_fault, components_over}
use Rattle.core_program.specs.Conformant.{conformant_component_at, dimensions_in, dimensions_of, dimensions_within, extent_in, extents_at, extents_held}
use Rattle.core_program.specs.WholeTables.{RowFits, WholeTables, is_conformant, is_conformant_type, is_ordinal_type, is_type}

-- ---- actions

each_meant : (vs : List Value) (addrs : List ℕ) → IsMeant (read_each vs addrs)
each_meant vs [] = tt
each_meant vs (addr ∷ addrs) = next (read_value addr) _ (read_meant addr) (λ v. each_meant (vs ++ v ∷ []) addrs)

held_meant : (o : Option (List Extent)) → IsMeant (or_undefined o)
held_meant None = tt
held_meant (Some es) = tt

pub extents_meant : (specs : List HeldSpec) (frame : ℕ) → IsMeant (extents_at specs frame)
extents_meant specs frame = next (read_each [] (bound_cells frame specs)) _ (each_meant [] (bound_cells frame specs)) (λ vs. held_meant (extents_held specs vs))

found_meant : (o : Option Components) (addr : ℕ) (v : Value) → IsMeant (component_or_fault o addr v)
found_meant None addr v = tt
found_meant (Some c) addr v = component_meant c addr v

pub conformant_component_meant : (d : Dimensions) (addr frame : ℕ) (v : Value) → IsMeant (conformant_component_at d addr frame v)
conformant_component_meant d addr frame v =
    next (extents_at d.specs frame) _ (extents_meant d.specs frame) (λ es. found_meant (components_over es d.size) addr v)

over_meant : (es : List Extent) (size addr : ℕ) → IsMeant (whole_over es size addr)
over_meant es size addr = next (read_values [] addr (min (cells_over es size) (heap_end + 1))) _ (reads_meant [] addr (min (cells_over es size) (heap_end + 1)))
    (λ vs. tt)

pub whole_meant : (d : Dimensions) (addr frame : ℕ) → IsMeant (whole_at d addr frame)
whole_meant d addr frame = next (extents_at d.specs frame) _ (extents_meant d.specs frame) (λ es. over_meant es d.size addr)

pub bounds_meant : (es : List Extent) (specs : List HeldSpec) → IsMeant (bounds_tested es specs)
bounds_meant es specs = if_meant (λ _. Unit {0}) (all_lie_in es specs) _ _ tt tt

-- ---- dimensions

extent_there : (t : Option TypeRow) → is_ordinal_type t ≡ true → is_some (extent_in t) ≡ true
extent_there (Some (TypeRow.Ordinal least greatest)) h = refl
extent_there (Some (TypeRow.Subrange host least greatest)) h = refl
extent_there t h = no h

spec_there : (place : ℕ) (e : Option Extent) (d : Option Dimensions) → is_some e ≡ true → is_some d ≡ true → is_some (and_spec place e d) ≡ true
spec_there place None d h k = no h
spec_there place (Some e) None h k = no k
spec_there place (Some e) (Some d) h k = refl

module _ (p : ProgramRows) (W : WholeTables p) where
  -- a component that is no conformant array
  plain_in : (n t : ℕ) (o : Option TypeRow) → is_some o ≡ true → is_conformant_type o ≡ false → is_some (dimensions_in (dimensions_within n p) p t o) ≡ true
  plain_in n t None h e = no h
  plain_in n t (Some (TypeRow.Conformant packed index component place)) h e = no (sym e)
  plain_in n t (Some row) h e = refl

  plain_within : (n t : ℕ) → 0 < n → is_type p t ≡ true → is_conformant p t ≡ false → is_some (dimensions_within n p t) ≡ true
  plain_within zero t l h e = absurd (omega (arith, l))
  plain_within (suc n) t l h e = plain_in n t (type_at p t) h e

  -- What is inside stands after it, so that as many rows are enough as there are from here on.
  abbrev Within : ℕ → Type 0
  Within n = (t : ℕ) → is_conformant p t ≡ true → length p.rows < n + t → is_some (dimensions_within n p t) ≡ true

  component_within : (n t c : ℕ) → Within n → is_type p c ≡ true → (is_conformant p c ≡ true → nat_lt t c ≡ true) → length p.rows < suc n + t
      → t < length p.rows → is_some (dimensions_within n p c) ≡ true
  component_within n t c ih h after k l = by (is_conformant p c) refl
    where
      by : (b : Bool) → is_conformant p c ≡ b → is_some (dimensions_within n p c) ≡ true
      by true e = ih c e (let m : t < c = ltb-true t c (after e) in omega (arith, k, m))
      by false e = plain_within n c (omega (arith, k, l)) h e

  row_within : (n t : ℕ) (r : Row) → Within n → RowFits p t r → is_conformant_type (type_in r) ≡ true → length p.rows < suc n + t → t < length p.rows
      → is_some (dimensions_in (dimensions_within n p) p t (type_in r)) ≡ true
  row_within n t (Row.Type (TypeRow.Conformant packed index component place)) ih f h k l =
      spec_there place (extent_in (type_at p index)) (dimensions_within n p component) (extent_there (type_at p index) f.0)
      (component_within n t component ih f.1 f.2 k l)
  row_within n t (Row.Type q) ih f h k l = no h
  row_within n t r ih f h k l = no h

  within : (n : ℕ) → Within n
  within zero t h k = absurd (let l = there p (λ r. is_conformant_type (type_in r)) t refl h in omega (arith, k, l))
  within (suc n) t h k =
      row_within n t (row_at p t) (within n) (W.rows t) h k (there p (λ r. is_conformant_type (type_in r)) t refl h)

  pub dimensions_there : (t : ℕ) → is_conformant p t ≡ true → is_some (dimensions_of p t) ≡ true
  dimensions_there t h = within (length p.rows) t h (elim (cases_lt 0 t) [
    | inl l ↦ omega (arith, l)
    | inr l ↦ let e : t ≡ 0 = omega (arith, l) in no (sym (ap is_conformant_type W.integer) ∙ ap (is_conformant p) (sym e) ∙ h)
  ])
