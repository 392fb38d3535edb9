-- Cells that stand one after another in the same component, field or variable.
use Rattle.std.proofs.Common.{if◌then◌else◌, ◌%◌, ◌*◌, ◌+ℤ◌, ◌+◌, ◌-◌, ◌/◌, ◌<◌, ◌==◌, ◌∙◌, ◌≡◌, ◌≤◌, ℕ, ℤ, Bool, None, Option, Some, ap, arith, false, min}
use Rattle.std.proofs.Common.{mod-lt, nat_le, nat_lt, pos, refl, suc, sym, true, zero}
use Rattle.std.proofs.lemmas.{Bool.Decides.nat_tests, Nat.div-add-mod', Nat.div-mul-add, Nat.mod-mul-add}
use Rattle.core_program.specs.ProgramRows.{ProgramRows, row_at, size_of, type_at}
use Rattle.core_program.specs.declared.{components.Extent.Extent, program.Routine.Routine}
use Rattle.core_program.specs.declared.rows.{Mode.Mode, NameRow.NameRow, Row.Row, TypeRow.TypeRow}
use Rattle.cell_names.specs.{Places.is_begun_by, Values.bounds_of, declared.places.PlacedPart.PlacedPart}
use Rattle.cell_names.specs.Conformant.{cells_held, extent_of, held_in}
use Rattle.cell_names.specs.Names.{Scene, array_step, conformant_step, copy_local, extent_step, field_step, is_result, least_in, local_in, named_local}
use Rattle.cell_names.specs.Names.{part_local, record_step, result_local, result_of, spot, step, step_by, step_down, typed_step}
use Rattle.cell_names.specs.Walks.{before_end, before_result, left_of_component, moved, moved_local, moved_step}
use Rattle.cell_names.specs.declared.names.{Frame.Frame, Held.Held, Selector.Selector, Spot.Spot, Step.Step}

pub same_row : (place size k : ℕ) → k ≤ size - place % suc size → place % suc size ≤ size → (place + k) / suc size ≡ place / suc size
same_row place size k below in_row =
    let e = div-add-mod' place (suc size) in
    let s : place + k ≡ place / suc size * suc size + (place % suc size + k) = omega (arith, e) in
    ap (λ n. n / suc size) s ∙ div-mul-add (place / suc size) (suc size) (place % suc size + k) (omega (arith, below, in_row))

same_column : (place size k : ℕ) → k ≤ size - place % suc size → place % suc size ≤ size → (place + k) % suc size ≡ place % suc size + k
same_column place size k below in_row =
    let e = div-add-mod' place (suc size) in
    let s : place + k ≡ place / suc size * suc size + (place % suc size + k) = omega (arith, e) in
    ap (λ n. n % suc size) s ∙ mod-mul-add (place / suc size) (suc size) (place % suc size + k) (omega (arith, below, in_row))

abbrev in_array : (index : ℕ) → (least : ℤ) → (h : Held) → (which place : ℕ) → Option Step
in_array index least h which place = Some (step (Selector.Index index (least +ℤ pos which)) (spot h place))

pub mod_le : (a n : ℕ) → a % suc n ≤ n
mod_le a n = let h : a % suc n < suc n = mod-lt a (omega arith) in omega (arith, h)

-- cells of one component of an array
pub component_moves : (index : ℕ) (least : ℤ) (h : Held) (place k size : ℕ) → k ≤ left_of_component place size
    → array_step index least h (place + k) size ≡ moved_step k (array_step index least h place size)
component_moves index least h place k zero below = refl
component_moves index least h place k (suc n) below =
    let in_row : place % suc n ≤ n = mod_le place n in
    ap (λ q. in_array index least h q ((place + k) % suc n)) (same_row place n k below in_row)
    ∙ ap (in_array index least h (place / suc n)) (same_column place n k below in_row)

extent_moves : (index : ℕ) (e : Option Extent) (h : Held) (place k size : ℕ) → k ≤ left_of_component place size
    → extent_step index e h (place + k) size ≡ moved_step k (extent_step index e h place size)
extent_moves index None h place k size below = refl
extent_moves index (Some e) h place k size below = component_moves index e.least h place k size below

-- cells of one field or tag
field_moves : (number place k : ℕ) (r : Row) → field_step number (place + k) r ≡ moved_step k (field_step number place r)
field_moves number place k (Row.Name (NameRow.Field of' offset holder)) = refl
field_moves number place k (Row.Name (NameRow.Tag of' offset holder variants)) = refl
field_moves number place k (Row.Part r) = refl
field_moves number place k r = refl

pub after_begin : (at place k : ℕ) → nat_le at place ≡ true → (place + k) - at ≡ (place - at) + k
after_begin at place k e = let h : at ≤ place = grind (arith, nat_tests, e) in omega (arith, h)

pub record_moves : (p : ProgramRows) (place k : ℕ) (part : Option PlacedPart) → is_begun_by place part ≡ true
    → record_step p (place + k) part ≡ moved_step k (record_step p place part)
record_moves p place k None e = refl
record_moves p place k (Some x) e =
    ap (λ n. field_step x.number n (row_at p x.number)) (after_begin x.place place k e) ∙ field_moves x.number (place - x.place) k (row_at p x.number)

-- cells of one variable of a frame
named_moves : (p : ProgramRows) (call token place k : ℕ) (r : Row)
    → named_local p call token (place + k) r ≡ moved_local k (named_local p call token place r)
named_moves p call token place k (Row.Name (NameRow.Variable Mode.Place of' at level)) = refl
named_moves p call token place k (Row.Name (NameRow.Variable Mode.Copy of' at level)) = refl
named_moves p call token place k (Row.Name (NameRow.Variable Mode.Own of' at level)) = refl
named_moves p call token place k (Row.Name (NameRow.Variable Mode.Value of' at level)) = refl
named_moves p call token place k (Row.Name (NameRow.Bound of' at level)) = refl
named_moves p call token place k (Row.Name (NameRow.RoutineFormal at level heading)) = refl
named_moves p call token place k r = refl

part_moves : (p : ProgramRows) (call place k : ℕ) (part : Option PlacedPart) → is_begun_by place part ≡ true
    → part_local p call (place + k) part ≡ moved_local k (part_local p call place part)
part_moves p call place k None e = refl
part_moves p call place k (Some x) e =
    ap (λ n. named_local p call x.number n (row_at p x.number)) (after_begin x.place place k e)
    ∙ named_moves p call x.number (place - x.place) k (row_at p x.number)

pub plain_local : (s : Scene) (f : Frame) (place : ℕ) (r : Routine) → (place == 0) ≡ false → nat_le r.cells place ≡ false
    → is_result r.result place ≡ false → local_in s f place (Some r) ≡ part_local s.program f.call place (s.finding.frame f.routine place)
plain_local s f place r first within other =
    let own = part_local s.program f.call place (s.finding.frame f.routine place) in
    let result = result_local r (result_of (row_at s.program r.heading)) in
    let copy = copy_local s f place r in
    ap (λ (b : Bool). if b then None else (if nat_le r.cells place then copy else (if is_result r.result place then result else own))) first
    ∙ ap (λ (b : Bool). if b then copy else (if is_result r.result place then result else own)) within
    ∙ ap (λ (b : Bool). if b then result else own) other

result_before : (at place k more : ℕ) (b : Bool) → nat_lt place at ≡ b → (at == place) ≡ false
    → k ≤ (if b then min more (at - place - 1) else more) → (k ≤ more) × ((at == place + k) ≡ false)
result_before at place k more true e other below = grind (arith, nat_tests, e, other, below)
result_before at place k more false e other below = grind (arith, nat_tests, e, other, below)

pub not_result : (result : Option ℕ) (place k more : ℕ) → is_result result place ≡ false → k ≤ before_result result place more
    → (k ≤ more) × (is_result result (place + k) ≡ false)
not_result None place k more other below = (below, refl)
not_result (Some at) place k more other below = result_before at place k more (nat_lt place at) refl other below

pub not_past : (cells place k more : ℕ) → nat_le cells place ≡ false → k ≤ before_end cells place more
    → (k ≤ more) × (nat_le cells (place + k) ≡ false)
not_past cells place k more within below = grind (arith, nat_tests, within, below)

-- what has a place of a frame and the places after it
pub record IsLocal (s : Scene) (number place : ℕ) (r : Routine) (part : Option PlacedPart) (more : ℕ) : Type 0 where
  pub first : (place == 0) ≡ false
  pub within : nat_le r.cells place ≡ false
  pub other : is_result r.result place ≡ false
  pub alike : (k : ℕ) → k ≤ more → s.finding.frame number (place + k) ≡ part
  pub begun : is_begun_by place part ≡ true

pub local_moves : (s : Scene) (f : Frame) (place : ℕ) (r : Routine) (part : Option PlacedPart) (more k : ℕ) → IsLocal s f.routine place r part more
    → k ≤ before_end r.cells place (before_result r.result place more)
    → local_in s f (place + k) (Some r) ≡ moved_local k (local_in s f place (Some r))
local_moves s f place r part more k l below =
    let m = not_past r.cells place k (before_result r.result place more) l.within below in
    let n = not_result r.result place k more l.other m.0 in
    let p = s.program in
    let z : (place + k == 0) ≡ false = let g = l.first in grind (arith, nat_tests, g) in
    let here : s.finding.frame f.routine place ≡ part =
    let e : place ≡ place + 0 = omega arith in ap (s.finding.frame f.routine) e ∙ l.alike 0 (omega arith) in
    plain_local s f (place + k) r z m.1 n.1 ∙ ap (part_local p f.call (place + k)) (l.alike k n.0) ∙ part_moves p f.call place k part l.begun
    ∙ sym (ap (moved_local k) (plain_local s f place r l.first l.within l.other ∙ ap (part_local p f.call place) here))

-- the same cell
pub moved_none : (at : Spot) → moved 0 at ≡ at
moved_none at = let e : at.place + 0 ≡ at.place = omega arith in ap (λ n. spot at.held n) e

pub moved_twice : (k m : ℕ) (at : Spot) → moved k (moved m at) ≡ moved (m + k) at
moved_twice k m at = let e : (at.place + m) + k ≡ at.place + (m + k) = omega arith in ap (λ n. spot at.held n) e

by_type : (s : Scene) (at : Spot) (of' : ℕ) (t : Option TypeRow) → at.held ≡ Held.Variable of' → type_at s.program of' ≡ t
    → step_down s at ≡ typed_step s of' at.place t
unfolding step_down
by_type s at of' t e f = ap (step_by s at.place) e ∙ ap (typed_step s of' at.place) f

-- cells of one component of an array
pub array_below : (s : Scene) (at : Spot) (of' k index component cells : ℕ) (packed : Bool) → at.held ≡ Held.Variable of'
    → type_at s.program of' ≡ Some (TypeRow.Array packed index component cells) → k ≤ left_of_component at.place (size_of s.program component)
    → step_down s (moved k at) ≡ moved_step k (step_down s at)
array_below s at of' k index component cells packed e f below =
    let p = s.program in
    by_type s (moved k at) of' _ e f
    ∙ component_moves index (least_in (bounds_of p index)) (Held.Variable component) at.place k (size_of p component) below
    ∙ ap (moved_step k) (sym (by_type s at of' _ e f))

by_schema : (s : Scene) (at : Spot) (call of' : ℕ) (t : Option TypeRow) → at.held ≡ Held.Conformant call of' → type_at s.program of' ≡ t
    → step_down s at ≡ conformant_step s call at.place t
unfolding step_down
by_schema s at call of' t e f = ap (step_by s at.place) e ∙ ap (conformant_step s call at.place) f

-- the same of the array of a conformant parameter
pub conformant_below : (s : Scene) (at : Spot) (call of' k index component place : ℕ) (packed : Bool) → at.held ≡ Held.Conformant call of'
    → type_at s.program of' ≡ Some (TypeRow.Conformant packed index component place)
    → k ≤ left_of_component at.place (cells_held s.program s.args call component) → step_down s (moved k at) ≡ moved_step k (step_down s at)
conformant_below s at call of' k index component place packed e f below =
    let p = s.program in
    by_schema s (moved k at) call of' _ e f
    ∙ extent_moves index (extent_of p s.args call index place) (held_in p call component) at.place k (cells_held p s.args call component) below
    ∙ ap (moved_step k) (sym (by_schema s at call of' _ e f))

-- cells of one field of a record
pub record_below : (s : Scene) (at : Spot) (of' k more region cells : ℕ) (variants : Option ℕ) (packed : Bool) (part : Option PlacedPart)
    → at.held ≡ Held.Variable of' → type_at s.program of' ≡ Some (TypeRow.Record packed region cells variants)
    → ((m : ℕ) → m ≤ more → s.finding.component of' (at.place + m) ≡ part) → is_begun_by at.place part ≡ true → k ≤ more
    → step_down s (moved k at) ≡ moved_step k (step_down s at)
record_below s at of' k more region cells variants packed part e f same begun below =
    let here : s.finding.component of' at.place ≡ part =
    let z : at.place ≡ at.place + 0 = omega arith in ap (s.finding.component of') z ∙ same 0 (omega arith) in
    by_type s (moved k at) of' _ e f ∙ ap (record_step s.program (at.place + k)) (same k below) ∙ record_moves s.program at.place k part begun
    ∙ ap (λ o. moved_step k (record_step s.program at.place o)) (sym here) ∙ ap (moved_step k) (sym (by_type s at of' _ e f))
