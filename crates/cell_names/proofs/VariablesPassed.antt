-- Variables of a frame that a name is not of.
use Rattle.std.proofs.Common.{if◌then◌else◌, ◌+◌, ◌-◌, ◌==◌, ◌||◌, ◌∙◌, ◌∷◌, ◌≡◌, ◌≤◌, [], ℕ, Bool, List, None, Option, Some, ap, arith, codes, false, is_some}
use Rattle.std.proofs.{Common.nat_le, Common.refl, Common.sym, Common.true, lemmas.Bool.Decides.nat_tests}
use Rattle.core_program.specs.ProgramRows.{ProgramRows, routine_at, row_at, text_at}
use Rattle.core_program.specs.declared.{program.Routine.Routine, rows.Mode.Mode, rows.NameRow.NameRow, rows.Row.Row}
use Rattle.cell_names.proofs.{CellsAlike.not_past, CellsAlike.not_result, CellsAlike.plain_local, NameParts.call_is_all, NameParts.local_in_parts}
use Rattle.cell_names.proofs.{NameParts.whose_in_parts, NamesPassed.neither, NamesPassed.nothing_by, NamesPassed.unnamed_whole, PartsPassed.none_up_to}
use Rattle.cell_names.specs.NamedBy.{after_part, call_text, is_all, is_named_by, is_of_all, is_over, then_part}
use Rattle.cell_names.specs.Names.{Scene, copy_local, is_result, local_at, local_in, local_root, named_local, part_local, result_local, result_of, root}
use Rattle.cell_names.specs.Names.{root_in, whose_text}
use Rattle.cell_names.specs.Walks.{NoneAfter, before_end, before_result, is_local_at, is_named_root, is_of_local}
use Rattle.cell_names.specs.declared.{names.Frame.Frame, names.Origin.Origin, names.Spot.Spot, places.PlacedPart.PlacedPart}

not_over : (x : ℕ) (xs : List ℕ) (b : Bool) → is_over (x ∷ xs) ≡ b → b ≡ false
not_over x xs true e = absurd (let z : ⊥ = grind (arith, nat_tests, e) in z)
not_over x xs false e = refl

whole_by : (o : Option (List ℕ)) (left : List ℕ) → then_part (codes ".") o ≡ Some left → is_all o ≡ false
whole_by None left e = refl
whole_by (Some []) left e = absurd (let z : ◌≡◌ {A = Option (List ℕ)} None (Some left) = e in cc)
whole_by (Some (x ∷ xs)) left e = not_over x xs (is_over (x ∷ xs)) refl

all_by : (o : Option (List ℕ)) (name left : List ℕ) (b : Bool) → (if b then Some name else then_part (codes ".") o) ≡ Some left
    → (if b then false else is_all o) ≡ false
all_by o name left true e = refl
all_by o name left false e = whole_by o left e

-- a name that goes on with a variable is not that of the frame
not_all : (p : ProgramRows) (call routine token : ℕ) (name left : List ℕ) → after_part (whose_text p call routine) name ≡ Some left
    → is_of_all p (Origin.Local call routine token) name ≡ false
not_all p call routine token name left e =
    call_is_all p call routine name
    ∙ all_by (after_part (call_text p call routine) name) name left (call == 0) (sym (whose_in_parts p call routine (Some name)) ∙ e)

-- nor that of a variable with another name
other_variable : (s : Scene) (call routine token : ℕ) (name left : List ℕ) (at : Spot) → after_part (whose_text s.program call routine) name ≡ Some left
    → is_some (after_part (text_at s.program token) left) ≡ false → is_named_by s (root (Origin.Local call routine token) at) name ≡ false
other_variable s call routine token name left at is none =
    unnamed_whole s (root (Origin.Local call routine token) at) name (not_all s.program call routine token name left is)
    (local_in_parts s.program call routine token (Some name) ∙ ap (then_part (text_at s.program token)) is
    ∙ nothing_by (after_part (text_at s.program token) left) none)

by_row : (s : Scene) (call routine token place : ℕ) (name : List ℕ) (r : Row)
    → ((at : Spot) → is_named_by s (root (Origin.Local call routine token) at) name ≡ false)
    → is_named_root s name (local_root call routine (named_local s.program call token place r)) ≡ false
by_row s call routine token place name (Row.Name (NameRow.Variable Mode.Place of' at level)) other = other _
by_row s call routine token place name (Row.Name (NameRow.Variable Mode.Copy of' at level)) other = other _
by_row s call routine token place name (Row.Name (NameRow.Variable Mode.Own of' at level)) other = other _
by_row s call routine token place name (Row.Name (NameRow.Variable Mode.Value of' at level)) other = other _
by_row s call routine token place name (Row.Name (NameRow.Bound of' at level)) other = other _
by_row s call routine token place name (Row.Name (NameRow.RoutineFormal at level heading)) other = other _
by_row s call routine token place name r other = refl

by_part : (s : Scene) (call routine place : ℕ) (name left : List ℕ) (part : Option PlacedPart) → after_part (whose_text s.program call routine) name ≡ Some left
    → is_of_local s.program left part ≡ false → is_named_root s name (local_root call routine (part_local s.program call place part)) ≡ false
by_part s call routine place name left None is none = refl
by_part s call routine place name left (Some part) is none =
    by_row s call routine part.number (place - part.place) name (row_at s.program part.number)
    (λ at. other_variable s call routine part.number name left at is none)

by_place : (s : Scene) (f : Frame) (place : ℕ) (row : Routine) (name left : List ℕ) → after_part (whose_text s.program f.call f.routine) name ≡ Some left
    → is_local_at s f.routine row place left ≡ false → (b : Bool) → (place == 0) ≡ b
    → is_named_root s name (local_root f.call f.routine (local_in s f place (Some row))) ≡ false
by_place s f place row name left is none true e =
    ap (λ (b : Bool). is_named_root s name (local_root f.call f.routine (if b then None
    else if nat_le row.cells place then copy_local s f place row
    else if is_result row.result place then result_local row (result_of (row_at s.program row.heading))
    else part_local s.program f.call place (s.finding.frame f.routine place)))) e
by_place s f place row name left is none false e =
    let found = is_of_local s.program left (s.finding.frame f.routine place) in
    let all = neither (nat_le row.cells place) (is_result row.result place || found) none in
    let both = neither (is_result row.result place) found all.1 in
    ap (λ l. is_named_root s name (local_root f.call f.routine l)) (plain_local s f place row e all.0 both.0)
    ∙ by_part s f.call f.routine place name left (s.finding.frame f.routine place) is both.1

at_place : (s : Scene) (f : Frame) (place : ℕ) (row : Routine) (name left : List ℕ) → routine_at s.program f.routine ≡ Some row
    → after_part (whose_text s.program f.call f.routine) name ≡ Some left → is_local_at s f.routine row place left ≡ false
    → is_named_root s name (root_in s f.call f.top place (Some f.routine)) ≡ false
unfolding local_at
at_place s f place row name left known is none =
    ap (λ o. is_named_root s name (local_root f.call f.routine (local_in s f place o))) known
    ∙ by_place s f place row name left is none (place == 0) refl

-- places of variables with which what is left of the name does not go on, before the result of a function and within
-- the frame
pub not_locals : (s : Scene) (routine place : ℕ) (r : Routine) (left : List ℕ) (first more last : ℕ)
    → more ≤ first → NoneAfter (λ k. is_of_local s.program left (s.finding.frame routine (place + k))) more last
    → nat_le r.cells place ≡ false → is_result r.result place ≡ false
    → NoneAfter (λ k. is_local_at s routine r (place + k) left) first (before_end r.cells place (before_result r.result place last))
not_locals s routine place r left first more last within none inside other = λ k above below.
    let m = not_past r.cells place k (before_result r.result place last) inside below in
    let n = not_result r.result place k last other m.0 in
    let found = is_of_local s.program left (s.finding.frame routine (place + k)) in
    ap (λ b. b || (is_result r.result (place + k) || found)) m.1
    ∙ ap (λ b. b || found) n.1 ∙ none k (omega (arith, within, above)) n.0

-- variables that the name is not of, from a place on
pub variables_passed : (s : Scene) (f : Frame) (place : ℕ) (row : Routine) (name left : List ℕ) (first last : ℕ)
    → routine_at s.program f.routine ≡ Some row → after_part (whose_text s.program f.call f.routine) name ≡ Some left
    → ((k : ℕ) → k ≤ first → is_named_root s name (root_in s f.call f.top (place + k) (Some f.routine)) ≡ false)
    → NoneAfter (λ k. is_local_at s f.routine row (place + k) left) first last
    → (k : ℕ) → k ≤ last → is_named_root s name (root_in s f.call f.top (place + k) (Some f.routine)) ≡ false
variables_passed s f place row name left first last known is up none =
    none_up_to (λ k. is_named_root s name (root_in s f.call f.top (place + k) (Some f.routine))) first last up
    (λ k above below. at_place s f (place + k) row name left known is (none k above below))
