-- What is read and written, by its rows.
use Rattle.std.proofs.Common.{◌+◌, ◌∙◌, ◌≡◌, ◌≤◌, ℕ, None, Ok, Option, Some, option_map, refl}
use Rattle.core_program.specs.{Actions.performs, Acts.TakeIf, Packing.with_array, ProgramRows.ProgramRows, ProgramRows.row_at, ProgramRows.size_of}
use Rattle.core_program.specs.{ProgramRows.type_at, Transfers.of_received, Transfers.received, Transfers.with_host, Tree.ActTree, Tree.Here}
use Rattle.core_program.specs.Accesses.{no_row, type_accessed, with_bounds, with_components, with_size}
use Rattle.core_program.specs.Input.{further, is_digit, leading, leads_on, scan_on}
use Rattle.core_program.specs.declared.{components.Components.Components, rows.ItemRow.ItemRow, rows.Row.Row}
use Rattle.core_program.specs.declared.rows.TypeRow.{TypeRow, TheVariants.Array, TheVariants.Ordinal, TheVariants.Subrange}
use Rattle.core_program.specs.declared.scan.{Scan.Scan, Scan.TheVariants.Blanks, Scan.TheVariants.Digits, Scanned.Scanned}
use Rattle.eval_ops.specs.{Arrays.array_in, Arrays.components_in, Arrays.components_of, Arrays.size_in, Items.element_in, Machines.DoesAll, Machines.Moment}
use Rattle.evaluator.proofs.StepsFall.{first_falls}
use Rattle.evaluator.specs.TransferFamilies.{host_in}

abbrev pub with_element : ProgramRows → Here → Option (ℕ × ℕ) → ActTree
with_element p h (Some (access, next)) = received p h access next (row_at p access)
with_element p h None = no_row

pub received_by : (p : ProgramRows) (h : Here) (r : Row) → of_received p h r ≡ with_element p h (element_in r)
received_by p h (Row.Item (ItemRow.Element access next)) = refl
received_by p h r = refl

-- a turn of the reading of an integer takes a step
pub scan_falls : (s : Scan) (x : Scanned) (m m' : Moment) → DoesAll {A = Scanned} {X = Scanned} (λ s. s) (performs (scan_on s) m.state) (Ok x) m m'
    → m'.state.steps + 1 ≤ m.state.steps
scan_falls Blanks x m m' h = first_falls {X = Scanned} (λ s. s) (TakeIf leads_on) leading x m m' h
scan_falls (Digits minus number) x m m' h = first_falls {X = Scanned} (λ s. s) (TakeIf is_digit) (further minus number) x m m' h

-- ---- hosts and sizes of types

abbrev pub with_number : Option ℕ → (ℕ → ActTree) → ActTree
with_number (Some n) go = go n
with_number None go = no_row

pub host_by : (of' : ℕ) (t : Option TypeRow) (go : ℕ → ActTree) → with_host of' t go ≡ with_number (host_in of' t) go
host_by of' (Some (Ordinal least greatest)) go = refl
host_by of' (Some (Subrange host least greatest)) go = refl
host_by of' t go = refl

pub sized_by : (t : Option TypeRow) (go : ℕ → ActTree) → with_size t go ≡ with_number (size_in t) go
sized_by None go = refl
sized_by (Some t) go = refl

-- ---- arrays

abbrev pub with_found : Option (ℕ × Components) → (ℕ → Components → ActTree) → ActTree
with_found (Some (cells, components)) go = go cells components
with_found None go = no_row

abbrev with_some : Option Components → (Components → ActTree) → ActTree
with_some (Some components) go = go components
with_some None go = no_row

bounds_by : (s t : Option TypeRow) (go : Components → ActTree)
    → with_bounds t (λ least greatest. with_size s (λ size. go (record { least = least; greatest = greatest; size = size })))
    ≡ with_some (components_of (size_in s) t) go
bounds_by None (Some (Ordinal least greatest)) go = refl
bounds_by (Some s) (Some (Ordinal least greatest)) go = refl
bounds_by None (Some (Subrange host least greatest)) go = refl
bounds_by (Some s) (Some (Subrange host least greatest)) go = refl
bounds_by None t go = refl
bounds_by (Some s) t go = refl

components_by : (p : ProgramRows) (t : Option TypeRow) (go : Components → ActTree) → with_components p t go ≡ with_some (components_in p t) go
components_by p (Some (Array packed index component cells)) go = bounds_by (type_at p component) (type_at p index) go
components_by p t go = refl

found_by : (cells : ℕ) (o : Option Components) (go : ℕ → Components → ActTree) → with_some o (go cells) ≡ with_found (option_map (λ c. (cells, c)) o) go
found_by cells (Some c) go = refl
found_by cells None go = refl

pub array_by : (p : ProgramRows) (r : Row) (go : ℕ → Components → ActTree) → with_array p r go ≡ with_found (array_in p r) go
array_by p (Row.Access a) go = components_by p (type_at p (type_accessed a)) (go (size_of p (type_accessed a)))
    ∙ found_by (size_of p (type_accessed a)) (components_in p (type_at p (type_accessed a))) go
array_by p r go = refl
