-- Packing and unpacking of arrays (6.6.5.4).
use Rattle.std.specs.Prelude.{if◌then◌else◌, ◌*◌, ◌+◌, ◌-ℤ◌, [], ℕ, Bool, false, nat_lt, true, unsigned_abs}
use Rattle.cell_value.specs.declared.{values.Value.Value, ways_out.Kind.Kind}
use Rattle.core_program.specs.{Actions.◌>>=◌, Actions.Action, Actions.Fail, Actions.Give, Acts.Fault}
use Rattle.core_program.specs.{Cells.position_between, Cells.read_values, Cells.writes, State.moved, Tree.ActTree}
use Rattle.core_program.specs.{Tree.Here, Tree.doing, declared.components.Components.Components, declared.rows.Row.Row}
use Rattle.core_program.specs.Accesses.{eval, locate, no_row, type_accessed, with_components}
use Rattle.core_program.specs.ProgramRows.{ProgramRows, row_at, size_of, type_at}

-- how many components an array has
abbrev pub count_of : Components → ℕ
count_of array = unsigned_abs (array.greatest -ℤ array.least) + 1

-- The component at a position of an unpacked array variable at an address, if the array has as many from there on as
-- a packed one.
abbrev pub start_at : (unpacked packed : Components) → (addr n : ℕ) → Action ℕ
start_at unpacked packed addr n =
    if nat_lt (count_of unpacked) (n + count_of packed) then Fail (Fault Kind.OutOfRange)
    else Give (moved addr (n * unpacked.size))

-- the same by the value of an index
abbrev pub first_moved : (unpacked packed : Components) → (addr : ℕ) → Value → Action ℕ
first_moved unpacked packed addr v =
    position_between unpacked.least unpacked.greatest v >>= start_at unpacked packed addr

-- this many cells are copied, all read before the first is written
abbrev pub copies : (from to cells : ℕ) → Action (Unit {0})
copies from to cells = read_values [] from cells >>= writes to

-- goes on with an array that is accessed: its cells, and what its type says of its components
abbrev pub with_array : ProgramRows → Row → (ℕ → Components → ActTree) → ActTree
with_array p (Row.Access a) go = with_components p (type_at p (type_accessed a)) (go (size_of p (type_accessed a)))
with_array p r go = no_row

-- once both arrays are located and the index is known
abbrev pub moves : ProgramRows → Here → (packing : Bool) → (unpacked packed : ℕ) → (a z : ℕ) → Value
    → (Action (Unit {0}) → ActTree) → ActTree
moves p here packing unpacked packed a z v go = with_array p (row_at p unpacked) (λ _ wide.
    with_array p (row_at p packed) (λ cells close. doing here.line (first_moved wide close a v) (λ at.
    go (if packing then copies at z cells else copies z at cells))))

-- The arrays are located in the order of the actuals, then the index is evaluated and tested, and then the components
-- of the packed array, in order, are those of the unpacked one from the index on, or the other way round.
abbrev pub pack : ProgramRows → Here → (packing : Bool) → (unpacked index packed : ℕ) → (Action (Unit {0}) → ActTree)
    → ActTree
pack p here true unpacked index packed go = locate unpacked here (λ a. locate packed here (λ z.
    eval index here (λ v. moves p here true unpacked packed a z v go)))
pack p here false unpacked index packed go = locate packed here (λ z. locate unpacked here (λ a.
    eval index here (λ v. moves p here false unpacked packed a z v go)))
