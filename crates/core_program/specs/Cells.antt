-- Actions on cells and frames.
use Rattle.std.specs.Prelude.{if◌then◌else◌, ◌&&◌, ◌*◌, ◌++◌, ◌-ℤ◌, ◌∷◌, [], ℕ, ℤ, Bool, List, None, Option, Some}
use Rattle.std.specs.Prelude.{false, int_le, min, suc, true, unsigned_abs, zero}
use Rattle.cell_value.specs.{Effects.heap_end, declared.values.Value.Value, declared.ways_out.Kind.Kind}
use Rattle.core_program.specs.{Acts.Fault, Acts.ReadCell, Acts.WriteCell, Headings.may_stand_for}
use Rattle.core_program.specs.{ProgramRows.ProgramRows, State.moved, Values.defined, Values.defined_set, Values.tested}
use Rattle.core_program.specs.Actions.{◌>>=◌, Action, Fail, Give, act}
use Rattle.core_program.specs.declared.{components.Components.Components, rows.TypeRow.TypeRow}

-- a cell of the heap that is not there was disposed of
abbrev pub or_disposed : Option Value → Action Value
or_disposed (Some v) = Give v
or_disposed None = Fail (Fault Kind.Disposed)

-- the value in a cell
abbrev pub read_value : (addr : ℕ) → Action Value
read_value addr = do
  found ← act (ReadCell addr)
  or_disposed found

abbrev pub if_there : Bool → Action (Unit {0})
if_there true = Give tt
if_there false = Fail (Fault Kind.Disposed)

-- a value is put into a cell
abbrev pub write : (addr : ℕ) → Value → Action (Unit {0})
write addr v = act (WriteCell addr v) >>= if_there

-- the values of this many cells from an address on, after those that were read before
abbrev pub read_values : List Value → (addr cells : ℕ) → Action (List Value)
read_values vs addr zero = Give vs
read_values vs addr (suc n) = read_value addr >>= λ v. read_values (vs ++ v ∷ []) (moved addr 1) n

-- values are put into the cells from an address on
abbrev pub writes : (addr : ℕ) → List Value → Action (Unit {0})
writes addr [] = Give tt
writes addr (v ∷ vs) = write addr v >>= λ _. writes (moved addr 1) vs

-- the value of a variable of an ordinal type with these bounds
abbrev pub ordinal_at : (least greatest : ℤ) → (addr : ℕ) → Action Value
ordinal_at least greatest addr = read_value addr >>= defined least greatest

-- the value of a variable of a set type whose base type has these bounds
abbrev pub set_at : (least greatest : ℤ) → (addr : ℕ) → Action Value
set_at least greatest addr = read_value addr >>= defined_set least greatest

-- a variable of a type of one cell gets a value
abbrev pub assign : ProgramRows → Option TypeRow → (addr : ℕ) → Value → Action (Unit {0})
assign p t addr v = tested p t v >>= write addr

-- the base of the frame that a link names
abbrev pub frame_of_link : Value → Action ℕ
frame_of_link (Value.Frame base) = Give base
frame_of_link _ = Fail (Fault Kind.Undefined)

-- The base of the frame in which a frame's routine was declared. The link to it is the cell at the frame's base.
abbrev pub linked : (base : ℕ) → Action ℕ
linked base = read_value base >>= frame_of_link

-- the base of the frame to which this many links lead
abbrev pub frame_out : (levels base : ℕ) → Action ℕ
frame_out zero base = Give base
frame_out (suc n) base = linked base >>= frame_out n

-- the cell at a place in the frame to which this many links lead
abbrev pub cell_out : (levels base place : ℕ) → Action ℕ
cell_out levels base place = frame_out levels base >>= λ frame. Give (moved frame place)

-- the address of the variable that a variable parameter stands for
abbrev pub variable_of : Value → Action ℕ
variable_of (Value.Place addr) = Give (min addr heap_end)
variable_of _ = Fail (Fault Kind.Undefined)

-- the same, of a variable parameter whose cell is at an address
abbrev pub referred : (addr : ℕ) → Action ℕ
referred addr = read_value addr >>= variable_of

-- and of the one at a place in the frame to which this many links lead
abbrev pub reference_out : (levels base place : ℕ) → Action ℕ
reference_out levels base place = cell_out levels base place >>= referred

-- The routine that a routine parameter with this heading stands for, and the frame in which that was declared. A
-- routine that may be no actual of it counts as undefined.
abbrev pub routine_meant : ProgramRows → (heading : ℕ) → Value → Action (ℕ × ℕ)
routine_meant p heading (Value.Routine routine frame) =
    if may_stand_for p heading routine then Give (routine, frame) else Fail (Fault Kind.Undefined)
routine_meant p heading _ = Fail (Fault Kind.Undefined)

-- the same, of a routine parameter whose cell is at an address
abbrev pub routine_held : ProgramRows → (heading addr : ℕ) → Action (ℕ × ℕ)
routine_held p heading addr = read_value addr >>= routine_meant p heading

-- and of the one at a place in the frame to which this many links lead
abbrev pub routine_out : ProgramRows → (heading levels base place : ℕ) → Action (ℕ × ℕ)
routine_out p heading levels base place = cell_out levels base place >>= routine_held p heading

-- how far an ordinal stands from the least of its type
abbrev pub position_between : (least greatest : ℤ) → Value → Action ℕ
position_between least greatest (Value.Number n) =
    if int_le least n && int_le n greatest then Give (unsigned_abs (n -ℤ least)) else Fail (Fault Kind.OutOfRange)
position_between least greatest _ = Fail (Fault Kind.Undefined)

-- the component of an array variable at an address, by the value of its index (6.5.3.2)
abbrev pub component : Components → (addr : ℕ) → Value → Action ℕ
component array addr v = position_between array.least array.greatest v >>= λ n. Give (moved addr (n * array.size))
