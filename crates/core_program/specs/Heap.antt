-- Pointers, and the variables of the heap to which they point (6.4.4, 6.5.4, 6.6.5.3).
use Rattle.std.specs.Prelude.{if◌then◌else◌, ◌&&◌, ◌==◌, ℕ, Bool, Err, Ok, Result, false, nat_le, nat_lt, not, true}
use Rattle.cell_value.specs.{Effects.heap_end, declared.values.Value.Value, declared.ways_out.Kind.Kind}
use Rattle.cell_value.specs.declared.faults.OpFault.{OpFault, TheVariants.UndefinedValue}
use Rattle.core_program.specs.{Cells.if_there, Cells.read_value, State.stack_end, Values.as_value}
use Rattle.core_program.specs.Actions.{◌>>=◌, Action, Fail, Give, act}
use Rattle.core_program.specs.Acts.{DropBlock, Fault, HasCell, MakeBlock}

-- The values of a pointer type are nil and the addresses of the heap. Whatever else a cell of such a type holds counts
-- as undefined.
abbrev pub is_pointer : Value → Bool
is_pointer Value.Nil = true
is_pointer (Value.Heap addr) = nat_le stack_end addr && nat_lt addr heap_end
is_pointer _ = false

-- a value that was read from a variable of a pointer type, for its use (6.5.1)
abbrev pub defined_pointer : Value → Action Value
defined_pointer v = if is_pointer v then Give v else Fail (Fault Kind.Undefined)

-- the value of a variable of a pointer type
abbrev pub pointer_at : (addr : ℕ) → Action Value
pointer_at addr = read_value addr >>= defined_pointer

-- the variable to which a pointer points
abbrev pub variable_under : Value → Action ℕ
variable_under (Value.Heap addr) = Give addr
variable_under Value.Nil = Fail (Fault Kind.NilPointer)
variable_under _ = Fail (Fault Kind.Undefined)

-- the same of a value that may be none of a pointer type
abbrev pub pointed_by : Value → Action ℕ
pointed_by v = defined_pointer v >>= variable_under

-- and of the pointer that is the value of the variable at an address; whether the variable under it is there, is not
-- asked (6.5.4)
abbrev pub pointed_at : (addr : ℕ) → Action ℕ
pointed_at addr = read_value addr >>= pointed_by

-- the block at an address is dropped, if it is there
abbrev pub drop_found : (addr cells : ℕ) → Action (Unit {0})
drop_found addr cells = do
  found ← act (HasCell addr)
  there ← if_there found
  act (DropBlock addr cells)

-- the variable under a pointer, of a type with this many cells, is disposed of (6.6.5.3)
abbrev pub dispose : (cells : ℕ) → Value → Action (Unit {0})
dispose cells v = pointed_by v >>= λ addr. drop_found addr cells

-- a variable of a type with this many cells is made; the value of the pointer to it (6.6.5.3)
abbrev pub made_variable : (cells of' : ℕ) → Action Value
made_variable cells of' = act (MakeBlock cells of') >>= λ addr. Give (Value.Heap addr)

-- what a function of a pointer type returns, by the value of its result
abbrev pub or_no_pointer : Value → Action Value
or_no_pointer v = if is_pointer v then Give v else Fail (Fault Kind.UndefinedResult)

abbrev pub pointer_result_at : (addr : ℕ) → Action Value
pointer_result_at addr = read_value addr >>= or_no_pointer

-- Two pointers are equal if both are nil, or both point to the same variable; whether that is still there, is not asked
-- (6.7.2.5).
abbrev pub same_pointer : Value → Value → Result Bool OpFault
same_pointer Value.Nil Value.Nil = Ok true
same_pointer Value.Nil (Value.Heap b) = Ok false
same_pointer (Value.Heap a) Value.Nil = Ok false
same_pointer (Value.Heap a) (Value.Heap b) = Ok (a == b)
same_pointer _ _ = Err UndefinedValue

-- `=` and `<>` of pointers
abbrev pub pointers_related : (equal same : Bool) → Bool
pointers_related true same = same
pointers_related false same = not same

abbrev pub if_related : (equal : Bool) → Result Bool OpFault → Result Bool OpFault
if_related equal (Ok same) = Ok (pointers_related equal same)
if_related equal (Err fault) = Err fault

abbrev pub pointers_compared : (equal : Bool) → Value → Value → Result Value OpFault
pointers_compared equal v w = as_value (if_related equal (same_pointer v w))
