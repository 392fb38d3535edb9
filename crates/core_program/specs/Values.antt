-- Values of scalar types and of sets: tests, operators and the required functions of ordinals; strings.
use Rattle.std.specs.Prelude.{if◌then◌else◌, ◌%◌, ◌&&◌, ◌*ℤ◌, ◌+ℤ◌, ◌-ℤ◌, ◌||◌, ℕ, ℤ, Bool, Err, List, None, Ok, Option}
use Rattle.std.specs.Prelude.{Result, Some, false, int_le, int_lt, map, nat_eq, not, pos, true, unsigned_abs}
use Rattle.std.specs.Ordering.{int_eq}
use Rattle.cell_value.specs.{Sets.union_of, Sets.with_range_of, declared.ways_out.Kind.Kind}
use Rattle.cell_value.specs.Arithmetic.{in_range_of, integer, negate_of}
use Rattle.cell_value.specs.Comparisons as lists
use Rattle.cell_value.specs.Sets.{difference_of, has_number, intersection_of, is_included, lies_between, set_of}
use Rattle.cell_value.specs.declared.faults.OpFault.{OpFault, TheVariants.ZeroDivisor}
use Rattle.cell_value.specs.declared.faults.OpFault.TheVariants.{BadModulus, OutOfRange, Overflow, UndefinedValue}
use Rattle.cell_value.specs.declared.values.{Order.Order, SetBits.SetBits, Value.Value}
use Rattle.cell_value.specs.declared.values.Order.TheVariants.{AtLeast, AtMost, Equal, Greater, Less, NotEqual}
use Rattle.core_program.specs.{Acts.Fault, ProgramRows.ProgramRows, ProgramRows.type_at}
use Rattle.core_program.specs.Actions.{Action, Fail, Give, NoMeaning}
use Rattle.core_program.specs.declared.rows.{OrdinalFunction.OrdinalFunction, SetOperator.SetOperator, TypeRow.TypeRow}
use Rattle.core_program.specs.declared.rows.Logic.{Logic, TheVariants.And, TheVariants.Or}
use Rattle.core_program.specs.declared.rows.OrdinalFunction.TheVariants.{Abs, Chr, Odd, Ord, Pred, Sqr, Succ}
use Rattle.core_program.specs.declared.rows.SetOperator.TheVariants.{Difference, Intersection, Union}
use Rattle.core_program.specs.declared.rows.TypeRow.TheVariants.{Ordinal, Pointer, Set, Subrange}

-- the fault of an operation that has no result
abbrev pub kind_of : OpFault → Kind
kind_of Overflow = Kind.Overflow
kind_of ZeroDivisor = Kind.ZeroDivisor
kind_of BadModulus = Kind.BadModulus
kind_of OutOfRange = Kind.OutOfRange
kind_of UndefinedValue = Kind.Undefined

-- the result of an operation, or its fault
abbrev pub or_fault : Result Value OpFault → Action Value
or_fault (Ok v) = Give v
or_fault (Err e) = Fail (Fault (kind_of e))

-- a value that is none of its type counts as undefined, and its use is a fault
abbrev pub or_undefined : Result Value OpFault → Action Value
or_undefined (Ok v) = Give v
or_undefined (Err e) = Fail (Fault Kind.Undefined)

-- a value that was read from a variable of an ordinal type with these bounds, for its use (6.5.1)
abbrev pub defined : (least greatest : ℤ) → Value → Action Value
defined least greatest v = or_undefined (in_range_of v least greatest)

-- A value that was read from a variable of a set type, for its use (6.5.1); the base type has these bounds. A set with
-- a member outside of them is no value of the type.
abbrev pub defined_set : (least greatest : ℤ) → Value → Action Value
defined_set least greatest (Value.Bits set) =
    if lies_between set least greatest then Give (Value.Bits set) else Fail (Fault Kind.Undefined)
defined_set least greatest _ = Fail (Fault Kind.Undefined)

-- each member of a set is a value of the base type with these bounds
abbrev pub set_in_range : Value → (least greatest : ℤ) → Result Value OpFault
set_in_range (Value.Bits set) least greatest =
    if lies_between set least greatest then Ok (Value.Bits set) else Err OutOfRange
set_in_range _ least greatest = Err UndefinedValue

-- the test of a value that a variable of a set type with this base type is to get
abbrev pub set_test : (base : Option TypeRow) → Value → Option (Result Value OpFault)
set_test (Some (Ordinal least greatest)) v = Some (set_in_range v least greatest)
set_test (Some (Subrange host least greatest)) v = Some (set_in_range v least greatest)
set_test t v = None

-- the test of a value that a variable of a type is to get (6.4.6): within an ordinal type, and of a set each member
-- within the base type
abbrev pub test_of : ProgramRows → Option TypeRow → Value → Option (Result Value OpFault)
test_of p (Some (Ordinal least greatest)) v = Some (in_range_of v least greatest)
test_of p (Some (Subrange host least greatest)) v = Some (in_range_of v least greatest)
test_of p (Some (Set packed base)) v = set_test (type_at p base) v
test_of p (Some (Pointer domain)) v = Some (Ok v)
test_of p t v = None

-- the result of a test, if the type is there and is one of values of one cell
abbrev pub as_tested : Option (Result Value OpFault) → Action Value
as_tested None = NoMeaning
as_tested (Some r) = or_fault r

abbrev pub tested : ProgramRows → Option TypeRow → Value → Action Value
tested p t v = as_tested (test_of p t v)

-- false has the ordinal 0, and true 1
abbrev pub truth : Bool → Value
truth true = Value.Number (pos 1)
truth false = Value.Number (pos 0)

abbrev pub is_true : Value → Bool
is_true (Value.Number n) = not (int_eq n (pos 0))
is_true _ = false

-- the sign before an integer (6.7.2.2)
abbrev pub with_sign_of : (minus : Bool) → Value → Result Value OpFault
with_sign_of true v = negate_of v
with_sign_of false (Value.Number n) = Ok (Value.Number n)
with_sign_of false _ = Err UndefinedValue

-- and, or (6.7.2.3)
abbrev pub logic_of : Logic → Bool → Bool → Bool
logic_of And a b = a && b
logic_of Or a b = a || b

-- a relation of two ordinals (6.7.2.5)
abbrev pub holds : Order → ℤ → ℤ → Bool
holds Equal i j = int_eq i j
holds NotEqual i j = not (int_eq i j)
holds Less i j = int_lt i j
holds Greater i j = int_lt j i
holds AtMost i j = int_le i j
holds AtLeast i j = int_le j i

abbrev pub comparison : Order → Value → Value → Result Value OpFault
comparison order (Value.Number i) (Value.Number j) = Ok (truth (holds order i j))
comparison order _ _ = Err UndefinedValue

abbrev pub is_odd : ℤ → Bool
is_odd n = nat_eq (unsigned_abs n % 2) 1

-- the required functions of an ordinal, whose host type has these bounds (6.6.6)
abbrev pub function_at : OrdinalFunction → (least greatest : ℤ) → ℤ → Result Value OpFault
function_at Abs least greatest n = integer (pos (unsigned_abs n))
function_at Sqr least greatest n = integer (n *ℤ n)
function_at Odd least greatest n = Ok (truth (is_odd n))
function_at Ord least greatest n = Ok (Value.Number n)
function_at Chr least greatest n = in_range_of (Value.Number n) (pos 0) (pos 255)
function_at Succ least greatest n = in_range_of (Value.Number (n +ℤ pos 1)) least greatest
function_at Pred least greatest n = in_range_of (Value.Number (n -ℤ pos 1)) least greatest

abbrev pub function_of : OrdinalFunction → (least greatest : ℤ) → Value → Result Value OpFault
function_of f least greatest (Value.Number n) = function_at f least greatest n
function_of f least greatest _ = Err UndefinedValue

-- ---- sets

abbrev pub no_members : Value
no_members = Value.Bits (set_of (λ ordinal. false))

-- the values that a member of a set constructor can have
abbrev pub is_member_value : ℤ → Bool
is_member_value i = int_le (pos 0) i && int_le i (pos 255)

-- A set with the members from one to another, which is none where the first is greater. Each end of a range that has
-- members is tested (6.7.1).
abbrev pub range_added : SetBits → (first last : ℤ) → Result Value OpFault
range_added set first last =
    if int_lt last first then Ok (Value.Bits set)
    else if is_member_value first && is_member_value last
    then Ok (Value.Bits (with_range_of set (unsigned_abs first) (unsigned_abs last)))
    else Err OutOfRange

abbrev pub members_added : (set first last : Value) → Result Value OpFault
members_added (Value.Bits set) (Value.Number first) (Value.Number last) = range_added set first last
members_added _ _ _ = Err UndefinedValue

-- the operators on sets (6.7.2.4)
abbrev pub set_by : SetOperator → SetBits → SetBits → SetBits
set_by Union a b = union_of a b
set_by Difference a b = difference_of a b
set_by Intersection a b = intersection_of a b

abbrev pub sets_of : SetOperator → Value → Value → Result Value OpFault
sets_of operator (Value.Bits a) (Value.Bits b) = Ok (Value.Bits (set_by operator a b))
sets_of operator _ _ = Err UndefinedValue

-- Relations of sets (6.7.2.5): sets with the same members are equal, and `<=` and `>=` say which includes which. The
-- others are no relations of sets.
abbrev pub same_members : SetBits → SetBits → Bool
same_members a b = is_included a b && is_included b a

abbrev pub sets_related : Order → SetBits → SetBits → Result Value OpFault
sets_related Equal a b = Ok (truth (same_members a b))
sets_related NotEqual a b = Ok (truth (not (same_members a b)))
sets_related AtMost a b = Ok (truth (is_included a b))
sets_related AtLeast a b = Ok (truth (is_included b a))
sets_related order a b = Err UndefinedValue

abbrev pub sets_compared : Order → Value → Value → Result Value OpFault
sets_compared order (Value.Bits a) (Value.Bits b) = sets_related order a b
sets_compared order _ _ = Err UndefinedValue

-- whether an ordinal is a member of a set (6.7.2.5)
abbrev pub in_set : (member set : Value) → Result Value OpFault
in_set (Value.Number i) (Value.Bits set) = Ok (truth (has_number set i))
in_set _ _ = Err UndefinedValue

-- ---- strings

-- the values of the components of a string, by its characters
abbrev pub string_of : List ℕ → List Value
string_of text = map (λ character. Value.Number (pos character)) text

abbrev pub as_value : Result Bool OpFault → Result Value OpFault
as_value (Ok holds) = Ok (truth holds)
as_value (Err fault) = Err fault

-- a relation of two strings, by the values of their components (6.7.2.5)
abbrev pub texts_compared : Order → List Value → List Value → Result Value OpFault
texts_compared order left right = as_value (lists.compared order left right)
