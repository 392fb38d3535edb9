-- Actions put no other pointers into cells than those that they read, and those to what they made.
use Rattle.std.proofs.Common.{if◌then◌else◌, ◌&&◌, ◌*ℤ◌, ◌*◌, ◌++◌, ◌+ℤ◌, ◌+◌, ◌-ℤ◌, ◌==◌, ◌∷◌, ◌≤◌, [], ℕ, ℤ, Bool, Err, List, None, Ok, Option, Result, Some}
use Rattle.std.proofs.Common.{arith, false, int_div, int_le, int_lt, is_none, min, nat_le, nat_lt, neg_ℤ, pos, replicate, suc, true, unsigned_abs, zero}
use Rattle.std.specs.Int.{int_rem_euclid}
use Rattle.cell_value.specs.{Comparisons.compared, Effects.heap_end, Sets.lies_between, Sets.with_range_of}
use Rattle.cell_value.specs.Arithmetic.{arith_of, in_range_of, integer, maxint, negate_of, of_numbers}
use Rattle.cell_value.specs.declared.{arithmetic.ArithOp.ArithOp, faults.OpFault.OpFault, ways_out.Kind.Kind}
use Rattle.cell_value.specs.declared.values.{Order.Order, SetBits.SetBits, Value.Value}
use Rattle.core_program.specs.{Headings.may_stand_for, Packing.copies, Packing.count_of, Packing.first_moved, Packing.start_at, ProgramRows.ProgramRows}
use Rattle.core_program.specs.{ProgramRows.type_at, Run.or_no_result, Run.result_read, State.moved, Values.truth, Values.with_sign_of}
use Rattle.core_program.specs.Actions.{◌>>=◌, Action, Fail, Give, NoMeaning, Perform}
use Rattle.core_program.specs.Acts.{Act, Answer, DropBlock, Fault, MakeBlock, ReadCell, WriteCell}
use Rattle.core_program.specs.Cells.{cell_out, component, frame_of_link, frame_out, if_there, linked, or_disposed, ordinal_at, position_between, read_value}
use Rattle.core_program.specs.Cells.{read_values, reference_out, referred, routine_held, routine_meant, routine_out, set_at, variable_of, write, writes}
use Rattle.core_program.specs.Conformant.{Dimensions, WholeArray, all_lie_in, bound_cells, bounds_tested, cells_over, component_or_fault, components_over}
use Rattle.core_program.specs.Conformant.{conformant_component_at, extents_at, extents_held, read_each, whole_at, whole_over}
use Rattle.core_program.specs.Conformant as arrays
use Rattle.core_program.specs.Heap.{defined_pointer, dispose, drop_found, if_related, is_pointer, made_variable, or_no_pointer, pointed_at, pointed_by}
use Rattle.core_program.specs.Heap.{pointer_at, pointer_result_at, pointers_compared, same_pointer, variable_under}
use Rattle.core_program.specs.Input.{at_end, at_line_end, char_of, first_digit, further, integer_read, is_blank, is_digit, is_minus, is_sign, leading}
use Rattle.core_program.specs.Input.{next_char, past_item, scan_on, signed_number, tells_line_end}
use Rattle.core_program.specs.Output.{Text, end_line, end_page, gives, in_width, width_of, written}
use Rattle.core_program.specs.Values.{as_tested, as_value, comparison, defined, defined_set, function_at, function_of, in_set, is_member_value, members_added}
use Rattle.core_program.specs.Values.{or_fault, or_undefined, set_in_range, set_test, sets_compared, sets_of, sets_related, test_of, tested, texts_compared}
use Rattle.core_program.specs.Variants.{activate, all_entered, answered, assign_to, changes, chosen, field_at, field_held, field_in, is_at, on_variant}
use Rattle.core_program.specs.Variants.{or_activated, undefine_if, variant_at, variant_entered}
use Rattle.core_program.specs.declared.{components.Components.Components, components.Extent.Extent, components.HeldSpec.HeldSpec, scan.Scan.Scan}
use Rattle.core_program.specs.declared.{scan.Scan.TheVariants.Blanks, scan.Scan.TheVariants.Digits, scan.Scanned.Scanned, variants.VariantPart.VariantPart}
use Rattle.core_program.specs.declared.rows.{OrdinalFunction.OrdinalFunction, Row.Row, SetOperator.SetOperator, TypeRow.TypeRow}
use Rattle.run_laws.specs.PointerLaws.{LeadsToMade}

-- ---- values

pub led_on : (n m : ℕ) → n ≤ m → (v : Value) → LeadsToMade n v → LeadsToMade m v
led_on n m l (Value.Heap address) h = (h.0, omega (arith, h.1, l))
led_on n m l v h = tt

abbrev pub AllLed : ℕ → List Value → Type 0
AllLed n [] = Unit {0}
AllLed n (v ∷ vs) = LeadsToMade n v × AllLed n vs

pub all_on : (n m : ℕ) → n ≤ m → (vs : List Value) → AllLed n vs → AllLed m vs
all_on n m l [] h = tt
all_on n m l (v ∷ vs) h = (led_on n m l v h.0, all_on n m l vs h.1)

pub all_both : (n : ℕ) (vs ws : List Value) → AllLed n vs → AllLed n ws → AllLed n (vs ++ ws)
all_both n [] ws h k = k
all_both n (v ∷ vs) ws h k = (h.0, all_both n vs ws h.1 k)

pub all_undefined : (n k : ℕ) → AllLed n (replicate k Value.Undefined)
all_undefined n zero = tt
all_undefined n (suc k) = (tt, all_undefined n k)

-- ---- results of operations: none is a pointer

abbrev pub OkLed : ℕ → Result Value OpFault → Type 0
OkLed n (Ok v) = LeadsToMade n v
OkLed n (Err e) = Unit {0}

ok_or : (n : ℕ) (b : Bool) (v : Value) (e : OpFault) → LeadsToMade n v → OkLed n (if b then Ok v else Err e)
ok_or n true v e h = h
ok_or n false v e h = tt

err_or : (n : ℕ) (b : Bool) (e : OpFault) (r : Result Value OpFault) → OkLed n r → OkLed n (if b then Err e else r)
err_or n true e r h = tt
err_or n false e r h = h

integer_led : (n : ℕ) (i : ℤ) → OkLed n (integer i)
integer_led n i = ok_or n (nat_le (unsigned_abs i) maxint) (Value.Number i) OpFault.Overflow tt

numbers_led : (n : ℕ) (o : ArithOp) (i j : ℤ) → OkLed n (of_numbers o i j)
numbers_led n ArithOp.Plus i j = integer_led n (i +ℤ j)
numbers_led n ArithOp.Minus i j = integer_led n (i -ℤ j)
numbers_led n ArithOp.Times i j = integer_led n (i *ℤ j)
numbers_led n ArithOp.Div i j = err_or n (unsigned_abs j == 0) OpFault.ZeroDivisor (integer (int_div i j)) (integer_led n (int_div i j))
numbers_led n ArithOp.Mod i j = err_or n (int_le j (pos 0)) OpFault.BadModulus (integer (int_rem_euclid i j)) (integer_led n (int_rem_euclid i j))

pub arith_led : (n : ℕ) (o : ArithOp) (x y : Value) → OkLed n (arith_of o x y)
arith_led n o (Value.Number i) (Value.Number j) = numbers_led n o i j
arith_led n o x y = tt

negate_led : (n : ℕ) (v : Value) → OkLed n (negate_of v)
negate_led n (Value.Number i) = integer_led n (neg_ℤ i)
negate_led n v = tt

pub sign_led : (n : ℕ) (minus : Bool) (v : Value) → OkLed n (with_sign_of minus v)
sign_led n true v = negate_led n v
sign_led n false (Value.Number i) = tt
sign_led n false v = tt

pub truth_led : (n : ℕ) (b : Bool) → LeadsToMade n (truth b)
truth_led n true = tt
truth_led n false = tt

pub comparison_led : (n : ℕ) (o : Order) (x y : Value) → OkLed n (comparison o x y)
comparison_led n o (Value.Number i) (Value.Number j) = truth_led n _
comparison_led n o x y = tt

pub sets_led : (n : ℕ) (o : SetOperator) (x y : Value) → OkLed n (sets_of o x y)
sets_led n o (Value.Bits a) (Value.Bits b) = tt
sets_led n o x y = tt

related_led : (n : ℕ) (o : Order) (a b : SetBits) → OkLed n (sets_related o a b)
related_led n Order.Equal a b = truth_led n _
related_led n Order.NotEqual a b = truth_led n _
related_led n Order.AtMost a b = truth_led n _
related_led n Order.AtLeast a b = truth_led n _
related_led n o a b = tt

pub sets_compared_led : (n : ℕ) (o : Order) (x y : Value) → OkLed n (sets_compared o x y)
sets_compared_led n o (Value.Bits a) (Value.Bits b) = related_led n o a b
sets_compared_led n o x y = tt

pub in_set_led : (n : ℕ) (x y : Value) → OkLed n (in_set x y)
in_set_led n (Value.Number i) (Value.Bits set) = truth_led n _
in_set_led n x y = tt

pub as_value_led : (n : ℕ) (r : Result Bool OpFault) → OkLed n (as_value r)
as_value_led n (Ok b) = truth_led n b
as_value_led n (Err e) = tt

pub texts_led : (n : ℕ) (o : Order) (xs ys : List Value) → OkLed n (texts_compared o xs ys)
texts_led n o xs ys = as_value_led n (compared o xs ys)

pub pointers_led : (n : ℕ) (equal : Bool) (x y : Value) → OkLed n (pointers_compared equal x y)
pointers_led n equal x y = as_value_led n (if_related equal (same_pointer x y))

in_range_led : (n : ℕ) (v : Value) (least greatest : ℤ) → OkLed n (in_range_of v least greatest)
in_range_led n (Value.Number i) least greatest = ok_or n (int_le least i && int_le i greatest) (Value.Number i) OpFault.OutOfRange tt
in_range_led n v least greatest = tt

function_led_at : (n : ℕ) (f : OrdinalFunction) (least greatest i : ℤ) → OkLed n (function_at f least greatest i)
function_led_at n OrdinalFunction.Abs least greatest i = integer_led n (pos (unsigned_abs i))
function_led_at n OrdinalFunction.Sqr least greatest i = integer_led n (i *ℤ i)
function_led_at n OrdinalFunction.Odd least greatest i = truth_led n _
function_led_at n OrdinalFunction.Ord least greatest i = tt
function_led_at n OrdinalFunction.Chr least greatest i = in_range_led n (Value.Number i) (pos 0) (pos 255)
function_led_at n OrdinalFunction.Succ least greatest i = in_range_led n (Value.Number _) least greatest
function_led_at n OrdinalFunction.Pred least greatest i = in_range_led n (Value.Number _) least greatest

pub function_led : (n : ℕ) (f : OrdinalFunction) (least greatest : ℤ) (v : Value) → OkLed n (function_of f least greatest v)
function_led n f least greatest (Value.Number i) = function_led_at n f least greatest i
function_led n f least greatest v = tt

range_led : (n : ℕ) (set : SetBits) (a b : Bool) (other : SetBits)
    → OkLed n (if a then Ok (Value.Bits set) else if b then Ok (Value.Bits other) else Err OpFault.OutOfRange)
range_led n set true b other = tt
range_led n set false true other = tt
range_led n set false false other = tt

pub members_led : (n : ℕ) (set first last : Value) → OkLed n (members_added set first last)
members_led n (Value.Bits set) (Value.Number i) (Value.Number j) = range_led n set (int_lt j i) (is_member_value i && is_member_value j)
    (with_range_of set (unsigned_abs i) (unsigned_abs j))
members_led n set first last = tt

set_range_led : (n : ℕ) (v : Value) (least greatest : ℤ) → OkLed n (set_in_range v least greatest)
set_range_led n (Value.Bits set) least greatest = ok_or n (lies_between set least greatest) (Value.Bits set) OpFault.OutOfRange tt
set_range_led n v least greatest = tt

-- ---- actions

abbrev pub ActLed : ℕ → Act → Type 0
ActLed n (WriteCell addr v) = LeadsToMade n v
ActLed n act = Unit {0}

abbrev pub AnswerLed : ℕ → (act : Act) → Answer act → Type 0
AnswerLed n (ReadCell addr) (Some v) = LeadsToMade n v
AnswerLed n (MakeBlock cells of') addr = LeadsToMade n (Value.Heap addr)
AnswerLed n act x = Unit {0}

-- What an action does where the heap is free from an address on, and what it gives: later it is free from there on or
-- from a later one.
abbrev pub Kept : {A : Type 0} → (Q : ℕ → A → Type 0) → ℕ → Action A → Type 0
Kept Q n (Give x) = Q n x
Kept Q n (Fail why) = Unit {0}
Kept Q n NoMeaning = Unit {0}
Kept Q n (Perform act next) = ActLed n act × ((m : ℕ) → n ≤ m → (x : Answer act) → AnswerLed m act x → Kept Q m (next x))

abbrev pub IsKept : {A : Type 0} → ℕ → Action A → Type 0
IsKept n a = Kept (λ _ _. Unit {0}) n a

abbrev pub GivesLed : ℕ → Action Value → Type 0
GivesLed n a = Kept LeadsToMade n a

pub kept_then : {A B : Type 0} (Q : ℕ → A → Type 0) (R : ℕ → B → Type 0) (n : ℕ) (a : Action A) (f : A → Action B) → Kept Q n a
    → ((m : ℕ) → n ≤ m → (x : A) → Q m x → Kept R m (f x)) → Kept R n (a >>= f)
kept_then Q R n (Give x) f h k = k n (omega arith) x h
kept_then Q R n (Fail why) f h k = tt
kept_then Q R n NoMeaning f h k = tt
kept_then Q R n (Perform act next) f h k =
    (h.0, λ m l x o. kept_then Q R m (next x) f (h.1 m l x o) (λ q i y p. k q (omega (arith, l, i)) y p))

pub next : {A B : Type 0} (n : ℕ) (a : Action A) (f : A → Action B) → IsKept n a → ((m : ℕ) → n ≤ m → (x : A) → IsKept m (f x)) → IsKept n (a >>= f)
next n a f h k = kept_then (λ _ _. Unit {0}) (λ _ _. Unit {0}) n a f h (λ m l x _. k m l x)

pub led : {A : Type 0} (n : ℕ) (a : Action A) (f : A → Action Value) → IsKept n a → ((m : ℕ) → n ≤ m → (x : A) → GivesLed m (f x)) → GivesLed n (a >>= f)
led n a f h k = kept_then (λ _ _. Unit {0}) LeadsToMade n a f h (λ m l x _. k m l x)

pub on_led : {B : Type 0} (R : ℕ → B → Type 0) (n : ℕ) (a : Action Value) (f : Value → Action B) → GivesLed n a
    → ((m : ℕ) → n ≤ m → (v : Value) → LeadsToMade m v → Kept R m (f v)) → Kept R n (a >>= f)
on_led R n a f h k = kept_then LeadsToMade R n a f h k

if_kept : {A : Type 0} (Q : ℕ → A → Type 0) (n : ℕ) (b : Bool) (x y : Action A) → Kept Q n x → Kept Q n y → Kept Q n (if b then x else y)
if_kept Q n true x y h k = h
if_kept Q n false x y h k = k

abbrev Any : {A : Type 0} → ℕ → A → Type 0
Any n x = Unit {0}

-- ---- cells

disposed_led : (n addr : ℕ) (o : Option Value) → AnswerLed n (ReadCell addr) o → GivesLed n (or_disposed o)
disposed_led n addr (Some v) h = h
disposed_led n addr None h = tt

pub read_led : (n addr : ℕ) → GivesLed n (read_value addr)
read_led n addr = (tt, λ m l found o. disposed_led m addr found o)

there_kept : (n : ℕ) (b : Bool) → IsKept n (if_there b)
there_kept n true = tt
there_kept n false = tt

pub write_kept : (n addr : ℕ) (v : Value) → LeadsToMade n v → IsKept n (write addr v)
write_kept n addr v h = (h, λ m l b o. there_kept m b)

pub reads_led : (n : ℕ) (vs : List Value) (addr k : ℕ) → AllLed n vs → Kept AllLed n (read_values vs addr k)
reads_led n vs addr zero h = h
reads_led n vs addr (suc k) h = on_led AllLed n (read_value addr) (λ v. read_values (vs ++ v ∷ []) (moved addr 1) k) (read_led n addr)
    (λ m l v o. reads_led m (vs ++ v ∷ []) (moved addr 1) k (all_both m vs (v ∷ []) (all_on n m l vs h) (o, tt)))

pub writes_kept : (n addr : ℕ) (vs : List Value) → AllLed n vs → IsKept n (writes addr vs)
writes_kept n addr [] h = tt
writes_kept n addr (v ∷ vs) h = next n (write addr v) (λ _. writes (moved addr 1) vs) (write_kept n addr v h.0)
    (λ m l _. writes_kept m (moved addr 1) vs (all_on n m l vs h.1))

pub fault_led : (n : ℕ) (r : Result Value OpFault) → OkLed n r → GivesLed n (or_fault r)
fault_led n (Ok v) h = h
fault_led n (Err e) h = tt

undefined_led : (n : ℕ) (r : Result Value OpFault) → OkLed n r → GivesLed n (or_undefined r)
undefined_led n (Ok v) h = h
undefined_led n (Err e) h = tt

pub ordinal_led : (n : ℕ) (least greatest : ℤ) (addr : ℕ) → GivesLed n (ordinal_at least greatest addr)
ordinal_led n least greatest addr = on_led LeadsToMade n (read_value addr) (defined least greatest) (read_led n addr)
    (λ m l v o. undefined_led m (in_range_of v least greatest) (in_range_led m v least greatest))

defined_set_led : (n : ℕ) (least greatest : ℤ) (v : Value) → GivesLed n (defined_set least greatest v)
defined_set_led n least greatest (Value.Bits set) = if_kept LeadsToMade n (lies_between set least greatest) _ _ tt tt
defined_set_led n least greatest v = tt

pub set_led : (n : ℕ) (least greatest : ℤ) (addr : ℕ) → GivesLed n (set_at least greatest addr)
set_led n least greatest addr = on_led LeadsToMade n (read_value addr) (defined_set least greatest) (read_led n addr)
    (λ m l v o. defined_set_led m least greatest v)

link_kept : (n : ℕ) (v : Value) → IsKept n (frame_of_link v)
link_kept n (Value.Frame base) = tt
link_kept n v = tt

pub frame_kept : (n levels base : ℕ) → IsKept n (frame_out levels base)
frame_kept n zero base = tt
frame_kept n (suc k) base = next n (linked base) (frame_out k) (on_led Any n (read_value base) frame_of_link (read_led n base) (λ m l v o. link_kept m v))
    (λ m l b. frame_kept m k b)

pub cell_kept : (n levels base place : ℕ) → IsKept n (cell_out levels base place)
cell_kept n levels base place = next n (frame_out levels base) (λ frame. Give (moved frame place)) (frame_kept n levels base) (λ m l _. tt)

variable_kept : (n : ℕ) (v : Value) → IsKept n (variable_of v)
variable_kept n (Value.Place addr) = tt
variable_kept n v = tt

referred_kept : (n addr : ℕ) → IsKept n (referred addr)
referred_kept n addr = on_led Any n (read_value addr) variable_of (read_led n addr) (λ m l v o. variable_kept m v)

pub reference_kept : (n levels base place : ℕ) → IsKept n (reference_out levels base place)
reference_kept n levels base place =
    next n (cell_out levels base place) referred (cell_kept n levels base place) (λ m l addr. referred_kept m addr)

routine_value_kept : (n : ℕ) (p : ProgramRows) (heading : ℕ) (v : Value) → IsKept n (routine_meant p heading v)
routine_value_kept n p heading (Value.Routine routine frame) = if_kept {A = ℕ × ℕ} Any n (may_stand_for p heading routine) _ _ tt tt
routine_value_kept n p heading v = tt

pub routine_kept : (n : ℕ) (p : ProgramRows) (heading levels base place : ℕ) → IsKept n (routine_out p heading levels base place)
routine_kept n p heading levels base place = next n (cell_out levels base place) (routine_held p heading) (cell_kept n levels base place)
    (λ m l addr. on_led Any m (read_value addr) (routine_meant p heading) (read_led m addr) (λ q i v o. routine_value_kept q p heading v))

position_kept : (n : ℕ) (least greatest : ℤ) (v : Value) → IsKept n (position_between least greatest v)
position_kept n least greatest (Value.Number i) = if_kept Any n (int_le least i && int_le i greatest) _ _ tt tt
position_kept n least greatest v = tt

pub component_kept : (n : ℕ) (a : Components) (addr : ℕ) (v : Value) → IsKept n (component a addr v)
component_kept n a addr v = next n (position_between a.least a.greatest v) (λ k. Give (moved addr (k * a.size))) (position_kept n a.least a.greatest v)
    (λ m l _. tt)

-- ---- arrays of conformant parameters

pub located_kept : (n levels base place : ℕ)
    → IsKept {A = ℕ × ℕ} n (frame_out levels base >>= λ frame. referred (moved frame place) >>= λ addr. Give (addr, frame))
located_kept n levels base place = next n (frame_out levels base) _ (frame_kept n levels base)
    (λ m l frame. next m (referred (moved frame place)) _ (referred_kept m (moved frame place)) (λ q i addr. tt))

each_kept : (n : ℕ) (vs : List Value) (addrs : List ℕ) → IsKept n (read_each vs addrs)
each_kept n vs [] = tt
each_kept n vs (addr ∷ addrs) = on_led Any n (read_value addr) (λ v. read_each (vs ++ v ∷ []) addrs) (read_led n addr)
    (λ m l v o. each_kept m (vs ++ v ∷ []) addrs)

extents_meant : (n : ℕ) (o : Option (List Extent)) → IsKept n (arrays.or_undefined o)
extents_meant n (Some es) = tt
extents_meant n None = tt

pub extents_kept : (n : ℕ) (specs : List HeldSpec) (frame : ℕ) → IsKept n (extents_at specs frame)
extents_kept n specs frame = next n (read_each [] (bound_cells frame specs)) (λ vs. arrays.or_undefined (extents_held specs vs))
    (each_kept n [] (bound_cells frame specs)) (λ m l vs. extents_meant m (extents_held specs vs))

found_kept : (n : ℕ) (o : Option Components) (addr : ℕ) (v : Value) → IsKept n (component_or_fault o addr v)
found_kept n (Some c) addr v = component_kept n c addr v
found_kept n None addr v = tt

pub bounded_kept : (n : ℕ) (d : Dimensions) (addr frame : ℕ) (v : Value) → IsKept n (conformant_component_at d addr frame v)
bounded_kept n d addr frame v = next n (extents_at d.specs frame) (λ es. component_or_fault (components_over es d.size) addr v)
    (extents_kept n d.specs frame) (λ m l es. found_kept m (components_over es d.size) addr v)

abbrev pub WholeLed : ℕ → WholeArray → Type 0
WholeLed n w = AllLed n w.cells

over_led : (n : ℕ) (es : List Extent) (size addr : ℕ) → Kept WholeLed n (whole_over es size addr)
over_led n es size addr = kept_then AllLed WholeLed n (read_values [] addr (min (cells_over es size) (heap_end + 1)))
    (λ vs. Give (record { extents = es; cells = vs })) (reads_led n [] addr (min (cells_over es size) (heap_end + 1)) tt) (λ m l vs o. o)

pub whole_led : (n : ℕ) (d : Dimensions) (addr frame : ℕ) → Kept WholeLed n (whole_at d addr frame)
whole_led n d addr frame = kept_then Any WholeLed n (extents_at d.specs frame) (λ es. whole_over es d.size addr)
    (extents_kept n d.specs frame) (λ m l es o. over_led m es d.size addr)

pub section_kept : (n : ℕ) (es : List Extent) (specs : List HeldSpec) → IsKept n (bounds_tested es specs)
section_kept n es specs = if_kept Any n (all_lie_in es specs) _ _ tt tt

-- ---- the heap

pointer_value_led : (n : ℕ) (v : Value) → LeadsToMade n v → GivesLed n (defined_pointer v)
pointer_value_led n v h = if_kept LeadsToMade n (is_pointer v) _ _ h tt

pub pointer_led : (n addr : ℕ) → GivesLed n (pointer_at addr)
pointer_led n addr = on_led LeadsToMade n (read_value addr) defined_pointer (read_led n addr) (λ m l v o. pointer_value_led m v o)

under_kept : (n : ℕ) (v : Value) → IsKept n (variable_under v)
under_kept n (Value.Heap addr) = tt
under_kept n Value.Nil = tt
under_kept n v = tt

by_kept : (n : ℕ) (v : Value) → LeadsToMade n v → IsKept n (pointed_by v)
by_kept n v h = on_led Any n (defined_pointer v) variable_under (pointer_value_led n v h) (λ m l w o. under_kept m w)

pub pointed_kept : (n addr : ℕ) → IsKept n (pointed_at addr)
pointed_kept n addr = on_led Any n (read_value addr) pointed_by (read_led n addr) (λ m l v o. by_kept m v o)

drop_kept : (n addr cells : ℕ) (b : Bool) → IsKept n (if_there b >>= λ _. Perform (DropBlock addr cells) Give)
drop_kept n addr cells true = (tt, λ m l x o. tt)
drop_kept n addr cells false = tt

pub dispose_kept : (n cells : ℕ) (v : Value) → LeadsToMade n v → IsKept n (dispose cells v)
dispose_kept n cells v h = next n (pointed_by v) (λ addr. drop_found addr cells) (by_kept n v h) (λ m l addr. (tt, λ q i found o. drop_kept q addr cells found))

pub made_led : (n cells of' : ℕ) → GivesLed n (made_variable cells of')
made_led n cells of' = (tt, λ m l addr o. o)

pub pointer_result_led : (n addr : ℕ) → GivesLed n (pointer_result_at addr)
pointer_result_led n addr = on_led LeadsToMade n (read_value addr) or_no_pointer (read_led n addr) (λ m l v o. if_kept LeadsToMade m (is_pointer v) _ _ o tt)

result_value_led : (n : ℕ) (r : Result Value OpFault) → OkLed n r → GivesLed n (or_no_result r)
result_value_led n (Ok v) h = h
result_value_led n (Err e) h = tt

pub result_led : (n : ℕ) (least greatest : ℤ) (addr : ℕ) → GivesLed n (result_read least greatest addr)
result_led n least greatest addr = on_led LeadsToMade n (read_value addr) (λ v. or_no_result (in_range_of v least greatest)) (read_led n addr)
    (λ m l v o. result_value_led m (in_range_of v least greatest) (in_range_led m v least greatest))

-- ---- the text files

pub end_led : (n : ℕ) → GivesLed n at_end
end_led n = (tt, λ m l item o. truth_led m (is_none item))

tells_kept : (n : ℕ) (o : Option ℕ) → IsKept n (tells_line_end o)
tells_kept n None = tt
tells_kept n (Some item) = tt

pub line_end_led : (n : ℕ) → GivesLed n at_line_end
line_end_led n = (tt, λ m l item o. led m (tells_line_end item) _ (tells_kept m item) (λ q i ends. truth_led q ends))

char_led : (n : ℕ) (o : Option ℕ) → GivesLed n (char_of o)
char_led n None = tt
char_led n (Some item) = tt

pub next_char_led : (n : ℕ) → GivesLed n next_char
next_char_led n = (tt, λ m l item o. char_led m item)

pub past_kept : (n : ℕ) → IsKept n past_item
past_kept n = (tt, λ m l item o. tells_kept m item)

abbrev pub ScannedLed : ℕ → Scanned → Type 0
ScannedLed n (Scanned.Further scan) = Unit {0}
ScannedLed n (Scanned.Whole v) = LeadsToMade n v

integer_read_led : (n : ℕ) (minus : Bool) (number : ℕ) → Kept ScannedLed n (integer_read minus number)
integer_read_led n minus number = on_led ScannedLed n (or_fault (integer (signed_number minus number))) _
    (fault_led n _ (integer_led n (signed_number minus number))) (λ m l v o. o)

first_led : (n : ℕ) (minus : Bool) (o : Option ℕ) → Kept ScannedLed n (first_digit minus o)
first_led n minus None = tt
first_led n minus (Some item) = if_kept ScannedLed n (is_digit item) _ _ tt tt

leading_led : (n : ℕ) (o : Option ℕ) → Kept ScannedLed n (leading o)
leading_led n None = tt
leading_led n (Some item) = if_kept ScannedLed n (is_blank item) _ _ tt
    (if_kept ScannedLed n (is_sign item) _ _ (tt, λ m l o _. first_led m (is_minus item) o) (first_led n false (Some item)))

further_led : (n : ℕ) (minus : Bool) (number : ℕ) (o : Option ℕ) → Kept ScannedLed n (further minus number o)
further_led n minus number None = integer_read_led n minus number
further_led n minus number (Some item) = if_kept ScannedLed n (is_digit item) _ _ tt (integer_read_led n minus number)

pub scan_led : (n : ℕ) (s : Scan) → Kept ScannedLed n (scan_on s)
scan_led n Blanks = (tt, λ m l o _. leading_led m o)
scan_led n (Digits minus number) = (tt, λ m l o _. further_led m minus number o)

gives_kept : (n : ℕ) (cs : List (Option ℕ)) → IsKept n (gives cs)
gives_kept n [] = tt
gives_kept n (Some byte ∷ cs) = (tt, λ m l x o. gives_kept m cs)
gives_kept n (None ∷ cs) = tt

width_kept : (n : ℕ) (v : Value) → IsKept n (width_of v)
width_kept n (Value.Number i) = if_kept {A = ℕ} Any n (int_le (pos 1) i) (Give (unsigned_abs i)) (Fail (Fault Kind.BadWidth)) tt tt
width_kept n v = tt

pub written_kept : (n : ℕ) (text : Text) (width : Option Value) → IsKept n (written text width)
written_kept n text None = gives_kept n text.chars
written_kept n text (Some width) = next n (width_of width) (λ k. gives (in_width k text)) (width_kept n width) (λ m l k. gives_kept m (in_width k text))

pub end_line_kept : (n : ℕ) → IsKept n end_line
end_line_kept n = (tt, λ m l x o. tt)

pub end_page_kept : (n : ℕ) → IsKept n end_page
end_page_kept n = (tt, λ m l x o. tt)

-- ---- packing

start_kept : (n : ℕ) (wide close : Components) (addr k : ℕ) → IsKept n (start_at wide close addr k)
start_kept n wide close addr k = if_kept {A = ℕ} Any n (nat_lt (count_of wide) (k + count_of close)) (Fail (Fault Kind.OutOfRange))
    (Give (moved addr (k * wide.size))) tt tt

pub moved_kept : (n : ℕ) (wide close : Components) (addr : ℕ) (v : Value) → IsKept n (first_moved wide close addr v)
moved_kept n wide close addr v = next n (position_between wide.least wide.greatest v) (start_at wide close addr)
    (position_kept n wide.least wide.greatest v) (λ m l k. start_kept m wide close addr k)

pub copies_kept : (n from to cells : ℕ) → IsKept n (copies from to cells)
copies_kept n from to cells =
    kept_then AllLed Any n (read_values [] from cells) (writes to) (reads_led n [] from cells tt) (λ m l vs o. writes_kept m to vs o)

-- ---- values and variants

answered_kept : {A B : Type 0} (n : ℕ) (o : Option A) (go : A → Action B) → ((x : A) → IsKept n (go x)) → IsKept n (answered o go)
answered_kept n None go k = tt
answered_kept n (Some x) go k = k x

undefine_kept : (n : ℕ) (b : Bool) (addr cells : ℕ) → IsKept n (undefine_if b addr cells)
undefine_kept n true addr cells = writes_kept n addr (replicate cells Value.Undefined) (all_undefined n cells)
undefine_kept n false addr cells = tt

on_variant_kept : (n : ℕ) (o : Option (Option (VariantPart × ℕ))) (go : VariantPart → ℕ → Action (Unit {0}))
    → ((part : VariantPart) (position : ℕ) → IsKept n (go part position)) → IsKept n (on_variant o go)
on_variant_kept n None go k = tt
on_variant_kept n (Some None) go k = tt
on_variant_kept n (Some (Some (part, position))) go k = k part position

abbrev TestLed : ℕ → Option (Result Value OpFault) → Type 0
TestLed n None = Unit {0}
TestLed n (Some r) = OkLed n r

as_tested_led : (n : ℕ) (o : Option (Result Value OpFault)) → TestLed n o → GivesLed n (as_tested o)
as_tested_led n None h = tt
as_tested_led n (Some r) h = fault_led n r h

set_test_led : (n : ℕ) (t : Option TypeRow) (v : Value) → TestLed n (set_test t v)
set_test_led n (Some (TypeRow.Ordinal least greatest)) v = set_range_led n v least greatest
set_test_led n (Some (TypeRow.Subrange host least greatest)) v = set_range_led n v least greatest
set_test_led n t v = tt

module _ (p : ProgramRows) where
  test_led : (n : ℕ) (t : Option TypeRow) (v : Value) → LeadsToMade n v → TestLed n (test_of p t v)
  test_led n (Some (TypeRow.Ordinal least greatest)) v h = in_range_led n v least greatest
  test_led n (Some (TypeRow.Subrange host least greatest)) v h = in_range_led n v least greatest
  test_led n (Some (TypeRow.Set packed base)) v h = set_test_led n (type_at p base) v
  test_led n (Some (TypeRow.Pointer domain)) v h = h
  test_led n t v h = tt

  pub tested_led : (n : ℕ) (t : Option TypeRow) (v : Value) → LeadsToMade n v → GivesLed n (tested p t v)
  tested_led n t v h = as_tested_led n (test_of p t v) (test_led n t v h)

  activate_kept : (n : ℕ) (part : VariantPart) (addr : ℕ) (tag : Value) → LeadsToMade n tag → IsKept n (activate p part addr tag)
  activate_kept n part addr tag h = on_led Any n (read_value addr) _ (read_led n addr) (λ m l before o.
      next m (write addr tag) _ (write_kept m addr tag (led_on n m l tag h)) (λ q i _.
      answered_kept q (chosen p part before) _ (λ was. answered_kept q (chosen p part tag) _ (λ now.
      undefine_kept q (changes was now) (moved addr 1) part.cells))))

  activated_kept : (n : ℕ) (target : Bool) (part : VariantPart) (position addr : ℕ) (b : Bool) → IsKept n (or_activated p target part position addr b)
  activated_kept n target part position addr true = tt
  activated_kept n target part position addr false =
      if_kept Any n (target && part.hidden) _ _ (activate_kept n part addr (Value.Number (pos position)) tt) tt

  variant_kept : (n : ℕ) (target : Bool) (addr : ℕ) (part : VariantPart) (position : ℕ) → IsKept n (variant_entered p target addr part position)
  variant_kept n target addr part position = on_led Any n (read_value (moved addr part.offset)) _ (read_led n (moved addr part.offset)) (λ m l tag o.
      answered_kept m (chosen p part tag) _ (λ now. activated_kept m target part position (moved addr part.offset) (is_at now position)))

  entered_kept : (n : ℕ) (target : Bool) (addr k holder : ℕ) → IsKept n (all_entered p target addr k holder)
  entered_kept n target addr zero holder = tt
  entered_kept n target addr (suc k) holder = on_variant_kept n (variant_at p holder) _ (λ part position.
      if_kept Any n (nat_lt part.holder holder) _ _ (next n (all_entered p target addr k part.holder) _ (entered_kept n target addr k part.holder)
      (λ m l _. variant_kept m target addr part position)) tt)

  held_kept : (n : ℕ) (target : Bool) (addr : ℕ) (o : Option (ℕ × ℕ)) → IsKept n (field_held p target addr o)
  held_kept n target addr None = tt
  held_kept n target addr (Some (offset, holder)) =
      next n (all_entered p target addr (holder + 1) holder) _ (entered_kept n target addr (holder + 1) holder) (λ m l _. tt)

  pub field_kept : (n : ℕ) (target : Bool) (addr : ℕ) (r : Row) → IsKept n (field_at p target addr r)
  field_kept n target addr r = held_kept n target addr (field_in r)

  pub assign_kept : (n : ℕ) (o : Option (Option VariantPart)) (t : Option TypeRow) (addr : ℕ) (v : Value) → LeadsToMade n v
      → IsKept n (assign_to p o t addr v)
  assign_kept n None t addr v h = tt
  assign_kept n (Some None) t addr v h = on_led Any n (tested p t v) (write addr) (tested_led n t v h) (λ m l w o. write_kept m addr w o)
  assign_kept n (Some (Some part)) t addr v h =
      on_led Any n (tested p t v) (activate p part addr) (tested_led n t v h) (λ m l w o. activate_kept m part addr w o)
