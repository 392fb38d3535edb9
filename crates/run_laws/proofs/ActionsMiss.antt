-- Actions that stop where a cell is not there, and drop a block only where its first cell was found.
use Rattle.std.proofs.Common.{if◌then◌else◌, ◌&&◌, ◌*◌, ◌++◌, ◌+◌, ◌∷◌, ◌≡◌, [], ℕ, ℤ, Bool, Err, List, None, Ok, Option, Result, Some, false, int_le, min}
use Rattle.std.proofs.Common.{nat_lt, pos, refl, replicate, suc, true, unsigned_abs, zero}
use Rattle.cell_value.specs.{Arithmetic.in_range_of, Arithmetic.integer, Effects.heap_end, Sets.lies_between}
use Rattle.cell_value.specs.declared.{faults.OpFault.OpFault, values.Value.Value, ways_out.Kind.Kind}
use Rattle.core_program.proofs.OutcomesCompose.{none_some}
use Rattle.core_program.specs.{Headings.may_stand_for, Heap.pointer_result_at, Heap.variable_under, Packing.copies, Packing.count_of, Packing.first_moved}
use Rattle.core_program.specs.{Packing.start_at, ProgramRows.ProgramRows, Run.or_no_result, Run.result_read, State.moved}
use Rattle.core_program.specs.Actions.{◌>>=◌, Action, Fail, Give, NoMeaning, Perform}
use Rattle.core_program.specs.Acts.{Act, Answer, DropBlock, Fault, GiveByte, HasCell, MakeBlock, ReadCell, Spend, TakeIf, WriteCell}
use Rattle.core_program.specs.Cells.{cell_out, component, frame_of_link, frame_out, if_there, linked, or_disposed, ordinal_at, position_between, read_value}
use Rattle.core_program.specs.Cells.{read_values, reference_out, referred, routine_held, routine_meant, routine_out, set_at, variable_of, write, writes}
use Rattle.core_program.specs.Conformant.{Dimensions, all_lie_in, bound_cells, bounds_tested, cells_over, component_or_fault, components_over}
use Rattle.core_program.specs.Conformant.{conformant_component_at, extents_at, extents_held, read_each, whole_at, whole_over}
use Rattle.core_program.specs.Conformant as arrays
use Rattle.core_program.specs.Heap.{defined_pointer, dispose, drop_found, is_pointer, made_variable, or_no_pointer, pointed_at, pointed_by, pointer_at}
use Rattle.core_program.specs.Input.{at_end, at_line_end, char_of, first_digit, further, integer_read, is_blank, is_digit, is_minus, is_sign, leading}
use Rattle.core_program.specs.Input.{next_char, past_item, scan_on, signed_number, tells_line_end}
use Rattle.core_program.specs.Output.{Text, end_line, end_page, gives, in_width, width_of, written}
use Rattle.core_program.specs.Values.{as_tested, defined, defined_set, or_fault, or_undefined, test_of, tested}
use Rattle.core_program.specs.Variants.{activate, all_entered, answered, assign_to, changes, chosen, field_at, field_held, field_in, is_at, on_variant}
use Rattle.core_program.specs.Variants.{or_activated, undefine_if, variant_at, variant_entered}
use Rattle.core_program.specs.declared.{rows.Row.Row, rows.TypeRow.TypeRow, variants.VariantPart.VariantPart}
use Rattle.core_program.specs.declared.components.{Components.Components, Extent.Extent, HeldSpec.HeldSpec}
use Rattle.core_program.specs.declared.scan.Scan.{Scan, TheVariants.Blanks, TheVariants.Digits}

-- the action fails, since a variable was disposed of
abbrev pub Quits : {A : Type 0} → Action A → Type 0
Quits (Fail (Fault Kind.Disposed)) = Unit {0}
Quits a = ⊥

-- the cell that an act found, where it asked for one
abbrev pub found_by : (act : Act) → Answer act → Option ℕ
found_by (HasCell addr) true = Some addr
found_by act x = None

-- What an action does after an act, which came after another one that found a cell: it stops where the act tells that a
-- cell is not there, and a block is dropped only where its first cell was found.
abbrev pub Heeds : {A : Type 0} → (found : Option ℕ) → (act : Act) → (Answer act → Action A) → Type 0
Heeds found (ReadCell addr) next = Quits (next None)
Heeds found (HasCell addr) next = Quits (next false)
Heeds found (WriteCell addr v) next = Quits (next false)
Heeds found (DropBlock addr cells) next = found ≡ Some addr
Heeds found act next = Unit {0}

abbrev pub Careful : {A : Type 0} → (found : Option ℕ) → Action A → Type 0
Careful found (Give x) = Unit {0}
Careful found (Fail why) = Unit {0}
Careful found NoMeaning = Unit {0}
Careful found (Perform act next) = Heeds found act next × ((x : Answer act) → Careful (found_by act x) (next x))

-- from wherever it begins
abbrev pub IsCareful : {A : Type 0} → Action A → Type 0
IsCareful a = Careful None a

heeds_still : {A : Type 0} (found : Option ℕ) (act : Act) (next : Answer act → Action A) → Heeds None act next → Heeds found act next
heeds_still found (Spend n) next h = tt
heeds_still found (ReadCell addr) next h = h
heeds_still found (HasCell addr) next h = h
heeds_still found (WriteCell addr v) next h = h
heeds_still found (TakeIf wanted) next h = tt
heeds_still found (GiveByte byte) next h = tt
heeds_still found (MakeBlock cells of') next h = tt
heeds_still found (DropBlock addr cells) next h = absurd (none_some h)

careful_still : {A : Type 0} (found : Option ℕ) (a : Action A) → IsCareful a → Careful found a
careful_still found (Give x) h = tt
careful_still found (Fail why) h = tt
careful_still found NoMeaning h = tt
careful_still found (Perform act next) h = (heeds_still found act next h.0, h.1)

quits_then : {A B : Type 0} (a : Action A) (f : A → Action B) → Quits a → Quits (a >>= f)
quits_then (Fail (Fault Kind.Disposed)) f h = tt
quits_then a f h = absurd h

heeds_then : {A B : Type 0} (found : Option ℕ) (act : Act) (next : Answer act → Action A) (f : A → Action B) → Heeds found act next
    → Heeds found act (λ x. next x >>= f)
heeds_then found (Spend n) next f h = tt
heeds_then found (ReadCell addr) next f h = quits_then (next None) f h
heeds_then found (HasCell addr) next f h = quits_then (next false) f h
heeds_then found (WriteCell addr v) next f h = quits_then (next false) f h
heeds_then found (TakeIf wanted) next f h = tt
heeds_then found (GiveByte byte) next f h = tt
heeds_then found (MakeBlock cells of') next f h = tt
heeds_then found (DropBlock addr cells) next f h = h

pub careful_then : {A B : Type 0} (found : Option ℕ) (a : Action A) (f : A → Action B) → Careful found a → ((x : A) → IsCareful (f x))
    → Careful found (a >>= f)
careful_then found (Give x) f h k = careful_still found (f x) (k x)
careful_then found (Fail why) f h k = tt
careful_then found NoMeaning f h k = tt
careful_then found (Perform act next) f h k = (heeds_then found act next f h.0, λ x. careful_then (found_by act x) (next x) f (h.1 x) k)

pub next : {A B : Type 0} (a : Action A) (f : A → Action B) → IsCareful a → ((x : A) → IsCareful (f x)) → IsCareful (a >>= f)
next a f h k = careful_then None a f h k

pub if_careful : {A : Type 0} (b : Bool) (x y : Action A) → IsCareful x → IsCareful y → IsCareful (if b then x else y)
if_careful true x y h k = h
if_careful false x y h k = k

-- ---- cells

disposed_careful : (o : Option Value) → IsCareful (or_disposed o)
disposed_careful (Some v) = tt
disposed_careful None = tt

pub read_careful : (addr : ℕ) → IsCareful (read_value addr)
read_careful addr = (tt, λ found. disposed_careful found)

there_careful : (b : Bool) → IsCareful (if_there b)
there_careful true = tt
there_careful false = tt

pub write_careful : (addr : ℕ) (v : Value) → IsCareful (write addr v)
write_careful addr v = (tt, λ b. there_careful b)

pub reads_careful : (vs : List Value) (addr n : ℕ) → IsCareful (read_values vs addr n)
reads_careful vs addr zero = tt
reads_careful vs addr (suc n) = next (read_value addr) (λ v. read_values (vs ++ v ∷ []) (moved addr 1) n) (read_careful addr)
    (λ v. reads_careful (vs ++ v ∷ []) (moved addr 1) n)

pub writes_careful : (addr : ℕ) (vs : List Value) → IsCareful (writes addr vs)
writes_careful addr [] = tt
writes_careful addr (v ∷ vs) = next (write addr v) (λ _. writes (moved addr 1) vs) (write_careful addr v) (λ _. writes_careful (moved addr 1) vs)

pub fault_careful : (r : Result Value OpFault) → IsCareful (or_fault r)
fault_careful (Ok v) = tt
fault_careful (Err e) = tt

undefined_careful : (r : Result Value OpFault) → IsCareful (or_undefined r)
undefined_careful (Ok v) = tt
undefined_careful (Err e) = tt

pub ordinal_careful : (least greatest : ℤ) (addr : ℕ) → IsCareful (ordinal_at least greatest addr)
ordinal_careful least greatest addr =
    next (read_value addr) (defined least greatest) (read_careful addr) (λ v. undefined_careful (in_range_of v least greatest))

defined_set_careful : (least greatest : ℤ) (v : Value) → IsCareful (defined_set least greatest v)
defined_set_careful least greatest (Value.Bits set) = if_careful (lies_between set least greatest) _ _ tt tt
defined_set_careful least greatest v = tt

pub set_careful : (least greatest : ℤ) (addr : ℕ) → IsCareful (set_at least greatest addr)
set_careful least greatest addr = next (read_value addr) (defined_set least greatest) (read_careful addr) (defined_set_careful least greatest)

link_careful : (v : Value) → IsCareful (frame_of_link v)
link_careful (Value.Frame base) = tt
link_careful v = tt

pub frame_careful : (levels base : ℕ) → IsCareful (frame_out levels base)
frame_careful zero base = tt
frame_careful (suc n) base =
    next (linked base) (frame_out n) (next (read_value base) frame_of_link (read_careful base) link_careful) (λ b. frame_careful n b)

pub cell_careful : (levels base place : ℕ) → IsCareful (cell_out levels base place)
cell_careful levels base place = next (frame_out levels base) (λ frame. Give (moved frame place)) (frame_careful levels base) (λ _. tt)

variable_careful : (v : Value) → IsCareful (variable_of v)
variable_careful (Value.Place addr) = tt
variable_careful v = tt

referred_careful : (addr : ℕ) → IsCareful (referred addr)
referred_careful addr = next (read_value addr) variable_of (read_careful addr) variable_careful

pub reference_careful : (levels base place : ℕ) → IsCareful (reference_out levels base place)
reference_careful levels base place = next (cell_out levels base place) referred (cell_careful levels base place) referred_careful

routine_value_careful : (p : ProgramRows) (heading : ℕ) (v : Value) → IsCareful (routine_meant p heading v)
routine_value_careful p heading (Value.Routine routine frame) = if_careful {A = ℕ × ℕ} (may_stand_for p heading routine) _ _ tt tt
routine_value_careful p heading v = tt

pub routine_careful : (p : ProgramRows) (heading levels base place : ℕ) → IsCareful (routine_out p heading levels base place)
routine_careful p heading levels base place = next (cell_out levels base place) (routine_held p heading) (cell_careful levels base place)
    (λ addr. next (read_value addr) (routine_meant p heading) (read_careful addr) (routine_value_careful p heading))

position_careful : (least greatest : ℤ) (v : Value) → IsCareful (position_between least greatest v)
position_careful least greatest (Value.Number n) = if_careful (int_le least n && int_le n greatest) _ _ tt tt
position_careful least greatest v = tt

pub component_careful : (a : Components) (addr : ℕ) (v : Value) → IsCareful (component a addr v)
component_careful a addr v =
    next (position_between a.least a.greatest v) (λ n. Give (moved addr (n * a.size))) (position_careful a.least a.greatest v) (λ _. tt)

-- ---- arrays of conformant parameters

pub located_careful : (levels base place : ℕ)
    → IsCareful {A = ℕ × ℕ} (frame_out levels base >>= λ frame. referred (moved frame place) >>= λ addr. Give (addr, frame))
located_careful levels base place = next (frame_out levels base) _ (frame_careful levels base)
    (λ frame. next (referred (moved frame place)) _ (referred_careful (moved frame place)) (λ addr. tt))

each_careful : (vs : List Value) (addrs : List ℕ) → IsCareful (read_each vs addrs)
each_careful vs [] = tt
each_careful vs (addr ∷ addrs) =
    next (read_value addr) (λ v. read_each (vs ++ v ∷ []) addrs) (read_careful addr) (λ v. each_careful (vs ++ v ∷ []) addrs)

extents_meant : (o : Option (List Extent)) → IsCareful (arrays.or_undefined o)
extents_meant (Some es) = tt
extents_meant None = tt

pub extents_careful : (specs : List HeldSpec) (frame : ℕ) → IsCareful (extents_at specs frame)
extents_careful specs frame = next (read_each [] (bound_cells frame specs)) (λ vs. arrays.or_undefined (extents_held specs vs))
    (each_careful [] (bound_cells frame specs)) (λ vs. extents_meant (extents_held specs vs))

found_careful : (o : Option Components) (addr : ℕ) (v : Value) → IsCareful (component_or_fault o addr v)
found_careful (Some c) addr v = component_careful c addr v
found_careful None addr v = tt

pub bounded_careful : (d : Dimensions) (addr frame : ℕ) (v : Value) → IsCareful (conformant_component_at d addr frame v)
bounded_careful d addr frame v = next (extents_at d.specs frame) (λ es. component_or_fault (components_over es d.size) addr v)
    (extents_careful d.specs frame) (λ es. found_careful (components_over es d.size) addr v)

over_careful : (es : List Extent) (size addr : ℕ) → IsCareful (whole_over es size addr)
over_careful es size addr = next (read_values [] addr (min (cells_over es size) (heap_end + 1))) (λ vs. Give (record { extents = es; cells = vs }))
    (reads_careful [] addr (min (cells_over es size) (heap_end + 1))) (λ vs. tt)

pub whole_at_careful : (d : Dimensions) (addr frame : ℕ) → IsCareful (whole_at d addr frame)
whole_at_careful d addr frame = next (extents_at d.specs frame) (λ es. whole_over es d.size addr) (extents_careful d.specs frame)
    (λ es. over_careful es d.size addr)

pub section_careful : (es : List Extent) (specs : List HeldSpec) → IsCareful (bounds_tested es specs)
section_careful es specs = if_careful (all_lie_in es specs) _ _ tt tt

-- ---- the heap

pointer_value_careful : (v : Value) → IsCareful (defined_pointer v)
pointer_value_careful v = if_careful (is_pointer v) _ _ tt tt

pub pointer_careful : (addr : ℕ) → IsCareful (pointer_at addr)
pointer_careful addr = next (read_value addr) defined_pointer (read_careful addr) pointer_value_careful

under_careful : (v : Value) → IsCareful (variable_under v)
under_careful (Value.Heap addr) = tt
under_careful Value.Nil = tt
under_careful v = tt

by_careful : (v : Value) → IsCareful (pointed_by v)
by_careful v = next (defined_pointer v) variable_under (pointer_value_careful v) under_careful

pub pointed_careful : (addr : ℕ) → IsCareful (pointed_at addr)
pointed_careful addr = next (read_value addr) pointed_by (read_careful addr) by_careful

drop_careful : (addr cells : ℕ) (b : Bool) → Careful (found_by (HasCell addr) b) (if_there b >>= λ _. Perform (DropBlock addr cells) Give)
drop_careful addr cells true = (refl, λ _. tt)
drop_careful addr cells false = tt

pub dispose_careful : (cells : ℕ) (v : Value) → IsCareful (dispose cells v)
dispose_careful cells v = next (pointed_by v) (λ addr. drop_found addr cells) (by_careful v) (λ addr. (tt, λ found. drop_careful addr cells found))

pub made_careful : (cells of' : ℕ) → IsCareful (made_variable cells of')
made_careful cells of' = (tt, λ addr. tt)

pub pointer_result_careful : (addr : ℕ) → IsCareful (pointer_result_at addr)
pointer_result_careful addr = next (read_value addr) or_no_pointer (read_careful addr) (λ v. if_careful (is_pointer v) _ _ tt tt)

result_value_careful : (r : Result Value OpFault) → IsCareful (or_no_result r)
result_value_careful (Ok v) = tt
result_value_careful (Err e) = tt

pub result_careful : (least greatest : ℤ) (addr : ℕ) → IsCareful (result_read least greatest addr)
result_careful least greatest addr = next (read_value addr) (λ v. or_no_result (in_range_of v least greatest)) (read_careful addr)
    (λ v. result_value_careful (in_range_of v least greatest))

-- ---- the text files

pub end_careful : IsCareful at_end
end_careful = (tt, λ item. tt)

tells_careful : (o : Option ℕ) → IsCareful (tells_line_end o)
tells_careful None = tt
tells_careful (Some item) = tt

pub line_end_careful : IsCareful at_line_end
line_end_careful = (tt, λ o. next (tells_line_end o) _ (tells_careful o) (λ _. tt))

char_careful : (o : Option ℕ) → IsCareful (char_of o)
char_careful None = tt
char_careful (Some item) = tt

pub next_char_careful : IsCareful next_char
next_char_careful = (tt, λ o. char_careful o)

pub past_careful : IsCareful past_item
past_careful = (tt, λ o. tells_careful o)

integer_careful : (minus : Bool) (number : ℕ) → IsCareful (integer_read minus number)
integer_careful minus number = next (or_fault (integer (signed_number minus number))) _ (fault_careful _) (λ _. tt)

first_careful : (minus : Bool) (o : Option ℕ) → IsCareful (first_digit minus o)
first_careful minus None = tt
first_careful minus (Some item) = if_careful (is_digit item) _ _ tt tt

leading_careful : (o : Option ℕ) → IsCareful (leading o)
leading_careful None = tt
leading_careful (Some item) =
    if_careful (is_blank item) _ _ tt (if_careful (is_sign item) _ _ (tt, λ o. first_careful (is_minus item) o) (first_careful false (Some item)))

further_careful : (minus : Bool) (number : ℕ) (o : Option ℕ) → IsCareful (further minus number o)
further_careful minus number None = integer_careful minus number
further_careful minus number (Some item) = if_careful (is_digit item) _ _ tt (integer_careful minus number)

pub scan_careful : (s : Scan) → IsCareful (scan_on s)
scan_careful Blanks = (tt, λ o. leading_careful o)
scan_careful (Digits minus number) = (tt, λ o. further_careful minus number o)

gives_careful : (cs : List (Option ℕ)) → IsCareful (gives cs)
gives_careful [] = tt
gives_careful (Some byte ∷ cs) = (tt, λ _. gives_careful cs)
gives_careful (None ∷ cs) = tt

width_careful : (v : Value) → IsCareful (width_of v)
width_careful (Value.Number n) = if_careful {A = ℕ} (int_le (pos 1) n) (Give (unsigned_abs n)) (Fail (Fault Kind.BadWidth)) tt tt
width_careful v = tt

pub written_careful : (text : Text) (width : Option Value) → IsCareful (written text width)
written_careful text None = gives_careful text.chars
written_careful text (Some width) = next (width_of width) (λ n. gives (in_width n text)) (width_careful width) (λ n. gives_careful (in_width n text))

pub end_line_careful : IsCareful end_line
end_line_careful = (tt, λ _. tt)

pub end_page_careful : IsCareful end_page
end_page_careful = (tt, λ _. tt)

-- ---- packing

start_careful : (wide close : Components) (addr n : ℕ) → IsCareful (start_at wide close addr n)
start_careful wide close addr n = if_careful {A = ℕ} (nat_lt (count_of wide) (n + count_of close)) (Fail (Fault Kind.OutOfRange))
    (Give (moved addr (n * wide.size))) tt tt

pub moved_careful : (wide close : Components) (addr : ℕ) (v : Value) → IsCareful (first_moved wide close addr v)
moved_careful wide close addr v =
    next (position_between wide.least wide.greatest v) (start_at wide close addr) (position_careful wide.least wide.greatest v) (start_careful wide close addr)

pub copies_careful : (from to cells : ℕ) → IsCareful (copies from to cells)
copies_careful from to cells = next (read_values [] from cells) (writes to) (reads_careful [] from cells) (λ vs. writes_careful to vs)

-- ---- values and variants

as_tested_careful : (o : Option (Result Value OpFault)) → IsCareful (as_tested o)
as_tested_careful None = tt
as_tested_careful (Some r) = fault_careful r

answered_careful : {A B : Type 0} (o : Option A) (go : A → Action B) → ((x : A) → IsCareful (go x)) → IsCareful (answered o go)
answered_careful None go k = tt
answered_careful (Some x) go k = k x

undefine_careful : (b : Bool) (addr cells : ℕ) → IsCareful (undefine_if b addr cells)
undefine_careful true addr cells = writes_careful addr (replicate cells Value.Undefined)
undefine_careful false addr cells = tt

on_variant_careful : (o : Option (Option (VariantPart × ℕ))) (go : VariantPart → ℕ → Action (Unit {0}))
    → ((part : VariantPart) (position : ℕ) → IsCareful (go part position)) → IsCareful (on_variant o go)
on_variant_careful None go k = tt
on_variant_careful (Some None) go k = tt
on_variant_careful (Some (Some (part, position))) go k = k part position

module _ (p : ProgramRows) where
  pub tested_careful : (t : Option TypeRow) (v : Value) → IsCareful (tested p t v)
  tested_careful t v = as_tested_careful (test_of p t v)

  activate_careful : (part : VariantPart) (addr : ℕ) (tag : Value) → IsCareful (activate p part addr tag)
  activate_careful part addr tag = next (read_value addr) _ (read_careful addr) (λ before. next (write addr tag) _ (write_careful addr tag) (λ _.
      answered_careful (chosen p part before) _ (λ was. answered_careful (chosen p part tag) _ (λ now.
      undefine_careful (changes was now) (moved addr 1) part.cells))))

  activated_careful : (target : Bool) (part : VariantPart) (position addr : ℕ) (b : Bool) → IsCareful (or_activated p target part position addr b)
  activated_careful target part position addr true = tt
  activated_careful target part position addr false = if_careful (target && part.hidden) _ _ (activate_careful part addr _) tt

  variant_careful : (target : Bool) (addr : ℕ) (part : VariantPart) (position : ℕ) → IsCareful (variant_entered p target addr part position)
  variant_careful target addr part position = next (read_value (moved addr part.offset)) _ (read_careful (moved addr part.offset)) (λ tag.
      answered_careful (chosen p part tag) _ (λ now. activated_careful target part position (moved addr part.offset) (is_at now position)))

  entered_careful : (target : Bool) (addr n holder : ℕ) → IsCareful (all_entered p target addr n holder)
  entered_careful target addr zero holder = tt
  entered_careful target addr (suc n) holder = on_variant_careful (variant_at p holder) _ (λ part position.
      if_careful (nat_lt part.holder holder) _ _
      (next (all_entered p target addr n part.holder) _ (entered_careful target addr n part.holder) (λ _. variant_careful target addr part position)) tt)

  held_careful : (target : Bool) (addr : ℕ) (o : Option (ℕ × ℕ)) → IsCareful (field_held p target addr o)
  held_careful target addr None = tt
  held_careful target addr (Some (offset, holder)) =
      next (all_entered p target addr (holder + 1) holder) _ (entered_careful target addr (holder + 1) holder) (λ _. tt)

  pub field_careful : (target : Bool) (addr : ℕ) (r : Row) → IsCareful (field_at p target addr r)
  field_careful target addr r = held_careful target addr (field_in r)

  pub assign_careful : (o : Option (Option VariantPart)) (t : Option TypeRow) (addr : ℕ) (v : Value) → IsCareful (assign_to p o t addr v)
  assign_careful None t addr v = tt
  assign_careful (Some None) t addr v = next (tested p t v) (write addr) (tested_careful t v) (λ w. write_careful addr w)
  assign_careful (Some (Some part)) t addr v = next (tested p t v) (activate p part addr) (tested_careful t v) (λ w. activate_careful part addr w)
