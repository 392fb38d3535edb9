-- What an action is meant to do where the tables are whole, and the actions that need no row at all.
use Rattle.std.proofs.Common.{if◌then◌else◌, ◌&&◌, ◌*◌, ◌++◌, ◌+◌, ◌∷◌, ◌≡◌, [], ℕ, ℤ, Bool, Err, List, None, Ok, Option, Result, Some, false, int_le, nat_lt}
use Rattle.std.proofs.Common.{pos, refl, suc, true, unsigned_abs, zero}
use Rattle.cell_value.specs.{Arithmetic.in_range_of, Arithmetic.integer, Sets.lies_between}
use Rattle.cell_value.specs.declared.{faults.OpFault.OpFault, values.Value.Value, ways_out.Kind.Kind}
use Rattle.core_program.specs.{Acts.Answer, Acts.DropBlock, Acts.Fault, Headings.may_stand_for, Heap.pointer_result_at, Heap.variable_under, Packing.copies}
use Rattle.core_program.specs.{Packing.count_of, Packing.first_moved, Packing.start_at, ProgramRows.ProgramRows, State.moved}
use Rattle.core_program.specs.Actions.{◌>>=◌, Action, Fail, Give, NoMeaning, Perform}
use Rattle.core_program.specs.Cells.{cell_out, component, frame_of_link, frame_out, if_there, linked, or_disposed, ordinal_at, position_between, read_value}
use Rattle.core_program.specs.Cells.{read_values, reference_out, referred, routine_held, routine_meant, routine_out, set_at, variable_of, write, writes}
use Rattle.core_program.specs.Heap.{defined_pointer, dispose, drop_found, is_pointer, made_variable, or_no_pointer, pointed_at, pointed_by, pointer_at}
use Rattle.core_program.specs.Input.{at_end, at_line_end, char_of, first_digit, further, integer_read, is_blank, is_digit, is_minus, is_sign, leading}
use Rattle.core_program.specs.Input.{next_char, past_item, scan_on, signed_number, tells_line_end}
use Rattle.core_program.specs.Output.{Text, end_line, end_page, gives, in_width, width_of, written}
use Rattle.core_program.specs.Values.{defined, defined_set, or_fault, or_undefined}
use Rattle.core_program.specs.declared.{components.Components.Components, scan.Scan.Scan, scan.Scan.TheVariants.Blanks, scan.Scan.TheVariants.Digits}

pub no : {A : Type 0} → false ≡ true → A
no h = absurd (let z : false ≡ true = h in cc)

-- An action is meant, whatever its acts answer, and this holds of what it gives.
abbrev pub Meant : {A : Type 0} → (A → Type 0) → Action A → Type 0
Meant Q (Give x) = Q x
Meant Q (Fail why) = Unit {0}
Meant Q NoMeaning = ⊥
Meant Q (Perform act next) = (x : Answer act) → Meant Q (next x)

abbrev pub IsMeant : {A : Type 0} → Action A → Type 0
IsMeant a = Meant (λ _. Unit {0}) a

pub then_meant : {A B : Type 0} (Q : A → Type 0) (R : B → Type 0) (a : Action A) (f : A → Action B) → Meant Q a
    → ((x : A) → Q x → Meant R (f x)) → Meant R (a >>= f)
then_meant Q R (Give x) f h k = k x h
then_meant Q R (Fail why) f h k = tt
then_meant Q R NoMeaning f h k = absurd h
then_meant Q R (Perform act next) f h k = λ x. then_meant Q R (next x) f (h x) k

pub after : {A B : Type 0} (R : B → Type 0) (a : Action A) (f : A → Action B) → IsMeant a → ((x : A) → Meant R (f x)) → Meant R (a >>= f)
after R a f h k = then_meant (λ _. Unit {0}) R a f h (λ x _. k x)

pub next : {A B : Type 0} (a : Action A) (f : A → Action B) → IsMeant a → ((x : A) → IsMeant (f x)) → IsMeant (a >>= f)
next a f h k = after (λ _. Unit {0}) a f h k

pub if_meant : {A : Type 0} (Q : A → Type 0) (b : Bool) (x y : Action A) → Meant Q x → Meant Q y → Meant Q (if b then x else y)
if_meant Q true x y h k = h
if_meant Q false x y h k = k

-- ---- cells

disposed_meant : (o : Option Value) → IsMeant (or_disposed o)
disposed_meant (Some v) = tt
disposed_meant None = tt

pub read_meant : (addr : ℕ) → IsMeant (read_value addr)
read_meant addr = λ found. disposed_meant found

there_meant : (b : Bool) → IsMeant (if_there b)
there_meant true = tt
there_meant false = tt

pub write_meant : (addr : ℕ) (v : Value) → IsMeant (write addr v)
write_meant addr v = λ b. there_meant b

pub reads_meant : (vs : List Value) (addr n : ℕ) → IsMeant (read_values vs addr n)
reads_meant vs addr zero = tt
reads_meant vs addr (suc n) = next (read_value addr) (λ v. read_values (vs ++ v ∷ []) (moved addr 1) n) (read_meant addr)
    (λ v. reads_meant (vs ++ v ∷ []) (moved addr 1) n)

pub writes_meant : (addr : ℕ) (vs : List Value) → IsMeant (writes addr vs)
writes_meant addr [] = tt
writes_meant addr (v ∷ vs) = next (write addr v) (λ _. writes (moved addr 1) vs) (write_meant addr v) (λ _. writes_meant (moved addr 1) vs)

pub fault_meant : (r : Result Value OpFault) → IsMeant (or_fault r)
fault_meant (Ok v) = tt
fault_meant (Err e) = tt

undefined_meant : (r : Result Value OpFault) → IsMeant (or_undefined r)
undefined_meant (Ok v) = tt
undefined_meant (Err e) = tt

pub ordinal_meant : (least greatest : ℤ) (addr : ℕ) → IsMeant (ordinal_at least greatest addr)
ordinal_meant least greatest addr = next (read_value addr) (defined least greatest) (read_meant addr) (λ v. undefined_meant (in_range_of v least greatest))

defined_set_meant : (least greatest : ℤ) (v : Value) → IsMeant (defined_set least greatest v)
defined_set_meant least greatest (Value.Bits set) = if_meant (λ _. Unit {0}) (lies_between set least greatest) _ _ tt tt
defined_set_meant least greatest v = tt

pub set_meant : (least greatest : ℤ) (addr : ℕ) → IsMeant (set_at least greatest addr)
set_meant least greatest addr = next (read_value addr) (defined_set least greatest) (read_meant addr) (defined_set_meant least greatest)

link_meant : (v : Value) → IsMeant (frame_of_link v)
link_meant (Value.Frame base) = tt
link_meant v = tt

pub frame_meant : (levels base : ℕ) → IsMeant (frame_out levels base)
frame_meant zero base = tt
frame_meant (suc n) base = next (linked base) (frame_out n) (next (read_value base) frame_of_link (read_meant base) link_meant) (λ b. frame_meant n b)

pub cell_meant : (levels base place : ℕ) → IsMeant (cell_out levels base place)
cell_meant levels base place = next (frame_out levels base) (λ frame. Give (moved frame place)) (frame_meant levels base) (λ _. tt)

variable_meant : (v : Value) → IsMeant (variable_of v)
variable_meant (Value.Place addr) = tt
variable_meant v = tt

pub referred_meant : (addr : ℕ) → IsMeant (referred addr)
referred_meant addr = next (read_value addr) variable_of (read_meant addr) variable_meant

pub reference_meant : (levels base place : ℕ) → IsMeant (reference_out levels base place)
reference_meant levels base place = next (cell_out levels base place) referred (cell_meant levels base place) referred_meant

-- a routine that may be an actual of the parameter
abbrev pub MayStand : ProgramRows → (heading : ℕ) → ℕ × ℕ → Type 0
MayStand p heading x = may_stand_for p heading x.0 ≡ true

routine_value_meant : (p : ProgramRows) (heading : ℕ) (v : Value) → Meant (MayStand p heading) (routine_meant p heading v)
routine_value_meant p heading (Value.Routine routine frame) = by (may_stand_for p heading routine) refl
  where
    by : (b : Bool) → may_stand_for p heading routine ≡ b → Meant (MayStand p heading) (if b then Give (routine, frame) else Fail (Fault Kind.Undefined))
    by true e = e
    by false e = tt
routine_value_meant p heading v = tt

pub routine_cell_meant : (p : ProgramRows) (heading levels base place : ℕ) → Meant (MayStand p heading) (routine_out p heading levels base place)
routine_cell_meant p heading levels base place = after (MayStand p heading) (cell_out levels base place) (routine_held p heading) (cell_meant levels base place)
    (λ addr. after (MayStand p heading) (read_value addr) (routine_meant p heading) (read_meant addr) (routine_value_meant p heading))

pub position_meant : (least greatest : ℤ) (v : Value) → IsMeant (position_between least greatest v)
position_meant least greatest (Value.Number n) = if_meant (λ _. Unit {0}) (int_le least n && int_le n greatest) _ _ tt tt
position_meant least greatest v = tt

pub component_meant : (a : Components) (addr : ℕ) (v : Value) → IsMeant (component a addr v)
component_meant a addr v = next (position_between a.least a.greatest v) (λ n. Give (moved addr (n * a.size))) (position_meant a.least a.greatest v) (λ _. tt)

-- ---- the heap

pointer_value_meant : (v : Value) → IsMeant (defined_pointer v)
pointer_value_meant v = if_meant (λ _. Unit {0}) (is_pointer v) _ _ tt tt

pub pointer_meant : (addr : ℕ) → IsMeant (pointer_at addr)
pointer_meant addr = next (read_value addr) defined_pointer (read_meant addr) pointer_value_meant

under_meant : (v : Value) → IsMeant (variable_under v)
under_meant (Value.Heap addr) = tt
under_meant Value.Nil = tt
under_meant v = tt

by_meant : (v : Value) → IsMeant (pointed_by v)
by_meant v = next (defined_pointer v) variable_under (pointer_value_meant v) under_meant

pub pointed_meant : (addr : ℕ) → IsMeant (pointed_at addr)
pointed_meant addr = next (read_value addr) pointed_by (read_meant addr) by_meant

drop_meant : (addr cells : ℕ) (b : Bool) → IsMeant (if_there b >>= λ _. Perform (DropBlock addr cells) Give)
drop_meant addr cells true = λ _. tt
drop_meant addr cells false = tt

pub dispose_meant : (cells : ℕ) (v : Value) → IsMeant (dispose cells v)
dispose_meant cells v = next (pointed_by v) (λ addr. drop_found addr cells) (by_meant v) (λ addr found. drop_meant addr cells found)

pub made_meant : (cells of' : ℕ) → IsMeant (made_variable cells of')
made_meant cells of' = λ addr. tt

pub pointer_result_meant : (addr : ℕ) → IsMeant (pointer_result_at addr)
pointer_result_meant addr = next (read_value addr) or_no_pointer (read_meant addr) (λ v. if_meant (λ _. Unit {0}) (is_pointer v) _ _ tt tt)

-- ---- the text files

pub end_meant : IsMeant at_end
end_meant = λ item. tt

tells_meant : (o : Option ℕ) → IsMeant (tells_line_end o)
tells_meant None = tt
tells_meant (Some item) = tt

pub line_end_meant : IsMeant at_line_end
line_end_meant = λ o. next (tells_line_end o) _ (tells_meant o) (λ _. tt)

char_meant : (o : Option ℕ) → IsMeant (char_of o)
char_meant None = tt
char_meant (Some item) = tt

pub next_char_meant : IsMeant next_char
next_char_meant = λ o. char_meant o

pub past_meant : IsMeant past_item
past_meant = λ o. tells_meant o

integer_meant : (minus : Bool) (number : ℕ) → IsMeant (integer_read minus number)
integer_meant minus number = next (or_fault (integer (signed_number minus number))) _ (fault_meant _) (λ _. tt)

first_meant : (minus : Bool) (o : Option ℕ) → IsMeant (first_digit minus o)
first_meant minus None = tt
first_meant minus (Some item) = if_meant (λ _. Unit {0}) (is_digit item) _ _ tt tt

leading_meant : (o : Option ℕ) → IsMeant (leading o)
leading_meant None = tt
leading_meant (Some item) = if_meant (λ _. Unit {0}) (is_blank item) _ _ tt
    (if_meant (λ _. Unit {0}) (is_sign item) _ _ (λ o. first_meant (is_minus item) o) (first_meant false (Some item)))

further_meant : (minus : Bool) (number : ℕ) (o : Option ℕ) → IsMeant (further minus number o)
further_meant minus number None = integer_meant minus number
further_meant minus number (Some item) = if_meant (λ _. Unit {0}) (is_digit item) _ _ tt (integer_meant minus number)

pub scan_meant : (s : Scan) → IsMeant (scan_on s)
scan_meant Blanks = λ o. leading_meant o
scan_meant (Digits minus number) = λ o. further_meant minus number o

gives_meant : (cs : List (Option ℕ)) → IsMeant (gives cs)
gives_meant [] = tt
gives_meant (Some byte ∷ cs) = λ _. gives_meant cs
gives_meant (None ∷ cs) = tt

width_meant : (v : Value) → IsMeant (width_of v)
width_meant (Value.Number n) = if_meant {A = ℕ} (λ _. Unit {0}) (int_le (pos 1) n) (Give (unsigned_abs n)) (Fail (Fault Kind.BadWidth)) tt tt
width_meant v = tt

pub written_meant : (text : Text) (width : Option Value) → IsMeant (written text width)
written_meant text None = gives_meant text.chars
written_meant text (Some width) = next (width_of width) (λ n. gives (in_width n text)) (width_meant width) (λ n. gives_meant (in_width n text))

pub end_line_meant : IsMeant end_line
end_line_meant = λ _. tt

pub end_page_meant : IsMeant end_page
end_page_meant = λ _. tt

-- ---- packing

start_meant : (wide close : Components) (addr n : ℕ) → IsMeant (start_at wide close addr n)
start_meant wide close addr n = if_meant {A = ℕ} (λ _. Unit {0}) (nat_lt (count_of wide) (n + count_of close)) (Fail (Fault Kind.OutOfRange))
    (Give (moved addr (n * wide.size))) tt tt

pub moved_meant : (wide close : Components) (addr : ℕ) (v : Value) → IsMeant (first_moved wide close addr v)
moved_meant wide close addr v = next (position_between wide.least wide.greatest v) (start_at wide close addr) (position_meant wide.least wide.greatest v)
    (start_meant wide close addr)

pub copies_meant : (from to cells : ℕ) → IsMeant (copies from to cells)
copies_meant from to cells = next (read_values [] from cells) (writes to) (reads_meant [] from cells) (λ vs. writes_meant to vs)
