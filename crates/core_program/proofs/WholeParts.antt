-- Where tables are whole each part does only what is meant, and ends as its place takes it.
use Rattle.std.proofs.Common.{if◌then◌else◌, ◌&&◌, ◌||◌, ◌≡◌, ◌≤◌, ◌⊎◌, ℕ, ℤ, Bool, List, None, Option, Some, arith, false, inl, inr, is_some, length, refl}
use Rattle.std.proofs.Common.{subst, sym, true}
use Rattle.cell_value.specs.declared.values.Value.{Value}
use Rattle.core_program.proofs.ActionsMeant.{IsMeant, Meant, no}
use Rattle.core_program.specs.{Acts.Answer, Conformant.Dimensions, Expressions.on_actuals, Headings.heading_in, Passed.Passed}
use Rattle.core_program.specs.Accesses.{eval, eval_cells, locate, locate_target, on_address, on_bounded, on_cells, on_scalar, until_end, with_bounds}
use Rattle.core_program.specs.Accesses.{with_components, with_dimensions, with_formal, with_size}
use Rattle.core_program.specs.Actions.{Action, Fail, Give, NoMeaning, Perform}
use Rattle.core_program.specs.ProgramRows.{ProgramRows, routine_at, row_at, type_at, type_in}
use Rattle.core_program.specs.Tree.{ActTree, Actuals, Address, Body, Bounded, Cells, Count, Do, Enter, Establish, Eval, Exec, Gather, Halt, Here, Jump, Line}
use Rattle.core_program.specs.Tree.{Locate, Meaningless, Out, Part, Pass, Print, Receive, RestOfLine, Ret, Scalar, Scanning, Sequence, Sub, Turn, doing}
use Rattle.core_program.specs.WholeTables.{RowFits, ScopedRecords, ScopedRow, WholeTables, is_access, is_access_to, is_actual_item, is_array_type, is_bounded}
use Rattle.core_program.specs.WholeTables.{is_bounded_row, is_cells, is_cells_row, is_conformant, is_conformant_type, is_element_of, is_end, is_function}
use Rattle.core_program.specs.WholeTables.{is_list, is_member_item, is_ordinal_type, is_read_access, is_record_access, is_routine, is_scalar, is_scalar_row}
use Rattle.core_program.specs.WholeTables.{is_simple_type, is_statement, is_structured_type, is_turns_row, is_written_item, type_accessed}
use Rattle.core_program.specs.declared.{components.Components.Components, rows.ExpressionRow.ExpressionRow}
use Rattle.core_program.specs.declared.rows.{AccessRow.AccessRow, NameRow.NameRow, Row.Row, StatementRow.StatementRow, TypeRow.TypeRow}

-- ---- what a place takes

pub data Takes : Type 0 where
  Anything : Takes
  OneCell : Takes
  ManyCells : Takes
  Variable : Takes
  BoundedArray : Takes
  Passing : Takes

-- A jump goes on outward from each place.
abbrev pub Fits : Takes → Out → Type 0
Fits Anything out = Unit {0}
Fits OneCell (Scalar v) = Unit {0}
Fits OneCell (Jump label base) = Unit {0}
Fits OneCell out = ⊥
Fits ManyCells (Cells vs) = Unit {0}
Fits ManyCells (Jump label base) = Unit {0}
Fits ManyCells out = ⊥
Fits Variable (Address addr) = Unit {0}
Fits Variable (Bounded addr frame) = Unit {0}
Fits Variable (Jump label base) = Unit {0}
Fits Variable out = ⊥
Fits BoundedArray (Bounded addr frame) = Unit {0}
Fits BoundedArray (Jump label base) = Unit {0}
Fits BoundedArray out = ⊥
Fits Passing (Actuals passed) = Unit {0}
Fits Passing (Jump label base) = Unit {0}
Fits Passing out = ⊥

pub jump_fits : (k : Takes) (label base : ℕ) → Fits k (Jump label base)
jump_fits Anything label base = tt
jump_fits OneCell label base = tt
jump_fits ManyCells label base = tt
jump_fits Variable label base = tt
jump_fits BoundedArray label base = tt
jump_fits Passing label base = tt

-- ---- parts of whole tables

abbrev pub cells_if : Bool → Takes
cells_if one = if one then OneCell else ManyCells

abbrev pub array_if : Bool → Takes
array_if bounded = if bounded then BoundedArray else Variable

-- an array with its bounds is a variable too
pub as_variable : (b : Bool) (out : Out) → Fits (array_if b) out → Fits Variable out
as_variable true (Bounded addr frame) f = tt
as_variable true (Jump label base) f = tt
as_variable true out f = absurd f
as_variable false out f = f

pub bounded_fits : (b : Bool) (addr frame : ℕ) → Fits (array_if b) (Bounded addr frame)
bounded_fits true addr frame = tt
bounded_fits false addr frame = tt

abbrev pub gives : ProgramRows → Part → Takes
gives p (Eval row here) = cells_if (is_scalar p row)
gives p (Locate row target here) = array_if (is_bounded p row)
gives p (Pass at passed here) = Passing
gives p (Gather at set here) = OneCell
gives p (Scanning scan here) = OneCell
gives p part = Anything

abbrev pub result_if : Bool → Takes
result_if function = if function then OneCell else Anything

-- what a call of a routine gives
abbrev pub gives_call : ProgramRows → ℕ → Takes
gives_call p f = result_if (is_function (routine_at p f))

abbrev pub is_value : ProgramRows → ℕ → Bool
is_value p n = is_scalar p n || is_cells p n

abbrev pub is_turn_row : Row → Bool
is_turn_row (Row.Statement (StatementRow.While line condition body)) = true
is_turn_row (Row.Statement (StatementRow.Repeat line statements condition)) = true
is_turn_row r = false

-- the fields of with statements' records in a construct belong to records that are there
pub record Inside (p : ProgramRows) (W : WholeTables p) (w n : ℕ) : Type 0 where
  pub there : W.around n ≤ w

abbrev pub InsideRecords : (p : ProgramRows) → WholeTables p → Here → (at body : ℕ) → Type 0
InsideRecords p W here at body = (n : ℕ) × ScopedRecords p W.around n (length here.records) at body

-- the rows of a part are of the kind that it takes
abbrev pub IsWhole : (p : ProgramRows) → WholeTables p → Part → Type 0
IsWhole p W (Eval row here) = (is_value p row ≡ true) × Inside p W (length here.records) row
IsWhole p W (Locate row target here) = (is_access p row ≡ true) × Inside p W (length here.records) row
IsWhole p W (Pass at passed here) = (is_list is_actual_item p at ≡ true) × Inside p W (length here.records) at
IsWhole p W (Gather at set here) = (is_list is_member_item p at ≡ true) × Inside p W (length here.records) at
IsWhole p W (Exec row here) = (is_statement p row ≡ true) × Inside p W (length here.records) row
IsWhole p W (Establish at body here) =
    (is_list (is_element_of (is_record_access p)) p at ≡ true) × (is_statement p body ≡ true) × InsideRecords p W here at body
IsWhole p W (Sequence first at here) = (is_list (is_element_of (is_statement p)) p first ≡ true)
    × (is_list (is_element_of (is_statement p)) p at ≡ true) × Inside p W (length here.records) first × Inside p W (length here.records) at
IsWhole p W (Turn row here) = (is_turn_row (row_at p row) ≡ true) × Inside p W (length here.records) row
IsWhole p W (Count row i last here) = (is_turns_row (row_at p row) ≡ true) × Inside p W (length here.records) row
IsWhole p W (Receive at here) = (is_list (is_element_of (is_read_access p)) p at ≡ true) × Inside p W (length here.records) at
IsWhole p W (Scanning scan here) = Unit {0}
IsWhole p W (RestOfLine here) = Unit {0}
IsWhole p W (Print at here) = (is_list is_written_item p at ≡ true) × Inside p W (length here.records) at
IsWhole p W (Body routine base) = is_routine p routine ≡ true

-- ---- trees of whole tables

-- A tree is meant, whatever its acts answer and however its parts and calls end, and it ends as a place takes it.
abbrev pub Good : (p : ProgramRows) → WholeTables p → Takes → ActTree → Type 0
Good p W k (Ret out) = Fits k out
Good p W k (Halt line why) = Unit {0}
Good p W k Meaningless = ⊥
Good p W k (Do line act next) = (x : Answer act) → Good p W k (next x)
Good p W k (Sub part next) = IsWhole p W part × ((out : Out) → Fits (gives p part) out → Good p W k (next out))
Good p W k (Enter e next) = (is_routine p e.routine ≡ true) × ((out : Out) → Fits (gives_call p e.routine) out → Good p W k (next out))
Good p W k (Line line next) = Good p W k next

pub good_doing : (p : ProgramRows) (W : WholeTables p) (k : Takes) {A : Type 0} (Q : A → Type 0) (line : ℕ) (a : Action A) (go : A → ActTree) → Meant Q a
    → ((x : A) → Q x → Good p W k (go x)) → Good p W k (doing line a go)
good_doing p W k Q line (Give x) go h g = g x h
good_doing p W k Q line (Fail why) go h g = tt
good_doing p W k Q line NoMeaning go h g = absurd h
good_doing p W k Q line (Perform act next) go h g = λ x. good_doing p W k Q line (next x) go (h x) g

pub good_after : (p : ProgramRows) (W : WholeTables p) (k : Takes) {A : Type 0} (line : ℕ) (a : Action A) (go : A → ActTree) → IsMeant a
    → ((x : A) → Good p W k (go x)) → Good p W k (doing line a go)
good_after p W k line a go h g = good_doing p W k (λ _. Unit {0}) line a go h (λ x _. g x)

pub good_if : (p : ProgramRows) (W : WholeTables p) (k : Takes) (b : Bool) (t u : ActTree) → (b ≡ true → Good p W k t) → (b ≡ false → Good p W k u)
    → Good p W k (if b then t else u)
good_if p W k true t u h g = h refl
good_if p W k false t u h g = g refl

-- goes on with an item of a list that does not end
pub good_until : (p : ProgramRows) (W : WholeTables p) (k : Takes) (at : ℕ) (t u : ActTree) → Good p W k t → (is_end at ≡ false → Good p W k u)
    → Good p W k (until_end at t u)
good_until p W k at t u h g = good_if p W k (is_end at) t u (λ _. h) g

-- ---- tests

pub or_left : (a b : Bool) → a ≡ true → (a || b) ≡ true
or_left true b h = refl
or_left false b h = no h

pub or_right : (a b : Bool) → b ≡ true → (a || b) ≡ true
or_right true b h = refl
or_right false b h = h

pub or_second : (a b : Bool) → a ≡ false → (a || b) ≡ true → b ≡ true
or_second true b h e = no (sym h)
or_second false b h e = e

pub or_cases : (a b : Bool) → (a || b) ≡ true → (a ≡ true) ⊎ (b ≡ true)
or_cases true b h = inl refl
or_cases false b h = inr h

pub and_both : (a b : Bool) → (a && b) ≡ true → (a ≡ true) × (b ≡ true)
and_both true b h = (refl, h)
and_both false b h = no h

-- the item of a list that does not end
pub listed : (is_item : Row → Bool) (p : ProgramRows) (at : ℕ) → is_end at ≡ false → is_list is_item p at ≡ true → is_item (row_at p at) ≡ true
listed is_item p at e h = or_second (is_end at) (is_item (row_at p at)) e h

-- ---- one step of scoping

pub opened : (p : ProgramRows) (W : WholeTables p) (here : Here) (n : ℕ) → Inside p W (length here.records) n → Inside p W (length here.records) n
    × ScopedRow p W.around n (row_at p n)
opened p W here n i = (i, W.scoped n)

-- a part of a construct is where that is
pub in_part : (p : ProgramRows) (W : WholeTables p) {w n m : ℕ} → Inside p W w n → W.around m ≤ W.around n → Inside p W w m
in_part p W i l = record { there = omega (arith, i.there, l) }

module _ (p : ProgramRows) (W : WholeTables p) where
  pub on_one : (k : Takes) (go : Value → ActTree) → ((v : Value) → Good p W k (go v)) → (out : Out) → Fits OneCell out → Good p W k (on_scalar go out)
  on_one k go g (Scalar v) f = g v
  on_one k go g (Jump label base) f = jump_fits k label base
  on_one k go g out f = absurd f

  pub on_many : (k : Takes) (go : List Value → ActTree) → ((vs : List Value) → Good p W k (go vs)) → (out : Out) → Fits ManyCells out
      → Good p W k (on_cells go out)
  on_many k go g (Cells vs) f = g vs
  on_many k go g (Jump label base) f = jump_fits k label base
  on_many k go g out f = absurd f

  pub on_variable : (k : Takes) (go : ℕ → ActTree) → ((addr : ℕ) → Good p W k (go addr)) → (out : Out) → Fits Variable out → Good p W k (on_address go out)
  on_variable k go g (Address addr) f = g addr
  on_variable k go g (Bounded addr frame) f = g addr
  on_variable k go g (Jump label base) f = jump_fits k label base
  on_variable k go g out f = absurd f

  pub on_array : (k : Takes) (go : ℕ → ℕ → ActTree) → ((addr frame : ℕ) → Good p W k (go addr frame)) → (out : Out) → Fits BoundedArray out
      → Good p W k (on_bounded go out)
  on_array k go g (Bounded addr frame) f = g addr frame
  on_array k go g (Jump label base) f = jump_fits k label base
  on_array k go g out f = absurd f

  pub on_passed : (k : Takes) (go : Passed → ActTree) → ((passed : Passed) → Good p W k (go passed)) → (out : Out) → Fits Passing out
      → Good p W k (on_actuals go out)
  on_passed k go g (Actuals passed) f = g passed
  on_passed k go g (Jump label base) f = jump_fits k label base
  on_passed k go g out f = absurd f

  pub conformant_not_simple : (t : Option TypeRow) → is_conformant_type t ≡ true → is_simple_type t ≡ false
  conformant_not_simple (Some (TypeRow.Conformant packed index component place)) h = refl
  conformant_not_simple t h = no h

  -- an access that finds bounds is one of a conformant array
  pub bounded_conformant : (a : AccessRow) → is_bounded_row p (Row.Access a) ≡ true → is_conformant p (type_accessed a) ≡ true
  bounded_conformant (AccessRow.Conformant place levels of') h = h
  bounded_conformant (AccessRow.Component inner index array of') h = h
  bounded_conformant a h = no h

  conformant_there : (t : Option TypeRow) → is_conformant_type t ≡ true → is_some t ≡ true
  conformant_there None h = no h
  conformant_there (Some t) h = refl

  pub bounded_is_access : (r : Row) → is_bounded_row p r ≡ true → is_access_to is_some p r ≡ true
  bounded_is_access (Row.Access a) h = conformant_there (type_at p (type_accessed a)) (bounded_conformant a h)
  bounded_is_access r h = no h

  simple_not_structured : (t : Option TypeRow) → is_structured_type t ≡ true → is_simple_type t ≡ false
  simple_not_structured (Some (TypeRow.Array packed index component cells)) h = refl
  simple_not_structured (Some (TypeRow.Record packed region cells variants)) h = refl
  simple_not_structured t h = no h

  pub cells_not_scalar : (r : Row) → is_cells_row p r ≡ true → is_scalar_row p r ≡ false
  cells_not_scalar (Row.Expression (ExpressionRow.Text token)) h = refl
  cells_not_scalar (Row.Access a) h =
      elim (or_cases (is_structured_type (type_at p (type_accessed a))) (is_bounded_row p (Row.Access a)) h) [
        | inl e ↦ simple_not_structured (type_at p (type_accessed a)) e
        | inr e ↦ conformant_not_simple (type_at p (type_accessed a)) (bounded_conformant a e)
      ]
  cells_not_scalar r h = no h

  pub good_eval : (k : Takes) (n : ℕ) (here : Here) (go : Value → ActTree) → is_scalar p n ≡ true → Inside p W (length here.records) n
      → ((v : Value) → Good p W k (go v))
      → Good p W k (eval n here go)
  good_eval k n here go h s g =
      ((or_left (is_scalar p n) (is_cells p n) h, s), λ out f. on_one k go g out (subst (λ b. Fits (cells_if b) out) h f))

  pub good_cells : (k : Takes) (n : ℕ) (here : Here) (go : List Value → ActTree) → is_cells p n ≡ true → Inside p W (length here.records) n
      → ((vs : List Value) → Good p W k (go vs)) → Good p W k (eval_cells n here go)
  good_cells k n here go h s g = (
    (or_right (is_scalar p n) (is_cells p n) h, s),
    λ out f. on_many k go g out (subst (λ b. Fits (cells_if b) out) (cells_not_scalar (row_at p n) h) f),
  )

  pub good_locate : (k : Takes) (n : ℕ) (here : Here) (go : ℕ → ActTree) → is_access p n ≡ true → Inside p W (length here.records) n
      → ((addr : ℕ) → Good p W k (go addr))
      → Good p W k (locate n here go)
  good_locate k n here go h s g = ((h, s), λ out f. on_variable k go g out (as_variable (is_bounded p n) out f))

  pub good_target : (k : Takes) (n : ℕ) (here : Here) (go : ℕ → ActTree) → is_access p n ≡ true → Inside p W (length here.records) n
      → ((addr : ℕ) → Good p W k (go addr))
      → Good p W k (locate_target n here go)
  good_target k n here go h s g = ((h, s), λ out f. on_variable k go g out (as_variable (is_bounded p n) out f))

  pub good_bounded : (k : Takes) (n : ℕ) (here : Here) (go : ℕ → ℕ → ActTree) → is_bounded p n ≡ true → Inside p W (length here.records) n
      → ((addr frame : ℕ) → Good p W k (go addr frame))
      → Good p W k (Sub (Locate n false here) (on_bounded go))
  good_bounded k n here go h s g =
      ((bounded_is_access (row_at p n) h, s), λ out f. on_array k go g out (subst (λ b. Fits (array_if b) out) h f))

  pub good_dimensions : (k : Takes) (o : Option Dimensions) (go : Dimensions → ActTree) → is_some o ≡ true → ((d : Dimensions) → Good p W k (go d))
      → Good p W k (with_dimensions o go)
  good_dimensions k None go h g = no h
  good_dimensions k (Some d) go h g = g d

  pub good_bounds : (k : Takes) (t : Option TypeRow) (go : ℤ → ℤ → ActTree) → is_ordinal_type t ≡ true → ((least greatest : ℤ) → Good p W k (go least greatest))
      → Good p W k (with_bounds t go)
  good_bounds k (Some (TypeRow.Ordinal least greatest)) go h g = g least greatest
  good_bounds k (Some (TypeRow.Subrange host least greatest)) go h g = g least greatest
  good_bounds k t go h g = no h

  pub good_size : (k : Takes) (t : Option TypeRow) (go : ℕ → ActTree) → is_some t ≡ true → ((n : ℕ) → Good p W k (go n)) → Good p W k (with_size t go)
  good_size k None go h g = no h
  good_size k (Some t) go h g = g _

  pub good_formal : (k : Takes) (r : Row) (go : ℕ → ℕ → ActTree) → is_some (heading_in r) ≡ true
      → ((place heading : ℕ) → heading_in r ≡ Some heading → Good p W k (go place heading)) → Good p W k (with_formal r go)
  good_formal k (Row.Name (NameRow.RoutineFormal place level heading)) go h g = g place heading refl
  good_formal k r go h g = no h

  -- an array type, by its row
  pub good_components : (k : Takes) (n : ℕ) (r : Row) (go : Components → ActTree) → RowFits p n r → is_array_type (type_in r) ≡ true
      → ((a : Components) → Good p W k (go a)) → Good p W k (with_components p (type_in r) go)
  good_components k n (Row.Type (TypeRow.Array packed index component cells)) go f h g =
      good_bounds k (type_at p index) _ f.0 (λ least greatest. good_size k (type_at p component) _ f.1 (λ size. g _))
  good_components k n (Row.Type t) go f h g = no h
  good_components k n r go f h g = no h
