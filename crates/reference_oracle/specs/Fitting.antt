-- Which calls of the subject's run the reference can answer for: a call that worked on nothing but what both programs
-- have.
use Rattle.std.specs.Prelude.{if◌then◌else◌, ◌&&◌, ◌+◌, ◌==◌, ◌≡◌, ◌≤◌, ℕ, All, Bool, IsSome, None, Option, Some, false}
use Rattle.std.specs.Prelude.{find, length, suc, true, zero}
use Rattle.std.specs.List.{range_with_len}
use Rattle.cell_value.specs.Effects.{changes_of, made_of, reads_of}
use Rattle.cell_value.specs.declared.{values.Value.Value, ways_out.WayOut.WayOut}
use Rattle.core_program.specs.{Run.Call, State.stack_end, declared.rows.ItemRow.ItemRow, declared.rows.Row.Row}
use Rattle.core_program.specs.Headings.{same_mode, signature_at, variable_type}
use Rattle.core_program.specs.ProgramRows.{ProgramRows, frame_of, routine_at, row_at}
use Rattle.core_program.specs.declared.{headings.Signature.Signature, program.Routine.Routine}
use Rattle.reference_oracle.specs.Matches.{in_reference, matches}
use Rattle.reference_oracle.specs.Shapes.{Programs, names_agree, programs, same_shape}
use Rattle.reference_oracle.specs.declared.headings.{InTurn.InTurn, Section.Section}

-- ---- headings of one form

-- what stands at a number of a list of sections
abbrev pub section_in : ProgramRows → Row → Section
section_in p (Row.Item (ItemRow.Section m first count next)) =
    Section.Names m (variable_type (row_at p first) first) count next
section_in p (Row.Item (ItemRow.RoutineSection heading next)) = Section.Heading
section_in p r = Section.End

abbrev pub section_at : ProgramRows → (at : ℕ) → Section
section_at p at = section_in p (row_at p at)

-- Two sections agree that are both by value or both `var`, with equally many names and of one shape. A procedure or
-- function as a parameter agrees with nothing, and so does a conformant array, which has no shape.
abbrev pub sections_in_turn : Programs → Section → Section → InTurn
sections_in_turn ps (Section.Names m a count next) (Section.Names n b other after) =
    if same_mode m n && (count == other && same_shape ps a b) then InTurn.Further next after else InTurn.Apart
sections_in_turn ps Section.End Section.End = InTurn.Over
sections_in_turn ps s t = InTurn.Apart

abbrev pub in_turn : (further : ℕ → ℕ → Bool) → InTurn → Bool
in_turn further (InTurn.Further a b) = further a b
in_turn further InTurn.Over = true
in_turn further InTurn.Apart = false

-- two lists have equally many sections, at most this many, and these agree in turn
abbrev pub same_sections : Programs → (most a b : ℕ) → Bool
same_sections ps zero a b = false
same_sections ps (suc most) a b =
    in_turn (same_sections ps most) (sections_in_turn ps (section_at ps.subject a) (section_at ps.reference b))

-- both are procedures, or both functions with results of one shape
abbrev pub same_results : Programs → Option ℕ → Option ℕ → Bool
same_results ps None None = true
same_results ps (Some s) (Some t) = same_shape ps s t
same_results ps s t = false

abbrev pub same_signatures : Programs → Option Signature → Option Signature → Bool
same_signatures ps (Some g) (Some h) =
    same_results ps g.result h.result && same_sections ps (length ps.subject.rows) g.sections h.sections
same_signatures ps g h = false

-- ---- the routine that answers

-- Both are declared in the program block, which is then the one block around their own, and have one name. No two
-- routines of a block have one.
abbrev pub is_namesake : Programs → Option Routine → Option Routine → Bool
is_namesake ps (Some r) (Some s) = r.level == 1 && (s.level == 1 && names_agree ps r.name s.name)
is_namesake ps r s = false

abbrev pub same_headings : Programs → Option Routine → Option Routine → Bool
same_headings ps (Some r) (Some s) =
    same_signatures ps (signature_at ps.subject r.heading) (signature_at ps.reference s.heading)
same_headings ps r s = false

abbrev pub if_same_headings : Programs → (routine : ℕ) → Option ℕ → Option ℕ
if_same_headings ps routine None = None
if_same_headings ps routine (Some s) =
    if same_headings ps (routine_at ps.subject routine) (routine_at ps.reference s) then Some s else None

-- the routine of the reference that answers for one of the subject: the one of its name, if their headings are of one
-- form
unfoldable pub counterpart : Programs → (routine : ℕ) → Option ℕ
counterpart ps routine =
    if_same_headings ps routine
    (find (λ s. is_namesake ps (routine_at ps.subject routine) (routine_at ps.reference s))
    (range_with_len 0 (length ps.reference.routines)))

-- ---- calls that fit

-- a call of the subject's run, which had this budget of steps
pub record Asked : Type 0 where
  pub programs : Programs
  pub call : Call
  pub budget : ℕ

abbrev pub asked : (subject reference : ProgramRows) → Call → (budget : ℕ) → Asked
asked subject reference call budget = record {
  programs = programs subject reference;
  call = call;
  budget = budget;
}

-- an address is that of a cell of a matching variable
abbrev pub IsCommon : Asked → (address : ℕ) → Type 0
IsCommon a address = IsSome (in_reference (matches a.programs) address)

-- an actual is no place, or that of a cell of a matching variable
abbrev pub IsCommonValue : Asked → Value → Type 0
IsCommonValue a (Value.Place address) = IsCommon a address
IsCommonValue a v = Unit {0}

abbrev pub ReturnedOrFaulted : WayOut → Type 0
ReturnedOrFaulted WayOut.Returned = Unit {0}
ReturnedOrFaulted (WayOut.Faulted kind line) = Unit {0}
ReturnedOrFaulted way = ⊥

-- The call fits the reference, of which this routine answers for it.
pub record FitsReference (a : Asked) (routine : ℕ) : Type 0 where
  -- it returned, or there was a fault
  pub way : ReturnedOrFaulted a.call.way
  -- both routines are declared in the program blocks, of one name and one form
  pub answered_by : counterpart a.programs a.call.routine ≡ Some routine
  -- each place among its actuals, and each address that it read, asked for or changed, is a cell of a matching variable
  pub args : All (IsCommonValue a) a.call.args
  pub reads : All (λ x. IsCommon a x.0) (reads_of a.call.base a.call.log)
  pub changes : All (λ x. IsCommon a x.0) (changes_of a.call.base a.call.log)
  -- it made no cells of the heap
  pub made : made_of a.call.log ≡ 0
  -- the frames of the reference's program block and of the routine fit the stack
  pub room : frame_of a.programs.reference 0 + frame_of a.programs.reference routine ≤ stack_end
