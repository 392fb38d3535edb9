-- What the reference says of a call, and the same as a test, line by line.
use Rattle.std.specs.Prelude.{if◌then◌else◌, ◌&&◌, ◌+◌, ◌≡◌, ℕ, Bool, None, Option, Some, false, is_some, nat_eq}
use Rattle.std.specs.{Prelude.nat_le, Prelude.true, FinMap.get, List.list_all, Str.bytes_eq}
use Rattle.cell_value.specs.Effects.{changes_of, made_of, reads_of}
use Rattle.cell_value.specs.contracts.ways_out.KindPartialEq.TheImpl as kinds
use Rattle.cell_value.specs.declared.{values.Value.Value, ways_out.Kind.Kind, ways_out.WayOut.WayOut}
use Rattle.core_program.specs.{Agree.EndedByItself, ProgramRows.frame_of, Replay.same_value, Run.Call, State.stack_end}
use Rattle.reference_oracle.specs.{Fitting.Asked, Fitting.FitsReference, Fitting.counterpart, Matches.common_addresses}
use Rattle.reference_oracle.specs.{Matches.in_reference, Matches.matches, declared.verdicts.Verdict.Verdict}
use Rattle.reference_oracle.specs.Answers.{IsSameAnswer, answer_of, bytes_given, items_taken}
use Rattle.reference_oracle.specs.declared.verdicts.Verdict.TheVariants.{NoAnswer, Right, Unfit, Wrong}

-- ---- what is said

-- the call fits, and this is what the reference did in its place
pub record IsAnswered (a : Asked) (d : Call) : Type 0 where
  pub routine : ℕ
  pub fits : FitsReference a routine
  pub answer : answer_of a routine ≡ Some d

-- Right exactly where the call fits and the answer, which came to an end, is the same; Wrong exactly where it is not
-- the same; no answer where the steps were spent or a limit was reached; unfit exactly where the call does not fit.
abbrev pub Says : Asked → Verdict → Type 0
Says a Unfit = (routine : ℕ) → FitsReference a routine → ⊥
Says a (NoAnswer way) = (d : Call) × IsAnswered a d × (EndedByItself d.way → ⊥) × (d.way ≡ way)
Says a Right = (d : Call) × IsAnswered a d × EndedByItself d.way × IsSameAnswer a d
Says a Wrong = (d : Call) × IsAnswered a d × EndedByItself d.way × (IsSameAnswer a d → ⊥)

-- ---- the same as a test

abbrev pub returned_or_faulted : WayOut → Bool
returned_or_faulted WayOut.Returned = true
returned_or_faulted (WayOut.Faulted kind line) = true
returned_or_faulted way = false

abbrev pub is_common : Asked → ℕ → Bool
is_common a address = is_some (in_reference (matches a.programs) address)

abbrev pub is_common_value : Asked → Value → Bool
is_common_value a (Value.Place address) = is_common a address
is_common_value a v = true

unfoldable pub fits_reference : Asked → (routine : ℕ) → Bool
fits_reference a routine =
    returned_or_faulted a.call.way
    && (list_all (is_common_value a) a.call.args
    && (list_all (λ x. is_common a x.0) (reads_of a.call.base a.call.log)
    && (list_all (λ x. is_common a x.0) (changes_of a.call.base a.call.log)
    && (nat_eq (made_of a.call.log) 0
    && nat_le (frame_of a.programs.reference 0 + frame_of a.programs.reference routine) stack_end))))

abbrev pub is_same_kind : Kind → Kind → Bool
is_same_kind = (kinds.ghosts).eq

abbrev pub is_same_way : (way other : WayOut) → Bool
is_same_way WayOut.Returned WayOut.Returned = true
is_same_way (WayOut.Faulted kind line) (WayOut.Faulted other there) = is_same_kind kind other
is_same_way way other = false

abbrev pub is_same_cell : Option Value → Option Value → Bool
is_same_cell None None = true
is_same_cell (Some v) (Some w) = same_value v w
is_same_cell v w = false

abbrev pub is_left_same : Asked → Call → (address : ℕ) → Option ℕ → Bool
is_left_same a d address None = true
is_left_same a d address (Some there) = is_same_cell (get d.exit.cells there) (get a.call.exit.cells address)

unfoldable pub is_same_answer : Asked → Call → Bool
is_same_answer a d =
    is_same_way a.call.way d.way
    && (is_same_cell d.result a.call.result
    && (list_all (λ address. is_left_same a d address (in_reference (matches a.programs) address))
    (common_addresses (matches a.programs))
    && (nat_eq (items_taken d) (items_taken a.call) && bytes_eq (bytes_given d) (bytes_given a.call))))

abbrev pub verdict_by_end : Asked → Call → WayOut → Verdict
verdict_by_end a d WayOut.OutOfSteps = NoAnswer WayOut.OutOfSteps
verdict_by_end a d (WayOut.Limited which) = NoAnswer (WayOut.Limited which)
verdict_by_end a d way = if is_same_answer a d then Right else Wrong

abbrev pub verdict_by_answer : Asked → Option Call → Verdict
verdict_by_answer a None = Unfit
verdict_by_answer a (Some d) = verdict_by_end a d d.way

abbrev pub verdict_by_routine : Asked → Option ℕ → Verdict
verdict_by_routine a None = Unfit
verdict_by_routine a (Some routine) =
    if fits_reference a routine then verdict_by_answer a (answer_of a routine) else Unfit

unfoldable pub verdict_on : Asked → Verdict
verdict_on a = verdict_by_routine a (counterpart a.programs a.call.routine)
