-- What is shown of a call that is to be judged: the lines of its card, in order.
use Rattle.std.specs.Prelude.{if◌then◌else◌, ◌++◌, ◌+◌, ◌==◌, ◌∷◌, [], ℕ, List, None, Option, Some, codes, flat_map}
use Rattle.std.specs.Prelude.{length, min, nat_lt, slice_get, slice_range}
use Rattle.cell_value.specs.Effects.{changes_of, given_of, looked_of, reads_of, taken_of}
use Rattle.cell_value.specs.declared.{entries.Touch.Touch, values.Value.Value}
use Rattle.core_program.specs.ProgramRows.{ProgramRows, routine_at, row_at}
use Rattle.core_program.specs.declared.program.Routine.{Routine}
use Rattle.call_tree.specs.{Recording.routines_of, Told.part_of, declared.records.Call.Call}
use Rattle.cell_names.specs.{Conformant.arguments_of, Finding.finding_of, Names.Scene, Names.frame, Names.result_of}
use Rattle.cell_names.specs.{Pieces.in_quotation_marks, Places.finds, Values.typed_text, Values.untyped_text}
use Rattle.question_text.specs.{Cells.arguments_text, Cells.change_line, Cells.seen_line, Frames.opened_from}
use Rattle.question_text.specs.{Lines.call_line, Lines.inner_line, Lines.routine_line, WaysOut.way_text}
use Rattle.question_text.specs.declared.prepared.Recorded as kept

abbrev pub end_text : (items to : ℕ) → List ℕ
end_text items to = if nat_lt items to then codes " end" else []

-- the items that were looked at, this many from a place on; the end of the input counts as one
abbrev pub looks_text : (items : List ℕ) → (place looked : ℕ) → List ℕ
looks_text items place looked = if looked == 0 then [] else inner_line (codes "looks "
    ++ in_quotation_marks (slice_range items place (min (place + looked) (length items)))
    ++ end_text (length items) (place + looked))

-- the items that were taken, this many from a place on
abbrev pub takes_text : (items : List ℕ) → (place taken : ℕ) → List ℕ
takes_text items place taken =
    if taken == 0 then []
    else inner_line (codes "takes " ++ in_quotation_marks (slice_range items place (place + taken)))

-- the bytes that were given
abbrev pub gives_text : List ℕ → List ℕ
gives_text [] = []
gives_text (byte ∷ bytes) = inner_line (codes "gives " ++ in_quotation_marks (byte ∷ bytes))

abbrev pub result_value_text : ProgramRows → (of' : Option ℕ) → Value → List ℕ
result_value_text p None v = untyped_text v
result_value_text p (Some of') v = typed_text p of' v

abbrev pub result_by : ProgramRows → (of' : Option ℕ) → Option Value → List ℕ
result_by p of' None = []
result_by p of' (Some v) = inner_line (codes "result " ++ result_value_text p of' v)

abbrev pub result_type : ProgramRows → Option Routine → Option ℕ
result_type p None = None
result_type p (Some r) = result_of (row_at p r.heading)

-- the result of a call of a function that returned
abbrev pub result_text : ProgramRows → (routine : ℕ) → Option Value → List ℕ
result_text p routine v = result_by p (result_type p (routine_at p routine)) v

-- what a call did, by its part of the log: what it read and changed, looked at, took and gave
abbrev pub effect_text : Scene → (items : List ℕ) → Call → List Touch → List ℕ
effect_text s items call touches =
    flat_map (seen_line s) (reads_of call.entry.top touches)
    ++ flat_map (change_line s) (changes_of call.entry.top touches)
    ++ looks_text items call.entry.place (looked_of call.entry.place touches)
    ++ takes_text items call.entry.place (taken_of touches)
    ++ gives_text (given_of touches)

-- a run: its program, of this many tokens, its calls in order of entry, its log and the items of its input
pub record Recorded : Type 0 where
  pub program : ProgramRows
  pub tokens : ℕ
  pub calls : List Call
  pub log : List Touch
  pub items : List ℕ

-- the same, where it is kept
abbrev pub recorded_in : kept.Recorded → Recorded
recorded_in r = record {
  program = r.program.now;
  tokens = r.tokens;
  calls = r.calls.now.calls;
  log = r.log.now;
  items = r.items.now;
}

-- what names stand on while a call runs
abbrev pub scene_of : Recorded → (k : ℕ) → Scene
scene_of r k = record {
  program = r.program;
  finding = finding_of r.program r.tokens r.log;
  routines = routines_of r.calls;
  args = arguments_of r.calls;
  opened = finds (opened_from r.calls (length r.calls) (Some k));
}

-- the lines of a card after the first: parameters, reads, changes, looks, takes, gives, result, and the way out
abbrev pub card_lines : Recorded → (k : ℕ) → Scene → Call → List ℕ
card_lines r k s call =
    arguments_text s (frame k call.routine call.entry.top) call.args (routine_at s.program call.routine)
    ++ effect_text s r.items call (part_of r.log call)
    ++ result_text r.program call.routine call.result
    ++ inner_line (way_text r.calls call.parent call.way)

abbrev pub card_by : Recorded → (k : ℕ) → Option Call → List ℕ
card_by r k None = []
card_by r k (Some call) = call_line r.program k call ++ card_lines r k (scene_of r k) call

-- the card of call k of a run
unfoldable pub card : Recorded → (k : ℕ) → List ℕ
card r k = card_by r k (slice_get r.calls k)

abbrev pub question_by : Recorded → (k : ℕ) → Option Call → List ℕ
question_by r k None = []
question_by r k (Some call) = routine_line r.program call ++ card_lines r k (scene_of r k) call

-- the text of the question about call k of a run: its card, with the name of its routine alone as the first line
unfoldable pub question : Recorded → (k : ℕ) → List ℕ
question r k = question_by r k (slice_get r.calls k)
