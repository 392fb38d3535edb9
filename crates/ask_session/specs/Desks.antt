-- What a dialog on a console holds, as it is kept.
use Rattle.std.specs.Option.{option_map}
use Rattle.core_program.specs.ProgramRows.{ProgramRows}
use Rattle.dialog_replies.specs.{Kept.said_in_dialog, Said.Held}
use Rattle.ask_session.specs.declared.desk.Desk.{Desk}

-- what was said, and the tables of the right program that answers
abbrev pub held_on : {R : Type 0} → (tables : R → ProgramRows) → Desk R → Held
held_on tables desk = record {
  said = said_in_dialog desk.dialog;
  reference = option_map tables desk.reference;
}
