use Rattle.std.proofs.Common.{◌++◌, ◌∙◌, ap, append-nil, arith, refl, sym}
use Rattle.cell_names.specs.{Finding.finding_in, Places.finds}
use Rattle.question_text.proofs.StatesWhole.{has_cell_is, no_cell_no_text, no_cell_there, no_state, state_is}
use Rattle.question_text.proofs.states.write_state.Goals as goal
use Rattle.question_text.specs.Cards.{recorded_in}

pub returns-then-number-len-clause-lines : goal.returns-then-number-len-clause-lines
returns-then-number-len-clause-lines g c =
    let t = c.if-number-len.true in let e = c.len.ensures in
    let out = (g.P.Printer.printout c.args.out.now).text in
    (sym (append-nil out) ∙ ap (λ x. out ++ x) (sym (no_state (recorded_in c.args.from.now) c.args.number c.args.name.now (omega (arith, t, e)))), refl)

pub returns-then-number-len-clause-some : goal.returns-then-number-len-clause-some
returns-then-number-len-clause-some g c =
    let t = c.if-number-len.true in let e = c.len.ensures in
    sym (no_cell_there (recorded_in c.args.from.now) c.args.number c.args.name.now (omega (arith, t, e)))

pub returns-then-number-len-clause-none : goal.returns-then-number-len-clause-none
returns-then-number-len-clause-none g c =
    let t = c.if-number-len.true in let e = c.len.ensures in
    λ _. no_state (recorded_in c.args.from.now) c.args.number c.args.name.now (omega (arith, t, e))

pub returns-clause-lines : goal.returns-clause-lines
returns-clause-lines g c =
    let printout = g.P.Printer.printout in (
      state_is (recorded_in c.args.from.now) c.args.number (finding_in c.args.from.now.names.now) c.routine_column.result.now
          (finds c.args.opened.now) c.call.result.now c.args.name.now (printout c.args.out.now).text (printout c.write_lines.new.out).text
          (record { found = c.requires.names; column = c.routine_column.ensures; frames = c.requires.opened }) c.call.ensures.found
          c.write_lines.ensures.lines.0,
      c.write_lines.ensures.lines.1,
    )

pub returns-clause-some : goal.returns-clause-some
returns-clause-some g c =
    has_cell_is (recorded_in c.args.from.now) c.args.number (finding_in c.args.from.now.names.now) c.routine_column.result.now
    (finds c.args.opened.now) c.call.result.now c.args.name.now c.write_lines.result
    (record { found = c.requires.names; column = c.routine_column.ensures; frames = c.requires.opened }) c.call.ensures.found
    c.write_lines.ensures.some

pub returns-clause-none : goal.returns-clause-none
returns-clause-none g c =
    λ none. no_cell_no_text (recorded_in c.args.from.now) c.args.number c.args.name.now (sym (has_cell_is (recorded_in c.args.from.now) c.args.number
    (finding_in c.args.from.now.names.now) c.routine_column.result.now (finds c.args.opened.now) c.call.result.now c.args.name.now c.write_lines.result
    (record { found = c.requires.names; column = c.routine_column.ensures; frames = c.requires.opened }) c.call.ensures.found
    c.write_lines.ensures.some) ∙ none)
