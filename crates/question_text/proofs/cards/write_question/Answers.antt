use Rattle.std.proofs.Common.{◌++◌, ◌∙◌, ap, append-nil, arith, refl, sym}
use Rattle.question_text.proofs.CardsWhole.{no_question, question_is}
use Rattle.question_text.proofs.cards.write_question.Goals as goal
use Rattle.question_text.specs.Cards.{recorded_in}

pub returns-then-number-len : goal.returns-then-number-len
returns-then-number-len g c =
    let t = c.if-number-len.true in let e = c.len.ensures in
    let out = (g.P.Printer.printout c.args.out.now).text in
    (sym (append-nil out) ∙ ap (λ x. out ++ x) (sym (no_question (recorded_in c.args.from.now) c.args.number (omega (arith, t, e)))), refl)

pub write_below-requires-clause-told : goal.write_below-requires-clause-told
write_below-requires-clause-told g c = c.requires.told c.call-call.result.now c.call-call.ensures.found

pub write_below-requires-clause-done : goal.write_below-requires-clause-done
write_below-requires-clause-done g c = c.requires.parts.done c.call-call.result.now c.call-call.ensures.found

pub returns : goal.returns
returns g c =
    let printout = g.P.Printer.printout in (
      question_is (recorded_in c.args.from.now) c.args.number c.call-call.result.now (printout c.args.out.now).text
          (printout c.write_routine_line.new.out).text (printout c.write_below.new.out).text
          c.call-call.ensures.found c.write_routine_line.ensures.0 c.write_below.ensures.0,
      c.write_below.ensures.1 ∙ c.write_routine_line.ensures.1,
    )
