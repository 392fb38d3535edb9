use Rattle.std.proofs.Common.{◌<◌, ◌∙◌, ◌≤◌, arith, length}
use Rattle.question_text.proofs.LinesInTurn.{tree_end, tree_on}
use Rattle.question_text.proofs.trees.write_tree.Goals as goal
use Rattle.question_text.specs.Trees.{tree_text}

pub calls-preserved : goal.calls-preserved
calls-preserved g c =
    let t = c.calls-test.true in let e = c.len-number-end.ensures in let m = c.requires in
    let below : c.calls.number < length c.args.marks.now = omega (arith, t, e, m) in
    let printout = g.P.Printer.printout in (
      tree_on c.args.program.now c.calls.number c.args.calls.now.calls c.args.marks.now c.call.result.now _ (printout c.calls.out).text
          (printout c.write_tree_line.new.out).text _ c.call.ensures.found below c.write_tree_line.ensures.0 c.calls.invariant.0,
      c.write_tree_line.ensures.1 ∙ c.calls.invariant.1,
    )

pub returns : goal.returns
unfolding tree_text
returns g c =
    let t = c.calls-test.false in let e = c.len-number-end.ensures in
    let past : length c.args.calls.now.calls ≤ c.calls.number = omega (arith, t, e) in (
      tree_end c.args.program.now c.calls.number c.args.calls.now.calls c.args.marks.now (g.P.Printer.printout c.calls.out).text _ past
          c.calls.invariant.0,
      c.calls.invariant.1,
    )
