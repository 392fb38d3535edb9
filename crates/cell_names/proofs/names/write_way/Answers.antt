use Rattle.std.proofs.Common.{◌++◌, ◌∙◌, ap, refl}
use Rattle.cell_names.proofs.WaysDown.{all_taken, begins, ends_here, goes_on}
use Rattle.cell_names.proofs.names.write_way.Goals as goal
use Rattle.cell_names.specs.Names.{SceneLists, scene_in, selector_text}

pub steps-init : goal.steps-init
steps-init g c = (begins (scene_in c.args.scene.now) c.args.wanted c.args.from (g.P.Printer.printout c.args.out.now).text, refl)

pub returns-in-None-clause-writes : goal.returns-in-None-clause-writes
returns-in-None-clause-writes g c = (
  (ends_here (scene_in c.args.scene.now) c.args.wanted c.args.from (g.P.Printer.printout c.args.out.now).text
      (g.P.Printer.printout c.steps.out).text c.steps.at c.steps.counter c.next_step.result
      c.steps-test.true c.next_step.ensures c.in-None.is c.steps.invariant.0).writes,
  c.steps.invariant.1,
)

pub returns-in-None-clause-ends : goal.returns-in-None-clause-ends
returns-in-None-clause-ends g c =
    (ends_here (scene_in c.args.scene.now) c.args.wanted c.args.from (g.P.Printer.printout c.args.out.now).text
    (g.P.Printer.printout c.steps.out).text c.steps.at c.steps.counter c.next_step.result
    c.steps-test.true c.next_step.ensures c.in-None.is c.steps.invariant.0).ends

pub steps-preserved : goal.steps-preserved
steps-preserved g c = (
  goes_on (scene_in c.args.scene.now) c.args.wanted c.args.from (g.P.Printer.printout c.args.out.now).text
      (g.P.Printer.printout c.steps.out).text (g.P.Printer.printout c.write_selector.new.out).text c.steps.at c.steps.counter
      c.next_step.result
      c.in-Some.step c.steps-test.true c.next_step.ensures c.in-Some.is (c.write_selector.ensures.0
      ∙ ap (λ (v : SceneLists). (g.P.Printer.printout c.steps.out).text ++ selector_text v.program c.in-Some.step.selector) c.scene.view_is)
      c.steps.invariant.0,
  c.write_selector.ensures.1 ∙ c.steps.invariant.1,
)

pub returns-clause-writes : goal.returns-clause-writes
returns-clause-writes g c = (
  (all_taken (scene_in c.args.scene.now) c.args.wanted c.args.from (g.P.Printer.printout c.args.out.now).text
      (g.P.Printer.printout c.steps.out).text c.steps.at c.steps.counter c.steps-test.false c.steps.invariant.0).writes,
  c.steps.invariant.1,
)

pub returns-clause-ends : goal.returns-clause-ends
returns-clause-ends g c =
    (all_taken (scene_in c.args.scene.now) c.args.wanted c.args.from (g.P.Printer.printout c.args.out.now).text
    (g.P.Printer.printout c.steps.out).text c.steps.at c.steps.counter c.steps-test.false c.steps.invariant.0).ends
