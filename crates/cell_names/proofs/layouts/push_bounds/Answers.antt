use Rattle.std.proofs.Common.{◌<◌, ◌∙◌, arith, sym}
use Rattle.cell_names.proofs.PartsInTurn.{bounds_end, bounds_none, bounds_on, most_is}
use Rattle.cell_names.proofs.layouts.push_bounds.Goals as goal
use Rattle.cell_names.specs.Layouts.{most_sections}

pub returns-in-None : goal.returns-in-None
returns-in-None c =
    let t = c.specs-test.true in let m = most_is in
    let below : c.specs.counter < most_sections = omega (arith, t, m) in
    bounds_none c.args.program.now c.specs.places _ most_sections c.specs.counter c.specs.spec below
    (sym c.in-None.is ∙ c.component_of.ensures) c.specs.invariant

pub specs-preserved : goal.specs-preserved
specs-preserved c =
    let t = c.specs-test.true in let m = most_is in
    let below : c.specs.counter < most_sections = omega (arith, t, m) in
    bounds_on c.args.program.now c.specs.places c.push_spec.new.places _ most_sections c.specs.counter c.specs.spec c.in-Some.component below
    (sym c.in-Some.is ∙ c.component_of.ensures) c.in_ok-push_spec-in-Some.ensures c.specs.invariant

pub returns : goal.returns
returns c = bounds_end c.args.program.now c.specs.places _ c.specs.counter c.specs.spec c.specs-test.false c.specs.invariant
