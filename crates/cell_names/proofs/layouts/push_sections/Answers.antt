use Rattle.std.proofs.Common.{◌<◌, ◌∙◌, arith, sym}
use Rattle.cell_names.proofs.PartsInTurn.{finds_all, most_is, sections_end, sections_on}
use Rattle.cell_names.proofs.layouts.push_sections.Goals as goal
use Rattle.cell_names.specs.Layouts.{most_sections}

pub returns-in-None : goal.returns-in-None
returns-in-None c =
    let t = c.sections-test.true in let m = most_is in
    let below : c.sections.counter < most_sections = omega (arith, t, m) in
    finds_all c.push_section_at.new.places _
    (sections_on c.args.program.now c.sections.places c.push_section_at.new.places _ most_sections c.sections.counter c.sections.slot _ below
    (sym c.in-None.is ∙ c.in_ok-next.ensures.1) c.in_ok-next.ensures.0 c.sections.invariant)

pub sections-preserved : goal.sections-preserved
sections-preserved c =
    let t = c.sections-test.true in let m = most_is in
    let below : c.sections.counter < most_sections = omega (arith, t, m) in
    sections_on c.args.program.now c.sections.places c.push_section_at.new.places _ most_sections c.sections.counter c.sections.slot _ below
    (sym c.in-Some.is ∙ c.in_ok-next.ensures.1) c.in_ok-next.ensures.0 c.sections.invariant

pub returns : goal.returns
returns c = sections_end c.args.program.now c.sections.places _ c.sections.counter c.sections.slot c.sections-test.false c.sections.invariant
