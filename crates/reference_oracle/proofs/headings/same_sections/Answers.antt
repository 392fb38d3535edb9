use Rattle.std.proofs.Common.{◌∙◌, arith, length}
use Rattle.reference_oracle.proofs.HeadingsCompared.{sections_further}
use Rattle.reference_oracle.proofs.headings.same_sections.Goals as goal
use Rattle.reference_oracle.specs.Shapes.{programs}

pub sections-preserved : goal.sections-preserved
sections-preserved c =
    let here = c.sections in
    record {
      sections = sections_further (programs c.args.subject.now c.args.reference.now) (length c.args.subject.now.rows) here.step here.a here.b
          c.in-Further.next c.in-Further.after c.section_at-section.result c.section_at-beside.result c.section_at-section.ensures
          c.section_at-beside.ensures c.in_ok-next.field-0 c.in_ok-next.ensures.found c.in-Further.is (omega arith) ∙ here.invariant.sections;
      pairs = c.in_ok-next.ensures.pairs;
    }
