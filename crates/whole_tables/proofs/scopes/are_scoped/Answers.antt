use Rattle.std.proofs.Common.{◌∙◌, ap, sym}
use Rattle.whole_tables.proofs.ScopeLoops.{records-onward}
use Rattle.whole_tables.proofs.scopes.are_scoped.Goals as goal
use Rattle.whole_tables.specs.Scopes.{element_of}

pub records-preserved : goal.records-preserved
records-preserved c =
    sym (records-onward c.args.program.now c.args.column.now c.args.rows c.records.passed c.args.around c.records.at c.args.body
    (c.in-Some.record, c.in-Some.next) c.records-test.true (ap element_of (sym c.row.ensures) ∙ sym c.element_of.ensures ∙ c.in-Some.is)
    (sym c.is_within.ensures ∙ c.if-not-is_within.false))
    ∙ c.records.invariant
