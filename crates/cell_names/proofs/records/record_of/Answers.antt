use Rattle.std.proofs.Common.{◌∙◌, ap, sym}
use Rattle.cell_names.proofs.RecordsInTurn.{record_further, record_here, record_nowhere}
use Rattle.cell_names.proofs.records.record_of.Goals as goal
use Rattle.cell_names.specs.Records.{holder_around, is_record}

pub returns-then-is_record : goal.returns-then-is_record
returns-then-is_record c =
    sym (record_here c.args.program.now c.holders.counter c.holders.at c.is_record.result c.holders-test.true
    (c.is_record.ensures ∙ ap is_record c.row-row.ensures) c.if-is_record.true) ∙ c.holders.invariant

pub holders-preserved : goal.holders-preserved
holders-preserved c =
    sym (record_further c.args.program.now c.holders.counter c.holders.at c.is_record.result _ c.holders-test.true
    (c.is_record.ensures ∙ ap is_record c.row-row.ensures) c.if-is_record.false
    (sym c.in-Some.is ∙ c.holder_around.ensures ∙ ap (holder_around c.args.program.now) c.row-row.ensures)) ∙ c.holders.invariant

pub returns-in-None : goal.returns-in-None
returns-in-None c =
    sym (record_further c.args.program.now c.holders.counter c.holders.at c.is_record.result _ c.holders-test.true
    (c.is_record.ensures ∙ ap is_record c.row-row.ensures) c.if-is_record.false
    (sym c.in-None.is ∙ c.holder_around.ensures ∙ ap (holder_around c.args.program.now) c.row-row.ensures)) ∙ c.holders.invariant

pub returns : goal.returns
returns c = sym (record_nowhere c.args.program.now c.holders.counter c.holders.at c.holders-test.false) ∙ c.holders.invariant
