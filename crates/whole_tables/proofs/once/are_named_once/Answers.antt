use Rattle.std.proofs.Common.{◌∙◌, ap}
use Rattle.core_program.specs.WholeTables.{parts_of}
use Rattle.whole_tables.proofs.NamedOnce.{naming-goes}
use Rattle.whole_tables.proofs.once.are_named_once.Goals as goal
use Rattle.whole_tables.specs.Parts.{listed}

pub constructs-preserved : goal.constructs-preserved
constructs-preserved c =
    naming-goes c.args.program.now c.constructs.at c.constructs.column.items c.name_parts.new.column.items (listed c.parts_of.result)
    c.constructs.invariant (c.parts_of.ensures ∙ ap parts_of c.row.ensures) (c.name_parts.ensures.named c.if-not-name_parts.false)
