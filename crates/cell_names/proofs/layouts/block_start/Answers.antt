use Rattle.std.proofs.Common.{◌∙◌, ap, sym}
use Rattle.cell_names.proofs.PartsInTurn.{block_before, block_first, block_here}
use Rattle.cell_names.proofs.layouts.block_start.Goals as goal
use Rattle.cell_names.specs.Layouts.{is_name_of}

pub returns-then-is_name_of : goal.returns-then-is_name_of
returns-then-is_name_of c =
    sym (block_here c.args.program.now c.args.number c.args.name c.tokens.token c.is_name_of.result c.tokens-test.true
    (c.is_name_of.ensures ∙ ap (λ r. is_name_of r c.args.number c.args.name) c.row.ensures) c.if-is_name_of.true) ∙ c.tokens.invariant

pub tokens-preserved : goal.tokens-preserved
tokens-preserved c =
    sym (block_before c.args.program.now c.args.number c.args.name c.tokens.token c.is_name_of.result c.tokens-test.true
    (c.is_name_of.ensures ∙ ap (λ r. is_name_of r c.args.number c.args.name) c.row.ensures) c.if-is_name_of.false) ∙ c.tokens.invariant

pub returns : goal.returns
returns c = sym (block_first c.args.program.now c.args.number c.args.name c.tokens.token c.tokens-test.false) ∙ c.tokens.invariant
