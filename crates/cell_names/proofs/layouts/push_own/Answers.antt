use Rattle.std.proofs.Common.{◌∙◌, ap}
use Rattle.cell_names.proofs.PartsInTurn.{own_end, own_on}
use Rattle.cell_names.proofs.layouts.push_own.Goals as goal
use Rattle.cell_names.specs.Layouts.{own_in}

pub tokens-preserved : goal.tokens-preserved
tokens-preserved c =
    own_on c.args.program.now c.tokens.places c.push_part.new.places _ c.args.level c.tokens.token c.args.to c.own_in.result c.tokens-test.true
    (c.own_in.ensures ∙ ap (own_in c.args.level c.tokens.token) c.row.ensures) c.in_ok-push_part.ensures c.tokens.invariant

pub returns : goal.returns
returns c = own_end c.args.program.now c.tokens.places _ c.args.level c.tokens.token c.args.to c.tokens-test.false c.tokens.invariant
