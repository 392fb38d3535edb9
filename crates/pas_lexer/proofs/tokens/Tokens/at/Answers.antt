use Rattle.pas_lexer.proofs.OneEnd.{is_last}
use Rattle.pas_lexer.proofs.tokens.Tokens.at.Goals as goal

pub returns-clause-last : goal.returns-clause-last
returns-clause-last c = is_last c.args.self.now c.self.inside.tokens.items c.self.inside.source.items c.args.i c.index.result.now c.self.view_is
    c.self.invariant.ended c.requires c.index.ensures
