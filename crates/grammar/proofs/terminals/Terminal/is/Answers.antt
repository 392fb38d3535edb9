use Rattle.std.proofs.Common.{◌∙◌, sym}
use denote.Enum.Bare.{same_true}
use Rattle.grammar.proofs.Testing.{is-same}
use Rattle.grammar.proofs.terminals.Terminal.is.Goals as goal
use Rattle.grammar.specs.contracts.terminals.Terminal.{the_type}

pub returns-clause-tests : goal.returns-clause-tests
returns-clause-tests c = c.eq.ensures ∙ is-same c.args.self c.args.wanted

pub returns-clause-equal : goal.returns-clause-equal
returns-clause-equal c = λ t. same_true the_type tt c.args.self c.args.wanted (sym c.eq.ensures ∙ t)
