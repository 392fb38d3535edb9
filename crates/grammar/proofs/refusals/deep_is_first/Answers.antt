use Rattle.grammar.proofs.FirstRefusals.{deep_first, first_deep}
use Rattle.grammar.proofs.refusals.deep_is_first.Goals as goal

pub returns-clause-refused : goal.returns-clause-refused
returns-clause-refused c = λ calm d t g ok n. deep_first t g ok.decided n calm d ok.completed ok.reaching

pub returns-clause-only : goal.returns-clause-only
returns-clause-only c = λ calm d t g ok n. first_deep t g ok.decided n calm d ok.completed ok.reaching
