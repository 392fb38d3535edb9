use Rattle.std.proofs.Common.{[]}
use Rattle.grammar.proofs.FirstRefusals.{first_stop, read_none_deep, read_none_hopeless, stop_first}
use Rattle.grammar.proofs.refusals.stop_is_first.Goals as goal

pub returns-clause-stops : goal.returns-clause-stops
returns-clause-stops c = λ calm d t g ok full n. stop_first t g ok n calm d full

pub returns-clause-only : goal.returns-clause-only
returns-clause-only c = λ calm d t g ok n. first_stop t g ok.decided n calm d ok.completed ok.reaching

pub returns-clause-read : goal.returns-clause-read
returns-clause-read c = λ calm d t g ok full n l x e. (read_none_deep t g ok n l (x, []) e, read_none_hopeless t g ok n calm d full l x e)
