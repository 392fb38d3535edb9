use Rattle.grammar.proofs.{Complete.whole_completed, DeepIsBegun.whole_reached, Deepest.deep_shaped}
use Rattle.grammar.proofs.refusals.refused_is_begun.Goals as goal

pub returns-clause-any : goal.returns-clause-any
returns-clause-any c = λ calm d t g ok full. whole_completed calm t g ok d full

pub returns-clause-deep : goal.returns-clause-deep
returns-clause-deep c = λ calm d t g ok n l z rest e. let s =
    whole_reached calm t g ok.decided d ok.completed ok.reaching n l z rest e in (s.0, s.1, s.2, s.3, deep_shaped t n g s.2 s.0 s.5, s.4, s.5)
