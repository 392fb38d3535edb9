use Rattle.debuggee.specs.{Execution.execution_of, Subjects.subject_of}
use Rattle.debug_cli.proofs.RunIsTree.{run_is_tree}
use Rattle.debug_cli.proofs.laws.search_is_sound.Goals as goal

pub returns-clause-asks : goal.returns-clause-asks
returns-clause-asks c = λ t p s.
    let numbers = c.numbers_tell_the_tree.ensures in
    c.reports_are_sound.ensures.asks (subject_of (execution_of t p s)) (run_is_tree numbers.subtree numbers.last t p s)

pub returns-clause-narrows : goal.returns-clause-narrows
returns-clause-narrows c = λ t p s.
    let numbers = c.numbers_tell_the_tree.ensures in
    c.reports_are_sound.ensures.narrows (subject_of (execution_of t p s)) (run_is_tree numbers.subtree numbers.last t p s)

pub returns-clause-names : goal.returns-clause-names
returns-clause-names c = λ t p s.
    let numbers = c.numbers_tell_the_tree.ensures in
    c.reports_are_sound.ensures.names (subject_of (execution_of t p s)) (run_is_tree numbers.subtree numbers.last t p s)

pub returns-clause-finds : goal.returns-clause-finds
returns-clause-finds c = λ t p s.
    let numbers = c.numbers_tell_the_tree.ensures in
    c.reports_are_sound.ensures.finds (subject_of (execution_of t p s)) (run_is_tree numbers.subtree numbers.last t p s)
