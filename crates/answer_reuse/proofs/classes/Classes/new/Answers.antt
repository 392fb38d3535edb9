use Rattle.std.proofs.{Common.arith, lemmas.Result.err_from_is_err_and}
use Rattle.answer_reuse.proofs.ClassesOfRun.{all_told, are_same, few_rows, first_alone, is_classed, run_kept, too_many}
use Rattle.answer_reuse.proofs.classes.Classes.new.Goals as goal

pub touches_between-touches-requires : goal.touches_between-touches-requires
touches_between-touches-requires c = record {
  few = few_rows (run_kept c.is_whole.ensures.whole c.requires.run c.requires.budget c.requires.run.2);
}

pub returns-then-touches-gt-MOST_TOUCHES-clause-classed : goal.returns-then-touches-gt-MOST_TOUCHES-clause-classed
returns-then-touches-gt-MOST_TOUCHES-clause-classed c = λ input g.
    too_many (run_kept c.is_whole.ensures.whole c.requires.run c.requires.budget g) c.touches_between-touches.result
    c.touches_between-touches.ensures c.if-touches-gt-MOST_TOUCHES.true

pub of_calls-requires : goal.of_calls-requires
of_calls-requires c = record {
  told = all_told (run_kept c.is_whole.ensures.whole c.requires.run c.requires.budget c.requires.run.2);
  few = few_rows (run_kept c.is_whole.ensures.whole c.requires.run c.requires.budget c.requires.run.2);
}

pub returns-in_err-classes-clause-classed : goal.returns-in_err-classes-clause-classed
returns-in_err-classes-clause-classed c = λ input g.
    let p = err_from_is_err_and c.from_residual.result c.from_residual.ensures.1 in rw (p.1, p.2) tt

pub returns-clause-classed : goal.returns-clause-classed
returns-clause-classed c = λ input g.
    is_classed (run_kept c.is_whole.ensures.whole c.requires.run c.requires.budget g) c.calls_carry_to_themselves.ensures
    c.alike_calls_did_the_same.ensures.same c.in_ok-classes.ensures.keys c.in_ok-classes.ensures.sorted
    c.in_ok-classes.classes c.in_ok-classes.ensures.joined
    (let touches = c.touches_between-touches.ensures in let few = c.if-touches-gt-MOST_TOUCHES.false in omega (arith, touches, few))

pub returns-clause-each : goal.returns-clause-each
returns-clause-each c = c.in_ok-classes.ensures.joined.each

pub returns-clause-same : goal.returns-clause-same
returns-clause-same c = λ input g.
    are_same (run_kept c.is_whole.ensures.whole c.requires.run c.requires.budget g) c.calls_carry_to_themselves.ensures
    c.alike_calls_did_the_same.ensures.same c.in_ok-classes.ensures.keys c.in_ok-classes.ensures.sorted
    c.in_ok-classes.classes c.in_ok-classes.ensures.joined

pub returns-clause-alone : goal.returns-clause-alone
returns-clause-alone c =
    first_alone (run_kept c.is_whole.ensures.whole c.requires.run c.requires.budget c.requires.run.2) c.calls_carry_to_themselves.ensures
    c.alike_calls_did_the_same.ensures.same c.in_ok-classes.ensures.keys c.in_ok-classes.ensures.sorted
    c.in_ok-classes.classes c.in_ok-classes.ensures.joined c.alike_calls_did_the_same.ensures.large c.numbers_tell_the_tree.ensures.subtree
    c.numbers_tell_the_tree.ensures.last c.numbers_tell_the_tree.ensures.others
