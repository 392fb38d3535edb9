use Rattle.std.proofs.Common.{arith, refl}
use Rattle.pas_tree.specs.Rules.{next_statement_rule}
use Rattle.pas_phrases.proofs.{Failures.handed_on, ReadLists.level_fails, ReadLists.level_more, ReadLists.list_read, ReadLists.token_fails}
use Rattle.pas_phrases.proofs.ReadSeries.{series_end_fails, series_pair_fails, series_pair_more, series_read, series_token_fails}
use Rattle.pas_statements.proofs.StatementLists.{branches, first_statement_fails, next_statement_repeats, other_statements_fail, statements_read}
use Rattle.pas_statements.proofs.statements.+statements.Goals as goal
use Rattle.pas_statements.specs.Closers.{closer_of}

pub read_statements-returns-in_err-first-clause-gives : goal.read_statements-returns-in_err-first-clause-gives
read_statements-returns-in_err-first-clause-gives t c =
    handed_on _ _ _ _ _ c.from_residual.ensures.1 (first_statement_fails c.args.depth (closer_of c.args.closer) _ _ _ c.in_err-first.ensures.gives)

pub read_statements-statements-preserved : goal.read_statements-statements-preserved
unfolding next_statement_rule
read_statements-statements-preserved t c = record {
  so_far = level_more (next_statement_repeats (closer_of c.args.closer)) c.statements.invariant.so_far c.in_ok-semicolon.ensures.gives
      c.in_ok-statement.ensures.gives c.in_ok-push.ensures.items refl;
  forward = omega (arith, c.statements.invariant.forward, c.in_ok-semicolon.ensures.forward, c.in_ok-statement.ensures.forward);
}

pub read_statements-returns-in_err-semicolon-clause-gives : goal.read_statements-returns-in_err-semicolon-clause-gives
unfolding next_statement_rule
read_statements-returns-in_err-semicolon-clause-gives t c =
    handed_on _ _ _ _ _ c.from_residual-in_err-semicolon.ensures.1
    (other_statements_fail c.args.depth (closer_of c.args.closer) _ _ _ c.in_ok-first.ensures.gives
    (token_fails _ _ (next_statement_repeats (closer_of c.args.closer)) c.statements.invariant.so_far (cc) c.in_err-semicolon.ensures.gives))

pub read_statements-returns-in_err-statement-clause-gives : goal.read_statements-returns-in_err-statement-clause-gives
unfolding next_statement_rule
read_statements-returns-in_err-statement-clause-gives t c =
    handed_on _ _ _ _ _ c.from_residual-in_err-statement.ensures.1
    (other_statements_fail c.args.depth (closer_of c.args.closer) _ _ _ c.in_ok-first.ensures.gives
    (level_fails _ _ (next_statement_repeats (closer_of c.args.closer)) c.statements.invariant.so_far c.in_ok-semicolon.ensures.gives
    c.in_err-statement.ensures.gives))

pub read_statements-returns-clause-gives : goal.read_statements-returns-clause-gives
read_statements-returns-clause-gives t c =
    statements_read c.args.depth (closer_of c.args.closer) _ c.in_ok-first.first c.statements.others c.in_ok-first.ensures.gives
    (list_read (next_statement_repeats (closer_of c.args.closer)) c.statements.invariant.so_far (cc))

pub read_next_branches-branches-preserved : goal.read_next_branches-branches-preserved
read_next_branches-branches-preserved t c = record {
  so_far = series_pair_more {q = branches} c.branches.invariant.so_far (cc) c.in_ok-semicolon.ensures.gives c.in_ok-branch.ensures.gives
      c.in_ok-push.ensures.items refl;
  forward = omega (arith, c.branches.invariant.forward, c.in_ok-semicolon.ensures.forward, c.in_ok-branch.ensures.forward);
}

pub read_next_branches-returns-in_err-semicolon-clause-gives : goal.read_next_branches-returns-in_err-semicolon-clause-gives
read_next_branches-returns-in_err-semicolon-clause-gives t c =
    handed_on _ _ _ _ _ c.from_residual.ensures.1
    (series_token_fails {q = branches} _ _ c.branches.invariant.so_far (cc) c.in_err-semicolon.ensures.gives)

pub read_next_branches-returns-in_err-branch-clause-gives : goal.read_next_branches-returns-in_err-branch-clause-gives
read_next_branches-returns-in_err-branch-clause-gives t c =
    handed_on _ _ _ _ _ c.from_residual-in_err-branch.ensures.1
    (series_pair_fails {q = branches} _ _ c.branches.invariant.so_far (cc) c.in_ok-semicolon.ensures.gives c.in_err-branch.ensures.gives)

pub read_next_branches-returns-in_err-end-clause-gives : goal.read_next_branches-returns-in_err-end-clause-gives
read_next_branches-returns-in_err-end-clause-gives t c =
    handed_on _ _ _ _ _ c.from_residual-in_err-end.ensures.1
    (series_end_fails {q = branches} _ _ c.branches.invariant.so_far (cc) c.in_err-end.ensures.gives)

pub read_next_branches-returns-clause-gives : goal.read_next_branches-returns-clause-gives
read_next_branches-returns-clause-gives t c = series_read {q = branches} c.branches.invariant.so_far (cc) c.in_ok-end.ensures.gives
