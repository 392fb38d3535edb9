-- Lists of a tree, item by item of what the code holds.
use Rattle.std.proofs.Common.{◌∷◌, ◌≡◌, [], ℕ, List, ap, map, refl}
use Rattle.pas_tree.specs.BlockTrees.{RoutineTrees, body_tree, routine_tree, routine_trees}
use Rattle.pas_tree.specs.ExpressionTrees as tree
use Rattle.pas_tree.specs.StatementTrees as statement
use Rattle.pas_tree.specs.declared.{blocks.Routine.Routine, expressions.NextExpression.NextExpression}
use Rattle.pas_tree.specs.declared.expressions.{NextFactor.NextFactor, NextMember.NextMember, NextTerm.NextTerm, Selector.Selector}
use Rattle.pas_tree.specs.declared.statements.{NextAccess.NextAccess, NextActual.NextActual, NextBranch.NextBranch, NextStatement.NextStatement}
use Rattle.check_steps.{proofs.Runs.run_then, specs.Steps.◌>>=◌, specs.Steps.Step, specs.Steps.each, specs.Steps.run_step, specs.declared.work.Work.Work}
use Rattle.decl_checker.specs.Accesses as uses
use Rattle.decl_checker.specs.Routines as routines
use Rattle.decl_checker.specs.Statements as walk
use Rattle.decl_checker.specs.declared.routines.Entered.{Entered}

pub factors_each : (frame : ℕ) (u : Unit {0}) (ns : List NextFactor) → uses.more_factors frame (tree.factor_trees ns) ≡ each (uses.next_factor frame) u ns
factors_each frame u [] = refl
factors_each frame u (n ∷ ns) = ap (λ (h : Unit {0} → Step (Unit {0})). uses.next_factor frame u n >>= h) (λ i v. factors_each frame v ns i)

pub terms_each : (frame : ℕ) (u : Unit {0}) (ns : List NextTerm) → uses.more_terms frame (tree.term_trees ns) ≡ each (uses.next_term frame) u ns
terms_each frame u [] = refl
terms_each frame u (n ∷ ns) = ap (λ (h : Unit {0} → Step (Unit {0})). uses.next_term frame u n >>= h) (λ i v. terms_each frame v ns i)

pub selected_each : (frame unknown t : ℕ) (ns : List Selector)
    → uses.selected frame unknown t (tree.selector_trees ns) ≡ each (uses.next_selector frame unknown) t ns
selected_each frame unknown t [] = refl
selected_each frame unknown t (n ∷ ns) =
    ap (λ (h : ℕ → Step ℕ). uses.next_selector frame unknown t n >>= h) (λ i v. selected_each frame unknown v ns i)

pub indices_each : (frame unknown t : ℕ) (ns : List NextExpression)
    → uses.more_indices frame unknown t (tree.expression_trees ns) ≡ each (uses.next_index frame unknown) t ns
indices_each frame unknown t [] = refl
indices_each frame unknown t (n ∷ ns) =
    ap (λ (h : ℕ → Step ℕ). uses.next_index frame unknown t n >>= h) (λ i v. indices_each frame unknown v ns i)

pub arguments_each : (frame : ℕ) (u : Unit {0}) (ns : List NextExpression)
    → uses.more_arguments frame (tree.expression_trees ns) ≡ each (uses.next_argument frame) u ns
arguments_each frame u [] = refl
arguments_each frame u (n ∷ ns) = ap (λ (h : Unit {0} → Step (Unit {0})). uses.next_argument frame u n >>= h) (λ i v. arguments_each frame v ns i)

pub members_each : (frame : ℕ) (u : Unit {0}) (ns : List NextMember)
    → uses.more_members frame (tree.member_trees ns) ≡ each (uses.next_member frame) u ns
members_each frame u [] = refl
members_each frame u (n ∷ ns) = ap (λ (h : Unit {0} → Step (Unit {0})). uses.next_member frame u n >>= h) (λ i v. members_each frame v ns i)

-- ---- statements

pub actuals_each : (frame : ℕ) (u : Unit {0}) (ns : List NextActual)
    → each (walk.another_actual frame) u (map statement.next_actual_tree ns) ≡ each (walk.next_actual frame) u ns
actuals_each frame u [] = refl
actuals_each frame u (n ∷ ns) = ap (λ (h : Unit {0} → Step (Unit {0})). walk.next_actual frame u n >>= h) (λ i v. actuals_each frame v ns i)

pub accesses_each : (frame : ℕ) (ns : List NextAccess) → each walk.inside_another frame (map statement.next_access_tree ns) ≡ each walk.inside_next frame ns
accesses_each frame [] = refl
accesses_each frame (n ∷ ns) = ap (λ (h : ℕ → Step ℕ). walk.inside_next frame n >>= h) (λ i v. accesses_each v ns i)

pub statements_each : (frame : ℕ) (u : Unit {0}) (ns : List NextStatement)
    → walk.more_statements frame (statement.statement_trees ns) ≡ each (walk.next_statement frame) u ns
statements_each frame u [] = refl
statements_each frame u (n ∷ ns) = ap (λ (h : Unit {0} → Step (Unit {0})). walk.next_statement frame u n >>= h) (λ i v. statements_each frame v ns i)

pub branches_each : (frame : ℕ) (u : Unit {0}) (ns : List NextBranch)
    → walk.more_branches frame (statement.branch_trees ns) ≡ each (walk.next_branch frame) u ns
branches_each frame u [] = refl
branches_each frame u (n ∷ ns) = ap (λ (h : Unit {0} → Step (Unit {0})). walk.next_branch frame u n >>= h) (λ i v. branches_each frame v ns i)

-- ---- routines

pub routines_each : (frame : ℕ) (all : RoutineTrees) (u : Unit {0}) (rs : List Routine)
    → routines.routines_in frame all (routine_trees rs) ≡ each (routines.next_routine frame all) u rs
unfolding routines.next_routine
routines_each frame all u [] = refl
routines_each frame all u (r ∷ rs) =
    ap (λ (h : Unit {0} → Step (Unit {0})). routines.next_routine frame all u r >>= h) (λ i v. routines_each frame all v rs i)

-- a routine whose heading and whose body are done
pub routine_done : (frame : ℕ) (rs : RoutineTrees) (r : Routine) (w v u : Work) (e : Entered)
    → run_step (routines.enter_heading frame rs (routine_tree r)) w ≡ (e, v) → run_step (routines.body_in e (body_tree r.body)) v ≡ (tt, u)
    → run_step (routines.next_routine frame rs tt r) w ≡ (tt, u)
unfolding routines.next_routine
routine_done frame rs r w v u e done rest =
    run_then (routines.enter_heading frame rs (routine_tree r)) (λ x. routines.body_in x (body_tree r.body)) w e v tt u done rest
