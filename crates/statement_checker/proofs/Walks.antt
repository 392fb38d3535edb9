-- Lists of a tree, item by item of what the code holds.
use Rattle.std.proofs.Common.{◌∷◌, ◌≡◌, [], ℕ, List, ap, length, map, refl, suc}
use Rattle.pas_tree.specs.StatementTrees as tree
use Rattle.pas_tree.specs.declared.statements.{NextAccess.NextAccess, NextActual.NextActual, NextBranch.NextBranch, NextStatement.NextStatement}
use Rattle.check_steps.specs.Steps.{◌>>=◌, Step, each}
use Rattle.denoter_checker.specs.declared.variants.Choosing.{Choosing}
use Rattle.expression_checker.specs.declared.actuals.Passing.{Passing}
use Rattle.statement_checker.specs.{Actuals.another_plain, Actuals.next_plain, Labels.on_next, Labels.on_others, Transfers.another_item, Transfers.next_item}
use Rattle.statement_checker.specs.Parts.{another_passed, another_record, next_passed, next_record}
use Rattle.statement_checker.specs.Statements as walk
use Rattle.statement_checker.specs.declared.{parts.Opened.Opened, sequences.Element.Element, transfers.Transfer.Transfer}

-- ---- actuals and accesses

pub actuals_counted : (ns : List NextActual) → length (map tree.next_actual_tree ns) ≡ length ns
actuals_counted [] = refl
actuals_counted (n ∷ ns) = ap suc (actuals_counted ns)

pub plain_each : (frame : ℕ) (u : Unit {0}) (ns : List NextActual)
    → each (another_plain frame) u (map tree.next_actual_tree ns) ≡ each (next_plain frame) u ns
unfolding next_plain
plain_each frame u [] = refl
plain_each frame u (n ∷ ns) = ap (λ (h : Unit {0} → Step (Unit {0})). next_plain frame u n >>= h) (λ i v. plain_each frame v ns i)

pub passed_each : (frame : ℕ) (p : Passing) (ns : List NextActual)
    → each (another_passed frame) p (map tree.next_actual_tree ns) ≡ each (next_passed frame) p ns
unfolding next_passed
passed_each frame p [] = refl
passed_each frame p (n ∷ ns) = ap (λ (h : Passing → Step Passing). next_passed frame p n >>= h) (λ i v. passed_each frame v ns i)

pub items_each : (t : Transfer) (frame last : ℕ) (ns : List NextActual)
    → each (another_item t frame) last (map tree.next_actual_tree ns) ≡ each (next_item t frame) last ns
unfolding next_item
items_each t frame last [] = refl
items_each t frame last (n ∷ ns) = ap (λ (h : ℕ → Step ℕ). next_item t frame last n >>= h) (λ i v. items_each t frame v ns i)

pub records_each : (o : Opened) (ns : List NextAccess) → each another_record o (map tree.next_access_tree ns) ≡ each next_record o ns
unfolding next_record
records_each o [] = refl
records_each o (n ∷ ns) = ap (λ (h : Opened → Step Opened). next_record o n >>= h) (λ i v. records_each v ns i)

-- ---- statements

pub labels_each : (f : ℕ → Step (Unit {0})) (u : Unit {0}) (ns : List NextStatement) → on_others f (tree.statement_trees ns) ≡ each (on_next f) u ns
unfolding on_next
labels_each f u [] = refl
labels_each f u (n ∷ ns) = ap (λ (h : Unit {0} → Step (Unit {0})). on_next f u n >>= h) (λ i v. labels_each f v ns i)

pub statements_each : (frame : ℕ) (last : Element) (ns : List NextStatement)
    → walk.more_statements frame last (tree.statement_trees ns) ≡ each (walk.next_statement frame) last ns
unfolding walk.next_statement
statements_each frame last [] = refl
statements_each frame last (n ∷ ns) =
    ap (λ (h : Element → Step Element). walk.next_statement frame last n >>= h) (λ i v. statements_each frame v ns i)

pub branches_each : (frame : ℕ) (c : Choosing) (last : ℕ) (ns : List NextBranch)
    → walk.more_branches frame c last (tree.branch_trees ns) ≡ each (walk.next_branch frame c) last ns
unfolding walk.next_branch
branches_each frame c last [] = refl
branches_each frame c last (n ∷ ns) =
    ap (λ (h : ℕ → Step ℕ). walk.next_branch frame c last n >>= h) (λ i v. branches_each frame c v ns i)
