-- What the steps of `Rattle.statement_checker.specs.Labels` keep.
use Rattle.std.proofs.Common.{◌+◌, ◌-◌, ◌<◌, ℕ, Bool, None, Option, Some, min, nat_lt, refl}
use Rattle.pas_tree.specs.{StatementTrees.StatementTree, StatementTrees.StatementTrees, StatementTrees.StatementsTree, Statements.label_node}
use Rattle.pas_tree.specs.{TreeNodes.more_statements_node, TreeNodes.statement_node, TreeNodes.statements_node, declared.statements.Label.Label}
use Rattle.pas_tree.specs.StatementTrees as tree
use Rattle.core_program.specs.declared.rows.{Row.Row, StatementRow.StatementRow}
use Rattle.check_steps.specs.{Known.label_at, Steps.Step}
use Rattle.statement_checker.specs.Labels.{each_label, is_unmarked, jump, label_of, labelled, leave, leave_all, levels_in, mark, marked_label, on_label}
use Rattle.statement_checker.specs.Labels.{on_others, on_statement, own_label, put_label, reach_all, reach_label, row_of, ways_in, with_ways}
use Rattle.statement_checker.specs.Sequences.{line_of}
use Rattle.code_checker.proofs.{StatementSequences.stated-holds, Within.Within}
use Rattle.code_checker.proofs.Steps.{Holds, bind-holds, give-holds, late-holds, look-holds, put-holds}

pub put_label-holds : {size : ℕ} {later : Bool} (x : Option ℕ) (r : Row) → Holds size later (put_label x r)
put_label-holds None r = give-holds tt
put_label-holds (Some d) r = put-holds d r

pub reach_label-holds : {size : ℕ} {later : Bool} (frame : ℕ) (token : ℕ) → Holds size later (reach_label frame token)
unfolding reach_label
reach_label-holds frame token = bind-holds (look-holds (λ k. own_label k frame token)) (λ d. bind-holds (look-holds (λ k. row_of k d)) (λ r.
    put_label-holds d (with_ways r (min (ways_in r + 1) 4294967295))))

pub leave-holds : {size : ℕ} {later : Bool} (frame : ℕ) (token : ℕ) → Holds size later (leave frame token)
unfolding leave
leave-holds frame token = bind-holds (look-holds (λ k. own_label k frame token)) (λ d. bind-holds (look-holds (λ k. row_of k d)) (λ r.
    put_label-holds d (with_ways r (ways_in r - 1))))

pub on_label-holds : {size : ℕ} {later : Bool} (f : (ℕ → Step (Unit {0}))) (label : Option Label) → ((t : ℕ) → t < size → Holds size later (f t))
    → Within size (label_node label) → Holds size later (on_label f label)
on_label-holds f None f-in label-in = give-holds tt
on_label-holds f (Some l) f-in label-in = f-in l.number label-in.0

pub on_statement-holds : {size : ℕ} {later : Bool} (f : (ℕ → Step (Unit {0}))) (s : StatementTree) → ((t : ℕ) → t < size → Holds size later (f t))
    → Within size (statement_node s) → Holds size later (on_statement f s)
on_statement-holds f (tree.a_statement label plain) f-in s-in = on_label-holds f label f-in s-in.0

pub on_others-holds : {size : ℕ} {later : Bool} (f : (ℕ → Step (Unit {0}))) (rest : StatementTrees) → ((t : ℕ) → t < size → Holds size later (f t))
    → Within size (more_statements_node rest) → Holds size later (on_others f rest)
on_others-holds f tree.end_of_statements f-in rest-in = give-holds tt
on_others-holds f (tree.more_statements semicolon s rest) f-in rest-in =
    bind-holds (on_statement-holds f s f-in rest-in.0.1) (λ _. on_others-holds f rest f-in rest-in.1)

pub each_label-holds : {size : ℕ} {later : Bool} (f : (ℕ → Step (Unit {0}))) (s : StatementsTree) → ((t : ℕ) → t < size → Holds size later (f t))
    → Within size (statements_node s) → Holds size later (each_label f s)
each_label-holds f (tree.statement_sequence first others) f-in s-in =
    bind-holds (on_statement-holds f first f-in s-in.0) (λ _. on_others-holds f others f-in s-in.1)

pub reach_all-holds : {size : ℕ} {later : Bool} (frame : ℕ) (s : StatementsTree) → Within size (statements_node s) → Holds size later (reach_all frame s)
unfolding reach_all
reach_all-holds frame s s-in = each_label-holds (reach_label frame) s (λ x h. reach_label-holds frame x) s-in

pub leave_all-holds : {size : ℕ} {later : Bool} (frame : ℕ) (s : StatementsTree) → Within size (statements_node s) → Holds size later (leave_all frame s)
unfolding leave_all
leave_all-holds frame s s-in = each_label-holds (leave frame) s (λ x h. leave-holds frame x) s-in

pub mark-holds : {size : ℕ} {later : Bool} (frame : ℕ) (token : ℕ) → token < size → Holds size later (mark frame token)
unfolding mark
mark-holds frame token token-in = bind-holds (look-holds (λ k. own_label k frame token)) (λ d. bind-holds (look-holds (λ k. row_of k d)) (λ r.
    bind-holds (late-holds 15 token (is_unmarked r) refl token-in) (λ _. put_label-holds d (marked_label r))))

pub labelled-holds : {size : ℕ} {later : Bool} (token : ℕ) (n : ℕ) → Holds size later (labelled token n)
unfolding labelled
labelled-holds token n = bind-holds (look-holds (λ k. label_at k token)) (λ value. stated-holds token (StatementRow.Labelled value n))

pub jump-holds : {size : ℕ} {later : Bool} (frame : ℕ) (label : Option ℕ) (word : ℕ) (token : ℕ) → token < size
    → Holds size later (jump frame label word token)
unfolding jump
jump-holds frame label word token token-in = bind-holds (look-holds (λ k. row_of k (label_of k frame token))) (λ r.
    bind-holds (late-holds 16 token (nat_lt 0 (ways_in r)) refl token-in) (λ _. bind-holds (look-holds (λ k. label_at k token)) (λ value.
    bind-holds (look-holds (λ k. levels_in k frame r)) (λ levels. bind-holds (look-holds (λ k. line_of k label word)) (λ line.
    stated-holds word (StatementRow.Goto line value levels))))))
