-- What the steps of `Rattle.statement_checker.specs.Labels` touch.
use Rattle.std.proofs.Common.{◌+◌, ◌-◌, ◌≡◌, ℕ, None, Option, Some, false, min, nat_lt, refl}
use Rattle.pas_tree.specs.{StatementTrees.StatementTree, StatementTrees.StatementTrees, StatementTrees.StatementsTree, Statements.label_node}
use Rattle.pas_tree.specs.{TreeNodes.more_statements_node, TreeNodes.statement_node, TreeNodes.statements_node, declared.statements.Label.Label}
use Rattle.pas_tree.specs.StatementTrees as tree
use Rattle.core_program.specs.declared.rows.{Row.Row, StatementRow.StatementRow}
use Rattle.check_steps.specs.{Known.Known, Known.label_at, declared.breaks.Break.Break}
use Rattle.check_steps.specs.Steps.{◌>>=◌, Step, ask, change, give, late, look}
use Rattle.statement_checker.specs.Labels.{each_label, is_unmarked, jump, label_of, labelled, leave, leave_all, levels_in, mark, marked_label, on_label}
use Rattle.statement_checker.specs.Labels.{on_others, on_statement, own_label, put_label, reach_all, reach_label, row_of, ways_in, with_ways}
use Rattle.statement_checker.specs.Sequences.{line_of}
use Rattle.rule_laws.proofs.{Breaks.Each, Breaks.both, Every.Every, Every.Of, StatementSequences.stated-touches}
use Rattle.rule_laws.proofs.Faces.{Shown, Shows, mark_shows, ways_show}
use Rattle.rule_laws.proofs.Touches.{Same, Told, Touches, bind-touches, give-touches, label-touches, late-touches, look-touches, same_changed, same_in}

-- a row that is changed where the tables say, in what it does not show
changed_there : {Q : ℕ → Type 0} {strict : Shown} (x : Option ℕ) (g : Row → Row) → Shows strict g
    → (k : Known) → Same Q strict k (put_label x (g (row_of k x)) k).known
unfolding change give
changed_there None g shows k = same_in k
changed_there (Some d) g shows k = same_changed k d g shows

pub label_changed : {Q : ℕ → Type 0} {strict : Shown} (frame token : ℕ) (g : Row → Row) → Shows strict g
    → (k : Known) → Same Q strict k (put_label (own_label k frame token) (g (row_of k (own_label k frame token))) k).known
label_changed frame token g shows k = changed_there (own_label k frame token) g shows k

label_quiet : (P : Break → Type 0) (x : Option ℕ) (r : Row) (k : Known) → Each P (put_label x r k).broken
unfolding change give
label_quiet P None r k = tt
label_quiet P (Some d) r k = tt

pub reach_label-touches : {Q : ℕ → Type 0} {strict : Shown} (frame : ℕ) (token : ℕ) → Touches Q strict (reach_label frame token)
unfolding reach_label look ◌>>=◌
reach_label-touches {Q = Q} {strict = strict} frame token = record {
  same = label_changed frame token (λ r. with_ways r (min (ways_in r + 1) 4294967295)) (ways_show strict (λ r. min (ways_in r + 1) 4294967295));
  told = λ k. let d = own_label k frame token in let r = row_of k d in label_quiet (Told Q strict) d (with_ways r (min (ways_in r + 1) 4294967295)) k;
}

pub leave-touches : {Q : ℕ → Type 0} {strict : Shown} (frame : ℕ) (token : ℕ) → Touches Q strict (leave frame token)
unfolding leave look ◌>>=◌
leave-touches {Q = Q} {strict = strict} frame token = record {
  same = label_changed frame token (λ r. with_ways r (ways_in r - 1)) (ways_show strict (λ r. ways_in r - 1));
  told = λ k. let d = own_label k frame token in let r = row_of k d in label_quiet (Told Q strict) d (with_ways r (ways_in r - 1)) k;
}

pub on_label-touches : {Q : ℕ → Type 0} {strict : Shown} (f : (ℕ → Step (Unit {0}))) (label : Option Label) → ((t : ℕ) → Of Q t → Touches Q strict (f t))
    → Every Q (label_node label) → Touches Q strict (on_label f label)
on_label-touches f None f-in label-in = give-touches tt
on_label-touches f (Some l) f-in label-in = f-in l.number label-in.0

pub on_statement-touches : {Q : ℕ → Type 0} {strict : Shown} (f : (ℕ → Step (Unit {0}))) (s : StatementTree) → ((t : ℕ) → Of Q t → Touches Q strict (f t))
    → Every Q (statement_node s) → Touches Q strict (on_statement f s)
on_statement-touches f (tree.a_statement label plain) f-in s-in = on_label-touches f label f-in s-in.0

pub on_others-touches : {Q : ℕ → Type 0} {strict : Shown} (f : (ℕ → Step (Unit {0}))) (rest : StatementTrees) → ((t : ℕ) → Of Q t → Touches Q strict (f t))
    → Every Q (more_statements_node rest) → Touches Q strict (on_others f rest)
on_others-touches f tree.end_of_statements f-in rest-in = give-touches tt
on_others-touches f (tree.more_statements semicolon s rest) f-in rest-in =
    bind-touches (on_statement-touches f s f-in rest-in.0.1) (λ _. on_others-touches f rest f-in rest-in.1)

pub each_label-touches : {Q : ℕ → Type 0} {strict : Shown} (f : (ℕ → Step (Unit {0}))) (s : StatementsTree) → ((t : ℕ) → Of Q t → Touches Q strict (f t))
    → Every Q (statements_node s) → Touches Q strict (each_label f s)
each_label-touches f (tree.statement_sequence first others) f-in s-in =
    bind-touches (on_statement-touches f first f-in s-in.0) (λ _. on_others-touches f others f-in s-in.1)

pub reach_all-touches : {Q : ℕ → Type 0} {strict : Shown} (frame : ℕ) (s : StatementsTree) → Every Q (statements_node s) → Touches Q strict (reach_all frame s)
unfolding reach_all
reach_all-touches frame s s-in = each_label-touches (reach_label frame) s (λ x h. reach_label-touches frame x) s-in

pub leave_all-touches : {Q : ℕ → Type 0} {strict : Shown} (frame : ℕ) (s : StatementsTree) → Every Q (statements_node s) → Touches Q strict (leave_all frame s)
unfolding leave_all
leave_all-touches frame s s-in = each_label-touches (leave frame) s (λ x h. leave-touches frame x) s-in

pub mark-touches : {Q : ℕ → Type 0} {strict : Shown} → strict.marks ≡ false → (frame : ℕ) (token : ℕ) → Of Q token → Touches Q strict (mark frame token)
unfolding mark look ◌>>=◌ ask
mark-touches {Q = Q} {strict = strict} lax frame token token-in = record {
  same = label_changed frame token marked_label (mark_shows strict lax);
  told = λ k.
      let d = own_label k frame token in
      let r = row_of k d in
      both (Told Q strict) (late 15 token (is_unmarked r) k).broken (put_label d (marked_label r) k).broken
      ((label-touches lax token (is_unmarked r) token-in).told k) (label_quiet (Told Q strict) d (marked_label r) k);
}

pub labelled-touches : {Q : ℕ → Type 0} {strict : Shown} (token : ℕ) (n : ℕ) → Of Q token → Touches Q strict (labelled token n)
unfolding labelled
labelled-touches token n token-in =
    bind-touches (look-touches (λ k. label_at k token)) (λ value. stated-touches token (StatementRow.Labelled value n) token-in)

pub jump-touches : {Q : ℕ → Type 0} {strict : Shown} (frame : ℕ) (label : Option ℕ) (word : ℕ) (token : ℕ) → Of Q word → Of Q token
    → Touches Q strict (jump frame label word token)
unfolding jump
jump-touches frame label word token word-in token-in = bind-touches (look-touches (λ k. row_of k (label_of k frame token))) (λ r.
    bind-touches (late-touches 16 token (nat_lt 0 (ways_in r)) refl token-in) (λ _. bind-touches (look-touches (λ k. label_at k token)) (λ value.
    bind-touches (look-touches (λ k. levels_in k frame r)) (λ levels. bind-touches (look-touches (λ k. line_of k label word)) (λ line.
    stated-touches word (StatementRow.Goto line value levels) word-in)))))
