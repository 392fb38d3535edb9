-- What the steps of `Rattle.statement_checker.specs.Moves` touch.
use Rattle.std.proofs.Common.{◌&&◌, ◌++◌, ◌∷◌, [], ℕ, Bool, List, None, Option, Some, false, length, map, nat_eq, nat_le, refl, true}
use Rattle.grammar.specs.Nodes.{row}
use Rattle.pas_tree.specs.{ExpressionPlaces.first_of_expression, StatementTrees.ActualTree, StatementTrees.ActualsTree, StatementTrees.NextActualTree}
use Rattle.pas_tree.specs.TreeNodes.{actual_node, actuals_node, call_node, next_actual_node}
use Rattle.core_program.specs.{ProgramRows.size_of, declared.rows.StatementRow.StatementRow}
use Rattle.check_steps.specs.Steps.{◌>>=◌, Step, give}
use Rattle.expression_checker.specs.declared.typed.Typed.{Typed}
use Rattle.statement_checker.specs.{Actuals.plain_actual, Moves.unpack_three}
use Rattle.statement_checker.specs.Moves.{dispose_one, domain_of, is_array, is_index_of, is_like, is_made, is_pointer, move_checked, new_one, new_variable}
use Rattle.statement_checker.specs.Moves.{operand_actual, pack_call, pack_row, pack_some, pack_three, pointer_call, pointer_one, pointer_some, three}
use Rattle.statement_checker.specs.declared.{actuals.RequiredCall.RequiredCall, moves.CheckedActual.CheckedActual}
use Rattle.rule_laws.proofs.{Breaks.both, Every.Every, Every.Of, Faces.Shown, StatementSequences.stated-touches, TokenPlaces.first_of_expression-in}
use Rattle.rule_laws.proofs.StatementActuals.{plain_actual-touches, without_actuals-touches, wrong_number-touches}
use Rattle.rule_laws.proofs.Touches.{Told, Touches, bind-touches, give-touches, late-touches, look-touches, same_then, too_big-touches}

pub new_variable-touches : {Q : ℕ → Type 0} {strict : Shown} (first : ℕ) (v : Typed) → Of Q first → Touches Q strict (new_variable first v)
unfolding new_variable
new_variable-touches first v first-in = bind-touches (look-touches (λ k. is_made k v)) (λ fine. bind-touches (late-touches 32 first fine refl first-in) (λ _.
    bind-touches (look-touches (λ k. domain_of k v)) (λ domain. bind-touches (look-touches (λ k. size_of k.program domain)) (λ cells.
    bind-touches (too_big-touches first (nat_le cells 65536) first-in) (λ _. give-touches domain)))))

pub new_one-touches : {Q : ℕ → Type 0} {strict : Shown} (frame : ℕ) (c : RequiredCall) (a : ActualTree) → Of Q c.name → Every Q (actual_node a)
    → Touches Q strict (new_one frame c a)
unfolding new_one
new_one-touches frame c a c-in a-in = bind-touches (plain_actual-touches frame a a-in) (λ v.
    bind-touches (new_variable-touches (first_of_expression a.expression) v (first_of_expression-in a.expression a-in.0)) (λ domain.
    stated-touches c.name (StatementRow.New c.line v.row domain) c-in))

pub dispose_one-touches : {Q : ℕ → Type 0} {strict : Shown} (frame : ℕ) (c : RequiredCall) (a : ActualTree) → Of Q c.name → Every Q (actual_node a)
    → Touches Q strict (dispose_one frame c a)
unfolding dispose_one
dispose_one-touches frame c a c-in a-in = bind-touches (plain_actual-touches frame a a-in) (λ v. bind-touches (look-touches (λ k. is_pointer k v)) (λ fine.
    bind-touches (late-touches 32 (first_of_expression a.expression) fine refl (first_of_expression-in a.expression a-in.0)) (λ _. bind-touches (look-touches
    (λ k. domain_of k v)) (λ domain. stated-touches c.name (StatementRow.Dispose c.line v.row domain) c-in))))

pub pointer_one-touches : {Q : ℕ → Type 0} {strict : Shown} (bool : Bool) (frame : ℕ) (c : RequiredCall) (a : ActualTree) → Of Q c.name
    → Every Q (actual_node a)
    → Touches Q strict (pointer_one bool frame c a)
pointer_one-touches true frame c a c-in a-in = new_one-touches frame c a c-in a-in
pointer_one-touches false frame c a c-in a-in = dispose_one-touches frame c a c-in a-in

pub pointer_some-touches : {Q : ℕ → Type 0} {strict : Shown} (making : Bool) (frame : ℕ) (c : RequiredCall) (a : ActualsTree) (bool : Bool) → Of Q c.name
    → Every Q (actuals_node a) → Touches Q strict (pointer_some making frame c a bool)
pointer_some-touches making frame c a true c-in a-in = pointer_one-touches making frame c a.first c-in a-in.1.0
pointer_some-touches making frame c a false c-in a-in = wrong_number-touches frame c.name a c-in a-in

pub pointer_call-touches : {Q : ℕ → Type 0} {strict : Shown} (making : Bool) (frame : ℕ) (c : RequiredCall) (actuals : Option ActualsTree) → Of Q c.name
    → Every Q (call_node actuals) → Touches Q strict (pointer_call making frame c actuals)
pointer_call-touches making frame c None c-in actuals-in = without_actuals-touches c.name c-in
pointer_call-touches making frame c (Some a) c-in actuals-in =
    pointer_some-touches making frame c a (nat_eq (length a.others) 0) c-in actuals-in

pub move_checked-touches : {Q : ℕ → Type 0} {strict : Shown} (u : CheckedActual) (i : CheckedActual) (p : CheckedActual) → Of Q u.first → Of Q i.first
    → Of Q p.first → Touches Q strict (move_checked u i p)
unfolding move_checked
move_checked-touches u i p u-in i-in p-in = bind-touches (look-touches (λ k. is_array k false u.value))
    (λ array. bind-touches (late-touches 32 u.first array refl u-in)
    (λ _. bind-touches (look-touches (λ k. is_index_of k u.value i.value)) (λ index. bind-touches (late-touches 32 i.first index refl i-in) (λ _.
    bind-touches (look-touches (λ k. is_array k true p.value && is_like k u.value p.value)) (λ like. late-touches 32 p.first like refl p-in)))))

pub operand_actual-touches : {Q : ℕ → Type 0} {strict : Shown} {B : Type 0} {g : CheckedActual → Step B} (frame : ℕ) (a : ActualTree) → Every Q (actual_node a)
    → ((u : CheckedActual) → Of Q u.first → Touches Q strict (g u)) → Touches Q strict (operand_actual frame a >>= g)
unfolding operand_actual ◌>>=◌ give
operand_actual-touches {Q = Q} {strict = strict} {g = g} frame a a-in h = record {
  same = λ k.
      let d = plain_actual frame a k in
      let u : CheckedActual = record { first = first_of_expression a.expression; value = d.value } in
      same_then k d.known (g u d.known).known ((plain_actual-touches frame a a-in).same k) ((h u (first_of_expression-in a.expression a-in.0)).same d.known);
  told = λ k.
      let d = plain_actual frame a k in
      let u : CheckedActual = record { first = first_of_expression a.expression; value = d.value } in
      both (Told Q strict) (d.broken ++ []) (g u d.known).broken
      (both (Told Q strict) d.broken [] ((plain_actual-touches frame a a-in).told k) tt)
      ((h u (first_of_expression-in a.expression a-in.0)).told d.known);
}

pub pack_three-touches : {Q : ℕ → Type 0} {strict : Shown} (frame : ℕ) (c : RequiredCall) (a : ActualTree) (b : ActualTree) (d : ActualTree) → Of Q c.name
    → Every Q (actual_node a) → Every Q (actual_node b) → Every Q (actual_node d) → Touches Q strict (pack_three frame c a b d)
unfolding pack_three
pack_three-touches frame c a b d c-in a-in b-in d-in = operand_actual-touches frame a a-in (λ u u-in. operand_actual-touches frame b b-in (λ i i-in.
    operand_actual-touches frame d d-in (λ p p-in. bind-touches (move_checked-touches u i p u-in i-in p-in) (λ _.
    stated-touches c.name (pack_row true c.line u i p) c-in))))

pub unpack_three-touches : {Q : ℕ → Type 0} {strict : Shown} (frame : ℕ) (c : RequiredCall) (a : ActualTree) (b : ActualTree) (d : ActualTree) → Of Q c.name
    → Every Q (actual_node a) → Every Q (actual_node b) → Every Q (actual_node d) → Touches Q strict (unpack_three frame c a b d)
unfolding unpack_three
unpack_three-touches frame c a b d c-in a-in b-in d-in = operand_actual-touches frame a a-in (λ p p-in. operand_actual-touches frame b b-in (λ u u-in.
    operand_actual-touches frame d d-in (λ i i-in. bind-touches (move_checked-touches u i p u-in i-in p-in) (λ _.
    stated-touches c.name (pack_row false c.line u i p) c-in))))

pub three-touches : {Q : ℕ → Type 0} {strict : Shown} (bool : Bool) (frame : ℕ) (c : RequiredCall) (a : ActualTree) (b : ActualTree) (d : ActualTree)
    → Of Q c.name
    → Every Q (actual_node a) → Every Q (actual_node b) → Every Q (actual_node d) → Touches Q strict (three bool frame c a b d)
three-touches true frame c a b d c-in a-in b-in d-in = pack_three-touches frame c a b d c-in a-in b-in d-in
three-touches false frame c a b d c-in a-in b-in d-in = unpack_three-touches frame c a b d c-in a-in b-in d-in

pub pack_some-touches : {Q : ℕ → Type 0} {strict : Shown} (packing : Bool) (frame : ℕ) (c : RequiredCall) (a : ActualsTree) (others : List NextActualTree)
    → Of Q c.name
    → Every Q (actuals_node a) → Every Q (row (map next_actual_node others)) → Touches Q strict (pack_some packing frame c a others)
pack_some-touches packing frame c a (b ∷ d ∷ []) c-in a-in others-in =
    three-touches packing frame c a.first b.actual d.actual c-in a-in.1.0 others-in.0.1 others-in.1.0.1
pack_some-touches packing frame c a others c-in a-in others-in = wrong_number-touches frame c.name a c-in a-in

pub pack_call-touches : {Q : ℕ → Type 0} {strict : Shown} (packing : Bool) (frame : ℕ) (c : RequiredCall) (actuals : Option ActualsTree) → Of Q c.name
    → Every Q (call_node actuals) → Touches Q strict (pack_call packing frame c actuals)
pack_call-touches packing frame c None c-in actuals-in = without_actuals-touches c.name c-in
pack_call-touches packing frame c (Some a) c-in actuals-in = pack_some-touches packing frame c a a.others c-in actuals-in actuals-in.1.1.0
