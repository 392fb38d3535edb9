-- What the steps of `Rattle.statement_checker.specs.Moves` keep.
use Rattle.std.proofs.Common.{◌&&◌, ◌++◌, ◌<◌, ◌∷◌, [], ℕ, Bool, List, None, Option, Some, false, length, map, nat_eq, nat_le, refl, true}
use Rattle.grammar.specs.Nodes.{row}
use Rattle.pas_tree.specs.{ExpressionPlaces.first_of_expression, StatementTrees.ActualTree, StatementTrees.ActualsTree, StatementTrees.NextActualTree}
use Rattle.pas_tree.specs.TreeNodes.{actual_node, actuals_node, call_node, next_actual_node}
use Rattle.core_program.specs.{ProgramRows.size_of, declared.rows.StatementRow.StatementRow}
use Rattle.check_steps.specs.Steps.{◌>>=◌, Step, give}
use Rattle.expression_checker.specs.declared.typed.Typed.{Typed}
use Rattle.statement_checker.specs.{Actuals.plain_actual, Moves.unpack_three}
use Rattle.statement_checker.specs.Moves.{dispose_one, domain_of, is_array, is_index_of, is_like, is_made, is_pointer, move_checked, new_one, new_variable}
use Rattle.statement_checker.specs.Moves.{operand_actual, pack_call, pack_row, pack_some, pack_three, pointer_call, pointer_one, pointer_some, three}
use Rattle.statement_checker.specs.declared.{actuals.RequiredCall.RequiredCall, moves.CheckedActual.CheckedActual}
use Rattle.code_checker.proofs.{StatementSequences.stated-holds, TokenPlaces.first_of_expression-in, Within.Within}
use Rattle.code_checker.proofs.StatementActuals.{plain_actual-holds, without_actuals-holds, wrong_number-holds}
use Rattle.code_checker.proofs.Steps.{Holds, Stands, bind-holds, both, give-holds, late-holds, look-holds, too_big-holds}

pub new_variable-holds : {size : ℕ} {later : Bool} (first : ℕ) (v : Typed) → first < size → Holds size later (new_variable first v)
unfolding new_variable
new_variable-holds first v first-in = bind-holds (look-holds (λ k. is_made k v)) (λ fine. bind-holds (late-holds 32 first fine refl first-in) (λ _.
    bind-holds (look-holds (λ k. domain_of k v)) (λ domain. bind-holds (look-holds (λ k. size_of k.program domain)) (λ cells.
    bind-holds (too_big-holds first (nat_le cells 65536) first-in) (λ _. give-holds domain)))))

pub new_one-holds : {size : ℕ} {later : Bool} (frame : ℕ) (c : RequiredCall) (a : ActualTree) → c.name < size → Within size (actual_node a)
    → Holds size later (new_one frame c a)
unfolding new_one
new_one-holds frame c a c-in a-in = bind-holds (plain_actual-holds frame a a-in) (λ v.
    bind-holds (new_variable-holds (first_of_expression a.expression) v (first_of_expression-in a.expression a-in.0)) (λ domain.
    stated-holds c.name (StatementRow.New c.line v.row domain)))

pub dispose_one-holds : {size : ℕ} {later : Bool} (frame : ℕ) (c : RequiredCall) (a : ActualTree) → c.name < size → Within size (actual_node a)
    → Holds size later (dispose_one frame c a)
unfolding dispose_one
dispose_one-holds frame c a c-in a-in = bind-holds (plain_actual-holds frame a a-in) (λ v. bind-holds (look-holds (λ k. is_pointer k v)) (λ fine.
    bind-holds (late-holds 32 (first_of_expression a.expression) fine refl (first_of_expression-in a.expression a-in.0)) (λ _. bind-holds (look-holds
    (λ k. domain_of k v)) (λ domain. stated-holds c.name (StatementRow.Dispose c.line v.row domain)))))

pub pointer_one-holds : {size : ℕ} {later : Bool} (bool : Bool) (frame : ℕ) (c : RequiredCall) (a : ActualTree) → c.name < size → Within size (actual_node a)
    → Holds size later (pointer_one bool frame c a)
pointer_one-holds true frame c a c-in a-in = new_one-holds frame c a c-in a-in
pointer_one-holds false frame c a c-in a-in = dispose_one-holds frame c a c-in a-in

pub pointer_some-holds : {size : ℕ} {later : Bool} (making : Bool) (frame : ℕ) (c : RequiredCall) (a : ActualsTree) (bool : Bool) → c.name < size
    → Within size (actuals_node a) → Holds size later (pointer_some making frame c a bool)
pointer_some-holds making frame c a true c-in a-in = pointer_one-holds making frame c a.first c-in a-in.1.0
pointer_some-holds making frame c a false c-in a-in = wrong_number-holds frame c.name a c-in a-in

pub pointer_call-holds : {size : ℕ} {later : Bool} (making : Bool) (frame : ℕ) (c : RequiredCall) (actuals : Option ActualsTree) → c.name < size
    → Within size (call_node actuals) → Holds size later (pointer_call making frame c actuals)
pointer_call-holds making frame c None c-in actuals-in = without_actuals-holds c.name c-in
pointer_call-holds making frame c (Some a) c-in actuals-in =
    pointer_some-holds making frame c a (nat_eq (length a.others) 0) c-in actuals-in

pub move_checked-holds : {size : ℕ} {later : Bool} (u : CheckedActual) (i : CheckedActual) (p : CheckedActual) → u.first < size → i.first < size
    → p.first < size → Holds size later (move_checked u i p)
unfolding move_checked
move_checked-holds u i p u-in i-in p-in = bind-holds (look-holds (λ k. is_array k false u.value)) (λ array. bind-holds (late-holds 32 u.first array refl u-in)
    (λ _. bind-holds (look-holds (λ k. is_index_of k u.value i.value)) (λ index. bind-holds (late-holds 32 i.first index refl i-in) (λ _.
    bind-holds (look-holds (λ k. is_array k true p.value && is_like k u.value p.value)) (λ like. late-holds 32 p.first like refl p-in)))))

pub operand_actual-holds : {size : ℕ} {later : Bool} {B : Type 0} {g : CheckedActual → Step B} (frame : ℕ) (a : ActualTree) → Within size (actual_node a)
    → ((u : CheckedActual) → u.first < size → Holds size later (g u)) → Holds size later (operand_actual frame a >>= g)
unfolding operand_actual ◌>>=◌ give
operand_actual-holds {size = size} {later = later} {g = g} frame a a-in h = record {
  of = λ k t.
      let d = plain_actual frame a k in
      let u : CheckedActual = record { first = first_of_expression a.expression; value = d.value } in
      let one = (plain_actual-holds frame a a-in).of k t in
      let two = (h u (first_of_expression-in a.expression a-in.0)).of d.known one.threats in
      record {
        threats = two.threats;
        broken = both (Stands size later) (d.broken ++ []) (g u d.known).broken (both (Stands size later) d.broken [] one.broken tt) two.broken;
      };
}

pub pack_three-holds : {size : ℕ} {later : Bool} (frame : ℕ) (c : RequiredCall) (a : ActualTree) (b : ActualTree) (d : ActualTree) → c.name < size
    → Within size (actual_node a) → Within size (actual_node b) → Within size (actual_node d) → Holds size later (pack_three frame c a b d)
unfolding pack_three
pack_three-holds frame c a b d c-in a-in b-in d-in = operand_actual-holds frame a a-in (λ u u-in. operand_actual-holds frame b b-in (λ i i-in.
    operand_actual-holds frame d d-in (λ p p-in. bind-holds (move_checked-holds u i p u-in i-in p-in) (λ _.
    stated-holds c.name (pack_row true c.line u i p)))))

pub unpack_three-holds : {size : ℕ} {later : Bool} (frame : ℕ) (c : RequiredCall) (a : ActualTree) (b : ActualTree) (d : ActualTree) → c.name < size
    → Within size (actual_node a) → Within size (actual_node b) → Within size (actual_node d) → Holds size later (unpack_three frame c a b d)
unfolding unpack_three
unpack_three-holds frame c a b d c-in a-in b-in d-in = operand_actual-holds frame a a-in (λ p p-in. operand_actual-holds frame b b-in (λ u u-in.
    operand_actual-holds frame d d-in (λ i i-in. bind-holds (move_checked-holds u i p u-in i-in p-in) (λ _.
    stated-holds c.name (pack_row false c.line u i p)))))

pub three-holds : {size : ℕ} {later : Bool} (bool : Bool) (frame : ℕ) (c : RequiredCall) (a : ActualTree) (b : ActualTree) (d : ActualTree) → c.name < size
    → Within size (actual_node a) → Within size (actual_node b) → Within size (actual_node d) → Holds size later (three bool frame c a b d)
three-holds true frame c a b d c-in a-in b-in d-in = pack_three-holds frame c a b d c-in a-in b-in d-in
three-holds false frame c a b d c-in a-in b-in d-in = unpack_three-holds frame c a b d c-in a-in b-in d-in

pub pack_some-holds : {size : ℕ} {later : Bool} (packing : Bool) (frame : ℕ) (c : RequiredCall) (a : ActualsTree) (others : List NextActualTree) → c.name < size
    → Within size (actuals_node a) → Within size (row (map next_actual_node others)) → Holds size later (pack_some packing frame c a others)
pack_some-holds packing frame c a (b ∷ d ∷ []) c-in a-in others-in =
    three-holds packing frame c a.first b.actual d.actual c-in a-in.1.0 others-in.0.1 others-in.1.0.1
pack_some-holds packing frame c a others c-in a-in others-in = wrong_number-holds frame c.name a c-in a-in

pub pack_call-holds : {size : ℕ} {later : Bool} (packing : Bool) (frame : ℕ) (c : RequiredCall) (actuals : Option ActualsTree) → c.name < size
    → Within size (call_node actuals) → Holds size later (pack_call packing frame c actuals)
pack_call-holds packing frame c None c-in actuals-in = without_actuals-holds c.name c-in
pack_call-holds packing frame c (Some a) c-in actuals-in = pack_some-holds packing frame c a a.others c-in actuals-in actuals-in.1.1.0
