-- What the steps of `Rattle.statement_checker.specs.Actuals` touch.
use Rattle.std.proofs.Common.{ℕ, None, Option, Some, false, refl}
use Rattle.pas_tree.specs.StatementTrees.{ActualTree, ActualsTree, NextActualTree, WidthTree}
use Rattle.pas_tree.specs.TreeNodes.{actual_node, actuals_node, next_actual_node, width_node}
use Rattle.statement_checker.specs.Actuals.{another_plain, no_width, own_parts, plain_actual, surplus_width, without_actuals, wrong_number}
use Rattle.rule_laws.proofs.{Every.Every, Every.Of, ExpressionExpressions.expression-touches, Faces.Shown}
use Rattle.rule_laws.proofs.Touches.{Touches, bind-touches, each-touches, give-touches, late-touches}

pub surplus_width-touches : {Q : ℕ → Type 0} {strict : Shown} (frame : ℕ) (w : WidthTree) → Every Q (width_node (Some w))
    → Touches Q strict (surplus_width frame w)
unfolding surplus_width
surplus_width-touches frame w w-in = bind-touches (expression-touches frame w.width w-in.1) (λ _. late-touches 33 w.colon false refl w-in.0)

pub no_width-touches : {Q : ℕ → Type 0} {strict : Shown} (frame : ℕ) (width : Option WidthTree) → Every Q (width_node width)
    → Touches Q strict (no_width frame width)
no_width-touches frame None width-in = give-touches tt
no_width-touches frame (Some w) width-in = surplus_width-touches frame w width-in

pub plain_actual-touches : {Q : ℕ → Type 0} {strict : Shown} (frame : ℕ) (a : ActualTree) → Every Q (actual_node a) → Touches Q strict (plain_actual frame a)
unfolding plain_actual
plain_actual-touches frame a a-in = bind-touches (expression-touches frame a.expression a-in.0) (λ v. bind-touches (no_width-touches frame a.width a-in.1) (λ _.
    give-touches v))

pub another_plain-touches : {Q : ℕ → Type 0} {strict : Shown} (frame : ℕ) (u : Unit {0}) (n : NextActualTree) → Every Q (next_actual_node n)
    → Touches Q strict (another_plain frame u n)
another_plain-touches frame u n n-in = bind-touches (plain_actual-touches frame n.actual n-in.1) (λ _. give-touches tt)

pub own_parts-touches : {Q : ℕ → Type 0} {strict : Shown} (frame : ℕ) (a : ActualsTree) → Every Q (actuals_node a) → Touches Q strict (own_parts frame a)
unfolding own_parts
own_parts-touches frame a a-in = bind-touches (plain_actual-touches frame a.first a-in.1.0) (λ _. each-touches (another_plain frame) next_actual_node (λ a x h.
    another_plain-touches frame a x h) tt a.others a-in.1.1.0)

pub wrong_number-touches : {Q : ℕ → Type 0} {strict : Shown} (frame : ℕ) (name : ℕ) (a : ActualsTree) → Of Q name → Every Q (actuals_node a)
    → Touches Q strict (wrong_number frame name a)
unfolding wrong_number
wrong_number-touches frame name a name-in a-in = bind-touches (late-touches 26 name false refl name-in)
    (λ _. bind-touches (own_parts-touches frame a a-in) (λ _.
    give-touches name))

pub without_actuals-touches : {Q : ℕ → Type 0} {strict : Shown} (name : ℕ) → Of Q name → Touches Q strict (without_actuals name)
unfolding without_actuals
without_actuals-touches name name-in = bind-touches (late-touches 26 name false refl name-in) (λ _. give-touches name)
