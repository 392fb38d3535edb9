-- What the steps of `Rattle.statement_checker.specs.Actuals` keep.
use Rattle.std.proofs.Common.{◌<◌, ℕ, Bool, None, Option, Some, false, refl}
use Rattle.pas_tree.specs.StatementTrees.{ActualTree, ActualsTree, NextActualTree, WidthTree}
use Rattle.pas_tree.specs.TreeNodes.{actual_node, actuals_node, next_actual_node, width_node}
use Rattle.statement_checker.specs.Actuals.{another_plain, no_width, own_parts, plain_actual, surplus_width, without_actuals, wrong_number}
use Rattle.code_checker.proofs.{ExpressionExpressions.expression-holds, Within.Within}
use Rattle.code_checker.proofs.Steps.{Holds, bind-holds, each-holds, give-holds, late-holds}

pub surplus_width-holds : {size : ℕ} {later : Bool} (frame : ℕ) (w : WidthTree) → Within size (width_node (Some w)) → Holds size later (surplus_width frame w)
unfolding surplus_width
surplus_width-holds frame w w-in = bind-holds (expression-holds frame w.width w-in.1) (λ _. late-holds 33 w.colon false refl w-in.0)

pub no_width-holds : {size : ℕ} {later : Bool} (frame : ℕ) (width : Option WidthTree) → Within size (width_node width) → Holds size later (no_width frame width)
no_width-holds frame None width-in = give-holds tt
no_width-holds frame (Some w) width-in = surplus_width-holds frame w width-in

pub plain_actual-holds : {size : ℕ} {later : Bool} (frame : ℕ) (a : ActualTree) → Within size (actual_node a) → Holds size later (plain_actual frame a)
unfolding plain_actual
plain_actual-holds frame a a-in = bind-holds (expression-holds frame a.expression a-in.0) (λ v. bind-holds (no_width-holds frame a.width a-in.1) (λ _.
    give-holds v))

pub another_plain-holds : {size : ℕ} {later : Bool} (frame : ℕ) (u : Unit {0}) (n : NextActualTree) → Within size (next_actual_node n)
    → Holds size later (another_plain frame u n)
another_plain-holds frame u n n-in = bind-holds (plain_actual-holds frame n.actual n-in.1) (λ _. give-holds tt)

pub own_parts-holds : {size : ℕ} {later : Bool} (frame : ℕ) (a : ActualsTree) → Within size (actuals_node a) → Holds size later (own_parts frame a)
unfolding own_parts
own_parts-holds frame a a-in = bind-holds (plain_actual-holds frame a.first a-in.1.0) (λ _. each-holds (another_plain frame) next_actual_node (λ a x h.
    another_plain-holds frame a x h) tt a.others a-in.1.1.0)

pub wrong_number-holds : {size : ℕ} {later : Bool} (frame : ℕ) (name : ℕ) (a : ActualsTree) → name < size → Within size (actuals_node a)
    → Holds size later (wrong_number frame name a)
unfolding wrong_number
wrong_number-holds frame name a name-in a-in = bind-holds (late-holds 26 name false refl name-in) (λ _. bind-holds (own_parts-holds frame a a-in) (λ _.
    give-holds name))

pub without_actuals-holds : {size : ℕ} {later : Bool} (name : ℕ) → name < size → Holds size later (without_actuals name)
unfolding without_actuals
without_actuals-holds name name-in = bind-holds (late-holds 26 name false refl name-in) (λ _. give-holds name)
