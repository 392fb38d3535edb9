-- What the steps of `Rattle.expression_checker.specs.Typed` touch.
use Rattle.std.proofs.Common.{ℕ, Option, refl}
use Rattle.pas_tree.specs.{Constants.constant_node, declared.constants.Constant.Constant}
use Rattle.core_program.specs.declared.rows.{ExpressionRow.ExpressionRow, Row.Row}
use Rattle.kind_checker.specs.declared.{constants.ConstantValue.ConstantValue, shapes.ExpressionType.ExpressionType}
use Rattle.expression_checker.specs.Typed.{constant_at, constant_row, constant_type, literal, nil_at, typed_value}
use Rattle.rule_laws.proofs.{Every.Every, Every.Of, Faces.Shown, KindConstants.constant_again-touches, RowsPut.constant_none}
use Rattle.rule_laws.proofs.Touches.{Touches, bind-touches, give-touches, look-touches, put-touches}

pub constant_at-touches : {Q : ℕ → Type 0} {strict : Shown} (token : ℕ) (v : Option ConstantValue) → Of Q token → Touches Q strict (constant_at token v)
unfolding constant_at
constant_at-touches token v token-in = bind-touches (look-touches (λ k. constant_type k v))
    (λ of'. bind-touches (put-touches token (constant_row v) token-in (constant_none v)) (λ _.
    give-touches (typed_value token of')))

pub literal-touches : {Q : ℕ → Type 0} {strict : Shown} (token : ℕ) (c : Constant) → Of Q token → Every Q (constant_node c) → Touches Q strict (literal token c)
unfolding literal
literal-touches token c token-in c-in = bind-touches (constant_again-touches 0 c c-in) (λ v. constant_at-touches token v token-in)

pub nil_at-touches : {Q : ℕ → Type 0} {strict : Shown} (token : ℕ) → Of Q token → Touches Q strict (nil_at token)
unfolding nil_at
nil_at-touches token token-in = bind-touches (put-touches token (Row.Expression ExpressionRow.Nil) token-in refl)
    (λ _. give-touches (typed_value token ExpressionType.Nil))
