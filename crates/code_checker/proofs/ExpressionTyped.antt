-- What the steps of `Rattle.expression_checker.specs.Typed` keep.
use Rattle.std.proofs.Common.{ℕ, Bool, Option}
use Rattle.pas_tree.specs.{Constants.constant_node, declared.constants.Constant.Constant}
use Rattle.core_program.specs.declared.rows.{ExpressionRow.ExpressionRow, Row.Row}
use Rattle.kind_checker.specs.declared.{constants.ConstantValue.ConstantValue, shapes.ExpressionType.ExpressionType}
use Rattle.expression_checker.specs.Typed.{constant_at, constant_row, constant_type, literal, nil_at, typed_value}
use Rattle.code_checker.proofs.{KindConstants.constant_again-holds, Within.Within}
use Rattle.code_checker.proofs.Steps.{Holds, bind-holds, give-holds, look-holds, put-holds}

pub constant_at-holds : {size : ℕ} {later : Bool} (token : ℕ) (v : Option ConstantValue) → Holds size later (constant_at token v)
unfolding constant_at
constant_at-holds token v = bind-holds (look-holds (λ k. constant_type k v)) (λ of'. bind-holds (put-holds token (constant_row v)) (λ _.
    give-holds (typed_value token of')))

pub literal-holds : {size : ℕ} {later : Bool} (token : ℕ) (c : Constant) → Within size (constant_node c) → Holds size later (literal token c)
unfolding literal
literal-holds token c c-in = bind-holds (constant_again-holds 0 c c-in) (λ v. constant_at-holds token v)

pub nil_at-holds : {size : ℕ} {later : Bool} (token : ℕ) → Holds size later (nil_at token)
unfolding nil_at
nil_at-holds token = bind-holds (put-holds token (Row.Expression ExpressionRow.Nil)) (λ _. give-holds (typed_value token ExpressionType.Nil))
