-- What the steps of `Rattle.expression_checker.specs.Operations` keep.
use Rattle.std.proofs.Common.{if◌then◌else◌, ◌<◌, ℕ, Bool, None, Option, Some, refl}
use Rattle.pas_tree.specs.{OperatorPlaces.sign_token, Operators.sign_leaf, Operators.sign_node, declared.operators.Sign.Sign}
use Rattle.core_program.specs.declared.rows.{ExpressionRow.ExpressionRow, Row.Row}
use Rattle.kind_checker.specs.{Shapes.shape_of, declared.operators.Operator.Operator}
use Rattle.kind_checker.specs.Operators.{fits, is_operand, operation_of, operation_row, operation_type}
use Rattle.expression_checker.specs.{Typed.typed_value, declared.typed.Typed.Typed}
use Rattle.expression_checker.specs.Operations.{is_minus, negated, operated, sign_before, signed, type_if}
use Rattle.code_checker.proofs.{TokenPlaces.sign_token-in, Within.Within}
use Rattle.code_checker.proofs.Steps.{Holds, bind-holds, give-holds, late-holds, look-holds, put-holds}

pub operated-holds : {size : ℕ} {later : Bool} (o : Operator) (token : ℕ) (l : Typed) (r : Typed) → token < size → Holds size later (operated o token l r)
unfolding operated
operated-holds o token l r token-in = bind-holds (look-holds (λ k. shape_of k l.of)) (λ x. bind-holds (look-holds (λ k. shape_of k r.of)) (λ y.
    bind-holds (late-holds 30 token (fits o x y) refl token-in) (λ _. bind-holds (put-holds token (operation_row (operation_of o x y) l.row r.row)) (λ _.
    give-holds (typed_value token (operation_type (operation_of o x y)))))))

pub negated-holds : {size : ℕ} {later : Bool} (word : ℕ) (v : Typed) → word < size → Holds size later (negated word v)
unfolding negated
negated-holds word v word-in = bind-holds (look-holds (λ k. shape_of k v.of)) (λ s. bind-holds (late-holds 30 word (is_operand 1 s) refl word-in) (λ _.
    bind-holds (put-holds word (Row.Expression (ExpressionRow.Not v.row))) (λ _. give-holds (typed_value word (type_if 1 s)))))

pub sign_before-holds : {size : ℕ} {later : Bool} (s : Sign) (v : Typed) → Within size (sign_leaf s) → Holds size later (sign_before s v)
unfolding sign_before
sign_before-holds s v s-in = bind-holds (look-holds (λ k. shape_of k v.of)) (λ x.
    bind-holds (late-holds 30 (sign_token s) (is_operand 0 x) refl (sign_token-in s s-in)) (λ _.
    bind-holds (put-holds (sign_token s) (Row.Expression (ExpressionRow.Sign (is_minus s) v.row))) (λ _.
    give-holds (typed_value (sign_token s) (type_if 0 x)))))

pub signed-holds : {size : ℕ} {later : Bool} (sign : Option Sign) (v : Typed) → Within size (sign_node sign) → Holds size later (signed sign v)
signed-holds None v sign-in = give-holds v
signed-holds (Some s) v sign-in = sign_before-holds s v sign-in
