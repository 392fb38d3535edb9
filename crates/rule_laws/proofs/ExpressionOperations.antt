-- What the steps of `Rattle.expression_checker.specs.Operations` touch.
use Rattle.std.proofs.Common.{ℕ, None, Option, Some, refl}
use Rattle.pas_tree.specs.{OperatorPlaces.sign_token, Operators.sign_leaf, Operators.sign_node, declared.operators.Sign.Sign}
use Rattle.core_program.specs.declared.rows.{ExpressionRow.ExpressionRow, Row.Row}
use Rattle.kind_checker.specs.{Shapes.shape_of, declared.operators.Operator.Operator}
use Rattle.kind_checker.specs.Operators.{fits, is_operand, operation_of, operation_row, operation_type}
use Rattle.expression_checker.specs.{Typed.typed_value, declared.typed.Typed.Typed}
use Rattle.expression_checker.specs.Operations.{is_minus, negated, operated, sign_before, signed, type_if}
use Rattle.rule_laws.proofs.{Every.Every, Every.Of, Faces.Shown, RowsPut.operation_none, TokenPlaces.sign_token-in}
use Rattle.rule_laws.proofs.Touches.{Touches, bind-touches, give-touches, late-touches, look-touches, put-touches}

pub operated-touches : {Q : ℕ → Type 0} {strict : Shown} (o : Operator) (token : ℕ) (l : Typed) (r : Typed) → Of Q token
    → Touches Q strict (operated o token l r)
unfolding operated
operated-touches o token l r token-in = bind-touches (look-touches (λ k. shape_of k l.of)) (λ x. bind-touches (look-touches (λ k. shape_of k r.of)) (λ y.
    bind-touches (late-touches 30 token (fits o x y) refl token-in)
    (λ _. bind-touches (put-touches token (operation_row (operation_of o x y) l.row r.row) token-in (operation_none (operation_of o x y) l.row r.row)) (λ _.
    give-touches (typed_value token (operation_type (operation_of o x y)))))))

pub negated-touches : {Q : ℕ → Type 0} {strict : Shown} (word : ℕ) (v : Typed) → Of Q word → Touches Q strict (negated word v)
unfolding negated
negated-touches word v word-in = bind-touches (look-touches (λ k. shape_of k v.of))
    (λ s. bind-touches (late-touches 30 word (is_operand 1 s) refl word-in) (λ _.
    bind-touches (put-touches word (Row.Expression (ExpressionRow.Not v.row)) word-in refl) (λ _. give-touches (typed_value word (type_if 1 s)))))

pub sign_before-touches : {Q : ℕ → Type 0} {strict : Shown} (s : Sign) (v : Typed) → Every Q (sign_leaf s) → Touches Q strict (sign_before s v)
unfolding sign_before
sign_before-touches s v s-in = bind-touches (look-touches (λ k. shape_of k v.of)) (λ x.
    bind-touches (late-touches 30 (sign_token s) (is_operand 0 x) refl (sign_token-in s s-in)) (λ _.
    bind-touches (put-touches (sign_token s) (Row.Expression (ExpressionRow.Sign (is_minus s) v.row)) (sign_token-in s s-in) refl) (λ _.
    give-touches (typed_value (sign_token s) (type_if 0 x)))))

pub signed-touches : {Q : ℕ → Type 0} {strict : Shown} (sign : Option Sign) (v : Typed) → Every Q (sign_node sign) → Touches Q strict (signed sign v)
signed-touches None v sign-in = give-touches v
signed-touches (Some s) v sign-in = sign_before-touches s v sign-in
