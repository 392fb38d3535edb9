-- What the steps of `Rattle.kind_checker.specs.Constants` touch.
use Rattle.std.proofs.Common.{ℕ, None, Option, Some, refl}
use Rattle.grammar.specs.{Nodes.leaf, declared.terminals.Terminal.Terminal}
use Rattle.pas_tree.specs.{Constants.constant_node, OperatorPlaces.sign_token, Operators.sign_leaf, Operators.sign_node}
use Rattle.pas_tree.specs.declared.{constants.Constant.Constant, operators.Sign.Sign}
use Rattle.core_program.specs.ProgramRows.{text_at}
use Rattle.check_steps.specs.Known.{spelled_at}
use Rattle.kind_checker.specs.Constants.{constant, constant_again, integer_in, is_constant, is_integer, named_again, named_constant, sign_again, sign_before}
use Rattle.kind_checker.specs.Constants.{signed, signed_again, signed_value, text_value, value_of}
use Rattle.kind_checker.specs.declared.constants.ConstantValue.{ConstantValue}
use Rattle.rule_laws.proofs.{Every.Every, Every.Of, Faces.Shown, TokenPlaces.sign_token-in, TokenPlaces.signed-in}
use Rattle.rule_laws.proofs.CheckNames.{use_again-touches, use_at-touches}
use Rattle.rule_laws.proofs.Touches.{Touches, bind-touches, early-touches, give-touches, late-touches, look-touches}

pub sign_before-touches : {Q : ℕ → Type 0} {strict : Shown} (s : Sign) (v : Option ConstantValue) → Every Q (sign_leaf s) → Touches Q strict (sign_before s v)
unfolding sign_before
sign_before-touches s v s-in = bind-touches (early-touches 4 (sign_token s) (is_integer v) refl (sign_token-in s s-in)) (λ _. give-touches (signed_value s v))

pub signed-touches : {Q : ℕ → Type 0} {strict : Shown} (sign : Option Sign) (v : Option ConstantValue) → Every Q (sign_node sign)
    → Touches Q strict (signed sign v)
signed-touches None v sign-in = give-touches v
signed-touches (Some s) v sign-in = sign_before-touches s v sign-in

pub named_constant-touches : {Q : ℕ → Type 0} {strict : Shown} (frame : ℕ) (token : ℕ) → Of Q token → Touches Q strict (named_constant frame token)
unfolding named_constant
named_constant-touches frame token token-in = bind-touches (use_at-touches frame token token token-in) (λ found.
    bind-touches (late-touches 3 token (is_constant found) refl token-in) (λ _. look-touches (λ k. value_of k found)))

pub constant-touches : {Q : ℕ → Type 0} {strict : Shown} (frame : ℕ) (constant' : Constant) → Every Q (constant_node constant')
    → Touches Q strict (constant frame constant')
constant-touches {Q = Q} frame (Constant.Number s n) constant-in =
    bind-touches (look-touches (λ k. integer_in (spelled_at k n))) (λ v. signed-touches s v (signed-in Q s (leaf Terminal.Number n) constant-in).0)
constant-touches {Q = Q} frame (Constant.Name s n) constant-in =
    let parts = signed-in Q s (leaf Terminal.Name n) constant-in in bind-touches (named_constant-touches frame n parts.1) (λ v. signed-touches s v parts.0)
constant-touches frame (Constant.Text n) constant-in = look-touches (λ k. Some (text_value n (text_at k.program n)))

pub sign_again-touches : {Q : ℕ → Type 0} {strict : Shown} (s : Sign) (v : Option ConstantValue) → Every Q (sign_leaf s) → Touches Q strict (sign_again s v)
unfolding sign_again
sign_again-touches s v s-in = bind-touches (late-touches 30 (sign_token s) (is_integer v) refl (sign_token-in s s-in)) (λ _. give-touches (signed_value s v))

pub signed_again-touches : {Q : ℕ → Type 0} {strict : Shown} (sign : Option Sign) (v : Option ConstantValue) → Every Q (sign_node sign)
    → Touches Q strict (signed_again sign v)
signed_again-touches None v sign-in = give-touches v
signed_again-touches (Some s) v sign-in = sign_again-touches s v sign-in

pub named_again-touches : {Q : ℕ → Type 0} {strict : Shown} (frame : ℕ) (token : ℕ) → Of Q token → Touches Q strict (named_again frame token)
unfolding named_again
named_again-touches frame token token-in = bind-touches (use_again-touches frame token token-in) (λ found.
    bind-touches (late-touches 3 token (is_constant found) refl token-in) (λ _. look-touches (λ k. value_of k found)))

pub constant_again-touches : {Q : ℕ → Type 0} {strict : Shown} (frame : ℕ) (constant' : Constant) → Every Q (constant_node constant')
    → Touches Q strict (constant_again frame constant')
constant_again-touches {Q = Q} frame (Constant.Number s n) constant-in =
    bind-touches (look-touches (λ k. integer_in (spelled_at k n))) (λ v. signed_again-touches s v (signed-in Q s (leaf Terminal.Number n) constant-in).0)
constant_again-touches {Q = Q} frame (Constant.Name s n) constant-in =
    let parts = signed-in Q s (leaf Terminal.Name n) constant-in in bind-touches (named_again-touches frame n parts.1) (λ v. signed_again-touches s v parts.0)
constant_again-touches frame (Constant.Text n) constant-in = look-touches (λ k. Some (text_value n (text_at k.program n)))
