-- What the steps of `Rattle.kind_checker.specs.Constants` leave at other tokens.
use Rattle.std.proofs.Common.{ℕ, None, Option, Some}
use Rattle.grammar.specs.{Nodes.leaf, declared.terminals.Terminal.Terminal}
use Rattle.pas_tree.specs.{Blocks.constant_definition_node, Constants.constant_node, OperatorPlaces.sign_token, Operators.sign_leaf, Operators.sign_node}
use Rattle.pas_tree.specs.declared.{blocks.ConstantDefinition.ConstantDefinition, constants.Constant.Constant, operators.Sign.Sign}
use Rattle.core_program.specs.ProgramRows.{text_at}
use Rattle.check_steps.specs.{Known.spelled_at, declared.regions.Def.Def}
use Rattle.kind_checker.specs.Constants.{constant, constant_again, constant_part, define_constant, integer_in, is_constant, is_integer, named_again}
use Rattle.kind_checker.specs.Constants.{named_constant, sign_again, sign_before, signed, signed_again, signed_value, text_value, value_of, value_row}
use Rattle.kind_checker.specs.declared.constants.ConstantValue.{ConstantValue}
use Rattle.rule_laws.proofs.{Every.Every, Every.Of, TokenPlaces.sign_token-in, TokenPlaces.signed-in}
use Rattle.rule_laws.proofs.Leaves.{Leaves, bind-leaves, early-leaves, give-leaves, late-leaves, look-leaves, put-leaves}
use Rattle.rule_laws.proofs.LeavesNames.{define_in-leaves, use_again-leaves, use_at-leaves}

pub sign_before-leaves : {Q : ℕ → Type 0} (s : Sign) (v : Option ConstantValue) → Every Q (sign_leaf s) → Leaves Q (sign_before s v)
unfolding sign_before
sign_before-leaves s v s-in = bind-leaves (early-leaves 4 (sign_token s) (is_integer v) (sign_token-in s s-in)) (λ _. give-leaves (signed_value s v))

pub signed-leaves : {Q : ℕ → Type 0} (sign : Option Sign) (v : Option ConstantValue) → Every Q (sign_node sign) → Leaves Q (signed sign v)
signed-leaves None v sign-in = give-leaves v
signed-leaves (Some s) v sign-in = sign_before-leaves s v sign-in

pub named_constant-leaves : {Q : ℕ → Type 0} (frame : ℕ) (token : ℕ) → Of Q token → Leaves Q (named_constant frame token)
unfolding named_constant
named_constant-leaves frame token token-in = bind-leaves (use_at-leaves frame token token token-in) (λ found.
    bind-leaves (late-leaves 3 token (is_constant found) token-in) (λ _. look-leaves (λ k. value_of k found)))

pub constant-leaves : {Q : ℕ → Type 0} (frame : ℕ) (constant' : Constant) → Every Q (constant_node constant') → Leaves Q (constant frame constant')
constant-leaves {Q = Q} frame (Constant.Number s n) constant-in =
    bind-leaves (look-leaves (λ k. integer_in (spelled_at k n))) (λ v. signed-leaves s v (signed-in Q s (leaf Terminal.Number n) constant-in).0)
constant-leaves {Q = Q} frame (Constant.Name s n) constant-in =
    let parts = signed-in Q s (leaf Terminal.Name n) constant-in in bind-leaves (named_constant-leaves frame n parts.1) (λ v. signed-leaves s v parts.0)
constant-leaves frame (Constant.Text n) constant-in = look-leaves (λ k. Some (text_value n (text_at k.program n)))

pub sign_again-leaves : {Q : ℕ → Type 0} (s : Sign) (v : Option ConstantValue) → Every Q (sign_leaf s) → Leaves Q (sign_again s v)
unfolding sign_again
sign_again-leaves s v s-in = bind-leaves (late-leaves 30 (sign_token s) (is_integer v) (sign_token-in s s-in)) (λ _. give-leaves (signed_value s v))

pub signed_again-leaves : {Q : ℕ → Type 0} (sign : Option Sign) (v : Option ConstantValue) → Every Q (sign_node sign)
    → Leaves Q (signed_again sign v)
signed_again-leaves None v sign-in = give-leaves v
signed_again-leaves (Some s) v sign-in = sign_again-leaves s v sign-in

pub named_again-leaves : {Q : ℕ → Type 0} (frame : ℕ) (token : ℕ) → Of Q token → Leaves Q (named_again frame token)
unfolding named_again
named_again-leaves frame token token-in = bind-leaves (use_again-leaves frame token token-in) (λ found.
    bind-leaves (late-leaves 3 token (is_constant found) token-in) (λ _. look-leaves (λ k. value_of k found)))

pub constant_again-leaves : {Q : ℕ → Type 0} (frame : ℕ) (constant' : Constant) → Every Q (constant_node constant')
    → Leaves Q (constant_again frame constant')
constant_again-leaves {Q = Q} frame (Constant.Number s n) constant-in =
    bind-leaves (look-leaves (λ k. integer_in (spelled_at k n))) (λ v. signed_again-leaves s v (signed-in Q s (leaf Terminal.Number n) constant-in).0)
constant_again-leaves {Q = Q} frame (Constant.Name s n) constant-in =
    let parts = signed-in Q s (leaf Terminal.Name n) constant-in in bind-leaves (named_again-leaves frame n parts.1) (λ v. signed_again-leaves s v parts.0)
constant_again-leaves frame (Constant.Text n) constant-in = look-leaves (λ k. Some (text_value n (text_at k.program n)))

pub define_constant-leaves : {Q : ℕ → Type 0} (region : ℕ) (u : Unit {0}) (d : ConstantDefinition) → Every Q (constant_definition_node d)
    → Leaves Q (define_constant region u d)
unfolding define_constant
define_constant-leaves region u d d-in = define_in-leaves region (record { def = Def.Constant d.name; token = d.name; end = d.semicolon }) d-in.0

pub constant_part-leaves : {Q : ℕ → Type 0} (frame : ℕ) (u : Unit {0}) (d : ConstantDefinition) → Every Q (constant_definition_node d)
    → Leaves Q (constant_part frame u d)
unfolding constant_part
constant_part-leaves frame u d d-in = bind-leaves (constant-leaves frame d.constant d-in.1.1.0) (λ value. put-leaves d.name (value_row value) d-in.0)
