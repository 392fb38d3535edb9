-- What the steps of `Rattle.kind_checker.specs.Constants` keep.
use Rattle.std.proofs.Common.{◌<◌, ℕ, Bool, None, Option, Some, false, refl}
use Rattle.grammar.specs.{Nodes.leaf, declared.terminals.Terminal.Terminal}
use Rattle.pas_tree.specs.{Blocks.constant_definition_node, Constants.constant_node, OperatorPlaces.sign_token, Operators.sign_leaf, Operators.sign_node}
use Rattle.pas_tree.specs.declared.{blocks.ConstantDefinition.ConstantDefinition, constants.Constant.Constant, operators.Sign.Sign}
use Rattle.core_program.specs.ProgramRows.{text_at}
use Rattle.check_steps.specs.{Known.spelled_at, declared.regions.Def.Def}
use Rattle.kind_checker.specs.Constants.{constant, constant_again, constant_part, define_constant, integer_in, is_constant, is_integer, named_again}
use Rattle.kind_checker.specs.Constants.{named_constant, sign_again, sign_before, signed, signed_again, signed_value, text_value, value_of, value_row}
use Rattle.kind_checker.specs.declared.constants.ConstantValue.{ConstantValue}
use Rattle.code_checker.proofs.{TokenPlaces.sign_token-in, TokenPlaces.signed-in, Within.Within}
use Rattle.code_checker.proofs.CheckNames.{define_in-holds, use_again-holds, use_at-holds}
use Rattle.code_checker.proofs.Steps.{Holds, bind-holds, early-holds, give-holds, late-holds, look-holds, put-holds}

pub sign_before-holds : {size : ℕ} (s : Sign) (v : Option ConstantValue) → Within size (sign_leaf s) → Holds size false (sign_before s v)
unfolding sign_before
sign_before-holds s v s-in = bind-holds (early-holds 4 (sign_token s) (is_integer v) refl (sign_token-in s s-in)) (λ _. give-holds (signed_value s v))

pub signed-holds : {size : ℕ} (sign : Option Sign) (v : Option ConstantValue) → Within size (sign_node sign) → Holds size false (signed sign v)
signed-holds None v sign-in = give-holds v
signed-holds (Some s) v sign-in = sign_before-holds s v sign-in

pub named_constant-holds : {size : ℕ} (frame : ℕ) (token : ℕ) → token < size → Holds size false (named_constant frame token)
unfolding named_constant
named_constant-holds frame token token-in = bind-holds (use_at-holds frame token token token-in) (λ found.
    bind-holds (late-holds 3 token (is_constant found) refl token-in) (λ _. look-holds (λ k. value_of k found)))

pub constant-holds : {size : ℕ} (frame : ℕ) (constant' : Constant) → Within size (constant_node constant') → Holds size false (constant frame constant')
constant-holds {size = size} frame (Constant.Number s n) constant-in =
    bind-holds (look-holds (λ k. integer_in (spelled_at k n))) (λ v. signed-holds s v (signed-in size s (leaf Terminal.Number n) constant-in).0)
constant-holds {size = size} frame (Constant.Name s n) constant-in =
    let parts = signed-in size s (leaf Terminal.Name n) constant-in in bind-holds (named_constant-holds frame n parts.1) (λ v. signed-holds s v parts.0)
constant-holds frame (Constant.Text n) constant-in = look-holds (λ k. Some (text_value n (text_at k.program n)))

pub sign_again-holds : {size : ℕ} {later : Bool} (s : Sign) (v : Option ConstantValue) → Within size (sign_leaf s) → Holds size later (sign_again s v)
unfolding sign_again
sign_again-holds s v s-in = bind-holds (late-holds 30 (sign_token s) (is_integer v) refl (sign_token-in s s-in)) (λ _. give-holds (signed_value s v))

pub signed_again-holds : {size : ℕ} {later : Bool} (sign : Option Sign) (v : Option ConstantValue) → Within size (sign_node sign)
    → Holds size later (signed_again sign v)
signed_again-holds None v sign-in = give-holds v
signed_again-holds (Some s) v sign-in = sign_again-holds s v sign-in

pub named_again-holds : {size : ℕ} {later : Bool} (frame : ℕ) (token : ℕ) → token < size → Holds size later (named_again frame token)
unfolding named_again
named_again-holds frame token token-in = bind-holds (use_again-holds frame token token-in) (λ found.
    bind-holds (late-holds 3 token (is_constant found) refl token-in) (λ _. look-holds (λ k. value_of k found)))

pub constant_again-holds : {size : ℕ} {later : Bool} (frame : ℕ) (constant' : Constant) → Within size (constant_node constant')
    → Holds size later (constant_again frame constant')
constant_again-holds {size = size} frame (Constant.Number s n) constant-in =
    bind-holds (look-holds (λ k. integer_in (spelled_at k n))) (λ v. signed_again-holds s v (signed-in size s (leaf Terminal.Number n) constant-in).0)
constant_again-holds {size = size} frame (Constant.Name s n) constant-in =
    let parts = signed-in size s (leaf Terminal.Name n) constant-in in bind-holds (named_again-holds frame n parts.1) (λ v. signed_again-holds s v parts.0)
constant_again-holds frame (Constant.Text n) constant-in = look-holds (λ k. Some (text_value n (text_at k.program n)))

pub define_constant-holds : {size : ℕ} (region : ℕ) (u : Unit {0}) (d : ConstantDefinition) → Within size (constant_definition_node d)
    → Holds size false (define_constant region u d)
unfolding define_constant
define_constant-holds region u d d-in = define_in-holds region (record { def = Def.Constant d.name; token = d.name; end = d.semicolon }) d-in.0

pub constant_part-holds : {size : ℕ} (frame : ℕ) (u : Unit {0}) (d : ConstantDefinition) → Within size (constant_definition_node d)
    → Holds size false (constant_part frame u d)
unfolding constant_part
constant_part-holds frame u d d-in = bind-holds (constant-holds frame d.constant d-in.1.1.0) (λ value. put-holds d.name (value_row value))
