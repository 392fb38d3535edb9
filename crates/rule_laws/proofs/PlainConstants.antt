-- What the steps of `Rattle.kind_checker.specs.Constants` break.
use Rattle.std.proofs.Common.{ℕ, None, Option, Some, refl}
use Rattle.pas_tree.specs.OperatorPlaces.{sign_token}
use Rattle.pas_tree.specs.declared.{blocks.ConstantDefinition.ConstantDefinition, constants.Constant.Constant, operators.Sign.Sign}
use Rattle.core_program.specs.ProgramRows.{text_at}
use Rattle.check_steps.specs.Known.{spelled_at}
use Rattle.kind_checker.specs.Constants.{constant, constant_again, constant_part, integer_in, is_constant, is_integer, named_again, named_constant, sign_again}
use Rattle.kind_checker.specs.Constants.{sign_before, signed, signed_again, signed_value, text_value, value_of, value_row}
use Rattle.kind_checker.specs.declared.constants.ConstantValue.{ConstantValue}
use Rattle.rule_laws.proofs.Plain.{Aim, Plain, Solely, ask-plain, bind-solely, give-solely, look-solely, put-plain}
use Rattle.rule_laws.proofs.PlainNames.{use_again-plain, use_at-plain}

pub sign_before-plain : {aim : Aim} (kept : Plain aim) (s : Sign) (v : Option ConstantValue) → Solely aim (sign_before s v)
unfolding sign_before
sign_before-plain kept s v = bind-solely (ask-plain kept _ (sign_token s) (is_integer v) refl) (λ _. give-solely (signed_value s v))

pub signed-plain : {aim : Aim} (kept : Plain aim) (sign : Option Sign) (v : Option ConstantValue)
    → Solely aim (signed sign v)
signed-plain kept None v = give-solely v
signed-plain kept (Some s) v = sign_before-plain kept s v

pub named_constant-plain : {aim : Aim} (kept : Plain aim) (frame token : ℕ) → Solely aim (named_constant frame token)
unfolding named_constant
named_constant-plain kept frame token = bind-solely (use_at-plain kept frame token token)
    (λ found. bind-solely (ask-plain kept _ token (is_constant found) refl) (λ _. look-solely (λ k. value_of k found)))

pub constant-plain : {aim : Aim} (kept : Plain aim) (frame : ℕ) (constant' : Constant)
    → Solely aim (constant frame constant')
constant-plain kept frame (Constant.Number s n) = bind-solely (look-solely (λ k. integer_in (spelled_at k n))) (λ v. signed-plain kept s v)
constant-plain kept frame (Constant.Name s n) = bind-solely (named_constant-plain kept frame n) (λ v. signed-plain kept s v)
constant-plain kept frame (Constant.Text n) = look-solely (λ k. Some (text_value n (text_at k.program n)))

pub sign_again-plain : {aim : Aim} (kept : Plain aim) (s : Sign) (v : Option ConstantValue) → Solely aim (sign_again s v)
unfolding sign_again
sign_again-plain kept s v = bind-solely (ask-plain kept _ (sign_token s) (is_integer v) refl) (λ _. give-solely (signed_value s v))

pub signed_again-plain : {aim : Aim} (kept : Plain aim) (sign : Option Sign) (v : Option ConstantValue)
    → Solely aim (signed_again sign v)
signed_again-plain kept None v = give-solely v
signed_again-plain kept (Some s) v = sign_again-plain kept s v

pub named_again-plain : {aim : Aim} (kept : Plain aim) (frame token : ℕ) → Solely aim (named_again frame token)
unfolding named_again
named_again-plain kept frame token = bind-solely (use_again-plain kept frame token)
    (λ found. bind-solely (ask-plain kept _ token (is_constant found) refl) (λ _. look-solely (λ k. value_of k found)))

pub constant_again-plain : {aim : Aim} (kept : Plain aim) (frame : ℕ) (constant' : Constant)
    → Solely aim (constant_again frame constant')
constant_again-plain kept frame (Constant.Number s n) = bind-solely (look-solely (λ k. integer_in (spelled_at k n))) (λ v. signed_again-plain kept s v)
constant_again-plain kept frame (Constant.Name s n) = bind-solely (named_again-plain kept frame n) (λ v. signed_again-plain kept s v)
constant_again-plain kept frame (Constant.Text n) = look-solely (λ k. Some (text_value n (text_at k.program n)))

pub constant_part-plain : {aim : Aim} (kept : Plain aim) (frame : ℕ) (u : Unit {0}) (d : ConstantDefinition)
    → Solely aim (constant_part frame u d)
unfolding constant_part
constant_part-plain kept frame u d = bind-solely (constant-plain kept frame d.constant) (λ value. put-plain kept d.name (value_row value))
