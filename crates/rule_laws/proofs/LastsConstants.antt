-- What the steps of `Rattle.kind_checker.specs.Constants` leave as it was.
use Rattle.std.proofs.Common.{◌≡◌, ℕ, None, Option, Some, refl, true}
use Rattle.pas_tree.specs.{BlockTrees.RoutineTree, OperatorPlaces.sign_token}
use Rattle.pas_tree.specs.declared.{blocks.ConstantDefinition.ConstantDefinition, constants.Constant.Constant, operators.Sign.Sign}
use Rattle.core_program.specs.ProgramRows.{text_at}
use Rattle.check_steps.specs.{Known.Known, Known.spelled_at, declared.regions.Def.Def, declared.regions.Definition.Definition}
use Rattle.kind_checker.specs.Constants.{constant, constant_again, constant_part, define_constant, integer_in, is_constant, is_integer, named_again}
use Rattle.kind_checker.specs.Constants.{named_constant, sign_again, sign_before, signed, signed_again, signed_value, text_value, value_of, value_row}
use Rattle.kind_checker.specs.declared.constants.ConstantValue.{ConstantValue, TheVariants.Ordinal, TheVariants.Text}
use Rattle.rule_laws.proofs.Keeping.{Keeps, ask-keeps, bind-keeps, give-keeps, look-keeps}
use Rattle.rule_laws.proofs.Lasting.{Ends, Lasting, define_in-by, is_quiet, put-lasts}
use Rattle.rule_laws.proofs.LastsNames.{use_again-lasts, use_at-lasts}

pub sign_before-lasts : {G : RoutineTree → Type 0} {I : Known → Type 0} (kept : Lasting G I) (s : Sign) (v : Option ConstantValue) → Keeps I (sign_before s v)
unfolding sign_before
sign_before-lasts kept s v = bind-keeps (ask-keeps _ (sign_token s) (is_integer v)) (λ _. give-keeps (signed_value s v))

pub signed-lasts : {G : RoutineTree → Type 0} {I : Known → Type 0} (kept : Lasting G I) (sign : Option Sign) (v : Option ConstantValue)
    → Keeps I (signed sign v)
signed-lasts kept None v = give-keeps v
signed-lasts kept (Some s) v = sign_before-lasts kept s v

pub named_constant-lasts : {G : RoutineTree → Type 0} {I : Known → Type 0} (kept : Lasting G I) (frame token : ℕ) → Keeps I (named_constant frame token)
unfolding named_constant
named_constant-lasts kept frame token = bind-keeps (use_at-lasts kept frame token token)
    (λ found. bind-keeps (ask-keeps _ token (is_constant found)) (λ _. look-keeps (λ k. value_of k found)))

pub constant-lasts : {G : RoutineTree → Type 0} {I : Known → Type 0} (kept : Lasting G I) (frame : ℕ) (constant' : Constant)
    → Keeps I (constant frame constant')
constant-lasts kept frame (Constant.Number s n) = bind-keeps (look-keeps (λ k. integer_in (spelled_at k n))) (λ v. signed-lasts kept s v)
constant-lasts kept frame (Constant.Name s n) = bind-keeps (named_constant-lasts kept frame n) (λ v. signed-lasts kept s v)
constant-lasts kept frame (Constant.Text n) = look-keeps (λ k. Some (text_value n (text_at k.program n)))

pub sign_again-lasts : {G : RoutineTree → Type 0} {I : Known → Type 0} (kept : Lasting G I) (s : Sign) (v : Option ConstantValue) → Keeps I (sign_again s v)
unfolding sign_again
sign_again-lasts kept s v = bind-keeps (ask-keeps _ (sign_token s) (is_integer v)) (λ _. give-keeps (signed_value s v))

pub signed_again-lasts : {G : RoutineTree → Type 0} {I : Known → Type 0} (kept : Lasting G I) (sign : Option Sign) (v : Option ConstantValue)
    → Keeps I (signed_again sign v)
signed_again-lasts kept None v = give-keeps v
signed_again-lasts kept (Some s) v = sign_again-lasts kept s v

pub named_again-lasts : {G : RoutineTree → Type 0} {I : Known → Type 0} (kept : Lasting G I) (frame token : ℕ) → Keeps I (named_again frame token)
unfolding named_again
named_again-lasts kept frame token = bind-keeps (use_again-lasts kept frame token)
    (λ found. bind-keeps (ask-keeps _ token (is_constant found)) (λ _. look-keeps (λ k. value_of k found)))

pub constant_again-lasts : {G : RoutineTree → Type 0} {I : Known → Type 0} (kept : Lasting G I) (frame : ℕ) (constant' : Constant)
    → Keeps I (constant_again frame constant')
constant_again-lasts kept frame (Constant.Number s n) = bind-keeps (look-keeps (λ k. integer_in (spelled_at k n))) (λ v. signed_again-lasts kept s v)
constant_again-lasts kept frame (Constant.Name s n) = bind-keeps (named_again-lasts kept frame n) (λ v. signed_again-lasts kept s v)
constant_again-lasts kept frame (Constant.Text n) = look-keeps (λ k. Some (text_value n (text_at k.program n)))

pub define_constant-lasts : {I : Known → Type 0} (ends : Ends I) (region : ℕ) (u : Unit {0}) (d : ConstantDefinition)
    → Keeps I (define_constant region u d)
unfolding define_constant
define_constant-lasts ends region u d =
    let e : Definition = record { def = Def.Constant d.name; token = d.name; end = d.semicolon } in define_in-by region e (λ k i. ends k region e i)

value_quiet : (v : Option ConstantValue) → is_quiet (value_row v) ≡ true
value_quiet None = refl
value_quiet (Some (Ordinal of' v)) = refl
value_quiet (Some (Text token)) = refl

pub constant_part-lasts : {G : RoutineTree → Type 0} {I : Known → Type 0} (kept : Lasting G I) (frame : ℕ) (u : Unit {0}) (d : ConstantDefinition)
    → Keeps I (constant_part frame u d)
unfolding constant_part
constant_part-lasts kept frame u d = bind-keeps (constant-lasts kept frame d.constant) (λ value. put-lasts kept d.name (value_row value) (value_quiet value))
