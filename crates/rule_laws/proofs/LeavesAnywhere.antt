-- What steps that put no row leave at all tokens.
use Rattle.std.proofs.Common.{◌∷◌, [], ℕ, List, None, Option, Some}
use Rattle.pas_tree.specs.{ConstantTrees.ConstantsTree, OperatorPlaces.sign_token}
use Rattle.pas_tree.specs.declared.{constants.Constant.Constant, constants.NextConstant.NextConstant, operators.Sign.Sign}
use Rattle.core_program.specs.ProgramRows.{text_at}
use Rattle.check_steps.specs.{Known.find, Known.name_at, Known.spelled_at, Names.is_usable, Names.usable, Names.use_at, Steps.Step, Steps.each}
use Rattle.kind_checker.specs.Constants.{constant, integer_in, is_constant, is_integer, named_constant, sign_before, signed, signed_value, text_value, value_of}
use Rattle.kind_checker.specs.declared.constants.ConstantValue.{ConstantValue}
use Rattle.denoter_checker.specs.Variants.{constants_uses, next_constant}
use Rattle.rule_laws.proofs.Leaves.{Leaves, asks, bind-leaves, give-leaves, look-leaves}

pub any_each-leaves : {Q : ℕ → Type 0} {A X : Type 0} (f : A → X → Step A) → ((a : A) (x : X) → Leaves Q (f a x)) → (a : A) (xs : List X)
    → Leaves Q (each f a xs)
any_each-leaves f h a [] = give-leaves a
any_each-leaves f h a (x ∷ xs) = bind-leaves (h a x) (λ b. any_each-leaves f h b xs)

pub use_any-leaves : {Q : ℕ → Type 0} (frame at token : ℕ) → Leaves Q (use_at frame at token)
unfolding use_at
use_any-leaves frame at token = bind-leaves (look-leaves (λ k. find k frame (name_at k token))) (λ found.
    bind-leaves (asks _ token (is_usable at found)) (λ _. give-leaves (usable at found)))

named_leaves : {Q : ℕ → Type 0} (frame token : ℕ) → Leaves Q (named_constant frame token)
unfolding named_constant
named_leaves frame token = bind-leaves (use_any-leaves frame token token) (λ found.
    bind-leaves (asks _ token (is_constant found)) (λ _. look-leaves (λ k. value_of k found)))

signed_leaves : {Q : ℕ → Type 0} (s : Option Sign) (v : Option ConstantValue) → Leaves Q (signed s v)
unfolding sign_before
signed_leaves None v = give-leaves v
signed_leaves (Some s) v = bind-leaves (asks _ (sign_token s) (is_integer v)) (λ _. give-leaves (signed_value s v))

constant_leaves : {Q : ℕ → Type 0} (frame : ℕ) (c : Constant) → Leaves Q (constant frame c)
constant_leaves frame (Constant.Number s n) = bind-leaves (look-leaves (λ k. integer_in (spelled_at k n))) (λ v. signed_leaves s v)
constant_leaves frame (Constant.Name s n) = bind-leaves (named_leaves frame n) (λ v. signed_leaves s v)
constant_leaves frame (Constant.Text n) = look-leaves (λ k. Some (text_value n (text_at k.program n)))

next_leaves : {Q : ℕ → Type 0} (frame : ℕ) (u : Unit {0}) (n : NextConstant) → Leaves Q (next_constant frame u n)
unfolding next_constant
next_leaves frame u n = bind-leaves (constant_leaves frame n.constant) (λ _. give-leaves tt)

pub constants_any-leaves : {Q : ℕ → Type 0} (frame : ℕ) (c : ConstantsTree) → Leaves Q (constants_uses frame c)
unfolding constants_uses
constants_any-leaves frame c = bind-leaves (constant_leaves frame c.first)
    (λ _. any_each-leaves (next_constant frame) (λ a x. next_leaves frame a x) tt c.others)
