-- How items of the input are looked at and taken.
use Rattle.std.specs.Prelude.{◌∷◌, [], ℕ, Bool, Option, slice_get}
use Rattle.cell_value.specs.declared.entries.Touch.{Touch}
use Rattle.core_program.specs.{Actions.◌>>=◌, Actions.Action, Actions.act, State.State, declared.scan.Scanned.Scanned}
use Rattle.core_program.specs.Acts.{ActResult, TakeIf, Went, with_steps}
use Rattle.core_program.specs.Input.{any_item, first_digit, is_digit, leads_on, no_item}
use Rattle.eval_ops.specs.declared.input.Wanted.{Wanted}
use Rattle.eval_ops.specs.declared.input.Wanted.TheVariants.{Anything, Digit, Lead, Nothing}

-- whether an item is taken
abbrev pub wants : Wanted → ℕ → Bool
wants Nothing = no_item
wants Anything = any_item
wants Lead = leads_on
wants Digit = is_digit

-- the item at the place is looked at
abbrev pub looked_at : State → ActResult (Option ℕ)
looked_at σ = with_steps 1 σ (λ τ. Went (slice_get τ.items τ.place) (Touch.Look τ.place ∷ []) τ)

-- what comes after the sign of an integer
abbrev pub after_sign : (minus : Bool) → Action Scanned
after_sign minus = act (TakeIf is_digit) >>= first_digit minus
