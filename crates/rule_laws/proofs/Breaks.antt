-- Lists of broken rules, and what all of a list satisfy.
use Rattle.std.proofs.Common.{◌++◌, ◌∷◌, ◌≡◌, ◌⊎◌, [], Contains, List, arith, inl, inr, subst, suc, zero}
use Rattle.check_steps.specs.declared.breaks.Break.{Break}

abbrev pub Each : {X : Type 0} → (X → Type 0) → List X → Type 0
Each P [] = Unit {0}
Each P (x ∷ xs) = P x × Each P xs

abbrev pub In : Break → List Break → Type 0
In b [] = ⊥
In b (x ∷ xs) = (x ≡ b) ⊎ In b xs

pub both : {X : Type 0} (P : X → Type 0) (xs ys : List X) → Each P xs → Each P ys → Each P (xs ++ ys)
both P [] ys x y = y
both P (b ∷ xs) ys x y = (x.0, both P xs ys x.1 y)

pub in_left : (b : Break) (xs ys : List Break) → In b xs → In b (xs ++ ys)
in_left b [] ys h = absurd h
in_left b (x ∷ xs) ys (inl h) = inl h
in_left b (x ∷ xs) ys (inr h) = inr (in_left b xs ys h)

pub in_right : (b : Break) (xs ys : List Break) → In b ys → In b (xs ++ ys)
in_right b [] ys h = h
in_right b (x ∷ xs) ys h = inr (in_right b xs ys h)

pub in_either : (b : Break) (xs ys : List Break) → In b (xs ++ ys) → In b xs ⊎ In b ys
in_either b [] ys h = inr h
in_either b (x ∷ xs) ys (inl h) = inl (inl h)
in_either b (x ∷ xs) ys (inr h) = elim (in_either b xs ys h) [
  | inl l ↦ inl (inr l)
  | inr r ↦ inr r
]

pub of_each : (P : Break → Type 0) (b : Break) (xs : List Break) → Each P xs → In b xs → P b
of_each P b [] e h = absurd h
of_each P b (x ∷ xs) e (inl h) = subst P h e.0
of_each P b (x ∷ xs) e (inr h) = of_each P b xs e.1 h

-- ---- as the contracts say it

pub contained : (b : Break) (xs : List Break) → In b xs → Contains xs b
contained b [] h = absurd h
contained b (x ∷ xs) (inl h) = (0, omega arith, h)
contained b (x ∷ xs) (inr h) = let c = contained b xs h in (suc c.0, omega (arith, c.1), c.2)

pub found : (b : Break) (xs : List Break) → Contains xs b → In b xs
found b [] c = absurd (omega (arith, c.1))
found b (x ∷ xs) (zero, h, same) = inl same
found b (x ∷ xs) (suc i, h, same) = inr (found b xs (i, omega (arith, h), same))
