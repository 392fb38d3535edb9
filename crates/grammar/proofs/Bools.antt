-- Tests joined, taken apart and put together.
use Rattle.std.proofs.Common.{◌≡◌, ◌⊎◌, Bool, false, inl, inr, refl, true}
use Rattle.grammar.specs.Deciding.{both, either, implies}

pub both_make : (a b : Bool) → a ≡ true → b ≡ true → both a b ≡ true
both_make true b e f = f
both_make false b e f = absurd cc

pub either_left : (a b : Bool) → a ≡ true → either a b ≡ true
either_left true b e = refl
either_left false b e = absurd cc

pub either_right : (a b : Bool) → b ≡ true → either a b ≡ true
either_right true b e = refl
either_right false b e = e

pub either_parts : (a b : Bool) → either a b ≡ true → (a ≡ true) ⊎ (b ≡ true)
either_parts true b e = inl refl
either_parts false b e = inr e

pub by_test : (b : Bool) → (b ≡ true) ⊎ (b ≡ false)
by_test true = inl refl
by_test false = inr refl

pub implied : (a b : Bool) → implies a b ≡ true → a ≡ true → b ≡ true
implied true b e f = e
implied false b e f = absurd cc
