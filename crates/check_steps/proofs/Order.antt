-- The order by three numbers, of which the first counts most.
use Rattle.std.proofs.Common.{◌&&◌, ◌||◌, ◌≡◌, ℕ, arith, false, nat_eq, nat_lt, true}
use Rattle.std.proofs.lemmas.Bool.Decides.{nat_tests}

pub irreflexive : (g t r : ℕ) → (nat_lt g g || (nat_eq g g && (nat_lt t t || (nat_eq t t && nat_lt r r)))) ≡ false
irreflexive g t r = grind (arith, nat_tests)

pub transitive : (g t r h u s i v q : ℕ) → (nat_lt g h || (nat_eq g h && (nat_lt t u || (nat_eq t u && nat_lt r s)))) ≡ true
    → (nat_lt h i || (nat_eq h i && (nat_lt u v || (nat_eq u v && nat_lt s q)))) ≡ true
    → (nat_lt g i || (nat_eq g i && (nat_lt t v || (nat_eq t v && nat_lt r q)))) ≡ true
transitive g t r h u s i v q a b = grind (arith, nat_tests)

-- what is not before a second, which is not before a third, is not before the third
pub chain : (g t r h u s i v q : ℕ) → (nat_lt g h || (nat_eq g h && (nat_lt t u || (nat_eq t u && nat_lt r s)))) ≡ false
    → (nat_lt h i || (nat_eq h i && (nat_lt u v || (nat_eq u v && nat_lt s q)))) ≡ false
    → (nat_lt g i || (nat_eq g i && (nat_lt t v || (nat_eq t v && nat_lt r q)))) ≡ false
chain g t r h u s i v q a b = grind (arith, nat_tests)
