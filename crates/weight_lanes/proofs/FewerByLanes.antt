-- Lanes that wrap leave fewer than a bound just where the numbers do that they stand for.
use Rattle.std.proofs.Common.{◌%◌, ◌+◌, ◌-◌, ◌<◌, ◌≡◌, ◌≢◌, ◌≤◌, ℕ, Bool, arith, cond, eq-eqb, eqb, false, ltb, max, refl, true}
use Rattle.std.proofs.lemmas.Bool.{eqb-true, lt-ltb, ltb-true}

-- the number of a lane
abbrev pub wrapped : ℕ → ℕ → ℕ
wrapped total weight = max ((weight + 4294967295) % 4294967296) ((total + (4294967296 - weight)) % 4294967296)

-- and of one whose flag is not set the largest number
abbrev pub flagged : ℕ → ℕ → ℕ
flagged flag number = cond (eqb flag 0) 4294967295 number

fewer_wrapped : (total weight bound : ℕ) → total < 4294967296 → weight < 4294967296 → bound ≤ total
    → max (weight - 1) (total - weight) < bound → wrapped total weight < bound
fewer_wrapped total weight bound t w le h = omega arith

fewer_bare : (total weight bound : ℕ) → total < 4294967296 → weight < 4294967296 → bound ≤ total → wrapped total weight < bound
    → max (weight - 1) (total - weight) < bound
fewer_bare total weight bound t w le h = omega arith

counted : (flag number bound : ℕ) (none : Bool) → eqb flag 0 ≡ none → flag ≢ 0 → number < bound → ltb (cond none 4294967295 number) bound ≡ true
counted flag number bound true e set less = absurd (set (eqb-true flag 0 e))
counted flag number bound false e set less = lt-ltb number bound less

told : (flag number bound : ℕ) (none : Bool) → eqb flag 0 ≡ none → bound < 4294967296 → ltb (cond none 4294967295 number) bound ≡ true
    → (flag ≢ 0) × (number < bound)
told flag number bound true e fits h = absurd (let l = ltb-true 4294967295 bound h in let k : ⊥ = omega arith in k)
told flag number bound false e fits h = (λ zero. let t : eqb flag 0 ≡ true = eq-eqb flag 0 zero in cc, ltb-true number bound h)

-- a number that leaves fewer passes the test of its lane
pub passes : (flag total weight bound : ℕ) → total < 4294967296 → weight < 4294967296 → bound ≤ total → flag ≢ 0
    → max (weight - 1) (total - weight) < bound → ltb (flagged flag (wrapped total weight)) bound ≡ true
passes flag total weight bound t w le set less =
    counted flag (wrapped total weight) bound (eqb flag 0) refl set (fewer_wrapped total weight bound t w le less)

-- and what passes leaves fewer
pub tells : (flag total weight bound : ℕ) → total < 4294967296 → weight < 4294967296 → bound ≤ total
    → ltb (flagged flag (wrapped total weight)) bound ≡ true → (flag ≢ 0) × (max (weight - 1) (total - weight) < bound)
tells flag total weight bound t w le h =
    let both = told flag (wrapped total weight) bound (eqb flag 0) refl (omega arith) h in
    (both.0, fewer_bare total weight bound t w le both.1)
