-- Pairs get numbers, under which they stand in a list.
use Rattle.std.proofs.Common.{◌++◌, ◌∙◌, ◌∷◌, ◌≡◌, ◌≤◌, ◌⊎◌, [], ℕ, List, Option, Some, ap, arith, cond, eqb-true, inl, inr, length, nat_eq, refl, slice_get}
use Rattle.std.proofs.Common.{subst, suc, sym, true, zero}
use Rattle.std.{proofs.lemmas.Bool.cases_Bool, proofs.lemmas.Bool.cases_lt, proofs.lemmas.Option.slice_get_within, specs.Global.Vec, specs.Map.update}
use Rattle.core_program.proofs.WholeParts.{and_both}
use Rattle.reference_oracle.proofs.PairsMatch.{noted_longer, there_is}
use Rattle.reference_oracle.specs.{Shapes.Programs, Shapes.pairs_inside, declared.parts.TypePair.TypePair}
use Rattle.reference_oracle.specs.PairsOfTypes.{AreInside, AreNoted, AreNumbers, Extends, StandAt, same_pair}

pair_told : (q r : TypePair) → same_pair q r ≡ true → q ≡ r
pair_told q r h =
    let k = and_both (nat_eq q.subject r.subject) (nat_eq q.reference r.reference) h in (λ i. record {
      subject = eqb-true q.subject r.subject k.0 i;
      reference = eqb-true q.reference r.reference k.1 i;
    })

pub extends_one : (pairs : List TypePair) (q : TypePair) → Extends pairs (pairs ++ q ∷ [])
extends_one [] q number r there = cc
extends_one (p ∷ pairs) q zero r there = there
extends_one (p ∷ pairs) q (suc number) r there = extends_one pairs q number r there

pub stands_last : (pairs : List TypePair) (q : TypePair) → slice_get (pairs ++ q ∷ []) (length pairs) ≡ Some q
stands_last [] q = refl
stands_last (p ∷ pairs) q = stands_last pairs q

pub extends_twice : (xs ys zs : List TypePair) → Extends xs ys → Extends ys zs → Extends xs zs
extends_twice xs ys zs f g number q there = g number q (f number q there)

pub extends_long : (xs ys : List TypePair) → Extends xs ys → length xs ≤ length ys
extends_long xs ys h = elim (cases_lt (length ys) (length xs)) [
  | inl l ↦ (let x = there_is xs (length ys) l in
      absurd (let w = slice_get_within ys (length ys) x.0 (h (length ys) x.0 x.1) in omega (arith, w)))
  | inr l ↦ l
]

-- one pair more is numbered
pub numbers_one : (old new : TypePair → Option ℕ) (pairs : List TypePair) (q : TypePair) (number : ℕ) → number ≡ length pairs → AreNumbers old pairs
    → ((r : TypePair) → new r ≡ update same_pair old q (Some number) r) → AreNumbers new (pairs ++ q ∷ [])
numbers_one old new pairs q number size h e r n is = elim (cases_Bool (same_pair q r)) [
  | inl t ↦ same (sym (e r ∙ ap (λ b. cond b (Some number) (old r)) t) ∙ is) t
  | inr t ↦ extends_one pairs q n r (h r n (sym (e r ∙ ap (λ b. cond b (Some number) (old r)) t) ∙ is))
]
  where
    same : Some number ≡ Some n → same_pair q r ≡ true → slice_get (pairs ++ q ∷ []) n ≡ Some r
    same k t =
        let at : number ≡ n = cc in
        let place : length pairs ≡ n = sym size ∙ at in
        subst (λ m. slice_get (pairs ++ q ∷ []) m ≡ Some r) place (stands_last pairs q ∙ ap (λ x. Some x) (pair_told q r t))

-- no more pairs have their inner ones noted than there are
pub noted_within : (ps : Programs) (pairs : List TypePair) (noted : List (Option (Vec ℕ))) → AreNoted ps pairs noted → length noted ≤ length pairs
noted_within ps pairs noted h = elim (cases_lt (length pairs) (length noted)) [
  | inl l ↦ (let x = there_is noted (length pairs) l in
      let y = h (length pairs) x.0 x.1 in
      absurd (let w = slice_get_within pairs (length pairs) y.0 y.1 in omega (arith, w)))
  | inr l ↦ l
]

-- ---- the numbers of a list of pairs

pub stand_one : (pairs : List TypePair) (ns : List ℕ) (qs : List TypePair) (n : ℕ) (q : TypePair) → StandAt pairs ns qs → slice_get pairs n ≡ Some q
    → StandAt pairs (ns ++ n ∷ []) (qs ++ q ∷ [])
stand_one pairs [] [] n q h e = (e, tt)
stand_one pairs (m ∷ ns) (r ∷ qs) n q h e = (h.0, stand_one pairs ns qs n q h.1 e)
stand_one pairs [] (r ∷ qs) n q h e = absurd h
stand_one pairs (m ∷ ns) [] n q h e = absurd h

-- one pair more has its inner ones noted
pub noted_one : (ps : Programs) (old new : List TypePair) (noted : List (Option (Vec ℕ))) (ns : Option (Vec ℕ)) (q : TypePair) → AreNoted ps old noted
    → Extends old new → slice_get old (length noted) ≡ Some q → AreInside new ns (pairs_inside ps q) → AreNoted ps new (noted ++ ns ∷ [])
noted_one ps old new noted ns q h e there inside number o is = elim (here_or_before noted ns number o is) [
  | inl k ↦ noted_longer ps old new noted e h number o k
  | inr k ↦ (q, subst (λ n. slice_get new n ≡ Some q) (sym k.0) (e (length noted) q there), subst (λ x. AreInside new x (pairs_inside ps q)) k.1 inside)
]
  where
    here_or_before : {A : Type 0} (xs : List A) (y : A) (n : ℕ) (z : A) → slice_get (xs ++ y ∷ []) n ≡ Some z
        → (slice_get xs n ≡ Some z) ⊎ ((n ≡ length xs) × (y ≡ z))
    here_or_before [] y zero z e = inr (refl, let q : y ≡ z = cc in q)
    here_or_before [] y (suc n) z e = absurd (let q : ⊥ = cc in q)
    here_or_before (x ∷ xs) y zero z e = inl e
    here_or_before (x ∷ xs) y (suc n) z e = elim (here_or_before xs y n z e) [
      | inl k ↦ inl k
      | inr k ↦ inr (ap suc k.0, k.1)
    ]
