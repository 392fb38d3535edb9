-- Levels are noted pair by pair, and in the end those of all pairs are known.
use Rattle.std.proofs.Common.{◌&&◌, ◌++◌, ◌+◌, ◌<◌, ◌∙◌, ◌∷◌, ◌≡◌, ◌≤◌, [], ℕ, Bool, List, None, Option, Some, ap, arith, drop, false, inl, inr, is_some}
use Rattle.std.proofs.Common.{length, nat_le, refl, slice_get, slice_set, subst, suc, sym, true, unwrap_or, zero}
use Rattle.std.proofs.lemmas.{Bool.cases_eq, Bool.cases_lt, Bool.Decides.nat_tests, List.length-set, Option.slice_get_within}
use Rattle.std.specs.{Global.Vec, List.list_all}
use Rattle.core_program.proofs.WholeParts.{and_both}
use Rattle.reference_oracle.proofs.{PairsMatch.there_is, PartsPut.set_elsewhere, PartsPut.set_here, RecordsCompared.drop_at}
use Rattle.reference_oracle.specs.{Shapes.Programs, Shapes.all_match, Shapes.pairs_inside, Shapes.same_within, declared.parts.TypePair.TypePair}
use Rattle.reference_oracle.specs.Levels.{AreLevels, AreLevelsSoFar, IsSettled, IsStuck, Leads, all_within, is_within, level_at, match_within}
use Rattle.reference_oracle.specs.PairsOfTypes.{AreInside, AreNoted, Extends, StandAt}

-- ---- numbers without a level

pub one_unknown : (levels : List (Option ℕ)) (number : ℕ) → level_at (levels ++ None ∷ []) number ≡ level_at levels number
one_unknown [] zero = refl
one_unknown [] (suc number) = refl
one_unknown (x ∷ levels) zero = refl
one_unknown (x ∷ levels) (suc number) = one_unknown levels number

-- a number with a level is within the column
pub level_within : (levels : List (Option ℕ)) (number level : ℕ) → level_at levels number ≡ Some level → number < length levels
level_within [] number level h = absurd (let q : ⊥ = cc in q)
level_within (x ∷ levels) zero level h = omega arith
level_within (x ∷ levels) (suc number) level h = let k = level_within levels number level h in omega (arith, k)

pub no_level : (o : Option ℕ) → false ≡ is_some o → o ≡ None
no_level None h = refl
no_level (Some level) h = absurd (let q : ⊥ = cc in q)

-- ---- one level more

has_level : (most : ℕ) (o : Option ℕ) → is_within most o ≡ true → (level : ℕ) × (o ≡ Some level)
has_level most None h = absurd (let q : ⊥ = cc in q)
has_level most (Some level) h = (level, refl)

-- as far as all of some pairs have levels, these say which match
module _ (ps : Programs) (pairs : List TypePair) (levels : List (Option ℕ)) (k : AreLevelsSoFar ps pairs levels) where
  all_so_far : (high : ℕ) (ns : List ℕ) (qs : List TypePair) → StandAt pairs ns qs → all_within levels high ns ≡ true
      → (most : ℕ) → list_all (same_within ps most) qs ≡ all_within levels most ns
  all_so_far high [] [] s h most = refl
  all_so_far high (n ∷ ns) (q ∷ qs) s h most =
      let both = and_both (is_within high (level_at levels n)) (all_within levels high ns) h in
      let one = has_level high (level_at levels n) both.0 in
      let here : same_within ps most q ≡ is_within most (level_at levels n) = k n q one.0 s.0 one.1 most ∙ ap (is_within most) (sym one.1) in
      λ i. here i && all_so_far high ns qs s.1 both.1 most i
  all_so_far high [] (q ∷ qs) s h most = absurd s
  all_so_far high (n ∷ ns) [] s h most = absurd s

  inside_so_far : (high : ℕ) (ns : Option (Vec ℕ)) (qs : Option (List TypePair)) → AreInside pairs ns qs → match_within levels high ns ≡ true
      → (most : ℕ) → all_match (same_within ps most) qs ≡ match_within levels most ns
  inside_so_far high None qs s h most = absurd (let q : ⊥ = cc in q)
  inside_so_far high (Some ns) (Some qs) s h most = all_so_far high ns.items qs s h most
  inside_so_far high (Some ns) None s h most = absurd s

below_itself : (n : ℕ) → nat_le n n ≡ true
below_itself n = grind (arith, nat_tests)

one_deeper : (level most : ℕ) → nat_le level most ≡ nat_le (level + 1) (suc most)
one_deeper level most = grind (arith, nat_tests)

never_at_once : (level : ℕ) → false ≡ nat_le (level + 1) 0
never_at_once level = grind (arith, nat_tests)

-- a pair gets a level
module _ (inside : List (Option (Vec ℕ))) (levels : List (Option ℕ)) (size : length levels ≡ length inside) (number : ℕ) (ns : Option (Vec ℕ))
    (here : slice_get inside number ≡ Some ns) (none : level_at levels number ≡ None) (greatest : ℕ)
    (found : (most : ℕ) → is_within most (Some greatest) ≡ match_within levels most ns) where
  abbrev pub new : List (Option ℕ)
  new = slice_set levels number (Some (greatest + 1))

  inside_column : number < length levels
  inside_column = let w = slice_get_within inside number ns here in omega (arith, w, size)

  at_number : level_at new number ≡ Some (greatest + 1)
  at_number = ap (λ (o : Option (Option ℕ)). unwrap_or o None) (set_here levels number (Some (greatest + 1)) inside_column)

  elsewhere : (n : ℕ) → (n ≡ number → ⊥) → level_at new n ≡ level_at levels n
  elsewhere n other = ap (λ (o : Option (Option ℕ)). unwrap_or o None) (set_elsewhere levels number n (Some (greatest + 1)) other)

  more : (n level : ℕ) → level_at levels n ≡ Some level → level_at new n ≡ Some level
  more n level h = elim (cases_eq n number) [
    | inl same ↦ absurd (let e : level_at levels number ≡ Some level = subst (λ m. level_at levels m ≡ Some level) same h in
        let q : ⊥ = cc in q)
    | inr other ↦ elsewhere n other ∙ h
  ]

  module _ (ps : Programs) (pairs : List TypePair) (noted : AreNoted ps pairs inside) (k : AreLevelsSoFar ps pairs levels) where
    at_depth : (q : TypePair) → slice_get pairs number ≡ Some q → (most : ℕ) → same_within ps most q ≡ nat_le (greatest + 1) most
    at_depth q there zero = never_at_once greatest
    at_depth q there (suc most) =
        let o = noted number ns here in
        let same : Some o.0 ≡ Some q = sym o.1 ∙ there in
        let one : o.0 ≡ q = cc in
        let high : match_within levels greatest ns ≡ true = sym (found greatest) ∙ below_itself greatest in
        ap (same_within ps (suc most)) (sym one)
        ∙ inside_so_far ps pairs levels k greatest ns (pairs_inside ps o.0) o.2 high most
        ∙ sym (found most) ∙ one_deeper greatest most

    so_far : AreLevelsSoFar ps pairs new
    so_far n q level there is most = elim (cases_eq n number) [
      | inl same ↦ (let at : level_at new number ≡ Some level = subst (λ m. level_at new m ≡ Some level) same is in
          let both : Some (greatest + 1) ≡ Some level = sym at_number ∙ at in
          let one : greatest + 1 ≡ level = cc in
          at_depth q (subst (λ m. slice_get pairs m ≡ Some q) same there) most ∙ ap (λ d. nat_le d most) one)
      | inr other ↦ k n q level there (sym (elsewhere n other) ∙ is) most
    ]

  pub one_level : Leads inside levels new
  one_level = record {
    size = let e : length new ≡ length levels = length-set levels number (Some (greatest + 1)) in e;
    more = more;
    levels = so_far;
  }

-- ---- steps, one after another

pub no_step : (inside : List (Option (Vec ℕ))) (levels : List (Option ℕ)) → Leads inside levels levels
no_step inside levels = record {
  size = refl;
  more = λ n level h. h;
  levels = λ ps pairs noted k. k;
}

pub two_steps : (inside : List (Option (Vec ℕ))) (a b c : List (Option ℕ)) → Leads inside a b → Leads inside b c → Leads inside a c
two_steps inside a b c f g = record {
  size = g.size ∙ f.size;
  more = λ n level h. g.more n level (f.more n level h);
  levels = λ ps pairs noted k. g.levels ps pairs noted (f.levels ps pairs noted k);
}

-- ---- all levels are known

module _ (ps : Programs) (old new : List TypePair) (inside : List (Option (Vec ℕ))) (before levels : List (Option ℕ)) (start : ℕ)
    (noted : AreNoted ps new inside) (all : length inside ≡ length new) (longer : Extends old new) (known : AreLevels ps old before)
    (begun : start ≡ length old) (to : Leads inside before levels) (settled : IsSettled inside start levels)
    (short : (number level : ℕ) → level_at before number ≡ Some level → number < start) where
  before_so_far : AreLevelsSoFar ps new before
  before_so_far n q level there is most =
      let less : n < length old = let s = short n level is in omega (arith, s, begun) in
      let o = there_is old n less in
      let same : Some o.0 ≡ Some q = sym (longer n o.0 o.1) ∙ there in
      let one : o.0 ≡ q = cc in
      ap (same_within ps most) (sym one) ∙ known n o.0 o.1 most ∙ ap (is_within most) is

  so_far_now : AreLevelsSoFar ps new levels
  so_far_now = to.levels ps new noted before_so_far

  stays_unknown : (n : ℕ) → level_at levels n ≡ None → level_at before n ≡ None
  stays_unknown n none = by (level_at before n) refl
    where
      by : (o : Option ℕ) → level_at before n ≡ o → level_at before n ≡ None
      by None e = e
      by (Some level) e = absurd (let f = to.more n level e in let q : ⊥ = cc in q)

  abbrev Known : (most : ℕ) → Type 0
  Known most = (n : ℕ) (q : TypePair) → slice_get new n ≡ Some q → same_within ps most q ≡ is_within most (level_at levels n)

  list_known : (most : ℕ) → Known most → (ns : List ℕ) (qs : List TypePair) → StandAt new ns qs
      → list_all (same_within ps most) qs ≡ all_within levels most ns
  list_known most h [] [] s = refl
  list_known most h (n ∷ ns) (q ∷ qs) s = λ i. h n q s.0 i && list_known most h ns qs s.1 i
  list_known most h [] (q ∷ qs) s = absurd s
  list_known most h (n ∷ ns) [] s = absurd s

  inside_known : (most : ℕ) → Known most → (ns : Option (Vec ℕ)) (qs : Option (List TypePair)) → AreInside new ns qs
      → all_match (same_within ps most) qs ≡ match_within levels most ns
  inside_known most h None None s = refl
  inside_known most h (Some ns) (Some qs) s = list_known most h ns.items qs s
  inside_known most h None (Some qs) s = absurd s
  inside_known most h (Some ns) None s = absurd s

  unmatched : (most : ℕ) → Known most → (n : ℕ) (q : TypePair) → slice_get new n ≡ Some q → level_at levels n ≡ None → start ≤ n
      → same_within ps (suc most) q ≡ false
  unmatched most h n q there none late =
      let within = slice_get_within new n q there in
      let x = there_is inside n (omega (arith, within, all)) in
      let o = noted n x.0 x.1 in
      let same : Some o.0 ≡ Some q = sym o.1 ∙ there in
      let one : o.0 ≡ q = cc in
      ap (same_within ps (suc most)) (sym one) ∙ inside_known most h x.0 (pairs_inside ps o.0) o.2
      ∙ settled n late x.0 x.1 none most

  unmatched_before : (most n : ℕ) (q : TypePair) → slice_get new n ≡ Some q → level_at levels n ≡ None → n < start
      → same_within ps most q ≡ false
  unmatched_before most n q there none less =
      let o = there_is old n (omega (arith, less, begun)) in
      let same : Some o.0 ≡ Some q = sym (longer n o.0 o.1) ∙ there in
      let one : o.0 ≡ q = cc in
      ap (same_within ps most) (sym one) ∙ known n o.0 o.1 most ∙ ap (is_within most) (stays_unknown n none)

  known_by : (most n : ℕ) (q : TypePair) → slice_get new n ≡ Some q → (level_at levels n ≡ None → same_within ps most q ≡ false)
      → same_within ps most q ≡ is_within most (level_at levels n)
  known_by most n q there else' = by (level_at levels n) refl
    where
      by : (o : Option ℕ) → level_at levels n ≡ o → same_within ps most q ≡ is_within most (level_at levels n)
      by None e = else' e ∙ ap (is_within most) (sym e)
      by (Some level) e = so_far_now n q level there e most ∙ ap (is_within most) (sym e)

  known_at : (most : ℕ) → Known most
  known_at zero n q there = known_by zero n q there (λ none. refl)
  known_at (suc most) n q there = known_by (suc most) n q there (λ none. elim (cases_lt n start) [
    | inl less ↦ unmatched_before (suc most) n q there none less
    | inr late ↦ unmatched most (known_at most) n q there none late
  ])

  pub all_levels : AreLevels ps new levels
  all_levels n q there most = known_at most n q there
