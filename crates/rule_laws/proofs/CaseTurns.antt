-- The constants of a list in turn, and what stands between them.
use Rattle.std.proofs.Common.{◌++◌, ◌<◌, ◌∙◌, ◌∷◌, ◌≡◌, [], ℕ, List, None, Option, Some, ap, arith, false, inl, inr, length, map, nat_eq, refl, subst, sym}
use Rattle.std.proofs.Common.{true}
use Rattle.grammar.specs.Nodes.{Node, row}
use Rattle.pas_tree.specs.{ConstantTrees.ConstantsTree, DenoterPlaces.first_of_constant, TreeNodes.constants_node}
use Rattle.pas_tree.specs.Constants.{constant_node, next_constant_node}
use Rattle.pas_tree.specs.declared.{constants.Constant.Constant, constants.NextConstant.NextConstant, operators.Sign.Sign}
use Rattle.check_steps.specs.{Around.Falls, Breaks.number, Known.Known, Names.use_again, Steps.◌>>=◌, Steps.Step, Steps.each}
use Rattle.check_steps.specs.declared.breaks.{Break.Break, Broken.TheVariants.Late}
use Rattle.kind_checker.specs.Constants.{constant_again, named_again, sign_again, signed_again}
use Rattle.kind_checker.specs.declared.constants.ConstantValue.{ConstantValue}
use Rattle.denoter_checker.specs.{Variants.case_constant, Variants.choices, Variants.next_choice, declared.variants.Choosing.Choosing}
use Rattle.rule_laws.proofs.{DenoterVariants.case_constant-touches, Every.Every, Every.Of, Faces.Shown, Faces.marking, Touches.Told, Touches.Touches}
use Rattle.rule_laws.proofs.Alike.{Alike, IsUntold, alike_after, stands_still}
use Rattle.rule_laws.proofs.Breaks.{Each, In, in_either, in_right, of_each}
use Rattle.rule_laws.proofs.Choices.{Chooses, Chosen, again_known, again_value, choosing_goes, choosing_step}
use Rattle.rule_laws.proofs.InTurn.{Calm, Ends, Goes, Rule, goes_nowhere, goes_then}
use Rattle.rule_laws.proofs.Telling.{Only, ask-only, bind-only, give-only, look-only}
use Rattle.rule_laws.specs.{CaseConstants.in_next, CaseConstants.listed, CaseConstants.stands_for, CaseLaws.IsWrongChoice, CaseLaws.late_at, Tokens.Has}

-- a list of constants that is gone over from tables on, and the token that is looked at
pub record Place : Type 0 where
  pub k : Known
  pub c : Choosing
  pub t : ℕ
  pub part : Node

pub record IsPlace (p : Place) : Type 0 where
  pub falls : Falls p.k.frames
  pub there : p.c.frame < length p.k.frames
  pub untold : IsUntold p.k p.part

-- the tables where some of the constants were gone over
pub record Turn (p : Place) (done : List Constant) (j : Known) : Type 0 where
  pub alike : Alike p.k j
  pub chosen : Chosen p.k p.c done j

abbrev pub rule_of : Place → Rule
rule_of p = record {
  X = Constant;
  at = first_of_constant;
  Turn = Turn p;
  Bad = λ done x. IsWrongChoice p.k p.c.frame p.c.host done x;
  t = p.t;
  b = late_at 22 p.t;
}

-- ---- steps that go over none

-- what touches neither the list nor anything outside of the part
pub quiet_of : {Q : ℕ → Type 0} {strict : Shown} (p : Place) → IsPlace p → {A : Type 0} {m : Step A} → Touches Q strict m
    → ((n : ℕ) → Of Q n → Has p.part n)
    → (Of Q p.c.list → ⊥) → ((j : Known) → In (late_at 22 p.t) (m j).broken → ⊥) → Calm (rule_of p) m
quiet_of p is {m = m} touches inside off none = record {
  turn = λ done j turn.
      let s = touches.same j in
      record {
        alike = alike_after p.part p.k j (m j).known is.untold inside turn.alike s;
        chosen = λ typed v. s.chosen p.c.list off v ∙ turn.chosen typed v;
      };
  none = none;
}

-- tokens of the part that are neither the list's nor the one that is looked at
pub record Beyond (p : Place) (n : ℕ) : Type 0 where
  pub has : Has p.part n
  pub off_list : n ≡ p.c.list → ⊥
  pub off_t : n ≡ p.t → ⊥

pub not_told : (p : Place) (strict : Shown) (bs : List Break) → Each (Told (Beyond p) strict) bs → In (late_at 22 p.t) bs → ⊥
not_told p strict bs e i =
    let told = of_each (Told (Beyond p) strict) (late_at 22 p.t) bs e i in
    elim told.at [
      | inl o ↦ o.is.off_t refl
      | inr twenty ↦ absurd (omega (arith, twenty))
    ]

pub quiet_beyond : (p : Place) → IsPlace p → {strict : Shown} {A : Type 0} {m : Step A} → Touches (Beyond p) strict m → Calm (rule_of p) m
quiet_beyond p is {strict = strict} {m = m} touches =
    quiet_of p is touches (λ n o. o.is.has) (λ o. o.is.off_list refl) (λ j. not_told p strict (m j).broken (touches.told j))

-- ---- a constant's own rules

-- another rule than 22
abbrev pub NotChoice : Break → Type 0
NotChoice b = nat_eq (number b.broken) 22 ≡ false

pub not_choice : (t : ℕ) (bs : List Break) → Each NotChoice bs → In (late_at 22 t) bs → ⊥
not_choice t bs e i = let no : true ≡ false = of_each NotChoice (late_at 22 t) bs e i in cc

use_again-only : (frame token : ℕ) → Only NotChoice (use_again frame token)
unfolding use_again
use_again-only frame token = bind-only (look-only _) (λ found. bind-only (ask-only (Late 3) token _ refl) (λ _. give-only _))

named_again-only : (frame token : ℕ) → Only NotChoice (named_again frame token)
unfolding named_again
named_again-only frame token = bind-only (use_again-only frame token) (λ found. bind-only (ask-only (Late 3) token _ refl) (λ _. look-only _))

sign_again-only : (s : Sign) (v : Option ConstantValue) → Only NotChoice (sign_again s v)
unfolding sign_again
sign_again-only s v = bind-only (ask-only (Late 30) _ _ refl) (λ _. give-only _)

signed_again-only : (s : Option Sign) (v : Option ConstantValue) → Only NotChoice (signed_again s v)
signed_again-only None v = give-only v
signed_again-only (Some s) v = sign_again-only s v

again-only : (frame : ℕ) (x : Constant) → Only NotChoice (constant_again frame x)
again-only frame (Constant.Number s n) = bind-only (look-only _) (λ v. signed_again-only s v)
again-only frame (Constant.Name s n) = bind-only (named_again-only frame n) (λ v. signed_again-only s v)
again-only frame (Constant.Text n) = look-only _

-- ---- one constant

ends_of : (p : Place) (done : List Constant) (x : Constant) (i : Known) (bs : List Break) → Alike p.k i → Chooses p.k p.c p.t done x i bs
    → Ends (rule_of p) done (x ∷ []) i bs
ends_of p done x i bs alike g = record {
  turn = record { alike = alike; chosen = g.chosen };
  forth = λ h. inl (g.forth h);
  back = λ w. elim w [
    | inl v ↦ g.back v
    | inr n ↦ absurd n
  ];
}

-- the rest of the step, where its value and the tables are as they are
rest_goes : (p : Place) → IsPlace p → (done : List Constant) (x : Constant) (j l : Known) (v : Option ConstantValue) (chosen last slot : ℕ)
    → Alike p.k j → Chosen p.k p.c done j → l ≡ j → v ≡ stands_for l p.c.frame x
    → let s = choosing_step p.c chosen last slot (first_of_constant x) v in Chooses p.k p.c p.t done x (s l).known (s l).broken
rest_goes p is done x j l v chosen last slot alike before same value =
    let at : v ≡ stands_for p.k p.c.frame x = value ∙ ap (λ (m : Known). stands_for m p.c.frame x) same
    ∙ stands_still p.k j p.c.frame is.falls is.there alike x in
    let P : Known → Option ConstantValue → Type 0 = λ m w.
    let s = choosing_step p.c chosen last slot (first_of_constant x) w in Chooses p.k p.c p.t done x (s m).known (s m).broken in
    subst (λ m. P m v) (sym same) (subst (λ w. P j w) (sym at) (choosing_goes p.k p.c p.t done x j chosen last slot alike before))

pub one_tells : (p : Place) → IsPlace p → Has p.part p.c.list → (chosen last slot : ℕ) (x : Constant) → Of (Has p.part) slot
    → Every (Has p.part) (constant_node x) → Goes (rule_of p) (x ∷ []) (case_constant p.c chosen last slot x)
unfolding case_constant ◌>>=◌
one_tells p is list chosen last slot x slot-in x-in = record {
  of = λ done j turn.
      let b = late_at 22 p.t in
      let d = constant_again p.c.frame x j in
      let s = choosing_step p.c chosen last slot (first_of_constant x) d.value in
      let g = rest_goes p is done x j d.known d.value chosen last slot turn.alike turn.chosen (again_known p.c.frame x j)
      (again_value p.c.frame x j ∙ ap (λ (m : Known). stands_for m p.c.frame x) (sym (again_known p.c.frame x j))) in
      let t = case_constant-touches {Q = Has p.part} {strict = marking} p.c chosen last slot x (record { is = list }) slot-in x-in in
      let alike = alike_after p.part p.k j (s d.known).known is.untold (λ n o. o.is) turn.alike (t.same j) in
      let whole : Chooses p.k p.c p.t done x (s d.known).known (d.broken ++ (s d.known).broken) = record {
        chosen = g.chosen;
        forth = λ i. elim (in_either b d.broken (s d.known).broken i) [
          | inl l ↦ absurd (not_choice p.t d.broken ((again-only p.c.frame x).of j) l)
          | inr r ↦ g.forth r
        ];
        back = λ w. in_right b d.broken (s d.known).broken (g.back w);
      } in
      ends_of p done x (s d.known).known (d.broken ++ (s d.known).broken) alike whole;
}

-- ---- lists of constants

others_tell : (p : Place) → IsPlace p → Has p.part p.c.list → (chosen last : ℕ) (ns : List NextConstant)
    → Every (Has p.part) (row (map next_constant_node ns)) → Goes (rule_of p) (map in_next ns) (each (next_choice p.c chosen) last ns)
unfolding next_choice
others_tell p is list chosen last [] inside = goes_nowhere last
others_tell p is list chosen last (n ∷ ns) inside =
    goes_then (n.constant ∷ []) (map in_next ns) (one_tells p is list chosen last n.comma n.constant inside.0.0 inside.0.1)
    (λ next. others_tell p is list chosen next ns inside.1)

pub choices_tell : (p : Place) → IsPlace p → Has p.part p.c.list → (chosen last slot : ℕ) (xs : ConstantsTree) → Of (Has p.part) slot
    → Every (Has p.part) (constants_node xs) → Goes (rule_of p) (listed xs) (choices p.c chosen last slot xs)
unfolding choices
choices_tell p is list chosen last slot xs slot-in inside =
    goes_then (xs.first ∷ []) (map in_next xs.others) (one_tells p is list chosen last slot xs.first slot-in inside.0)
    (λ next. others_tell p is list chosen next xs.others inside.1)
