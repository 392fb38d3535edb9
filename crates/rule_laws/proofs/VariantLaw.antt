-- Which constants of a variant part break rule 22.
use Rattle.std.proofs.Common.{◌++◌, ◌∙◌, ◌∷◌, ◌≡◌, [], ℕ, List, None, Option, Some, inl, inr, refl, subst, sym}
use Rattle.grammar.specs.Nodes.{Leaf, Node, Nothing, Pair}
use Rattle.pas_tree.specs.{ConstantTrees.ConstantsTree, DenoterPlaces.first_of_constant, Denoters.last_semicolon_node, Denoters.tag_node}
use Rattle.pas_tree.specs.DenoterTrees.{ArmTree, ArmTrees, VariantsTree}
use Rattle.pas_tree.specs.DenoterTrees as tree
use Rattle.pas_tree.specs.TreeNodes.{arm_node, arms_node, constants_node, variants_node}
use Rattle.pas_tree.specs.declared.{constants.Constant.Constant, constants.NextConstant.NextConstant, denoters.TagField.TagField, operators.Sign.Sign}
use Rattle.core_program.specs.declared.rows.Row.{Row}
use Rattle.check_steps.specs.{Known.Known, Names.use_at, declared.breaks.Broken.TheVariants.Early, declared.breaks.Broken.TheVariants.Late}
use Rattle.check_steps.specs.Steps.{◌>>=◌, Step, change, each, give, put}
use Rattle.kind_checker.specs.{Types.named_type, Types.ordinal, declared.constants.ConstantValue.ConstantValue}
use Rattle.kind_checker.specs.Constants.{constant, named_constant, sign_before, signed}
use Rattle.denoter_checker.specs.Denoters.{arm_chosen, choosing_in, choosing_of, more_choices}
use Rattle.denoter_checker.specs.Variants.{arm_choices, choosing_at, constants_uses, hidden_tag, named_tag, next_constant, nothing_listed, tag_part, tag_type}
use Rattle.denoter_checker.specs.declared.variants.{Listed.Listed, PartPlace.PartPlace}
use Rattle.rule_laws.proofs.{Alike.alike_after, Alike.alike_self, Alike.nothing_told, Breaks.In, Breaks.in_either, Breaks.in_right, CaseLaw.as_told}
use Rattle.rule_laws.proofs.{DenoterVariants.constants_uses-touches, DenoterVariants.tag_part-touches, Every.Every, Every.Of, Faces.marking, Faces.said}
use Rattle.rule_laws.proofs.{Once.every_has, Once.every_other, TokenPlaces.tag_name-in, Touches.give-touches, Touches.put-touches}
use Rattle.rule_laws.proofs.CaseTurns.{IsPlace, NotChoice, Place, Turn, choices_tell, not_choice, quiet_of, rule_of}
use Rattle.rule_laws.proofs.InTurn.{Calm, Goes, Wrong, calm_then, goes_calm, goes_nowhere, goes_then}
use Rattle.rule_laws.proofs.Telling.{Only, ask-only, bind-only, change-only, give-only, look-only}
use Rattle.rule_laws.specs.{CaseLaws.IsLookedAt, CaseLaws.VariantsTellEqualConstants, CaseLaws.late_at, CaseLaws.list_of, Tokens.Has}
use Rattle.rule_laws.specs.CaseConstants.{arm_constants, arms_constants, listed, variant_constants}

-- ---- steps of a variant part break other rules

use_at-only : (frame at token : ℕ) → Only NotChoice (use_at frame at token)
unfolding use_at
use_at-only frame at token = bind-only (look-only _) (λ found. bind-only (ask-only (Early 1) token _ refl) (λ _. give-only _))

named_constant-only : (frame token : ℕ) → Only NotChoice (named_constant frame token)
unfolding named_constant
named_constant-only frame token = bind-only (use_at-only frame token token) (λ found. bind-only (ask-only (Late 3) token _ refl) (λ _. look-only _))

sign_before-only : (s : Sign) (v : Option ConstantValue) → Only NotChoice (sign_before s v)
unfolding sign_before
sign_before-only s v = bind-only (ask-only (Early 4) _ _ refl) (λ _. give-only _)

signed-only : (s : Option Sign) (v : Option ConstantValue) → Only NotChoice (signed s v)
signed-only None v = give-only v
signed-only (Some s) v = sign_before-only s v

constant-only : (frame : ℕ) (x : Constant) → Only NotChoice (constant frame x)
constant-only frame (Constant.Number s n) = bind-only (look-only _) (λ v. signed-only s v)
constant-only frame (Constant.Name s n) = bind-only (named_constant-only frame n) (λ v. signed-only s v)
constant-only frame (Constant.Text n) = look-only _

uses-only : (frame : ℕ) (ns : List NextConstant) → Only NotChoice (each (next_constant frame) tt ns)
unfolding next_constant
uses-only frame [] = give-only tt
uses-only frame (n ∷ ns) = bind-only (bind-only (constant-only frame n.constant) (λ _. give-only tt)) (λ _. uses-only frame ns)

constants_uses-only : (frame : ℕ) (c : ConstantsTree) → Only NotChoice (constants_uses frame c)
unfolding constants_uses
constants_uses-only frame c = bind-only (constant-only frame c.first) (λ _. uses-only frame c.others)

tag_type-only : (frame name : ℕ) → Only NotChoice (tag_type frame name)
unfolding tag_type named_type ordinal
tag_type-only frame name =
    bind-only (bind-only (use_at-only frame name name) (λ found. bind-only (ask-only (Late 3) name _ refl) (λ _. look-only _)))
    (λ t. bind-only (look-only _) (λ fine. bind-only (ask-only (Late 6) name _ refl) (λ _. give-only _)))

tag_part-only : (p : PartPlace) (f : Option TagField) (name : ℕ) → Only NotChoice (tag_part p f name)
unfolding hidden_tag named_tag
tag_part-only p None name = bind-only (tag_type-only p.frame name) (λ t. look-only _)
tag_part-only p (Some f) name = bind-only (tag_type-only p.frame name) (λ t. bind-only (change-only _) (λ _. look-only _))

-- ---- variants

-- tokens of the part but the list's
record Off (p : Place) (n : ℕ) : Type 0 where
  has : Has p.part n
  off_list : n ≡ p.c.list → ⊥

off_every : (p : Place) (x : Node) → Every (Has p.part) x → Every (λ n. n ≡ p.c.list → ⊥) x → Every (Off p) x
off_every p (Leaf item) a b = record { is = record { has = a.is; off_list = b.is } }
off_every p Nothing a b = tt
off_every p (Pair x y) a b = (off_every p x a.0 b.0, off_every p y a.1 b.1)

quiet_put : (p : Place) → IsPlace p → (n : ℕ) (r : Row) → Of (Off p) n → said r ≡ Row.Nothing → Calm (rule_of p) (put n r)
unfolding change
quiet_put p is n r here none = quiet_of p is (put-touches {Q = Off p} {strict = marking} n r here none) (λ m o. o.is.has) (λ o. o.is.off_list refl)
    (λ j i. absurd i)

quiet_uses : (p : Place) → IsPlace p → (c : ConstantsTree) → Every (Off p) (constants_node c) → Calm (rule_of p) (constants_uses p.c.frame c)
quiet_uses p is c inside = quiet_of p is (constants_uses-touches {Q = Off p} {strict = marking} p.c.frame c inside) (λ m o. o.is.has) (λ o. o.is.off_list refl)
    (λ j. not_choice p.t (constants_uses p.c.frame c j).broken ((constants_uses-only p.c.frame c).of j))

quiet_give : (p : Place) → IsPlace p → {A : Type 0} (a : A) → Calm (rule_of p) (give a)
unfolding give
quiet_give p is a = quiet_of p is (give-touches {Q = Off p} {strict = marking} a) (λ m o. o.is.has) (λ o. o.is.off_list refl) (λ j i. absurd i)

arm_tells : (p : Place) → IsPlace p → Has p.part p.c.list → (l : Listed) (slot open' : ℕ) (constants : ConstantsTree) → Of (Has p.part) slot → Of (Off p) open'
    → Every (Has p.part) (constants_node constants) → Every (Off p) (constants_node constants) → Goes (rule_of p) (listed constants)
    (arm_choices p.c l slot open' constants)
unfolding arm_choices
arm_tells p is list l slot open' constants slot-in open-in inside off =
    calm_then (listed constants) (quiet_put p is open' _ open-in refl)
    (λ _. calm_then (listed constants) (quiet_uses p is constants off)
    (λ _. goes_calm (listed constants) (choices_tell p is list open' l.last slot constants slot-in inside) (λ last. quiet_give p is _)))

chosen_tells : (p : Place) → IsPlace p → Has p.part p.c.list → (l : Listed) (slot : ℕ) (a : ArmTree) → Of (Has p.part) slot
    → Every (Has p.part) (arm_node a) → Every (Off p) (arm_node a) → Goes (rule_of p) (arm_constants a) (arm_chosen p.c l slot a)
chosen_tells p is list l slot (tree.an_arm constants colon left fields right) slot-in inside off =
    arm_tells p is list l slot left constants slot-in off.1.1.0 inside.0 off.0

arms_tell : (p : Place) → IsPlace p → Has p.part p.c.list → (l : Listed) (r : ArmTrees) (end : Node) → Every (Has p.part) (arms_node r end)
    → Every (Off p) (arms_node r end) → Goes (rule_of p) (arms_constants r) (more_choices p.c l r)
arms_tell p is list l tree.end_of_arms end inside off = goes_nowhere l
arms_tell p is list l (tree.more_arms semicolon a rest) end inside off =
    goes_then (arm_constants a) (arms_constants rest) (chosen_tells p is list l semicolon a inside.0 inside.1.0 off.1.0)
    (λ next. arms_tell p is list next rest end inside.1.1 off.1.1)

-- ---- the law

abbrev place_of : Known → PartPlace → VariantsTree → Option ℕ → ℕ → Place
place_of k q (tree.arms word tag of' first others) last t = record {
  k = k;
  c = choosing_at q (tag_part q tag.field tag.name k).value of';
  t = t;
  part = variants_node (tree.arms word tag of' first others) last;
}

looked_law : (k : Known) (q : PartPlace) (x : VariantsTree) (last : Option ℕ) (t : ℕ) → IsLookedAt k q.frame (list_of x) (variants_node x last)
    → let p = place_of k q x last t in let bs = (choosing_in q x k).broken in
    (In (late_at 22 t) bs → Wrong (rule_of p) [] (variant_constants x)) × (Wrong (rule_of p) [] (variant_constants x) → In (late_at 22 t) bs)
unfolding choosing_of ◌>>=◌
looked_law k q (tree.arms word tag of' first others) last t looked =
    let x = tree.arms word tag of' first others in
    let part = variants_node x last in
    let d = tag_part q tag.field tag.name k in
    let untold = nothing_told k part looked.free in
    let p : Place = record { k = k; c = choosing_at q d.value of'; t = t; part = part } in
    let is : IsPlace p = record { falls = looked.falls; there = looked.there; untold = untold } in
    let all = every_has part in
    let ds = looked.distinct in
    let list : Has part of' = inr (inr (inl refl)) in
    let tag_off : Every (Off p) (tag_node tag) = off_every p (tag_node tag) all.1.0 (every_other (tag_node tag) of' (λ h. ds.1.2 of' h (inl refl))) in
    let node = arm_node first in
    let first_off : Every (Off p) node = off_every p node all.1.1.1.0 (every_other node of' (λ h. ds.1.1.2 of' refl (inl h))) in
    let after = arms_node others (last_semicolon_node last) in
    let after_off : Every (Off p) after = off_every p after all.1.1.1.1 (every_other after of' (λ h. ds.1.1.2 of' refl (inr h))) in
    let touched = tag_part-touches {Q = Off p} {strict = marking} q tag.field tag.name tag.name tag_off (tag_name-in (Off p) tag.field tag.name tag_off) in
    let turn : Turn p [] d.known = record {
      alike = alike_after part k k d.known untold (λ n o. o.is.has) (alike_self k) (touched.same k);
      chosen = λ typed w. (touched.same k).chosen of' (λ o. o.is.off_list refl) w ∙ looked.fresh w;
    } in
    let steps : Step Listed = arm_chosen p.c (nothing_listed q.word) of' first >>= λ one. more_choices p.c one others in
    let tells : Goes (rule_of p) (arm_constants first ++ arms_constants others) steps = goes_then (arm_constants first) (arms_constants others)
    (chosen_tells p is list (nothing_listed q.word) of' first (record { is = list }) all.1.1.1.0 first_off)
    (λ one. arms_tell p is list one others (last_semicolon_node last) all.1.1.1.1 after_off) in
    let ends = tells.of [] d.known turn in
    let rest = steps d.known in (
      (λ i. elim (in_either (late_at 22 t) d.broken rest.broken i) [
        | inl l ↦ absurd (not_choice t d.broken ((tag_part-only q tag.field tag.name).of k) l)
        | inr r ↦ ends.forth r
      ]),
      (λ w. in_right (late_at 22 t) d.broken rest.broken (ends.back w)),
    )

pub variant_law : VariantsTellEqualConstants
variant_law k q (tree.arms word tag of' first others) last before x after looked same among =
    let t = first_of_constant x in
    let y = tree.arms word tag of' first others in
    let both = looked_law k q y last t looked in
    let p = place_of k q y last t in
    as_told p before x after (choosing_in q y k).broken refl among.others_before among.others_after
    (λ i. subst (λ (xs : List Constant). Wrong (rule_of p) [] xs) same (both.0 i))
    (λ w. both.1 (subst (λ (xs : List Constant). Wrong (rule_of p) [] xs) (sym same) w))
