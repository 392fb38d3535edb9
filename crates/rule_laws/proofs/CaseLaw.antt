-- Which constants of a case statement break rule 22.
use Rattle.std.proofs.Common.{◌++◌, ◌<◌, ◌↔◌, ◌∙◌, ◌∷◌, ◌≡◌, ◌⊎◌, [], ℕ, All, Contains, List, Option, ap, inl, inr, length, map, refl, subst, sym}
use Rattle.grammar.specs.Nodes.{Leaf, Node, Nothing, Pair, leaf, row}
use Rattle.grammar.specs.declared.terminals.Terminal.TheVariants as terminal
use Rattle.pas_tree.specs.{ConstantTrees.ConstantsTree, Constants.constant_node, Constants.next_constant_node, DenoterPlaces.first_of_constant}
use Rattle.pas_tree.specs.{Denoters.last_semicolon_node, ExpressionTrees.ExpressionTree, StatementTrees.BranchTrees, StatementTrees.CaseTree}
use Rattle.pas_tree.specs.{StatementTrees.StatementTree, declared.constants.Constant.Constant, declared.constants.NextConstant.NextConstant}
use Rattle.pas_tree.specs.StatementTrees as tree
use Rattle.pas_tree.specs.TreeNodes.{branches_node, case_node, constants_node, expression_node, statement_node}
use Rattle.check_steps.specs.{Known.Known, Known.is_chosen, declared.breaks.Break.Break}
use Rattle.check_steps.specs.Steps.{◌>>=◌, Step, ask, give, look}
use Rattle.denoter_checker.specs.declared.variants.Choosing.{Choosing}
use Rattle.statement_checker.specs.{Choices.case_row, Choices.selector, Parts.selected}
use Rattle.statement_checker.specs.Statements.{branch_step, case_statement, chosen_by, more_branches, statement_step}
use Rattle.rule_laws.proofs.{Every.Every, Every.Of, Faces.loose, Once.every_has, Once.every_other, StatementChoices.case_row-touches}
use Rattle.rule_laws.proofs.{StatementParts.selected-touches, StatementStatements.statement_step-touches, TokenPlaces.first_of_constant-in}
use Rattle.rule_laws.proofs.Alike.{alike_after, alike_self, nothing_told}
use Rattle.rule_laws.proofs.Breaks.{In, contained, found, in_either, in_right}
use Rattle.rule_laws.proofs.CaseTurns.{Beyond, IsPlace, Place, Turn, choices_tell, not_told, quiet_beyond, rule_of}
use Rattle.rule_laws.proofs.InTurn.{Goes, Wrong, calm_then, goes_calm, goes_nowhere, goes_then, one_wrong, wrong_one}
use Rattle.rule_laws.specs.CaseConstants.{branches_constants, case_constants, in_next, listed}
use Rattle.rule_laws.specs.CaseLaws.{CasesTellEqualConstants, IsLookedAt, IsWrongChoice, late_at, of_word, selector_host}
use Rattle.rule_laws.specs.Tokens.{Has, IsDistinct}

-- ---- where the constants of a list begin

-- one of these begins at a token
abbrev pub Begins : ℕ → List Constant → Type 0
Begins t [] = ⊥
Begins t (x ∷ xs) = (first_of_constant x ≡ t) ⊎ Begins t xs

pub begins_at : (before : List Constant) (x : Constant) (after : List Constant) → Begins (first_of_constant x) (before ++ x ∷ after)
begins_at [] x after = inl refl
begins_at (y ∷ ys) x after = inr (begins_at ys x after)

pub begins_either : (t : ℕ) (xs ys : List Constant) → Begins t (xs ++ ys) → Begins t xs ⊎ Begins t ys
begins_either t [] ys b = inr b
begins_either t (x ∷ xs) ys (inl e) = inl (inl e)
begins_either t (x ∷ xs) ys (inr b) = elim (begins_either t xs ys b) [
  | inl l ↦ inl (inr l)
  | inr r ↦ inr r
]

first_stands : (x : Constant) (t : ℕ) → first_of_constant x ≡ t → Has (constant_node x) t
first_stands x t e = subst (λ n. Has (constant_node x) n) e (first_of_constant-in x (every_has (constant_node x))).is

next_stand : (ns : List NextConstant) (t : ℕ) → Begins t (map in_next ns) → Has (row (map next_constant_node ns)) t
next_stand [] t b = absurd b
next_stand (n ∷ ns) t (inl e) = inl (inr (first_stands n.constant t e))
next_stand (n ∷ ns) t (inr b) = inr (next_stand ns t b)

pub listed_stand : (c : ConstantsTree) (t : ℕ) → Begins t (listed c) → Has (constants_node c) t
listed_stand c t (inl e) = inl (first_stands c.first t e)
listed_stand c t (inr b) = inr (next_stand c.others t b)

-- ---- one of the constants

-- as the contracts say it
pub as_told : (p : Place) (before : List Constant) (x : Constant) (after : List Constant) (bs : List Break) → first_of_constant x ≡ p.t
    → All (λ y. first_of_constant y ≡ p.t → ⊥) before → All (λ y. first_of_constant y ≡ p.t → ⊥) after
    → (In (late_at 22 p.t) bs → Wrong (rule_of p) [] (before ++ x ∷ after)) → (Wrong (rule_of p) [] (before ++ x ∷ after) → In (late_at 22 p.t) bs)
    → Contains bs (late_at 22 p.t) ↔ IsWrongChoice p.k p.c.frame p.c.host before x
as_told p before x after bs e b a forth back = (
  λ c. wrong_one (rule_of p) [] before x after b a (forth (found (late_at 22 p.t) bs c)),
  λ w. contained (late_at 22 p.t) bs (back (one_wrong (rule_of p) [] before x after e w)),
)

-- ---- branches

pub beyond : (p : Place) (x : Node) → Every (Has p.part) x → Every (λ n. n ≡ p.c.list → ⊥) x → Every (λ n. n ≡ p.t → ⊥) x → Every (Beyond p) x
beyond p (Leaf item) a b c = record { is = record { has = a.is; off_list = b.is; off_t = c.is } }
beyond p Nothing a b c = tt
beyond p (Pair x y) a b c = (beyond p x a.0 b.0 c.0, beyond p y a.1 b.1 c.1)

-- the statements of the branches have such tokens alone
abbrev Clear : (ℕ → Type 0) → BranchTrees → Type 0
Clear Q tree.end_of_branches = Unit {0}
Clear Q (tree.more_branches semicolon (tree.a_branch constants colon s) rest) = Every Q (statement_node s) × Clear Q rest

clear_all : (Q : ℕ → Type 0) (r : BranchTrees) (end : Node) → Every Q (branches_node r end) → Clear Q r
clear_all Q tree.end_of_branches end h = tt
clear_all Q (tree.more_branches semicolon (tree.a_branch constants colon s) rest) end h = (h.1.0.1.1, clear_all Q rest end h.1.1)

clear_beyond : (p : Place) (r : BranchTrees) → Clear (Has p.part) r → Clear (λ n. n ≡ p.c.list → ⊥) r → Clear (λ n. n ≡ p.t → ⊥) r
    → Clear (Beyond p) r
clear_beyond p tree.end_of_branches a b c = tt
clear_beyond p (tree.more_branches semicolon (tree.a_branch constants colon s) rest) a b c =
    (beyond p (statement_node s) a.0 b.0 c.0, clear_beyond p rest a.1 b.1 c.1)

branches_stand : (r : BranchTrees) (end : Node) (t : ℕ) → Begins t (branches_constants r) → Has (branches_node r end) t
branches_stand tree.end_of_branches end t b = absurd b
branches_stand (tree.more_branches semicolon (tree.a_branch constants colon s) rest) end t b =
    elim (begins_either t (listed constants) (branches_constants rest) b) [
      | inl l ↦ inr (inl (inl (listed_stand constants t l)))
      | inr r ↦ inr (inr (branches_stand rest end t r))
    ]

-- A constant's first token stands in none of the statements.
clear_of : (r : BranchTrees) (end : Node) (t : ℕ) → IsDistinct (branches_node r end) → Begins t (branches_constants r)
    → Clear (λ n. n ≡ t → ⊥) r
clear_of tree.end_of_branches end t d b = tt
clear_of (tree.more_branches semicolon (tree.a_branch constants colon s) rest) end t d b =
    elim (begins_either t (listed constants) (branches_constants rest) b) [
      | inl l ↦
          let here = listed_stand constants t l in
          let off = d.1.0.2 t here in (
            every_other (statement_node s) t (λ h. off (inr h)),
            clear_all (λ n. n ≡ t → ⊥) rest end (every_other (branches_node rest end) t (d.1.2 t (inl here))),
          )
      | inr r ↦
          let there = branches_stand rest end t r in
          (every_other (statement_node s) t (λ h. d.1.2 t (inr (inr h)) there), clear_of rest end t d.1.1 r)
    ]

branch_tells : (p : Place) → IsPlace p → Has p.part p.c.list → (last slot : ℕ) (constants : ConstantsTree) (s : StatementTree) → Of (Has p.part) slot
    → Every (Has p.part) (constants_node constants) → Every (Beyond p) (statement_node s)
    → Goes (rule_of p) (listed constants) (chosen_by p.c last slot constants (statement_step p.c.frame s))
branch_tells p is list last slot constants s slot-in inside clear =
    calm_then (listed constants) (quiet_beyond p is (statement_step-touches p.c.frame s clear))
    (λ n. choices_tell p is list n last slot constants slot-in inside)

more_tell : (p : Place) → IsPlace p → Has p.part p.c.list → (last : ℕ) (r : BranchTrees) (end : Node)
    → Every (Has p.part) (branches_node r end) → Clear (Beyond p) r → Goes (rule_of p) (branches_constants r) (more_branches p.c.frame p.c last r)
more_tell p is list last tree.end_of_branches end inside clear = goes_nowhere last
more_tell p is list last (tree.more_branches semicolon (tree.a_branch constants colon s) rest) end inside clear =
    goes_then (listed constants) (branches_constants rest) (branch_tells p is list last semicolon constants s inside.0 inside.1.0.0 clear.0)
    (λ next. more_tell p is list next rest end inside.1.1 clear.1)

-- ---- the law

selected_frame : (frame of' : ℕ) (e : ExpressionTree) (k : Known) → (selected frame of' e k).value.choosing.frame ≡ frame
unfolding selected selector look give ◌>>=◌ ask
selected_frame frame of' e k = refl

selected_list : (frame of' : ℕ) (e : ExpressionTree) (k : Known) → (selected frame of' e k).value.choosing.list ≡ of'
unfolding selected selector look give ◌>>=◌ ask
selected_list frame of' e k = refl

abbrev selected_by : Known → ℕ → CaseTree → Choosing
selected_by k frame (tree.case_statement word selector' of' first others semicolon end) = (selected frame of' selector' k).value.choosing

chosen_frame : (k : Known) (frame : ℕ) (c : CaseTree) → (selected_by k frame c).frame ≡ frame
chosen_frame k frame (tree.case_statement word selector' of' first others semicolon end) = selected_frame frame of' selector' k

chosen_host : (k : Known) (frame : ℕ) (c : CaseTree) → (selected_by k frame c).host ≡ selector_host k frame c
chosen_host k frame (tree.case_statement word selector' of' first others semicolon end) = refl

abbrev place_of : Known → ℕ → CaseTree → ℕ → Place
place_of k frame c t = record { k = k; c = selected_by k frame c; t = t; part = case_node c }

-- the statement after its selector, with the other words of the tree
rest_tells : (p : Place) → IsPlace p → Has p.part p.c.list → (label : Option ℕ) (word row' of' : ℕ) (constants : ConstantsTree) (colon : ℕ)
    (s : StatementTree) (others : BranchTrees) (end : Node) → Of (Beyond p) word → Of (Has p.part) of' → Every (Has p.part) (constants_node constants)
    → Every (Beyond p) (statement_node s) → Every (Has p.part) (branches_node others end) → Clear (Beyond p) others
    → Goes (rule_of p) (listed constants ++ branches_constants others) (branch_step p.c.frame p.c of' of' (tree.a_branch constants colon s) >>= λ last.
    more_branches p.c.frame p.c last others >>= λ _. case_row label word row' of')
rest_tells p is list label word row' of' constants colon s others end word-in of-in constants-in s-in others-in clear =
    goes_then (listed constants) (branches_constants others) (branch_tells p is list of' of' constants s of-in constants-in s-in)
    (λ last. goes_calm (branches_constants others) (more_tell p is list last others end others-in clear)
    (λ _. quiet_beyond p is (case_row-touches {strict = loose} label word row' of' word-in)))

looked_law : (k : Known) (frame : ℕ) (label : Option ℕ) (c : CaseTree) (t : ℕ) → IsLookedAt k frame (of_word c) (case_node c) → Begins t (case_constants c)
    → let p = place_of k frame c t in let bs = (case_statement frame label c k).broken in
    (In (late_at 22 t) bs → Wrong (rule_of p) [] (case_constants c)) × (Wrong (rule_of p) [] (case_constants c) → In (late_at 22 t) bs)
unfolding ◌>>=◌
looked_law k frame label (tree.case_statement word selector' of' (tree.a_branch constants colon s) others semicolon end) t looked begins =
    let c = tree.case_statement word selector' of' (tree.a_branch constants colon s) others semicolon end in
    let part = case_node c in
    let d = selected frame of' selector' k in
    let untold = nothing_told k part looked.free in
    let p : Place = record { k = k; c = d.value.choosing; t = t; part = part } in
    let e : p.c.frame ≡ frame = selected_frame frame of' selector' k in
    let f : p.c.list ≡ of' = selected_list frame of' selector' k in
    let is : IsPlace p = record { falls = looked.falls; there = subst (λ n. n < length k.frames) (sym e) looked.there; untold = untold } in
    let all = every_has part in
    let ds = looked.distinct in
    let last_node = last_semicolon_node semicolon in
    let after = Pair (branches_node others last_node) (leaf terminal.WEnd end) in
    let first = Pair (constants_node constants) (Pair (leaf terminal.Colon colon) (statement_node s)) in
    let at = begins_either t (listed constants) (branches_constants others) begins in
    let stands : Has (Pair first after) t = elim at [
      | inl l ↦ inl (inl (listed_stand constants t l))
      | inr r ↦ inr (inl (branches_stand others last_node t r))
    ] in
    let no_statement : Has (statement_node s) t → ⊥ = λ h. elim at [
      | inl l ↦ ds.1.1.1.0.2 t (listed_stand constants t l) (inr h)
      | inr r ↦ ds.1.1.1.2 t (inr (inr h)) (inl (branches_stand others last_node t r))
    ] in
    let clear_t : Clear (λ n. n ≡ t → ⊥) others = elim at [
      | inl l ↦ clear_all (λ n. n ≡ t → ⊥) others last_node (every_other (branches_node others last_node) t
          (λ h. ds.1.1.1.2 t (inl (listed_stand constants t l)) (inl h)))
      | inr r ↦ clear_of others last_node t ds.1.1.1.1.0 r
    ] in
    let off : (y : Node) → (Has y of' → ⊥) → Every (λ n. n ≡ p.c.list → ⊥) y =
    λ y apart. subst (λ l. Every (λ n. n ≡ l → ⊥) y) (sym f) (every_other y of' apart) in
    let clear : Clear (Beyond p) others = clear_beyond p others (clear_all (Has p.part) others last_node all.1.1.1.1.0)
    (clear_all (λ n. n ≡ p.c.list → ⊥) others last_node (off (branches_node others last_node) (λ h. ds.1.1.2 of' refl (inr (inl h)))))
    clear_t in
    let touched = selected-touches {Q = Beyond p} {strict = loose} frame of' selector' (beyond p (expression_node selector') all.1.0
    (off (expression_node selector') (λ h. ds.1.2 of' h (inl refl)))
    (every_other (expression_node selector') t (λ h. ds.1.2 t h (inr stands)))) in
    let turn : Turn p [] d.known = record {
      alike = alike_after part k k d.known untold (λ n o. o.is.has) (alike_self k) (touched.same k);
      chosen = λ typed v. (touched.same k).chosen p.c.list (λ o. o.is.off_list refl) v ∙ ap (λ l. is_chosen k l v) f ∙ looked.fresh v;
    } in
    let steps : ℕ → Step ℕ = λ g. branch_step g p.c of' of' (tree.a_branch constants colon s) >>= λ last.
    more_branches g p.c last others >>= λ _. case_row label word d.value.row of' in
    let tells : Goes (rule_of p) (listed constants ++ branches_constants others) (steps frame) =
    subst (λ g. Goes (rule_of p) (listed constants ++ branches_constants others) (steps g)) e
    (rest_tells p is (subst (λ l. Has part l) (sym f) (inr (inr (inl refl)))) label word d.value.row of' constants colon s others last_node
    (record {
      is = record {
        has = inl refl;
        off_list = λ same. ds.2 of' (same ∙ f) (inr (inl refl));
        off_t = λ same. ds.2 t same (inr (inr stands));
      };
    })
    (record { is = inr (inr (inl refl)) }) all.1.1.1.0.0
    (beyond p (statement_node s) all.1.1.1.0.1.1 (off (statement_node s) (λ h. ds.1.1.2 of' refl (inl (inr (inr h)))))
    (every_other (statement_node s) t no_statement))
    all.1.1.1.1.0 clear) in
    let ends = tells.of [] d.known turn in
    let rest = steps frame d.known in (
      (λ i. elim (in_either (late_at 22 t) d.broken rest.broken i) [
        | inl l ↦ absurd (not_told p loose d.broken (touched.told k) l)
        | inr r ↦ ends.forth r
      ]),
      (λ w. in_right (late_at 22 t) d.broken rest.broken (ends.back w)),
    )

pub case_law : CasesTellEqualConstants
case_law k frame label c before x after looked same among =
    let t = first_of_constant x in
    let begins = subst (λ (xs : List Constant). Begins t xs) (sym same) (begins_at before x after) in
    let both = looked_law k frame label c t looked begins in
    let p = place_of k frame c t in
    let bs = (case_statement frame label c k).broken in
    let told = as_told p before x after bs refl among.others_before among.others_after
    (λ i. subst (λ (xs : List Constant). Wrong (rule_of p) [] xs) same (both.0 i))
    (λ w. both.1 (subst (λ (xs : List Constant). Wrong (rule_of p) [] xs) (sym same) w)) in
    let e : p.c.frame ≡ frame = chosen_frame k frame c in
    let h : p.c.host ≡ selector_host k frame c = chosen_host k frame c in (
      λ i. subst (λ g. IsWrongChoice k frame g before x) h (subst (λ f. IsWrongChoice k f p.c.host before x) e (told.0 i)),
      λ w. told.1 (subst (λ f. IsWrongChoice k f p.c.host before x) (sym e) (subst (λ g. IsWrongChoice k frame g before x) (sym h) w)),
    )
