-- Lists of a tree, item by item of what the code holds.
use Rattle.std.proofs.Common.{◌+◌, ◌∙◌, ◌∷◌, ◌≡◌, [], ℕ, List, None, Option, Some, add-one, ap, arith, false, is_none, length, nat_eq, refl, suc}
use Rattle.std.proofs.lemmas.Bool.Decides.{nat_tests}
use Rattle.pas_tree.specs.ExpressionTrees as tree
use Rattle.pas_tree.specs.declared.expressions.{NextFactor.NextFactor, NextMember.NextMember, NextTerm.NextTerm, Relation.Relation, Selector.Selector}
use Rattle.pas_tree.specs.declared.expressions.NextExpression.{NextExpression}
use Rattle.check_steps.specs.Steps.{◌>>=◌, Step, each}
use Rattle.expression_checker.specs.Expressions as walk
use Rattle.expression_checker.specs.NamesAlone.{is_last_factor, is_last_term, is_name, is_unrelated}
use Rattle.expression_checker.specs.declared.{actuals.Passing.Passing, members.Gathered.Gathered, typed.Typed.Typed}

pub factors_each : (frame : ℕ) (f : Typed) (ns : List NextFactor) → walk.factors frame f (tree.factor_trees ns) ≡ each (walk.next_factor frame) f ns
factors_each frame f [] = refl
factors_each frame f (n ∷ ns) = ap (λ (h : Typed → Step Typed). walk.next_factor frame f n >>= h) (λ i v. factors_each frame v ns i)

pub terms_each : (frame : ℕ) (t : Typed) (ns : List NextTerm) → walk.terms frame t (tree.term_trees ns) ≡ each (walk.next_term frame) t ns
terms_each frame t [] = refl
terms_each frame t (n ∷ ns) = ap (λ (h : Typed → Step Typed). walk.next_term frame t n >>= h) (λ i v. terms_each frame v ns i)

pub selected_each : (frame : ℕ) (p : Typed) (ns : List Selector) → walk.selected frame p (tree.selector_trees ns) ≡ each (walk.next_selector frame) p ns
selected_each frame p [] = refl
selected_each frame p (n ∷ ns) = ap (λ (h : Typed → Step Typed). walk.next_selector frame p n >>= h) (λ i v. selected_each frame v ns i)

pub arguments_each : (frame : ℕ) (p : Passing) (ns : List NextExpression)
    → walk.more_arguments frame p (tree.expression_trees ns) ≡ each (walk.next_argument frame) p ns
arguments_each frame p [] = refl
arguments_each frame p (n ∷ ns) = ap (λ (h : Passing → Step Passing). walk.next_argument frame p n >>= h) (λ i v. arguments_each frame v ns i)

pub indexes_each : (frame : ℕ) (p : Typed) (ns : List NextExpression)
    → walk.more_indexes frame p (tree.expression_trees ns) ≡ each (walk.next_index frame) p ns
indexes_each frame p [] = refl
indexes_each frame p (n ∷ ns) = ap (λ (h : Typed → Step Typed). walk.next_index frame p n >>= h) (λ i v. indexes_each frame v ns i)

pub members_each : (frame : ℕ) (g : Gathered) (ns : List NextMember)
    → walk.more_members frame g (tree.member_trees ns) ≡ each (walk.next_member frame) g ns
members_each frame g [] = refl
members_each frame g (n ∷ ns) = ap (λ (h : Gathered → Step Gathered). walk.next_member frame g n >>= h) (λ i v. members_each frame v ns i)

no_suc : (n : ℕ) → false ≡ nat_eq (suc n) 0
no_suc n = grind (arith, nat_tests)

pub name_items : (ss : List Selector) → is_name (tree.selector_trees ss) ≡ nat_eq (length ss) 0
name_items [] = refl
name_items (s ∷ ss) = no_suc (length ss)

pub count_items : (ns : List NextExpression) → walk.count_more (tree.expression_trees ns) ≡ length ns
count_items [] = refl
count_items (n ∷ ns) = ap (λ m. m + 1) (count_items ns) ∙ add-one (length ns)

pub factor_items : (ns : List NextFactor) → is_last_factor (tree.factor_trees ns) ≡ nat_eq (length ns) 0
factor_items [] = refl
factor_items (n ∷ ns) = no_suc (length ns)

pub term_items : (ns : List NextTerm) → is_last_term (tree.term_trees ns) ≡ nat_eq (length ns) 0
term_items [] = refl
term_items (n ∷ ns) = no_suc (length ns)

pub relation_none : (r : Option Relation) → is_unrelated (tree.relation_in r) ≡ is_none r
relation_none None = refl
relation_none (Some r) = refl
