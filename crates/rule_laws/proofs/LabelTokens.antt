-- The labels in front of statements are tokens of these, and none stands twice.
use Rattle.std.proofs.Common.{◌++◌, ◌∷◌, ◌≡◌, [], ℕ, List, None, Option, Some, inl, inr, refl, sym}
use Rattle.grammar.specs.Nodes.{Node}
use Rattle.pas_tree.specs.{Statements.label_node, TreeNodes.statement_node, TreeNodes.statements_node, declared.statements.Label.Label}
use Rattle.pas_tree.specs.StatementTrees.{BranchTree, BranchTrees, CaseTree, CompoundTree, ElseTree, IfTree, PlainTree, RepeatTree, StatementTree}
use Rattle.pas_tree.specs.StatementTrees.{StatementTrees, StatementsTree}
use Rattle.pas_tree.specs.StatementTrees as tree
use Rattle.pas_tree.specs.TreeNodes.{branch_node, branches_node, case_node, compound_node, else_node, if_node, more_statements_node, plain_node, repeat_node}
use Rattle.rule_laws.proofs.Listed.{Listed, listed_either}
use Rattle.rule_laws.specs.BlockLabels.{branch_labels, branches_labels, case_labels, compound_labels, else_labels, if_labels, in_front, labels_inside}
use Rattle.rule_laws.specs.BlockLabels.{labels_of_statement, more_labels, repeat_labels, sequence_labels}
use Rattle.rule_laws.specs.Tokens.{Has, IsDistinct}

front_has : (label : Option Label) (n : ℕ) → Listed (in_front label) n → Has (label_node label) n
front_has None n h = absurd h
front_has (Some l) n (inl e) = inl e
front_has (Some l) n (inr h) = absurd h

mutual
  statement_has : (s : StatementTree) (n : ℕ) → Listed (labels_of_statement s) n → Has (statement_node s) n
  statement_has (tree.a_statement label p) n h = elim (listed_either (in_front label) (labels_inside p) n h) [
    | inl i ↦ inl (front_has label n i)
    | inr i ↦ inr (inside_has p n i)
  ]

  inside_has : (p : PlainTree) (n : ℕ) → Listed (labels_inside p) n → Has (plain_node p) n
  inside_has tree.an_empty n h = absurd h
  inside_has (tree.an_assignment a) n h = absurd h
  inside_has (tree.a_procedure_call name actuals) n h = absurd h
  inside_has (tree.a_goto word label) n h = absurd h
  inside_has (tree.a_compound c) n h = compound_has c n h
  inside_has (tree.an_if i) n h = if_has i n h
  inside_has (tree.a_case c) n h = case_has c n h
  inside_has (tree.a_repeat r) n h = repeat_has r n h
  inside_has (tree.a_while word condition do_word s) n h = inr (inr (inr (statement_has s n h)))
  inside_has (tree.a_for word name becomes initial direction last do_word s) n h = inr (inr (inr (inr (inr (inr (inr (statement_has s n h)))))))
  inside_has (tree.a_with word first others do_word s) n h = inr (inr (inr (inr (statement_has s n h))))

  pub compound_has : (c : CompoundTree) (n : ℕ) → Listed (compound_labels c) n → Has (compound_node c) n
  compound_has (tree.compound_statement word body last) n h = inr (inl (sequence_has body n h))

  sequence_has : (s : StatementsTree) (n : ℕ) → Listed (sequence_labels s) n → Has (statements_node s) n
  sequence_has (tree.statement_sequence first others) n h = elim (listed_either (labels_of_statement first) (more_labels others) n h) [
    | inl i ↦ inl (statement_has first n i)
    | inr i ↦ inr (more_has others n i)
  ]

  more_has : (r : StatementTrees) (n : ℕ) → Listed (more_labels r) n → Has (more_statements_node r) n
  more_has tree.end_of_statements n h = absurd h
  more_has (tree.more_statements semicolon s rest) n h = elim (listed_either (labels_of_statement s) (more_labels rest) n h) [
    | inl i ↦ inl (inr (statement_has s n i))
    | inr i ↦ inr (more_has rest n i)
  ]

  if_has : (i : IfTree) (n : ℕ) → Listed (if_labels i) n → Has (if_node i) n
  if_has (tree.if_statement word condition then_word s alternative) n h = elim (listed_either (labels_of_statement s) (else_labels alternative) n h) [
    | inl i ↦ inr (inr (inr (inl (statement_has s n i))))
    | inr i ↦ inr (inr (inr (inr (else_has alternative n i))))
  ]

  else_has : (e : ElseTree) (n : ℕ) → Listed (else_labels e) n → Has (else_node e) n
  else_has tree.without_else n h = absurd h
  else_has (tree.an_else word s) n h = inr (statement_has s n h)

  case_has : (c : CaseTree) (n : ℕ) → Listed (case_labels c) n → Has (case_node c) n
  case_has (tree.case_statement word selector of_word first others semicolon last) n h =
      elim (listed_either (branch_labels first) (branches_labels others) n h) [
        | inl i ↦ inr (inr (inr (inl (branch_has first n i))))
        | inr i ↦ inr (inr (inr (inr (inl (branches_has others _ n i)))))
      ]

  branch_has : (b : BranchTree) (n : ℕ) → Listed (branch_labels b) n → Has (branch_node b) n
  branch_has (tree.a_branch constants colon s) n h = inr (inr (statement_has s n h))

  branches_has : (r : BranchTrees) (end : Node) (n : ℕ) → Listed (branches_labels r) n → Has (branches_node r end) n
  branches_has tree.end_of_branches end n h = absurd h
  branches_has (tree.more_branches semicolon b rest) end n h = elim (listed_either (branch_labels b) (branches_labels rest) n h) [
    | inl i ↦ inr (inl (branch_has b n i))
    | inr i ↦ inr (inr (branches_has rest end n i))
  ]

  repeat_has : (r : RepeatTree) (n : ℕ) → Listed (repeat_labels r) n → Has (repeat_node r) n
  repeat_has (tree.repeat_statement word body until_word condition) n h = inr (inl (sequence_has body n h))

-- ---- each once

-- none of these tokens stands twice among them
abbrev pub Once : List ℕ → Type 0
Once [] = Unit {0}
Once (x ∷ xs) = (Listed xs x → ⊥) × Once xs

once_both : (xs ys : List ℕ) → Once xs → Once ys → ((n : ℕ) → Listed xs n → Listed ys n → ⊥) → Once (xs ++ ys)
once_both [] ys one two apart = two
once_both (x ∷ xs) ys one two apart = (
  (λ h. elim (listed_either xs ys x h) [
    | inl i ↦ one.0 i
    | inr i ↦ apart x (inl refl) i
  ]),
  once_both xs ys one.1 two (λ n h i. apart n (inr h) i),
)

front_once : (label : Option Label) → Once (in_front label)
front_once None = tt
front_once (Some l) = ((λ h. h), tt)

mutual
  statement_once : (s : StatementTree) → IsDistinct (statement_node s) → Once (labels_of_statement s)
  statement_once (tree.a_statement label p) d =
      once_both (in_front label) (labels_inside p) (front_once label) (inside_once p d.1) (λ n h i. d.2 n (front_has label n h) (inside_has p n i))

  inside_once : (p : PlainTree) → IsDistinct (plain_node p) → Once (labels_inside p)
  inside_once tree.an_empty d = tt
  inside_once (tree.an_assignment a) d = tt
  inside_once (tree.a_procedure_call name actuals) d = tt
  inside_once (tree.a_goto word label) d = tt
  inside_once (tree.a_compound c) d = compound_once c d
  inside_once (tree.an_if i) d = if_once i d
  inside_once (tree.a_case c) d = case_once c d
  inside_once (tree.a_repeat r) d = repeat_once r d
  inside_once (tree.a_while word condition do_word s) d = statement_once s d.1.1.1
  inside_once (tree.a_for word name becomes initial direction last do_word s) d = statement_once s d.1.1.1.1.1.1.1
  inside_once (tree.a_with word first others do_word s) d = statement_once s d.1.1.1.1

  pub compound_once : (c : CompoundTree) → IsDistinct (compound_node c) → Once (compound_labels c)
  compound_once (tree.compound_statement word body last) d = sequence_once body d.1.0

  sequence_once : (s : StatementsTree) → IsDistinct (statements_node s) → Once (sequence_labels s)
  sequence_once (tree.statement_sequence first others) d = once_both (labels_of_statement first) (more_labels others) (statement_once first d.0)
      (more_once others d.1) (λ n h i. d.2 n (statement_has first n h) (more_has others n i))

  more_once : (r : StatementTrees) → IsDistinct (more_statements_node r) → Once (more_labels r)
  more_once tree.end_of_statements d = tt
  more_once (tree.more_statements semicolon s rest) d = once_both (labels_of_statement s) (more_labels rest) (statement_once s d.0.1)
      (more_once rest d.1) (λ n h i. d.2 n (inr (statement_has s n h)) (more_has rest n i))

  if_once : (i : IfTree) → IsDistinct (if_node i) → Once (if_labels i)
  if_once (tree.if_statement word condition then_word s alternative) d = once_both (labels_of_statement s) (else_labels alternative)
      (statement_once s d.1.1.1.0) (else_once alternative d.1.1.1.1) (λ n h i. d.1.1.1.2 n (statement_has s n h) (else_has alternative n i))

  else_once : (e : ElseTree) → IsDistinct (else_node e) → Once (else_labels e)
  else_once tree.without_else d = tt
  else_once (tree.an_else word s) d = statement_once s d.1

  case_once : (c : CaseTree) → IsDistinct (case_node c) → Once (case_labels c)
  case_once (tree.case_statement word selector of_word first others semicolon last) d = once_both (branch_labels first) (branches_labels others)
      (branch_once first d.1.1.1.0) (branches_once others _ d.1.1.1.1.0) (λ n h i. d.1.1.1.2 n (branch_has first n h) (inl (branches_has others _ n i)))

  branch_once : (b : BranchTree) → IsDistinct (branch_node b) → Once (branch_labels b)
  branch_once (tree.a_branch constants colon s) d = statement_once s d.1.1

  branches_once : (r : BranchTrees) (end : Node) → IsDistinct (branches_node r end) → Once (branches_labels r)
  branches_once tree.end_of_branches end d = tt
  branches_once (tree.more_branches semicolon b rest) end d = once_both (branch_labels b) (branches_labels rest) (branch_once b d.1.0)
      (branches_once rest end d.1.1) (λ n h i. d.1.2 n (branch_has b n h) (branches_has rest end n i))

  repeat_once : (r : RepeatTree) → IsDistinct (repeat_node r) → Once (repeat_labels r)
  repeat_once (tree.repeat_statement word body until_word condition) d = sequence_once body d.1.0

-- what stands before one of them, and after it, is another token
pub once_after : (before : List ℕ) (x : ℕ) (after : List ℕ) → Once (before ++ x ∷ after) → Listed after x → ⊥
once_after [] x after o h = o.0 h
once_after (y ∷ ys) x after o h = once_after ys x after o.1 h

pub once_before : (before : List ℕ) (x : ℕ) (after : List ℕ) → Once (before ++ x ∷ after) → Listed before x → ⊥
once_before [] x after o h = h
once_before (y ∷ ys) x after o (inl e) = o.0 (middle ys x after y e)
  where
    middle : (zs : List ℕ) (x : ℕ) (after : List ℕ) (y : ℕ) → y ≡ x → Listed (zs ++ x ∷ after) y
    middle [] x after y e = inl (sym e)
    middle (z ∷ zs) x after y e = inr (middle zs x after y e)
once_before (y ∷ ys) x after o (inr h) = once_before ys x after o.1 h
