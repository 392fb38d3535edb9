-- The nodes of statements that hold a vector.
use Rattle.std.proofs.Common.{◌≡◌, ℕ, Global, Option, Vec, map, refl}
use denote.Hole.Carrier.{roll}
use Rattle.grammar.specs.Nodes.{Node, Pair, chain, leaf, row}
use Rattle.grammar.specs.declared.terminals.Terminal.{Terminal}
use Rattle.pas_tree.specs.{Denoters.last_semicolon_node, Expressions.expression_node}
use Rattle.pas_tree.specs.Statements as node
use Rattle.pas_tree.specs.declared.{expressions.Expression.Expression, statements.NextStatement.NextStatement}
use Rattle.pas_tree.specs.declared.statements.{Branch.Branch, Case.roll-Case, NextBranch.NextBranch, Statement.Statement, Statements.roll-Statements}
use Rattle.pas_tree.specs.declared.statements.Plain.TheBlock as b

statements_row : (n : _) (r : b.Row_of-NextStatement n) → node.more_statements_node r ≡ row (map node.next_statement_node (b.items-the_row-NextStatement n r))
statements_row _ b.end_of-NextStatement = refl
statements_row _ (b.more_of-NextStatement semicolon label plain rest) = rw (statements_row _ rest)

branches_row : (n : _) (r : b.Row_of-NextBranch n) (end : Node) → node.branches_node r end ≡ chain (map node.branch_step (b.items-the_row-NextBranch n r)) end
branches_row _ b.end_of-NextBranch end = refl
branches_row _ (b.more_of-NextBranch semicolon constants colon label plain rest) end = rw (branches_row _ rest end)

pub statements_rolled : (first : Statement) (others : Vec NextStatement Global)
    → node.statements_node (roll-Statements (record { first = first; others = others }))
    ≡ Pair (node.statement_node first) (row (map node.next_statement_node others.items))
unfolding roll-Statements roll
statements_rolled first others = rw (statements_row _ (b.hidden-the_row-NextStatement-1 others), b.items_hidden-the_row-NextStatement-1)

pub case_rolled : (word : ℕ) (selector : Expression) (of : ℕ) (first : Branch) (others : Vec NextBranch Global) (semicolon : Option ℕ) (end : ℕ)
    → node.case_node (roll-Case (record {
      word = word;
      selector = selector;
      of = of;
      first = first;
      others = others;
      semicolon = semicolon;
      end = end;
    }))
    ≡ Pair (leaf Terminal.WCase word) (Pair (expression_node selector) (Pair (leaf Terminal.WOf of) (Pair (node.branch_node first)
    (Pair (chain (map node.branch_step others.items) (last_semicolon_node semicolon)) (leaf Terminal.WEnd end)))))
unfolding roll-Case roll
case_rolled word selector of first others semicolon end = rw (branches_row _ (b.hidden-the_row-NextBranch-0 others), b.items_hidden-the_row-NextBranch-0)
