-- What the lists of statements and branches repeat may stand in a loop.
use Rattle.std.proofs.Common.{◌∙◌, ◌∷◌, ◌≡◌, [], ℕ, Global, List, Ok, Vec, ap, false, map, refl, sym}
use Rattle.grammar.proofs.Lists.{Repeats}
use Rattle.grammar.specs.{Nodes.Item, Nodes.Node, Nodes.row, Reading.levels, Reading.read, declared.terminals.Terminal.Terminal}
use Rattle.grammar.specs.Grammars.{Closer, level, many, nothing, statement}
use Rattle.grammar.specs.declared.terminals.Terminal.TheVariants as k
use Rattle.pas_tree.proofs.{Parts.parts, StatementRolls.statements_rolled}
use Rattle.pas_tree.specs.{FirstFollow.pascal, Statements.next_statement_node, Statements.statement_node, Statements.statements_node}
use Rattle.pas_tree.specs.Rules.{branch_rule, constant_starts, next_statement_rule, statements_rule}
use Rattle.pas_tree.specs.declared.statements.{NextStatement.NextStatement, Statement.Statement, Statements.roll-Statements}
use Rattle.pas_phrases.proofs.{Failures.first_fails, Failures.second_fails, Failures.seq_read, ReadSeries.Series}
use Rattle.pas_phrases.specs.{Items.Fails, declared.fault.ParseFault.ParseFault}

pub next_statement_repeats : (closer : Closer) → Repeats (next_statement_rule closer)
next_statement_repeats closer = parts.next_statement closer

-- a first statement that fails
pub first_statement_fails : (n : ℕ) (closer : Closer) (l : List Item) (kinds : List Terminal) (e : ParseFault)
    → Fails kinds e (levels pascal n (statement false closer) l) → Fails kinds e (read pascal n (statements_rule closer) l)
unfolding read statements_rule
first_statement_fails n closer l kinds e f = first_fails n (level (statement false closer)) (many (k.Semicolon ∷ []) (next_statement_rule closer)) l kinds e f

-- the statements after the first one that fail
pub other_statements_fail : (n : ℕ) (closer : Closer) (l : List Item) {m : List Item} {x : Node} (kinds : List Terminal) (e : ParseFault)
    → levels pascal n (statement false closer) l ≡ Ok (x, m) → Fails kinds e (read pascal n (many (k.Semicolon ∷ []) (next_statement_rule closer)) m)
    → Fails kinds e (read pascal n (statements_rule closer) l)
unfolding read statements_rule
other_statements_fail n closer l kinds e h f = second_fails n (level (statement false closer)) (many (k.Semicolon ∷ []) (next_statement_rule closer)) l kinds e
    h f

-- a list of statements
pub statements_read : (n : ℕ) (closer : Closer) (l : List Item) {m rest : List Item} (first : Statement) (others : Vec NextStatement Global)
    → levels pascal n (statement false closer) l ≡ Ok (statement_node first, m)
    → read pascal n (many (k.Semicolon ∷ []) (next_statement_rule closer)) m ≡ Ok (row (map next_statement_node others.items), rest)
    → read pascal n (statements_rule closer) l ≡ Ok (statements_node (roll-Statements (record { first = first; others = others })), rest)
unfolding read statements_rule
statements_read n closer l {rest = rest} first others h e =
    seq_read n (level (statement false closer)) (many (k.Semicolon ∷ []) (next_statement_rule closer)) l h e
    ∙ ap (λ (y : Node). Ok (y, rest)) (sym (statements_rolled first others))

abbrev pub branches : Series
branches = record {
  separator = k.Semicolon;
  starts = constant_starts;
  part = branch_rule;
  end = nothing;
  part_closed = parts.branch.is_closed;
  end_closed = refl;
}
