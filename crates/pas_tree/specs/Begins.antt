-- Where texts begin, by what trees spell.
use Rattle.std.specs.Prelude.{◌∷◌, ◌≡◌, [], ℕ, List, None, Option, Some}
use Rattle.grammar.specs.Nodes.{Item, Node, spell}
use Rattle.pas_tree.specs.{Constants.constant_node, DenoterTrees.denoter_tree, Denoters.denoter_node}
use Rattle.pas_tree.specs.{ExpressionPlaces.first_of_expression, ExpressionTrees.expression_tree}
use Rattle.pas_tree.specs.{Expressions.expression_node, HeadingPlaces.heading_word, HeadingTrees.heading_tree}
use Rattle.pas_tree.specs.{Headings.heading_node, SchemaPlaces.first_of_schema, SchemaTrees.schema_tree}
use Rattle.pas_tree.specs.{Schemas.schema_node, StatementPlaces.first_of_statement, StatementTrees.statement_tree}
use Rattle.pas_tree.specs.{Statements.statement_node, declared.expressions.Expression.Expression}
use Rattle.pas_tree.specs.DenoterPlaces.{first_of_constant, first_of_denoter}
use Rattle.pas_tree.specs.declared.{constants.Constant.Constant, denoters.Denoter.Denoter, headings.Heading.Heading}
use Rattle.pas_tree.specs.declared.{schemas.Schema.Schema, statements.Statement.Statement}

-- the number of the first token that a tree spells, if it spells any
abbrev pub first_number : List Item → Option ℕ
first_number [] = None
first_number (x ∷ l) = Some x.number

abbrev pub first_token : Node → Option ℕ
first_token n = first_number (spell n)

-- Each place is the first token of what the tree spells.
pub record PlacesBegin : Type 0 where
  pub constants : (c : Constant) → first_token (constant_node c) ≡ Some (first_of_constant c)
  pub denoters : (d : Denoter) → first_token (denoter_node d) ≡ Some (first_of_denoter (denoter_tree d))
  pub expressions : (e : Expression) → first_token (expression_node e) ≡ Some (first_of_expression (expression_tree e))
  pub headings : (h : Heading) → first_token (heading_node h) ≡ Some (heading_word (heading_tree h))
  pub schemas : (s : Schema) → first_token (schema_node s) ≡ Some (first_of_schema (schema_tree s))
  -- an empty statement spells nothing
  pub statements : (s : Statement) → first_token (statement_node s) ≡ first_of_statement (statement_tree s)
