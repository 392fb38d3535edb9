-- The places of a tree's parts are tokens of its.
use Rattle.std.proofs.Common.{ℕ, None, Option, Some}
use Rattle.grammar.specs.Nodes.{Node}
use Rattle.pas_tree.specs.{Constants.constant_node, Constants.signed_node, DenoterPlaces.first_of_constant, DenoterTrees.SectionTrees, Denoters.tag_rest_node}
use Rattle.pas_tree.specs.{HeadingPlaces.heading_name, HeadingTrees.HeadingTree}
use Rattle.pas_tree.specs.DenoterTrees as denoted
use Rattle.pas_tree.specs.ExpressionPlaces.{first_of_expression, first_of_factor, first_of_members, first_of_simple, first_of_term}
use Rattle.pas_tree.specs.ExpressionTrees.{ExpressionTree, FactorTree, MembersTree, SimpleTree, TermTree}
use Rattle.pas_tree.specs.ExpressionTrees as expressed
use Rattle.pas_tree.specs.HeadingTrees as headings
use Rattle.pas_tree.specs.OperatorPlaces.{adding_token, direction_token, multiplying_token, relational_token, sign_token}
use Rattle.pas_tree.specs.Operators.{adding_node, direction_node, multiplying_node, relational_node, sign_leaf, sign_node}
use Rattle.pas_tree.specs.TreeNodes.{expression_node, factor_node, heading_node, members_node, sections_node, simple_node, term_node}
use Rattle.pas_tree.specs.declared.{constants.Constant.Constant, denoters.TagField.TagField, operators.MultiplyingOperator.MultiplyingOperator}
use Rattle.pas_tree.specs.declared.operators.{AddingOperator.AddingOperator, Direction.Direction, RelationalOperator.RelationalOperator, Sign.Sign}
use Rattle.rule_laws.proofs.Every.{Every, Of}

-- ---- operators

pub sign_token-in : {Q : ℕ → Type 0} (s : Sign) → Every Q (sign_leaf s) → Of Q (sign_token s)
sign_token-in (Sign.Plus n) h = h
sign_token-in (Sign.Minus n) h = h

pub adding_token-in : {Q : ℕ → Type 0} (o : AddingOperator) → Every Q (adding_node o) → Of Q (adding_token o)
adding_token-in (AddingOperator.Plus n) h = h
adding_token-in (AddingOperator.Minus n) h = h
adding_token-in (AddingOperator.Or n) h = h

pub multiplying_token-in : {Q : ℕ → Type 0} (o : MultiplyingOperator) → Every Q (multiplying_node o) → Of Q (multiplying_token o)
multiplying_token-in (MultiplyingOperator.Times n) h = h
multiplying_token-in (MultiplyingOperator.Div n) h = h
multiplying_token-in (MultiplyingOperator.Mod n) h = h
multiplying_token-in (MultiplyingOperator.And n) h = h

pub relational_token-in : {Q : ℕ → Type 0} (o : RelationalOperator) → Every Q (relational_node o) → Of Q (relational_token o)
relational_token-in (RelationalOperator.Equal n) h = h
relational_token-in (RelationalOperator.NotEqual n) h = h
relational_token-in (RelationalOperator.Less n) h = h
relational_token-in (RelationalOperator.AtMost n) h = h
relational_token-in (RelationalOperator.Greater n) h = h
relational_token-in (RelationalOperator.AtLeast n) h = h
relational_token-in (RelationalOperator.In n) h = h

pub direction_token-in : {Q : ℕ → Type 0} (d : Direction) → Every Q (direction_node d) → Of Q (direction_token d)
direction_token-in (Direction.To n) h = h
direction_token-in (Direction.Downto n) h = h

-- ---- constants

pub signed-in : (Q : ℕ → Type 0) (s : Option Sign) (x : Node) → Every Q (signed_node s x) → Every Q (sign_node s) × Every Q x
signed-in Q None x h = (tt, h)
signed-in Q (Some s) x h = h

pub first_of_constant-in : {Q : ℕ → Type 0} (c : Constant) → Every Q (constant_node c) → Of Q (first_of_constant c)
first_of_constant-in (Constant.Number None n) h = h
first_of_constant-in (Constant.Number (Some s) n) h = sign_token-in s h.0
first_of_constant-in (Constant.Name None n) h = h
first_of_constant-in (Constant.Name (Some s) n) h = sign_token-in s h.0
first_of_constant-in (Constant.Text n) h = h

-- what stands after the sections of a fixed part
pub sections_end : (Q : ℕ → Type 0) (r : SectionTrees) (end : Node) → Every Q (sections_node r end) → Every Q end
sections_end Q denoted.end_of_sections end h = h
sections_end Q (denoted.more_sections semicolon section rest) end h = sections_end Q rest end h.1.1

pub heading_name-in : {Q : ℕ → Type 0} (h : HeadingTree) → Every Q (heading_node h) → Of Q (heading_name h)
heading_name-in (headings.a_procedure (headings.procedure_heading word name formals)) h = h.1.0
heading_name-in (headings.a_function (headings.function_heading word name formals result)) h = h.1.0

pub tag_name-in : (Q : ℕ → Type 0) (f : Option TagField) (name : ℕ) → Every Q (tag_rest_node f name) → Of Q name
tag_name-in Q None name h = h.0
tag_name-in Q (Some f) name h = h.1.1

-- ---- expressions

first_of_members-in : {Q : ℕ → Type 0} (m : MembersTree) → Every Q (members_node m) → Of Q (first_of_members m)
first_of_members-in (expressed.empty_members open' close) h = h.0
first_of_members-in (expressed.some_members open' first others close) h = h.0

first_of_factor-in : {Q : ℕ → Type 0} (f : FactorTree) → Every Q (factor_node f) → Of Q (first_of_factor f)
first_of_factor-in (expressed.a_number n) h = h
first_of_factor-in (expressed.a_text n) h = h
first_of_factor-in (expressed.a_nil n) h = h
first_of_factor-in (expressed.an_access name selectors) h = h.0
first_of_factor-in (expressed.a_call name arguments) h = h.0
first_of_factor-in (expressed.a_paren open' e close) h = h.0
first_of_factor-in (expressed.a_set members) h = first_of_members-in members h
first_of_factor-in (expressed.a_not n f) h = h.0

first_of_term-in : {Q : ℕ → Type 0} (t : TermTree) → Every Q (term_node t) → Of Q (first_of_term t)
first_of_term-in (expressed.a_term first others) h = first_of_factor-in first h.0

first_of_simple-in : {Q : ℕ → Type 0} (s : SimpleTree) → Every Q (simple_node s) → Of Q (first_of_simple s)
first_of_simple-in (expressed.a_simple (Some s) first others) h = sign_token-in s h.0
first_of_simple-in (expressed.a_simple None first others) h = first_of_term-in first h.1.0

pub first_of_expression-in : {Q : ℕ → Type 0} (e : ExpressionTree) → Every Q (expression_node e) → Of Q (first_of_expression e)
first_of_expression-in (expressed.an_expression left relation) h = first_of_simple-in left h.0
