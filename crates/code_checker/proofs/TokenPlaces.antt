-- The places of a tree's parts are tokens of its.
use Rattle.std.proofs.Common.{◌<◌, ℕ, None, Option, Some}
use Rattle.grammar.specs.Nodes.{Node}
use Rattle.pas_tree.specs.{Denoters.tag_rest_node, HeadingPlaces.heading_name, HeadingTrees.HeadingTree, TreeNodes.structure_node, TreeNodes.term_node}
use Rattle.pas_tree.specs.Constants.{constant_node, signed_node}
use Rattle.pas_tree.specs.DenoterPlaces.{first_of_constant, first_of_denoter, first_of_structure}
use Rattle.pas_tree.specs.DenoterTrees.{DenoterTree, FixedTree, SectionTrees, StructureTree}
use Rattle.pas_tree.specs.DenoterTrees as denoted
use Rattle.pas_tree.specs.ExpressionPlaces.{first_of_expression, first_of_factor, first_of_members, first_of_simple, first_of_term}
use Rattle.pas_tree.specs.ExpressionTrees.{ExpressionTree, FactorTree, MembersTree, SimpleTree, TermTree}
use Rattle.pas_tree.specs.ExpressionTrees as expressed
use Rattle.pas_tree.specs.HeadingTrees as headed
use Rattle.pas_tree.specs.OperatorPlaces.{adding_token, multiplying_token, relational_token, sign_token}
use Rattle.pas_tree.specs.Operators.{adding_node, multiplying_node, relational_node, sign_leaf, sign_node}
use Rattle.pas_tree.specs.TreeNodes.{denoter_node, expression_node, factor_node, fixed_node, heading_node, members_node, sections_node, simple_node}
use Rattle.pas_tree.specs.declared.{constants.Constant.Constant, denoters.TagField.TagField, operators.MultiplyingOperator.MultiplyingOperator}
use Rattle.pas_tree.specs.declared.operators.{AddingOperator.AddingOperator, RelationalOperator.RelationalOperator, Sign.Sign}
use Rattle.code_checker.proofs.Within.{Within}

-- ---- operators

pub sign_token-in : {size : ℕ} (s : Sign) → Within size (sign_leaf s) → sign_token s < size
sign_token-in (Sign.Plus n) h = h
sign_token-in (Sign.Minus n) h = h

pub adding_token-in : {size : ℕ} (o : AddingOperator) → Within size (adding_node o) → adding_token o < size
adding_token-in (AddingOperator.Plus n) h = h
adding_token-in (AddingOperator.Minus n) h = h
adding_token-in (AddingOperator.Or n) h = h

pub multiplying_token-in : {size : ℕ} (o : MultiplyingOperator) → Within size (multiplying_node o) → multiplying_token o < size
multiplying_token-in (MultiplyingOperator.Times n) h = h
multiplying_token-in (MultiplyingOperator.Div n) h = h
multiplying_token-in (MultiplyingOperator.Mod n) h = h
multiplying_token-in (MultiplyingOperator.And n) h = h

pub relational_token-in : {size : ℕ} (o : RelationalOperator) → Within size (relational_node o) → relational_token o < size
relational_token-in (RelationalOperator.Equal n) h = h
relational_token-in (RelationalOperator.NotEqual n) h = h
relational_token-in (RelationalOperator.Less n) h = h
relational_token-in (RelationalOperator.AtMost n) h = h
relational_token-in (RelationalOperator.Greater n) h = h
relational_token-in (RelationalOperator.AtLeast n) h = h
relational_token-in (RelationalOperator.In n) h = h

-- ---- constants and denoters

pub signed-in : (size : ℕ) (s : Option Sign) (x : Node) → Within size (signed_node s x) → Within size (sign_node s) × Within size x
signed-in size None x h = (tt, h)
signed-in size (Some s) x h = h

pub first_of_constant-in : {size : ℕ} (c : Constant) → Within size (constant_node c) → first_of_constant c < size
first_of_constant-in (Constant.Number None n) h = h
first_of_constant-in (Constant.Number (Some s) n) h = sign_token-in s h.0
first_of_constant-in (Constant.Name None n) h = h
first_of_constant-in (Constant.Name (Some s) n) h = sign_token-in s h.0
first_of_constant-in (Constant.Text n) h = h

first_of_structure-in : {size : ℕ} (s : StructureTree) → Within size (structure_node s) → first_of_structure s < size
first_of_structure-in (denoted.an_array (denoted.index_types word open' first others close of component)) h = h.0
first_of_structure-in (denoted.a_record word fields end) h = h.0
first_of_structure-in (denoted.a_set_type word of_word base) h = h.0

pub first_of_denoter-in : {size : ℕ} (d : DenoterTree) → Within size (denoter_node d) → first_of_denoter d < size
first_of_denoter-in (denoted.a_type_name token) h = h.0
first_of_denoter-in (denoted.an_enumeration e) h = h.0
first_of_denoter-in (denoted.a_subrange first dots last) h = first_of_constant-in first h.0
first_of_denoter-in (denoted.a_pointer caret name) h = h.0
first_of_denoter-in (denoted.a_structure (Some packed) s) h = h.0
first_of_denoter-in (denoted.a_structure None s) h = first_of_structure-in s h.1

pub tag_name-in : {size : ℕ} (f : Option TagField) (name : ℕ) → Within size (tag_rest_node f name) → name < size
tag_name-in None name h = h.0
tag_name-in (Some f) name h = h.1.1

-- what stands after the sections of a fixed part
sections_end : (size : ℕ) (r : SectionTrees) (end : Node) → Within size (sections_node r end) → Within size end
sections_end size denoted.end_of_sections end h = h
sections_end size (denoted.more_sections semicolon section rest) end h = sections_end size rest end h.1.1

pub fixed_end : (size : ℕ) (f : FixedTree) (end : Node) → Within size (fixed_node f end) → Within size end
fixed_end size (denoted.fixed_part first others) end h = sections_end size others end h.1

-- ---- headings

pub heading_name-in : {size : ℕ} (h : HeadingTree) → Within size (heading_node h) → heading_name h < size
heading_name-in (headed.a_procedure (headed.procedure_heading word name formals)) h = h.1.0
heading_name-in (headed.a_function (headed.function_heading word name formals result)) h = h.1.0

-- ---- expressions

first_of_members-in : {size : ℕ} (m : MembersTree) → Within size (members_node m) → first_of_members m < size
first_of_members-in (expressed.empty_members open' close) h = h.0
first_of_members-in (expressed.some_members open' first others close) h = h.0

first_of_factor-in : {size : ℕ} (f : FactorTree) → Within size (factor_node f) → first_of_factor f < size
first_of_factor-in (expressed.a_number n) h = h
first_of_factor-in (expressed.a_text n) h = h
first_of_factor-in (expressed.a_nil n) h = h
first_of_factor-in (expressed.an_access name selectors) h = h.0
first_of_factor-in (expressed.a_call name arguments) h = h.0
first_of_factor-in (expressed.a_paren open' e close) h = h.0
first_of_factor-in (expressed.a_set members) h = first_of_members-in members h
first_of_factor-in (expressed.a_not n f) h = h.0

first_of_term-in : {size : ℕ} (t : TermTree) → Within size (term_node t) → first_of_term t < size
first_of_term-in (expressed.a_term first others) h = first_of_factor-in first h.0

first_of_simple-in : {size : ℕ} (s : SimpleTree) → Within size (simple_node s) → first_of_simple s < size
first_of_simple-in (expressed.a_simple (Some s) first others) h = sign_token-in s h.0
first_of_simple-in (expressed.a_simple None first others) h = first_of_term-in first h.1.0

pub first_of_expression-in : {size : ℕ} (e : ExpressionTree) → Within size (expression_node e) → first_of_expression e < size
first_of_expression-in (expressed.an_expression left relation) h = first_of_simple-in left h.0
