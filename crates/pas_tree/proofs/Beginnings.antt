-- Where texts begin, by what trees spell.
use Rattle.std.proofs.Common.{◌++◌, ◌∷◌, ◌≡◌, [], ℕ, List, None, Option, Some, refl}
use Rattle.std.proofs.lemmas.Option.{none-some}
use Rattle.grammar.specs.Nodes.{Item, spell}
use Rattle.pas_tree.specs.{Begins.PlacesBegin, Begins.first_number, Begins.first_token, Constants.constant_node, DenoterPlaces.first_of_constant}
use Rattle.pas_tree.specs.{DenoterPlaces.first_of_denoter, DenoterPlaces.first_of_structure, DenoterTrees.denoter_tree, DenoterTrees.structure_tree}
use Rattle.pas_tree.specs.{Denoters.denoter_node, Denoters.structure_node, HeadingPlaces.heading_word, HeadingTrees.heading_tree, Headings.heading_node}
use Rattle.pas_tree.specs.{SchemaPlaces.first_of_schema, SchemaTrees.schema_tree, Schemas.schema_node, StatementPlaces.first_of_statement}
use Rattle.pas_tree.specs.{StatementTrees.a_statement, StatementTrees.plain_tree, Statements.label_node, Statements.plain_node}
use Rattle.pas_tree.specs.ExpressionPlaces.{first_of_expression, first_of_factor, first_of_members, first_of_simple, first_of_term}
use Rattle.pas_tree.specs.ExpressionTrees.{expression_tree, factor_tree, members_tree, simple_tree, term_tree}
use Rattle.pas_tree.specs.Expressions.{expression_node, factor_node, factors_node, members_node, relation_node, simple_node, term_node, terms_node}
use Rattle.pas_tree.specs.declared.{constants.Constant.Constant, headings.FunctionHeading.FunctionHeading', headings.Heading.Function, headings.Heading.Heading}
use Rattle.pas_tree.specs.declared.{headings.Heading.Procedure, headings.ProcedureHeading.ProcedureHeading', operators.Sign.Sign, schemas.Schema.Packed}
use Rattle.pas_tree.specs.declared.{schemas.Schema.Schema, schemas.Schema.Unpacked', statements.Compound.Compound' as CompoundOf'}
use Rattle.pas_tree.specs.declared.denoters.{ArrayDenoter.ArrayDenoter', Structure.Array, Structure.Record', Structure.Set' as SetOf', Structure.Structure}
use Rattle.pas_tree.specs.declared.denoters.Denoter.{Denoter, Enumeration, Name, Pointer, Structure', Subrange}
use Rattle.pas_tree.specs.declared.expressions.{Expression.Expression, Expression.Expression', Members.Empty as NoMembers, Members.Members}
use Rattle.pas_tree.specs.declared.expressions.{Members.Some as SomeOf, Simple.Simple, Simple.Simple', SomeMembers.SomeMembers', Term.Term, Term.Term'}
use Rattle.pas_tree.specs.declared.expressions.Factor.{Access', Call' as CallOf', Factor, Nil, Not', Number, Paren', Set', Text}
use Rattle.pas_tree.specs.declared.statements.{Case.Case' as CaseOf', If.If' as IfOf', Label.Label, Repeat.Repeat' as RepeatOf'}
use Rattle.pas_tree.specs.declared.statements.Plain.{Assignment as Assignment', Call, Case', Compound', Empty, For', Goto, If', Plain, Repeat', While', With'}

-- what begins a text begins a longer one
longer : (xs ys : List Item) (t : ℕ) → first_number xs ≡ Some t → first_number (xs ++ ys) ≡ Some t
longer [] ys t e = absurd (none-some t e)
longer (x ∷ xs) ys t e = e

constant_begins : (c : Constant) → first_token (constant_node c) ≡ Some (first_of_constant c)
constant_begins (Constant.Number None n) = refl
constant_begins (Constant.Number (Some (Sign.Plus s)) n) = refl
constant_begins (Constant.Number (Some (Sign.Minus s)) n) = refl
constant_begins (Constant.Name None n) = refl
constant_begins (Constant.Name (Some (Sign.Plus s)) n) = refl
constant_begins (Constant.Name (Some (Sign.Minus s)) n) = refl
constant_begins (Constant.Text n) = refl

structure_begins : (s : Structure) → first_token (structure_node s) ≡ Some (first_of_structure (structure_tree s))
structure_begins (Array (ArrayDenoter' word left first _ others right of component)) = refl
structure_begins (Record' word fields end) = refl
structure_begins (SetOf' word of base) = refl

denoter_begins : (d : Denoter) → first_token (denoter_node d) ≡ Some (first_of_denoter (denoter_tree d))
denoter_begins (Name token) = refl
denoter_begins (Enumeration e) = refl
denoter_begins (Subrange first dots last) = longer (spell (constant_node first)) _ (first_of_constant first) (constant_begins first)
denoter_begins (Pointer caret name) = refl
denoter_begins (Structure' None _ s) = structure_begins s
denoter_begins (Structure' (Some packed) _ s) = refl

members_begin : (m : Members) → first_token (members_node m) ≡ Some (first_of_members (members_tree m))
members_begin (NoMembers left right) = refl
members_begin (SomeOf (SomeMembers' left first _ others right)) = refl

factor_begins : (f : Factor) → first_token (factor_node f) ≡ Some (first_of_factor (factor_tree f))
factor_begins (Number n) = refl
factor_begins (Text n) = refl
factor_begins (Nil n) = refl
factor_begins (Access' name _ selectors) = refl
factor_begins (CallOf' name _ a) = refl
factor_begins (Paren' left _ e right) = refl
factor_begins (Set' _ m) = members_begin m
factor_begins (Not' word _ f) = refl

term_begins : (t : Term) → first_token (term_node t) ≡ Some (first_of_term (term_tree t))
term_begins (Term' first _ others) =
    longer (spell (factor_node first)) (spell (factors_node others)) (first_of_factor (factor_tree first)) (factor_begins first)

simple_begins : (s : Simple) → first_token (simple_node s) ≡ Some (first_of_simple (simple_tree s))
simple_begins (Simple' None first _ others) = longer (spell (term_node first)) (spell (terms_node others)) (first_of_term (term_tree first)) (term_begins first)
simple_begins (Simple' (Some (Sign.Plus s)) first _ others) = refl
simple_begins (Simple' (Some (Sign.Minus s)) first _ others) = refl

expression_begins : (e : Expression) → first_token (expression_node e) ≡ Some (first_of_expression (expression_tree e))
expression_begins (Expression' left relation) =
    longer (spell (simple_node left)) (spell (relation_node relation)) (first_of_simple (simple_tree left)) (simple_begins left)

heading_begins : (h : Heading) → first_token (heading_node h) ≡ Some (heading_word (heading_tree h))
heading_begins (Procedure (ProcedureHeading' word name formals)) = refl
heading_begins (Function (FunctionHeading' word name formals result)) = refl

schema_begins : (s : Schema) → first_token (schema_node s) ≡ Some (first_of_schema (schema_tree s))
schema_begins (Packed p) = refl
schema_begins (Unpacked' word open' specs close of component) = refl

plain_begins : (p : Plain) → first_token (plain_node p) ≡ first_of_statement (a_statement None (plain_tree p))
plain_begins Empty = refl
plain_begins (Assignment' a) = refl
plain_begins (Call name actuals) = refl
plain_begins (Goto word label) = refl
plain_begins (Compound' _ (CompoundOf' word body end)) = refl
plain_begins (If' _ (IfOf' word condition then label p alternative)) = refl
plain_begins (Case' _ (CaseOf' word selector of constants colon label p _ others semicolon end)) = refl
plain_begins (Repeat' _ (RepeatOf' word body until condition)) = refl
plain_begins (While' _ word condition do_word label p) = refl
plain_begins (For' _ word name becomes initial direction last do_word label p) = refl
plain_begins (With' _ word first others do_word label p) = refl

statement_begins : (label : Option Label) (p : Plain)
    → first_number (spell (label_node label) ++ spell (plain_node p)) ≡ first_of_statement (a_statement label (plain_tree p))
statement_begins None p = plain_begins p
statement_begins (Some l) p = refl

pub places_begin : PlacesBegin
places_begin = record {
  constants = constant_begins;
  denoters = denoter_begins;
  expressions = expression_begins;
  headings = heading_begins;
  schemas = schema_begins;
  statements = λ s. statement_begins s.label s.plain;
}
