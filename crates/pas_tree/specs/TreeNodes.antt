-- The nodes of trees without memory, which are those of the trees that they are views of.
use Rattle.std.specs.Prelude.{ℕ, None, Option, Some, map}
use Rattle.grammar.specs.Nodes.{Node, Nothing, Pair, leaf, row}
use Rattle.grammar.specs.declared.terminals.Terminal.TheVariants as k
use Rattle.pas_tree.specs.{Blocks.constant_definition_node, Blocks.next_label_node, ConstantTrees.ConstantsTree}
use Rattle.pas_tree.specs.{ConstantTrees.NamesTree, DenoterTrees.VariantsTree, Denoters.last_semicolon_node}
use Rattle.pas_tree.specs.{Denoters.tag_node, Headings.result_node, Operators.token_node, Statements.label_node}
use Rattle.pas_tree.specs.BlockTrees.{BlockTree, BodyTree, ConstantPartTree, LabelPartTree, ParametersTree, ProgramTree}
use Rattle.pas_tree.specs.BlockTrees.{RoutineTree, RoutineTrees, TypeDefinitionTree, TypePartTree}
use Rattle.pas_tree.specs.BlockTrees.{VariableDeclarationTree, VariablePartTree}
use Rattle.pas_tree.specs.BlockTrees as blocks
use Rattle.pas_tree.specs.Constants.{constant_node, next_constant_node, next_name_node}
use Rattle.pas_tree.specs.DenoterTrees.{ArmTree, ArmTrees, ArrayTree, DenoterTree, DenoterTrees, EnumerationTree}
use Rattle.pas_tree.specs.DenoterTrees.{FieldsTree, FixedTree, PartTree, SectionTree, SectionTrees, StructureTree}
use Rattle.pas_tree.specs.DenoterTrees as denoters
use Rattle.pas_tree.specs.ExpressionTrees.{AccessTree, ArgumentsTree, ExpressionTree, ExpressionTrees, FactorTree}
use Rattle.pas_tree.specs.ExpressionTrees.{FactorTrees, IndexTree, MemberTree, MemberTrees, MembersTree, RangeTree}
use Rattle.pas_tree.specs.ExpressionTrees.{RelationTree, SelectorTree, SelectorTrees, SimpleTree, TermTree, TermTrees}
use Rattle.pas_tree.specs.ExpressionTrees as expressions
use Rattle.pas_tree.specs.HeadingTrees.{FormalNamesTree, FormalTree, FormalTrees, FormalsTree, FunctionTree}
use Rattle.pas_tree.specs.HeadingTrees.{HeadingTree, HeldFormals, ProcedureTree}
use Rattle.pas_tree.specs.HeadingTrees as headings
use Rattle.pas_tree.specs.Operators.{adding_node, direction_node, multiplying_node, relational_node, sign_node}
use Rattle.pas_tree.specs.SchemaTrees.{FormalTypeTree, SchemaTree, SpecsTree}
use Rattle.pas_tree.specs.SchemaTrees as schemas
use Rattle.pas_tree.specs.Schemas.{next_spec_node, packed_schema_node, spec_node}
use Rattle.pas_tree.specs.StatementTrees.{ActualTree, ActualsTree, AssignmentTree, BranchTree, BranchTrees, CaseTree}
use Rattle.pas_tree.specs.StatementTrees.{CompoundTree, ElseTree, IfTree, NextAccessTree, NextActualTree, PlainTree}
use Rattle.pas_tree.specs.StatementTrees.{RepeatTree, StatementTree, StatementTrees, StatementsTree, WidthTree}
use Rattle.pas_tree.specs.StatementTrees as statements

abbrev pub names_node : NamesTree → Node
names_node n = Pair (leaf k.Name n.first) (row (map next_name_node n.others))

abbrev pub constants_node : ConstantsTree → Node
constants_node c = Pair (constant_node c.first) (row (map next_constant_node c.others))

abbrev mutual
  pub expression_node : ExpressionTree → Node
  expression_node (expressions.an_expression left relation) = Pair (simple_node left) (relation_node relation)

  pub relation_node : RelationTree → Node
  relation_node expressions.without_relation = Nothing
  relation_node (expressions.a_relation operator right) =
      Pair (relational_node operator) (simple_node right)

  pub simple_node : SimpleTree → Node
  simple_node (expressions.a_simple sign first others) =
      Pair (sign_node sign) (Pair (term_node first) (terms_node others))

  pub terms_node : TermTrees → Node
  terms_node expressions.end_of_terms = Nothing
  terms_node (expressions.more_terms operator term rest) =
      Pair (Pair (adding_node operator) (term_node term)) (terms_node rest)

  pub term_node : TermTree → Node
  term_node (expressions.a_term first others) = Pair (factor_node first) (factors_node others)

  pub factors_node : FactorTrees → Node
  factors_node expressions.end_of_factors = Nothing
  factors_node (expressions.more_factors operator factor rest) =
      Pair (Pair (multiplying_node operator) (factor_node factor)) (factors_node rest)

  pub factor_node : FactorTree → Node
  factor_node (expressions.a_number n) = leaf k.Number n
  factor_node (expressions.a_text n) = leaf k.Text n
  factor_node (expressions.a_nil n) = leaf k.WNil n
  factor_node (expressions.an_access name selectors) = Pair (leaf k.Name name) (selectors_node selectors)
  factor_node (expressions.a_call name arguments) = Pair (leaf k.Name name) (arguments_node arguments)
  factor_node (expressions.a_paren open' e close) = Pair (leaf k.LeftParen open')
      (Pair (expression_node e) (leaf k.RightParen close))
  factor_node (expressions.a_set members) = members_node members
  factor_node (expressions.a_not n f) = Pair (leaf k.WNot n) (factor_node f)

  pub selectors_node : SelectorTrees → Node
  selectors_node expressions.end_of_selectors = Nothing
  selectors_node (expressions.more_selectors s rest) = Pair (selector_node s) (selectors_node rest)

  pub selector_node : SelectorTree → Node
  selector_node (expressions.an_index i) = index_node i
  selector_node (expressions.a_field dot name) = Pair (leaf k.Dot dot) (leaf k.Name name)
  selector_node (expressions.a_caret n) = leaf k.Caret n

  pub index_node : IndexTree → Node
  index_node (expressions.index_list open' first others close) =
      Pair (leaf k.LeftBracket open') (Pair (expression_node first)
      (Pair (expressions_node others) (leaf k.RightBracket close)))

  pub arguments_node : ArgumentsTree → Node
  arguments_node (expressions.argument_list open' first others close) =
      Pair (leaf k.LeftParen open') (Pair (expression_node first)
      (Pair (expressions_node others) (leaf k.RightParen close)))

  pub expressions_node : ExpressionTrees → Node
  expressions_node expressions.end_of_expressions = Nothing
  expressions_node (expressions.more_expressions comma e rest) =
      Pair (Pair (leaf k.Comma comma) (expression_node e)) (expressions_node rest)

  pub members_node : MembersTree → Node
  members_node (expressions.empty_members open' close) = Pair (leaf k.LeftBracket open') (leaf k.RightBracket close)
  members_node (expressions.some_members open' first others close) =
      Pair (leaf k.LeftBracket open') (Pair (member_node first)
      (Pair (more_members_node others) (leaf k.RightBracket close)))

  pub more_members_node : MemberTrees → Node
  more_members_node expressions.end_of_members = Nothing
  more_members_node (expressions.more_members comma member rest) =
      Pair (Pair (leaf k.Comma comma) (member_node member)) (more_members_node rest)

  pub member_node : MemberTree → Node
  member_node (expressions.a_member first last) = Pair (expression_node first) (range_end_node last)

  pub range_end_node : RangeTree → Node
  range_end_node expressions.without_range = Nothing
  range_end_node (expressions.a_range range last) = Pair (leaf k.Range range) (expression_node last)

abbrev pub access_node : AccessTree → Node
access_node a = Pair (leaf k.Name a.name) (selectors_node a.selectors)

abbrev pub enumeration_node : EnumerationTree → Node
enumeration_node e = Pair (leaf k.LeftParen e.left) (Pair (names_node e.names) (leaf k.RightParen e.right))

abbrev mutual
  pub denoter_node : DenoterTree → Node
  denoter_node (denoters.a_type_name n) = Pair (leaf k.Name n) Nothing
  denoter_node (denoters.an_enumeration e) = enumeration_node e
  denoter_node (denoters.a_subrange first range last) =
      Pair (constant_node first) (Pair (leaf k.Range range) (constant_node last))
  denoter_node (denoters.a_pointer caret name) = Pair (leaf k.Caret caret) (leaf k.Name name)
  denoter_node (denoters.a_structure packed s) = Pair (token_node k.WPacked packed) (structure_node s)

  pub structure_node : StructureTree → Node
  structure_node (denoters.an_array a) = array_node a
  structure_node (denoters.a_record word fields end) =
      Pair (leaf k.WRecord word) (Pair (fields_node fields) (leaf k.WEnd end))
  structure_node (denoters.a_set_type word of base) = Pair (leaf k.WSet word) (Pair (leaf k.WOf of) (denoter_node base))

  pub array_node : ArrayTree → Node
  array_node (denoters.index_types word open' first others close of component) =
      Pair (leaf k.WArray word) (Pair (leaf k.LeftBracket open') (Pair (denoter_node first) (Pair (denoters_node others)
      (Pair (leaf k.RightBracket close) (Pair (leaf k.WOf of) (denoter_node component))))))

  pub denoters_node : DenoterTrees → Node
  denoters_node denoters.end_of_denoters = Nothing
  denoters_node (denoters.more_denoters comma denoter rest) =
      Pair (Pair (leaf k.Comma comma) (denoter_node denoter)) (denoters_node rest)

  pub fields_node : FieldsTree → Node
  fields_node denoters.without_fields = Nothing
  fields_node (denoters.fixed_fields fixed variants last) = fixed_node fixed (next_variants_node variants last)
  fields_node (denoters.variant_fields variants last) = variants_node variants last

  -- the fixed part, and what stands after it
  pub fixed_node : FixedTree → Node → Node
  fixed_node (denoters.fixed_part first others) end = Pair (section_node first) (sections_node others end)

  pub section_node : SectionTree → Node
  section_node (denoters.a_section names colon denoter) =
      Pair (names_node names) (Pair (leaf k.Colon colon) (denoter_node denoter))

  pub sections_node : SectionTrees → Node → Node
  sections_node denoters.end_of_sections end = end
  sections_node (denoters.more_sections semicolon section rest) end =
      Pair (leaf k.Semicolon semicolon) (Pair (section_node section) (sections_node rest end))

  pub next_variants_node : PartTree → Option ℕ → Node
  next_variants_node denoters.without_part last = last_semicolon_node last
  next_variants_node (denoters.a_part semicolon variants) last =
      Pair (leaf k.Semicolon semicolon) (variants_node variants last)

  pub variants_node : VariantsTree → Option ℕ → Node
  variants_node (denoters.arms word tag of first others) last =
      Pair (leaf k.WCase word) (Pair (tag_node tag) (Pair (leaf k.WOf of)
      (Pair (arm_node first) (arms_node others (last_semicolon_node last)))))

  pub arm_node : ArmTree → Node
  arm_node (denoters.an_arm constants colon open' fields close) = Pair (constants_node constants)
      (Pair (leaf k.Colon colon) (Pair (leaf k.LeftParen open') (Pair (fields_node fields) (leaf k.RightParen close))))

  pub arms_node : ArmTrees → Node → Node
  arms_node denoters.end_of_arms end = end
  arms_node (denoters.more_arms semicolon arm rest) end =
      Pair (leaf k.Semicolon semicolon) (Pair (arm_node arm) (arms_node rest end))

abbrev pub specs_node : SpecsTree → Node
specs_node s = Pair (spec_node s.first) (row (map next_spec_node s.others))

abbrev mutual
  pub formal_type_node : FormalTypeTree → Node
  formal_type_node (schemas.a_formal_name n) = leaf k.Name n
  formal_type_node (schemas.a_schema s) = schema_node s

  pub schema_node : SchemaTree → Node
  schema_node (schemas.a_packed_schema p) = packed_schema_node p
  schema_node (schemas.an_unpacked_schema word open' specs close of component) =
      Pair (leaf k.WArray word) (Pair (leaf k.LeftBracket open') (Pair (specs_node specs)
      (Pair (leaf k.RightBracket close) (Pair (leaf k.WOf of) (formal_type_node component)))))

abbrev pub formal_names_node : FormalNamesTree → Node
formal_names_node f = Pair (names_node f.names) (Pair (leaf k.Colon f.colon) (formal_type_node f.of_type))

abbrev mutual
  pub heading_node : HeadingTree → Node
  heading_node (headings.a_procedure p) = procedure_node p
  heading_node (headings.a_function f) = function_node f

  pub procedure_node : ProcedureTree → Node
  procedure_node (headings.procedure_heading word name formals) =
      Pair (leaf k.WProcedure word) (Pair (leaf k.Name name) (held_formals_node formals))

  pub function_node : FunctionTree → Node
  function_node (headings.function_heading word name formals result) =
      Pair (leaf k.WFunction word) (Pair (leaf k.Name name) (Pair (held_formals_node formals) (result_node result)))

  pub held_formals_node : HeldFormals → Node
  held_formals_node headings.without_formals = Nothing
  held_formals_node (headings.some_formals f) = formals_node f

  pub formals_node : FormalsTree → Node
  formals_node (headings.formal_list open' first others close) =
      Pair (leaf k.LeftParen open') (Pair (formal_node first)
      (Pair (more_formals_node others) (leaf k.RightParen close)))

  pub more_formals_node : FormalTrees → Node
  more_formals_node headings.end_of_formals = Nothing
  more_formals_node (headings.more_formals semicolon formal rest) =
      Pair (Pair (leaf k.Semicolon semicolon) (formal_node formal)) (more_formals_node rest)

  pub formal_node : FormalTree → Node
  formal_node (headings.value_formals f) = formal_names_node f
  formal_node (headings.variable_formals word f) = Pair (leaf k.WVar word) (formal_names_node f)
  formal_node (headings.a_routine_formal h) = heading_node h

abbrev pub width_node : Option WidthTree → Node
width_node None = Nothing
width_node (Some w) = Pair (leaf k.Colon w.colon) (expression_node w.width)

abbrev pub actual_node : ActualTree → Node
actual_node a = Pair (expression_node a.expression) (width_node a.width)

abbrev pub next_actual_node : NextActualTree → Node
next_actual_node n = Pair (leaf k.Comma n.comma) (actual_node n.actual)

abbrev pub actuals_node : ActualsTree → Node
actuals_node a = Pair (leaf k.LeftParen a.left)
    (Pair (actual_node a.first) (Pair (row (map next_actual_node a.others)) (leaf k.RightParen a.right)))

abbrev pub call_node : Option ActualsTree → Node
call_node None = Nothing
call_node (Some a) = actuals_node a

abbrev pub assignment_node : AssignmentTree → Node
assignment_node a =
    Pair (leaf k.Name a.target.name) (Pair (selectors_node a.target.selectors)
    (Pair (leaf k.Becomes a.becomes) (expression_node a.value)))

abbrev pub next_access_node : NextAccessTree → Node
next_access_node n = Pair (leaf k.Comma n.comma) (access_node n.access)

abbrev mutual
  pub plain_node : PlainTree → Node
  plain_node statements.an_empty = Nothing
  plain_node (statements.an_assignment a) = assignment_node a
  plain_node (statements.a_procedure_call name actuals) = Pair (leaf k.Name name) (call_node actuals)
  plain_node (statements.a_goto word label) = Pair (leaf k.WGoto word) (leaf k.Number label)
  plain_node (statements.a_compound c) = compound_node c
  plain_node (statements.an_if i) = if_node i
  plain_node (statements.a_case c) = case_node c
  plain_node (statements.a_repeat r) = repeat_node r
  plain_node (statements.a_while word condition do_word statement) =
      Pair (leaf k.WWhile word) (Pair (expression_node condition) (Pair (leaf k.WDo do_word)
      (statement_node statement)))
  plain_node (statements.a_for word name becomes initial direction last do_word statement) =
      Pair (leaf k.WFor word) (Pair (leaf k.Name name) (Pair (leaf k.Becomes becomes) (Pair (expression_node initial)
      (Pair (direction_node direction) (Pair (expression_node last) (Pair (leaf k.WDo do_word)
      (statement_node statement)))))))
  plain_node (statements.a_with word first others do_word statement) =
      Pair (leaf k.WWith word) (Pair (access_node first)
      (Pair (row (map next_access_node others)) (Pair (leaf k.WDo do_word) (statement_node statement))))

  pub statement_node : StatementTree → Node
  statement_node (statements.a_statement label plain) = Pair (label_node label) (plain_node plain)

  pub compound_node : CompoundTree → Node
  compound_node (statements.compound_statement begin body end) =
      Pair (leaf k.WBegin begin) (Pair (statements_node body) (leaf k.WEnd end))

  pub statements_node : StatementsTree → Node
  statements_node (statements.statement_sequence first others) =
      Pair (statement_node first) (more_statements_node others)

  pub more_statements_node : StatementTrees → Node
  more_statements_node statements.end_of_statements = Nothing
  more_statements_node (statements.more_statements semicolon statement rest) =
      Pair (Pair (leaf k.Semicolon semicolon) (statement_node statement)) (more_statements_node rest)

  pub if_node : IfTree → Node
  if_node (statements.if_statement word condition then statement alternative) =
      Pair (leaf k.WIf word) (Pair (expression_node condition)
      (Pair (leaf k.WThen then) (Pair (statement_node statement) (else_node alternative))))

  pub else_node : ElseTree → Node
  else_node statements.without_else = Nothing
  else_node (statements.an_else word statement) = Pair (leaf k.WElse word) (statement_node statement)

  pub case_node : CaseTree → Node
  case_node (statements.case_statement word selector of first others semicolon end) =
      Pair (leaf k.WCase word) (Pair (expression_node selector) (Pair (leaf k.WOf of)
      (Pair (branch_node first) (Pair (branches_node others (last_semicolon_node semicolon)) (leaf k.WEnd end)))))

  pub branch_node : BranchTree → Node
  branch_node (statements.a_branch constants colon statement) =
      Pair (constants_node constants) (Pair (leaf k.Colon colon) (statement_node statement))

  pub branches_node : BranchTrees → Node → Node
  branches_node statements.end_of_branches end = end
  branches_node (statements.more_branches semicolon branch rest) end =
      Pair (leaf k.Semicolon semicolon) (Pair (branch_node branch) (branches_node rest end))

  pub repeat_node : RepeatTree → Node
  repeat_node (statements.repeat_statement word body until condition) =
      Pair (leaf k.WRepeat word) (Pair (statements_node body)
      (Pair (leaf k.WUntil until) (expression_node condition)))

abbrev pub label_part_node : Option LabelPartTree → Node
label_part_node None = Nothing
label_part_node (Some p) = Pair (leaf k.WLabel p.word)
    (Pair (leaf k.Number p.first) (Pair (row (map next_label_node p.others)) (leaf k.Semicolon p.semicolon)))

abbrev pub constant_part_node : Option ConstantPartTree → Node
constant_part_node None = Nothing
constant_part_node (Some p) = Pair (leaf k.WConst p.word)
    (Pair (constant_definition_node p.first) (row (map constant_definition_node p.others)))

abbrev pub type_definition_node : TypeDefinitionTree → Node
type_definition_node d = Pair (leaf k.Name d.name)
    (Pair (leaf k.Equal d.equal) (Pair (denoter_node d.denoter) (leaf k.Semicolon d.semicolon)))

abbrev pub type_part_node : Option TypePartTree → Node
type_part_node None = Nothing
type_part_node (Some p) = Pair (leaf k.WType p.word)
    (Pair (type_definition_node p.first) (row (map type_definition_node p.others)))

abbrev pub variable_declaration_node : VariableDeclarationTree → Node
variable_declaration_node d = Pair (names_node d.names)
    (Pair (leaf k.Colon d.colon) (Pair (denoter_node d.denoter) (leaf k.Semicolon d.semicolon)))

abbrev pub variable_part_node : Option VariablePartTree → Node
variable_part_node None = Nothing
variable_part_node (Some p) = Pair (leaf k.WVar p.word)
    (Pair (variable_declaration_node p.first) (row (map variable_declaration_node p.others)))

abbrev mutual
  pub block_node : BlockTree → Node
  block_node (blocks.a_block labels constants types variables routines body) =
      Pair (label_part_node labels) (Pair (constant_part_node constants)
      (Pair (type_part_node types) (Pair (variable_part_node variables)
      (Pair (routines_node routines) (compound_node body)))))

  pub routines_node : RoutineTrees → Node
  routines_node blocks.end_of_routines = Nothing
  routines_node (blocks.more_routines routine rest) = Pair (routine_node routine) (routines_node rest)

  pub routine_node : RoutineTree → Node
  routine_node (blocks.a_routine heading semicolon body last_semicolon) = Pair (heading_node heading)
      (Pair (leaf k.Semicolon semicolon) (Pair (body_node body) (leaf k.Semicolon last_semicolon)))

  pub body_node : BodyTree → Node
  body_node (blocks.a_directive n) = leaf k.Name n
  body_node (blocks.a_block_body b) = block_node b

abbrev pub parameters_node : Option ParametersTree → Node
parameters_node None = Nothing
parameters_node (Some p) = Pair (leaf k.LeftParen p.left) (Pair (names_node p.names) (leaf k.RightParen p.right))

abbrev pub tree_node : ProgramTree → Node
tree_node t =
    Pair (leaf k.WProgram t.word) (Pair (leaf k.Name t.name)
    (Pair (parameters_node t.parameters) (Pair (leaf k.Semicolon t.semicolon)
    (Pair (block_node t.block) (Pair (leaf k.Dot t.dot) (leaf k.End t.last))))))
