-- The grammar of Pascal, ISO 7185 clauses 6.2 to 6.10. Rules that begin alike are one rule up to where they part,
-- and the token there leads on.
use Rattle.std.specs.Prelude.{◌∷◌, [], Bool, List, false, true}
use Rattle.grammar.specs.{Grammars.word, declared.terminals.Terminal.Terminal}
use Rattle.grammar.specs.Grammars.{Closer, Grammar, Level, block, by_end, by_until, choice, denoter, factor, greedy}
use Rattle.grammar.specs.Grammars.{heading, level, many, nothing, schema, seq, series, statement, token, variant_part}
use Rattle.grammar.specs.declared.terminals.Terminal.TheVariants as k

-- what may be left out, and begins with one of these
abbrev pub optional : List Terminal → Grammar → Grammar
optional ks a = choice ks a nothing

abbrev pub signs : List Terminal
signs = k.Plus ∷ k.Minus ∷ []

abbrev pub adding : List Terminal
adding = k.Plus ∷ k.Minus ∷ k.WOr ∷ []

abbrev pub multiplying : List Terminal
multiplying = k.Star ∷ k.WDiv ∷ k.WMod ∷ k.WAnd ∷ []

abbrev pub relations : List Terminal
relations = k.Equal ∷ k.NotEqual ∷ k.Less ∷ k.AtMost ∷ k.Greater ∷ k.AtLeast ∷ k.WIn ∷ []

abbrev pub directions : List Terminal
directions = k.WTo ∷ k.WDownto ∷ []

abbrev pub plain_constants : List Terminal
plain_constants = k.Number ∷ k.Name ∷ []

abbrev pub constant_starts : List Terminal
constant_starts = k.Number ∷ k.Name ∷ k.Plus ∷ k.Minus ∷ k.Text ∷ []

abbrev pub limit_starts : List Terminal
limit_starts = k.Number ∷ k.Plus ∷ k.Minus ∷ k.Text ∷ []

abbrev pub selector_starts : List Terminal
selector_starts = k.LeftBracket ∷ k.Dot ∷ k.Caret ∷ []

abbrev pub assignment_starts : List Terminal
assignment_starts = k.Becomes ∷ k.LeftBracket ∷ k.Dot ∷ k.Caret ∷ []

abbrev pub literals : List Terminal
literals = k.Number ∷ k.Text ∷ k.WNil ∷ []

-- ---- expressions

unfoldable pub next_factor_rule : Grammar
next_factor_rule = seq (token multiplying) (level factor)

unfoldable pub term_rule : Grammar
term_rule = seq (level factor) (many multiplying next_factor_rule)

unfoldable pub next_term_rule : Grammar
next_term_rule = seq (token adding) term_rule

unfoldable pub sign_rule : Grammar
sign_rule = optional signs (token signs)

unfoldable pub simple_rule : Grammar
simple_rule = seq sign_rule (seq term_rule (many adding next_term_rule))

unfoldable pub relation_rule : Grammar
relation_rule = optional relations (seq (token relations) simple_rule)

unfoldable pub expression_rule : Grammar
expression_rule = seq simple_rule relation_rule

unfoldable pub next_expression_rule : Grammar
next_expression_rule = seq (word k.Comma) expression_rule

unfoldable pub index_rule : Grammar
index_rule = seq (word k.LeftBracket) (seq expression_rule
    (seq (many (k.Comma ∷ []) next_expression_rule) (word k.RightBracket)))

unfoldable pub selector_rule : Grammar
selector_rule = choice (k.LeftBracket ∷ []) index_rule
    (choice (k.Dot ∷ []) (seq (word k.Dot) (word k.Name)) (word k.Caret))

unfoldable pub selectors_rule : Grammar
selectors_rule = many selector_starts selector_rule

unfoldable pub access_rule : Grammar
access_rule = seq (word k.Name) selectors_rule

unfoldable pub arguments_rule : Grammar
arguments_rule = seq (word k.LeftParen) (seq expression_rule
    (seq (many (k.Comma ∷ []) next_expression_rule) (word k.RightParen)))

unfoldable pub member_rule : Grammar
member_rule = seq expression_rule (optional (k.Range ∷ []) (seq (word k.Range) expression_rule))

unfoldable pub next_member_rule : Grammar
next_member_rule = seq (word k.Comma) member_rule

unfoldable pub members_rule : Grammar
members_rule =
    seq (word k.LeftBracket)
    (choice (k.RightBracket ∷ []) (word k.RightBracket)
    (seq member_rule (seq (many (k.Comma ∷ []) next_member_rule) (word k.RightBracket))))

unfoldable pub named_factor_rule : Grammar
named_factor_rule = seq (word k.Name) (choice (k.LeftParen ∷ []) arguments_rule selectors_rule)

unfoldable pub paren_rule : Grammar
paren_rule = seq (word k.LeftParen) (seq expression_rule (word k.RightParen))

unfoldable pub factor_rule : Grammar
factor_rule =
    choice literals (token literals)
    (choice (k.Name ∷ []) named_factor_rule
    (choice (k.LeftParen ∷ []) paren_rule
    (choice (k.LeftBracket ∷ []) members_rule
    (seq (word k.WNot) (level factor)))))

-- ---- names, constants and types

unfoldable pub next_name_rule : Grammar
next_name_rule = seq (word k.Comma) (word k.Name)

unfoldable pub names_rule : Grammar
names_rule = seq (word k.Name) (many (k.Comma ∷ []) next_name_rule)

unfoldable pub constant_rule : Grammar
constant_rule = choice (k.Text ∷ []) (word k.Text)
    (choice signs (seq (token signs) (token plain_constants)) (token plain_constants))

unfoldable pub next_constant_rule : Grammar
next_constant_rule = seq (word k.Comma) constant_rule

unfoldable pub constants_rule : Grammar
constants_rule = seq constant_rule (many (k.Comma ∷ []) next_constant_rule)

unfoldable pub range_rule : Grammar
range_rule = seq (word k.Range) constant_rule

-- a constant that is no name alone
unfoldable pub limit_rule : Grammar
limit_rule = choice (k.Text ∷ []) (word k.Text)
    (choice signs (seq (token signs) (token plain_constants)) (word k.Number))

unfoldable pub enumeration_rule : Grammar
enumeration_rule = seq (word k.LeftParen) (seq names_rule (word k.RightParen))

unfoldable pub next_denoter_rule : Grammar
next_denoter_rule = seq (word k.Comma) (level denoter)

unfoldable pub array_rule : Grammar
array_rule =
    seq (word k.WArray) (seq (word k.LeftBracket)
    (seq (level denoter) (seq (many (k.Comma ∷ []) next_denoter_rule)
    (seq (word k.RightBracket) (seq (word k.WOf) (level denoter))))))

unfoldable pub section_rule : Grammar
section_rule = seq names_rule (seq (word k.Colon) (level denoter))

unfoldable pub variants_rule : Grammar
variants_rule = optional (k.WCase ∷ []) (level variant_part)

unfoldable pub fixed_rule : Grammar
fixed_rule = seq section_rule (series k.Semicolon (k.Name ∷ []) section_rule variants_rule)

-- A semicolon after the last section or the last arm belongs to the list of fields; after an arm it is read with
-- the variant part.
unfoldable pub fields_rule : Grammar
fields_rule = choice (k.Name ∷ []) fixed_rule variants_rule

unfoldable pub arm_rule : Grammar
arm_rule = seq constants_rule (seq (word k.Colon) (seq (word k.LeftParen) (seq fields_rule (word k.RightParen))))

unfoldable pub tag_rule : Grammar
tag_rule = seq (word k.Name) (optional (k.Colon ∷ []) (seq (word k.Colon) (word k.Name)))

unfoldable pub variant_part_rule : Grammar
variant_part_rule = seq (word k.WCase) (seq tag_rule
    (seq (word k.WOf) (seq arm_rule (series k.Semicolon constant_starts arm_rule nothing))))

unfoldable pub record_rule : Grammar
record_rule = seq (word k.WRecord) (seq fields_rule (word k.WEnd))

unfoldable pub set_rule : Grammar
set_rule = seq (word k.WSet) (seq (word k.WOf) (level denoter))

unfoldable pub structure_rule : Grammar
structure_rule = choice (k.WArray ∷ []) array_rule (choice (k.WRecord ∷ []) record_rule set_rule)

unfoldable pub structured_rule : Grammar
structured_rule = seq (optional (k.WPacked ∷ []) (word k.WPacked)) structure_rule

unfoldable pub named_denoter_rule : Grammar
named_denoter_rule = seq (word k.Name) (optional (k.Range ∷ []) range_rule)

unfoldable pub subrange_rule : Grammar
subrange_rule = seq limit_rule range_rule

unfoldable pub denoter_rule : Grammar
denoter_rule =
    choice (k.Name ∷ []) named_denoter_rule
    (choice (k.LeftParen ∷ []) enumeration_rule
    (choice limit_starts subrange_rule
    (choice (k.Caret ∷ []) (seq (word k.Caret) (word k.Name))
    structured_rule)))

-- ---- headings and formals

unfoldable pub spec_rule : Grammar
spec_rule = seq (word k.Name) (seq (word k.Range) (seq (word k.Name) (seq (word k.Colon) (word k.Name))))

unfoldable pub next_spec_rule : Grammar
next_spec_rule = seq (word k.Semicolon) spec_rule

unfoldable pub specs_rule : Grammar
specs_rule = seq spec_rule (many (k.Semicolon ∷ []) next_spec_rule)

-- A type's name, or a schema. Such a name is no type denoter, so it counts as no level.
unfoldable pub formal_type_rule : Grammar
formal_type_rule = choice (k.Name ∷ []) (word k.Name) (level schema)

-- a packed schema has one spec, and a type's name after its `of`
unfoldable pub packed_schema_rule : Grammar
packed_schema_rule =
    seq (word k.WPacked) (seq (word k.WArray) (seq (word k.LeftBracket)
    (seq spec_rule (seq (word k.RightBracket) (seq (word k.WOf) (word k.Name))))))

unfoldable pub unpacked_schema_rule : Grammar
unpacked_schema_rule =
    seq (word k.WArray) (seq (word k.LeftBracket)
    (seq specs_rule (seq (word k.RightBracket) (seq (word k.WOf) formal_type_rule))))

unfoldable pub schema_rule : Grammar
schema_rule = choice (k.WPacked ∷ []) packed_schema_rule unpacked_schema_rule

unfoldable pub variables_formal_rule : Grammar
variables_formal_rule = seq names_rule (seq (word k.Colon) formal_type_rule)

unfoldable pub formal_rule : Grammar
formal_rule = choice (k.Name ∷ []) variables_formal_rule
    (choice (k.WVar ∷ []) (seq (word k.WVar) variables_formal_rule) (level heading))

unfoldable pub next_formal_rule : Grammar
next_formal_rule = seq (word k.Semicolon) formal_rule

unfoldable pub formals_rule : Grammar
formals_rule = seq (word k.LeftParen) (seq formal_rule
    (seq (many (k.Semicolon ∷ []) next_formal_rule) (word k.RightParen)))

unfoldable pub procedure_rule : Grammar
procedure_rule = seq (word k.WProcedure) (seq (word k.Name) (optional (k.LeftParen ∷ []) formals_rule))

unfoldable pub result_rule : Grammar
result_rule = optional (k.Colon ∷ []) (seq (word k.Colon) (word k.Name))

unfoldable pub function_rule : Grammar
function_rule =
    seq (word k.WFunction) (seq (word k.Name) (seq (optional (k.LeftParen ∷ []) formals_rule) result_rule))

unfoldable pub heading_rule : Grammar
heading_rule = choice (k.WProcedure ∷ []) procedure_rule function_rule

-- ---- statements

unfoldable pub next_statement_rule : Closer → Grammar
next_statement_rule closer = seq (word k.Semicolon) (level (statement false closer))

unfoldable pub statements_rule : Closer → Grammar
statements_rule closer = seq (level (statement false closer)) (many (k.Semicolon ∷ []) (next_statement_rule closer))

unfoldable pub compound_rule : Grammar
compound_rule = seq (word k.WBegin) (seq (statements_rule by_end) (word k.WEnd))

unfoldable pub actual_rule : Grammar
actual_rule = seq expression_rule (optional (k.Colon ∷ []) (seq (word k.Colon) expression_rule))

unfoldable pub next_actual_rule : Grammar
next_actual_rule = seq (word k.Comma) actual_rule

unfoldable pub actuals_rule : Grammar
actuals_rule = seq (word k.LeftParen) (seq actual_rule (seq (many (k.Comma ∷ []) next_actual_rule) (word k.RightParen)))

unfoldable pub assignment_rule : Grammar
assignment_rule = seq selectors_rule (seq (word k.Becomes) expression_rule)

unfoldable pub named_statement_rule : Grammar
named_statement_rule =
    seq (word k.Name) (choice (k.LeftParen ∷ []) actuals_rule (optional assignment_starts assignment_rule))

unfoldable pub alternative_rule : Bool → Closer → Grammar
alternative_rule inner closer = seq (word k.WElse) (level (statement inner closer))

-- an else belongs to the nearest if that has none yet
unfoldable pub else_rule : Bool → Closer → Grammar
else_rule inner closer = greedy (k.WElse ∷ []) (alternative_rule inner closer)

unfoldable pub if_rule : Bool → Closer → Grammar
if_rule inner closer = seq (word k.WIf) (seq expression_rule
    (seq (word k.WThen) (seq (level (statement true closer)) (else_rule inner closer))))

unfoldable pub branch_rule : Grammar
branch_rule = seq constants_rule (seq (word k.Colon) (level (statement false by_end)))

unfoldable pub case_rule : Grammar
case_rule = seq (word k.WCase) (seq expression_rule
    (seq (word k.WOf) (seq branch_rule (seq (series k.Semicolon constant_starts branch_rule nothing) (word k.WEnd)))))

unfoldable pub repeat_rule : Grammar
repeat_rule = seq (word k.WRepeat) (seq (statements_rule by_until) (seq (word k.WUntil) expression_rule))

unfoldable pub while_rule : Bool → Closer → Grammar
while_rule inner closer = seq (word k.WWhile) (seq expression_rule (seq (word k.WDo) (level (statement inner closer))))

unfoldable pub for_rule : Bool → Closer → Grammar
for_rule inner closer =
    seq (word k.WFor) (seq (word k.Name) (seq (word k.Becomes)
    (seq expression_rule (seq (token directions)
    (seq expression_rule (seq (word k.WDo) (level (statement inner closer))))))))

unfoldable pub next_access_rule : Grammar
next_access_rule = seq (word k.Comma) access_rule

unfoldable pub with_rule : Bool → Closer → Grammar
with_rule inner closer = seq (word k.WWith)
    (seq access_rule (seq (many (k.Comma ∷ []) next_access_rule) (seq (word k.WDo) (level (statement inner closer)))))

unfoldable pub goto_rule : Grammar
goto_rule = seq (word k.WGoto) (word k.Number)

unfoldable pub counted_rule : Bool → Closer → Grammar
counted_rule inner closer =
    choice (k.WWhile ∷ []) (while_rule inner closer)
    (choice (k.WFor ∷ []) (for_rule inner closer)
    (choice (k.WWith ∷ []) (with_rule inner closer)
    nothing))

unfoldable pub plain_rule : Bool → Closer → Grammar
plain_rule inner closer =
    choice (k.Name ∷ []) named_statement_rule
    (choice (k.WGoto ∷ []) goto_rule
    (choice (k.WBegin ∷ []) compound_rule
    (choice (k.WIf ∷ []) (if_rule inner closer)
    (choice (k.WCase ∷ []) case_rule
    (choice (k.WRepeat ∷ []) repeat_rule
    (counted_rule inner closer))))))

unfoldable pub label_rule : Grammar
label_rule = optional (k.Number ∷ []) (seq (word k.Number) (word k.Colon))

unfoldable pub statement_rule : Bool → Closer → Grammar
statement_rule inner closer = seq label_rule (plain_rule inner closer)

-- ---- blocks and the program

unfoldable pub next_label_rule : Grammar
next_label_rule = seq (word k.Comma) (word k.Number)

unfoldable pub label_part_rule : Grammar
label_part_rule = optional (k.WLabel ∷ []) (seq (word k.WLabel)
    (seq (word k.Number) (seq (many (k.Comma ∷ []) next_label_rule) (word k.Semicolon))))

unfoldable pub constant_definition_rule : Grammar
constant_definition_rule = seq (word k.Name) (seq (word k.Equal) (seq constant_rule (word k.Semicolon)))

unfoldable pub constant_part_rule : Grammar
constant_part_rule = optional (k.WConst ∷ [])
    (seq (word k.WConst) (seq constant_definition_rule (many (k.Name ∷ []) constant_definition_rule)))

unfoldable pub type_definition_rule : Grammar
type_definition_rule = seq (word k.Name) (seq (word k.Equal) (seq (level denoter) (word k.Semicolon)))

unfoldable pub type_part_rule : Grammar
type_part_rule = optional (k.WType ∷ []) (seq (word k.WType)
    (seq type_definition_rule (many (k.Name ∷ []) type_definition_rule)))

unfoldable pub variable_declaration_rule : Grammar
variable_declaration_rule = seq names_rule (seq (word k.Colon) (seq (level denoter) (word k.Semicolon)))

unfoldable pub variable_part_rule : Grammar
variable_part_rule = optional (k.WVar ∷ [])
    (seq (word k.WVar) (seq variable_declaration_rule (many (k.Name ∷ []) variable_declaration_rule)))

unfoldable pub body_rule : Grammar
body_rule = choice (k.Name ∷ []) (word k.Name) (level block)

unfoldable pub routine_rule : Grammar
routine_rule = seq (level heading) (seq (word k.Semicolon) (seq body_rule (word k.Semicolon)))

abbrev pub heading_starts : List Terminal
heading_starts = k.WProcedure ∷ k.WFunction ∷ []

unfoldable pub routines_rule : Grammar
routines_rule = many heading_starts routine_rule

unfoldable pub block_rule : Grammar
block_rule = seq label_part_rule (seq constant_part_rule
    (seq type_part_rule (seq variable_part_rule (seq routines_rule compound_rule))))

unfoldable pub parameters_rule : Grammar
parameters_rule = optional (k.LeftParen ∷ []) (seq (word k.LeftParen) (seq names_rule (word k.RightParen)))

unfoldable pub program_rule : Grammar
program_rule = seq (word k.WProgram) (seq (word k.Name)
    (seq parameters_rule (seq (word k.Semicolon) (seq (level block) (seq (word k.Dot) (word k.End))))))

-- ---- the constructs that count as nesting

abbrev pub rule : Level → Grammar
rule block = block_rule
rule heading = heading_rule
rule (statement inner closer) = statement_rule inner closer
rule denoter = denoter_rule
rule schema = schema_rule
rule variant_part = variant_part_rule
rule factor = factor_rule
