-- Where statements begin.
use Rattle.std.specs.Prelude.{ℕ, None, Option, Some}
use Rattle.pas_tree.specs.StatementTrees.{CaseTree, CompoundTree, IfTree, PlainTree, RepeatTree, StatementTree}
use Rattle.pas_tree.specs.StatementTrees as tree
use Rattle.pas_tree.specs.declared.statements.Label.{Label}

abbrev pub compound_word : CompoundTree → ℕ
compound_word (tree.compound_statement word body last) = word

abbrev pub if_word : IfTree → ℕ
if_word (tree.if_statement word condition then_word s alternative) = word

abbrev pub case_statement_word : CaseTree → ℕ
case_statement_word (tree.case_statement word selector of_word first others semicolon last) = word

abbrev pub repeat_word : RepeatTree → ℕ
repeat_word (tree.repeat_statement word body until_word condition) = word

-- the first token of a statement without its label; an empty one has none
abbrev pub first_of_plain : PlainTree → Option ℕ
first_of_plain tree.an_empty = None
first_of_plain (tree.an_assignment a) = Some a.target.name
first_of_plain (tree.a_procedure_call name actuals) = Some name
first_of_plain (tree.a_goto word label) = Some word
first_of_plain (tree.a_compound c) = Some (compound_word c)
first_of_plain (tree.an_if x) = Some (if_word x)
first_of_plain (tree.a_case x) = Some (case_statement_word x)
first_of_plain (tree.a_repeat x) = Some (repeat_word x)
first_of_plain (tree.a_while word condition do_word s) = Some word
first_of_plain (tree.a_for word name becomes initial direction last do_word s) = Some word
first_of_plain (tree.a_with word first others do_word s) = Some word

abbrev pub first_with : Option Label → Option ℕ → Option ℕ
first_with None first = first
first_with (Some l) first = Some l.number

-- the first token of a statement, its label counting
abbrev pub first_of_statement : StatementTree → Option ℕ
first_of_statement (tree.a_statement label plain) = first_with label (first_of_plain plain)
