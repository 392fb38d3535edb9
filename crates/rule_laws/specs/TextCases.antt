-- The case statements of a text, and their constants (6.8.3.5).
use Rattle.std.specs.Prelude.{◌++◌, ◌∷◌, ◌≡◌, [], ℕ, Bool, List, None, Option, Some, false, is_some, true}
use Rattle.pas_lexer.specs.Lexed.{Lexed}
use Rattle.grammar.specs.Nodes.{spell}
use Rattle.pas_tree.specs.{StatementTrees.StatementsTree, TreeNodes.tree_node, declared.constants.Constant.Constant}
use Rattle.pas_tree.specs.BlockTrees.{BlockTree, BodyTree, ProgramTree, RoutineTree, routine_body}
use Rattle.pas_tree.specs.BlockTrees as blocks
use Rattle.pas_tree.specs.StatementTrees.{BranchTree, BranchTrees, CaseTree, CompoundTree, ElseTree, IfTree}
use Rattle.pas_tree.specs.StatementTrees.{NextAccessTree, PlainTree, RepeatTree, StatementTree, StatementTrees}
use Rattle.pas_tree.specs.StatementTrees as tree
use Rattle.pas_parser.specs.Formed.{items_of}
use Rattle.core_program.specs.Headings.{heading_in, signature_at}
use Rattle.core_program.specs.ProgramRows.{ProgramRows, routine_at, row_at as row_in}
use Rattle.core_program.specs.WholeTables.{WholeTables, is_host_type, signature_of, type_accessed}
use Rattle.core_program.specs.declared.{headings.Signature.Signature, program.Routine.Routine}
use Rattle.core_program.specs.declared.rows.{AccessRow.AccessRow, ExpressionRow.ExpressionRow, ItemRow.ItemRow}
use Rattle.core_program.specs.declared.rows.{OrdinalFunction.OrdinalFunction, Row.Row, StatementRow.StatementRow}
use Rattle.check_steps.specs.{Names.usable, Words.known_at_start}
use Rattle.check_steps.specs.Known.{Known, find, frame_at, name_at, row_at, type_at}
use Rattle.kind_checker.specs.{Sizes.host_of, declared.constants.ConstantValue.ConstantValue}
use Rattle.denoter_checker.specs.RoutineParts.{routine_name}
use Rattle.decl_checker.specs.{Programs.program_step, Routines.own_frame, Statements.fields_in}
use Rattle.code_checker.specs.CheckedPrograms.{broken, check_step, program_of}
use Rattle.code_checker.specs.Results.{name_in_first}
use Rattle.rule_laws.specs.CaseConstants.{case_constants, has_equal, is_of_host, stands_for}
use Rattle.rule_laws.specs.TextParts.{OfRoutines}

-- ---- case statements

-- The tokens at which the records of a with statement are listed, its word and its commas, before those around; the
-- innermost comes first.
abbrev pub with_slots : List NextAccessTree → List ℕ → List ℕ
with_slots [] slots = slots
with_slots (n ∷ ns) slots = with_slots ns (n.comma ∷ slots)

abbrev mutual
  -- This holds of each case statement that stands in a statement, or is the statement, by the tokens at which the
  -- records of the with statements around it are listed.
  pub OfCases : (List ℕ → CaseTree → Type 0) → List ℕ → StatementTree → Type 0
  OfCases P slots (tree.a_statement label p) = CasesInside P slots p

  pub CasesInside : (List ℕ → CaseTree → Type 0) → List ℕ → PlainTree → Type 0
  CasesInside P slots tree.an_empty = Unit {0}
  CasesInside P slots (tree.an_assignment a) = Unit {0}
  CasesInside P slots (tree.a_procedure_call name actuals) = Unit {0}
  CasesInside P slots (tree.a_goto word label) = Unit {0}
  CasesInside P slots (tree.a_compound c) = InCompound P slots c
  CasesInside P slots (tree.an_if i) = InIf P slots i
  CasesInside P slots (tree.a_case c) = P slots c × InCase P slots c
  CasesInside P slots (tree.a_repeat r) = InRepeat P slots r
  CasesInside P slots (tree.a_while word condition do_word s) = OfCases P slots s
  CasesInside P slots (tree.a_for word name becomes initial direction last do_word s) = OfCases P slots s
  CasesInside P slots (tree.a_with word first others do_word s) = OfCases P (with_slots others (word ∷ slots)) s

  pub InCompound : (List ℕ → CaseTree → Type 0) → List ℕ → CompoundTree → Type 0
  InCompound P slots (tree.compound_statement word body last) = InSequence P slots body

  pub InSequence : (List ℕ → CaseTree → Type 0) → List ℕ → StatementsTree → Type 0
  InSequence P slots (tree.statement_sequence first others) = OfCases P slots first × InOthers P slots others

  pub InOthers : (List ℕ → CaseTree → Type 0) → List ℕ → StatementTrees → Type 0
  InOthers P slots tree.end_of_statements = Unit {0}
  InOthers P slots (tree.more_statements semicolon s rest) = OfCases P slots s × InOthers P slots rest

  pub InIf : (List ℕ → CaseTree → Type 0) → List ℕ → IfTree → Type 0
  InIf P slots (tree.if_statement word condition then_word s alternative) = OfCases P slots s
      × InElse P slots alternative

  pub InElse : (List ℕ → CaseTree → Type 0) → List ℕ → ElseTree → Type 0
  InElse P slots tree.without_else = Unit {0}
  InElse P slots (tree.an_else word s) = OfCases P slots s

  pub InCase : (List ℕ → CaseTree → Type 0) → List ℕ → CaseTree → Type 0
  InCase P slots (tree.case_statement word selector of_word first others semicolon last) =
      InBranch P slots first × InBranches P slots others

  pub InBranch : (List ℕ → CaseTree → Type 0) → List ℕ → BranchTree → Type 0
  InBranch P slots (tree.a_branch constants colon s) = OfCases P slots s

  pub InBranches : (List ℕ → CaseTree → Type 0) → List ℕ → BranchTrees → Type 0
  InBranches P slots tree.end_of_branches = Unit {0}
  InBranches P slots (tree.more_branches semicolon b rest) = InBranch P slots b × InBranches P slots rest

  pub InRepeat : (List ℕ → CaseTree → Type 0) → List ℕ → RepeatTree → Type 0
  InRepeat P slots (tree.repeat_statement word body until_word condition) = InSequence P slots body

-- those of the statements of a block itself
abbrev pub CasesOf : (List ℕ → CaseTree → Type 0) → BlockTree → Type 0
CasesOf P (blocks.a_block labels constants types variables routines body) = InCompound P [] body

-- ---- selectors

-- that of a required function, but for succ and pred, which give the host type of their operand
abbrev pub function_told : OrdinalFunction → Option ℕ
function_told OrdinalFunction.Odd = Some 1
function_told OrdinalFunction.Chr = Some 2
function_told OrdinalFunction.Succ = None
function_told OrdinalFunction.Pred = None
function_told f = Some 0

-- 0 is integer, 1 is Boolean, 2 is char
abbrev pub operation_told : ExpressionRow → Option ℕ
operation_told (ExpressionRow.Sign minus operand) = Some 0
operation_told (ExpressionRow.Not operand) = Some 1
operation_told (ExpressionRow.Arithmetic operator left right) = Some 0
operation_told (ExpressionRow.Logic operator left right) = Some 1
operation_told (ExpressionRow.Compare order left right) = Some 1
operation_told (ExpressionRow.CompareTexts order left right) = Some 1
operation_told (ExpressionRow.CompareSets order left right) = Some 1
operation_told (ExpressionRow.ComparePointers equal left right) = Some 1
operation_told (ExpressionRow.In left right) = Some 1
operation_told ExpressionRow.Eof = Some 1
operation_told ExpressionRow.Eoln = Some 1
operation_told (ExpressionRow.Function function operand least greatest) = function_told function
operation_told e = None

-- the result type of a heading, and of a routine
abbrev pub result_told : Option Signature → Option ℕ
result_told None = None
result_told (Some s) = s.result

abbrev pub routine_told : ProgramRows → Option Routine → Option ℕ
routine_told p None = None
routine_told p (Some r) = result_told (signature_at p r.heading)

-- The type of what a row gives, where that is told: that of a variable stands in the row, operators and most required
-- functions give one type, and a function its result, also as a parameter.
abbrev pub type_told : ProgramRows → Row → Option ℕ
type_told p (Row.Access a) = Some (type_accessed a)
type_told p (Row.Expression (ExpressionRow.Apply routine levels actuals)) = routine_told p (routine_at p routine)
type_told p (Row.Expression (ExpressionRow.ApplyFormal formal levels actuals)) =
    result_told (signature_of p (heading_in (row_in p formal)))
type_told p (Row.Expression e) = operation_told e
type_told p r = None

-- ---- the law

-- whether a constant is no name, or one that is found from a frame and may be used there
abbrev pub is_found : Known → ℕ → Constant → Bool
is_found k frame (Constant.Name s n) = is_some (usable n (find k frame (name_at k n)))
is_found k frame x = true

-- Seen from a frame, a constant is found, is of the host type where its value is known, and is equal to none before it.
pub record IsRight (k : Known) (frame host : ℕ) (before : List Constant) (x : Constant) : Type 0 where
  pub found : is_found k frame x ≡ true
  pub of_host : (v : ConstantValue) → stands_for k frame x ≡ Some v → is_of_host host v ≡ true
  pub new : has_equal k frame before x ≡ false

abbrev pub AreRight : Known → (frame host : ℕ) → List Constant → Type 0
AreRight k frame host xs = (before : List Constant) (x : Constant) (after : List Constant) → xs ≡ before ++ x ∷ after
    → IsRight k frame host before x

-- The record that is listed at a token has this region of fields.
pub record IsRecordAt (k : Known) (slot region : ℕ) : Type 0 where
  pub access : ℕ
  pub next : ℕ
  pub listed : row_at k slot ≡ Row.Item (ItemRow.Element access next)
  pub row : AccessRow
  pub stands : row_at k access ≡ Row.Access row
  pub fields : fields_in (type_at k (type_accessed row)) ≡ Some region

-- The names that are found first from a frame are the fields of the record listed at a token; and so outward.
pub record IsInside (k : Known) (slot frame : ℕ) (IsAround : ℕ → Type 0) : Type 0 where
  pub region : ℕ
  pub opens : IsRecordAt k slot region
  pub is : (frame_at k frame).region ≡ region
  pub outer : ℕ
  pub leads : (frame_at k frame).outer ≡ Some outer
  pub around : IsAround outer

-- A frame is inside of the records that are listed at these tokens, and these are inside of a block's frame.
abbrev pub IsWithin : Known → (block : ℕ) → (slots : List ℕ) → (frame : ℕ) → Type 0
IsWithin k block [] frame = frame ≡ block
IsWithin k block (slot ∷ slots) frame = IsInside k slot frame (IsWithin k block slots)

abbrev pub case_word : CaseTree → ℕ
case_word (tree.case_statement word selector of_word first others semicolon last) = word

-- In the tables of a program the row of a case statement stands at its word. Its constants are right by an ordinal
-- host type, seen from inside of the records of the with statements around it: by that of the selector's type, where
-- the selector's row tells it.
pub record CaseIsRight (k : Known) (block : ℕ) (slots : List ℕ) (c : CaseTree) : Type 0 where
  pub line : ℕ
  pub selector : ℕ
  pub choices : ℕ
  pub stands : row_at k (case_word c) ≡ Row.Statement (StatementRow.Case line selector choices)
  pub frame : ℕ
  pub within : IsWithin k block slots frame
  pub host : ℕ
  pub ordinal : is_host_type (type_at k host) ≡ true
  pub told : (t : ℕ) → type_told k.program (row_at k selector) ≡ Some t → host ≡ host_of k t
  pub right : AreRight k frame host (case_constants c)

-- Those of the block of a procedure or function are so by the frame of the heading, or of the forward one before it.
abbrev pub BodyIsRight : Known → ℕ → BodyTree → Type 0
BodyIsRight k name (blocks.a_directive directive) = Unit {0}
BodyIsRight k name (blocks.a_block_body b) = CasesOf (CaseIsRight k (own_frame k (name_in_first k name))) b

-- So it is with each case statement of a text that breaks no rule, if its tables are whole, as they are of each program
-- that `check` makes.
abbrev pub TextsTellCases : Type 0
TextsTellCases = (l : Lexed) (t : ProgramTree) → spell (tree_node t) ≡ items_of l.tokens → broken l t ≡ []
    → WholeTables (program_of l t) → let d = check_step t (known_at_start l) in
    CasesOf (CaseIsRight d.known (program_step t (known_at_start l)).value) t.block
    × OfRoutines (λ r. BodyIsRight d.known (routine_name r) (routine_body r)) t.block
