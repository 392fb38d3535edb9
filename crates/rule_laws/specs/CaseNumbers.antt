-- The numbers and characters among the constants of a case statement, by the text alone (6.8.3.5).
use Rattle.std.specs.Prelude.{◌++◌, ◌∷◌, ◌≡◌, [], List, None, Option, Some, false}
use Rattle.std.specs.List.{list_any}
use Rattle.pas_lexer.specs.Lexed.{Lexed}
use Rattle.grammar.specs.Nodes.{spell}
use Rattle.pas_tree.specs.{StatementTrees.CaseTree, TreeNodes.tree_node, declared.constants.Constant.Constant}
use Rattle.pas_tree.specs.BlockTrees.{BlockTree, BodyTree, ProgramTree, routine_body}
use Rattle.pas_tree.specs.BlockTrees as blocks
use Rattle.pas_parser.specs.Formed.{items_of}
use Rattle.core_program.specs.{ProgramRows.text_at, WholeTables.WholeTables}
use Rattle.check_steps.specs.{Known.Known, Known.spelled_at, Words.known_at_start}
use Rattle.kind_checker.specs.Constants.{integer_in, text_value}
use Rattle.kind_checker.specs.declared.constants.ConstantValue.{ConstantValue}
use Rattle.code_checker.specs.CheckedPrograms.{broken, program_of}
use Rattle.rule_laws.specs.{TextCases.CasesOf, TextParts.OfRoutines}
use Rattle.rule_laws.specs.CaseConstants.{are_equal, case_constants, with_sign_of}

-- what a number with its sign, or a character, stands for
abbrev pub written : Known → Constant → Option ConstantValue
written k (Constant.Number s n) = with_sign_of s (integer_in (spelled_at k n))
written k (Constant.Name s n) = None
written k (Constant.Text n) = Some (text_value n (text_at k.program n))

-- none of these constants is a number or a character that is equal to one before it
abbrev pub AreWrittenOnce : Known → List Constant → Type 0
AreWrittenOnce k xs = (before : List Constant) (x : Constant) (after : List Constant) → xs ≡ before ++ x ∷ after
    → list_any (λ y. are_equal (written k x) (written k y)) before ≡ false

abbrev pub CasesOfBody : (CaseTree → Type 0) → BodyTree → Type 0
CasesOfBody P (blocks.a_directive directive) = Unit {0}
CasesOfBody P (blocks.a_block_body b) = CasesOf (λ slots c. P c) b

-- this holds of each case statement of a block, and of those of the procedures and functions in it
abbrev pub AllCases : (CaseTree → Type 0) → BlockTree → Type 0
AllCases P b = CasesOf (λ slots c. P c) b × OfRoutines (λ r. CasesOfBody P (routine_body r)) b

-- So it is in a text that breaks no rule, if its tables are whole, as they are of each program that `check` makes.
abbrev pub TextsTellNumbers : Type 0
TextsTellNumbers = (l : Lexed) (t : ProgramTree) → spell (tree_node t) ≡ items_of l.tokens → broken l t ≡ []
    → WholeTables (program_of l t) → AllCases (λ c. AreWrittenOnce (known_at_start l) (case_constants c)) t.block
