-- What the trees of one text have in common.
use Rattle.std.specs.Prelude.{◌≡◌, ◌≢◌, ℕ, List}
use Rattle.pas_lexer.specs.Lexed.{Lexed}
use Rattle.pas_tree.specs.{BlockTrees.program_tree, declared.blocks.Tree.Tree}
use Rattle.core_program.specs.ProgramRows.{ProgramRows}
use Rattle.check_steps.specs.Known.{Known}
use Rattle.decl_checker.specs.Programs as declarations
use Rattle.code_checker.specs.{Declarations.IsDeclared, Declarations.IsTextOf, Programs.IsChecked, Programs.IsUnchecked}
use Rattle.code_checker.specs.CheckedPrograms as program
use Rattle.code_checker.specs.declared.faults.SourceFault.{SourceFault, TheVariants.Memory}

-- Over these tokens two trees break the same rules and denote the same program, and so do their declarations alone.
pub record AreOneProgram (t : Lexed) (a b : Tree) : Type 0 where
  pub broken : program.broken t (program_tree a) ≡ program.broken t (program_tree b)
  pub denoted : program.program_of t (program_tree a) ≡ program.program_of t (program_tree b)
  pub declared : declarations.broken_early t (program_tree a) ≡ declarations.broken_early t (program_tree b)
  pub tables : declarations.tables_of t (program_tree a) ≡ declarations.tables_of t (program_tree b)

-- A text has one program, and breaks the same rules in whichever tree it is read.
abbrev pub OneTextOneProgram : Type 0
OneTextOneProgram = (t : Lexed) (a b : Tree) → IsTextOf t a → IsTextOf t b → AreOneProgram t a b

-- The tokens are the text of at most one program.
abbrev pub AtMostOneProgram : Type 0
AtMostOneProgram = (t : Lexed) (p q : ProgramRows) → IsChecked t p → IsChecked t q → p ≡ q

-- Tokens that are the text of a program are refused only where memory runs out.
abbrev pub NeverBoth : Type 0
NeverBoth = (t : Lexed) (p : ProgramRows) (f : SourceFault) → IsChecked t p → IsUnchecked t f → f ≡ Memory

-- A source has at most one set of tables.
abbrev pub DeclaredOnce : Type 0
DeclaredOnce = (source : List ℕ) (j k : Known) → IsDeclared source j → IsDeclared source k → j ≡ k

-- Tokens are refused for one reason, at one place, unless memory runs out.
abbrev pub RefusedOnce : Type 0
RefusedOnce =
    (t : Lexed) (e f : SourceFault) → IsUnchecked t e → IsUnchecked t f → e ≢ Memory → f ≢ Memory → e ≡ f
