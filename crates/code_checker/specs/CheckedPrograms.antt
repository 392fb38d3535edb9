-- The whole check of a program, and what it comes to.
use Rattle.std.specs.Prelude.{List}
use Rattle.pas_lexer.specs.Lexed.{Lexed}
use Rattle.pas_tree.specs.BlockTrees.{ProgramTree}
use Rattle.core_program.specs.ProgramRows.{ProgramRows}
use Rattle.check_steps.specs.{Steps.◌>>=◌, Steps.Step, Words.known_at_start, declared.breaks.Break.Break}
use Rattle.decl_checker.specs.Programs.{program_step}
use Rattle.code_checker.specs.Blocks.{code_block}

-- the declarations of a program, and then the statements of its blocks
unfoldable pub check_step : ProgramTree → Step (Unit {0})
check_step t = do
  frame ← program_step t
  code_block frame t.block

-- all rules that a tree breaks, and all that is too big in it
abbrev pub broken : Lexed → ProgramTree → List Break
broken l t = (check_step t (known_at_start l)).broken

-- the program that a tree denotes
abbrev pub program_of : Lexed → ProgramTree → ProgramRows
program_of l t = (check_step t (known_at_start l)).known.program
