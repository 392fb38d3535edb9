-- Programs (6.10).
use Rattle.std.specs.Prelude.{ℕ, List, None, Some}
use Rattle.pas_lexer.specs.Lexed.{Lexed}
use Rattle.pas_tree.specs.BlockTrees.{ProgramTree}
use Rattle.core_program.specs.declared.program.Routine.{Routine}
use Rattle.check_steps.specs.{Known.Known, Known.frame_at, Required.open_outermost, Words.known_at_start}
use Rattle.check_steps.specs.Steps.{◌>>=◌, Step, add_routine, give, look, open_region}
use Rattle.check_steps.specs.declared.breaks.Break.{Break}
use Rattle.decl_checker.specs.{Blocks.define_block, Parameters.program_parameters, Routines.block}

-- the program as routine 0, before its block is known
abbrev pub main_row : ℕ → Routine
main_row name = record {
  name = name;
  heading = 0;
  level = 0;
  cells = 1;
  parameters = 1;
  result = None;
  statements = 0;
  line = 0;
}

-- The region of the program block, which begins at the first token, inside the outermost one. The number of its frame
-- is given.
unfoldable pub open_program : Step ℕ
open_program = do
  outer ← open_outermost
  open_region 0 (Some outer) 0

-- the program parameters are defined in the region of the program block
unfoldable pub define_program : ℕ → ProgramTree → Step (Unit {0})
define_program frame t = do
  region ← look (λ k. (frame_at k frame).region)
  _ ← program_parameters region t.parameters
  define_block frame t.block

-- A program, the frame of whose block is given. Its own name defines nothing.
unfoldable pub program_step : ProgramTree → Step ℕ
program_step t = do
  frame ← open_program
  _ ← define_program frame t
  number ← add_routine (main_row t.name)
  _ ← block frame number 1 t.block
  give frame

-- the rules that a tree breaks
abbrev pub broken_early : Lexed → ProgramTree → List Break
broken_early l t = (program_step t (known_at_start l)).broken

-- the tables that the check of a tree leaves
abbrev pub tables_of : Lexed → ProgramTree → Known
tables_of l t = (program_step t (known_at_start l)).known
