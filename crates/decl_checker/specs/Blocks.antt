-- The parts of a block: the names that they define, and what they say of constants, types and variables (6.2.1).
use Rattle.std.specs.Prelude.{ℕ, None, Option, Some}
use Rattle.pas_tree.specs.{BlockTrees.routine_heading, HeadingPlaces.heading_word, StatementTrees.CompoundTree}
use Rattle.pas_tree.specs.BlockTrees.{BlockTree, ConstantPartTree, RoutineTrees, TypePartTree, VariablePartTree}
use Rattle.pas_tree.specs.BlockTrees as tree
use Rattle.pas_tree.specs.StatementPlaces.{compound_word}
use Rattle.core_program.specs.{ProgramRows.routine_at, declared.program.Routine.Routine as RoutineRow}
use Rattle.check_steps.specs.Known.{frame_at, line_at}
use Rattle.check_steps.specs.Steps.{◌>>=◌, Step, each, give, look, put_routine}
use Rattle.kind_checker.specs.Constants.{constant_part, constants_in, define_constant}
use Rattle.denoter_checker.specs.{Parts.variables_in, RoutineParts.define_routines}
use Rattle.denoter_checker.specs.Parts.{define_type, define_variable, type_part, types_in, variable_declaration}
use Rattle.decl_checker.specs.Labels.{define_labels}

-- ---- names

abbrev pub define_constants : ℕ → Option ConstantPartTree → Step (Unit {0})
define_constants region None = give tt
define_constants region (Some p) = each (define_constant region) tt (constants_in p)

abbrev pub define_types : ℕ → Option TypePartTree → Step (Unit {0})
define_types region None = give tt
define_types region (Some p) = each (define_type region) tt (types_in p)

abbrev pub define_variables : ℕ → Option VariablePartTree → Step (Unit {0})
define_variables region None = give tt
define_variables region (Some p) = each (define_variable region) tt (variables_in p)

-- All names that a block defines, in the region of a frame. They are defined before any of them is looked up.
abbrev pub define_block : ℕ → BlockTree → Step (Unit {0})
define_block frame (tree.a_block labels consts kinds variable_part routines body) = do
  here ← look (λ k. frame_at k frame)
  _ ← define_labels here labels
  _ ← define_constants here.region consts
  _ ← define_types here.region kinds
  _ ← define_variables here.region variable_part
  define_routines here.region routines

-- ---- constants, types and variables

abbrev pub constants : ℕ → Option ConstantPartTree → Step (Unit {0})
constants frame None = give tt
constants frame (Some p) = each (constant_part frame) tt (constants_in p)

abbrev pub types : ℕ → ℕ → Option TypePartTree → Step (Unit {0})
types frame after None = give tt
types frame after (Some p) = type_part frame after p

-- the variables from a place in the frame on; the place after them is given
abbrev pub variables : ℕ → ℕ → Option VariablePartTree → Step ℕ
variables frame place None = give place
variables frame place (Some p) = each (variable_declaration frame) place (variables_in p)

abbrev pub first_word : RoutineTrees → CompoundTree → ℕ
first_word tree.end_of_routines body = compound_word body
first_word (tree.more_routines r rest) body = heading_word (routine_heading r)

abbrev pub word_after : Option VariablePartTree → RoutineTrees → CompoundTree → ℕ
word_after None rs body = first_word rs body
word_after (Some p) rs body = p.word

-- the token after the part of types
abbrev pub after_types : BlockTree → ℕ
after_types (tree.a_block labels consts kinds variable_part routines body) = word_after variable_part routines body

-- what a block's parts say, seen from its frame; the place after its variables is given
abbrev pub parts : ℕ → ℕ → BlockTree → Step ℕ
parts frame place (tree.a_block labels consts kinds variable_part routines body) = do
  _ ← constants frame consts
  _ ← types frame (word_after variable_part routines body) kinds
  variables frame place variable_part

-- ---- routines

abbrev pub put_held : ℕ → Option RoutineRow → Step (Unit {0})
put_held number None = give tt
put_held number (Some r) = put_routine number r

abbrev pub with_body : Option RoutineRow → ℕ → ℕ → ℕ → Option RoutineRow
with_body None cells begin line = None
with_body (Some r) cells begin line = Some (record r { cells = cells; statements = begin; line = line })

-- the cells of a routine's frame, and its statement part, which begins at a token
unfoldable pub put_body : ℕ → ℕ → ℕ → Step (Unit {0})
put_body number cells begin = do
  r ← look (λ k. with_body (routine_at k.program number) cells begin (line_at k begin))
  put_held number r
