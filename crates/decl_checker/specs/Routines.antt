-- Blocks and their procedures and functions (6.2.1, 6.6).
use Rattle.std.specs.Prelude.{if◌then◌else◌, ◌+◌, ℕ, Bool, None, Option, Some, false, nat_lt}
use Rattle.pas_tree.specs.{BlockTrees.routine_tree, HeadingPlaces.heading_name, HeadingPlaces.heading_word}
use Rattle.pas_tree.specs.{HeadingTrees.HeadingTree, StatementPlaces.compound_word, declared.blocks.Routine.Routine}
use Rattle.pas_tree.specs.BlockTrees.{BlockTree, BodyTree, RoutineTree, RoutineTrees, routine_body, routine_heading}
use Rattle.pas_tree.specs.BlockTrees as tree
use Rattle.core_program.specs.{ProgramRows.frame_of, declared.program.Routine.Routine as RoutineRow}
use Rattle.core_program.specs.declared.rows.{NameRow.NameRow, PartRow.PartRow, Row.Row}
use Rattle.check_steps.specs.{Known.Known, Known.frame_at, Known.row_at, Regions.region_at}
use Rattle.check_steps.specs.Steps.{◌>>=◌, Step, add_routine, give, look, open_region, put}
use Rattle.kind_checker.specs.Sizes.{frame_capped}
use Rattle.denoter_checker.specs.{Formals.define_formals_at, Formals.is_function, Headings.signature}
use Rattle.denoter_checker.specs.RoutineParts.{completion_of, routine_name}
use Rattle.decl_checker.specs.{Blocks.define_block, Blocks.parts, Blocks.put_body, Scopes.routine_in}
use Rattle.decl_checker.specs.{Scopes.routine_region, Statements.compound_uses, declared.routines.Entered.Entered}

-- ---- regions of routines

-- one block more
abbrev pub one_deeper : ℕ → ℕ
one_deeper level = if nat_lt level 4294967295 then level + 1 else level

-- the region of a routine, inside the frame around; the number of its frame is given
unfoldable pub open_routine : ℕ → ℕ → Step ℕ
open_routine frame name = do
  level ← look (λ k. one_deeper (frame_at k frame).level)
  open_region name (Some frame) level

abbrev pub define_body : ℕ → BodyTree → Step (Unit {0})
define_body frame (tree.a_directive directive) = give tt
define_body frame (tree.a_block_body b) = define_block frame b

abbrev pub define_completion : ℕ → Option RoutineTree → Step (Unit {0})
define_completion frame None = give tt
define_completion frame (Some r) = define_body frame (routine_body r)

-- The formals and the block of a routine are one region; the block may be that of a later heading.
unfoldable pub define_inside : ℕ → HeadingTree → BodyTree → Option RoutineTree → Step (Unit {0})
define_inside frame h body completion = do
  _ ← define_formals_at frame h
  _ ← define_body frame body
  define_completion frame completion

-- ---- first headings

-- a function's result stands at the place after its parameters
abbrev pub result_place : Bool → ℕ → Option ℕ
result_place function end = if function then Some end else None

-- the place after the parameters and a function's result
abbrev pub place_after_result : Bool → ℕ → ℕ
place_after_result function end = if function then frame_capped (end + 1) else end

-- A routine whose block is not known so far, by the place after its parameters. Its own heading stands where its
-- list of statements would.
abbrev pub heading_row : HeadingTree → ℕ → ℕ → RoutineRow
heading_row h level end = record {
  name = heading_name h;
  heading = heading_word h;
  level = level;
  cells = place_after_result (is_function h) end;
  parameters = end;
  result = result_place (is_function h) end;
  statements = heading_word h;
  line = 0;
}

-- a new routine, by the place after its parameters; its number is given and stands at its name
unfoldable pub add_heading : ℕ → HeadingTree → ℕ → Step ℕ
add_heading frame h end = do
  here ← look (λ k. frame_at k frame)
  number ← add_routine (heading_row h here.level end)
  _ ← put (heading_name h) (Row.Name (NameRow.Routine false number here.region))
  give number

-- a routine's first heading, seen from the frame around, among the routines of its part
unfoldable pub first_heading : ℕ → RoutineTrees → RoutineTree → Step Entered
first_heading frame rs r = do
  completion ← look (λ k. completion_of k rs r)
  inner ← open_routine frame (routine_name r)
  _ ← define_inside inner (routine_heading r) (routine_body r) completion
  end ← signature frame inner (routine_heading r)
  number ← add_heading inner (routine_heading r) end
  give (record { number = number; frame = inner; place = place_after_result (is_function (routine_heading r)) end })

-- ---- completing headings

-- the name in the first heading of the routine that a heading completes
abbrev pub first_name : Row → Option ℕ
first_name (Row.Part (PartRow.Completing first)) = Some first
first_name r = None

-- the frame of a routine's region, by its name in its first heading
abbrev pub own_frame : Known → ℕ → ℕ
own_frame k name = (region_at k.regions (routine_region (row_at k name))).frame

-- a routine that was entered at its first heading, by the name there
abbrev pub resumed : Known → ℕ → Entered
resumed k name = record {
  number = routine_in (row_at k name) name;
  frame = own_frame k name;
  place = frame_of k.program (routine_in (row_at k name) name);
}

abbrev pub enter_at : Option ℕ → ℕ → RoutineTrees → RoutineTree → Step Entered
enter_at None frame rs r = first_heading frame rs r
enter_at (Some first) frame rs r = look (λ k. resumed k first)

-- a routine at one of its headings
unfoldable pub enter_heading : ℕ → RoutineTrees → RoutineTree → Step Entered
enter_heading frame rs r = do
  first ← look (λ k. first_name (row_at k (routine_name r)))
  enter_at first frame rs r

-- ---- blocks

abbrev mutual
  -- the block of the routine of a number, in its frame, with variables from a place on
  pub block : ℕ → ℕ → ℕ → BlockTree → Step (Unit {0})
  block frame number place (tree.a_block labels constants types variables routines body) = do
    end ← parts frame place (tree.a_block labels constants types variables routines body)
    _ ← put_body number end (compound_word body)
    _ ← routines_in frame routines routines
    compound_uses frame body

  -- routines in turn, seen from the frame around, among all those of their part
  pub routines_in : ℕ → RoutineTrees → RoutineTrees → Step (Unit {0})
  routines_in frame rs tree.end_of_routines = give tt
  routines_in frame rs (tree.more_routines r rest) = do
    _ ← routine frame rs r
    routines_in frame rs rest

  pub routine : ℕ → RoutineTrees → RoutineTree → Step (Unit {0})
  routine frame rs (tree.a_routine heading semicolon body last_semicolon) = do
    e ← enter_heading frame rs (tree.a_routine heading semicolon body last_semicolon)
    body_in e body

  pub body_in : Entered → BodyTree → Step (Unit {0})
  body_in e (tree.a_directive directive) = give tt
  body_in e (tree.a_block_body b) = block e.frame e.number e.place b

-- one more of what the code holds
unfoldable pub next_routine : ℕ → RoutineTrees → Unit {0} → Routine → Step (Unit {0})
next_routine frame rs u r = do
  e ← enter_heading frame rs (routine_tree r)
  body_in e (tree.body_tree r.body)
