-- The procedures and functions of a block: which names they define, and which heading completes which (6.2.1, 6.6.1,
-- 6.6.2).
use Rattle.std.specs.Prelude.{if◌then◌else◌, ◌+◌, ℕ, Bool, None, Option, Some, codes, false, min, nat_eq, not, suc}
use Rattle.std.specs.Prelude.{true, zero}
use Rattle.pas_tree.specs.{HeadingPlaces.heading_name, HeadingTrees.HeadingTree, HeadingTrees.HeldFormals}
use Rattle.pas_tree.specs.BlockTrees.{BodyTree, RoutineTree, RoutineTrees, routine_body, routine_heading, routine_tree}
use Rattle.pas_tree.specs.BlockTrees as tree
use Rattle.pas_tree.specs.HeadingTrees as headings
use Rattle.pas_tree.specs.declared.{blocks.Routine.Routine, headings.ResultType.ResultType}
use Rattle.core_program.specs.declared.rows.{PartRow.PartRow, Row.Row}
use Rattle.check_steps.specs.{Known.Known, Known.name_at, Known.row_at, Names.define_in, Regions.defined_in}
use Rattle.check_steps.specs.{Words.number_of_name, declared.regions.Def.Def, declared.regions.Definition.Definition}
use Rattle.check_steps.specs.Steps.{◌>>=◌, Step, early, give, look, put, when}
use Rattle.denoter_checker.specs.Formals.{formals_of, is_complete, is_function, opening_parenthesis, result_of}

-- the token of the name in a routine's heading
abbrev pub routine_name : RoutineTree → ℕ
routine_name r = heading_name (routine_heading r)

-- ---- which heading completes which

-- a forward heading of a procedure, or of a function, that has no block so far
abbrev pub awaits : Bool → Row → Bool
awaits function (Row.Part (PartRow.Forward forward None)) = if forward then function else not function
awaits function r = false

abbrev pub awaiting : Known → Bool → Option Definition → Option ℕ
awaiting k function None = None
awaiting k function (Some d) = if awaits function (row_at k d.token) then Some d.token else None

-- The name in the forward heading that a heading with this body completes. It has a block, and its region defines its
-- name as a forward heading of its kind without a block so far.
abbrev pub completed_by : Known → ℕ → HeadingTree → BodyTree → Option ℕ
completed_by k region h (tree.a_directive directive) = None
completed_by k region h (tree.a_block_body b) =
    awaiting k (is_function h) (defined_in k.regions region (name_at k (heading_name h)))

-- ---- definitions

-- A routine may be used from its name on. Rule 2: a region defines a name a second time. Rule 9: a function heading
-- without result type completes nothing.
unfoldable pub define_heading : ℕ → HeadingTree → Step (Unit {0})
define_heading region h = do
  _ ← define_in region (record {
    def = Def.Routine (heading_name h);
    token = heading_name h;
    end = heading_name h;
  })
  early 9 (heading_name h) (is_complete h)

abbrev pub is_this_number : Option ℕ → ℕ → Bool
is_this_number None n = false
is_this_number (Some m) n = nat_eq m n

-- whether a directive is `forward`, in letters of either case
abbrev pub is_forward : Known → ℕ → Bool
is_forward k directive = is_this_number (number_of_name k.names (codes "forward")) (name_at k directive)

-- Rule 10: a directive other than forward. After `forward` the heading waits for a block.
unfoldable pub directed : HeadingTree → ℕ → Step (Unit {0})
directed h directive = do
  forward ← look (λ k. is_forward k directive)
  _ ← early 10 directive forward
  when forward (put (heading_name h) (Row.Part (PartRow.Forward (is_function h) None)))

abbrev pub directive_in : HeadingTree → BodyTree → Step (Unit {0})
directive_in h (tree.a_directive directive) = directed h directive
directive_in h (tree.a_block_body b) = give tt

unfoldable pub defining : ℕ → HeadingTree → BodyTree → Step (Unit {0})
defining region h body = do
  _ ← define_heading region h
  directive_in h body

-- ---- completions

-- rule 9: a completing heading has formals, at the `(`
abbrev pub without_formals : HeldFormals → Step (Unit {0})
without_formals headings.without_formals = give tt
without_formals (headings.some_formals f) = early 9 (opening_parenthesis f) false

-- rule 9: or it has a result type, at the `:`
abbrev pub no_result : Option ResultType → Step (Unit {0})
no_result None = give tt
no_result (Some r) = early 9 r.colon false

-- It defines nothing. At the first name it is put down which routine of the part this is, and at its own the first
-- name.
unfoldable pub completing : ℕ → ℕ → HeadingTree → Step (Unit {0})
completing first position h = do
  _ ← without_formals (formals_of h)
  _ ← no_result (result_of h)
  _ ← put first (Row.Part (PartRow.Forward (is_function h) (Some position)))
  put (heading_name h) (Row.Part (PartRow.Completing first))

abbrev pub complete_or_define : Option ℕ → ℕ → ℕ → HeadingTree → BodyTree → Step (Unit {0})
complete_or_define None region position h body = defining region h body
complete_or_define (Some first) region position h body = completing first position h

-- ---- the routines of a part

-- a routine by its position in its part; that of the next one is given
unfoldable pub define_routine : ℕ → ℕ → RoutineTree → Step ℕ
define_routine region position r = do
  first ← look (λ k. completed_by k region (routine_heading r) (routine_body r))
  _ ← complete_or_define first region position (routine_heading r) (routine_body r)
  give (min (position + 1) 4294967295)

abbrev pub is_waiting : Row → Bool
is_waiting (Row.Part (PartRow.Forward function None)) = true
is_waiting r = false

-- rule 8: a forward heading has no block later in the same part
unfoldable pub has_block : RoutineTree → Step (Unit {0})
has_block r = do
  waiting ← look (λ k. is_waiting (row_at k (routine_name r)))
  early 8 (routine_name r) (not waiting)

abbrev pub define_each_routine : ℕ → ℕ → RoutineTrees → Step ℕ
define_each_routine region position tree.end_of_routines = give position
define_each_routine region position (tree.more_routines r rest) = do
  next ← define_routine region position r
  define_each_routine region next rest

abbrev pub have_blocks : RoutineTrees → Step (Unit {0})
have_blocks tree.end_of_routines = give tt
have_blocks (tree.more_routines r rest) = do
  _ ← has_block r
  have_blocks rest

-- the names of the routines of a part, in the region of the block
abbrev pub define_routines : ℕ → RoutineTrees → Step (Unit {0})
define_routines region rs = do
  _ ← define_each_routine region 0 rs
  have_blocks rs

-- one more of what the code holds
unfoldable pub define_next_routine : ℕ → ℕ → Routine → Step ℕ
define_next_routine region position r = define_routine region position (routine_tree r)

unfoldable pub next_has_block : Unit {0} → Routine → Step (Unit {0})
next_has_block u r = has_block (routine_tree r)

-- ---- the block of a forward heading

abbrev pub block_in : Row → Option ℕ
block_in (Row.Part (PartRow.Forward function block)) = block
block_in r = None

-- the routine at a position of a part, if it has so many
abbrev pub routine_at : RoutineTrees → ℕ → Option RoutineTree
routine_at tree.end_of_routines position = None
routine_at (tree.more_routines r rest) zero = Some r
routine_at (tree.more_routines r rest) (suc position) = routine_at rest position

abbrev pub routine_if_any : RoutineTrees → Option ℕ → Option RoutineTree
routine_if_any rs None = None
routine_if_any rs (Some position) = routine_at rs position

-- of a routine with a forward heading the one of the part that has its block
abbrev pub completion_of : Known → RoutineTrees → RoutineTree → Option RoutineTree
completion_of k rs r = routine_if_any rs (block_in (row_at k (routine_name r)))
