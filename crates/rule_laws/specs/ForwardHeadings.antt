-- Forward headings and the headings that complete them (6.6.1), as the text has them.
use Rattle.std.specs.Prelude.{if◌then◌else◌, ◌&&◌, ◌∷◌, [], ℕ, Bool, List, false, nat_eq, not, true}
use Rattle.std.specs.List.{list_any}
use Rattle.pas_tree.specs.BlockTrees.{BodyTree, RoutineTree, RoutineTrees, routine_body, routine_heading}
use Rattle.pas_tree.specs.BlockTrees as tree
use Rattle.pas_tree.specs.HeadingTrees.{HeadingTree}
use Rattle.check_steps.specs.Known.{Known, name_at}
use Rattle.denoter_checker.specs.{Formals.is_function, RoutineParts.is_forward, RoutineParts.routine_name}

-- the routines of a part, in the order of the text
abbrev pub routines_in : RoutineTrees → List RoutineTree
routines_in tree.end_of_routines = []
routines_in (tree.more_routines r rest) = r ∷ routines_in rest

-- whether a block follows the heading, and no directive
abbrev pub is_block : BodyTree → Bool
is_block (tree.a_directive directive) = false
is_block (tree.a_block_body b) = true

-- whether `forward` follows the heading
abbrev pub has_forward : Known → BodyTree → Bool
has_forward k (tree.a_directive directive) = is_forward k directive
has_forward k (tree.a_block_body b) = false

-- whether both are procedures or both functions
abbrev pub same_kind : HeadingTree → HeadingTree → Bool
same_kind g h = if is_function g then is_function h else not (is_function h)

-- whether this routine has the block of a forward heading: a block, its kind and its name
abbrev pub completes : Known → RoutineTree → RoutineTree → Bool
completes k forward r = is_block (routine_body r) && same_kind (routine_heading forward) (routine_heading r)
    && nat_eq (name_at k (routine_name forward)) (name_at k (routine_name r))

-- whether one of these does
abbrev pub are_completing : Known → RoutineTree → List RoutineTree → Bool
are_completing k forward rs = list_any (completes k forward) rs

-- ---- which heading completes the first one of its name

-- whether both have one name
abbrev pub have_one_name : Known → RoutineTree → RoutineTree → Bool
have_one_name k q r = nat_eq (name_at k (routine_name q)) (name_at k (routine_name r))

-- whether one of these has a routine's name
abbrev pub is_named : Known → List RoutineTree → RoutineTree → Bool
is_named k before r = list_any (λ q. have_one_name k q r) before

-- Whether a routine has the block of the first one of its name among those before it: that is forward, and none between
-- them has its block.
abbrev pub is_second : Known → List RoutineTree → RoutineTree → Bool
is_second k [] r = false
is_second k (q ∷ qs) r =
    if have_one_name k q r then has_forward k (routine_body q) && (completes k q r && not (are_completing k q qs))
    else is_second k qs r

-- the name of the first of some routines that has the name of one, or else of this one
abbrev pub name_of_first : Known → List RoutineTree → RoutineTree → ℕ
name_of_first k [] r = routine_name r
name_of_first k (q ∷ qs) r = if have_one_name k q r then routine_name q else name_of_first k qs r
