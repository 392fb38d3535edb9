-- The steps over a part with procedures and functions, routine by routine.
use Rattle.std.proofs.Common.{◌≡◌, ℕ, List, ap, refl}
use Rattle.pas_tree.specs.BlockTrees.{RoutineTree, RoutineTrees}
use Rattle.pas_tree.specs.BlockTrees as tree
use Rattle.check_steps.specs.Steps.{◌>>=◌, Step, each}
use Rattle.denoter_checker.specs.RoutineParts.{define_each_routine, define_routine, define_routines, has_block, have_blocks}
use Rattle.rule_laws.specs.ForwardHeadings.{routines_in}

abbrev pub has_each : Unit {0} → RoutineTree → Step (Unit {0})
has_each u r = has_block r

definitions_listed : (region position : ℕ) (rs : RoutineTrees)
    → define_each_routine region position rs ≡ each (define_routine region) position (routines_in rs)
definitions_listed region position tree.end_of_routines = refl
definitions_listed region position (tree.more_routines r rest) =
    ap (λ (h : ℕ → Step ℕ). define_routine region position r >>= h) (λ i next. definitions_listed region next rest i)

blocks_listed : (u : Unit {0}) (rs : RoutineTrees) → have_blocks rs ≡ each has_each u (routines_in rs)
blocks_listed u tree.end_of_routines = refl
blocks_listed u (tree.more_routines r rest) = ap (λ (h : Unit {0} → Step (Unit {0})). has_block r >>= h) (λ i v. blocks_listed v rest i)

-- what is done with a part, by the list of its routines
abbrev pub part_steps : ℕ → List RoutineTree → Step (Unit {0})
part_steps region rs = each (define_routine region) 0 rs >>= λ _. each has_each tt rs

pub part_listed : (region : ℕ) (rs : RoutineTrees) → define_routines region rs ≡ part_steps region (routines_in rs)
part_listed region rs = λ i. definitions_listed region 0 rs i >>= λ _. blocks_listed tt rs i
