-- What a procedure or function gives at its first heading.
use Rattle.std.proofs.Common.{ℕ, Option}
use Rattle.pas_tree.specs.BlockTrees.{RoutineTree, RoutineTrees, routine_body, routine_heading}
use Rattle.check_steps.specs.{Known.Known, declared.breaks.Break.Break}
use Rattle.denoter_checker.specs.RoutineParts.{completion_of, routine_name}
use Rattle.decl_checker.specs.Routines.{define_inside, first_heading}
use Rattle.rule_laws.proofs.{Gives.Gives, Gives.gives_first, Gives.gives_then, Keeping.look-keeps, Lasting.Lasting, LastsRoutines.open_routine-lasts}

-- what a first heading gives
pub first_gives : {G : RoutineTree → Type 0} {I : Known → Type 0} {Told : Break → Type 0} {X : Type 0} (c : Lasting G I) (frame : ℕ) (rs : RoutineTrees)
    (r : RoutineTree)
    → ((inner : ℕ) (completion : Option RoutineTree) → Gives I Told (define_inside inner (routine_heading r) (routine_body r) completion) X)
    → Gives I Told (first_heading frame rs r) X
unfolding first_heading
first_gives c frame rs r inside = gives_then (look-keeps (λ h. completion_of h rs r)) (λ completion.
    gives_then (open_routine-lasts c frame (routine_name r)) (λ inner. gives_first _ (inside inner completion)))
