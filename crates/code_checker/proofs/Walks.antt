-- Lists of a tree, item by item of what the code holds.
use Rattle.std.proofs.Common.{◌∷◌, ◌≡◌, [], List, ap, refl}
use Rattle.pas_tree.specs.{BlockTrees.routine_trees, declared.blocks.Routine.Routine}
use Rattle.check_steps.specs.Steps.{◌>>=◌, Step, each}
use Rattle.code_checker.specs.Blocks.{code_next_routine, code_routines}

pub routines_each : (u : Unit {0}) (rs : List Routine) → code_routines (routine_trees rs) ≡ each code_next_routine u rs
unfolding code_next_routine
routines_each u [] = refl
routines_each u (r ∷ rs) = ap (λ (h : Unit {0} → Step (Unit {0})). code_next_routine u r >>= h) (λ i v. routines_each v rs i)
