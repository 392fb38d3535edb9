-- What the steps of `Rattle.decl_checker.specs.Programs` keep.
use Rattle.std.proofs.Common.{ℕ, Bool, Some, false}
use Rattle.pas_tree.specs.{BlockTrees.ProgramTree, TreeNodes.tree_node}
use Rattle.check_steps.specs.Known.{frame_at}
use Rattle.decl_checker.specs.Programs.{define_program, main_row, open_program, program_step}
use Rattle.code_checker.proofs.{CheckRequired.open_outermost-holds, DeclareBlocks.define_block-holds, DeclareRoutines.block-holds, Within.Within}
use Rattle.code_checker.proofs.DeclareParameters.{program_parameters-holds}
use Rattle.code_checker.proofs.Steps.{Holds, add_routine-holds, bind-holds, give-holds, look-holds, open_region-holds}

pub open_program-holds : {size : ℕ} {later : Bool} → Holds size later (open_program)
unfolding open_program
open_program-holds = bind-holds open_outermost-holds (λ outer. open_region-holds 0 (Some outer) 0)

pub define_program-holds : {size : ℕ} (frame : ℕ) (t : ProgramTree) → Within size (tree_node t) → Holds size false (define_program frame t)
unfolding define_program
define_program-holds frame t t-in = bind-holds (look-holds (λ k. (frame_at k frame).region)) (λ region.
    bind-holds (program_parameters-holds region t.parameters t-in.1.1.0) (λ _. define_block-holds frame t.block t-in.1.1.1.1.0))

pub program_step-holds : {size : ℕ} (t : ProgramTree) → Within size (tree_node t) → Holds size false (program_step t)
unfolding program_step
program_step-holds t t-in = bind-holds open_program-holds (λ frame. bind-holds (define_program-holds frame t t-in) (λ _.
    bind-holds (add_routine-holds (main_row t.name)) (λ number. bind-holds (block-holds frame number 1 t.block t-in.1.1.1.1.0) (λ _. give-holds frame))))
