-- What the steps of `Rattle.code_checker.specs.CheckedPrograms` keep.
use Rattle.std.proofs.Common.{ℕ, false}
use Rattle.pas_tree.specs.{BlockTrees.ProgramTree, TreeNodes.tree_node}
use Rattle.code_checker.proofs.{CodeBlocks.code_block-holds, DeclarePrograms.program_step-holds, Steps.Holds, Steps.bind-holds, Within.Within}
use Rattle.code_checker.specs.CheckedPrograms.{check_step}

pub check_step-holds : {size : ℕ} (t : ProgramTree) → Within size (tree_node t) → Holds size false (check_step t)
unfolding check_step
check_step-holds t t-in = bind-holds (program_step-holds t t-in) (λ frame. code_block-holds frame t.block t-in.1.1.1.1.0)
