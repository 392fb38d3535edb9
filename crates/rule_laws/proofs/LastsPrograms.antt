-- What the steps of `Rattle.decl_checker.specs.Programs` leave as it was.
use Rattle.std.proofs.Common.{ℕ, Some}
use Rattle.pas_tree.specs.BlockTrees.{ProgramTree, RoutineTree}
use Rattle.check_steps.specs.Known.{Known, frame_at}
use Rattle.decl_checker.specs.Programs.{define_program, open_program}
use Rattle.rule_laws.proofs.{Breaks.Each, Keeping.Keeps, Keeping.bind-keeps, Keeping.look-keeps, Lasting.Declaring, Lasting.Lasting, Lasting.open_region-lasts}
use Rattle.rule_laws.proofs.{LastsBlocks.define_block-lasts, LastsParameters.program_parameters-lasts, LastsRequired.open_outermost-lasts}
use Rattle.rule_laws.specs.NameLaws.{block_routines}

pub open_program-lasts : {G : RoutineTree → Type 0} {I : Known → Type 0} (kept : Lasting G I) → Keeps I (open_program)
unfolding open_program
open_program-lasts kept = bind-keeps (open_outermost-lasts kept) (λ outer. open_region-lasts kept 0 (Some outer) 0)

pub define_program-lasts : {G : RoutineTree → Type 0} {I : Known → Type 0} (kept : Declaring G I) (frame : ℕ) (t : ProgramTree)
    → Each G (block_routines t.block) → Keeps I (define_program frame t)
unfolding define_program
define_program-lasts kept frame t all = bind-keeps (look-keeps (λ k. (frame_at k frame).region)) (λ region.
    bind-keeps (program_parameters-lasts kept.kept region t.parameters) (λ _. define_block-lasts kept frame t.block all))
