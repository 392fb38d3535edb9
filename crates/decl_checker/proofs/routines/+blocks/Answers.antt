use Rattle.std.proofs.Common.{◌∙◌}
use Rattle.pas_tree.specs.BlockTrees.{routine_trees}
use Rattle.check_steps.proofs.Runs.{each_next}
use Rattle.decl_checker.proofs.Walks.{routine_done}
use Rattle.decl_checker.proofs.routines.+blocks.Goals as goal
use Rattle.decl_checker.specs.Routines.{next_routine}

pub check_routines-routines-preserved : goal.check_routines-routines-preserved
check_routines-routines-preserved t c =
    let rs = routine_trees c.args.routines.now in
    let r = c.routine-item.result in
    let w = c.routines.work in
    let u = c.check_body.new.work in
    let done = routine_done c.args.frame rs r w c.enter.new.work u c.in_ok-entered.entered c.in_ok-entered.ensures c.in_ok-check_body.ensures in
    each_next (next_routine c.args.frame rs) c.args.routines.now c.routines.routine-index tt tt r w u c.routines-test.true c.routine-item.is done ∙
    c.routines.invariant
