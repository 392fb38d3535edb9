use Rattle.std.proofs.Common.{◌∙◌, ◌≡◌, Some, ap, option_map, sym}
use Rattle.pas_tree.specs.BlockTrees.{routine_tree, routine_trees}
use Rattle.check_steps.specs.Known.{row_at}
use Rattle.denoter_checker.proofs.Walks.{item_copied, routine_held}
use Rattle.denoter_checker.proofs.routine_parts.completion_of.Goals as goal
use Rattle.denoter_checker.specs.RoutineParts.{block_in, routine_if_any, routine_name}

pub returns-in-Some : goal.returns-in-Some
returns-in-Some c =
    let rs = c.args.routines.now in
    let at = c.in-Some.position in
    let block : block_in (row_at c.args.tables.now (routine_name (routine_tree c.args.routine.now))) ≡ Some at =
    cc (c.routine_name.ensures, c.row.ensures, c.block_in.ensures, c.in-Some.is) in
    ap (option_map routine_tree) (item_copied rs at c.get.result c.get.ensures.lookup)
    ∙ sym (routine_held rs at)
    ∙ ap (routine_if_any (routine_trees rs)) (sym block)
