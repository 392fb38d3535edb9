use Rattle.std.proofs.Common.{◌==◌, ◌∙◌, ap, cond}
use Rattle.effect_log.proofs.PagesKeepCells.{cell_set}
use Rattle.effect_log.proofs.cells.Pages.put.Goals as goal

pub returns : goal.returns
returns c q =
    let now = c.start_of.new.self in
    cell_set now.starts.items now.cells.items now.paged c.args.addr c.in_ok-start.start c.args.cell c.in_ok-start.ensures.start q
    ∙ ap (λ cell. cond (q == c.args.addr) c.args.cell cell) (c.in_ok-start.ensures.same q)
