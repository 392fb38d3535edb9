use Rattle.std.proofs.Common.{◌+◌, ◌/◌, ◌∙◌, ◌≤◌, None, arith, length, sym}
use Rattle.effect_log.proofs.PagesKeepCells.{any_default}
use Rattle.effect_log.proofs.cells.Pages.at.Goals as goal

inside : (c : goal.In-Some) → c.in-Some.start + 32 ≤ length c.args.self.now.cells.items
inside c =
    let paged = c.args.self.now.paged in
    let all = paged.all in
    let low = c.requires in
    paged.inside (c.args.addr / 32) c.in-Some.start
    (any_default c.args.self.now.starts.items (c.args.addr / 32) None c.index.result.now (omega arith) ∙ sym c.index.ensures ∙ c.in-Some.is)

pub overflow_add-start : goal.overflow_add-start
overflow_add-start c =
    let in_cells = inside c in
    let len = c.args.self.now.cells.ok in
    let small = c.args.self.now.cells.small in
    omega arith

pub index-requires-in-Some : goal.index-requires-in-Some
index-requires-in-Some c =
    let in_cells = inside c in
    let len = c.args.self.now.cells.ok in
    omega arith
