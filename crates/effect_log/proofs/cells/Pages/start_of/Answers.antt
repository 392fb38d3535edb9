use Rattle.std.proofs.Common.{◌++◌, ◌∙◌, ◌≡◌, None, arith, length, replicate, sym}
use Rattle.std.proofs.lemmas.List.{get_or-replicate}
use Rattle.effect_log.proofs.PagesKeepCells.{any_default, page_made}
use Rattle.effect_log.proofs.cells.Pages.start_of.Goals as goal
use Rattle.effect_log.specs.Paging.{blank_cell}

pub returns-in_ok-extend_from_slice-in-None-clause-same : goal.returns-in_ok-extend_from_slice-in-None-clause-same
returns-in_ok-extend_from_slice-in-None-clause-same c q =
    let starts = c.args.self.now.starts.items in
    let cells = c.args.self.now.cells.items in
    let all = c.args.self.now.paged.all in
    let low = c.requires in
    let items : c.extend_from_slice.new.self.items ≡ cells ++ replicate 32 blank_cell = c.in_ok-extend_from_slice-in-None.ensures.items in
    let start : c.len-start.result ≡ length cells = c.len-start.ensures ∙ c.args.self.now.cells.ok.0 in
    let missing = any_default starts c.args.page None c.index.result.now (omega arith) ∙ sym c.index.ensures ∙ c.in-None.is in
    rw (items, start) (page_made starts cells c.args.self.now.paged c.args.page (replicate 32 blank_cell) missing c.requires
    (λ place l. get_or-replicate 32 place blank_cell blank_cell l) q)
