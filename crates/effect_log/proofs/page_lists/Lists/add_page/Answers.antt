use Rattle.std.proofs.Common.{◌*◌, ◌+◌, ◌≡◌, arith}
use Rattle.effect_log.proofs.ListsGoOn.{up_to}
use Rattle.effect_log.proofs.page_lists.Lists.add_page.Goals as goal

pub loop-place-init : goal.loop-place-init
loop-place-init c =
    let same : c.args.page * 32 ≡ c.args.page * 32 + 0 = omega arith in
    up_to c.args.log.now c.args.pages.now (c.args.page * 32) (c.args.page * 32 + 0) c.args.self.now same c.requires.so_far

pub loop-place-preserved : goal.loop-place-preserved
loop-place-preserved c =
    let next : c.args.page * 32 + c.loop-place.place + 1 ≡ c.args.page * 32 + (c.loop-place.place + 1) = omega arith in
    up_to c.args.log.now c.args.pages.now (c.args.page * 32 + c.loop-place.place + 1) (c.args.page * 32 + (c.loop-place.place + 1)) c.add.new.self next
    c.in_ok-add.ensures
