use Rattle.std.proofs.Common.{◌*◌, ◌+◌, ◌≡◌, arith}
use Rattle.effect_log.proofs.ListsGoOn.{none_yet, up_to}
use Rattle.effect_log.proofs.page_lists.lists_of.Goals as goal

pub loop-page-init : goal.loop-page-init
loop-page-init c = none_yet c.args.log.now c.args.pages.now _ c.new.ensures c.new-2.ensures

pub loop-page-preserved : goal.loop-page-preserved
loop-page-preserved c =
    let next : c.loop-page.page * 32 + 32 ≡ (c.loop-page.page + 1) * 32 = omega arith in
    up_to c.args.log.now c.args.pages.now (c.loop-page.page * 32 + 32) ((c.loop-page.page + 1) * 32) c.pass.new.self next c.in_ok-pass.ensures

pub returns : goal.returns
returns c =
    let past = c.loop-page-test.false in
    let most = c.loop-page.auto.page-end in
    let last : c.loop-page.page * 32 ≡ 1048576 = omega arith in
    up_to c.args.log.now c.args.pages.now (c.loop-page.page * 32) 1048576 c.loop-page.lists last c.loop-page.invariant
