use Rattle.std.proofs.Common.{◌++◌, ◌+◌, ◌∙◌, ◌∷◌, [], ap, arith, drop, length, length-append}
use Rattle.reference_oracle.proofs.ListsWalked.{put_next}
use Rattle.reference_oracle.proofs.asks.items_from.Goals as goal

pub items-preserved : goal.items-preserved
items-preserved c =
    let items = c.args.items.now in
    let here = c.items in
    let x = c.at.result in
    let long = ap length c.in_ok-push.ensures.added ∙ length-append here.rest (x ∷ []) in
    let few = here.invariant.few in
    record {
      all = ap (λ l. l ++ drop (here.i + 1) items) c.in_ok-push.ensures.added ∙ put_next here.rest items here.i x c.at.ensures.found ∙ here.invariant.all;
      few = omega (arith, long, few);
    }
