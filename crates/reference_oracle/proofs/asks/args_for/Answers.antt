use Rattle.std.proofs.Common.{◌++◌, ◌+◌, ◌∙◌, ◌∷◌, [], ap, arith, drop, length, length-append, map}
use Rattle.reference_oracle.proofs.ListsWalked.{put_made}
use Rattle.reference_oracle.proofs.asks.args_for.Goals as goal
use Rattle.reference_oracle.specs.Asking.{moved_by}

pub values-preserved : goal.values-preserved
values-preserved c =
    let args = c.args.args.now in
    let here = c.values in
    let move = moved_by c.args.places.now in
    let added = c.in_ok-push-2.ensures.added ∙ ap (λ v. here.moved ++ v ∷ []) c.moved_value.ensures in
    let long = ap length added ∙ length-append here.moved (move c.at.result ∷ []) in
    let before = here.invariant.long in
    record {
      all = ap (λ l. l ++ map move (drop (here.i + 1) args)) added ∙ put_made move here.moved args here.i c.at.result c.at.ensures.found
          ∙ here.invariant.all;
      long = omega (arith, long, before);
    }
