use Rattle.std.proofs.{Common.◌≡◌, Common.arith, Common.length, lemmas.List.same_lists}
use Rattle.subtree_weights.proofs.counting.start_anew.Goals as goal

pub returns-clause-marks : goal.returns-clause-marks
returns-clause-marks g c =
    let long : length c.loop-place.kept ≡ length c.args.marks.now = omega (arith, c.loop-place.auto.kept) in
    same_lists c.loop-place.kept c.args.marks.now long (λ k d inside. c.loop-place.invariant.0 k d (omega arith))
