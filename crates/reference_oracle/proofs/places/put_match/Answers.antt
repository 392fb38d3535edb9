use Rattle.std.proofs.{Common.◌+◌, Common.◌∙◌, Common.Some, Common.arith, lemmas.List.length-set}
use Rattle.reference_oracle.proofs.PlacesPut.{cell_put}
use Rattle.reference_oracle.proofs.places.put_match.Goals as goal

pub cells-preserved : goal.cells-preserved
cells-preserved c =
    let both = c.args.both in
    let here = c.cells in
    record {
      size = length-set here.places (both.subject + here.k) (Some c.in-Some.place) ∙ here.invariant.size;
      put = cell_put here.places c.args.places.now both.subject both.reference here.k c.in-Some.place (omega (arith, here.invariant.size, c.requires.room))
          (let place = c.in-Some.ensures in omega (arith, place)) here.invariant.put;
    }
