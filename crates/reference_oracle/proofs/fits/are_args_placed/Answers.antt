use Rattle.std.proofs.Common.{◌∙◌, sym}
use Rattle.reference_oracle.proofs.ListsWalked.{all_failed, all_passed}
use Rattle.reference_oracle.proofs.fits.are_args_placed.Goals as goal
use Rattle.reference_oracle.specs.Places.{is_placed}

pub returns-then-not-is_placed : goal.returns-then-not-is_placed
returns-then-not-is_placed c =
    all_failed (is_placed c.args.places.now) c.args.args.now c.values.i c.at.result c.at.ensures.found
    (sym c.is_placed.ensures ∙ c.if-not-is_placed.true) ∙ c.values.invariant

pub values-preserved : goal.values-preserved
values-preserved c =
    all_passed (is_placed c.args.places.now) c.args.args.now c.values.i c.at.result c.at.ensures.found
    (sym c.is_placed.ensures ∙ c.if-not-is_placed.false) ∙ c.values.invariant
