use Rattle.std.{proofs.Common.◌≡◌, proofs.Common.drop, specs.List.list_all}
use Rattle.reference_oracle.proofs.fits.are_args_placed.Given as goal
use Rattle.reference_oracle.specs.Places.{is_placed}

abbrev pub invariant-values : goal.invariant-values
invariant-values l = list_all (is_placed l.places) (drop l.i l.args) ≡ list_all (is_placed l.places) l.args
