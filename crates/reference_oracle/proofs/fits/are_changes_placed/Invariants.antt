use Rattle.std.{proofs.Common.◌≡◌, proofs.Common.drop, specs.List.list_all}
use Rattle.reference_oracle.proofs.fits.are_changes_placed.Given as goal
use Rattle.reference_oracle.specs.Places.{has_place}

abbrev pub invariant-each : goal.invariant-each
invariant-each l = list_all (λ x. has_place l.places x.0) (drop l.i l.changes) ≡ list_all (λ x. has_place l.places x.0) l.changes
