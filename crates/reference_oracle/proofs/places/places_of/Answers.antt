use Rattle.std.proofs.Common.{◌≡◌, ℕ, None, Option, ap, arith, length, replicate, rules, subst, sym}
use Rattle.std.proofs.lemmas.List.{length-replicate}
use Rattle.reference_oracle.proofs.PlacesPut.{none_placed}
use Rattle.reference_oracle.proofs.places.places_of.Goals as goal
use Rattle.reference_oracle.specs.Places.{EndsBefore}

pub each-init : goal.each-init
each-init c =
    let ms = c.args.matches.now in
    let places = c.in_ok-places.places.items in
    let blank : places ≡ replicate c.end_of.result None = search rules in
    let long : length places ≡ c.end_of.result = omega (arith, ap length blank, length-replicate {A = Option ℕ} c.end_of.result None) in
    record {
      within = omega arith;
      room = subst (EndsBefore ms) (sym long) c.end_of.ensures;
      places = none_placed ms places c.end_of.result blank;
    }
