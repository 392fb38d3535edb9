use Rattle.std.proofs.Common.{◌∙◌, ℕ, Bool, sym}
use Rattle.cell_value.specs.declared.entries.Seen.{Seen}
use Rattle.reference_oracle.proofs.ListsWalked.{all_failed, all_passed}
use Rattle.reference_oracle.proofs.fits.are_reads_placed.Goals as goal
use Rattle.reference_oracle.specs.Places.{has_place}

pub returns-then-not-has_place : goal.returns-then-not-has_place
returns-then-not-has_place c =
    let placed : ℕ × Seen → Bool = λ x. has_place c.args.places.now x.0 in
    all_failed placed c.args.reads.now c.each.i c.at-address.result c.at-address.ensures.found (sym c.has_place.ensures ∙ c.if-not-has_place.true)
    ∙ c.each.invariant

pub each-preserved : goal.each-preserved
each-preserved c =
    let placed : ℕ × Seen → Bool = λ x. has_place c.args.places.now x.0 in
    all_passed placed c.args.reads.now c.each.i c.at-address.result c.at-address.ensures.found (sym c.has_place.ensures ∙ c.if-not-has_place.false)
    ∙ c.each.invariant
