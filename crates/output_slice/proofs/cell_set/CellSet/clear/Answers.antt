use Rattle.std.proofs.Common.{◌∙◌, ◌≡◌, ap, arith, length, replicate, rules, slice_index}
use Rattle.std.proofs.lemmas.List.{length-replicate}
use Rattle.output_slice.proofs.StampsTell.{blank_has_none, blank_stamped, later_stamped, no_stamp, none_later}
use Rattle.output_slice.proofs.cell_set.CellSet.clear.Goals as goal

pub invariant_of-self : goal.invariant_of-self
invariant_of-self c =
    let old = c.args.self.now in
    record { stamped = later_stamped old.stamps.items old.stamp c.in-Some.stamp old.stamped (omega (arith, c.in-Some.ensures.1)) }

pub returns-in-Some : goal.returns-in-Some
returns-in-Some c a = let old = c.args.self.now in none_later old.stamps.items old.stamp c.in-Some.stamp a old.stamped (omega (arith, c.in-Some.ensures.1))

pub invariant_of-self-in-None : goal.invariant_of-self-in-None
invariant_of-self-in-None c =
    let old = c.args.self.now.stamps in
    let blank : c.fill.new.self.items ≡ replicate old.len 0 = search rules in
    record {
      stamped = blank_stamped c.fill.new.self.items (ap length blank ∙ length-replicate old.len 0 ∙ old.ok.0 ∙ c.args.self.now.stamped.each)
          (λ a. ap (λ l. slice_index l a) blank ∙ no_stamp old.len a);
    }

pub returns-in-None : goal.returns-in-None
returns-in-None c =
    let old = c.args.self.now.stamps in
    let blank : c.fill.new.self.items ≡ replicate old.len 0 = search rules in
    blank_has_none c.fill.new.self.items (λ a. ap (λ l. slice_index l a) blank ∙ no_stamp old.len a)
