use Rattle.std.proofs.Common.{◌∙◌, ◌≡◌, ap, length, replicate, rules, slice_index}
use Rattle.std.proofs.lemmas.List.{length-replicate}
use Rattle.output_slice.proofs.StampsTell.{no_stamp}
use Rattle.output_slice.proofs.cell_set.no_stamps.Goals as goal

pub returns-clause-each : goal.returns-clause-each
returns-clause-each c =
    let blank : c.in_ok-stamps.stamps.items ≡ replicate c.args.count 0 = search rules in
    ap length blank ∙ length-replicate c.args.count 0

pub returns-clause-none : goal.returns-clause-none
returns-clause-none c a =
    let blank : c.in_ok-stamps.stamps.items ≡ replicate c.args.count 0 = search rules in
    ap (λ l. slice_index l a) blank ∙ no_stamp c.args.count a
