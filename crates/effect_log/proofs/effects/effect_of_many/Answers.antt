use Rattle.std.proofs.Common.{slice_range}
use Rattle.effect_log.proofs.FoundGoesOn.{changes_are, reads_are}
use Rattle.effect_log.proofs.effects.effect_of_many.Goals as goal

pub returns : goal.returns
returns c =
    let touches = slice_range c.args.log.now c.args.from c.args.to in
    let found = c.in_ok-found.found in
    let all = c.in_ok-found.ensures in
    record {
      reads = reads_are c.args.base c.args.place c.args.log.now touches found all c.in_ok-reads.field-0 c.in_ok-reads.ensures;
      changes = changes_are c.args.base c.args.place c.args.log.now touches found all c.in_ok-reads.field-0 c.in_ok-reads.ensures;
      made = all.counts.made;
      looked = all.counts.looked;
      taken = all.counts.taken;
      given = all.counts.given;
    }
