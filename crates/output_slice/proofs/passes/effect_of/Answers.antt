use Rattle.std.proofs.Common.{◌<◌, All, subst, sym}
use Rattle.call_tree.specs.Told.{part_of}
use Rattle.output_slice.proofs.{KeptOfRuns.effect_is, KeptOfRuns.told_at, NeedsBefore.changes_inside}
use Rattle.output_slice.proofs.passes.effect_of.Goals as goal

pub effect-requires : goal.effect-requires
effect-requires c =
    let told = told_at c.requires.kept.1 c.args.call c.call-row.result.now c.call-row.ensures.found in
    record {
      in_order = told.in_order;
      in_log = told.in_log;
      countable = told.countable;
      made_fits = told.made_fits;
      taken_fits = told.taken_fits;
    }

pub returns-clause-of_call : goal.returns-clause-of_call
returns-clause-of_call c r k e q =
    let found = c.in_ok-found.ensures in
    effect_is k c.args.call c.call-row.result.now c.in_ok-found.found c.call-row.ensures.found found.reads found.changes found.made found.looked
    found.taken found.given e q

pub returns-clause-inside : goal.returns-clause-inside
returns-clause-inside c =
    let row = c.call-row.result.now in
    subst (All (λ x. x.0 < 1048576)) (sym c.in_ok-found.ensures.changes) (changes_inside row.entry.top (part_of c.args.run.now.log row))
