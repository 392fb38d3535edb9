use Rattle.std.proofs.Common.{◌∙◌, ap, arith, slice_range, sym}
use Rattle.effect_log.proofs.SlicesGoOn.{slice_more}
use Rattle.output_slice.proofs.OutputsWanted.{asked_same, none_asked, pair_found, wants_more, wants_to_end, wants_up_to}
use Rattle.output_slice.proofs.found.Found.want_all.Goals as goal
use Rattle.output_slice.specs.{Backward.wants_at, Needed.with_output}

pub loop-i-init : goal.loop-i-init
loop-i-init c = none_asked c.args.call c.args.self.now.pairs c.args.first c.clear.new.self c.clear.ensures

pub loop-i-preserved : goal.loop-i-preserved
loop-i-preserved c =
    let pairs = c.args.self.now.pairs in
    let n = c.args.call in
    let x = c.in-Some.output in
    let found = pair_found n pairs c.loop-i.i x (sym c.output_of.ensures ∙ c.in-Some.is) in
    let so_far = slice_range pairs c.args.first c.loop-i.i in
    asked_same (with_output (wants_at n so_far) x) _ c.want.new.gathered c.want.new.needs
    (λ o. wants_more n so_far x o ∙ ap (λ l. wants_at n l o) (sym (slice_more pairs c.args.first c.loop-i.i (n, x) c.loop-i.auto.i found)))
    (c.want.ensures (wants_at n so_far) c.loop-i.invariant)

pub returns-in-None : goal.returns-in-None
returns-in-None c t =
    asked_same _ (wants_at c.args.call c.args.self.now.pairs) c.loop-i.gathered c.loop-i.needs
    (wants_up_to c.args.self.now.pairs c.args.call c.args.first c.loop-i.i t c.loop-i.auto.i (sym c.output_of.ensures ∙ c.in-None.is)) c.loop-i.invariant

pub returns : goal.returns
returns c t =
    asked_same _ (wants_at c.args.call c.args.self.now.pairs) c.loop-i.gathered c.loop-i.needs
    (wants_to_end c.args.self.now.pairs c.args.call c.args.first c.loop-i.i t c.loop-i.auto.i (omega (arith, c.loop-i-test.false, c.len-i-end.ensures)))
    c.loop-i.invariant
