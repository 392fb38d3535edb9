use Rattle.std.proofs.{Common.◌∙◌, Common.ap, Common.arith, Common.sym, lemmas.Bool.ne_eqb}
use Rattle.output_slice.proofs.NeedsBefore.{key_not_yet, key_there, take_whole}
use Rattle.output_slice.proofs.slices.has_change.Goals as goal
use Rattle.output_slice.specs.Keys.{has_key}

pub returns-then-at-addr : goal.returns-then-at-addr
returns-then-at-addr c = sym (key_there c.args.changes.now c.loop-i.i c.at.result c.args.addr c.at.ensures.found c.if-at-addr.true)

pub loop-i-preserved : goal.loop-i-preserved
loop-i-preserved c =
    key_not_yet c.args.changes.now c.loop-i.i c.at.result c.args.addr c.at.ensures.found (ne_eqb c.at.result.0 c.args.addr c.if-at-addr.false)
    c.loop-i.invariant

pub returns : goal.returns
returns c = sym (ap (has_key c.args.addr) (sym (take_whole c.args.changes.now c.loop-i.i (omega (arith, c.loop-i-test.false, c.len-i-end.ensures))))
    ∙ c.loop-i.invariant)
