use Rattle.std.proofs.Common.{◌∙◌, ap, length, nat_lt, subst, sym}
use Rattle.output_slice.proofs.KeptOfRuns.{entry_at, row_is}
use Rattle.output_slice.proofs.PassedBack.{gathered_so, longer, wanted_by, wanted_so, wants_by}
use Rattle.output_slice.proofs.passes.pass_child.Goals as goal
use Rattle.output_slice.specs.{Backward.used_of, Firsts.AreFirsts}

pub returns-clause-passed : goal.returns-clause-passed
returns-clause-passed c r k e q wants g w a =
    let child = c.args.child in
    let i = row_is k child e c.call-row.result.now q c.call-row.ensures.found in
    let f = c.in_ok-effect.ensures.of_call r k e q in
    let pairs = c.in_ok-add_used.ensures e.event f i.ended w a wants g in
    let us = used_of wants w e.event in
    let old = c.args.found.now.pairs in
    let used = ap (λ n. nat_lt n c.len.result) c.len-place.ensures ∙ ap (λ n. nat_lt (length old) n) c.len.ensures
    ∙ longer old c.add_used.new.pairs child us pairs in
    record { wanted = c.pass_call.ensures e.event us f used w a; pairs = c.note_first.ensures.pairs ∙ pairs }

pub returns-clause-firsts : goal.returns-clause-firsts
returns-clause-firsts c h =
    let r = c.requires.kept.0 in
    let k = c.requires.kept.1 in
    let child = c.args.child in
    let e = entry_at k child c.requires.a_call in
    let i = row_is k child e.0 c.call-row.result.now e.1 c.call-row.ensures.found in
    let f = c.in_ok-effect.ensures.of_call r k e.0 e.1 in
    let wants = wants_by c.args.gathered in
    let w = wanted_by c.args.needs.now in
    let pairs = c.in_ok-add_used.ensures e.0.event f i.ended w (wanted_so c.args.needs.now) wants (gathered_so c.args.gathered) in
    subst (λ l. AreFirsts l c.note_first.new.self.firsts.items) (sym c.note_first.ensures.pairs)
    (c.note_first.ensures.firsts c.args.found.now.pairs (used_of wants w e.0.event) pairs (sym c.len-place.ensures) h)
