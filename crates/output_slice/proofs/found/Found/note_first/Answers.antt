use Rattle.std.proofs.Common.{◌∙◌, ◌≡◌, None, Some, ap, arith}
use Rattle.std.{proofs.lemmas.Option.slice_get_read, specs.List.slice_get}
use Rattle.output_slice.proofs.FirstPairs.{firsts_noted, firsts_same, firsts_stay}
use Rattle.output_slice.proofs.found.Found.note_first.Goals as goal

pub returns-then-place-len-clause-firsts : goal.returns-then-place-len-clause-firsts
returns-then-place-len-clause-firsts c before us e l h =
    let self = c.args.self.now in
    firsts_same self.firsts.items self.pairs before c.args.call c.args.place us e l (omega (arith, c.if-place-len.true, c.len.ensures)) h

pub returns-in-Some-clause-firsts : goal.returns-in-Some-clause-firsts
returns-in-Some-clause-firsts c before us e l h =
    let firsts = c.args.self.now.firsts in
    let there : slice_get firsts.items c.args.call ≡ Some (Some c.in-Some.field-0) =
    slice_get_read firsts.items firsts.len c.args.call c.index.result.now firsts.ok.0 (omega (arith, c.requires.a_place, firsts.ok.0)) c.index.ensures
    ∙ ap Some c.in-Some.is in
    firsts_stay firsts.items c.args.self.now.pairs before c.args.call c.in-Some.field-0 us e there h

pub returns-in-None-clause-firsts : goal.returns-in-None-clause-firsts
returns-in-None-clause-firsts c before us e l h =
    let firsts = c.args.self.now.firsts in
    let there : slice_get firsts.items c.args.call ≡ Some None =
    slice_get_read firsts.items firsts.len c.args.call c.index.result.now firsts.ok.0 (omega (arith, c.requires.a_place, firsts.ok.0)) c.index.ensures
    ∙ ap Some c.in-None.is in
    firsts_noted firsts.items c.args.self.now.pairs before c.args.call c.args.place us e l (omega (arith, c.if-place-len.false, c.len.ensures)) there h
