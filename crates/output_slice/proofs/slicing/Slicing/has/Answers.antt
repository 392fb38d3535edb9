use Rattle.std.proofs.Common.{◌∙◌, ◌≡◌, Some, ap, arith, is_some}
use Rattle.std.{proofs.lemmas.Option.slice_get_read, specs.List.slice_get}
use Rattle.output_slice.proofs.FirstPairs.{first_some}
use Rattle.output_slice.proofs.slicing.Slicing.has.Goals as goal
use Rattle.output_slice.specs.{Backward.some_at, SlicePairs.Sliced}

pub returns : goal.returns
returns c =
    let firsts = c.self.inside.firsts in
    let call = c.args.call in
    let many = ap (λ (s : Sliced). s.calls) c.self.view_is in
    let there : slice_get firsts.items call ≡ Some c.index.result.now =
    slice_get_read firsts.items firsts.len call c.index.result.now firsts.ok.0 (omega (arith, c.requires.a_call, many, firsts.ok.0)) c.index.ensures in
    c.is_some.ensures ∙ ap is_some (c.self.invariant.each call c.index.result.now there) ∙ first_some call c.self.inside.pairs
    ∙ ap (λ (s : Sliced). some_at call s.pairs) c.self.view_is
