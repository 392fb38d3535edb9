use Rattle.std.proofs.Common.{◌&&◌, ◌∙◌, ap, arith}
use Rattle.call_tree.specs.Clear.{is_unjudged}
use Rattle.output_slice.proofs.LeftOutStays.{apart_is, many_routines, parent_inside, root_stays}
use Rattle.output_slice.proofs.left_out.is_apart.Goals as goal

pub has-requires : goal.has-requires
has-requires c =
    let inside = parent_inside c.args.calls.now.calls c.are_numbered.ensures.numbered c.args.call c.in-Some.parent c.call.result.now c.call.ensures.found
    c.in-Some.is in
    omega (arith, inside, c.requires.of_run)

pub has-requires-in-Some : goal.has-requires-in-Some
has-requires-in-Some c = omega (arith, c.requires.a_call, c.requires.of_run)

pub mark-requires : goal.mark-requires
mark-requires c = omega (arith, c.requires.a_call, many_routines c.args.calls.now.calls c.args.debug.now c.requires.those_calls)

pub returns-in-Some : goal.returns-in-Some
returns-in-Some c =
    c.both-in-Some.ensures ∙ ap (λ a. a && c.is_open.result) c.both.ensures
    ∙ apart_is c.args.debug.now c.args.calls.now.calls c.args.slice.now.pairs c.args.call c.in-Some.parent c.call.result.now c.call.ensures.found c.in-Some.is
    c.has.result c.has-in-Some.result c.is_open.result c.has.ensures c.has-in-Some.ensures (c.is_open.ensures ∙ ap is_unjudged c.mark.ensures)

pub returns-in-None : goal.returns-in-None
returns-in-None c = root_stays c.args.debug.now c.args.calls.now.calls c.args.slice.now.pairs c.args.call c.call.result.now c.call.ensures.found c.in-None.is
