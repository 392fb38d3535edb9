use Rattle.std.proofs.Common.{if◌then◌else◌, ◌&&◌, ◌∙◌, ap, is_some, length, nat_lt, not, true}
use Rattle.cell_value.specs.Effects.{given_of, made_of, taken_of}
use Rattle.output_slice.proofs.PairsAdded.{others_added, push_if}
use Rattle.output_slice.proofs.used.add_others.Goals as goal
use Rattle.output_slice.specs.Outputs.{is_returned}
use Rattle.output_slice.specs.declared.outputs.Output.TheVariants.{Gives, Makes, Takes, Way}

pub returns : goal.returns
returns c call f e w a wants g =
    let n = c.args.call in
    let asks = c.args.gathered in
    let needs = c.args.needs.now in
    let p2 = c.in_ok-push_if-2.ensures ∙ ap (λ l. push_if l c.both-gives.result (n, Gives)) c.in_ok-push_if.ensures in
    let p3 = c.in_ok-push_if-3.ensures ∙ ap (λ l. push_if l c.both-takes.result (n, Takes)) p2 in
    let p4 = c.in_ok-push_if-4.ensures ∙ ap (λ l. push_if l c.both-makes.result (n, Makes)) p3 in
    let p5 = c.in_ok-push_if-5.ensures ∙ ap (λ l. push_if l c.is_output.result (n, Way)) p4 in
    others_added c.args.pairs.now c.push_if-5.new.self n wants w call c.is_some.result c.both-gives.result c.both-takes.result c.both-makes.result
    c.is_output.result p5
    (c.is_some.ensures ∙ ap is_some e.result)
    (c.both-gives.ensures ∙ ap (λ k. nat_lt 0 k && asks.gives) (ap length (c.as_slice.ensures ∙ f.given))
    ∙ ap (λ b. nat_lt 0 (length (given_of call.log)) && b) g.gives)
    (c.both-takes.ensures ∙ ap (λ b. nat_lt 0 c.args.effect.now.taken && b) c.either.ensures
    ∙ ap (λ k. nat_lt 0 k && (if asks.takes then true else needs.input)) f.taken
    ∙ ap (λ b. nat_lt 0 (taken_of call.log) && (if b then true else needs.input)) g.takes
    ∙ ap (λ b. nat_lt 0 (taken_of call.log) && (if wants Takes then true else b)) a.input)
    (c.both-makes.ensures ∙ ap (λ b. nat_lt 0 c.args.effect.now.made && b) c.either-2.ensures
    ∙ ap (λ k. nat_lt 0 k && (if asks.makes then true else needs.heap)) f.made
    ∙ ap (λ b. nat_lt 0 (made_of call.log) && (if b then true else needs.heap)) g.makes
    ∙ ap (λ b. nat_lt 0 (made_of call.log) && (if wants Makes then true else b)) a.heap)
    (c.is_output.ensures ∙ ap (λ w. not (is_returned w)) e.way)
