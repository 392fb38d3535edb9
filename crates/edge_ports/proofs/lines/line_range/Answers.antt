use Rattle.std.proofs.Common.{◌+◌, ◌-◌, ◌∙◌, ◌≡◌, ap, arith, get_or, inl, sym}
use Rattle.std.{proofs.lemmas.Bool.Decides.Decides-eqb, proofs.lemmas.List.Quantifiers.position-Some, specs.List.slice_index}
use Rattle.edge_ports.proofs.lines.line_range.Goals as goal
use Rattle.edge_ports.specs.Lines.{is_line_end}

pub returns-in-Some-clause-end : goal.returns-in-Some-clause-end
returns-in-Some-clause-end c =
    let place = position-Some is_line_end c.args.bytes.now c.in-Some.place 0 (sym c.requires ∙ c.in-Some.is) in
    let before : c.in-Some.place + 1 - 1 ≡ c.in-Some.place = omega arith in
    inl (ap (slice_index c.args.bytes.now) before ∙ (Decides-eqb (get_or c.args.bytes.now c.in-Some.place 0) 10).0 place.1)
