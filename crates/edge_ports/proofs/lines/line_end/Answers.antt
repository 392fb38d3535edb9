use Rattle.std.{proofs.Common.◌+◌, proofs.Common.◌∙◌, proofs.Common.ap, proofs.Common.sym, proofs.lemmas.List.take_rest, specs.Option.option_map}
use Rattle.edge_ports.proofs.NextLineIsFirst.{line_end_of-from}
use Rattle.edge_ports.proofs.lines.line_end.Goals as goal

pub returns-in-Some : goal.returns-in-Some
returns-in-Some c =
    let found = rw take_rest at c.in-Some.ensures.place in
    sym (line_end_of-from c.args.bytes.now c.args.from c.requires.within c.requires.none ∙ ap (option_map (λ n. c.args.from + n)) (sym found))

pub returns-in-None : goal.returns-in-None
returns-in-None c =
    let found = rw take_rest at c.in-None.ensures.place in
    sym (line_end_of-from c.args.bytes.now c.args.from c.requires.within c.requires.none ∙ ap (option_map (λ n. c.args.from + n)) (sym found))
