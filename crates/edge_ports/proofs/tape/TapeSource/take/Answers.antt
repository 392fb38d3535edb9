use Rattle.std.proofs.Common.{◌++◌, ◌∙◌, Some, ap, sym, take}
use Rattle.std.proofs.lemmas.List.{drop-drop, take_rest}
use Rattle.edge_ports.proofs.tape.TapeSource.take.Goals as goal

pub returns-clause-moved : goal.returns-clause-moved
returns-clause-moved c =
    let copied = rw (c.deref.ensures.value, take_rest) at c.copy_front-count.ensures.copied in
    ap Some
    (sym (ap (λ s. s.left) c.self.view_is)
    ∙ copied
    ∙ ap (λ l. take c.copy_front-count.result c.copy_front-count.new.to ++ l) (drop-drop c.copy_front-count.result c.self.inside.at c.self.inside.bytes.items))
