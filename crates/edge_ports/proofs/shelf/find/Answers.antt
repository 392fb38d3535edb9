use Rattle.std.{proofs.Common.◌∙◌, proofs.Common.ap, proofs.Common.sym, proofs.lemmas.List.nil_from_length, specs.VecDeque.Iter.deque_iter_rest}
use Rattle.edge_ports.proofs.NewestFileCounts.{file_at_none}
use Rattle.edge_ports.proofs.shelf.find.Goals as goal
use Rattle.edge_ports.specs.{Entries.files_of, Files.file_at}

pub returns : goal.returns
returns c =
    sym (c.loop-entry.invariant
    ∙ ap (λ l. file_at (files_of l) c.args.name.now) (nil_from_length (deque_iter_rest c.loop-entry.entry-iterator) c.in-None.ensures.steps.0)
    ∙ file_at_none c.args.name.now)
