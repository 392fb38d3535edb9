use Rattle.std.{proofs.Common.◌≡◌, specs.VecDeque.Iter.deque_iter_rest}
use Rattle.edge_ports.proofs.shelf.find.Given as goal
use Rattle.edge_ports.specs.{Entries.files_of, Files.file_at}

abbrev pub invariant-loop-entry : goal.invariant-loop-entry
invariant-loop-entry l = file_at (files_of l.entries.items) l.name ≡ file_at (files_of (deque_iter_rest l.entry-iterator)) l.name
