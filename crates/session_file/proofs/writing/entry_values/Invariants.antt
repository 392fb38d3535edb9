use Rattle.session_file.proofs.EntriesInOrder.{AreMade}
use Rattle.session_file.proofs.writing.entry_values.Given as goal

abbrev pub invariant-places : goal.invariant-places
invariant-places l = AreMade l.notes l.entries l.place l.values.items
