use Rattle.session_file.proofs.NotesRise.{one_more}
use Rattle.session_file.proofs.notes.Notes.set.Goals as goal

pub invariant_of-self-2 : goal.invariant_of-self-2
invariant_of-self-2 c =
    one_more c.self.inside.noted.entries c.insert.new.self.entries c.args.entry c.args.note.now _ c.in_ok-insert.ensures.entries c.in_ok-text.ensures.ok
    c.self.invariant c.requires.first c.requires.last c.requires.note c.in_ok-insert.ensures.ordered
