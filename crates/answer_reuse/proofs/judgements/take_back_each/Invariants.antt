use Rattle.answer_book.specs.Entries.{entry_at}
use Rattle.answer_reuse.proofs.{ChangedOnce.Paying, OneByOne.Taking}
use Rattle.answer_reuse.proofs.judgements.take_back_each.Given as goal
use Rattle.answer_reuse.specs.Shared.{judges_in}

abbrev pub invariant-entries : goal.invariant-entries
invariant-entries g l = record {
  taking : Taking l.initial.debug (λ number. judges_in l.classes l.least (entry_at l.initial.debug.book.entries number)) l.initial.steps l.steps
      l.taken l.number l.debug;
  paying : Paying l.initial.debug l.classes l.least l.initial.steps l.steps l.number l.debug;
}
