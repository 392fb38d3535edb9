use Rattle.pas_tree.proofs.Parts.{parts}
use Rattle.pas_phrases.proofs.ReadLists.{list_read}
use Rattle.pas_denoters.proofs.headings.+headings.Goals as goal

pub read_next_formals-returns-clause-gives : goal.read_next_formals-returns-clause-gives
read_next_formals-returns-clause-gives t c = list_read parts.next_formal c.formals.invariant.so_far (cc)
