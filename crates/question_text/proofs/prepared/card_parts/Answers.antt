use Rattle.std.proofs.Common.{◌∙◌, ◌≡◌, Some, subst, sym}
use Rattle.call_tree.specs.{Told.part_of, declared.records.Call.Call}
use Rattle.question_text.proofs.prepared.card_parts.Goals as goal
use Rattle.question_text.specs.Prepared.{IsDoneIn}

pub done_by-requires : goal.done_by-requires
done_by-requires c = c.requires.told c.call.result.now c.call.ensures.found

pub returns : goal.returns
returns c = record {
  opened = c.in_ok-opened.ensures;
  done = λ call found.
      let both : Some c.call.result.now ≡ Some call = sym c.call.ensures.found ∙ found in
      let same : c.call.result.now ≡ call = cc in
      subst (λ (k : Call). IsDoneIn (part_of c.args.from.now.log.now k) k c.in_ok-done.done) same c.in_ok-done.ensures;
}
