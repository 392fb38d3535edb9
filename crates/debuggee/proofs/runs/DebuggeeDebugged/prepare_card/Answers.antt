use Rattle.std.proofs.Common.{IfOk, subst}
use Rattle.question_text.specs.{Cards.Recorded, Prepared.AreParts}
use Rattle.debuggee.proofs.runs.DebuggeeDebugged.prepare_card.Goals as goal

pub card_parts-requires-clause-told : goal.card_parts-requires-clause-told
card_parts-requires-clause-told c = c.recorded.ensures.told c.args.call

pub returns : goal.returns
returns c = subst (λ (r : Recorded). IfOk c.card_parts.result (AreParts r c.args.call)) c.recorded.ensures.recorded c.card_parts.ensures
