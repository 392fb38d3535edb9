use Rattle.debuggee.proofs.runs.Debuggee.output_named.Goals as goal

pub card_parts-requires-clause-told : goal.card_parts-requires-clause-told
card_parts-requires-clause-told c = c.recorded-recorded.ensures.told c.args.call
