use Rattle.std.proofs.Common.{◌+◌, ◌∙◌, ◌≡◌, false, subst, sym, true}
use Rattle.answer_reuse.proofs.KeysOfRun.{keys_more, keys_same}
use Rattle.answer_reuse.proofs.classes.push_key.Goals as goal
use Rattle.answer_reuse.specs.Sorting.{AreKeysTo}

pub returns-in_ok-push : goal.returns-in_ok-push
returns-in_ok-push c = λ g. subst (AreKeysTo c.args.run.now (c.args.call + 1)) (sym c.in_ok-push.ensures.items)
    (keys_more c.args.run.now c.args.call c.args.row.now c.args.keys.now.items c.requires.row g c.keyed_call.result
    (c.ended_by_itself.ensures.0 c.if-ended_by_itself.true) c.keyed_call.ensures.call c.keyed_call.ensures.row c.keyed_call.ensures.keyed)

pub returns-else-ended_by_itself : goal.returns-else-ended_by_itself
returns-else-ended_by_itself c = λ g. keys_same c.args.run.now c.args.call c.args.row.now c.args.keys.now.items c.requires.row g
    (λ e. absurd (let z : false ≡ true = sym c.if-ended_by_itself.false ∙ c.ended_by_itself.ensures.1 e in cc))
