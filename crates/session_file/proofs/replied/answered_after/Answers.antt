use Rattle.std.proofs.{Common.◌∙◌, Common.inl, lemmas.Result.IfErr-weaker, lemmas.Result.IfOk-weaker}
use Rattle.serde_json.specs.View.{view}
use Rattle.session_file.proofs.ListsShown.{answered_shown}
use Rattle.session_file.proofs.replied.answered_after.Goals as goal

pub returns-in-Ok-clause-read : goal.returns-in-Ok-clause-read
returns-in-Ok-clause-read c =
    let found = c.in-Ok.ensures.read in
    IfOk-weaker c.next_answered-after.result _ _ (λ after is. (found.0, found.1, is ∙ answered_shown (view c.in-Ok.value) found.0 found.2 c.args.answered))
    c.next_answered-after.ensures.read

pub returns-in-Ok-clause-refused : goal.returns-in-Ok-clause-refused
returns-in-Ok-clause-refused c = IfErr-weaker c.next_answered-after.result _ _ (λ fault memory. inl memory) c.next_answered-after.ensures.memory
