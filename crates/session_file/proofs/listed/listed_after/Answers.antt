use Rattle.std.proofs.{Common.◌∙◌, Common.inl, lemmas.Result.IfErr-weaker, lemmas.Result.IfOk-weaker}
use Rattle.serde_json.specs.View.{view}
use Rattle.session_file.proofs.ListsShown.{listed_shown}
use Rattle.session_file.proofs.listed.listed_after.Goals as goal

pub returns-in-Ok-clause-read : goal.returns-in-Ok-clause-read
returns-in-Ok-clause-read c =
    let found = c.in-Ok.ensures.read in
    IfOk-weaker c.next_listed-after.result _ _ (λ after is. (found.0, found.1, is ∙ listed_shown (view c.in-Ok.value) found.0 found.2 c.args.listed))
    c.next_listed-after.ensures.read

pub returns-in-Ok-clause-refused : goal.returns-in-Ok-clause-refused
returns-in-Ok-clause-refused c = IfErr-weaker c.next_listed-after.result _ _ (λ fault memory. inl memory) c.next_listed-after.ensures.memory
