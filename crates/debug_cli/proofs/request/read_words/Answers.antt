use Rattle.std.{proofs.Common.List, proofs.Common.map, proofs.Common.rules, specs.String.string_bytes}
use Rattle.clap.specs.Words.{Text, app_of}
use Rattle.debug_cli.proofs.ClapReadsWords.{allows, answers, not_taken, refuses, taken}
use Rattle.debug_cli.proofs.request.read_words.Goals as goal

pub returns-in-Ok-clause-meant : goal.returns-in-Ok-clause-meant
returns-in-Ok-clause-meant c =
    let words : List Text = map string_bytes c.args.words.now in
    answers words c.ok_or.result c.asked_in.result c.ok_or.ensures.value
    (taken (app_of c.in_ok-command.command) c.in_ok-command.ensures words c.in-Ok.matches c.asked_in.result c.in-Ok.ensures.kinds
    c.in-Ok.ensures.matches c.asked_in.ensures.meant)

pub returns-in-Ok-clause-refused : goal.returns-in-Ok-clause-refused
returns-in-Ok-clause-refused c =
    let words : List Text = map string_bytes c.args.words.now in
    refuses words c.ok_or.result c.asked_in.result c.ok_or.ensures.value
    (taken (app_of c.in_ok-command.command) c.in_ok-command.ensures words c.in-Ok.matches c.asked_in.result c.in-Ok.ensures.kinds
    c.in-Ok.ensures.matches c.asked_in.ensures.meant)

pub returns-in-Ok-clause-range : goal.returns-in-Ok-clause-range
returns-in-Ok-clause-range c =
    allows (map string_bytes c.args.words.now) c.ok_or.result c.asked_in.result c.ok_or.ensures.value c.asked_in.ensures.range

pub returns-in-Err-clause-refused : goal.returns-in-Err-clause-refused
returns-in-Err-clause-refused c = λ refused.
    not_taken (app_of c.in_ok-command.command) c.in_ok-command.ensures (map string_bytes c.args.words.now) c.in-Err.error c.fault_of.result
    c.in-Err.ensures.kinds c.fault_of.ensures.memory (search rules)
