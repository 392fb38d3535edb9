use Rattle.std.proofs.Common.{◌∙◌, ◌≡◌, ap₂, codes, rules}
use Rattle.std.proofs.lemmas.Result.{IfOk-weaker}
use Rattle.clap.specs.Words.{rule_of, with_rule}
use Rattle.debug_cli.proofs.command.command_line.Goals as goal
use Rattle.debug_cli.specs.CommandLine.{option_named, source_argument}

pub returns : goal.returns
returns c =
    let source : rule_of c.required-source.result ≡ source_argument = search rules in
    let input : rule_of c.long-input.result ≡ option_named (codes "input") = search rules in
    let budget : rule_of c.long-budget.result ≡ option_named (codes "budget") = search rules in
    let load : rule_of c.long-load.result ≡ option_named (codes "load") = search rules in
    let one = c.in_ok-arg.ensures.shape (search rules) ∙ ap₂ with_rule c.new-5.ensures.app source in
    let two = c.in_ok-arg-2.ensures.shape (search rules) ∙ ap₂ with_rule one input in
    let three = c.in_ok-arg-3.ensures.shape (search rules) ∙ ap₂ with_rule two budget in
    IfOk-weaker c.arg-4.result _ _ (λ command added. added.shape (search rules) ∙ ap₂ with_rule three load) c.arg-4.ensures
