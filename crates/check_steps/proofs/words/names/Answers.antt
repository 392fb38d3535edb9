use Rattle.std.proofs.Common.{◌∙◌, sym}
use Rattle.check_steps.proofs.NameLists.{fold_more}
use Rattle.check_steps.proofs.words.names.Goals as goal
use Rattle.check_steps.specs.Words.{name_from, required_names, with_name_of}

pub tokens-preserved : goal.tokens-preserved
tokens-preserved c =
    let l = c.args.tokens.now in
    let t = c.at-token.result in
    let at = c.at-token.ensures.token in
    c.in_ok-add_spelling.ensures
    ∙ (λ i. with_name_of t.kind (c.tokens.invariant i) (c.spelling.ensures t at i))
    ∙ sym (fold_more (name_from l.source) required_names l.tokens c.tokens.i t at)
