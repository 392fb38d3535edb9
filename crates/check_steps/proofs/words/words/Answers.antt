use Rattle.std.proofs.Common.{◌++◌, ◌∙◌, ◌∷◌, [], ap, sym}
use Rattle.check_steps.proofs.NameLists.{map_more}
use Rattle.check_steps.proofs.words.words.Goals as goal
use Rattle.check_steps.specs.Words.{spelled_by, texts_in, word_of}

pub tokens-preserved : goal.tokens-preserved
tokens-preserved c =
    let l = c.args.tokens.now in
    let t = c.at-token.result in
    let at = c.at-token.ensures.token in
    let names = texts_in c.args.names.now.keys in
    c.in_ok-push.ensures.items
    ∙ (λ i. c.tokens.invariant i ++ record { spelled = (c.spelling_of.ensures ∙ ap (spelled_by names t.kind) (c.spelling.ensures t at)) i; line = t.line } ∷ [])
    ∙ sym (map_more (word_of names l.source) l.tokens c.tokens.i t at)
