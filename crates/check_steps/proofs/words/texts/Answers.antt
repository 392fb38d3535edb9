use Rattle.std.proofs.Common.{◌++◌, ◌∙◌, ◌∷◌, [], ℕ, ap, sym}
use Rattle.std.{proofs.lemmas.List.map_push, specs.Global.Vec}
use Rattle.check_steps.proofs.NameLists.{map_more}
use Rattle.check_steps.proofs.words.texts.Goals as goal
use Rattle.check_steps.specs.Words.{kept_of, kept_text, texts_in}

pub tokens-preserved : goal.tokens-preserved
tokens-preserved c =
    let l = c.args.tokens.now in
    let t = c.at-token.result in
    let at = c.at-token.ensures.token in
    ap texts_in c.in_ok-push.ensures.items
    ∙ map_push (λ (v : Vec ℕ). v.items) c.tokens.texts.items c.in_ok-text.text
    ∙ (λ i. c.tokens.invariant i ++ (c.in_ok-text.ensures ∙ (λ j. kept_text t.kind (c.text.ensures t at j) (c.spelling.ensures t at j))) i ∷ [])
    ∙ sym (map_more (kept_of l.source) l.tokens c.tokens.i t at)
