use Rattle.std.proofs.Common.{◌∙◌}
use Rattle.pas_lexer.proofs.SpellingsInOrder.{spelled_next}
use Rattle.pas_lexer.proofs.spellings.spell.Goals as goal
use Rattle.pas_lexer.specs.declared.kinds.{TokenKind.TheVariants.Word, Word.TheVariants.WAnd}

pub tokens-preserved : goal.tokens-preserved
tokens-preserved c =
    spelled_next c.args.source.now c.tokens.spellings.items c.push_spelling.new.spellings.items c.args.tokens.now c.tokens.token-index
    (record { kind = Word WAnd; start = 0; end = 0; line = 0 }) c.tokens.places.items c.push.new.self.items c.len-start.result c.len-end.result
    c.tokens-test.true c.tokens.invariant c.in_ok-push_spelling.ensures c.in_ok-push.ensures.items (c.len-start.ensures
    ∙ c.tokens.spellings.ok.0) (c.len-end.ensures ∙ c.push_spelling.new.spellings.ok.0)
