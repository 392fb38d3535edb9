use Rattle.std.proofs.{Common.◌∙◌, Common.Err, Common.ap, lemmas.Result.err_from_is_err_and}
use Rattle.pas_lexer.proofs.OneDivision.{ended, never_for, only, placed, refused, same_tokens}
use Rattle.pas_lexer.proofs.lexing.lex.Goals as goal
use Rattle.pas_lexer.specs.Lexed.{Lexed}

pub new-requires-clause-placed : goal.new-requires-clause-placed
new-requires-clause-placed c = placed c.args.bytes.now c.in_ok-tokens.tokens.items c.in_ok-tokens.ensures.found

pub new-requires-clause-ended : goal.new-requires-clause-ended
new-requires-clause-ended c = ended c.args.bytes.now c.in_ok-tokens.tokens.items c.in_ok-tokens.ensures.found

pub returns-in_err-tokens-clause-only : goal.returns-in_err-tokens-clause-only
returns-in_err-tokens-clause-only c =
    let p = err_from_is_err_and c.from_residual.result c.from_residual.ensures.1 in
    rw (p.1, p.2) (only c.args.bytes.now (Err c.in_err-tokens.field-0.0) tt c.in_err-tokens.ensures.fault)

pub returns-in_err-tokens-clause-refused : goal.returns-in_err-tokens-clause-refused
returns-in_err-tokens-clause-refused c =
    let p = err_from_is_err_and c.from_residual.result c.from_residual.ensures.1 in
    rw (p.1, p.2) (refused c.args.bytes.now (Err c.in_err-tokens.field-0.0) tt c.in_err-tokens.ensures.fault)

pub returns-clause-only : goal.returns-clause-only
returns-clause-only c = λ tokens is. ap (λ (t : Lexed). t.tokens) c.in_ok-new.ensures
    ∙ same_tokens c.args.bytes.now c.in_ok-tokens.tokens.items tokens c.in_ok-tokens.ensures.found is

pub returns-clause-refused : goal.returns-clause-refused
returns-clause-refused c = λ r n fails. never_for c.args.bytes.now c.in_ok-tokens.tokens.items r n c.in_ok-tokens.ensures.found fails
