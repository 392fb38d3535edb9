use Rattle.std.proofs.lemmas.Result.{err_from_is_err_and}
use Rattle.debuggee.proofs.SourceIsRun.{IsDivided, checked_found, checked_only, no_tokens_only, no_tokens_refused, unchecked_only, unchecked_refused}
use Rattle.debuggee.proofs.source.read_source.Goals as goal

pub returns-in_err-tokens-clause-only : goal.returns-in_err-tokens-clause-only
returns-in_err-tokens-clause-only c = λ t p is.
    let e = err_from_is_err_and c.from_residual.result c.from_residual.ensures.1 in
    rw (e.1, e.2) (no_tokens_only c.args.source.now c.in_err-tokens.field-0.0 c.in_err-tokens.ensures.only t p is)

pub returns-in_err-tokens-clause-refused : goal.returns-in_err-tokens-clause-refused
returns-in_err-tokens-clause-refused c =
    let e = err_from_is_err_and c.from_residual.result c.from_residual.ensures.1 in
    rw (e.1, e.2) (no_tokens_refused c.args.source.now c.in_err-tokens.field-0.0 c.in_err-tokens.ensures.refused)

pub returns-in_err-program-clause-only : goal.returns-in_err-program-clause-only
returns-in_err-program-clause-only c = λ t p is.
    let e = err_from_is_err_and c.from_residual-in_err-program.result c.from_residual-in_err-program.ensures.1 in
    let the : IsDivided c.args.source.now c.in_ok-tokens.tokens =
    record { kept = c.in_ok-tokens.ensures.found.kept; lexed = c.in_ok-tokens.ensures.found.lexed; only = c.in_ok-tokens.ensures.only } in
    rw (e.1, e.2) (unchecked_only the c.one_text_one_program.ensures.refusal c.in_err-program.field-0.0 c.in_err-program.ensures.refused t p is)

pub returns-in_err-program-clause-refused : goal.returns-in_err-program-clause-refused
returns-in_err-program-clause-refused c =
    let e = err_from_is_err_and c.from_residual-in_err-program.result c.from_residual-in_err-program.ensures.1 in
    let the : IsDivided c.args.source.now c.in_ok-tokens.tokens =
    record { kept = c.in_ok-tokens.ensures.found.kept; lexed = c.in_ok-tokens.ensures.found.lexed; only = c.in_ok-tokens.ensures.only } in
    rw (e.1, e.2) (unchecked_refused the c.one_text_one_program.ensures.refusal c.in_err-program.field-0.0 c.in_err-program.ensures.refused)

pub returns-clause-only : goal.returns-clause-only
returns-clause-only c =
    let the : IsDivided c.args.source.now c.in_ok-tokens.tokens =
    record { kept = c.in_ok-tokens.ensures.found.kept; lexed = c.in_ok-tokens.ensures.found.lexed; only = c.in_ok-tokens.ensures.only } in
    checked_only the c.one_text_one_program.ensures.program c.in_ok-program.program c.in_ok-program.ensures.found

pub returns-clause-found : goal.returns-clause-found
returns-clause-found c =
    let the : IsDivided c.args.source.now c.in_ok-tokens.tokens =
    record { kept = c.in_ok-tokens.ensures.found.kept; lexed = c.in_ok-tokens.ensures.found.lexed; only = c.in_ok-tokens.ensures.only } in
    checked_found the c.in_ok-program.program c.in_ok-program.ensures.found
