use Rattle.std.proofs.Common.{◌∙◌, ◌≤◌, ℕ, List, None, inl, length, refl, subst, sym}
use Rattle.std.proofs.lemmas.Result.{err_from_is_err_and}
use Rattle.pas_lexer.specs.Limits.{source_bytes}
use Rattle.debuggee.specs.Program.{IsProgram}
use Rattle.debug_cli.proofs.RefusalsAreOwed.{refused_here, refused_later, source_refused}
use Rattle.debug_cli.proofs.WhatIsSupplied.{all_supplied, is_checked, is_run}
use Rattle.debug_cli.proofs.files.supply.Goals as goal
use Rattle.debug_cli.specs.{Meaning.Source, Named.IsFetched, Outside.outside, Reading.requested_by}

pub read_source-requires : goal.read_source-requires
read_source-requires g c = subst (λ (b : List ℕ). length b ≤ source_bytes) (sym c.as_slice.ensures) c.in_ok-source.ensures.bytes.1

pub input_of-requires : goal.input_of-requires
input_of-requires g c =
    let r = requested_by c.args.request.now in
    is_checked r (c.in_ok-source.ensures.refused r (inl refl)) c.in_ok-source.source c.as_slice.result.now c.in_ok-program.program
    c.in_ok-source.ensures.bytes c.as_slice.ensures c.in_ok-program.ensures.found

pub saved_session-requires : goal.saved_session-requires
saved_session-requires g c =
    let r = requested_by c.args.request.now in
    let checked = is_checked r (c.in_ok-source.ensures.refused r (inl refl)) c.in_ok-source.source c.as_slice.result.now c.in_ok-program.program
    c.in_ok-source.ensures.bytes c.as_slice.ensures c.in_ok-program.ensures.found in
    is_run r c.in_ok-input.ensures.refused checked c.in_ok-input.input c.in_ok-input.ensures.input

pub returns-in_err-source-clause-refused : goal.returns-in_err-source-clause-refused
returns-in_err-source-clause-refused g c =
    let p = err_from_is_err_and c.from_residual.result c.from_residual.ensures.1 in
    rw (p.1, p.2) (c.in_err-source.ensures.refused (requested_by c.args.request.now) (inl refl))

pub returns-in_err-program-clause-refused : goal.returns-in_err-program-clause-refused
returns-in_err-program-clause-refused g c =
    let r = requested_by c.args.request.now in
    let p = err_from_is_err_and c.from_residual-in_err-program.result c.from_residual-in_err-program.ensures.1 in
    let files = g.K.Keeper.files c.args.keeper.now in
    let fetched = subst (λ (b : List ℕ). IsFetched files r.source source_bytes b) (sym c.as_slice.ensures) c.in_ok-source.ensures.bytes in
    rw (p.1, p.2)
    (refused_here (c.in_ok-source.ensures.refused r (inl refl))
    (source_refused (Source r) (outside files (g.K.Keeper.counts c.args.keeper.now) None None) c.as_slice.result.now fetched c.in_err-program.field-0.0
    c.in_err-program.ensures.refused))

pub returns-in_err-input-clause-refused : goal.returns-in_err-input-clause-refused
returns-in_err-input-clause-refused g c =
    let p = err_from_is_err_and c.from_residual-in_err-input.result c.from_residual-in_err-input.ensures.1 in
    rw (p.1, p.2) (refused_later (c.in_ok-source.ensures.refused (requested_by c.args.request.now) (inl refl)) c.in_err-input.ensures.refused)

pub returns-in_err-saved-clause-refused : goal.returns-in_err-saved-clause-refused
returns-in_err-saved-clause-refused g c =
    let p = err_from_is_err_and c.from_residual-in_err-saved.result c.from_residual-in_err-saved.ensures.1 in
    rw (p.1, p.2)
    (refused_later (c.in_ok-input.ensures.refused ∙ c.in_ok-source.ensures.refused (requested_by c.args.request.now) (inl refl))
    c.in_err-saved.ensures.refused)

pub returns-clause-supplied : goal.returns-clause-supplied
returns-clause-supplied g c =
    let r = requested_by c.args.request.now in
    let p = c.in_ok-program.program in
    all_supplied r (c.in_ok-source.ensures.refused r (inl refl)) c.in_ok-input.ensures.refused c.in_ok-saved.ensures.refused
    (record { source = c.in_ok-source.source; program = p; input = c.in_ok-input.input; saved = c.in_ok-saved.saved }) c.in_ok-source.ensures.bytes
    (subst (λ (b : List ℕ). IsProgram b p.tokens p.program) c.as_slice.ensures c.in_ok-program.ensures.found)
    c.in_ok-input.ensures.input (c.in_ok-saved.ensures.saved, c.in_ok-saved.ensures.whole)

pub returns-clause-refused : goal.returns-clause-refused
returns-clause-refused g c =
    c.in_ok-saved.ensures.refused ∙ c.in_ok-input.ensures.refused ∙ c.in_ok-source.ensures.refused (requested_by c.args.request.now) (inl refl)
