use Rattle.std.proofs.Common.{ℕ, Bor, List, None, Option, Some, ap, inr, option_map, refl, subst, sym}
use Rattle.std.proofs.lemmas.Result.{err_from_is_err_and}
use Rattle.debug_cli.proofs.{RefusalsAreOwed.loaded, RefusalsAreOwed.refused_here, RefusalsAreOwed.session_refused, WhatIsSupplied.none_saved}
use Rattle.debug_cli.proofs.files.saved_session.Goals as goal
use Rattle.debug_cli.specs.{Limits.session_bytes, Named.IsFetched, Named.IsSaved, Outside.outside, Reading.requested_by}

pub returns-in_err-bytes-clause-refused : goal.returns-in_err-bytes-clause-refused
returns-in_err-bytes-clause-refused g c =
    let p = err_from_is_err_and c.from_residual.result c.from_residual.ensures.1 in
    let named = ap (option_map (λ n. n.now)) c.in-Some.is in
    rw (p.1, p.2) (c.in_err-bytes.ensures.refused (requested_by c.args.request.now) (inr (inr (c.requires, named, refl))))

pub returns-in_err-session-clause-refused : goal.returns-in_err-session-clause-refused
returns-in_err-session-clause-refused g c =
    let r = requested_by c.args.request.now in
    let p = err_from_is_err_and c.from_residual-in_err-session.result c.from_residual-in_err-session.ensures.1 in
    let named = ap (option_map (λ n. n.now)) c.in-Some.is in
    let files = g.K.Keeper.files c.args.keeper.now in
    let fetched = subst (λ (b : List ℕ). IsFetched files c.in-Some.name.now session_bytes b) (sym c.as_slice.ensures) c.in_ok-bytes.ensures.bytes in
    rw (p.1, p.2)
    (refused_here (c.in_ok-bytes.ensures.refused r (inr (inr (c.requires, named, refl))))
    (session_refused r (outside files (g.K.Keeper.counts c.args.keeper.now) None None) c.requires c.in-Some.name.now named c.as_slice.result.now fetched
    c.in_err-session.field-0.0 c.in_err-session.ensures.answer))

pub returns-clause-saved : goal.returns-clause-saved
returns-clause-saved g c =
    let bytes = c.as_slice.result.now in
    let session = c.in_ok-session.session in
    let files = g.K.Keeper.files c.args.keeper.now in
    let fetched = subst (λ (b : List ℕ). IsFetched files c.in-Some.name.now session_bytes b) (sym c.as_slice.ensures) c.in_ok-bytes.ensures.bytes in
    subst (λ (o : Option (Bor (List ℕ))). IsSaved files (option_map (λ n. n.now) o) (Some session)) (sym c.in-Some.is)
    (bytes, fetched, loaded bytes session c.in_ok-session.ensures.answer)

pub returns-clause-refused : goal.returns-clause-refused
returns-clause-refused g c =
    c.in_ok-bytes.ensures.refused (requested_by c.args.request.now) (inr (inr (c.requires, ap (option_map (λ n. n.now)) c.in-Some.is, refl)))

pub returns-in_default-clause-saved : goal.returns-in_default-clause-saved
returns-in_default-clause-saved g c = none_saved (g.K.Keeper.files c.args.keeper.now) c.args.request.now.load c.in_default.not-Some
