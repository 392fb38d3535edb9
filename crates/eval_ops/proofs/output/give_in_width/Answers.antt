use Rattle.std.proofs.{Common.Err, Common.Ok, lemmas.Result.err_from_is_err_and}
use Rattle.eval_ops.proofs.Texts.{wide_goes, wide_stops}
use Rattle.eval_ops.proofs.output.give_in_width.Goals as goal
use Rattle.eval_ops.specs.Machines.{moment_of}

pub returns-in_err-give_spaces-clause-action : goal.returns-in_err-give_spaces-clause-action
returns-in_err-give_spaces-clause-action g c =
    let p = err_from_is_err_and c.from_residual.result c.from_residual.ensures.1 in
    rw (p.1, p.2) (wide_stops g.C.Char.byte c.args.is_cut c.args.chars.now c.args.width c.saturating_sub.result c.saturating_sub.ensures _
    (moment_of c.args.machine.now) (moment_of c.give_spaces.new.machine) c.in_err-give_spaces.ensures.action)

pub returns-in_err-give_chars-clause-action : goal.returns-in_err-give_chars-clause-action
returns-in_err-give_chars-clause-action g c =
    let p = err_from_is_err_and c.from_residual-in_err-give_chars.result c.from_residual-in_err-give_chars.ensures.1 in
    rw (p.1, p.2) (wide_goes g.C.Char.byte c.args.is_cut c.args.chars.now c.args.width c.saturating_sub.result c.saturating_sub.ensures c.kept.result.now
    c.kept.ensures (Err _) (moment_of c.args.machine.now) (moment_of c.give_spaces.new.machine) (moment_of c.give_chars.new.machine)
    c.in_ok-give_spaces.ensures.action c.in_err-give_chars.ensures.action)

pub returns-clause-action : goal.returns-clause-action
returns-clause-action g c = wide_goes g.C.Char.byte c.args.is_cut c.args.chars.now c.args.width c.saturating_sub.result c.saturating_sub.ensures
    c.kept.result.now c.kept.ensures (Ok tt) (moment_of c.args.machine.now) (moment_of c.give_spaces.new.machine) (moment_of c.give_chars.new.machine)
    c.in_ok-give_spaces.ensures.action c.in_ok-give_chars.ensures.action
