use Rattle.std.proofs.Common.{◌+◌, drop, length, map, refl}
use Rattle.std.proofs.lemmas.{Option.slice_get_read, Result.err_from_is_err_and}
use Rattle.core_program.specs.Output.{gives}
use Rattle.eval_ops.proofs.{ActionsCompose.came_next, ActionsCompose.came_stop, Texts.at_char}
use Rattle.eval_ops.proofs.output.give_chars.Goals as goal
use Rattle.eval_ops.specs.{Machines.moment_of, Output.give_one}

pub returns-in_err-give_char-clause-action : goal.returns-in_err-give_char-clause-action
returns-in_err-give_char-clause-action g c =
    let p = err_from_is_err_and c.from_residual.result c.from_residual.ensures.1 in
    let e = slice_get_read c.args.chars.now (length c.args.chars.now) c.chars.char-index c.char-item.result refl c.chars-test.true c.char-item.is in
    rw (p.1, p.2) (came_stop {X = Unit {0}} {Y = Unit {0}} (λ _. tt) (λ _. tt) (give_one (g.C.Char.byte c.char-item.result))
    (λ _. gives (map g.C.Char.byte (drop (c.chars.char-index + 1) c.args.chars.now))) _ (moment_of c.chars.machine) (moment_of c.give_char.new.machine)
    (at_char g.C.Char.byte c.args.chars.now c.chars.char-index c.char-item.result e c.chars.invariant.came) c.in_err-give_char.ensures.action)

pub chars-preserved : goal.chars-preserved
chars-preserved g c =
    let e = slice_get_read c.args.chars.now (length c.args.chars.now) c.chars.char-index c.char-item.result refl c.chars-test.true c.char-item.is in
    record {
      ready = c.in_ok-give_char.ensures.ready;
      came = came_next (give_one (g.C.Char.byte c.char-item.result)) (λ _. gives (map g.C.Char.byte (drop (c.chars.char-index + 1) c.args.chars.now))) tt
          (moment_of c.chars.machine) (moment_of c.give_char.new.machine)
          (at_char g.C.Char.byte c.args.chars.now c.chars.char-index c.char-item.result e c.chars.invariant.came) c.in_ok-give_char.ensures.action;
    }
