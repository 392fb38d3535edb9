use Rattle.std.proofs.Common.{if◌then◌else◌, ◌∙◌, ◌≡◌, Err, Ok, ap, arith, false, subst, sym, true}
use Rattle.core_program.specs.ProgramRows.{type_at}
use Rattle.core_program.specs.Statements as meaning
use Rattle.core_program.specs.Tree.{Count, Ret, Sub, bind, doing}
use Rattle.eval_ops.specs.Machines.{Gives, moment_of}
use Rattle.evaluator.proofs.Moves.{comes_same, comes_then}
use Rattle.evaluator.proofs.Turning.{did, fails, fails_after, given, moves_after, moves_failed, moves_on}
use Rattle.evaluator.proofs.counting.begin_turns.Goals as goal
use Rattle.evaluator.specs.Rest.{here, waiting}

pub returns-then-not-has_turn-clause-moves : goal.returns-then-not-has_turn-clause-moves
returns-then-not-has_turn-clause-moves c =
    let p = c.args.program.now in
    let h = here c.args.body.now.home c.args.line in
    let rest = waiting p c.args.body.now in
    let e : meaning.has_turn c.args.counting.direction c.args.span.value c.args.span.last ≡ false = sym c.has_turn.ensures ∙ c.if-not-has_turn.true in
    moves_on (c.undefine.ensures.moves p) (ap (λ b. bind (if b then doing c.args.line (meaning.bounds_tested p (type_at p c.args.counting.of) c.args.span.value
    c.args.span.last) (λ _. Sub (Count c.args.turns c.args.span.value c.args.span.last h) Ret) else meaning.undefine h c.args.counting.place) rest) e) (omega
    arith)

pub returns-in-Ok-clause-moves : goal.returns-in-Ok-clause-moves
returns-in-Ok-clause-moves c =
    let p = c.args.program.now in
    let h = here c.args.body.now.home c.args.line in
    let rest = waiting p c.args.body.now in
    let e : meaning.has_turn c.args.counting.direction c.args.span.value c.args.span.last ≡ true = sym c.has_turn.ensures ∙ c.if-not-has_turn.false in
    moves_after (c.count.ensures.moves p c.requires.row) (comes_then
    (comes_same (ap (λ b. bind (if b then doing c.args.line (meaning.bounds_tested p (type_at p c.args.counting.of) c.args.span.value c.args.span.last)
    (λ _. Sub (Count c.args.turns c.args.span.value c.args.span.last h) Ret) else meaning.undefine h c.args.counting.place) rest) e))
    (did p c.args.line (meaning.bounds_tested p (type_at p c.args.counting.of) c.args.span.value c.args.span.last)
    (λ _. Sub (Count c.args.turns c.args.span.value c.args.span.last h) Ret) rest (λ v. v) c.in-Ok.field-0 (moment_of c.args.machine.now)
    (moment_of c.args.machine.now) (given (λ v. v) (meaning.bounds_tested p (type_at p c.args.counting.of) c.args.span.value c.args.span.last)
    (Ok c.in-Ok.field-0) (moment_of c.args.machine.now) (rw c.type_row.ensures at c.in-Ok.ensures)))) (omega arith)

pub returns-in-Err-clause-moves : goal.returns-in-Err-clause-moves
returns-in-Err-clause-moves c =
    let p = c.args.program.now in
    let h = here c.args.body.now.home c.args.line in
    let rest = waiting p c.args.body.now in
    let e : meaning.has_turn c.args.counting.direction c.args.span.value c.args.span.last ≡ true = sym c.has_turn.ensures ∙ c.if-not-has_turn.false in
    moves_failed c.fail.ensures.fails c.fail.ensures.line c.fail.ensures.home (fails_after p _ _ _ _ _ c.args.line c.in-Err.halt
    (comes_same (ap (λ b. bind (if b then doing c.args.line (meaning.bounds_tested p (type_at p c.args.counting.of) c.args.span.value c.args.span.last)
    (λ _. Sub (Count c.args.turns c.args.span.value c.args.span.last h) Ret) else meaning.undefine h c.args.counting.place) rest) e))
    (fails p c.args.line (meaning.bounds_tested p (type_at p c.args.counting.of) c.args.span.value c.args.span.last)
    (λ _. Sub (Count c.args.turns c.args.span.value c.args.span.last h) Ret) rest (λ v. v) c.in-Err.halt (moment_of c.args.machine.now)
    (moment_of c.args.machine.now) (given (λ v. v) (meaning.bounds_tested p (type_at p c.args.counting.of) c.args.span.value c.args.span.last)
    (Err c.in-Err.halt) (moment_of c.args.machine.now) (subst (λ k. Gives (λ v. v) (meaning.bounds_tested p k c.args.span.value c.args.span.last)
    (Err c.in-Err.halt)) c.type_row.ensures c.in-Err.ensures))))
