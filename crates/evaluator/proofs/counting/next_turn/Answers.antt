use Rattle.std.proofs.Common.{if◌then◌else◌, ◌∙◌, ◌≡◌, ap, arith, false, sym, true}
use Rattle.std.specs.Ordering.{int_eq}
use Rattle.core_program.specs.{Accesses.no_row, Tree.Count, Tree.Ret, Tree.Sub, Tree.bind}
use Rattle.core_program.specs.Statements as meaning
use Rattle.evaluator.proofs.Turning.{moves_on}
use Rattle.evaluator.proofs.counting.next_turn.Goals as goal
use Rattle.evaluator.specs.Rest.{here, waiting}

pub returns-then-is_last-clause-moves : goal.returns-then-is_last-clause-moves
returns-then-is_last-clause-moves c p q =
    let h = here c.args.body.now.home c.args.line in
    let rest = waiting p c.args.body.now in
    let e : meaning.has_turn c.args.counting.direction c.args.span.value c.args.span.last ≡ true = sym c.has_turn.ensures ∙ c.if-not-has_turn.false in
    let f : int_eq c.args.span.value c.args.span.last ≡ true = sym c.is_last.ensures ∙ c.if-is_last.true in
    moves_on (c.undefine.ensures.moves p) (ap (λ b. bind (if b then meaning.turn_after c.args.row h c.args.counting.direction c.args.counting.place
    c.args.span.value c.args.span.last else no_row) rest) e ∙ ap (λ b. bind (if b then meaning.undefine h c.args.counting.place else Sub (Count c.args.row
    (meaning.value_after c.args.counting.direction c.args.span.value) c.args.span.last h) Ret) rest) f) (omega arith)

pub returns-clause-moves : goal.returns-clause-moves
returns-clause-moves c p q =
    let h = here c.args.body.now.home c.args.line in
    let rest = waiting p c.args.body.now in
    let e : meaning.has_turn c.args.counting.direction c.args.span.value c.args.span.last ≡ true = sym c.has_turn.ensures ∙ c.if-not-has_turn.false in
    let f : int_eq c.args.span.value c.args.span.last ≡ false = sym c.is_last.ensures ∙ c.if-is_last.false in
    moves_on (c.count.ensures.moves p q) (ap (λ b. bind (if b then meaning.turn_after c.args.row h c.args.counting.direction c.args.counting.place
    c.args.span.value c.args.span.last else no_row) rest) e ∙ ap (λ b. bind (if b then meaning.undefine h c.args.counting.place else Sub (Count c.args.row
    (meaning.value_after c.args.counting.direction c.args.span.value) c.args.span.last h) Ret) rest) f ∙ ap (λ v. Sub (Count c.args.row v c.args.span.last h)
    rest) (sym c.turn_after.ensures.value) ∙ ap (λ l. Sub (Count c.args.row c.turn_after.result.value l h) rest) (sym c.turn_after.ensures.last)) (omega arith)
