use Rattle.std.proofs.Common.{if◌then◌else◌, ◌∙◌, ap, arith, sym}
use Rattle.core_program.specs.{Accesses.on_scalar, Input.next_char, Tree.Scanning, Tree.Sub, Tree.bind, Tree.doing, declared.scan.Scan.TheVariants.Blanks}
use Rattle.evaluator.proofs.Turning.{moves_by, moves_on}
use Rattle.evaluator.proofs.reading.read_for.Goals as goal
use Rattle.evaluator.specs.Rest.{here, into_variable, waiting}

pub returns-then-is_char-clause-moves : goal.returns-then-is_char-clause-moves
returns-then-is_char-clause-moves c p =
    let h = here c.args.body.now.home c.args.reading.line in
    let go = into_variable p c.args.body.now.home c.args.reading in
    moves_on (c.read_char.ensures.moves p) (ap (λ b. bind (if b then doing c.args.reading.line next_char go else Sub (Scanning Blanks h) (on_scalar go))
    (waiting p
    c.args.body.now)) (sym c.is_char.ensures ∙ c.if-is_char.true)) (omega arith)

pub returns-else-is_char-clause-moves : goal.returns-else-is_char-clause-moves
returns-else-is_char-clause-moves c p =
    let h = here c.args.body.now.home c.args.reading.line in
    let go = into_variable p c.args.body.now.home c.args.reading in
    moves_by (c.wait.ensures.turns p) c.wait.ensures.falls c.wait.ensures.home
    (ap (λ b. bind (if b then doing c.args.reading.line next_char go else Sub (Scanning
    Blanks h) (on_scalar go)) (waiting p c.args.body.now)) (sym c.is_char.ensures ∙ c.if-is_char.false)) (omega arith)
