use Rattle.std.proofs.Common.{arith, refl}
use Rattle.evaluator.proofs.Turning.{moves_by, moves_on}
use Rattle.evaluator.proofs.accesses.begin_access.Goals as goal
use Rattle.evaluator.specs.{Rest.lists_of, Rest.located, Rest.top_passed, declared.tasks.Located.Located}

pub returns-in-Variable-clause-moves : goal.returns-in-Variable-clause-moves
returns-in-Variable-clause-moves c = moves_on c.variable.ensures.moves (rw c.in-Variable.is) (omega arith)

pub returns-in-Reference-clause-moves : goal.returns-in-Reference-clause-moves
returns-in-Reference-clause-moves c = moves_on c.reference.ensures.moves (rw c.in-Reference.is) (omega arith)

pub returns-in-Index-clause-moves : goal.returns-in-Index-clause-moves
returns-in-Index-clause-moves c =
    let p = c.args.program.now in
    moves_by (c.locate_first.ensures.turns p (located p c.args.body.now.home (Located.Index c.in-Index.index c.in-Index.array c.args.line) (top_passed (lists_of
    c.args.body.now))) refl) c.locate_first.ensures.falls c.locate_first.ensures.home (rw c.in-Index.is) (omega arith)

pub returns-in-Field-clause-moves : goal.returns-in-Field-clause-moves
returns-in-Field-clause-moves c =
    let p = c.args.program.now in
    moves_by (c.locate_first-in-Field.ensures.turns p (located p c.args.body.now.home (Located.Field c.in-Field.field c.args.target c.args.line) (top_passed
    (lists_of c.args.body.now))) refl) c.locate_first-in-Field.ensures.falls c.locate_first-in-Field.ensures.home (rw c.in-Field.is)
    (omega arith)

pub returns-in-Within-clause-moves : goal.returns-in-Within-clause-moves
returns-in-Within-clause-moves c = moves_on c.within.ensures.moves (rw c.in-Within.is) (omega arith)

pub returns-in-Dereference-clause-moves : goal.returns-in-Dereference-clause-moves
returns-in-Dereference-clause-moves c =
    let p = c.args.program.now in
    moves_by (c.locate_first-in-Dereference.ensures.turns p (located p c.args.body.now.home (Located.Pointed c.args.line)
    (top_passed (lists_of c.args.body.now)))
    refl) c.locate_first-in-Dereference.ensures.falls c.locate_first-in-Dereference.ensures.home (rw c.in-Dereference.is) (omega
    arith)
