use Rattle.std.proofs.Common.{rules}
use Rattle.check_steps.proofs.Books.{kept-entered}
use Rattle.check_steps.proofs.around.Around.enter.Goals as goal

pub invariant_of-self : goal.invariant_of-self
invariant_of-self c =
    let a = c.self.inside in
    rw c.keep.ensures
    (kept-entered a.fits a.frames a.shadowed.items a.innermost.items a.at c.args.number c.frame-frame.result c.if-self.true c.self.invariant
    c.frame-frame.ensures (search rules) (search rules) (search rules))
