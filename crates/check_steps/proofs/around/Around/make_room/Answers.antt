use Rattle.check_steps.proofs.Books.{kept-roomier}
use Rattle.check_steps.proofs.around.Around.make_room.Goals as goal

pub invariant_of-self-then-region-len : goal.invariant_of-self-then-region-len
invariant_of-self-then-region-len c =
    let a = c.self.inside in
    rw c.in_ok-push-2.ensures.items (kept-roomier a.fits a.frames a.shadowed.items a.innermost.items a.at c.self.invariant)
