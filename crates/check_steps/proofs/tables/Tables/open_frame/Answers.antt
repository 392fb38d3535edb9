use Rattle.std.proofs.Common.{List, arith, subst, sym}
use Rattle.check_steps.proofs.Recalls.{recalled_before}
use Rattle.check_steps.proofs.tables.Tables.open_frame.Goals as goal
use Rattle.check_steps.specs.{Recent.AreRecalled, declared.regions.Frame.Frame}

pub invariant_of-self : goal.invariant_of-self
invariant_of-self c =
    let s = c.self.inside in
    let before = c.keep_if.ensures.kept s.regions s.frames c.self.invariant.4 in (
      c.self.invariant.0,
      omega (arith, c.push.ensures.at_most, c.len-number.ensures, c.if-number.false),
      c.self.invariant.2,
      c.self.invariant.3,
      subst (λ (fs : List Frame). AreRecalled s.regions fs c.keep_if.new.self) (sym c.in-Ok.ensures.pushed)
          (recalled_before c.is_ordered.result s.regions s.frames c.args.frame c.keep_if.new.self c.is_ordered.ensures c.keep_if.ensures.forgotten before),
    )
