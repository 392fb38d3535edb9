use Rattle.std.proofs.Common.{rules, subst, sym}
use Rattle.check_steps.proofs.Recalls.{found_from}
use Rattle.check_steps.proofs.tables.Tables.keep.Goals as goal
use Rattle.check_steps.specs.{Known.Known, Recent.IsFound}

pub invariant_of-self : goal.invariant_of-self
invariant_of-self c =
    let k = c.args.self.now in
    let name = c.args.name in
    let r = c.args.recalled in
    let near = subst (λ (k : Known). IsFound k.regions k.frames name r.near) (sym c.self.view_is)
    (found_from k name r.near (search rules) c.requires.near) in
    let far = subst (λ (k : Known). IsFound k.regions k.frames name r.far) (sym c.self.view_is)
    (found_from k name r.far (search rules) c.requires.far) in (
      c.self.invariant.0,
      c.self.invariant.1,
      c.self.invariant.2,
      c.self.invariant.3,
      c.put.ensures c.self.inside.regions c.self.inside.frames c.self.invariant.4 near far,
    )
