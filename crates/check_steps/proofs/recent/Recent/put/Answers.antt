use Rattle.std.proofs.Common.{subst, sym}
use Rattle.check_steps.proofs.{Recalls.recalled_put, Recalls.recalled_same, recent.Recent.put.Goals.in-Err, recent.Recent.put.Goals.in-Ok}
use Rattle.check_steps.proofs.recent.Recent.put.Goals as goal
use Rattle.check_steps.specs.Recent.{AreRecalled}

pub returns : goal.returns
returns c = λ regions frames are near far.
    let before : AreRecalled regions frames c.self.inside.names.entries = subst (λ rs. AreRecalled regions frames rs) (sym c.self.view_is) are in
    elim c.match-insert.branch [
      | in-Ok w ↦ recalled_put regions frames c.self.inside.names.entries c.insert.new.self.entries c.args.name c.args.recalled
          w.in-Ok.ensures.updates.0 before near far
      | in-Err w ↦ recalled_same regions frames c.self.inside.names.entries c.insert.new.self.entries w.in-Err.ensures.err before
    ]
