use Rattle.made_program.proofs.RootedTree.{small_tree}
use Rattle.made_program.proofs.laws.run_finds_the_fault.Goals as goal

pub returns : goal.returns
returns g c = λ few.
    let s = g.D.Debugged.subject c.args.run.now in
    c.fault_is_found.ensures s
    (small_tree s c.calls.result.now c.calls.ensures c.are_numbered.ensures.numbered c.are_numbered.ensures.rooted few)
