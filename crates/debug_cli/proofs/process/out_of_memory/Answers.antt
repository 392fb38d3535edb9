use Rattle.std.proofs.Common.{None, inl, refl}
use Rattle.edge_ports.specs.Counts.{no_counts}
use Rattle.ask_session.specs.Outside.{Outside}
use Rattle.debug_cli.proofs.process.out_of_memory.Goals as goal
use Rattle.debug_cli.specs.declared.status.Status.{Status}

pub returns-clause-ended : goal.returns-clause-ended
returns-clause-ended c =
    let outside : Outside = record { files = None; counts = no_counts; streams = record { left = None; given = None } } in
    let nothing_said = inl (record { given = refl; counts = inl refl; alone = record { files = refl; left = refl } }) in
    (None, outside, outside, (Status.Memory, c.from.ensures, nothing_said))
