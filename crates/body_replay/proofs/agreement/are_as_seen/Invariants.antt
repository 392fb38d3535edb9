use Rattle.std.{proofs.Common.All, proofs.Common.drop, specs.FinMap.get}
use Rattle.core_program.specs.Agree.{Shows}
use Rattle.body_replay.proofs.agreement.are_as_seen.Given as goal

abbrev pub invariant-reads : goal.invariant-reads
invariant-reads l =
    All (λ (addr, seen). Shows (get l.store addr) seen) (drop l.i l.reads)
    → All (λ (addr, seen). Shows (get l.store addr) seen) l.reads
