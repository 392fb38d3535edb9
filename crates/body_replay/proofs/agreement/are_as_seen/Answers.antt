use Rattle.std.{proofs.Common.subst, specs.FinMap.get}
use Rattle.core_program.specs.Agree.{Shows}
use Rattle.body_replay.proofs.AgreementByParts.{one_more_holds}
use Rattle.body_replay.proofs.agreement.are_as_seen.Goals as goal

pub reads-preserved : goal.reads-preserved
reads-preserved c rest =
    let seen = c.at-addr.result in
    c.reads.invariant (one_more_holds (λ (addr, seen). Shows (get c.args.store.now addr) seen) c.args.reads.now c.reads.i seen c.at-addr.ensures.found
    (subst (λ cell. Shows cell seen.1) c.get.ensures (c.is_as_seen.ensures.0 c.if-not-is_as_seen.false)) rest)
