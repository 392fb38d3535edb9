use Rattle.std.proofs.Common.{List, map, subst, sym}
use Rattle.check_steps.proofs.Chains.{chained-push}
use Rattle.check_steps.proofs.frames.Frames.push.Goals as goal
use Rattle.check_steps.specs.{Frames.IsChained, Frames.Leads, Frames.frame_of, declared.frames.KeptFrame.KeptFrame}

pub beyond_new-beyond-requires : goal.beyond_new-beyond-requires
beyond_new-beyond-requires c = subst IsChained (sym c.deref.ensures.value) c.self.invariant

pub invariant_of-self-2 : goal.invariant_of-self-2
invariant_of-self-2 c =
    let beyond = c.beyond_new-beyond.result in
    let leads = subst (λ (ks : List KeptFrame). Leads (map frame_of ks) c.args.frame.region beyond.passed c.args.frame.outer beyond.to) c.deref.ensures.value
    c.beyond_new-beyond.ensures in
    subst IsChained (sym c.in_ok-push.ensures.items)
    (chained-push c.self.inside.kept.items (record { frame = c.args.frame; beyond = beyond }) c.self.invariant leads)
