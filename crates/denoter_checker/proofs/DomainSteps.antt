-- One token further in the pass over domains.
use Rattle.std.proofs.Common.{◌+◌, ◌-◌, ◌<◌, ◌∙◌, ◌≡◌, ◌≤◌, ℕ, ap, arith, suc, sym}
use Rattle.check_steps.{proofs.Runs.run-give, proofs.Runs.run_after, specs.Steps.run_step, specs.declared.work.Work.Work}
use Rattle.denoter_checker.specs.Parts.{settle_domain, settle_from}

pub settle_next : (after token : ℕ) (w v : Work) → token < after → run_step (settle_domain token) w ≡ (tt, v)
    → run_step (settle_from (after - (token + 1)) (token + 1)) v ≡ run_step (settle_from (after - token) token) w
settle_next after token w v below done =
    let e : after - token ≡ suc (after - (token + 1)) = omega arith in
    sym (ap (λ m. run_step (settle_from m token) w) e
    ∙ run_after (settle_domain token) (λ _. settle_from (after - (token + 1)) (token + 1)) w tt v done)

pub settle_end : (after token : ℕ) (w : Work) → after ≤ token → run_step (settle_from (after - token) token) w ≡ (tt, w)
settle_end after token w past =
    let e : after - token ≡ 0 = omega arith in
    ap (λ m. run_step (settle_from m token) w) e ∙ run-give tt w

pub ruleset domain_loops = (settle_next, settle_end)
