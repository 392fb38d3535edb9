use Rattle.std.proofs.Common.{◌+◌, ◌-◌, ◌∙◌, ◌∷◌, ◌≡◌, [], ℕ, List, ap, arith, length, subst, suc, sym}
use Rattle.core_program.specs.{Run.Call, Run.Result, State.State}
use Rattle.output_slice.proofs.KeptOfRuns.{as_many, forest_at}
use Rattle.output_slice.proofs.PairsTogether.{KeptTogether, first_together, more_together, pass_more, together_first}
use Rattle.output_slice.proofs.slicing.Slicing.of.Goals as goal
use Rattle.output_slice.specs.{Backward.pass, Backward.with_call, KeptRuns.IsKeptRun, declared.outputs.Output.Output}

pub loop-number-init : goal.loop-number-init
loop-number-init c =
    let call = c.args.call in
    let first : List (ℕ × Output) = (call, c.args.output) ∷ [] in
    record {
      pairs = λ r k. c.in_ok-found.ensures.pairs ∙ ap (λ n. pass r n call first) (let z : 0 ≡ call - call = omega arith in z);
      together = λ r k. subst (KeptTogether r (forest_at k) call call) (sym c.in_ok-found.ensures.pairs) (first_together r (forest_at k) call c.args.output);
      firsts = c.in_ok-found.ensures.firsts;
      places = c.in_ok-found.ensures.places ∙ c.len-count.ensures;
    }

pub loop-number-preserved : goal.loop-number-preserved
loop-number-preserved c =
    let call = c.args.call in
    let first : List (ℕ × Output) = (call, c.args.output) ∷ [] in
    let number = c.loop-number.number in
    let later = c.loop-number.auto.number in
    let so = c.loop-number.invariant in
    let pairs = c.loop-number.found.pairs in
    let step : (r : Result State Call) → IsKeptRun c.args.run.now r → c.follow.new.self.pairs ≡ with_call r number pairs =
    λ r k. c.in_ok-follow.ensures.pairs r k (λ place e. together_first number pairs ((so.together r k).together number) place e) in
    record {
      pairs = λ r k. step r k ∙ ap (with_call r number) (so.pairs r k)
          ∙ ap (λ n. with_call r n (pass r (number - call) call first)) (let z : number ≡ call + (number - call) = omega (arith, later) in z)
          ∙ sym (pass_more r (number - call) call first)
          ∙ ap (λ n. pass r n call first) (let z : (number - call) + 1 ≡ (number + 1) - call = omega (arith, later) in z);
      together = λ r k. subst (λ n. KeptTogether r (forest_at k) call n c.follow.new.self.pairs) (let z : suc number ≡ number + 1 = omega arith in z)
          (subst (KeptTogether r (forest_at k) call (suc number)) (sym (step r k)) (more_together r (forest_at k) call number pairs later (so.together r k)));
      firsts = c.in_ok-follow.ensures.firsts;
      places = c.in_ok-follow.ensures.places ∙ so.places;
    }

pub returns-clause-pairs : goal.returns-clause-pairs
returns-clause-pairs c r k =
    let past = c.loop-number-test.false in
    let most = c.loop-number.auto.number-end (omega (arith, c.requires.a_call, c.len-count.ensures)) in
    let ends : c.loop-number.number ≡ length r.events = omega (arith, past, most, c.len-count.ensures, as_many k) in
    c.loop-number.invariant.pairs r k ∙ ap (λ n. pass r (n - c.args.call) c.args.call ((c.args.call, c.args.output) ∷ [])) ends
