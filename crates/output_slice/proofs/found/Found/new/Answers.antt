use Rattle.std.proofs.Common.{◌∙◌, ◌≡◌, ℕ, None, Option, Some, ap, arith, length, replicate, rules, slice_set, subst, sym}
use Rattle.std.{proofs.lemmas.List.length-replicate, specs.List.slice_get}
use Rattle.output_slice.proofs.FirstPairs.{first_alone, none_in}
use Rattle.output_slice.proofs.found.Found.new.Goals as goal
use Rattle.output_slice.specs.Firsts.{AreFirsts}

pub returns-clause-firsts : goal.returns-clause-firsts
returns-clause-firsts c =
    let firsts = c.in_ok-firsts.firsts.items in
    let blank : firsts ≡ replicate c.args.calls None = search rules in
    subst (λ pairs. AreFirsts pairs (slice_set firsts c.args.pair.0 (Some 0))) (sym c.in_ok-pairs.ensures)
    (first_alone c.args.pair.0 c.args.pair.1 firsts (λ n o e. none_in c.args.calls n o (sym (ap (λ l. slice_get l n) blank) ∙ e))
    (omega (arith, c.requires.a_call, ap length blank, length-replicate {A = Option ℕ} c.args.calls None)))
