use Rattle.std.proofs.Common.{◌<◌, ◌∙◌, ap, arith, length, refl, subst}
use Rattle.std.proofs.lemmas.Option.{slice_get_read}
use Rattle.reference_oracle.proofs.MatchesFound.{matches_start, one_match}
use Rattle.reference_oracle.proofs.matches.matches_of.Goals as goal
use Rattle.reference_oracle.specs.{Matches.match_with, NamesKept.AreNamed, Shapes.programs}

pub variables-init : goal.variables-init
variables-init c = record {
  found = matches_start (programs c.args.subject.now c.args.reference.now) c.new-found.result.items c.in_ok-variables.variables.items
      c.new-found.ensures.items c.in_ok-variables.ensures;
  pairs = c.requires.pairs;
}

pub variables-preserved : goal.variables-preserved
variables-preserved c =
    let reference = c.args.reference.now in
    let ps = programs c.args.subject.now reference in
    let vs = c.in_ok-variables.variables.items in
    let i = c.variables.i in
    let v = c.index-variable.result.now in
    let within : i < length vs = let t = c.variables-test.true in let e = c.len-i-end.ensures in omega (arith, t, e) in
    let there = slice_get_read vs (length vs) i v refl within c.index-variable.ensures in
    let named = subst (λ ws. AreNamed reference ws c.in_ok-named.named) (c.deref.ensures.value ∙ c.in_ok-others.ensures) c.in_ok-named.ensures in
    let other = c.in_ok-other.ensures reference named in
    record {
      found = one_match ps vs i v there c.variables.found.items c.put_both.new.matches.items c.in_ok-both.both
          (c.in_ok-both.ensures.found ∙ ap (match_with ps v) other) c.in_ok-put_both.ensures c.variables.invariant.found;
      pairs = c.in_ok-both.ensures.pairs;
    }
