use Rattle.std.proofs.Common.{◌++◌, ◌≡◌, drop, filter_map}
use Rattle.reference_oracle.proofs.matches.matches_of.Given as goal
use Rattle.reference_oracle.specs.{Matches.match_with, Matches.matches, Matches.namesake, PairsKept.ArePairs, Shapes.programs}

abbrev pub invariant-variables : goal.invariant-variables
invariant-variables l =
    let ps = programs l.subject l.reference in
    record {
      found : l.found.items ++ filter_map (λ v. match_with ps v (namesake ps v)) (drop l.i l.variables.items) ≡ matches ps;
      pairs : ArePairs ps l.pairs;
    }
