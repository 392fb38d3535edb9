use Rattle.std.proofs.Common.{◌+◌, ◌-◌, ◌<◌, ◌∙◌, ◌∷◌, ◌≡◌, ap, arith, drop, length, slice_index_or}
use Rattle.std.proofs.lemmas.Option.{slice_get-get_or}
use Rattle.reference_oracle.proofs.{NamesFound.none_named, NamesFound.nothing_named, NamesFound.one_named, RecordsCompared.drop_at}
use Rattle.reference_oracle.proofs.names.by_name.Goals as goal
use Rattle.reference_oracle.specs.declared.matches.BlockVariable.{BlockVariable}

pub each-init : goal.each-init
each-init c = record {
  within = omega arith;
  named = none_named c.args.program.now c.args.variables.now c.new-named.result (nothing_named c.new-named.result c.new-named.ensures.empty);
}

pub each-preserved : goal.each-preserved
each-preserved c =
    let vs = c.args.variables.now in
    let at = c.each.at in
    let i = at - 1 in
    let blank : BlockVariable = record { token = 0; kind = 0; address = 0 } in
    let v = slice_index_or vs i blank in
    let within = c.each.invariant.within in
    let some = c.each-test.true in
    let less : i < length vs = omega (arith, within, some) in
    let next : i + 1 ≡ at = omega (arith, some) in
    let first : drop i vs ≡ v ∷ drop at vs =
    drop_at vs i v (slice_get-get_or vs i blank less) ∙ ap (λ n. v ∷ drop n vs) next in
    record {
      within = omega (arith, within);
      named = one_named c.args.program.now (drop at vs) (drop i vs) v c.each.named c.put.new.named c.in_ok-name.name.items c.in_ok-name.ensures
          c.each.invariant.named c.in_ok-put.ensures first;
    }
