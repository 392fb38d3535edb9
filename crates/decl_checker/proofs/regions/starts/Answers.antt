use Rattle.std.proofs.Common.{◌∙◌, arith, nat_eq, sym}
use Rattle.indexmap.specs.IndexMap.{get}
use Rattle.decl_checker.proofs.Places.{known_at, new_at, tells_all}
use Rattle.decl_checker.proofs.regions.starts.Goals.{else-not-contains_key, then-not-contains_key+in_ok-insert}
use Rattle.decl_checker.proofs.regions.starts.Goals as goal

pub regions-preserved : goal.regions-preserved
regions-preserved c = elim c.if-not-contains_key.branch [
  | then-not-contains_key+in_ok-insert w ↦ rw w.starts-is
      (new_at c.args.tables.now.regions c.regions.region c.region_token-token.result (get nat_eq c.regions.starts) (get nat_eq w.insert.new.self)
      c.region_token-token.ensures c.regions.invariant (omega (arith, c.regions.auto.region))
      (omega (arith, c.regions-test.true, c.regions-region-end.ensures)) (sym c.contains_key.ensures ∙ w.if-not-contains_key.true)
      w.in_ok-insert.ensures.updates.0)
  | else-not-contains_key w ↦ rw w.starts-is
      (known_at c.args.tables.now.regions c.regions.region c.region_token-token.result (get nat_eq c.regions.starts) c.region_token-token.ensures
      c.regions.invariant (sym c.contains_key.ensures ∙ w.if-not-contains_key.false))
]

pub returns : goal.returns
returns c = tells_all c.args.tables.now.regions c.regions.region (get nat_eq c.regions.starts) c.regions.invariant
    (omega (arith, c.regions-test.false, c.regions-region-end.ensures))
