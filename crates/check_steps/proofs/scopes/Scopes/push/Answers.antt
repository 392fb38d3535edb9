use Rattle.std.proofs.{Common.map, lemmas.List.map_push}
use Rattle.check_steps.proofs.HomeLists.{homes-region}
use Rattle.check_steps.proofs.scopes.Scopes.push.Goals as goal
use Rattle.check_steps.specs.{Homes.rows_of, Regions.RegionRows, declared.regions.Region.Region}

pub invariant_of-self-2 : goal.invariant_of-self-2
invariant_of-self-2 c =
    let s = c.self.inside in
    let x : Region = record { token = c.args.token; frame = c.args.frame; names = c.new.result; labels = c.with_hasher.result } in
    rw (c.in_ok-push.ensures.items, map_push rows_of s.regions.items x) (
      homes-region (λ (r : RegionRows). r.names) (map rows_of s.regions.items) s.homes (rows_of x) c.new.ensures.empty c.self.invariant.0,
      homes-region (λ (r : RegionRows). r.labels) (map rows_of s.regions.items) s.label_homes (rows_of x) c.with_hasher.ensures.empty c.self.invariant.1,
    )
