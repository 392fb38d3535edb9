use Rattle.std.proofs.Common.{◌++◌, ◌<◌, ◌∙◌, ◌∷◌, [], ℕ, List, ap, arith, length, map, nat_eq, refl, sym}
use Rattle.std.specs.Map.{lookup}
use Rattle.check_steps.proofs.{HomeLists.changed-row, HomeLists.changed-same, HomeLists.homes-more, Maps.inserted_last, Maps.region_of, Maps.regions-changed}
use Rattle.check_steps.proofs.scopes.Scopes.add_label.Goals as goal
use Rattle.check_steps.specs.{Homes.rows_of, Regions.RegionRows, Regions.declared_in, declared.regions.Region.Region}

pub invariant_of-self : goal.invariant_of-self
invariant_of-self c =
    let s = c.self.inside in (
      c.self.invariant.0,
      homes-more (λ (r : RegionRows). r.labels) (map rows_of s.regions.items) s.label_homes c.add.new.self c.self.invariant.1
          c.add.ensures.kept,
    )

pub invariant_of-self-else-region-len : goal.invariant_of-self-else-region-len
invariant_of-self-else-region-len c =
    let s = c.self.inside in (
      c.self.invariant.0,
      homes-more (λ (r : RegionRows). r.labels) (map rows_of s.regions.items) s.label_homes c.add.new.self c.self.invariant.1
          c.add.ensures.kept,
    )

pub invariant_of-self-in_ok-insert : goal.invariant_of-self-in_ok-insert
invariant_of-self-in_ok-insert c =
    let s = c.self.inside in
    let below : c.args.region < length s.regions.items = omega (arith, c.if-region-len.true, c.len.ensures) in
    let m = c.index_mut.result.now in
    let n : Region = record { token = m.token; frame = m.frame; names = m.names; labels = c.insert.new.self } in
    let at = region_of rows_of s.regions.items c.args.region m below c.index_mut.ensures.value in
    let none = ap (λ (g : RegionRows). lookup (nat_eq c.args.value) g.labels) (sym at)
    ∙ ap (λ (rs : List RegionRows). declared_in rs c.args.region c.args.value) c.self.view_is ∙ c.requires in
    let made = inserted_last m.labels.entries c.insert.new.self.entries c.args.value c.args.token c.in_ok-insert.ensures.entries none in (
      changed-same (λ (r : RegionRows). r.names) s.regions.items s.homes s.homes c.args.region m n below c.index_mut.ensures.value refl (λ k r e. e)
          c.self.invariant.0,
      changed-row (λ (r : RegionRows). r.labels) s.regions.items s.label_homes c.add.new.self c.args.region c.args.value m n c.args.token below
          c.index_mut.ensures.value made
          c.add.ensures.kept c.in_ok-add.ensures.added c.self.invariant.1,
    )

pub invariant_of-self-in_err-insert : goal.invariant_of-self-in_err-insert
invariant_of-self-in_err-insert c =
    let s = c.self.inside in
    let below : c.args.region < length s.regions.items = omega (arith, c.if-region-len.true, c.len.ensures) in
    let m = c.index_mut.result.now in
    let n : Region = record { token = m.token; frame = m.frame; names = m.names; labels = c.insert.new.self } in (
      changed-same (λ (r : RegionRows). r.names) s.regions.items s.homes s.homes c.args.region m n below c.index_mut.ensures.value refl (λ k r e. e)
          c.self.invariant.0,
      changed-same (λ (r : RegionRows). r.labels) s.regions.items s.label_homes c.add.new.self c.args.region m n below c.index_mut.ensures.value
          c.in_err-insert.ensures.err c.add.ensures.kept c.self.invariant.1,
    )

pub returns-in_ok-insert-clause-added : goal.returns-in_ok-insert-clause-added
returns-in_ok-insert-clause-added c =
    let s = c.self.inside in
    let below : c.args.region < length s.regions.items = omega (arith, c.if-region-len.true, c.len.ensures) in
    let m = c.index_mut.result.now in
    let n : Region = record { token = m.token; frame = m.frame; names = m.names; labels = c.insert.new.self } in
    let at = region_of rows_of s.regions.items c.args.region m below c.index_mut.ensures.value in
    let none = ap (λ (g : RegionRows). lookup (nat_eq c.args.value) g.labels) (sym at)
    ∙ ap (λ (rs : List RegionRows). declared_in rs c.args.region c.args.value) c.self.view_is ∙ c.requires in
    let made = inserted_last m.labels.entries c.insert.new.self.entries c.args.value c.args.token c.in_ok-insert.ensures.entries none in
    rw (← c.self.view_is)
    (regions-changed rows_of s.regions.items c.args.region m n (λ g. record g { labels = g.labels ++ (c.args.value, c.args.token) ∷ [] }) below
    c.index_mut.ensures.value (ap (λ (l : List (ℕ × ℕ)). record { token = m.token; frame = m.frame; names = m.names.entries; labels = l }) made))
