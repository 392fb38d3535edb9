use Rattle.std.proofs.Common.{◌∙◌, ◌≡◌, ◌≤◌, ap, arith, length, length-append, refl}
use Rattle.std.proofs.lemmas.List.{append-nil}
use Rattle.cell_value.specs.Effects.{listed}
use Rattle.effect_log.proofs.RisingEntriesAreListed.{length_listed, rising_is_listed}
use Rattle.effect_log.proofs.cells_found.in_order.Goals as goal
use Rattle.effect_log.specs.Passing.{found_at}

pub push-requires : goal.push-requires
push-requires g c =
    let entries : c.args.map.now.entries ≡ listed (found_at c.args.map.now) =
    rising_is_listed c.args.map.now.entries (found_at c.args.map.now) c.into_iter-addr-iterator.ensures.into_iter_gives.5 (λ q. refl) c.requires in
    let few : length c.args.map.now.entries ≤ 1048576 = rw entries (length_listed (found_at c.args.map.now)) in
    let all = ap length c.loop-addr.invariant in
    omega (arith, length-append c.loop-addr.items c.loop-addr.addr-iterator)

pub returns : goal.returns
returns g c =
    let left = c.in-None.ensures.steps.0 in
    let items = rw (left, append-nil) at c.loop-addr.invariant in
    items ∙ rising_is_listed c.args.map.now.entries (found_at c.args.map.now) c.into_iter-addr-iterator.ensures.into_iter_gives.5 (λ q. refl) c.requires
