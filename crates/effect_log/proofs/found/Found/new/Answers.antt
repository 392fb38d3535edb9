use Rattle.std.{proofs.Common.◌∙◌, proofs.Common.ap, proofs.Common.refl, specs.BTreeMap.is_at, specs.Map.lookup, specs.Ordering.nat_cmp}
use Rattle.cell_value.specs.Effects.{change_at, is_shared, seen_at}
use Rattle.effect_log.proofs.BlocksChange.{either}
use Rattle.effect_log.proofs.found.Found.new.Goals as goal

pub returns : goal.returns
unfolding change_at seen_at
returns c base place = record {
  reads = λ addr. ap (lookup (is_at (nat_cmp addr))) c.new.ensures.empty ∙ either (is_shared base addr) _;
  changes = λ addr. ap (lookup (is_at (nat_cmp addr))) c.new-2.ensures.empty ∙ either (is_shared base addr) _;
  made = refl;
  looked = refl;
  taken = refl;
  given = c.new-3.ensures;
}
