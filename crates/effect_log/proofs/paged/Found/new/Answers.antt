use Rattle.std.proofs.Common.{[], List, refl, subst, sym}
use Rattle.cell_value.specs.{Effects.change_at, declared.entries.Touch.Touch}
use Rattle.effect_log.proofs.paged.Found.new.Goals as goal
use Rattle.effect_log.specs.{Marks.IsMarked, Paging.blank_cell}

nothing_marked : (log : List Touch) (addr : _) → IsMarked log [] addr blank_cell
unfolding change_at
nothing_marked log addr = record {
  read = record { there = refl; says = refl };
  answer = record { there = refl; says = refl };
  change = record { there = refl; says = refl };
}

pub returns : goal.returns
returns c base place log = record {
  cells = λ addr shared. subst (IsMarked log [] addr) (sym (c.in_ok-new.ensures addr)) (nothing_marked log addr);
  others = λ addr other. c.in_ok-new.ensures addr;
  counts = record { made = refl; looked = refl; taken = refl; given = c.new-2.ensures };
}
