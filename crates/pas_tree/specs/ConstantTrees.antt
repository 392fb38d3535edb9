-- Names in a row and lists of constants without memory.
use Rattle.std.specs.Prelude.{ℕ, List}
use Rattle.pas_tree.specs.declared.constants.{Constant.Constant, Constants.Constants, Names.Names, NextName.NextName}
use Rattle.pas_tree.specs.declared.constants.NextConstant.{NextConstant}

pub record NamesTree : Type 0 where
  pub first : ℕ
  pub others : List NextName

pub record ConstantsTree : Type 0 where
  pub first : Constant
  pub others : List NextConstant

-- ---- the views

abbrev pub names_tree : Names → NamesTree
names_tree n = record { first = n.first; others = n.others.items }

abbrev pub constants_tree : Constants → ConstantsTree
constants_tree c = record { first = c.first; others = c.others.items }
