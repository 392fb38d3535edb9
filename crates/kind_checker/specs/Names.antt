-- The names of a list.
use Rattle.std.specs.Prelude.{ℕ}
use Rattle.pas_tree.specs.{ConstantTrees.NamesTree, declared.constants.NextName.NextName}
use Rattle.check_steps.specs.{Names.define_in, Steps.◌>>=◌, Steps.Step, Steps.each, declared.regions.Def.Def}
use Rattle.kind_checker.specs.declared.names.NameKind.{NameKind}

unfoldable pub on_name : {A : Type 0} → (A → ℕ → Step A) → A → NextName → Step A
on_name f a n = f a n.name

-- a step for each name of a list in turn
abbrev pub each_name : {A : Type 0} → (A → ℕ → Step A) → A → NamesTree → Step A
each_name f a n = do
  b ← f a n.first
  each (on_name f) b n.others

abbrev pub defined_as : NameKind → ℕ → Def
defined_as NameKind.Constant token = Def.Constant token
defined_as NameKind.Variable token = Def.Variable token
defined_as NameKind.Field token = Def.Field token
defined_as NameKind.Formal token = Def.Formal token

-- a name of a list, which may be used from its own token on
unfoldable pub define_name : ℕ → NameKind → Unit {0} → ℕ → Step (Unit {0})
define_name region k u token = define_in region (record { def = defined_as k token; token = token; end = token })
