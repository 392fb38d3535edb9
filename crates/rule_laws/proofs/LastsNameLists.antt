-- What the steps of `Rattle.kind_checker.specs.Names` leave as it was.
use Rattle.std.proofs.Common.{ℕ, refl}
use Rattle.pas_tree.specs.BlockTrees.{RoutineTree}
use Rattle.check_steps.specs.Known.{Known}
use Rattle.kind_checker.specs.{Names.define_name, Names.defined_as, declared.names.NameKind.NameKind}
use Rattle.rule_laws.proofs.{Keeping.Keeps, Lasting.Lasting, Lasting.define_in-lasts}

pub define_name-lasts : {G : RoutineTree → Type 0} {I : Known → Type 0} (kept : Lasting G I) (region : ℕ) (k : NameKind) (u : Unit {0}) (token : ℕ)
    → Keeps I (define_name region k u token)
unfolding define_name
define_name-lasts kept region k u token = define_in-lasts kept region (record { def = defined_as k token; token = token; end = token }) refl
