use Rattle.std.proofs.Common.{nat_eq}
use Rattle.indexmap.specs.IndexMap.{get}
use Rattle.decl_checker.proofs.Places.{TellsBefore}
use Rattle.decl_checker.proofs.regions.starts.Given as goal

abbrev pub invariant-regions : goal.invariant-regions
invariant-regions l = TellsBefore l.tables.regions l.region (get nat_eq l.starts)
