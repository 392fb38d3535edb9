use Rattle.std.proofs.Common.{ℕ, List, subst, sym}
use Rattle.call_tree.specs.Recording.{lasts_of, parents_of}
use Rattle.optimal_query.proofs.NextDoubt.{are_nested}
use Rattle.optimal_query.proofs.markings.Markings.next_unknown.Goals as goal
use Rattle.optimal_query.specs.Nested.{AreNested}

pub next_doubt-requires-clause-nested : goal.next_doubt-requires-clause-nested
next_doubt-requires-clause-nested c =
    let P : List ℕ → Type 0 = AreNested in
    subst P (sym c.last_column.ensures) (are_nested (parents_of c.args.calls.now.calls) (lasts_of c.args.calls.now.calls) c.are_numbered.ensures.numbered)
