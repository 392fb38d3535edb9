-- A slice as clauses see it, from how it is kept.
use Rattle.std.specs.Prelude.{length}
use Rattle.output_slice.specs.{Firsts.AreFirsts, SlicePairs.Sliced, declared.slicing.Slicing.TheInside.Inside}

abbrev pub slice_of : Inside → Sliced
slice_of kept = record { pairs = kept.pairs; calls = length kept.firsts.items }

abbrev pub IsKept : Inside → Type 0
IsKept kept = AreFirsts kept.pairs kept.firsts.items
