use Rattle.std.specs.{Cmp.Lexicographic.slice_cmp, Ordering.nat_cmp}
use Rattle.answer_reuse.proofs.ListsCompared.{Tie}
use Rattle.answer_reuse.proofs.keys.compare_args.Given as goal
use Rattle.answer_reuse.specs.Figures.{value_figure}

abbrev pub invariant-args-2 : goal.invariant-args-2
invariant-args-2 l = Tie (slice_cmp nat_cmp) (value_figure 0 0) (value_figure 0 0) l.args l.others l.i
