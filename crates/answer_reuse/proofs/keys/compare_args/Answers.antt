use Rattle.std.proofs.Common.{◌∙◌, ◌≡◌, ap, arith, sym}
use Rattle.std.specs.{Cmp.Lexicographic.slice_cmp, Ordering.nat_cmp}
use Rattle.cell_value.specs.declared.values.Value.TheVariants.{Undefined}
use Rattle.answer_reuse.proofs.ListsCompared.{all_tie, apart_at, compared, tie_more}
use Rattle.answer_reuse.proofs.keys.compare_args.Goals as goal
use Rattle.answer_reuse.specs.Figures.{value_figure}

pub args-2-init : goal.args-2-init
args-2-init c = λ k d below. absurd (omega arith)

pub args-2-preserved : goal.args-2-preserved
args-2-preserved c = tie_more (slice_cmp nat_cmp) (value_figure 0 0) (value_figure 0 0) c.args.args.now c.args.others.now c.args-2.i Undefined c.requires
    c.args-2-test.true c.args-2.invariant
    (sym (compared (slice_cmp nat_cmp) c.cmp.ensures c.value_figure.ensures c.value_figure-in-args-2.ensures) ∙ c.in-Equal.is)

pub returns-in_default : goal.returns-in_default
returns-in_default c =
    let here = compared (slice_cmp nat_cmp) c.cmp.ensures c.value_figure.ensures c.value_figure-in-args-2.ensures in
    here ∙ sym (apart_at (slice_cmp nat_cmp) (value_figure 0 0) (value_figure 0 0) c.args.args.now c.args.others.now c.args-2.i Undefined c.requires
    c.args-2-test.true c.args-2.invariant (λ e. c.in_default.not-Equal (here ∙ e)))

pub returns : goal.returns
returns c = sym (all_tie (slice_cmp nat_cmp) (value_figure 0 0) (value_figure 0 0) c.args.args.now c.args.others.now c.args-2.i c.requires
    c.args-2-test.false c.args-2.invariant)
