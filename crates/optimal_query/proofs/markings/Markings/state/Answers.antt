use Rattle.std.proofs.Common.{◌∙◌, ◌≡◌, ℕ, List, None, ap, length, map, subst, sym}
use Rattle.call_tree.specs.{Numbering.IsNumbered, Recording.lasts_of, Recording.parents_of}
use Rattle.subtree_weights.specs.{RunColumns.Columns, Weighed.Weighed, Weighed.weight_in, Weighed.weights_in}
use Rattle.optimal_query.proofs.{NextDoubt.are_nested, WeightsTell.Marked, WeightsTell.is_field, WeightsTell.state_asks, WeightsTell.state_ends}
use Rattle.optimal_query.proofs.markings.Markings.state.Goals as goal
use Rattle.optimal_query.specs.{Nested.AreNested, Region.doubts_of, Region.next_after, declared.state.SearchState.TheVariants.Ask}
use Rattle.optimal_query.specs.Markings.{askable_flag, verdict_from}

pub next_doubt-requires-clause-nested : goal.next_doubt-requires-clause-nested
next_doubt-requires-clause-nested c =
    let P : List ℕ → Type 0 = AreNested in
    subst P (sym c.last_column-last.ensures) (are_nested (parents_of c.args.calls.now.calls) (lasts_of c.args.calls.now.calls) c.are_numbered.ensures.numbered)

pub best_of_runs-best-requires : goal.best_of_runs-best-requires
best_of_runs-best-requires c =
    let w = c.args.self.now in
    let N : Columns → Type 0 = λ columns. IsNumbered columns.parent columns.last in
    let numbered = subst N c.requires.those_calls c.are_numbered.ensures.numbered in
    let last : c.last_column-last.result.now ≡ w.columns.last = c.last_column-last.ensures ∙ ap (λ (k : Columns). k.last) c.requires.those_calls in
    let weights : c.column.result.now ≡ weights_in w = c.column.ensures ∙ ap weights_in c.self.view_is in
    let askable : c.deref.result.now ≡ map askable_flag w.marks =
    c.deref.ensures.value ∙ c.self.invariant.flagged ∙ ap (λ (v : Weighed). map askable_flag v.marks) c.self.view_is in
    let each : length w.marks ≡ length w.columns.last = rw (← c.self.view_is) c.self.invariant.each in
    let marked : Marked w.columns.parent w.columns.last w.marks c.args.accused =
    record { numbered = numbered; each = each; known = c.requires.accused_is_a_call; weigh = c.weights_count_suspects.ensures.each } in
    record {
      a_field = rw (c.end-to.ensures, c.start-from.ensures, weights, askable, last)
          (is_field w.columns.parent w.columns.last w.marks c.args.accused c.suspects-suspects.result marked c.suspects-suspects.ensures);
    }

pub returns-in-Some : goal.returns-in-Some
returns-in-Some c =
    let w = c.args.self.now in
    let N : Columns → Type 0 = λ columns. IsNumbered columns.parent columns.last in
    let numbered = subst N c.requires.those_calls c.are_numbered.ensures.numbered in
    let last : c.last_column-last.result.now ≡ w.columns.last = c.last_column-last.ensures ∙ ap (λ (k : Columns). k.last) c.requires.those_calls in
    let weights : c.column.result.now ≡ weights_in w = c.column.ensures ∙ ap weights_in c.self.view_is in
    let askable : c.deref.result.now ≡ map askable_flag w.marks =
    c.deref.ensures.value ∙ c.self.invariant.flagged ∙ ap (λ (v : Weighed). map askable_flag v.marks) c.self.view_is in
    let each : length w.marks ≡ length w.columns.last = rw (← c.self.view_is) c.self.invariant.each in
    let marked : Marked w.columns.parent w.columns.last w.marks c.args.accused =
    record { numbered = numbered; each = each; known = c.requires.accused_is_a_call; weigh = c.weights_count_suspects.ensures.each } in
    let best = rw (c.end-to.ensures, c.start-from.ensures, weights, askable, last) at c.in-Some.ensures in
    ap (λ n. Ask c.in-Some.choice.at n c.suspects-suspects.result c.in-Some.choice.left)
    (c.weight.ensures ∙ ap (λ v. weight_in v c.in-Some.choice.at) c.self.view_is)
    ∙ state_asks w.columns.parent w.columns.last w.marks c.args.accused c.suspects-suspects.result c.in-Some.choice marked c.suspects-suspects.ensures best

pub returns-in-None : goal.returns-in-None
returns-in-None c =
    let w = c.args.self.now in
    let N : Columns → Type 0 = λ columns. IsNumbered columns.parent columns.last in
    let numbered = subst N c.requires.those_calls c.are_numbered.ensures.numbered in
    let last : c.last_column-last.result.now ≡ w.columns.last = c.last_column-last.ensures ∙ ap (λ (k : Columns). k.last) c.requires.those_calls in
    let weights : c.column.result.now ≡ weights_in w = c.column.ensures ∙ ap weights_in c.self.view_is in
    let askable : c.deref.result.now ≡ map askable_flag w.marks =
    c.deref.ensures.value ∙ c.self.invariant.flagged ∙ ap (λ (v : Weighed). map askable_flag v.marks) c.self.view_is in
    let each : length w.marks ≡ length w.columns.last = rw (← c.self.view_is) c.self.invariant.each in
    let marked : Marked w.columns.parent w.columns.last w.marks c.args.accused =
    record { numbered = numbered; each = each; known = c.requires.accused_is_a_call; weigh = c.weights_count_suspects.ensures.each } in
    let best = rw (c.end-to.ensures, c.start-from.ensures, weights, askable, last) at c.in-None.ensures in
    let marks : c.deref-in-None.result.now ≡ w.marks =
    c.deref-in-None.ensures.value ∙ c.self.invariant.same ∙ ap (λ (v : Weighed). v.marks) c.self.view_is in
    c.verdict.ensures
    ∙ ap (verdict_from c.args.accused) (c.next_doubt.ensures ∙ ap (λ l. next_after (doubts_of l c.deref-in-None.result.now c.args.accused) None) last
    ∙ ap (λ m. next_after (doubts_of w.columns.last m c.args.accused) None) marks)
    ∙ state_ends w.columns.parent w.columns.last w.marks c.args.accused c.suspects-suspects.result marked c.suspects-suspects.ensures best
