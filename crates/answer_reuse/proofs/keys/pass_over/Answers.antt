use Rattle.std.proofs.Common.{◌+◌, ◌-◌, ◌∙◌, ◌∷◌, ◌≡◌, [], Some, ap, arith, drop, map, max, slice_get, slice_range, sym, take}
use Rattle.std.{proofs.lemmas.List.FromFn.map-range_with_len_more, proofs.lemmas.List.Sums.fold-append, specs.Option.option_map}
use Rattle.cell_value.specs.Effects.{IsCountable, looked_by, looked_of}
use Rattle.effect_log.proofs.{OneMoreTouch.looked_more, SlicesGoOn.slice_has, SlicesGoOn.slice_more}
use Rattle.answer_book.specs.Numbers.{numbers_below}
use Rattle.answer_reuse.proofs.keys.pass_over.Goals as goal
use Rattle.answer_reuse.specs.{Figures.touch_figure, Keys.if_figure, Keys.mixed_figure, Keys.touch_key, Keys.touches_digest}

pub touches-init : goal.touches-init
touches-init c =
    let none : c.args.row.now.entry.mark - c.args.row.now.entry.mark ≡ 0 = omega arith in
    record {
      digest = ap (λ n. touches_digest 0 (map (touch_key c.args.log.now c.args.row.now) (numbers_below n))) (sym none);
      looked = ap (λ n. looked_of c.args.row.now.entry.place (take n (drop c.args.row.now.entry.mark c.args.log.now))) (sym none);
    }

pub looked_by-requires : goal.looked_by-requires
looked_by-requires c = record {
  countable = slice_has c.args.log.now c.args.row.now.entry.mark c.touches.i c.at-touch.result c.touches.auto.i c.at-touch.ensures.found IsCountable
      c.args.row.now.exit.mark c.touches-test.true c.requires.told.1.in_log c.requires.told.1.countable;
}

pub touches-preserved : goal.touches-preserved
touches-preserved c =
    let log = c.args.log.now in
    let from = c.args.row.now.entry in
    let key = touch_key log c.args.row.now in
    let before = slice_range log from.mark c.touches.i in
    let many = c.touches.i - from.mark in
    let place : from.mark + many ≡ c.touches.i = (let z = c.touches.auto.i in omega (arith, z)) in
    let more : many + 1 ≡ c.touches.i + 1 - from.mark = (let z = c.touches.auto.i in omega (arith, z)) in
    let here : key many ≡ Some (touch_figure from.place c.at-touch.result) =
    ap (option_map (touch_figure from.place)) (ap (slice_get log) place ∙ c.at-touch.ensures.found) in
    record {
      digest = c.mixed_figure-digest.ensures ∙ ap (mixed_figure c.touches.digest) c.touch_figure.ensures ∙ ap (if_figure c.touches.digest) (sym here)
          ∙ ap (λ d. if_figure d (key many)) c.touches.invariant.digest
          ∙ sym (fold-append if_figure 0 (map key (numbers_below many)) (key many ∷ []))
          ∙ ap (touches_digest 0) (sym (map-range_with_len_more key 0 many many (omega arith)))
          ∙ ap (λ n. touches_digest 0 (map key (numbers_below n))) more;
      looked = c.max-looked.ensures ∙ ap (λ n. max c.touches.looked n) c.looked_by.ensures
          ∙ ap (λ n. max n (looked_by from.place c.at-touch.result)) c.touches.invariant.looked
          ∙ sym (looked_more from.place before c.at-touch.result)
          ∙ ap (looked_of from.place) (sym (slice_more log from.mark c.touches.i c.at-touch.result c.touches.auto.i c.at-touch.ensures.found));
    }

pub returns-clause-digest : goal.returns-clause-digest
returns-clause-digest c =
    let row = c.args.row.now in
    let end = c.touches.auto.i-end c.requires.told.1.in_order in
    let many : c.touches.i - row.entry.mark ≡ row.exit.mark - row.entry.mark = omega (arith, c.touches-test.false, end) in
    c.touches.invariant.digest ∙ ap (λ n. touches_digest 0 (map (touch_key c.args.log.now row) (numbers_below n))) many
