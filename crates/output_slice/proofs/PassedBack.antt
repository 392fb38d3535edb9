-- A pass back over a call that was made, and over a whole call, by the calls that it made.
use Rattle.std.proofs.Common.{◌++◌, ◌+◌, ◌<◌, ◌∙◌, ◌∷◌, ◌≡◌, ◌≤◌, [], ℕ, All, Bool, List, Some, ap, append-nil, append_assoc, arith, drop, false, length}
use Rattle.std.proofs.Common.{length-append, nat_lt, refl, slice_range, subst, suc, sym, true}
use Rattle.std.{proofs.lemmas.Bool.Decides.nat_tests, proofs.lemmas.Option.slice_get_within, specs.List.slice_get}
use Rattle.cell_value.specs.Effects.{IsCountable}
use Rattle.core_program.{proofs.OutcomesCompose.some_same, specs.Run.Call, specs.Run.Marked, specs.Run.Result, specs.State.State}
use Rattle.call_tree.specs.declared.records.Call.{Call as Row}
use Rattle.program_run.specs.declared.history.History.{History}
use Rattle.output_slice.proofs.{PairsAdded.back_touches, PairsAdded.drop_one, PiecesByChildren.Follow, PiecesByChildren.pieces_by_children}
use Rattle.output_slice.proofs.ChildrenInOrder.{begins, below_follow, child_in, part_within}
use Rattle.output_slice.proofs.KeptOfRuns.{counted_at, in_order, log_is, row_is, told_at}
use Rattle.output_slice.specs.{CellSets.has_cell, KeptRuns.IsKeptRun, KeptRuns.below_of, Needed.AreGathered, Needed.AreWanted, Passes.IsPassed}
use Rattle.output_slice.specs.{Passes.passed_child, Pieces.cut, Pieces.own, Pieces.pieces_of, declared.needs.Needs.Needs, declared.used.Gathered.Gathered}
use Rattle.output_slice.specs.Backward.{Back, Wanted, back, before_child, before_touches, is_some_of, used_of, with_number}
use Rattle.output_slice.specs.Children.{Ordered, begin_of, child_then, children_in, mark_or, pieces_from}
use Rattle.output_slice.specs.declared.outputs.Output.{Output, TheVariants.Gives, TheVariants.Makes, TheVariants.Takes}

abbrev PairList : Type 0
PairList = List (ℕ × Output)

numbered_length : (n : ℕ) (us : List Output) → length (with_number n us) ≡ length us
numbered_length n [] = refl
numbered_length n (u ∷ us) = ap suc (numbered_length n us)

-- whether pairs came
pub longer : (before after : PairList) (n : ℕ) (us : List Output) → after ≡ before ++ with_number n us
    → nat_lt (length before) (length after) ≡ is_some_of us
longer before after n [] e =
    let l : length after ≡ length before = ap length (e ∙ append-nil before) in
    let z : nat_lt (length before) (length after) ≡ false = grind (arith, nat_tests) in z
longer before after n (u ∷ us) e =
    let l = ap length e ∙ length-append before (with_number n (u ∷ us)) in
    let m = numbered_length n us in
    let z : nat_lt (length before) (length after) ≡ true = grind (arith, nat_tests) in z

-- one call more, before what was passed
abbrev with_child : (Output → Bool) → ℕ → Call → Back → Back
with_child wants n c b = record {
  wanted = before_child c (used_of wants b.wanted c) b.wanted;
  pairs = b.pairs ++ with_number n (used_of wants b.wanted c);
}

child_added : (wants : Output → Bool) (n : ℕ) (c : Call) (b : Back) (mid new : Needs) (before between after : PairList) → AreWanted mid b.wanted
    → between ≡ before ++ b.pairs → IsPassed new between after (passed_child wants n c b.wanted) → IsPassed new before after (with_child wants n c b)
child_added wants n c b mid new before between after a e p = record {
  wanted = p.wanted;
  pairs = p.pairs ∙ ap (λ l. l ++ with_number n (used_of wants b.wanted c)) e ∙ append_assoc before b.pairs (with_number n (used_of wants b.wanted c));
}

-- outputs and a state for which what is kept stands
abbrev pub wants_by : Gathered → Output → Bool
wants_by g Gives = g.gives
wants_by g Takes = g.takes
wants_by g Makes = g.makes
wants_by g x = false

pub gathered_so : (g : Gathered) → AreGathered (wants_by g) g
gathered_so g = record { gives = refl; takes = refl; makes = refl }

abbrev pub wanted_by : Needs → Wanted
wanted_by needs = record { cells = has_cell needs.cells; input = needs.input; heap = needs.heap }

pub wanted_so : (needs : Needs) → AreWanted needs (wanted_by needs)
wanted_so needs = record { cells = λ a h. refl; input = refl; heap = refl }

module _ {h : History} {r : Result State Call} (k : IsKeptRun h r) (number : ℕ) (e : Marked Call) (q : slice_get r.events number ≡ Some e) where
  abbrev pub log_end : ℕ
  log_end = e.mark + length e.event.log

  abbrev pub made : List ℕ
  made = children_in (number + 1) 0 (below_of r number e)

  follow : Follow r (number + 1) (below_of r number e)
  follow = below_follow r number e.event.below

  order : Ordered e.mark 0 log_end (below_of r number e)
  order = in_order k number e q

  pieces_are : pieces_of r number e ≡ own (slice_range r.log e.mark (begin_of r log_end made)) ++ pieces_from r log_end made
  pieces_are = ap (λ l. cut e.mark (number + 1) 0 l (below_of r number e)) (sym (counted_at k number e q).part)
      ∙ pieces_by_children r e.mark (number + 1) 0 log_end (below_of r number e) follow order

  -- touches of the log that is kept
  touches_are : (from to begin end : ℕ) → from ≡ begin → to ≡ end → slice_range h.log from to ≡ slice_range r.log begin end
  touches_are from to begin end a b =
      ap (λ l. slice_range l from to) (log_is k) ∙ ap (λ m. slice_range r.log m to) a ∙ ap (λ m. slice_range r.log begin m) b

  -- the touches between two of the calls that were made, and the first of these
  pub child_passed : (wants : Output → Bool) (i child : ℕ) → slice_get made i ≡ Some child → (m : Marked Call) → slice_get r.events child ≡ Some m
      → (old mid new : Needs) (before between after : PairList) (exit at : ℕ) → exit ≡ m.mark + length m.event.log
      → at ≡ begin_of r log_end (drop (i + 1) made) → IsPassed old before between (back wants (pieces_from r log_end (drop (i + 1) made)))
      → ((w : Wanted) → AreWanted old w → AreWanted mid (before_touches (slice_range h.log exit at) w))
      → ((w : Wanted) → AreWanted mid w → IsPassed new between after (passed_child wants child m.event w))
      → IsPassed new before after (back wants (pieces_from r log_end (drop i made)))
  child_passed wants i child s m t old mid new before between after exit at ends begun p touches passes =
      let ks = drop (i + 1) made in
      let ps = pieces_from r log_end ks in
      let ts = slice_range r.log (m.mark + length m.event.log) (begin_of r log_end ks) in
      let b : Back = record { wanted = before_touches ts (back wants ps).wanted; pairs = (back wants ps).pairs } in
      let wanted : AreWanted mid b.wanted = subst (λ l. AreWanted mid (before_touches l (back wants ps).wanted))
      (touches_are exit at (m.mark + length m.event.log) (begin_of r log_end ks) ends begun) (touches (back wants ps).wanted p.wanted) in
      subst (IsPassed new before after) (sym (
      ap (λ l. back wants (pieces_from r log_end l)) (drop_one made i child s)
      ∙ ap (λ o. back wants (child_then r child (begin_of r log_end ks) o ps)) t
      ∙ ap (with_child wants child m.event) (back_touches wants ts ps)))
      (child_added wants child m.event b mid new before between after wanted p.pairs (passes b.wanted wanted))

  -- and those before the first of them: the call is passed
  pub whole_passed : (wants : Output → Bool) (mid new : Needs) (before after : PairList) (entry at : ℕ) → entry ≡ e.mark → at ≡ begin_of r log_end made
      → IsPassed mid before after (back wants (pieces_from r log_end made))
      → ((w : Wanted) → AreWanted mid w → AreWanted new (before_touches (slice_range h.log entry at) w))
      → IsPassed new before after (back wants (pieces_of r number e))
  whole_passed wants mid new before after entry at begins begun p touches =
      let ps = pieces_from r log_end made in
      let ts = slice_range r.log e.mark (begin_of r log_end made) in
      subst (IsPassed new before after) (sym (ap (back wants) pieces_are ∙ back_touches wants ts ps)) (record {
        wanted = subst (λ l. AreWanted new (before_touches l (back wants ps).wanted)) (touches_are entry at e.mark (begin_of r log_end made) begins begun)
            (touches (back wants ps).wanted p.wanted);
        pairs = p.pairs;
      })

  -- where the pass begins, nothing was passed
  pub none_passed : (wants : Output → Bool) (old : Needs) (pairs : PairList) → AreWanted old (back wants []).wanted
      → IsPassed old pairs pairs (back wants (pieces_from r log_end []))
  none_passed wants old pairs w = record { wanted = w; pairs = sym (append-nil pairs) }

  -- each of the calls that were made is one of the run
  pub made_is_a_call : (i child : ℕ) → slice_get made i ≡ Some child → child < length r.events
  made_is_a_call i child s =
      let one = child_in r e.mark (number + 1) 0 log_end (below_of r number e) follow order i child s in
      slice_get_within r.events child one.entry one.a_call

  -- ---- what the pass asks of the log

  pub record PassesTouches (from to : ℕ) : Type 0 where
    pub in_order : from ≤ to
    pub in_log : to ≤ length h.log
    pub countable : All IsCountable (slice_range h.log from to)

  touches_inside : (row : Row) → slice_get h.calls.calls number ≡ Some row → (from to : ℕ) → e.mark ≤ from → from ≤ to → to ≤ log_end
      → PassesTouches from to
  touches_inside row s from to a b c =
      let i = row_is k number e row q s in
      let told = told_at k number row s in
      record {
        in_order = b;
        in_log = omega (arith, told.in_log, c, i.ends);
        countable = part_within IsCountable h.log row.entry.mark from to row.exit.mark (omega (arith, a, i.begins)) b (omega (arith, c, i.ends)) told.countable;
      }

  -- after one of the calls that were made, up to the next
  pub child_asks : (row : Row) → slice_get h.calls.calls number ≡ Some row → (i child : ℕ) → slice_get made i ≡ Some child
      → (m : Marked Call) → slice_get r.events child ≡ Some m → (exit at : ℕ) → exit ≡ m.mark + length m.event.log
      → at ≡ begin_of r log_end (drop (i + 1) made) → PassesTouches exit at
  child_asks row s i child t m u exit at ends begun =
      let es = below_of r number e in
      let one = child_in r e.mark (number + 1) 0 log_end es follow order i child t in
      let same : one.entry ≡ m = some_same (sym one.a_call ∙ u) in
      let from = (begins r e.mark (number + 1) 0 log_end es follow order i).from in
      let here : begin_of r log_end (drop i made) ≡ m.mark =
      ap (begin_of r log_end) (drop_one made i child t) ∙ ap (mark_or log_end) u in
      let upto = (begins r e.mark (number + 1) 0 log_end es follow order (suc i)).to in
      let next : suc i ≡ i + 1 = omega arith in
      touches_inside row s exit at
      (omega (arith, from, here, ends))
      (omega (
        arith,
        subst (λ (c : Marked Call). c.mark + length c.event.log ≤ begin_of r log_end (drop (suc i) made)) same one.before,
        ends,
        begun,
        ap (λ n. begin_of r log_end (drop n made)) next,
      ))
      (omega (arith, upto, begun, ap (λ n. begin_of r log_end (drop n made)) next))

  -- and before the first
  pub first_asks : (row : Row) → slice_get h.calls.calls number ≡ Some row → (entry at : ℕ) → entry ≡ e.mark → at ≡ begin_of r log_end made
      → PassesTouches entry at
  first_asks row s entry at begun to =
      let b = begins r e.mark (number + 1) 0 log_end (below_of r number e) follow order 0 in
      touches_inside row s entry at (omega (arith, begun)) (omega (arith, b.from, begun, to)) (omega (arith, b.to, to))

  -- ---- the same by the list of them that a pass keeps

  module _ (items : List ℕ) (same : items ≡ made) (i next child : ℕ) (one : next ≡ i + 1) (s : slice_get items i ≡ Some child) (m : Marked Call)
      (t : slice_get r.events child ≡ Some m) where
    there : slice_get made i ≡ Some child
    there = ap (λ l. slice_get l i) (sym same) ∙ s

    pub begin_here : begin_of r log_end (drop i items) ≡ m.mark
    begin_here = ap (begin_of r log_end) (drop_one items i child s) ∙ ap (mark_or log_end) t

    begun_next : (at : ℕ) → at ≡ begin_of r log_end (drop next items) → at ≡ begin_of r log_end (drop (i + 1) made)
    begun_next at begun = begun ∙ ap (λ n. begin_of r log_end (drop n items)) one ∙ ap (λ l. begin_of r log_end (drop (i + 1) l)) same

    pub step_passed : (wants : Output → Bool) (old mid new : Needs) (before between after : PairList) (exit at : ℕ) → exit ≡ m.mark + length m.event.log
        → at ≡ begin_of r log_end (drop next items) → IsPassed old before between (back wants (pieces_from r log_end (drop next items)))
        → ((w : Wanted) → AreWanted old w → AreWanted mid (before_touches (slice_range h.log exit at) w))
        → ((w : Wanted) → AreWanted mid w → IsPassed new between after (passed_child wants child m.event w))
        → IsPassed new before after (back wants (pieces_from r log_end (drop i items)))
    step_passed wants old mid new before between after exit at ends begun p touches passes =
        subst (λ ks. IsPassed new before after (back wants (pieces_from r log_end (drop i ks)))) (sym same)
        (child_passed wants i child there m t old mid new before between after exit at ends (begun_next at begun)
        (subst (λ ks. IsPassed old before between (back wants (pieces_from r log_end (drop (i + 1) ks)))) same
        (subst (λ n. IsPassed old before between (back wants (pieces_from r log_end (drop n items)))) one p)) touches passes)

    pub step_asks : (row : Row) → slice_get h.calls.calls number ≡ Some row → (exit at : ℕ) → exit ≡ m.mark + length m.event.log
        → at ≡ begin_of r log_end (drop next items) → PassesTouches exit at
    step_asks row u exit at ends begun = child_asks row u i child there m t exit at ends (begun_next at begun)
