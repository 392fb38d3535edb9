use Rattle.std.proofs.Common.{◌++◌, ◌+◌, ◌-◌, ◌<◌, ◌∙◌, ◌∷◌, ◌≡◌, [], ℕ, List, None, ap, arith, length, refl, reverse, slice_get, sym, vec_len}
use Rattle.std.proofs.lemmas.List.{length-reverse, map-append, reverse-append, Elements.All-push}
use Rattle.cell_value.specs.declared.ways_out.WayOut.TheVariants.{Returned}
use Rattle.call_tree.proofs.{EnteringKeepsNesting.entered_calls_are_nested, Places.last_is_first_reversed}
use Rattle.call_tree.proofs.calls.Calls.enter.Goals as goal
use Rattle.call_tree.specs.declared.records.{Call.Call, FrameStart.FrameStart}

pub invariant_of-self-2 : goal.invariant_of-self-2
invariant_of-self-2 c =
    let kept = c.self.invariant in
    let old : List Call = c.self.inside.calls.items in
    let open_items : List ℕ = c.self.inside.open_calls.items in
    let call : Call = record {
      routine = c.args.routine;
      parent = c.copied-parent.result;
      depth = c.len.result;
      last = c.len-number.result;
      args = c.args.args;
      entry = c.args.entry;
      exit = c.blank.result;
      way = Returned;
      result = None;
    } in
    let calls : c.push.new.self.items ≡ old ++ call ∷ [] = c.in_ok-push.ensures.items in
    let routine_column : c.push-2.new.self.items ≡ c.self.inside.routine_column.items ++ c.args.routine ∷ [] =
    c.in_ok-push-2.ensures.items ∙ ap (λ (xs : List ℕ). xs ++ c.args.routine ∷ []) c.in_ok-reserve.ensures.items in
    let last_column : c.push-3.new.self.items ≡ c.self.inside.last_column.items ++ c.len-number.result ∷ [] =
    c.in_ok-push-3.ensures.items ∙ ap (λ (xs : List ℕ). xs ++ c.len-number.result ∷ []) c.in_ok-reserve-2.ensures.items in
    let open_calls : c.push-4.new.self.items ≡ open_items ++ c.len-number.result ∷ [] =
    c.in_ok-push-4.ensures.items ∙ ap (λ (xs : List ℕ). xs ++ c.len-number.result ∷ []) c.in_ok-reserve-3.ensures.items in
    let start : FrameStart = record { top = c.args.entry.top; parent = c.copied-parent.result } in
    let start_column : c.push-5.new.self.items ≡ c.self.inside.start_column.items ++ start ∷ [] =
    c.in_ok-push-5.ensures.items ∙ ap (λ (xs : List FrameStart). xs ++ start ∷ []) c.in_ok-reserve-4.ensures.items in
    let seen : c.deref.result.now ≡ open_items = c.deref.ensures.value ∙ c.in_ok-reserve-3.ensures.items in
    let parent : c.copied-parent.result ≡ slice_get open_items (length open_items - 1) =
    c.copied-parent.ensures ∙ c.last.ensures.value ∙ ap (λ (xs : List ℕ). slice_get xs (length xs - 1)) seen in
    let depth : c.len.result ≡ length open_items = c.len.ensures ∙ c.in_ok-reserve-3.ensures.len ∙ c.self.inside.open_calls.ok.0 in
    let number : c.len-number.result ≡ length old = c.len-number.ensures ∙ c.self.inside.calls.ok.0 in
    let known : c.args.routine < c.self.inside.routines = rw (← c.self.view_is) at c.requires.known in
    let few : length old < 500000 = rw (← c.self.view_is) at c.requires.few in
    let under : 0 < length old → 0 < length (reverse open_items) = rw (← c.self.view_is) at c.requires.under_a_call in
    let added : vec_len c.push.new.self ≡ vec_len c.self.inside.calls + 1 = c.in_ok-push.ensures.len in
    let opened : vec_len c.push-4.new.self ≡ vec_len c.reserve-3.new.self + 1 = c.in_ok-push-4.ensures.len in
    let reserved = c.in_ok-reserve-3.ensures.len in
    record {
      few = omega arith;
      few_open = omega arith;
      routine_column = rw (calls, routine_column, map-append, kept.routine_column) refl;
      last_column = rw (calls, last_column, map-append, kept.last_column) refl;
      start_column = rw (calls, start_column, map-append, kept.start_column) refl;
      known = rw calls (All-push (λ (k : Call). k.routine < c.self.inside.routines) old call kept.known known);
      nested = rw (calls, open_calls) (entered_calls_are_nested old open_items call c.len-number.result number parent depth refl under kept.nested);
    }

pub returns-clause-entered : goal.returns-clause-entered
returns-clause-entered c =
    let old : List Call = c.self.inside.calls.items in
    let open_items : List ℕ = c.self.inside.open_calls.items in
    let calls : c.push.new.self.items ≡ old ++ record {
      routine = c.args.routine;
      parent = c.copied-parent.result;
      depth = c.len.result;
      last = c.len-number.result;
      args = c.args.args;
      entry = c.args.entry;
      exit = c.blank.result;
      way = Returned;
      result = None;
    } ∷ [] = c.in_ok-push.ensures.items in
    let open_calls : c.push-4.new.self.items ≡ open_items ++ c.len-number.result ∷ [] =
    c.in_ok-push-4.ensures.items ∙ ap (λ (xs : List ℕ). xs ++ c.len-number.result ∷ []) c.in_ok-reserve-3.ensures.items in
    let seen : c.deref.result.now ≡ open_items = c.deref.ensures.value ∙ c.in_ok-reserve-3.ensures.items in
    let parent : c.copied-parent.result ≡ slice_get (reverse open_items) 0 =
    c.copied-parent.ensures ∙ c.last.ensures.value ∙ ap (λ (xs : List ℕ). slice_get xs (length xs - 1)) seen ∙ last_is_first_reversed open_items in
    let depth : c.len.result ≡ length (reverse open_items) = c.len.ensures ∙ c.in_ok-reserve-3.ensures.len ∙ c.self.inside.open_calls.ok.0
    ∙ sym (length-reverse open_items) in
    let number : c.len-number.result ≡ length old = c.len-number.ensures ∙ c.self.inside.calls.ok.0 in
    let reversed : reverse (open_items ++ c.len-number.result ∷ []) ≡ c.len-number.result ∷ reverse open_items =
    reverse-append open_items (c.len-number.result ∷ []) in
    let blank = c.blank.ensures in
    rw (calls, open_calls, reversed, parent, depth, number, blank, ← c.self.view_is) refl
