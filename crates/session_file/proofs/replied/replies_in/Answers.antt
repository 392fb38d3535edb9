use Rattle.std.proofs.Common.{◌-◌, ◌<◌, ◌∙◌, ◌≡◌, None, Some, ap, arith, length, sym}
use Rattle.json.{proofs.Grammar.after_end_array-shorter, specs.Json.after_end_array, specs.Json.items, specs.Json.value}
use Rattle.serde_json.specs.Read.{converted}
use Rattle.session_file.proofs.PassTurns.{all_found, item_made, item_refused, items_made, made_of, none_made, none_read}
use Rattle.session_file.proofs.WholeRead.{refused_with}
use Rattle.session_file.proofs.replied.replies_in.Goals as goal
use Rattle.session_file.specs.Listed.{next_answered, nothing_answered}

pub items-preserved : goal.items-preserved
items-preserved c =
    let p = value c.args.depth in
    let l = c.items in
    let n = l.invariant.0 in
    let going : (after_end_array l.reader ≡ None) × (c.take_end_array.new.self ≡ l.reader) = grind arith in
    let read = c.in-Ok.ensures.read in
    let r = c.answered_after.new.reader in
    let less : length r < length l.reader = rw (← going.1) c.in-Ok.ensures.shorter in
    let turn = item_made next_answered p l.answered n l.reader r read.0 (omega (arith, l.invariant.1)) going.0 (rw (← going.1) read.1) in (
      n - 1,
      omega (arith, l.invariant.1),
      l.invariant.2 ∙ turn ∙ ap (λ s. converted (made_of next_answered s) (items p (n - 1) r)) (sym read.2),
      omega (arith, l.invariant.3),
    )

pub returns-in-Err-clause-refused : goal.returns-in-Err-clause-refused
returns-in-Err-clause-refused c =
    let p = value c.args.depth in
    let l = c.items in
    let going : (after_end_array l.reader ≡ None) × (c.take_end_array.new.self ≡ l.reader) = grind arith in
    let all = items p (length c.args.reader.now) c.args.reader.now in
    refused_with c.in-Err.fault _ _ (λ none. none_read next_answered (Some nothing_answered) all
    (l.invariant.2 ∙ none_made next_answered l.answered (items p l.invariant.0 l.reader)
    (item_refused p l.invariant.0 l.reader going.0 (rw (← going.1) none)))) c.in-Err.ensures.refused

pub returns-clause-read : goal.returns-clause-read
returns-clause-read c =
    let l = c.items in
    let r = c.take_end_array.new.self in
    let over : after_end_array l.reader ≡ Some r = grind arith in
    let all = items (value c.args.depth) (length c.args.reader.now) c.args.reader.now in
    let found = all_found next_answered (Some nothing_answered) l.answered all r
    (l.invariant.2 ∙ items_made next_answered (value c.args.depth) l.answered l.invariant.0 l.reader r l.invariant.1 over) in
    (found.0, found.1, sym found.2)

pub returns-clause-shorter : goal.returns-clause-shorter
returns-clause-shorter c =
    let l = c.items in
    let r = c.take_end_array.new.self in
    let over : after_end_array l.reader ≡ Some r = grind arith in
    let less = after_end_array-shorter l.reader r over in
    omega (arith, less, l.invariant.3)
