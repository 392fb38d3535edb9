use Rattle.std.proofs.Common.{◌++◌, ◌+◌, ◌∙◌, ◌∷◌, ◌≡◌, [], ℕ, List, ap, arith, length, map, sym}
use Rattle.std.proofs.lemmas.List.FromFn.{length-map-range_with_len, map-range_with_len_more}
use Rattle.call_tree.specs.declared.records.Mark.{Mark}
use Rattle.answer_book.specs.Numbers.{numbers_below}
use Rattle.dialog_replies.proofs.ColumnsOfCalls.{calls_counted}
use Rattle.dialog_replies.proofs.marks.marks_now.Goals as goal
use Rattle.dialog_replies.specs.Subject.{calls_recorded}

-- the mark of one more call
one_more : (mark : ℕ → Mark) (marks marks' : List Mark) (new : Mark) (call : ℕ) → marks ≡ map mark (numbers_below call)
    → marks' ≡ marks ++ new ∷ [] → new ≡ mark call → marks' ≡ map mark (numbers_below (call + 1))
one_more mark marks marks' new call so_far pushed is =
    pushed ∙ ap (λ (ms : List Mark). ms ++ new ∷ []) so_far ∙ ap (λ (m : Mark). map mark (numbers_below call) ++ m ∷ []) is
    ∙ sym (map-range_with_len_more mark 0 call call (omega arith))

-- as many marks as calls
as_many : (mark : ℕ → Mark) (marks : List Mark) (call calls : ℕ) → marks ≡ map mark (numbers_below call) → call ≡ calls → length marks ≡ calls
as_many mark marks call calls all e = ap length all ∙ length-map-range_with_len mark 0 call ∙ e

pub loop-call-preserved : goal.loop-call-preserved
loop-call-preserved g c =
    one_more _ c.loop-call.marks.items _ c.mark.result c.loop-call.call c.loop-call.invariant c.in_ok-push.ensures.items c.mark.ensures

pub returns-clause-each : goal.returns-clause-each
returns-clause-each g c =
    let s = g.D.Debugged.subject c.args.run.now in
    as_many _ c.loop-call.marks.items c.loop-call.call (calls_recorded s) c.loop-call.invariant
    (omega (arith, calls_counted s c.calls.result.now c.calls.ensures))
