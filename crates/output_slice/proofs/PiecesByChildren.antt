-- The pieces of a call are the calls that it made, and its own touches before, between and after them.
use Rattle.std.proofs.Common.{◌++◌, ◌+◌, ◌-◌, ◌∙◌, ◌∷◌, ◌≡◌, ◌≤◌, [], ℕ, List, Some, ap, append-nil, arith, drop, length, refl, slice_range, suc, sym, take}
use Rattle.std.{proofs.Common.zero, proofs.lemmas.List.drop-drop, proofs.lemmas.List.drop-take, proofs.lemmas.List.take-take, specs.List.slice_get}
use Rattle.cell_value.specs.declared.entries.Touch.{Touch}
use Rattle.core_program.specs.{Run.Call, Run.Marked, Run.Result, State.State}
use Rattle.output_slice.specs.Children.{Ordered, begin_of, child_then, children_in, mark_or, pieces_from}
use Rattle.output_slice.specs.Pieces.{OfChild, cut, own}

pub ordered_ends : (at skip end : ℕ) (es : List (Marked Call)) → Ordered at skip end es → at ≤ end
ordered_ends at skip end [] h = h
ordered_ends at zero end (e ∷ es) h =
    omega (arith, h.0, ordered_ends (e.mark + length e.event.log) e.event.below end es h.1)
ordered_ends at (suc skip) end (e ∷ es) h = ordered_ends at skip end es h

-- a part of a list, before a place and after one
pub before_place : (log : List Touch) (at mark end : ℕ) → at ≤ mark → mark ≤ end → take (mark - at) (slice_range log at end) ≡ slice_range log at mark
before_place log at mark end h k = take-take (mark - at) (end - at) (drop at log) (omega (arith, h, k))

pub after_place : (log : List Touch) (at mark long end : ℕ) → at ≤ mark → mark + long ≤ end
    → drop ((mark - at) + long) (slice_range log at end) ≡ slice_range log (mark + long) end
after_place log at mark long end h k =
    ap (λ n. drop ((mark - at) + long) (take n (drop at log)))
    (let e : end - at ≡ ((mark - at) + long) + (end - (mark + long)) = omega (arith, h, k) in e)
    ∙ drop-take ((mark - at) + long) (end - (mark + long)) (drop at log)
    ∙ ap (take (end - (mark + long))) (drop-drop ((mark - at) + long) at log)
    ∙ ap (λ n. take (end - (mark + long)) (drop n log)) (let e : at + ((mark - at) + long) ≡ mark + long = omega (arith, h) in e)

-- these are the marked records from this number on
abbrev pub Follow : Result State Call → ℕ → List (Marked Call) → Type 0
Follow r number es = (i : ℕ) (e : Marked Call) → slice_get es i ≡ Some e → slice_get r.events (number + i) ≡ Some e

pub follow_rest : (r : Result State Call) (number : ℕ) (e : Marked Call) (es : List (Marked Call)) → Follow r number (e ∷ es) → Follow r (suc number) es
follow_rest r number e es f = λ i d q. ap (slice_get r.events) (let s : suc number + i ≡ number + suc i = omega arith in s) ∙ f (suc i) d q

pub pieces_by_children : (r : Result State Call) (at number skip end : ℕ) (es : List (Marked Call)) → Follow r number es → Ordered at skip end es
    → cut at number skip (slice_range r.log at end) es
    ≡ own (slice_range r.log at (begin_of r end (children_in number skip es))) ++ pieces_from r end (children_in number skip es)
pieces_by_children r at number skip end [] f h = sym (append-nil (own (slice_range r.log at end)))
pieces_by_children r at number zero end (e ∷ es) f h =
    let here : slice_get r.events number ≡ Some e = ap (slice_get r.events) (let s : number ≡ number + 0 = omega arith in s) ∙ f 0 e refl in
    let long = length e.event.log in
    let ends = ordered_ends (e.mark + long) e.event.below end es h.1 in
    let ks = children_in (suc number) e.event.below es in
    ap (λ l. own l ++ (OfChild number e.event ∷ cut (e.mark + long) (suc number) e.event.below (drop ((e.mark - at) + long) (slice_range r.log at end)) es))
    (before_place r.log at e.mark end h.0 (omega (arith, ends)))
    ∙ ap (λ l. own (slice_range r.log at e.mark) ++ (OfChild number e.event ∷ cut (e.mark + long) (suc number) e.event.below l es))
    (after_place r.log at e.mark long end h.0 ends)
    ∙ ap (λ l. own (slice_range r.log at e.mark) ++ (OfChild number e.event ∷ l))
    (pieces_by_children r (e.mark + long) (suc number) e.event.below end es (follow_rest r number e es f) h.1)
    ∙ ap (λ o. own (slice_range r.log at (mark_or end o)) ++ child_then r number (begin_of r end ks) o (pieces_from r end ks)) (sym here)
pieces_by_children r at number (suc skip) end (e ∷ es) f h = pieces_by_children r at (suc number) skip end es (follow_rest r number e es f) h
