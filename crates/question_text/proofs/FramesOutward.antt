-- The frames of open calls, from one on outward.
use Rattle.std.proofs.Common.{if◌then◌else◌, ◌++◌, ◌+◌, ◌-◌, ◌<◌, ◌==◌, ◌∙◌, ◌∷◌, ◌≡◌, ◌≤◌, [], ℕ, List, None, Option, Some, ap, append_assoc, arith, false}
use Rattle.std.proofs.Common.{length, refl, reverse, slice_get, suc, sym, true, zero}
use Rattle.std.proofs.lemmas.{Bool.Decides.nat_tests, List.reverse-append}
use Rattle.call_tree.specs.{Recording.starts_of, declared.records.Call.Call, declared.records.FrameStart.FrameStart}
use Rattle.cell_names.specs.declared.places.PlacedPart.{PlacedPart}
use Rattle.question_text.specs.Frames.{call_of_frame, frame_by, frame_from, frame_of_call, framed_by, opened_by, opened_from}
use Rattle.question_text.specs.declared.opened.OpenFrame.{OpenFrame}

reverse-push : {X : Type 0} (xs : List X) (x : X) → reverse (xs ++ x ∷ []) ≡ x ∷ reverse xs
reverse-push xs x = reverse-append xs (x ∷ [])

deeper : (most counter : ℕ) → counter < most → most - counter ≡ suc (most - (counter + 1))
deeper most counter below = omega (arith, below)

-- one frame further out, of this many at most
pub row_on : (calls : List Call) (left : ℕ) (at : Option ℕ) (frames more all : List PlacedPart) (o : Option OpenFrame) (f : OpenFrame) → 0 < left
    → o ≡ frame_of_call calls at → o ≡ Some f → more ≡ frames ++ f.part ∷ [] → opened_from calls left at ++ reverse frames ≡ all
    → opened_from calls (left - 1) f.outer ++ reverse more ≡ all
row_on calls left at frames more all o f some is found pushed so_far =
    let outer = opened_from calls (left - 1) f.outer in
    ap (λ l. outer ++ reverse l) pushed ∙ ap (λ l. outer ++ l) (reverse-push frames f.part)
    ∙ sym (append_assoc outer (f.part ∷ []) (reverse frames))
    ∙ sym (ap (λ n. opened_from calls n at ++ reverse frames) (let e : left ≡ suc (left - 1) = omega (arith, some) in e)
    ∙ ap (λ g. opened_by g (opened_from calls (left - 1)) ++ reverse frames) (sym is ∙ found)) ∙ so_far

started : (n : ℕ) (calls : List Call) (k : ℕ) → frame_by n (slice_get calls k) ≡ frame_from n (slice_get (starts_of calls) k)
started n [] k = refl
started n (x ∷ xs) zero = refl
started n (x ∷ xs) (suc k) = started n xs k

-- the frame of a call by where it begins
pub by_start : (calls : List Call) (start : Option FrameStart) (call : ℕ) → start ≡ slice_get (starts_of calls) call
    → frame_from call start ≡ frame_of_call calls (Some call)
by_start calls start call e = ap (frame_from call) e ∙ sym (started call calls call)

-- this many calls are still to be looked at, from one on
abbrev pub from_there : List Call → (looked : ℕ) → Option ℕ → ℕ → Option ℕ
from_there calls looked at base = call_of_frame calls (length calls - looked) at base

one_out : (calls : List Call) (looked : ℕ) (at : Option ℕ) (base : ℕ) (o : Option OpenFrame) → looked < length calls → o ≡ frame_of_call calls at
    → from_there calls looked at base ≡ framed_by base o (λ outer. from_there calls (looked + 1) outer base)
one_out calls looked at base o below is =
    ap (λ n. call_of_frame calls n at base) (deeper (length calls) looked below)
    ∙ ap (λ f. framed_by base f (λ outer. from_there calls (looked + 1) outer base)) (sym is)

pub at_first : (calls : List Call) (from : Option ℕ) (base : ℕ) → call_of_frame calls (length calls) from base ≡ from_there calls 0 from base
at_first calls from base = ap (λ n. call_of_frame calls n from base) (let e : length calls ≡ length calls - 0 = omega arith in e)

pub none_there : (calls : List Call) (looked : ℕ) (at : Option ℕ) (base : ℕ) (o : Option OpenFrame) → looked < length calls → o ≡ frame_of_call calls at
    → o ≡ None
    → from_there calls looked at base ≡ None
none_there calls looked at base o below is none =
    one_out calls looked at base o below is ∙ ap (λ f. framed_by base f (λ outer. from_there calls (looked + 1) outer base)) none

pub it_is_here : (calls : List Call) (looked : ℕ) (at : Option ℕ) (base : ℕ) (o : Option OpenFrame) (f : OpenFrame) → looked < length calls
    → o ≡ frame_of_call calls at → o ≡ Some f → f.part.place ≡ base → from_there calls looked at base ≡ Some f.part.number
it_is_here calls looked at base o f below is some h =
    one_out calls looked at base o below is ∙ ap (λ g. framed_by base g (λ outer. from_there calls (looked + 1) outer base)) some
    ∙ ap (λ b. if b then Some f.part.number else from_there calls (looked + 1) f.outer base)
    (let e : (f.part.place == base) ≡ true = grind (arith, nat_tests, h) in e)

pub it_is_further : (calls : List Call) (looked : ℕ) (at : Option ℕ) (base : ℕ) (o : Option OpenFrame) (f : OpenFrame) → looked < length calls
    → o ≡ frame_of_call calls at → o ≡ Some f → (f.part.place ≡ base → ⊥) → from_there calls looked at base ≡ from_there calls (looked + 1) f.outer base
it_is_further calls looked at base o f below is some h =
    one_out calls looked at base o below is ∙ ap (λ g. framed_by base g (λ outer. from_there calls (looked + 1) outer base)) some
    ∙ ap (λ b. if b then Some f.part.number else from_there calls (looked + 1) f.outer base)
    (let e : (f.part.place == base) ≡ false = grind (arith, nat_tests, h) in e)

pub none_left : (calls : List Call) (looked : ℕ) (at : Option ℕ) (base : ℕ) → length calls ≤ looked → from_there calls looked at base ≡ None
none_left calls looked at base past = ap (λ n. call_of_frame calls n at base) (let e : length calls - looked ≡ zero = omega (arith, past) in e)
