-- The way down to a cell, step by step.
use Rattle.std.proofs.Common.{◌++◌, ◌+◌, ◌-◌, ◌<◌, ◌∙◌, ◌≡◌, ◌≤◌, ℕ, List, None, Option, Some, ap, append-nil, append_assoc, arith, suc, sym, zero}
use Rattle.cell_names.specs.Names.{Scene, WayDown, most_types, next_step, selector_text, way_after, way_by, way_down, way_here, way_within}
use Rattle.cell_names.specs.declared.names.{Held.Held, Spot.Spot, Step.Step}

-- all selectors of the way were written, and this is where it ends
pub record WentDown (before : List ℕ) (w : WayDown) (after : List ℕ) (end : Spot) : Type 0 where
  pub writes : after ≡ before ++ w.text
  pub ends : end ≡ w.end

-- this many steps were taken, and what is left of the way begins here
pub record IsOnWay (s : Scene) (wanted : Option Held) (from : Spot) (before now : List ℕ) (at : Spot) (taken : ℕ) : Type 0 where
  pub text : now ++ (way_within s wanted (most_types - taken) at).text ≡ before ++ (way_down s wanted from).text
  pub end : (way_within s wanted (most_types - taken) at).end ≡ (way_down s wanted from).end

pub begins : (s : Scene) (wanted : Option Held) (from : Spot) (out : List ℕ) → IsOnWay s wanted from out out from 0
begins s wanted from out =
    let e : most_types - 0 ≡ most_types = omega arith in
    record {
      text = ap (λ n. out ++ (way_within s wanted n from).text) e;
      end = ap (λ n. (way_within s wanted n from).end) e;
    }

pub left : (taken : ℕ) → taken < 1048576 → most_types - taken ≡ suc (most_types - (taken + 1))
unfolding most_types
left taken below = omega (arith, below)

next_way : (s : Scene) (wanted : Option Held) (at : Spot) (taken : ℕ) (o : Option Step) → taken < 1048576 → o ≡ next_step s wanted at
    → way_within s wanted (most_types - taken) at ≡ way_by s.program (way_within s wanted (most_types - (taken + 1))) at o
next_way s wanted at taken o below is =
    ap (λ n. way_within s wanted n at) (left taken below) ∙ ap (way_by s.program (way_within s wanted (most_types - (taken + 1))) at) (sym is)

-- the way ends here
pub ends_here : (s : Scene) (wanted : Option Held) (from : Spot) (before now : List ℕ) (at : Spot) (taken : ℕ) (o : Option Step) → taken < 1048576
    → o ≡ next_step s wanted at → o ≡ None → IsOnWay s wanted from before now at taken → WentDown before (way_down s wanted from) now at
ends_here s wanted from before now at taken o below is none on =
    let w : way_within s wanted (most_types - taken) at ≡ way_here at =
    next_way s wanted at taken o below is ∙ ap (way_by s.program (way_within s wanted (most_types - (taken + 1))) at) none in
    record {
      writes = sym (append-nil now) ∙ ap (λ (v : WayDown). now ++ v.text) (sym w) ∙ on.text;
      ends = ap (λ (v : WayDown). v.end) (sym w) ∙ on.end;
    }

-- one more step is taken
pub goes_on : (s : Scene) (wanted : Option Held) (from : Spot) (before now more : List ℕ) (at : Spot) (taken : ℕ) (o : Option Step) (x : Step)
    → taken < 1048576 → o ≡ next_step s wanted at → o ≡ Some x → more ≡ now ++ selector_text s.program x.selector
    → IsOnWay s wanted from before now at taken → IsOnWay s wanted from before more x.spot (taken + 1)
goes_on s wanted from before now more at taken o x below is some written on =
    let rest = way_within s wanted (most_types - (taken + 1)) x.spot in
    let w : way_within s wanted (most_types - taken) at ≡ way_after (selector_text s.program x.selector) rest =
    next_way s wanted at taken o below is ∙ ap (way_by s.program (way_within s wanted (most_types - (taken + 1))) at) some in
    record {
      text = ap (λ t. t ++ rest.text) written ∙ append_assoc now (selector_text s.program x.selector) rest.text ∙ ap (λ (v : WayDown). now ++ v.text) (sym w)
          ∙ on.text;
      end = ap (λ (v : WayDown). v.end) (sym w) ∙ on.end;
    }

-- no more steps are taken
pub all_taken : (s : Scene) (wanted : Option Held) (from : Spot) (before now : List ℕ) (at : Spot) (taken : ℕ) → 1048576 ≤ taken
    → IsOnWay s wanted from before now at taken → WentDown before (way_down s wanted from) now at
unfolding most_types
all_taken s wanted from before now at taken past on =
    let e : 1048576 - taken ≡ zero = omega (arith, past) in
    let w : way_within s wanted (1048576 - taken) at ≡ way_here at = ap (λ n. way_within s wanted n at) e in
    record {
      writes = sym (append-nil now) ∙ ap (λ (v : WayDown). now ++ v.text) (sym w) ∙ on.text;
      ends = ap (λ (v : WayDown). v.end) (sym w) ∙ on.end;
    }
