-- What a name does not lead to, from one cell on.
use Rattle.std.proofs.Common.{if◌then◌else◌, ◌+◌, ◌-◌, ◌<◌, ◌==◌, ◌||◌, ◌∙◌, ◌≡◌, ◌≤◌, ℕ, Bool, List, None, Option, Some, ap, arith, codes, false, is_some}
use Rattle.std.proofs.Common.{refl, suc, sym, true, zero}
use Rattle.core_program.specs.ProgramRows.{ProgramRows, text_at}
use Rattle.cell_names.proofs.{CellsAlike.moved_none, WaysDown.left}
use Rattle.cell_names.proofs.NameParts.{block_is_all, call_is_all, heap_in_parts, local_in_parts, whose_in_parts}
use Rattle.cell_names.specs.NamedBy.{after_part, block_text, call_text, is_all, is_named_by, is_of_all, is_over, leads_by, leads_on, leads_within, then_part}
use Rattle.cell_names.specs.Names.{Scene, most_types, origin_text, root, step_down}
use Rattle.cell_names.specs.Walks.{ends_or_dots, moved, moved_step}
use Rattle.cell_names.specs.declared.names.{Origin.Origin, Root.Root, Spot.Spot, Step.Step}

-- a name goes on to a cell as it does to another of the same component
pub by_moved : (p : ProgramRows) (go : Spot → List ℕ → Bool) (name : List ℕ) (k : ℕ) (o : Option Step)
    → leads_by p go name (moved_step k o) ≡ leads_by p (λ at. go (moved k at)) name o
by_moved p go name k None = refl
by_moved p go name k (Some s) = refl

-- the cells that stand alike after one
abbrev pub StaysAlike : Scene → Spot → (alike : ℕ) → Type 0
StaysAlike s at alike = (k : ℕ) → k ≤ alike → step_down s (moved k at) ≡ moved_step k (step_down s at)

-- a name goes on to no cell of them
pub none_alike : (s : Scene) (at : Spot) (name : List ℕ) (alike : ℕ) → StaysAlike s at alike
    → ((go : Spot → List ℕ → Bool) → leads_by s.program go name (step_down s at) ≡ false)
    → (go : Spot → List ℕ → Bool) (k : ℕ) → k ≤ alike → leads_by s.program go name (step_down s (moved k at)) ≡ false
none_alike s at name alike stays none go k below =
    ap (leads_by s.program go name) (stays k below) ∙ by_moved s.program go name k (step_down s at) ∙ none (λ a. go (moved k a))

-- so far the cells after the one that the way began at are led to as those after the one that it has come to
pub IsLedAlike : Scene → (taken : ℕ) → (from at : Spot) → (name left : List ℕ) → (alike : ℕ) → Type 0
IsLedAlike s taken from at name left alike =
    (k : ℕ) → k ≤ alike → leads_within s (most_types - taken) (moved k at) left ≡ leads_within s most_types (moved k from) name

-- the first step
pub led_begins : (s : Scene) (from : Spot) (name : List ℕ) (alike : ℕ) → IsLedAlike s 0 from from name name alike
unfolding IsLedAlike
led_begins s from name alike k below = let e : most_types - 0 ≡ most_types = omega arith in ap (λ n. leads_within s n (moved k from) name) e

goes_on_by : (s : Scene) (taken : ℕ) (at : Spot) (left : List ℕ) → taken < 1048576 → is_over left ≡ false
    → leads_within s (most_types - taken) at left ≡ leads_by s.program (leads_within s (most_types - (taken + 1))) left (step_down s at)
goes_on_by s taken at l below some =
    ap (λ n. leads_within s n at l) (left taken below)
    ∙ ap (λ (b : Bool). if b then true else leads_by s.program (leads_within s (most_types - (taken + 1))) l (step_down s at)) some

-- one more step
pub led_on : (s : Scene) (taken : ℕ) (from at next : Spot) (name l rest : List ℕ) (alike stays new : ℕ) → taken < 1048576 → is_over l ≡ false
    → StaysAlike s at stays
    → ((go : Spot → List ℕ → Bool) → leads_by s.program go l (step_down s at) ≡ go next rest)
    → new ≤ alike → new ≤ stays → IsLedAlike s taken from at name l alike → IsLedAlike s (taken + 1) from next name rest new
unfolding IsLedAlike
led_on s taken from at next name l rest alike stays new below some same by less within so_far k inside =
    let go = leads_within s (most_types - (taken + 1)) in
    sym (by (λ a. go (moved k a))) ∙ sym (by_moved s.program go l k (step_down s at))
    ∙ ap (leads_by s.program go l) (sym (same k (omega (arith, inside, within))))
    ∙ sym (goes_on_by s taken (moved k at) l below some) ∙ so_far k (omega (arith, inside, less))

-- the name does not go on
pub unled_here : (s : Scene) (taken : ℕ) (from at : Spot) (name l : List ℕ) (alike passed more : ℕ) → taken < 1048576 → is_over l ≡ false
    → ((go : Spot → List ℕ → Bool) (k : ℕ) → k ≤ passed → leads_by s.program go l (step_down s (moved k at)) ≡ false)
    → more ≤ passed → more ≤ alike → IsLedAlike s taken from at name l alike
    → (k : ℕ) → k ≤ more → leads_within s most_types (moved k from) name ≡ false
unfolding IsLedAlike
unled_here s taken from at name l alike passed more below some none within less so_far k inside =
    sym (so_far k (omega (arith, inside, less))) ∙ goes_on_by s taken (moved k at) l below some
    ∙ none (leads_within s (most_types - (taken + 1))) k (omega (arith, inside, within))

over_now : (s : Scene) (n : ℕ) (at : Spot) (l : List ℕ) → is_over l ≡ true → leads_within s n at l ≡ true
over_now s zero at l e = e
over_now s (suc n) at l e = ap (λ (b : Bool). if b then true else leads_by s.program (leads_within s n) l (step_down s at)) e

-- nothing is left of the name
pub led_here : (s : Scene) (taken : ℕ) (from at : Spot) (name l : List ℕ) (alike : ℕ) → is_over l ≡ true → IsLedAlike s taken from at name l alike
    → leads_within s most_types from name ≡ true
unfolding IsLedAlike
led_here s taken from at name l alike over so_far =
    ap (λ a. leads_within s most_types a name) (sym (moved_none from)) ∙ sym (so_far 0 (omega arith))
    ∙ over_now s (most_types - taken) (moved 0 at) l over

-- no more steps are taken
pub unled_far : (s : Scene) (taken : ℕ) (from at : Spot) (name l : List ℕ) (alike : ℕ) → 1048576 ≤ taken → is_over l ≡ false
    → IsLedAlike s taken from at name l alike → (k : ℕ) → k ≤ alike → leads_within s most_types (moved k from) name ≡ false
unfolding IsLedAlike most_types
unled_far s taken from at name l alike past some so_far k inside =
    let e : 1048576 - taken ≡ zero = omega (arith, past) in
    sym (so_far k inside) ∙ ap (λ n. leads_within s n (moved k at) l) e ∙ some

or_true : (a : Bool) → (a || true) ≡ true
or_true true = refl
or_true false = refl

-- a name is that of a cell, or it is not
pub named_whole : (s : Scene) (r : Root) (name : List ℕ) → is_of_all s.program r.origin name ≡ true → is_named_by s r name ≡ true
unfolding is_named_by
named_whole s r name e =
    ap (λ b. b || leads_on (leads_within s most_types r.spot) (after_part (origin_text s.program r.origin) name)) e

pub named_part : (s : Scene) (r : Root) (name rest : List ℕ) → after_part (origin_text s.program r.origin) name ≡ Some rest
    → leads_within s most_types r.spot rest ≡ true → is_named_by s r name ≡ true
unfolding is_named_by
named_part s r name rest e leads =
    ap (λ o. is_of_all s.program r.origin name || leads_on (leads_within s most_types r.spot) o) e
    ∙ ap (λ b. is_of_all s.program r.origin name || b) leads ∙ or_true (is_of_all s.program r.origin name)

pub unnamed_whole : (s : Scene) (r : Root) (name : List ℕ) → is_of_all s.program r.origin name ≡ false
    → after_part (origin_text s.program r.origin) name ≡ None → is_named_by s r name ≡ false
unfolding is_named_by
unnamed_whole s r name e none =
    ap (λ b. b || leads_on (leads_within s most_types r.spot) (after_part (origin_text s.program r.origin) name)) e
    ∙ ap (leads_on (leads_within s most_types r.spot)) none

pub unnamed_part : (s : Scene) (r : Root) (name rest : List ℕ) → is_of_all s.program r.origin name ≡ false
    → after_part (origin_text s.program r.origin) name ≡ Some rest → leads_within s most_types r.spot rest ≡ false → is_named_by s r name ≡ false
unfolding is_named_by
unnamed_part s r name rest e some leads =
    ap (λ b. b || leads_on (leads_within s most_types r.spot) (after_part (origin_text s.program r.origin) name)) e
    ∙ ap (leads_on (leads_within s most_types r.spot)) some ∙ leads

pub neither : (a b : Bool) → (a || b) ≡ false → (a ≡ false) × (b ≡ false)
neither true b e = absurd (let z : true ≡ false = e in cc)
neither false b e = (refl, e)

pub nothing_by : {X : Type 0} (o : Option X) → is_some o ≡ false → o ≡ None
nothing_by None e = refl
nothing_by (Some x) e = absurd (let z : true ≡ false = e in cc)

not_whole : (o : Option (List ℕ)) → ends_or_dots o ≡ false → is_all o ≡ false
not_whole None e = refl
not_whole (Some rest) e = (neither (is_over rest) (is_some (after_part (codes ".") rest)) e).0

not_dotted : (o : Option (List ℕ)) → ends_or_dots o ≡ false → then_part (codes ".") o ≡ None
not_dotted None e = refl
not_dotted (Some rest) e = nothing_by (after_part (codes ".") rest) (neither (is_over rest) (is_some (after_part (codes ".") rest)) e).1

-- the name is not the call's, nor one of a variable of its frame
pub call_unnamed : (s : Scene) (call routine token : ℕ) (at : Spot) (name : List ℕ) → (call == 0) ≡ false
    → ends_or_dots (after_part (call_text s.program call routine) name) ≡ false
    → is_named_by s (root (Origin.Local call routine token) at) name ≡ false
call_unnamed s call routine token at name first none =
    let p = s.program in
    let called = after_part (call_text p call routine) name in
    unnamed_whole s (root (Origin.Local call routine token) at) name
    (call_is_all p call routine name ∙ ap (λ (b : Bool). if b then false else is_all (then_part (call_text p call routine) (Some name))) first
    ∙ not_whole called none)
    (local_in_parts p call routine token (Some name)
    ∙ ap (then_part (text_at p token)) (whose_in_parts p call routine (Some name)
    ∙ ap (λ (b : Bool). if b then Some name else then_part (codes ".") (then_part (call_text p call routine) (Some name))) first
    ∙ not_dotted called none))

-- no name of a variable of the heap goes on so
pub block_unnamed : (s : Scene) (base : ℕ) (at : Spot) (name : List ℕ) → after_part (block_text base) name ≡ None
    → is_named_by s (root (Origin.Heap base) at) name ≡ false
block_unnamed s base at name none =
    let gone : then_part (block_text base) (Some name) ≡ None = none in
    unnamed_whole s (root (Origin.Heap base) at) name (block_is_all base name ∙ ap is_all gone)
    (heap_in_parts base (Some name) ∙ ap (then_part (codes "^")) gone)
