-- What a walk passes over of frames, of variables and of the heap.
use Rattle.std.proofs.Common.{if◌then◌else◌, ◌+◌, ◌-◌, ◌<◌, ◌==◌, ◌∙◌, ◌≡◌, ◌≤◌, ℕ, Bool, List, None, Option, Some, ap, arith, codes, decimal, false, nat_le}
use Rattle.std.proofs.{Common.refl, Common.slice_get, Common.true, lemmas.Bool.Decides.nat_tests}
use Rattle.cell_value.specs.Effects.{heap_start}
use Rattle.cell_names.proofs.{CellsAlike.after_begin, CellsAlike.moved_none, NameParts.then_both, PartsPassed.none_up_to}
use Rattle.cell_names.proofs.NamesPassed.{block_unnamed, call_unnamed, neither, nothing_by}
use Rattle.cell_names.specs.{Places.is_begun_by, Values.heap_number, Walks.limited, Walks.moved_root, declared.names.Held.Held, declared.names.Local.Local}
use Rattle.cell_names.specs.{declared.names.Origin.Origin, declared.names.Root.Root, declared.places.PlacedPart.PlacedPart, declared.walks.Walked.Walked}
use Rattle.cell_names.specs.NamedBy.{after_part, block_text, call_text, is_named_by, then_part}
use Rattle.cell_names.specs.Names.{Scene, frame, heap_root, local_at, local_root, root, root_at, root_in, spot, stack_root}
use Rattle.cell_names.specs.Walks.{NoneAfter, Walks, WalksOver, ends_or_dots, is_named_at, is_named_root, is_of_block, is_of_frame, is_of_heap, is_of_routine}

-- no more than this many are passed over
pub walked_limited : (s : Scene) (name : List ℕ) (roots others : ℕ → Option Root) (w : Walked) (more : ℕ) → WalksOver s name roots w
    → ((k : ℕ) → k ≤ more → others k ≡ roots k) → WalksOver s name others (limited w more)
walked_limited s name roots others (Walked.Named r) more h same = (same 0 (omega arith) ∙ h.0, h.1)
walked_limited s name roots others (Walked.Unnamed m) more h same =
    λ k below. ap (is_named_root s name) (same k (omega (arith, below))) ∙ h k (omega (arith, below))

-- the first cell is named
pub root_named : (s : Scene) (name : List ℕ) (r : Root) → is_named_by s r name ≡ true → WalksOver s name (λ k. Some (moved_root k r)) (Walked.Named r)
root_named s name r e = (ap (λ at. Some (root r.origin at)) (moved_none r.spot), e)

local_not_called : (s : Scene) (name : List ℕ) (call routine : ℕ) (l : Option Local) → (call == 0) ≡ false
    → ends_or_dots (after_part (call_text s.program call routine) name) ≡ false → is_named_root s name (local_root call routine l) ≡ false
local_not_called s name call routine None first none = refl
local_not_called s name call routine (Some l) first none = call_unnamed s call routine l.token l.spot name first none

routine_unnamed : (s : Scene) (name : List ℕ) (call top place : ℕ) (routine : Option ℕ) → is_of_routine s call routine name ≡ false
    → is_named_root s name (root_in s call top place routine) ≡ false
routine_unnamed s name call top place None e = refl
routine_unnamed s name call top place (Some routine) e =
    let both = neither (call == 0) (ends_or_dots (after_part (call_text s.program call routine) name)) e in
    local_not_called s name call routine (local_at s (frame call routine top) place) both.0 both.1

-- a frame that the name is not of
frame_unnamed : (s : Scene) (name : List ℕ) (address : ℕ) (part : Option PlacedPart) → is_of_frame s part name ≡ false
    → is_named_root s name (stack_root s address part) ≡ false
frame_unnamed s name address None e = refl
frame_unnamed s name address (Some part) e =
    routine_unnamed s name part.number part.place (address - part.place) (slice_get s.routines part.number) e

-- frames that the name is not of, from an address on
pub frames_passed : (s : Scene) (name : List ℕ) (address first last : ℕ) (part : Option PlacedPart)
    → ((k : ℕ) → k ≤ first → s.opened (address + k) ≡ part) → is_of_frame s part name ≡ false
    → NoneAfter (λ k. is_of_frame s (s.opened (address + k)) name) first last
    → WalksOver s name (λ k. stack_root s (address + k) (s.opened (address + k))) (Walked.Unnamed last)
frames_passed s name address first last part same other none = λ k below.
    frame_unnamed s name (address + k) (s.opened (address + k))
    (none_up_to (λ j. is_of_frame s (s.opened (address + j)) name) first last
    (λ j within. ap (λ o. is_of_frame s o name) (same j within) ∙ other) none k below)

pub frame_there : (s : Scene) (name : List ℕ) (address : ℕ) (part : PlacedPart) (w : Walked) → is_begun_by address (Some part) ≡ true
    → WalksOver s name (λ k. root_in s part.number part.place ((address - part.place) + k) (slice_get s.routines part.number)) w
    → WalksOver s name (λ k. stack_root s (address + k) (Some part)) w
frame_there s name address part (Walked.Named r) begun h =
    (ap (λ n. root_in s part.number part.place n (slice_get s.routines part.number)) (after_begin part.place address 0 begun) ∙ h.0, h.1)
frame_there s name address part (Walked.Unnamed m) begun h = λ k below.
    ap (λ n. is_named_root s name (root_in s part.number part.place n (slice_get s.routines part.number))) (after_begin part.place address k begun) ∙ h k below

abbrev root_of : Root → Option Root → Root
root_of d None = d
root_of d (Some r) = r

block_moves : (k address : ℕ) (part : Option PlacedPart) (r : Root) → is_begun_by address part ≡ true → heap_root address part ≡ Some r
    → heap_root (address + k) part ≡ Some (moved_root k r)
block_moves k address None r begun e = absurd (let z : ◌≡◌ {A = Option Root} None (Some r) = e in cc)
block_moves k address (Some part) r begun e =
    ap (λ n. Some (root (Origin.Heap part.place) (spot (Held.Variable part.number) n))) (after_begin part.place address k begun)
    ∙ ap (λ x. Some (moved_root k x)) (ap (root_of r) e)

pub block_passed : (s : Scene) (name : List ℕ) (address : ℕ) (part : Option PlacedPart) (r : Root) (w : Walked) → is_begun_by address part ≡ true
    → heap_root address part ≡ Some r
    → WalksOver s name (λ k. Some (moved_root k r)) w → WalksOver s name (λ k. heap_root (address + k) part) w
block_passed s name address part r (Walked.Named x) begun some h = (block_moves 0 address part r begun some ∙ h.0, h.1)
block_passed s name address part r (Walked.Unnamed m) begun some h = λ k below.
    ap (is_named_root s name) (block_moves k address part r begun some) ∙ h k below

not_of_block : (name : List ℕ) (base : ℕ) → is_of_heap name ≡ false → after_part (block_text base) name ≡ None
not_of_block name base e =
    then_both (codes "^") (decimal (heap_number base)) (Some name)
    ∙ ap (then_part (decimal (heap_number base))) (nothing_by (after_part (codes "^") name) e)

unnamed_in_heap : (s : Scene) (name : List ℕ) (address : ℕ) (part : Option PlacedPart) → is_of_heap name ≡ false
    → is_named_root s name (heap_root address part) ≡ false
unnamed_in_heap s name address None e = refl
unnamed_in_heap s name address (Some part) e =
    block_unnamed s part.place (spot (Held.Variable part.number) (address - part.place)) name (not_of_block name part.place e)

-- the whole heap, where the name is none of its variables
pub heap_passed : (s : Scene) (name : List ℕ) (address more : ℕ) → is_of_heap name ≡ false
    → WalksOver s name (λ k. heap_root (address + k) (s.finding.block (address + k))) (Walked.Unnamed more)
heap_passed s name address more e = λ k below. unnamed_in_heap s name (address + k) (s.finding.block (address + k)) e

unnamed_in_block : (s : Scene) (name : List ℕ) (address : ℕ) (part : Option PlacedPart) → is_of_block name part ≡ false
    → is_named_root s name (heap_root address part) ≡ false
unnamed_in_block s name address None e = refl
unnamed_in_block s name address (Some part) e =
    block_unnamed s part.place (spot (Held.Variable part.number) (address - part.place)) name (nothing_by (after_part (block_text part.place) name) e)

-- a variable of the heap, where the name is another one's
pub other_block : (s : Scene) (name : List ℕ) (address more : ℕ) (part : Option PlacedPart) → is_of_block name part ≡ false
    → WalksOver s name (λ k. heap_root (address + k) part) (Walked.Unnamed more)
other_block s name address more part e = λ k below. unnamed_in_block s name (address + k) part e

stack_at : (s : Scene) (address : ℕ) → address < 524288 → root_at s address ≡ stack_root s address (s.opened address)
unfolding root_at
stack_at s address below =
    ap (λ (b : Bool). if b then heap_root address (s.finding.block address) else stack_root s address (s.opened address))
    (let e : nat_le heap_start address ≡ false = grind (arith, nat_tests, below) in e)

heap_at : (s : Scene) (address : ℕ) → 524288 ≤ address → root_at s address ≡ heap_root address (s.finding.block address)
unfolding root_at
heap_at s address above =
    ap (λ (b : Bool). if b then heap_root address (s.finding.block address) else stack_root s address (s.opened address))
    (let e : nat_le heap_start address ≡ true = grind (arith, nat_tests, above) in e)

at_none : (address : ℕ) → address ≡ address + 0
at_none address = omega arith

pub heap_walked : (s : Scene) (name : List ℕ) (address : ℕ) (w : Walked) → 524288 ≤ address
    → WalksOver s name (λ k. heap_root (address + k) (s.finding.block (address + k))) w → Walks s name address w
unfolding is_named_at
heap_walked s name address (Walked.Named r) above h =
    (heap_at s address above ∙ ap (λ n. heap_root n (s.finding.block n)) (at_none address) ∙ h.0, h.1)
heap_walked s name address (Walked.Unnamed m) above h = λ k below.
    ap (is_named_root s name) (heap_at s (address + k) (omega (arith, above))) ∙ h k below

pub stack_walked : (s : Scene) (name : List ℕ) (address : ℕ) (w : Walked) → address < 524288
    → WalksOver s name (λ k. stack_root s (address + k) (s.opened (address + k))) w → Walks s name address (limited w (524287 - address))
unfolding is_named_at
stack_walked s name address (Walked.Named r) under h =
    (stack_at s address under ∙ ap (λ n. stack_root s n (s.opened n)) (at_none address) ∙ h.0, h.1)
stack_walked s name address (Walked.Unnamed m) under h = λ k below.
    ap (is_named_root s name) (stack_at s (address + k) (omega (arith, under, below))) ∙ h k (omega (arith, below))
