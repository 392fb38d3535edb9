-- Further out, past frames of one region.
use Rattle.std.proofs.Common.{◌-◌, ◌<◌, ◌∙◌, ◌≡◌, ℕ, None, Option, Some, ap, arith, refl, suc, sym, zero}
use Rattle.check_steps.specs.{Frames.Leads, Regions.declared_in, Regions.defined_in, Regions.or_else}
use Rattle.check_steps.specs.Known.{Known, find_from, find_label_from, found_in, found_with, frame_at}
use Rattle.check_steps.specs.declared.regions.{Definition.Definition, Found.Found}

pub find-outermost : (k : Known) (n name : ℕ) → find_from n k None name ≡ None
find-outermost k zero name = refl
find-outermost k (suc n) name = refl

pub find-nowhere : (k : Known) (at : Option ℕ) (n name : ℕ) → n ≡ 0 → find_from n k at name ≡ None
find-nowhere k None n name over = find-outermost k n name
find-nowhere k (Some frame) n name over = ap (λ m. find_from m k (Some frame) name) over

none-found : (frame : ℕ) (d : Option Definition) → found_with frame d ≡ None → d ≡ None
none-found frame None e = refl
none-found frame (Some d) e = cc

-- frames of a region that doesn't define a name are passed
find-past : (k : Known) (region passed n name : ℕ) (at next : Option ℕ) → Leads k.frames region passed at next
    → defined_in k.regions region name ≡ None → find_from n k at name ≡ find_from (n - passed) k next name
unfolding Leads
find-past k region zero n name at next l none =
    let all : n ≡ n - 0 = omega arith in
    ap (λ o. find_from n k o name) l ∙ ap (λ m. find_from m k next name) all
find-past k region (suc passed) n name None next l none = absurd l
find-past k region (suc passed) zero name (Some f) next l none = sym (find-nowhere k next (zero - suc passed) name (omega arith))
find-past k region (suc passed) (suc n) name (Some f) next l none =
    let fewer : n - passed ≡ suc n - suc passed = omega arith in
    let here : found_in k f name ≡ None
    = ap (λ r. found_with f (defined_in k.regions r name)) l.1 ∙ ap (found_with f) none in
    ap (λ o. or_else o (find_from n k (frame_at k f).outer name)) here
    ∙ find-past k region passed n name (frame_at k f).outer next l.2 none
    ∙ ap (λ m. find_from m k next name) fewer

-- one turn of the search for a name
pub find-outward : (k : Known) (n f passed name : ℕ) (next : Option ℕ) → 0 < n → found_in k f name ≡ None
    → Leads k.frames (frame_at k f).region passed (frame_at k f).outer next
    → find_from (n - 1 - passed) k next name ≡ find_from n k (Some f) name
find-outward k zero f passed name next some none l = absurd (omega arith)
find-outward k (suc n) f passed name next some none l =
    let less : suc n - 1 ≡ n = omega arith in
    sym (ap (λ o. or_else o (find_from n k (frame_at k f).outer name)) none
    ∙ find-past k (frame_at k f).region passed n name (frame_at k f).outer next l
    (none-found f (defined_in k.regions (frame_at k f).region name) none)
    ∙ ap (λ m. find_from (m - passed) k next name) (sym less))

-- a name that a frame's region defines
pub find-here : (k : Known) (n f name : ℕ) (found : Found) → 0 < n → found_in k f name ≡ Some found → find_from n k (Some f) name ≡ Some found
find-here k zero f name found some here = absurd (omega arith)
find-here k (suc n) f name found some here = ap (λ o. or_else o (find_from n k (frame_at k f).outer name)) here

pub label-outermost : (k : Known) (n value : ℕ) → find_label_from n k None value ≡ None
label-outermost k zero value = refl
label-outermost k (suc n) value = refl

pub label-nowhere : (k : Known) (at : Option ℕ) (n value : ℕ) → n ≡ 0 → find_label_from n k at value ≡ None
label-nowhere k None n value over = label-outermost k n value
label-nowhere k (Some frame) n value over = ap (λ m. find_label_from m k (Some frame) value) over

-- frames of a region that doesn't declare a label are passed
label-past : (k : Known) (region passed n value : ℕ) (at next : Option ℕ) → Leads k.frames region passed at next
    → declared_in k.regions region value ≡ None → find_label_from n k at value ≡ find_label_from (n - passed) k next value
unfolding Leads
label-past k region zero n value at next l none =
    let all : n ≡ n - 0 = omega arith in
    ap (λ o. find_label_from n k o value) l ∙ ap (λ m. find_label_from m k next value) all
label-past k region (suc passed) n value None next l none = absurd l
label-past k region (suc passed) zero value (Some f) next l none = sym (label-nowhere k next (zero - suc passed) value (omega arith))
label-past k region (suc passed) (suc n) value (Some f) next l none =
    let fewer : n - passed ≡ suc n - suc passed = omega arith in
    let here : declared_in k.regions (frame_at k f).region value ≡ None = ap (λ r. declared_in k.regions r value) l.1 ∙ none in
    ap (λ o. or_else o (find_label_from n k (frame_at k f).outer value)) here
    ∙ label-past k region passed n value (frame_at k f).outer next l.2 none
    ∙ ap (λ m. find_label_from m k next value) fewer

-- one turn of the search for a label
pub label-outward : (k : Known) (n f passed value : ℕ) (next : Option ℕ) → 0 < n → declared_in k.regions (frame_at k f).region value ≡ None
    → Leads k.frames (frame_at k f).region passed (frame_at k f).outer next
    → find_label_from (n - 1 - passed) k next value ≡ find_label_from n k (Some f) value
label-outward k zero f passed value next some none l = absurd (omega arith)
label-outward k (suc n) f passed value next some none l =
    let less : suc n - 1 ≡ n = omega arith in
    sym (ap (λ o. or_else o (find_label_from n k (frame_at k f).outer value)) none
    ∙ label-past k (frame_at k f).region passed n value (frame_at k f).outer next l none
    ∙ ap (λ m. find_label_from (m - passed) k next value) (sym less))

-- a label that a frame's region declares
pub label-here : (k : Known) (n f value token : ℕ) → 0 < n → declared_in k.regions (frame_at k f).region value ≡ Some token
    → find_label_from n k (Some f) value ≡ Some token
label-here k zero f value token some here = absurd (omega arith)
label-here k (suc n) f value token some here = ap (λ o. or_else o (find_label_from n k (frame_at k f).outer value)) here

pub ruleset outward = (
  find-outward,
  find-here,
  find-outermost,
  find-nowhere,
  label-outward,
  label-here,
  label-outermost,
  label-nowhere,
)
