-- Each frame comes after the one around it, so that no way outward has more frames than there are.
use Rattle.std.proofs.Common.{◌++◌, ◌<◌, ◌∙◌, ◌∷◌, ◌≡◌, ◌≤◌, [], ℕ, List, None, Option, Some, ap, arith, length, refl, suc, sym, zero}
use Rattle.std.specs.Prelude.{unwrap_or}
use Rattle.check_steps.proofs.{Chains.got_before, Outward.find-outermost}
use Rattle.check_steps.specs.{Around.Falls, Around.reach, Frames.frame_in, Recent.find_in, Recent.find_in_from, declared.regions.Frame.Frame}
use Rattle.check_steps.specs.Known.{Known, find, find_from, found_in, found_with, frame_at}
use Rattle.check_steps.specs.Regions.{RegionRows, defined_in, or_else}

-- a frame with another around it is one of these
frame-there : (fs : List Frame) (f o : ℕ) → (frame_in fs f).outer ≡ Some o → f < length fs
frame-there [] zero o e = cc
frame-there [] (suc f) o e = cc
frame-there (x ∷ xs) zero o e = omega arith
frame-there (x ∷ xs) (suc f) o e = let on = frame-there xs f o e in omega (arith, on)

find-enough : (k : Known) (name : ℕ) → ((f : ℕ) → reach (frame_in k.frames f).outer ≤ f) → (n m : ℕ) (at : Option ℕ) → reach at ≤ n → reach at ≤ m
    → find_from n k at name ≡ find_from m k at name
find-enough k name falls n m None a b = find-outermost k n name ∙ sym (find-outermost k m name)
find-enough k name falls zero m (Some f) a b = absurd (omega (arith, a))
find-enough k name falls (suc n) zero (Some f) a b = absurd (omega (arith, b))
find-enough k name falls (suc n) (suc m) (Some f) a b =
    let out : reach (frame_at k f).outer ≤ f = falls f in
    ap (λ o. or_else (found_in k f name) o)
    (find-enough k name falls n m (frame_at k f).outer (omega (arith, out, a)) (omega (arith, out, b)))

further : (k : Known) (n frame name o : ℕ) → ((f : ℕ) → reach (frame_in k.frames f).outer ≤ f) → n ≡ length k.frames → found_in k frame name ≡ None
    → Some o ≡ (frame_at k frame).outer → find k o name ≡ find_from n k (Some frame) name
further k zero frame name o falls all none out =
    let there = frame-there k.frames frame o (sym out) in absurd (omega (arith, there, all))
further k (suc n) frame name o falls all none out =
    let there = frame-there k.frames frame o (sym out) in
    let above = falls frame in
    let same : reach (Some o) ≡ reach (frame_in k.frames frame).outer = ap reach out in
    sym (ap (λ x. or_else x (find_from n k (frame_at k frame).outer name)) none
    ∙ ap (λ x. find_from n k x name) (sym out)
    ∙ find-enough k name falls n (length k.frames) (Some o) (omega (arith, there, above, same, all)) (omega (arith, there, above, same)))

-- from a frame that doesn't define a name to the next one outward
pub passes : (k : Known) (frame name outer : ℕ) → Falls k.frames → found_in k frame name ≡ None → Some outer ≡ (frame_at k frame).outer
    → find k outer name ≡ find k frame name
unfolding Falls
passes k frame name outer falls none out = further k (length k.frames) frame name outer falls refl none out

pub ruleset passing = (passes)

-- ---- one more frame

frame-before : (fs : List Frame) (x : Frame) (f : ℕ) → f < length fs → frame_in (fs ++ x ∷ []) f ≡ frame_in fs f
frame-before fs x f below = ap (λ o. unwrap_or o (record { region = 0; outer = None; level = 0; withs = 0 })) (got_before fs x f below)

one-longer : {A : Type 0} (xs : List A) (y : A) → length (xs ++ y ∷ []) ≡ suc (length xs)
one-longer [] y = refl
one-longer (x ∷ xs) y = let more = one-longer xs y in omega (arith, more)

in-outermost : (n : ℕ) (regions : List RegionRows) (fs : List Frame) (name : ℕ) → find_in_from n regions fs None name ≡ None
in-outermost zero regions fs name = refl
in-outermost (suc n) regions fs name = refl

-- with one more frame and more turns
still-found : (regions : List RegionRows) (fs : List Frame) (x : Frame) (name : ℕ) → ((f : ℕ) → reach (frame_in fs f).outer ≤ f) → (n m : ℕ) (at : Option ℕ)
    → reach at ≤ length fs → reach at ≤ n → reach at ≤ m
    → find_in_from n regions (fs ++ x ∷ []) at name ≡ find_in_from m regions fs at name
still-found regions fs x name falls n m None within a b = in-outermost n regions (fs ++ x ∷ []) name ∙ sym (in-outermost m regions fs name)
still-found regions fs x name falls zero m (Some f) within a b = absurd (omega (arith, a))
still-found regions fs x name falls (suc n) zero (Some f) within a b = absurd (omega (arith, b))
still-found regions fs x name falls (suc n) (suc m) (Some f) within a b =
    let out = falls f in
    ap (λ (g : Frame). or_else (found_with f (defined_in regions g.region name)) (find_in_from n regions (fs ++ x ∷ []) g.outer name))
    (frame-before fs x f (omega (arith, within)))
    ∙ ap (λ o. or_else (found_with f (defined_in regions (frame_in fs f).region name)) o)
    (still-found regions fs x name falls n m (frame_in fs f).outer (omega (arith, out, within)) (omega (arith, out, a)) (omega (arith, out, b)))

pub found-still : (regions : List RegionRows) (fs : List Frame) (x : Frame) (f name : ℕ) → Falls fs → f < length fs
    → find_in regions (fs ++ x ∷ []) f name ≡ find_in regions fs f name
unfolding Falls
found-still regions fs x f name falls below =
    let m = one-longer fs x in
    still-found regions fs x name falls (length (fs ++ x ∷ [])) (length fs) (Some f) (omega (arith, below)) (omega (arith, below, m))
    (omega (arith, below))

pub longer : {A : Type 0} (xs : List A) (y : A) (n : ℕ) → n < length xs → n < length (xs ++ y ∷ [])
longer xs y n below = let m = one-longer xs y in omega (arith, below, m)
