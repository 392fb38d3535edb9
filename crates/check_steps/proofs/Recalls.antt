-- What is recalled is what is found.
use Rattle.std.proofs.Common.{◌++◌, ◌<◌, ◌∙◌, ◌∷◌, ◌≡◌, [], ℕ, Bool, List, None, Option, Some, ap, arith, cond, false, length, nat_eq, refl, subst, suc, sym}
use Rattle.std.{proofs.Common.true, proofs.Common.zero, proofs.lemmas.Bool.Decides.nat_tests, proofs.lemmas.Option.same_Some, specs.Map.lookup}
use Rattle.check_steps.proofs.Falls.{found-still, longer}
use Rattle.check_steps.specs.{Around.Falls, Recent.AreRecalled, Recent.IsFound, Recent.find_in, Recent.find_in_from, Regions.RegionRows, Regions.or_else}
use Rattle.check_steps.specs.Known.{Known, find, find_from, found_in, frame_at}
use Rattle.check_steps.specs.declared.{recent.FromFrame.FromFrame, recent.Recalled.Recalled, regions.Frame.Frame}

find_same_from : (k : Known) (n : ℕ) (at : Option ℕ) (name : ℕ) → find_in_from n k.regions k.frames at name ≡ find_from n k at name
find_same_from k zero None name = refl
find_same_from k (suc n) None name = refl
find_same_from k zero (Some f) name = refl
find_same_from k (suc n) (Some f) name = ap (or_else (found_in k f name)) (find_same_from k n (frame_at k f).outer name)

find_same : (k : Known) (frame name : ℕ) → find_in k.regions k.frames frame name ≡ find k frame name
find_same k frame name = find_same_from k (length k.frames) (Some frame) name

pub recalled_none : (regions : List RegionRows) (frames : List Frame) (rs : List (ℕ × Recalled)) → rs ≡ [] → AreRecalled regions frames rs
unfolding AreRecalled
recalled_none regions frames rs e = λ name r found. let none : lookup (nat_eq name) rs ≡ None = ap (lookup (nat_eq name)) e in cc

pub ruleset forgotten = (recalled_none)

-- what is recalled of a name, from both frames
pub recalled_near : (k : Known) (rs : List (ℕ × Recalled)) (name : ℕ) (r : Recalled) → AreRecalled k.regions k.frames rs
    → lookup (nat_eq name) rs ≡ Some r → r.near.found ≡ find k r.near.frame name
unfolding AreRecalled IsFound
recalled_near k rs name r are e = let is = are name r e in sym is.0.1 ∙ find_same k r.near.frame name

pub recalled_far : (k : Known) (rs : List (ℕ × Recalled)) (name : ℕ) (r : Recalled) → AreRecalled k.regions k.frames rs
    → lookup (nat_eq name) rs ≡ Some r → r.far.found ≡ find k r.far.frame name
unfolding AreRecalled IsFound
recalled_far k rs name r are e = let is = are name r e in sym is.1.1 ∙ find_same k r.far.frame name

-- what is found is so to be recalled
pub found_from : (k : Known) (name : ℕ) (f : FromFrame) → f.frame < length k.frames → f.found ≡ find k f.frame name → IsFound k.regions k.frames name f
unfolding IsFound
found_from k name f below is = (below, find_same k f.frame name ∙ sym is)

-- one more name, or another answer
pub recalled_put : (regions : List RegionRows) (frames : List Frame) (old new : List (ℕ × Recalled)) (name : ℕ) (r : Recalled)
    → ((q : ℕ) → lookup (nat_eq q) new ≡ cond (nat_eq name q) (Some r) (lookup (nat_eq q) old))
    → AreRecalled regions frames old → IsFound regions frames name r.near → IsFound regions frames name r.far → AreRecalled regions frames new
unfolding AreRecalled
recalled_put regions frames old new name r put are near far = λ q s e. by q s (nat_eq name q) refl (sym (put q) ∙ e)
  where
    by : (q : ℕ) (s : Recalled) (b : Bool) → nat_eq name q ≡ b → cond b (Some r) (lookup (nat_eq q) old) ≡ Some s
        → IsFound regions frames q s.near × IsFound regions frames q s.far
    by q s true same e =
        let n : name ≡ q = grind (arith, nat_tests, same) in
        subst (λ (t : Recalled). IsFound regions frames q t.near × IsFound regions frames q t.far) (same_Some r s e)
        (subst (λ m. IsFound regions frames m r.near × IsFound regions frames m r.far) n (near, far))
    by q s false other e = are q s e

pub recalled_same : (regions : List RegionRows) (frames : List Frame) (old new : List (ℕ × Recalled)) → new ≡ old
    → AreRecalled regions frames old → AreRecalled regions frames new
recalled_same regions frames old new e are = subst (λ rs. AreRecalled regions frames rs) (sym e) are

-- one more frame after the others
found_before : (regions : List RegionRows) (frames : List Frame) (x : Frame) (name : ℕ) (f : FromFrame) → Falls frames → IsFound regions frames name f
    → IsFound regions (frames ++ x ∷ []) name f
unfolding IsFound
found_before regions frames x name f falls is = (longer frames x f.frame is.0, found-still regions frames x f.frame name falls is.0 ∙ is.1)

pub recalled_before : (b : Bool) (regions : List RegionRows) (frames : List Frame) (x : Frame) (rs : List (ℕ × Recalled)) → (b ≡ true → Falls frames)
    → (b ≡ false → rs ≡ []) → AreRecalled regions frames rs → AreRecalled regions (frames ++ x ∷ []) rs
unfolding AreRecalled
recalled_before true regions frames x rs falls none are = λ name r e.
    let is = are name r e in
    (found_before regions frames x name r.near (falls refl) is.0, found_before regions frames x name r.far (falls refl) is.1)
recalled_before false regions frames x rs falls none are = recalled_none regions (frames ++ x ∷ []) rs (none refl)
