-- Frames that lead outward to none, and the labels that are found there.
use Rattle.std.proofs.Common.{◌++◌, ◌<◌, ◌∙◌, ◌∷◌, ◌≡◌, ◌≤◌, [], ℕ, List, None, Option, Some, ap, arith, length, refl, subst, suc, sym, zero}
use Rattle.std.proofs.lemmas.List.{append-nil, append_assoc}
use Rattle.check_steps.specs.{Frames.frame_in, Regions.declared_in, Regions.or_else, declared.regions.Frame.Frame}
use Rattle.check_steps.specs.Known.{Known, and_frame, find_label_from, frame_at}

-- ---- one more frame

pub frame_before : (fs : List Frame) (x : Frame) (f : ℕ) → f < length fs → frame_in (fs ++ x ∷ []) f ≡ frame_in fs f
frame_before [] x f below = absurd (omega (arith, below))
frame_before (y ∷ ys) x zero below = refl
frame_before (y ∷ ys) x (suc f) below = frame_before ys x f (omega (arith, below))

pub frame_last : (fs : List Frame) (x : Frame) → frame_in (fs ++ x ∷ []) (length fs) ≡ x
frame_last [] x = refl
frame_last (y ∷ ys) x = frame_last ys x

pub one_longer : (fs : List Frame) (x : Frame) → length (fs ++ x ∷ []) ≡ suc (length fs)
one_longer [] x = refl
one_longer (y ∷ ys) x = ap suc (one_longer ys x)

-- ---- outward

-- at most this many frames lead outward to none
abbrev pub Ends : List Frame → Option ℕ → ℕ → Type 0
Ends fs None n = Unit {0}
Ends fs (Some f) zero = ⊥
Ends fs (Some f) (suc n) = (f < length fs) × Ends fs (frame_in fs f).outer n

-- from this frame, as many as there are at most
pub record Outward (fs : List Frame) (f : ℕ) : Type 0 where
  pub steps : ℕ
  pub few : steps ≤ length fs
  pub ends : Ends fs (Some f) steps

ends_more : (fs : List Frame) (x : Frame) (at : Option ℕ) (n : ℕ) → Ends fs at n → Ends (fs ++ x ∷ []) at n
ends_more fs x None n e = tt
ends_more fs x (Some f) zero e = absurd e
ends_more fs x (Some f) (suc n) e =
    let below = e.0 in
    let l = one_longer fs x in (
      omega (arith, below, l),
      subst (λ (g : Frame). Ends (fs ++ x ∷ []) g.outer n) (sym (frame_before fs x f below)) (ends_more fs x (frame_in fs f).outer n e.1),
    )

pub outward_more : (fs : List Frame) (x : Frame) (f : ℕ) → Outward fs f → Outward (fs ++ x ∷ []) f
outward_more fs x f o = record {
  steps = o.steps;
  few = let few = o.few in let l = one_longer fs x in omega (arith, few, l);
  ends = ends_more fs x (Some f) o.steps o.ends;
}

pub outward_longer : (fs more : List Frame) (f : ℕ) → Outward fs f → Outward (fs ++ more) f
outward_longer fs [] f o = subst (λ gs. Outward gs f) (sym (append-nil fs)) o
outward_longer fs (x ∷ xs) f o = subst (λ gs. Outward gs f) (append_assoc fs (x ∷ []) xs) (outward_longer (fs ++ x ∷ []) xs f (outward_more fs x f o))

pub outward_there : (fs : List Frame) (f : ℕ) → Outward fs f → f < length fs
outward_there fs f o = there o.steps o.ends
  where
    there : (n : ℕ) → Ends fs (Some f) n → f < length fs
    there zero e = absurd e
    there (suc n) e = e.0

-- the frame that is opened inside of one
pub outward_new : (fs : List Frame) (x : Frame) (f : ℕ) → x.outer ≡ Some f → Outward fs f → Outward (fs ++ x ∷ []) (length fs)
outward_new fs x f out o =
    let few = o.few in
    let l = one_longer fs x in
    let at : (frame_in (fs ++ x ∷ []) (length fs)).outer ≡ Some f = ap (λ (g : Frame). g.outer) (frame_last fs x) ∙ out in
    record {
      steps = suc o.steps;
      few = omega (arith, few, l);
      ends = (omega (arith, l), subst (λ at. Ends (fs ++ x ∷ []) at o.steps) (sym at) (ends_more fs x (Some f) o.steps o.ends));
    }

-- the outermost one
pub outward_first : (fs : List Frame) (x : Frame) → x.outer ≡ None → Outward (fs ++ x ∷ []) (length fs)
outward_first fs x out =
    let l = one_longer fs x in
    let at : (frame_in (fs ++ x ∷ []) (length fs)).outer ≡ None = ap (λ (g : Frame). g.outer) (frame_last fs x) ∙ out in
    record {
      steps = 1;
      few = omega (arith, l);
      ends = (omega (arith, l), subst (λ at. Ends (fs ++ x ∷ []) at 0) (sym at) tt);
    }

-- ---- labels

outermost : (k : Known) (n value : ℕ) → find_label_from n k None value ≡ None
outermost k zero value = refl
outermost k (suc n) value = refl

-- With one more frame and more turns the same labels are found.
pub finds_more : (j : Known) (x : Frame) (v : ℕ) (at : Option ℕ) (n a b : ℕ) → Ends j.frames at n → n ≤ a → n ≤ b
    → find_label_from a (and_frame j x) at v ≡ find_label_from b j at v
finds_more j x v None n a b e few less = outermost (and_frame j x) a v ∙ sym (outermost j b v)
finds_more j x v (Some f) zero a b e few less = absurd e
finds_more j x v (Some f) (suc n) zero b e few less = absurd (omega (arith, few))
finds_more j x v (Some f) (suc n) (suc a) zero e few less = absurd (omega (arith, less))
finds_more j x v (Some f) (suc n) (suc a) (suc b) e few less =
    ap (λ (g : Frame). or_else (declared_in j.regions g.region v) (find_label_from a (and_frame j x) g.outer v))
    (frame_before j.frames x f e.0)
    ∙ ap (λ o. or_else (declared_in j.regions (frame_at j f).region v) o)
    (finds_more j x v (frame_at j f).outer n a b e.1 (omega (arith, few)) (omega (arith, less)))
