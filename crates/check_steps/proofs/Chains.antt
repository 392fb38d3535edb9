-- Frames of one region in a row, and one more frame.
use Rattle.std.proofs.Common.{◌++◌, ◌+◌, ◌<◌, ◌∙◌, ◌∷◌, ◌≡◌, ◌⊎◌, [], ℕ, List, None, Option, Some, add-one, ap, arith, inl, inr, length, map, refl, slice_get}
use Rattle.std.{proofs.Common.subst, proofs.Common.suc, proofs.Common.sym, proofs.Common.zero, specs.Prelude.unwrap_or, specs.Option.option_map}
use Rattle.std.proofs.lemmas.{List.map_push, Option.same_Some, Option.slice_get-map, Option.slice_get_within}
use Rattle.check_steps.specs.Frames.{IsChained, Leads, frame_in, frame_of}
use Rattle.check_steps.specs.declared.{frames.KeptFrame.KeptFrame, regions.Frame.Frame}

pub got_before : {A : Type 0} (xs : List A) (y : A) (n : ℕ) → n < length xs → slice_get (xs ++ y ∷ []) n ≡ slice_get xs n
got_before [] y n below = absurd (omega arith)
got_before (x ∷ xs) y zero below = refl
got_before (x ∷ xs) y (suc n) below = got_before xs y n (omega arith)

got_pushed : {A : Type 0} (xs : List A) (y x : A) (n : ℕ) → slice_get (xs ++ y ∷ []) n ≡ Some x → (slice_get xs n ≡ Some x) ⊎ (y ≡ x)
got_pushed [] y x zero e = inr (same_Some y x e)
got_pushed [] y x (suc n) e = cc
got_pushed (z ∷ xs) y x zero e = inl e
got_pushed (z ∷ xs) y x (suc n) e = got_pushed xs y x n e

longer : {A : Type 0} (xs : List A) (y : A) (n : ℕ) → n < length xs → n < length (xs ++ y ∷ [])
longer [] y n below = absurd (omega arith)
longer (x ∷ xs) y zero below = omega arith
longer (x ∷ xs) y (suc n) below = let more = longer xs y n (omega arith) in omega arith

-- frames in a row are so whatever comes after them
still_leads : (fs : List Frame) (more : Frame) (region passed : ℕ) (at next : Option ℕ) → Leads fs region passed at next
    → Leads (fs ++ more ∷ []) region passed at next
unfolding Leads
still_leads fs more region zero at next l = l
still_leads fs more region (suc passed) None next l = l
still_leads fs more region (suc passed) (Some f) next l =
    let same : frame_in (fs ++ more ∷ []) f ≡ frame_in fs f
    = ap (λ o. unwrap_or o (record { region = 0; outer = None; level = 0; withs = 0 })) (got_before fs more f l.0) in (
      longer fs more f l.0,
      ap (λ (g : Frame). g.region) same ∙ l.1,
      subst (λ (g : Frame). Leads (fs ++ more ∷ []) region passed g.outer next) (sym same)
          (still_leads fs more region passed (frame_in fs f).outer next l.2),
    )

pub chained-none : IsChained []
unfolding IsChained
chained-none = λ n k e. cc

-- one more frame with what is beyond it
pub chained-push : (ks : List KeptFrame) (k : KeptFrame) → IsChained ks
    → Leads (map frame_of ks) k.frame.region k.beyond.passed k.frame.outer k.beyond.to → IsChained (ks ++ k ∷ [])
unfolding IsChained
chained-push ks k kept l = λ n x e.
    let old : Leads (map frame_of ks) x.frame.region x.beyond.passed x.frame.outer x.beyond.to
    = elim (got_pushed ks k x n e) [
      | inl was ↦ kept n x was
      | inr is ↦ subst (λ (y : KeptFrame). Leads (map frame_of ks) y.frame.region y.beyond.passed y.frame.outer y.beyond.to) is l
    ] in
    subst (λ (fs : List Frame). Leads fs x.frame.region x.beyond.passed x.frame.outer x.beyond.to) (sym (map_push frame_of ks k))
    (still_leads (map frame_of ks) k.frame x.frame.region x.beyond.passed x.frame.outer x.beyond.to old)

-- the frame of a number
pub frame-kept : (ks : List KeptFrame) (n : ℕ) (k : KeptFrame) → slice_get ks n ≡ Some k → frame_in (map frame_of ks) n ≡ k.frame
frame-kept ks n k e =
    ap (λ o. unwrap_or o (record { region = 0; outer = None; level = 0; withs = 0 }))
    (slice_get-map frame_of ks n ∙ ap (λ o. option_map frame_of o) e)

-- what is beyond the frame of a number
pub leads-kept : (ks : List KeptFrame) (n : ℕ) (k : KeptFrame) → IsChained ks → slice_get ks n ≡ Some k
    → Leads (map frame_of ks) (frame_in (map frame_of ks) n).region k.beyond.passed (frame_in (map frame_of ks) n).outer k.beyond.to
unfolding IsChained
leads-kept ks n k kept e =
    subst (λ (f : Frame). Leads (map frame_of ks) f.region k.beyond.passed f.outer k.beyond.to) (sym (frame-kept ks n k e)) (kept n k e)

pub leads-absent : (ks : List KeptFrame) (n : ℕ) → slice_get ks n ≡ None
    → Leads (map frame_of ks) (frame_in (map frame_of ks) n).region 0 (frame_in (map frame_of ks) n).outer None
unfolding Leads
leads-absent ks n e =
    ap (λ (o : Option Frame). (unwrap_or {T = Frame} o (record { region = 0; outer = None; level = 0; withs = 0 })).outer)
    (slice_get-map frame_of ks n ∙ ap (λ o. option_map frame_of o) e)

-- past one more frame of the region
pub leads-further : (ks : List KeptFrame) (f region : ℕ) (k : KeptFrame) → IsChained ks → slice_get ks f ≡ Some k → k.frame.region ≡ region
    → Leads (map frame_of ks) region (k.beyond.passed + 1) (Some f) k.beyond.to
unfolding IsChained Leads
leads-further ks f region k kept e same =
    let is = frame-kept ks f k e in
    let below : f < length (map frame_of ks)
    = slice_get_within (map frame_of ks) f k.frame (slice_get-map frame_of ks f ∙ ap (λ o. option_map frame_of o) e) in
    let on : Leads (map frame_of ks) region k.beyond.passed k.frame.outer k.beyond.to
    = subst (λ r. Leads (map frame_of ks) r k.beyond.passed k.frame.outer k.beyond.to) same (kept f k e) in
    rw add-one (
      below,
      ap (λ (g : Frame). g.region) is ∙ same,
      subst (λ (g : Frame). Leads (map frame_of ks) region k.beyond.passed g.outer k.beyond.to) (sym is) on,
    )
