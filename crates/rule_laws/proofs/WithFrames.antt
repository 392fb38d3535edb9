-- Frames inside of the records of with statements.
use Rattle.std.proofs.Common.{◌<◌, ◌∙◌, ◌∷◌, ◌≡◌, [], ℕ, List, Some, ap, arith, length}
use Rattle.check_steps.specs.{Known.Known, Known.frame_at, declared.regions.Frame.Frame}
use Rattle.rule_laws.proofs.{Laters.longer_frame, Laters.longer_length, Touches.Longer}
use Rattle.rule_laws.specs.TextCases.{IsRecordAt, IsWithin}

-- so it is in tables before the end, with the records that are listed at the end
pub record IsAround (f j : Known) (slot frame : ℕ) (Outer : ℕ → Type 0) : Type 0 where
  pub there : frame < length j.frames
  pub region : ℕ
  pub opens : IsRecordAt f slot region
  pub is : (frame_at j frame).region ≡ region
  pub outer : ℕ
  pub leads : (frame_at j frame).outer ≡ Some outer
  pub around : Outer outer

abbrev pub Around : (f j : Known) → ℕ → List ℕ → ℕ → Type 0
Around f j block [] frame = frame ≡ block
Around f j block (slot ∷ slots) frame = IsAround f j slot frame (Around f j block slots)

pub around_then : (f j i : Known) → Longer j.frames i.frames → (block : ℕ) (slots : List ℕ) (frame : ℕ) → Around f j block slots frame
    → Around f i block slots frame
around_then f j i longer block [] frame h = h
around_then f j i longer block (slot ∷ slots) frame h =
    let same : frame_at i frame ≡ frame_at j frame = longer_frame j.frames i.frames frame longer h.there in
    let more = longer_length j.frames i.frames longer in
    let below = h.there in
    record {
      there = omega (arith, below, more);
      region = h.region;
      opens = h.opens;
      is = ap (λ (g : Frame). g.region) same ∙ h.is;
      outer = h.outer;
      leads = ap (λ (g : Frame). g.outer) same ∙ h.leads;
      around = around_then f j i longer block slots h.outer h.around;
    }

-- at the end
pub within_end : (f : Known) (block : ℕ) (slots : List ℕ) (frame : ℕ) → Around f f block slots frame → IsWithin f block slots frame
within_end f block [] frame h = h
within_end f block (slot ∷ slots) frame h = record {
  region = h.region;
  opens = h.opens;
  is = h.is;
  outer = h.outer;
  leads = h.leads;
  around = within_end f block slots h.outer h.around;
}
