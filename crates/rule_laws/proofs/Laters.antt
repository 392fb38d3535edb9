-- Tables from some point on: regions and frames that were there stay, and the labels that are found there.
use Rattle.std.proofs.Common.{◌++◌, ◌<◌, ◌∙◌, ◌∷◌, ◌≡◌, ◌≤◌, ◌⊎◌, [], ℕ, List, None, Option, Some, ap, arith, inl, inr, length, length-set, nat_eq, refl}
use Rattle.std.proofs.Common.{slice_get, subst, suc, sym, unwrap_or, zero}
use Rattle.std.{proofs.lemmas.List.length-append, specs.Map.lookup}
use Rattle.check_steps.specs.{Frames.frame_in, declared.regions.Definition.Definition, declared.regions.Frame.Frame}
use Rattle.check_steps.specs.Known.{Known, and_definition, and_frame, and_label, and_region, find_label, find_label_from, frame_at}
use Rattle.check_steps.specs.Regions.{RegionRows, declared_in, fresh_region, or_else, region_at}
use Rattle.rule_laws.proofs.Regions.{definition_frame, definition_labels, label_frame, label_labels, region_before}
use Rattle.rule_laws.proofs.Touches.{Longer, longer_still, no_longer}

-- ---- what stays

-- Frames stay, and the regions below a number declare what they declared.
pub record Kept (b : ℕ) (i j : Known) : Type 0 where
  pub frames : Longer i.frames j.frames
  pub many : length i.regions ≤ length j.regions
  pub labels : (region v : ℕ) → region < b → declared_in j.regions region v ≡ declared_in i.regions region v
  pub own : (region : ℕ) → region < b → (region_at j.regions region).frame ≡ (region_at i.regions region).frame

-- so it is with all regions that were there
abbrev pub Later : Known → Known → Type 0
Later i j = Kept (length i.regions) i j

pub kept_program : (b : ℕ) (i j : Known) → j.regions ≡ i.regions → j.frames ≡ i.frames → Kept b i j
kept_program b i j regions frames = record {
  frames = subst (λ (fs : List Frame). Longer i.frames fs) (sym frames) (no_longer i.frames);
  many = (let same = ap (λ (rs : List RegionRows). length rs) regions in omega (arith, same));
  labels = λ region v below. ap (λ (rs : List RegionRows). declared_in rs region v) regions;
  own = λ region below. ap (λ (rs : List RegionRows). (region_at rs region).frame) regions;
}

pub kept_then : (b c : ℕ) (i j k : Known) → b ≤ c → Kept b i j → Kept c j k → Kept b i k
kept_then b c i j k few one two = record {
  frames = longer_still i.frames j.frames k.frames one.frames two.frames;
  many = (let x = one.many in let y = two.many in omega (arith, x, y));
  labels = λ region v below. two.labels region v (omega (arith, below, few)) ∙ one.labels region v below;
  own = λ region below. two.own region (omega (arith, below, few)) ∙ one.own region below;
}

pub kept_less : (b c : ℕ) (i j : Known) → b ≤ c → Kept c i j → Kept b i j
kept_less b c i j few k = record {
  frames = k.frames;
  many = k.many;
  labels = λ region v below. k.labels region v (omega (arith, below, few));
  own = λ region below. k.own region (omega (arith, below, few));
}

as_many : (n : ℕ) → n ≤ n
as_many n = omega arith

pub kept_frame : (j : Known) (f : Frame) → Later j (and_frame j f)
kept_frame j f = record {
  frames = record { more = f ∷ []; is = refl };
  many = as_many (length j.regions);
  labels = λ region v below. refl;
  own = λ region below. refl;
}

pub kept_region : (j : Known) (token : ℕ) (f : Frame) → Later j (and_region j token f)
kept_region j token f =
    let x = fresh_region token (length j.frames) in
    record {
      frames = record { more = f ∷ []; is = refl };
      many = (let more = length-append j.regions (x ∷ []) in omega (arith, more));
      labels = λ region v below. ap (λ (r : RegionRows). lookup (nat_eq v) r.labels) (region_before j.regions region x below);
      own = λ region below. ap (λ (r : RegionRows). r.frame) (region_before j.regions region x below);
    }

pub kept_definition : (j : Known) (at name : ℕ) (d : Definition) → Later j (and_definition j at name d)
kept_definition j at name d =
    let rows = region_at j.regions at in
    record {
      frames = no_longer j.frames;
      many = (let same = length-set j.regions at (record rows { names = rows.names ++ (name, d) ∷ [] }) in omega (arith, same));
      labels = λ region v below. definition_labels j at name d region v;
      own = λ region below. definition_frame j at name d region;
    }

pub kept_label : (b : ℕ) (j : Known) (at value token : ℕ) → b ≤ at → Kept b j (and_label j at value token)
kept_label b j at value token far =
    let rows = region_at j.regions at in
    record {
      frames = no_longer j.frames;
      many = (let same = length-set j.regions at (record rows { labels = rows.labels ++ (value, token) ∷ [] }) in omega (arith, same));
      labels = λ region v below. label_labels j at value token region v (λ same. omega (arith, below, far, same));
      own = λ region below. label_frame j at value token region;
    }

-- what was so at some point before which there were at most so many regions
pub record Held (b : ℕ) (F : Known → Type 0) (j : Known) : Type 0 where
  pub before : Known
  pub later : Later before j
  pub few : length before.regions ≤ b
  pub is : F before

pub held_on : {F : Known → Type 0} (b : ℕ) (i j : Known) → Kept b i j → Held b F i → Held b F j
held_on b i j kept h = record {
  before = h.before;
  later = kept_then (length h.before.regions) b h.before i j h.few h.later kept;
  few = h.few;
  is = h.is;
}

pub held_up : {F : Known → Type 0} (b c : ℕ) (j : Known) → b ≤ c → Held b F j → Held c F j
held_up b c j up h = record { before = h.before; later = h.later; few = (let few = h.few in omega (arith, few, up)); is = h.is }

pub held_here : {F : Known → Type 0} (j : Known) → F j → Held (length j.regions) F j
held_here j is = record { before = j; later = kept_program (length j.regions) j j refl refl; few = omega arith; is = is }

-- ---- frames outward

frame_still : (fs more : List Frame) (f : ℕ) → f < length fs → frame_in (fs ++ more) f ≡ frame_in fs f
frame_still [] more f below = absurd (omega (arith, below))
frame_still (y ∷ ys) more zero below = refl
frame_still (y ∷ ys) more (suc f) below = frame_still ys more f (omega (arith, below))

pub longer_frame : (fs gs : List Frame) (f : ℕ) → Longer fs gs → f < length fs → frame_in gs f ≡ frame_in fs f
longer_frame fs gs f l below = ap (λ (hs : List Frame). frame_in hs f) l.is ∙ frame_still fs l.more f below

pub longer_length : (fs gs : List Frame) → Longer fs gs → length fs ≤ length gs
longer_length fs gs l =
    let same = ap (λ (hs : List Frame). length hs) l.is in
    let all = length-append fs l.more in
    omega (arith, same, all)

-- these frames lead outward to none, and the regions of all of them are below a number
abbrev Trail : List Frame → ℕ → Option ℕ → ℕ → Type 0
Trail fs many None n = Unit {0}
Trail fs many (Some f) zero = ⊥
Trail fs many (Some f) (suc n) = (f < length fs) × ((frame_in fs f).region < many) × Trail fs many (frame_in fs f).outer n

trail_on : (fs gs : List Frame) → Longer fs gs → (m k : ℕ) → m ≤ k → (at : Option ℕ) (n : ℕ) → Trail fs m at n → Trail gs k at n
trail_on fs gs l m k up None n e = tt
trail_on fs gs l m k up (Some f) zero e = absurd e
trail_on fs gs l m k up (Some f) (suc n) e =
    let same = sym (longer_frame fs gs f l e.0) in
    let there = e.0 in
    let within = e.1 in
    let more = longer_length fs gs l in (
      omega (arith, there, more),
      subst (λ (g : Frame). g.region < k) same (omega (arith, within, up)),
      subst (λ (g : Frame). Trail gs k g.outer n) same (trail_on fs gs l m k up (frame_in fs f).outer n e.2),
    )

outermost : (k : Known) (n v : ℕ) → find_label_from n k None v ≡ None
outermost k zero v = refl
outermost k (suc n) v = refl

finds_later : (i j : Known) → Later i j → (v : ℕ) (at : Option ℕ) (n a b : ℕ) → Trail i.frames (length i.regions) at n → n ≤ a → n ≤ b
    → find_label_from a j at v ≡ find_label_from b i at v
finds_later i j s v None n a b e few less = outermost j a v ∙ sym (outermost i b v)
finds_later i j s v (Some f) zero a b e few less = absurd e
finds_later i j s v (Some f) (suc n) zero b e few less = absurd (omega (arith, few))
finds_later i j s v (Some f) (suc n) (suc a) zero e few less = absurd (omega (arith, less))
finds_later i j s v (Some f) (suc n) (suc a) (suc b) e few less =
    ap (λ (g : Frame). or_else (declared_in j.regions g.region v) (find_label_from a j g.outer v)) (longer_frame i.frames j.frames f s.frames e.0)
    ∙ ap (λ o. or_else o (find_label_from a j (frame_at i f).outer v)) (s.labels (frame_at i f).region v e.1)
    ∙ ap (λ o. or_else (declared_in i.regions (frame_at i f).region v) o)
    (finds_later i j s v (frame_at i f).outer n a b e.2 (omega (arith, few)) (omega (arith, less)))

-- The labels that are found from a frame on are such. The frames outward have lower numbers.
pub record Way (P : ℕ → Type 0) (f : ℕ) (j : Known) : Type 0 where
  pub steps : ℕ
  pub few : steps ≤ suc f
  pub there : f < length j.frames
  pub trail : Trail j.frames (length j.regions) (Some f) steps
  pub finds : (v d : ℕ) → find_label j f v ≡ Some d → P d

pub way_later : (P : ℕ → Type 0) (f : ℕ) (i j : Known) → Later i j → Way P f i → Way P f j
way_later P f i j s w =
    let few = w.few in
    let there = w.there in
    let more = longer_length i.frames j.frames s.frames in
    record {
      steps = w.steps;
      few = few;
      there = omega (arith, there, more);
      trail = trail_on i.frames j.frames s.frames (length i.regions) (length j.regions) s.many (Some f) w.steps w.trail;
      finds = λ v d e. w.finds v d (sym (finds_later i j s v (Some f) w.steps (length j.frames) (length i.frames) w.trail
          (omega (arith, few, there, more)) (omega (arith, few, there))) ∙ e);
    }

pub way_map : (P Q : ℕ → Type 0) (f : ℕ) (j : Known) → ((d : ℕ) → P d → Q d) → Way P f j → Way Q f j
way_map P Q f j h w = record { steps = w.steps; few = w.few; there = w.there; trail = w.trail; finds = λ v d e. h d (w.finds v d e) }

pub got_below : {X : Type 0} (xs : List X) (n : ℕ) (x : X) → slice_get xs n ≡ Some x → n < length xs
got_below [] n x e = absurd (let never : None ≡ Some x = e in cc)
got_below (y ∷ ys) zero x e = omega arith
got_below (y ∷ ys) (suc n) x e = let b = got_below ys n x e in omega (arith, b)

or_some : (o p : Option ℕ) (d : ℕ) → or_else o p ≡ Some d → (o ≡ Some d) ⊎ (p ≡ Some d)
or_some None p d e = inr e
or_some (Some x) p d e = inl e

abbrev no_frame : Frame
no_frame = record { region = 0; outer = None; level = 0; withs = 0 }

-- a frame inside of one
pub way_new : (P Q : ℕ → Type 0) (j : Known) (n around : ℕ) (f : Frame) → slice_get j.frames n ≡ Some f → f.region < length j.regions
    → f.outer ≡ Some around → around < n → Way P around j → ((v d : ℕ) → declared_in j.regions f.region v ≡ Some d → Q d)
    → Way (λ d. Q d ⊎ P d) n j
way_new P Q j n around f got below outer less w mine =
    let at : frame_at j n ≡ f = ap (λ (o : Option Frame). unwrap_or o no_frame) got in
    let there = got_below j.frames n f got in
    let few = w.few in
    record {
      steps = suc w.steps;
      few = omega (arith, few, less);
      there = there;
      trail = (
        there,
        subst (λ (g : Frame). g.region < length j.regions) (sym at) below,
        subst (λ (g : Frame). Trail j.frames (length j.regions) g.outer w.steps) (sym at)
            (subst (λ o. Trail j.frames (length j.regions) o w.steps) (sym outer) w.trail),
      );
      finds = λ v d e. found at v d (length j.frames) (omega (arith, few, less, there)) e;
    }
  where
    found : frame_at j n ≡ f → (v d m : ℕ) → suc w.steps ≤ m → find_label_from m j (Some n) v ≡ Some d → Q d ⊎ P d
    found at v d zero few e = absurd (omega (arith, few))
    found at v d (suc m) few e =
        let one = ap (λ (g : Frame). or_else (declared_in j.regions g.region v) (find_label_from m j g.outer v)) at in
        let two = ap (λ o. or_else (declared_in j.regions f.region v) (find_label_from m j o v)) outer in
        elim (or_some (declared_in j.regions f.region v) (find_label_from m j (Some around) v) d (sym two ∙ sym one ∙ e)) [
          | inl own ↦ inl (mine v d own)
          | inr far ↦
              let steps = w.few in
              let reach = w.there in
              inr (w.finds v d (sym (finds_later j j (kept_program (length j.regions) j j refl refl) v (Some around) w.steps m (length j.frames) w.trail
              (omega (arith, few)) (omega (arith, steps, reach))) ∙ far))
        ]

-- a label that is found is declared
pub record Declared (j : Known) (v d : ℕ) : Type 0 where
  pub region : ℕ
  pub is : declared_in j.regions region v ≡ Some d

pub found_declared : (j : Known) (v d n : ℕ) (at : Option ℕ) → find_label_from n j at v ≡ Some d → Declared j v d
found_declared j v d zero None e = absurd (let never : None ≡ Some d = e in cc)
found_declared j v d (suc n) None e = absurd (let never : None ≡ Some d = e in cc)
found_declared j v d zero (Some f) e = absurd (let never : None ≡ Some d = e in cc)
found_declared j v d (suc n) (Some f) e =
    elim (or_some (declared_in j.regions (frame_at j f).region v) (find_label_from n j (frame_at j f).outer v) d e) [
      | inl own ↦ record { region = (frame_at j f).region; is = own }
      | inr far ↦ found_declared j v d n (frame_at j f).outer far
    ]
