-- The labels of a block's statements in turn, and what stands between them.
use Rattle.std.proofs.Common.{◌++◌, ◌-◌, ◌<◌, ◌∙◌, ◌∷◌, ◌≡◌, ◌≤◌, ◌⊎◌, [], ℕ, Bool, List, None, Option, Some, ap, arith, false, inl, inr, length, refl, subst}
use Rattle.std.proofs.Common.{suc, sym, true, zero}
use Rattle.grammar.specs.Nodes.{Node}
use Rattle.core_program.specs.declared.rows.{NameRow.NameRow, Row.Row}
use Rattle.check_steps.specs.{Around.reach, Breaks.number, Frames.frame_in, Regions.RegionRows, Regions.declared_in, Regions.or_else, Steps.Step}
use Rattle.check_steps.specs.Known.{Known, find_label, find_label_from, frame_at, row_at, type_at}
use Rattle.check_steps.specs.declared.{breaks.Break.Break, regions.Frame.Frame, words.SpelledToken.SpelledToken}
use Rattle.decl_checker.specs.Statements.{fields_in}
use Rattle.rule_laws.proofs.{Breaks.Each, Breaks.In, Breaks.of_each, InTurn.Calm, InTurn.Rule, InTurn.Wrong}
use Rattle.rule_laws.proofs.Faces.{Shown, face, going_last, loose, marking, said}
use Rattle.rule_laws.proofs.Touches.{IsBeside, Same, Told, Touches}
use Rattle.rule_laws.specs.{BlockLabels.marks, CaseLaws.late_at, LabelLaws.IsOuterLabel, LabelLaws.IsUnmarkedLabel, LabelLaws.IsWrongLabel, Tokens.Has}

-- the statements of a block that are gone over from tables on, and the label that is looked at
pub record Spot : Type 0 where
  pub k : Known
  pub frame : ℕ
  pub t : ℕ
  pub part : Node

abbrev pub level_of : Spot → ℕ
level_of p = (frame_at p.k p.frame).level

abbrev pub region_of : Spot → ℕ
region_of p = (frame_at p.k p.frame).region

pub record IsSpot (p : Spot) : Type 0 where
  pub there : p.frame < length p.k.frames
  pub own : (value token : ℕ) → declared_in p.k.regions (region_of p) value ≡ Some token → IsUnmarkedLabel p.k value (level_of p) token
  pub outer : (value token : ℕ) → declared_in p.k.regions (region_of p) value ≡ None → find_label p.k p.frame value ≡ Some token
      → IsOuterLabel p.k (level_of p) token
  pub apart : (value token : ℕ) → find_label p.k p.frame value ≡ Some token → Has p.part token → ⊥
  pub before_end : (value token : ℕ) → find_label p.k p.frame value ≡ Some token → token ≡ length p.k.words - 1 → ⊥
  pub records : (number region value : ℕ) → fields_in (type_at p.k number) ≡ Some region → declared_in p.k.regions region value ≡ None

-- a label of a level, and whether it marks a statement
abbrev pub label_face : Bool → ℕ → ℕ → Row
label_face marked value level = Row.Name (NameRow.Label marked value level 0)

-- from this frame labels are found as from that of the block
pub record Inside (p : Spot) (j : Known) (f : ℕ) : Type 0 where
  pub below : f < length j.frames
  pub level : (frame_at j f).level ≡ level_of p
  pub finds : (v : ℕ) → find_label j f v ≡ find_label p.k p.frame v

-- the tables where some of the labels were gone over
pub record Turn (p : Spot) (done : List ℕ) (j : Known) : Type 0 where
  pub words : j.words ≡ p.k.words
  pub regions : j.regions ≡ p.k.regions
  pub falls : (f : ℕ) → reach (frame_in j.frames f).outer ≤ f
  pub rows : (n : ℕ) → IsBeside (Has p.part) p.k n → face loose (row_at j n) ≡ face loose (row_at p.k n)
  pub sayings : (n : ℕ) → (said (row_at j n) ≡ Row.Nothing) ⊎ (said (row_at j n) ≡ said (row_at p.k n))
  pub labels : (v d : ℕ) → declared_in p.k.regions (region_of p) v ≡ Some d → face marking (row_at j d) ≡ label_face (marks p.k done v) v (level_of p)

-- The same, with frames from which labels are found as from that of the block.
pub record Seen (p : Spot) (S : ℕ → Type 0) (done : List ℕ) (j : Known) : Type 0 where
  pub turn : Turn p done j
  pub inside : (g : ℕ) → S g → Inside p j g

abbrev pub rule_of : Spot → (ℕ → Type 0) → Rule
rule_of p S = record {
  X = ℕ;
  at = λ x. x;
  Turn = Seen p S;
  Bad = λ done x. IsWrongLabel p.k p.frame done x;
  t = p.t;
  b = late_at 15 p.t;
}

-- which are wrong is the same whatever the frames
pub wrong_in : (p : Spot) (S R : ℕ → Type 0) (done xs : List ℕ) → Wrong (rule_of p S) done xs → Wrong (rule_of p R) done xs
wrong_in p S R done [] w = w
wrong_in p S R done (x ∷ xs) (inl w) = inl w
wrong_in p S R done (x ∷ xs) (inr w) = inr (wrong_in p S R (done ++ x ∷ []) xs w)

-- a step that leaves labels and frames
pub record Still (p : Spot) {A : Type 0} (m : Step A) : Type 0 where
  pub turn : (done : List ℕ) (j : Known) → Turn p done j → Turn p done (m j).known
  pub inside : (done : List ℕ) (j : Known) → Turn p done j → (g : ℕ) → Inside p j g → Inside p (m j).known g
  pub none : (j : Known) → In (late_at 15 p.t) (m j).broken → ⊥

-- ---- frames and labels of like tables

pub label_outermost : (k : Known) (n value : ℕ) → find_label_from n k None value ≡ None
label_outermost k zero value = refl
label_outermost k (suc n) value = refl

pub same_finds : (k j : Known) → j.regions ≡ k.regions → j.frames ≡ k.frames → (n : ℕ) (at : Option ℕ) (v : ℕ)
    → find_label_from n j at v ≡ find_label_from n k at v
same_finds k j regions frames n None v = label_outermost j n v ∙ sym (label_outermost k n v)
same_finds k j regions frames zero (Some f) v = refl
same_finds k j regions frames (suc n) (Some f) v =
    let same : frame_at j f ≡ frame_at k f = ap (λ (fs : List Frame). frame_in fs f) frames in
    ap (λ (g : Frame). or_else (declared_in j.regions g.region v) (find_label_from n j g.outer v)) same
    ∙ ap (λ (rs : List RegionRows). or_else (declared_in rs (frame_at k f).region v) (find_label_from n j (frame_at k f).outer v)) regions
    ∙ ap (λ o. or_else (declared_in k.regions (frame_at k f).region v) o) (same_finds k j regions frames n (frame_at k f).outer v)

pub inside_still : (p : Spot) (j i : Known) → i.regions ≡ j.regions → i.frames ≡ j.frames → (g : ℕ) → Inside p j g → Inside p i g
inside_still p j i regions frames g h = record {
  below = subst (λ (fs : List Frame). g < length fs) (sym frames) h.below;
  level = ap (λ (fs : List Frame). (frame_in fs g).level) frames ∙ h.level;
  finds = λ v. ap (λ (fs : List Frame). find_label_from (length fs) i (Some g) v) frames
      ∙ same_finds j i regions frames (length j.frames) (Some g) v ∙ h.finds v;
}

-- a label that the block itself declares
pub found_here : (k : Known) (n frame v d : ℕ) → 0 < n → declared_in k.regions (frame_at k frame).region v ≡ Some d
    → find_label_from n k (Some frame) v ≡ Some d
found_here k zero frame v d some e = absurd (omega (arith, some))
found_here k (suc n) frame v d some e = ap (λ o. or_else o (find_label_from n k (frame_at k frame).outer v)) e

pub own_found : (p : Spot) → IsSpot p → (v d : ℕ) → declared_in p.k.regions (region_of p) v ≡ Some d → find_label p.k p.frame v ≡ Some d
own_found p is v d e = found_here p.k (length p.k.frames) p.frame v d (let b = is.there in omega (arith, b)) e

pub beside : (p : Spot) → IsSpot p → (v d : ℕ) → find_label p.k p.frame v ≡ Some d → IsBeside (Has p.part) p.k d
beside p is v d e = record { none = λ h. is.apart v d e h.is; before_end = is.before_end v d e }

pub beside_on : (p : Spot) (j : Known) (n : ℕ) → j.words ≡ p.k.words → IsBeside (Has p.part) p.k n → IsBeside (Has p.part) j n
beside_on p j n words h = record { none = h.none; before_end = λ e. h.before_end (e ∙ ap (λ (ws : List SpelledToken). length ws - 1) words) }

-- ---- steps that go over none

weaker : (r : Row) → face loose (face marking r) ≡ face loose r
weaker (Row.Name (NameRow.Label marked value level ways)) = refl
weaker (Row.Name (NameRow.Routine assigned number region)) = refl
weaker (Row.Item i) = ap (λ x. Row.Item x) (going_last i 0 0)
weaker r = refl

pub like_said : (p : Spot) (j i : Known) → ((n : ℕ) → (said (row_at j n) ≡ Row.Nothing) ⊎ (said (row_at j n) ≡ said (row_at p.k n)))
    → {strict : Shown} → Same (Has p.part) strict j i → (n : ℕ) → (said (row_at i n) ≡ Row.Nothing) ⊎ (said (row_at i n) ≡ said (row_at p.k n))
like_said p j i before s n = elim (s.sayings n) [
  | inl q ↦ inl q.1
  | inr e ↦ elim (before n) [
    | inl l ↦ inl (e ∙ l)
    | inr r ↦ inr (e ∙ r)
  ]
]

turn_after : (p : Spot) → IsSpot p → (done : List ℕ) (j i : Known) → Turn p done j → Same (Has p.part) marking j i → Turn p done i
turn_after p is done j i t s = record {
  words = s.words ∙ t.words;
  regions = s.regions ∙ t.regions;
  falls = λ f. subst (λ (fs : List Frame). reach (frame_in fs f).outer ≤ f) (sym (s.still refl)) (t.falls f);
  rows = λ n h.
      let e = s.rows n (beside_on p j n t.words h) in
      sym (weaker (row_at i n)) ∙ ap (face loose) e ∙ weaker (row_at j n) ∙ t.rows n h;
  sayings = like_said p j i t.sayings s;
  labels = λ v d e. s.rows d (beside_on p j d t.words (beside p is v d (own_found p is v d e))) ∙ t.labels v d e;
}

not_told : (p : Spot) (bs : List Break) → Each (Told (Has p.part) marking) bs → In (late_at 15 p.t) bs → ⊥
not_told p bs e i =
    let told = of_each (Told (Has p.part) marking) (late_at 15 p.t) bs e i in
    let never : true ≡ false = told.quiet refl in cc

pub still_of : (p : Spot) → IsSpot p → {A : Type 0} {m : Step A} → Touches (Has p.part) marking m → Still p m
still_of p is {m = m} touches = record {
  turn = λ done j turn. turn_after p is done j (m j).known turn (touches.same j);
  inside = λ done j turn g here. inside_still p j (m j).known (touches.same j).regions ((touches.same j).still refl) g here;
  none = λ j. not_told p (m j).broken (touches.told j);
}

pub calm_of : (p : Spot) → IsSpot p → (S : ℕ → Type 0) → {A : Type 0} {m : Step A} → Touches (Has p.part) marking m → Calm (rule_of p S) m
calm_of p is S {m = m} touches = let still = still_of p is touches in record {
  turn = λ done j s. record { turn = still.turn done j s.turn; inside = λ g g-in. still.inside done j s.turn g (s.inside g g-in) };
  none = still.none;
}
