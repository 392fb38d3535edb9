-- Which label of a block's statements is told at the least: one whose value one before it has, or that the block doesn't
-- declare. What stands in the tables of other labels does not matter.
use Rattle.std.proofs.Common.{if◌then◌else◌, ◌&&◌, ◌++◌, ◌-◌, ◌||◌, ◌∙◌, ◌∷◌, ◌≡◌, ◌⊎◌, [], ℕ, Bool, List, None, Option, Some, ap, false, inl, inr, length}
use Rattle.std.proofs.Common.{nat_eq, not, refl, subst, sym, true}
use Rattle.std.proofs.lemmas.Bool.{eqb-true}
use Rattle.grammar.specs.Nodes.{Leaf, Node, Nothing, Pair}
use Rattle.core_program.specs.declared.rows.{NameRow.NameRow, Row.Row}
use Rattle.check_steps.specs.{Frames.frame_in, Regions.declared_in}
use Rattle.check_steps.specs.Known.{Known, find_label, find_label_from, frame_at, label_at, row_at, type_at, with_row}
use Rattle.check_steps.specs.Steps.{◌>>=◌, Step, ask, change, give, look}
use Rattle.check_steps.specs.declared.{breaks.Break.Break, regions.Frame.Frame, words.SpelledToken.SpelledToken}
use Rattle.decl_checker.specs.Statements.{fields_in}
use Rattle.statement_checker.specs.Labels.{is_unmarked, levels_in, mark, marked_label, own_label, put_label, row_of}
use Rattle.rule_laws.proofs.{Breaks.In, Breaks.in_left, Breaks.in_right, Every.Every, Every.Of, LabelMarks.got_put, LabelTurns.same_finds, Outward.Outward}
use Rattle.rule_laws.proofs.{StatementLabels.mark-touches, Touches.Same, Touches.Says, Touches.Touches}
use Rattle.rule_laws.proofs.Faces.{Shown, fine_in, loose, marking, row_either, said}
use Rattle.rule_laws.specs.CaseLaws.{late_at}

-- ---- any token

abbrev pub Anywhere : ℕ → Type 0
Anywhere n = Unit {0}

pub anywhere : (n : ℕ) → Of Anywhere n
anywhere n = record { is = tt }

pub everywhere : (x : Node) → Every Anywhere x
everywhere (Leaf item) = record { is = tt }
everywhere Nothing = tt
everywhere (Pair a b) = (everywhere a, everywhere b)

-- ---- the tables

-- the tables where a block's statements begin, its frame, and the label that is looked at
pub record Where : Type 0 where
  pub k : Known
  pub frame : ℕ
  pub t : ℕ

abbrev pub level_of : Where → ℕ
level_of p = (frame_at p.k p.frame).level

-- the declaration of the label that is looked at
abbrev pub held : Where → Option ℕ
held p = find_label p.k p.frame (label_at p.k p.t)

-- records declare no labels
pub record IsWhere (p : Where) : Type 0 where
  pub outward : Outward p.k.frames p.frame
  pub records : (n region v : ℕ) → fields_in (type_at p.k n) ≡ Some region → declared_in p.k.regions region v ≡ None

-- from this frame labels are found as from that of the block
pub record Inside (p : Where) (j : Known) (f : ℕ) : Type 0 where
  pub outward : Outward j.frames f
  pub level : (frame_at j f).level ≡ level_of p
  pub finds : (v : ℕ) → find_label j f v ≡ find_label p.k p.frame v

-- The label may not mark a statement any more, once that is so.
pub record Turn (p : Where) (s : Bool) (j : Known) : Type 0 where
  pub words : j.words ≡ p.k.words
  pub regions : j.regions ≡ p.k.regions
  pub sayings : (n : ℕ) → (said (row_at j n) ≡ Row.Nothing) ⊎ (said (row_at j n) ≡ said (row_at p.k n))
  pub spent : s ≡ true → fine_in (level_of p) (row_of j (held p)) ≡ false

pub record Seen (p : Where) (S : ℕ → Type 0) (s : Bool) (j : Known) : Type 0 where
  pub turn : Turn p s j
  pub inside : (g : ℕ) → S g → Inside p j g

-- ---- labels in turn

-- after these labels
abbrev pub after : Where → Bool → List ℕ → Bool
after p s [] = s
after p s (x ∷ xs) = after p (s || nat_eq (label_at p.k p.t) (label_at p.k x)) xs

abbrev pub Wrong : Where → Bool → List ℕ → Type 0
Wrong p s [] = ⊥
Wrong p s (x ∷ xs) = ((x ≡ p.t) × (s ≡ true)) ⊎ Wrong p (s || nat_eq (label_at p.k p.t) (label_at p.k x)) xs

after_both : (p : Where) (s : Bool) (xs ys : List ℕ) → after p s (xs ++ ys) ≡ after p (after p s xs) ys
after_both p s [] ys = refl
after_both p s (x ∷ xs) ys = after_both p (s || nat_eq (label_at p.k p.t) (label_at p.k x)) xs ys

wrong_either : (p : Where) (s : Bool) (xs ys : List ℕ) → Wrong p s (xs ++ ys) → Wrong p s xs ⊎ Wrong p (after p s xs) ys
wrong_either p s [] ys w = inr w
wrong_either p s (x ∷ xs) ys (inl w) = inl (inl w)
wrong_either p s (x ∷ xs) ys (inr w) = elim (wrong_either p (s || nat_eq (label_at p.k p.t) (label_at p.k x)) xs ys w) [
  | inl v ↦ inl (inr v)
  | inr v ↦ inr v
]

pub record Told (p : Where) (S : ℕ → Type 0) (s : Bool) (xs : List ℕ) (i : Known) (bs : List Break) : Type 0 where
  pub seen : Seen p S (after p s xs) i
  pub told : Wrong p s xs → In (late_at 15 p.t) bs

pub record Tells (p : Where) (S : ℕ → Type 0) (xs : List ℕ) {A : Type 0} (m : Step A) : Type 0 where
  pub of : (s : Bool) (j : Known) → Seen p S s j → Told p S s xs (m j).known (m j).broken

-- a step that leaves labels and frames
pub record Still (p : Where) {A : Type 0} (m : Step A) : Type 0 where
  pub turn : (s : Bool) (j : Known) → Turn p s j → Turn p s (m j).known
  pub inside : (j : Known) → j.regions ≡ p.k.regions → (g : ℕ) → Inside p j g → Inside p (m j).known g

pub seen_still : {p : Where} {S : ℕ → Type 0} {A : Type 0} {m : Step A} → Still p m → (s : Bool) (j : Known) → Seen p S s j → Seen p S s (m j).known
seen_still still s j h = record {
  turn = still.turn s j h.turn;
  inside = λ g g-in. still.inside j h.turn.regions g (h.inside g g-in);
}

pub tells_then : {p : Where} {S : ℕ → Type 0} {A B : Type 0} {m : Step A} {f : A → Step B} (xs ys : List ℕ) → Tells p S xs m
    → ((a : A) → Tells p S ys (f a)) → Tells p S (xs ++ ys) (m >>= f)
unfolding ◌>>=◌
tells_then {p = p} {S = S} {m = m} {f = f} xs ys one two = record {
  of = λ s j h.
      let d = m j in
      let e = f d.value d.known in
      let a = one.of s j h in
      let b = (two d.value).of (after p s xs) d.known a.seen in
      record {
        seen = subst (λ c. Seen p S c e.known) (sym (after_both p s xs ys)) b.seen;
        told = λ w. elim (wrong_either p s xs ys w) [
          | inl v ↦ in_left (late_at 15 p.t) d.broken e.broken (a.told v)
          | inr v ↦ in_right (late_at 15 p.t) d.broken e.broken (b.told v)
        ];
      };
}

pub still_tells : {p : Where} {S : ℕ → Type 0} {A : Type 0} {m : Step A} → Still p m → Tells p S [] m
still_tells still = record { of = λ s j h. record { seen = seen_still still s j h; told = λ w. absurd w } }

pub still_then : {p : Where} {S : ℕ → Type 0} {A B : Type 0} {m : Step A} {f : A → Step B} (xs : List ℕ) → Still p m
    → ((a : A) → Tells p S xs (f a)) → Tells p S xs (m >>= f)
unfolding ◌>>=◌
still_then {p = p} {m = m} {f = f} xs still rest = record {
  of = λ s j h.
      let d = m j in
      let b = (rest d.value).of s d.known (seen_still still s j h) in
      record { seen = b.seen; told = λ w. in_right (late_at 15 p.t) d.broken (f d.value d.known).broken (b.told w) };
}

pub tells_still : {p : Where} {S : ℕ → Type 0} {A B : Type 0} {m : Step A} {f : A → Step B} (xs : List ℕ) → Tells p S xs m
    → ((a : A) → Still p (f a)) → Tells p S xs (m >>= f)
unfolding ◌>>=◌
tells_still {p = p} {m = m} {f = f} xs one rest = record {
  of = λ s j h.
      let d = m j in
      let a = one.of s j h in
      record {
        seen = seen_still (rest d.value) (after p s xs) d.known a.seen;
        told = λ w. in_left (late_at 15 p.t) d.broken (f d.value d.known).broken (a.told w);
      };
}

-- ---- steps that go over no label

pub inside_same : (p : Where) (j i : Known) → i.regions ≡ j.regions → i.frames ≡ j.frames → (g : ℕ) → Inside p j g → Inside p i g
inside_same p j i regions frames g h = record {
  outward = subst (λ (fs : List Frame). Outward fs g) (sym frames) h.outward;
  level = ap (λ (fs : List Frame). (frame_in fs g).level) frames ∙ h.level;
  finds = λ v. ap (λ (fs : List Frame). find_label_from (length fs) i (Some g) v) frames
      ∙ same_finds j i regions frames (length j.frames) (Some g) v ∙ h.finds v;
}

-- what is said in tables that are gone on from
pub said_on : (k j i : Known) → ((n : ℕ) → (said (row_at j n) ≡ Row.Nothing) ⊎ (said (row_at j n) ≡ said (row_at k n)))
    → ((n : ℕ) → Says Anywhere j i n) → (n : ℕ) → (said (row_at i n) ≡ Row.Nothing) ⊎ (said (row_at i n) ≡ said (row_at k n))
said_on k j i before now n = elim (now n) [
  | inl q ↦ inl q.1
  | inr e ↦ elim (before n) [
    | inl l ↦ inl (e ∙ l)
    | inr r ↦ inr (e ∙ r)
  ]
]

spent_on : (j i : Known) (level : ℕ) (o : Option ℕ)
    → ((n : ℕ) → fine_in level (row_at j n) ≡ false → fine_in level (row_at i n) ≡ false)
    → fine_in level (row_of j o) ≡ false → fine_in level (row_of i o) ≡ false
spent_on j i level None keeps e = refl
spent_on j i level (Some d) keeps e = keeps d e

turn_on : (p : Where) (s : Bool) (j i : Known) → {strict : Shown} → Same Anywhere strict j i → Turn p s j → Turn p s i
turn_on p s j i same t = record {
  words = same.words ∙ t.words;
  regions = same.regions ∙ t.regions;
  sayings = said_on p.k j i t.sayings same.sayings;
  spent = λ e. spent_on j i (level_of p) (held p) (λ n. same.spent n (level_of p)) (t.spent e);
}

pub still_of : (p : Where) {A : Type 0} {m : Step A} → Touches Anywhere marking m → Still p m
still_of p {m = m} touches = record {
  turn = λ s j t. turn_on p s j (m j).known (touches.same j) t;
  inside = λ j regions g h. inside_same p j (m j).known (touches.same j).regions ((touches.same j).still refl) g h;
}

-- ---- one label

-- its own declaration, if one is found
abbrev own_of : Known → ℕ → Option ℕ → Option ℕ
own_of j f o = if nat_eq (levels_in j f (row_of j o)) 0 then o else None

and_true : (b : Bool) → (b && true) ≡ b
and_true true = refl
and_true false = refl

and_false : (b : Bool) → (b && false) ≡ false
and_false true = refl
and_false false = refl

-- it may mark a statement if it is fine at the block's level
fine_by : (j : Known) (f level : ℕ) (o : Option ℕ) → (frame_at j f).level ≡ level → (r : Row) → row_of j o ≡ r → (b : Bool)
    → nat_eq (levels_in j f r) 0 ≡ b → is_unmarked (row_of j (if b then o else None)) ≡ fine_in level r
fine_by j f level o at (Row.Name (NameRow.Label marked value l ways)) e true same =
    ap is_unmarked e ∙ sym (and_true (not marked)) ∙ ap (λ b. not marked && b) (sym same)
    ∙ ap (λ n. not marked && nat_eq (n - l) 0) at
fine_by j f level o at (Row.Name (NameRow.Label marked value l ways)) e false same =
    sym (and_false (not marked)) ∙ ap (λ b. not marked && b) (sym same) ∙ ap (λ n. not marked && nat_eq (n - l) 0) at
fine_by j f level o at (Row.Name n) e false same = absurd (let never : true ≡ false = same in cc)
fine_by j f level o at (Row.Name n) e true same = ap is_unmarked e
fine_by j f level o at r e false same = absurd (let never : true ≡ false = same in cc)
fine_by j f level o at r e true same = ap is_unmarked e

fine_own : (j : Known) (f level : ℕ) (o : Option ℕ) → (frame_at j f).level ≡ level → is_unmarked (row_of j (own_of j f o)) ≡ fine_in level (row_of j o)
fine_own j f level o at = fine_by j f level o at (row_of j o) refl (nat_eq (levels_in j f (row_of j o)) 0) refl

-- a row that was marked
marked_by : (j : Known) (d level : ℕ) (r : Row) → row_at j d ≡ r → fine_in level (row_at (with_row j d (marked_label r)) d) ≡ false
marked_by j d level (Row.Name (NameRow.Label marked value l ways)) e =
    ap (fine_in level) (got_put j.program.rows d (NameRow.Label marked value l ways) (Row.Name (NameRow.Label true value l ways)) e)
marked_by j d level (Row.Name n) e = elim (row_either j d d (Row.Name n)) [
  | inl old ↦ ap (fine_in level) (old ∙ e)
  | inr new ↦ ap (fine_in level) new.1
]
marked_by j d level r e = elim (row_either j d d r) [
  | inl old ↦ ap (fine_in level) (old ∙ e)
  | inr new ↦ ap (fine_in level) new.1
]

-- after the label's step it marks no further statement
spent_by : (j : Known) (f level : ℕ) (o : Option ℕ) → (frame_at j f).level ≡ level → (b : Bool) → nat_eq (levels_in j f (row_of j o)) 0 ≡ b
    → let own = if b then o else None in fine_in level (row_of (put_label own (marked_label (row_of j own)) j).known o) ≡ false
unfolding change give
spent_by j f level None at true same = refl
spent_by j f level None at false same = refl
spent_by j f level (Some d) at true same = marked_by j d level (row_at j d) refl
spent_by j f level (Some d) at false same = sym (fine_by j f level (Some d) at (row_at j d) refl false same)

pub no_frames : (o : Option ℕ) (r : Row) (j : Known) → (put_label o r j).known.frames ≡ j.frames
unfolding change give
no_frames None r j = refl
no_frames (Some d) r j = refl

pub no_regions : (o : Option ℕ) (r : Row) (j : Known) → (put_label o r j).known.regions ≡ j.regions
unfolding change give
no_regions None r j = refl
no_regions (Some d) r j = refl

-- the label is told where it is not fine
told_by : (x t : ℕ) (ok : Bool) → x ≡ t → ok ≡ false → In (late_at 15 t) (if ok then [] else late_at 15 x ∷ [])
told_by x t true e wrong = absurd (let never : true ≡ false = wrong in cc)
told_by x t false e wrong = inl (ap (λ n. late_at 15 n) e)

or_either : (b c : Bool) → (b || c) ≡ true → (b ≡ true) ⊎ (c ≡ true)
or_either true c e = inl refl
or_either false c e = inr e

words_label : (p : Where) (j : Known) (x : ℕ) → j.words ≡ p.k.words → label_at j x ≡ label_at p.k x
words_label p j x words = ap (λ (ws : List SpelledToken). label_at (record p.k { words = ws }) x) words

pub mark_tells : (p : Where) (S : ℕ → Type 0) (f x : ℕ) → S f → Tells p S (x ∷ []) (mark f x)
unfolding mark look ◌>>=◌ ask
mark_tells p S f x f-in = record {
  of = λ s j h.
      let here = h.inside f f-in in
      let own = own_label j f x in
      let r = row_of j own in
      let put = put_label own (marked_label r) j in
      let i = put.known in
      let same = (mark-touches {Q = Anywhere} {strict = loose} refl f x (anywhere x)).same j in
      let found : find_label j f (label_at j x) ≡ find_label p.k p.frame (label_at p.k x)
      = ap (find_label j f) (words_label p j x h.turn.words) ∙ here.finds (label_at p.k x) in
      let level = level_of p in
      let fine = fine_own j f level (find_label j f (label_at j x)) here.level in
      let old = turn_on p s j i same h.turn in
      record {
        seen = record {
          turn = record {
            words = old.words;
            regions = old.regions;
            sayings = old.sayings;
            spent = λ e. elim (or_either s (nat_eq (label_at p.k p.t) (label_at p.k x)) e) [
              | inl before ↦ old.spent before
              | inr now ↦
                  let value : label_at p.k x ≡ label_at p.k p.t = sym (eqb-true (label_at p.k p.t) (label_at p.k x) now) in
                  let at : find_label j f (label_at j x) ≡ held p = found ∙ ap (find_label p.k p.frame) value in
                  subst (λ (o : Option ℕ). fine_in level (row_of i o) ≡ false) at
                  (spent_by j f level (find_label j f (label_at j x)) here.level
                  (nat_eq (levels_in j f (row_of j (find_label j f (label_at j x)))) 0) refl)
            ];
          };
          inside = λ g g-in. inside_same p j i (no_regions own (marked_label r) j) (no_frames own (marked_label r) j) g (h.inside g g-in);
        };
        told = λ w. elim w [
          | inl v ↦
              let at : find_label j f (label_at j x) ≡ held p = found ∙ ap (λ n. find_label p.k p.frame (label_at p.k n)) v.0 in
              let wrong : is_unmarked r ≡ false
              = fine ∙ ap (λ (o : Option ℕ). fine_in level (row_of j o)) at ∙ h.turn.spent v.1 in
              in_left (late_at 15 p.t) (if is_unmarked r then [] else late_at 15 x ∷ []) put.broken (told_by x p.t (is_unmarked r) v.0 wrong)
          | inr n ↦ absurd n
        ];
      };
}
