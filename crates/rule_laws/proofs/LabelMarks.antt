-- What one label of a block's statements tells and keeps.
use Rattle.std.proofs.Common.{if◌then◌else◌, ◌&&◌, ◌++◌, ◌-◌, ◌||◌, ◌∙◌, ◌∷◌, ◌≡◌, [], ℕ, Bool, List, None, Option, Some, ap, arith, false, inl, inr, is_some}
use Rattle.std.proofs.Common.{nat_eq, not, refl, set, slice_get, subst, suc, sym, true, unwrap_or, zero}
use Rattle.std.proofs.lemmas.{Bool.eq-eqb, Bool.eqb-true, Bool.ne_eqb, Option.none-some, Option.same_Some}
use Rattle.core_program.specs.declared.rows.{NameRow.NameRow, Row.Row}
use Rattle.check_steps.specs.{Regions.declared_in, declared.breaks.Break.Break, declared.words.Spelled.Spelled, declared.words.SpelledToken.SpelledToken}
use Rattle.check_steps.specs.Known.{Known, find_label, label_at, label_in, row_at, with_row}
use Rattle.check_steps.specs.Steps.{◌>>=◌, ask, change, give, look}
use Rattle.statement_checker.specs.Labels.{is_unmarked, label_of, levels_in, mark, marked_label, own_label, put_label, row_of}
use Rattle.rule_laws.proofs.{Breaks.In, InTurn.Goes, LabelTurns.rule_of, Touches.any-last, Touches.same_changed}
use Rattle.rule_laws.proofs.Faces.{Shown, face, loose, mark_shows, marking, row_either}
use Rattle.rule_laws.proofs.LabelTurns.{Inside, IsSpot, Spot, Turn, beside, beside_on, inside_still, label_face, level_of, like_said, own_found, region_of}
use Rattle.rule_laws.specs.{BlockLabels.marks, CaseLaws.late_at, LabelLaws.IsWrongLabel, Tokens.Has}

-- ---- rows of labels

pub record LabelRow (r : Row) (strict : Shown) (shown : Bool) (value level : ℕ) : Type 0 where
  pub marked : Bool
  pub ways : ℕ
  pub is : r ≡ Row.Name (NameRow.Label marked value level ways)
  pub as_shown : (strict.marks && marked) ≡ shown

pub face_label : (strict : Shown) (r : Row) (b : Bool) (v l : ℕ) → face strict r ≡ label_face b v l → LabelRow r strict b v l
face_label strict (Row.Name (NameRow.Label marked value level ways)) b v l e =
    let a : value ≡ v = cc in
    let c : level ≡ l = cc in
    let d : (strict.marks && marked) ≡ b = cc in
    record {
      marked = marked;
      ways = ways;
      is = ap (λ n. Row.Name (NameRow.Label marked n level ways)) a
          ∙ ap (λ n. Row.Name (NameRow.Label marked v n ways)) c;
      as_shown = d;
    }
face_label strict (Row.Name (NameRow.Routine assigned number region)) b v l e = absurd cc
face_label strict (Row.Item i) b v l e = absurd cc
face_label strict r b v l e = absurd cc

-- a row that is put where a name stands
pub got_put : (rows : List Row) (d : ℕ) (n : NameRow) (r : Row) → unwrap_or (slice_get rows d) Row.Nothing ≡ Row.Name n
    → unwrap_or (slice_get (set rows d r) d) Row.Nothing ≡ r
got_put [] d n r e = absurd cc
got_put (x ∷ xs) zero n r e = refl
got_put (x ∷ xs) (suc d) n r e = got_put xs d n r e

-- ---- which label is the block's own

words_label : (p : Spot) (j : Known) (x : ℕ) → j.words ≡ p.k.words → label_at j x ≡ label_at p.k x
words_label p j x words =
    ap (λ (ws : List SpelledToken). label_in (unwrap_or (slice_get ws x) (record { spelled = Spelled.Other; line = 0 })).spelled) words

labelled_at : (p : Spot) (done : List ℕ) (j : Known) (f x : ℕ) → Turn p done j → Inside p j f → label_of j f x ≡ find_label p.k p.frame (label_at p.k x)
labelled_at p done j f x t here = ap (find_label j f) (words_label p j x t.words) ∙ here.finds (label_at p.k x)

own_declared : (p : Spot) → IsSpot p → (done : List ℕ) (j : Known) (f x d : ℕ) → Turn p done j → Inside p j f
    → declared_in p.k.regions (region_of p) (label_at p.k x) ≡ Some d → own_label j f x ≡ Some d
own_declared p is done j f x d t here e =
    let v = label_at p.k x in
    let l = level_of p in
    let row = face_label marking (row_at j d) (marks p.k done v) v l (t.labels v d e) in
    let none : l - l ≡ 0 = omega arith in
    ap (λ (o : Option ℕ). if nat_eq (levels_in j f (row_of j o)) 0 then o else None) (labelled_at p done j f x t here ∙ own_found p is v d e)
    ∙ ap (λ (r : Row). if nat_eq (levels_in j f r) 0 then Some d else None) row.is
    ∙ ap (λ (n : ℕ). if nat_eq (n - l) 0 then Some d else None) here.level
    ∙ ap (λ (n : ℕ). if nat_eq n 0 then Some d else None) none

outer_own : (p : Spot) → IsSpot p → (done : List ℕ) (j : Known) (f x : ℕ) → Turn p done j → Inside p j f
    → declared_in p.k.regions (region_of p) (label_at p.k x) ≡ None → (o : Option ℕ) → find_label p.k p.frame (label_at p.k x) ≡ o
    → (if nat_eq (levels_in j f (row_of j o)) 0 then o else None) ≡ None
outer_own p is done j f x t here e None at = refl
outer_own p is done j f x t here e (Some d) at =
    let v = label_at p.k x in
    let out = is.outer v d e at in
    let faced : face loose (row_at j d) ≡ label_face false out.value out.its_level = t.rows d (beside p is v d at) ∙ ap (face loose) out.row in
    let row = face_label loose (row_at j d) false out.value out.its_level faced in
    let less = out.further in
    let some : (level_of p - out.its_level ≡ 0) → ⊥ = λ z. omega (arith, less, z) in
    ap (λ (r : Row). if nat_eq (levels_in j f r) 0 then Some d else None) row.is
    ∙ ap (λ (n : ℕ). if nat_eq (n - out.its_level) 0 then Some d else None) here.level
    ∙ ap (λ b. if b then Some d else None) (ne_eqb (level_of p - out.its_level) 0 some)

own_undeclared : (p : Spot) → IsSpot p → (done : List ℕ) (j : Known) (f x : ℕ) → Turn p done j → Inside p j f
    → declared_in p.k.regions (region_of p) (label_at p.k x) ≡ None → own_label j f x ≡ None
own_undeclared p is done j f x t here e =
    ap (λ (o : Option ℕ). if nat_eq (levels_in j f (row_of j o)) 0 then o else None) (labelled_at p done j f x t here)
    ∙ outer_own p is done j f x t here e (find_label p.k p.frame (label_at p.k x)) refl

-- ---- what is told

pub no_row : (d : Option ℕ) (r : Row) (j : Known) → (put_label d r j).broken ≡ []
unfolding change give
no_row None r j = refl
no_row (Some d) r j = refl

-- the label is broken where it is not fine
abbrev pub told_by : ℕ → Bool → List Break
told_by x ok = if ok then [] else late_at 15 x ∷ []

pub told_if : (x t : ℕ) (ok : Bool) → In (late_at 15 t) (told_by x ok ++ []) → (x ≡ t) × (ok ≡ false)
told_if x t true i = absurd i
told_if x t false i = elim i [
  | inl e ↦ (ap (λ (b : Break). b.token) e, refl)
  | inr n ↦ absurd n
]

pub if_told : (x t : ℕ) (ok : Bool) → x ≡ t → ok ≡ false → In (late_at 15 t) (told_by x ok ++ [])
if_told x t true e wrong = absurd (let never : true ≡ false = wrong in cc)
if_told x t false e wrong = inl (ap (λ n. late_at 15 n) e)

-- ---- one label

-- what its step comes to, by the label's own declaration
record Marked (p : Spot) (done : List ℕ) (x : ℕ) (j : Known) (o : Option ℕ) : Type 0 where
  turn : Turn p (done ++ x ∷ []) (put_label o (marked_label (row_of j o)) j).known
  inside : (g : ℕ) → Inside p j g → Inside p (put_label o (marked_label (row_of j o)) j).known g
  wrong : is_unmarked (row_of j o) ≡ false → IsWrongLabel p.k p.frame done x
  right : IsWrongLabel p.k p.frame done x → is_unmarked (row_of j o) ≡ false

pub marks_more : (k : Known) (done : List ℕ) (x v : ℕ) → marks k (done ++ x ∷ []) v ≡ (marks k done v || nat_eq (label_at k x) v)
marks_more k done x v = any-last (λ l. nat_eq (label_at k l) v) done x

pub or_right : (b : Bool) → (b || true) ≡ true
or_right true = refl
or_right false = refl

pub or_none : (b : Bool) → (b || false) ≡ b
or_none true = refl
or_none false = refl

-- the labels after one of them marks a statement
labels_after : (p : Spot) → IsSpot p → (done : List ℕ) (x : ℕ) (j : Known) (d : ℕ) → Turn p done j
    → declared_in p.k.regions (region_of p) (label_at p.k x) ≡ Some d → (w c : ℕ) → declared_in p.k.regions (region_of p) w ≡ Some c
    → (b : Bool) → nat_eq (label_at p.k x) w ≡ b
    → face marking (row_at (with_row j d (marked_label (row_at j d))) c) ≡ label_face (marks p.k done w || b) w (level_of p)
labels_after p is done x j d t e w c f true same =
    let v = label_at p.k x in
    let l = level_of p in
    let eq : v ≡ w = eqb-true v w same in
    let row = face_label marking (row_at j d) (marks p.k done v) v l (t.labels v d e) in
    let there : d ≡ c = same_Some d c (sym e ∙ ap (declared_in p.k.regions (region_of p)) eq ∙ f) in
    let put : row_at (with_row j d (marked_label (row_at j d))) d ≡ marked_label (row_at j d)
    = got_put j.program.rows d (NameRow.Label row.marked v l row.ways) (marked_label (row_at j d)) row.is in
    ap (λ n. face marking (row_at (with_row j d (marked_label (row_at j d))) n)) (sym there)
    ∙ ap (face marking) (put ∙ ap marked_label row.is)
    ∙ ap (λ n. label_face true n l) eq
    ∙ ap (λ m. label_face m w l) (sym (or_right (marks p.k done w)))
labels_after p is done x j d t e w c f false other =
    let v = label_at p.k x in
    let l = level_of p in
    let mine = face_label marking (row_at j d) (marks p.k done v) v l (t.labels v d e) in
    let its = face_label marking (row_at j c) (marks p.k done w) w l (t.labels w c f) in
    let apart : c ≡ d → ⊥ = λ same.
    let rows : Row.Name (NameRow.Label its.marked w l its.ways) ≡ Row.Name (NameRow.Label mine.marked v l mine.ways)
    = sym its.is ∙ ap (row_at j) same ∙ mine.is in
    let values : v ≡ w = cc in
    let never : true ≡ false = sym (eq-eqb v w values) ∙ other in cc in
    elim (row_either j d c (marked_label (row_at j d))) [
      | inl old ↦ ap (face marking) old ∙ t.labels w c f ∙ ap (λ m. label_face m w l) (sym (or_none (marks p.k done w)))
      | inr q ↦ absurd (apart q.0)
    ]

not_false : (b : Bool) → not b ≡ false → b ≡ true
not_false true e = refl
not_false false e = absurd (let never : true ≡ false = e in cc)

marked_declared : (p : Spot) → IsSpot p → (done : List ℕ) (x : ℕ) (j : Known) (d : ℕ) → Turn p done j
    → declared_in p.k.regions (region_of p) (label_at p.k x) ≡ Some d → Marked p done x j (Some d)
unfolding change
marked_declared p is done x j d t e =
    let v = label_at p.k x in
    let i = with_row j d (marked_label (row_at j d)) in
    let s = same_changed {Q = Has p.part} {strict = loose} j d marked_label (mark_shows loose refl) in
    let row = face_label marking (row_at j d) (marks p.k done v) v (level_of p) (t.labels v d e) in
    let fine : is_unmarked (row_at j d) ≡ not (marks p.k done v) = ap is_unmarked row.is ∙ ap not row.as_shown in
    record {
      turn = record {
        words = t.words;
        regions = t.regions;
        falls = t.falls;
        rows = λ n h. s.rows n (beside_on p j n t.words h) ∙ t.rows n h;
        sayings = like_said p j i t.sayings s;
        labels = λ w c f. labels_after p is done x j d t e w c f (nat_eq v w) refl ∙ ap (λ m. label_face m w (level_of p)) (sym (marks_more p.k done x w));
      };
      inside = λ g h. inside_still p j i refl refl g h;
      wrong = λ w. inr (not_false (marks p.k done v) (sym fine ∙ w));
      right = λ w. elim w [
        | inl undeclared ↦ absurd (let never : true ≡ false = sym (ap is_some e) ∙ undeclared in cc)
        | inr again ↦ fine ∙ ap not again
      ];
    }

marked_undeclared : (p : Spot) → IsSpot p → (done : List ℕ) (x : ℕ) (j : Known) → Turn p done j
    → declared_in p.k.regions (region_of p) (label_at p.k x) ≡ None → Marked p done x j None
unfolding give
marked_undeclared p is done x j t e =
    let v = label_at p.k x in
    record {
      turn = record {
        words = t.words;
        regions = t.regions;
        falls = t.falls;
        rows = t.rows;
        sayings = t.sayings;
        labels = λ w c f.
            let other : v ≡ w → ⊥ = λ same. none-some c (sym e ∙ ap (declared_in p.k.regions (region_of p)) same ∙ f) in
            t.labels w c f ∙ ap (λ m. label_face m w (level_of p)) (sym (marks_more p.k done x w
            ∙ ap (λ b. marks p.k done w || b) (ne_eqb v w other) ∙ or_none (marks p.k done w)));
      };
      inside = λ g h. h;
      wrong = λ w. inl (ap is_some e);
      right = λ w. refl;
    }

marked_by : (p : Spot) → IsSpot p → (done : List ℕ) (f x : ℕ) (j : Known) → Turn p done j → Inside p j f → (o : Option ℕ)
    → declared_in p.k.regions (region_of p) (label_at p.k x) ≡ o → Marked p done x j (own_label j f x)
marked_by p is done f x j t here None e = subst (Marked p done x j) (sym (own_undeclared p is done j f x t here e)) (marked_undeclared p is done x j t e)
marked_by p is done f x j t here (Some d) e =
    subst (Marked p done x j) (sym (own_declared p is done j f x d t here e)) (marked_declared p is done x j d t e)

pub label_marks : (p : Spot) → IsSpot p → (S : ℕ → Type 0) (f x : ℕ) → S f → Goes (rule_of p S) (x ∷ []) (mark f x)
unfolding mark look ◌>>=◌ ask
label_marks p is S f x here = record {
  of = λ done j s.
      let o = own_label j f x in
      let ok = is_unmarked (row_of j o) in
      let m = marked_by p is done f x j s.turn (s.inside f here) (declared_in p.k.regions (region_of p) (label_at p.k x)) refl in
      let b = late_at 15 p.t in
      let e = no_row o (marked_label (row_of j o)) j in
      record {
        turn = record { turn = m.turn; inside = λ g g-in. m.inside g (s.inside g g-in) };
        forth = λ i.
            let q = told_if x p.t ok (subst (λ (bs : List Break). In b (told_by x ok ++ bs)) e i) in
            inl (q.0, m.wrong q.1);
        back = λ w. elim w [
          | inl v ↦ subst (λ (bs : List Break). In b (told_by x ok ++ bs)) (sym e) (if_told x p.t ok v.0 (m.right v.1))
          | inr n ↦ absurd n
        ];
      };
}
