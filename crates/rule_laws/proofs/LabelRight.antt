-- A declared label that marks no statement so far: what the labels of a block's statements leave of it, and tell.
use Rattle.std.proofs.Common.{if◌then◌else◌, ◌&&◌, ◌++◌, ◌-◌, ◌||◌, ◌∙◌, ◌∷◌, ◌≡◌, ◌⊎◌, [], ℕ, Bool, List, None, Option, Some, ap, arith, false, inl, inr}
use Rattle.std.proofs.Common.{length, nat_eq, not, refl, subst, sym, true}
use Rattle.std.proofs.lemmas.Bool.{eq-eqb, eqb-true}
use Rattle.grammar.specs.Nodes.{Node}
use Rattle.core_program.specs.declared.rows.{NameRow.NameRow, Row.Row}
use Rattle.check_steps.specs.{Breaks.number, declared.breaks.Break.Break, declared.words.SpelledToken.SpelledToken}
use Rattle.check_steps.specs.Known.{Known, find_label, label_at, row_at, with_row}
use Rattle.check_steps.specs.Steps.{◌>>=◌, Step, ask, change, give, look}
use Rattle.statement_checker.specs.Labels.{is_unmarked, levels_in, mark, marked_label, own_label, put_label, row_of}
use Rattle.rule_laws.proofs.{Breaks.Each, Breaks.In, Breaks.of_each, Every.Of, InTurn.Calm, InTurn.Goes, InTurn.Rule, LabelTurns.label_face}
use Rattle.rule_laws.proofs.{StatementLabels.mark-touches, Touches.IsBeside, Touches.Same, Touches.Told, Touches.Touches}
use Rattle.rule_laws.proofs.Faces.{Shown, face, loose, marking, row_either, said}
use Rattle.rule_laws.proofs.LabelMarks.{face_label, got_put, if_told, marks_more, no_row, or_none, or_right, told_by, told_if}
use Rattle.rule_laws.proofs.LabelTold.{Inside, IsWhere, Turn as ToldTurn, Where, inside_same, level_of, no_frames, no_regions}
use Rattle.rule_laws.specs.{BlockLabels.marks, CaseLaws.late_at, Tokens.Has}

-- ---- what is looked at

-- The tables where a block's statements begin, its frame, and a label in front of a statement. A label is declared at a
-- token, at a level, by the block itself or by another one.
pub record Aim : Type 0 where
  pub w : Where
  pub part : Node
  pub d : ℕ
  pub level : ℕ
  pub own : Bool

abbrev pub value_of : Aim → ℕ
value_of p = label_at p.w.k p.w.t

-- it is the one that the label in front of the statement has
pub record Own (p : Aim) : Type 0 where
  pub finds : find_label p.w.k p.w.frame (value_of p) ≡ Some p.d
  pub only : (v : ℕ) → find_label p.w.k p.w.frame v ≡ Some p.d → v ≡ value_of p
  pub level : level_of p.w ≡ p.level

-- it is further out, if it is found at all, and the label in front of a statement is none of this block
pub record Foreign (p : Aim) : Type 0 where
  pub off : Has p.part p.w.t → ⊥
  pub far : (v : ℕ) → find_label p.w.k p.w.frame v ≡ Some p.d → level_of p.w - p.level ≡ 0 → ⊥

pub record IsAim (p : Aim) : Type 0 where
  pub there : IsWhere p.w
  pub beside : IsBeside (Has p.part) p.w.k p.d
  pub mine : p.own ≡ true → Own p
  pub theirs : p.own ≡ false → Foreign p

-- one of the labels that were gone over has its value
abbrev pub hit : Aim → List ℕ → Bool
hit p done = p.own && marks p.w.k done (value_of p)

pub record Turn (p : Aim) (done : List ℕ) (j : Known) : Type 0 where
  pub words : j.words ≡ p.w.k.words
  pub regions : j.regions ≡ p.w.k.regions
  pub sayings : (n : ℕ) → (said (row_at j n) ≡ Row.Nothing) ⊎ (said (row_at j n) ≡ said (row_at p.w.k n))
  pub row : face marking (row_at j p.d) ≡ label_face (hit p done) (value_of p) p.level

pub record Seen (p : Aim) (S : ℕ → Type 0) (done : List ℕ) (j : Known) : Type 0 where
  pub turn : Turn p done j
  pub inside : (g : ℕ) → S g → Inside p.w j g

abbrev pub rule_of : Aim → (ℕ → Type 0) → Rule
rule_of p S = record {
  X = ℕ;
  at = λ x. x;
  Turn = Seen p S;
  Bad = λ done x. hit p done ≡ true;
  t = p.w.t;
  b = late_at 15 p.w.t;
}

-- ---- steps that go over no label

-- where marks of labels are left as they are
abbrev pub unmarking : Shown
unmarking = record { frames = false; marks = true; results = false }

pub face_same : (r : Row) → face unmarking r ≡ face marking r
face_same (Row.Name (NameRow.Label marked value level ways)) = refl
face_same (Row.Name (NameRow.Routine assigned number region)) = refl
face_same (Row.Item i) = refl
face_same r = refl

beside_on : (p : Aim) (j : Known) → j.words ≡ p.w.k.words → IsBeside (Has p.part) p.w.k p.d → IsBeside (Has p.part) j p.d
beside_on p j words h = record { none = h.none; before_end = λ e. h.before_end (e ∙ ap (λ (ws : List SpelledToken). length ws - 1) words) }

said_after : (p : Aim) (j i : Known) → {strict : Shown} → ((n : ℕ) → (said (row_at j n) ≡ Row.Nothing) ⊎ (said (row_at j n) ≡ said (row_at p.w.k n)))
    → Same (Has p.part) strict j i → (n : ℕ) → (said (row_at i n) ≡ Row.Nothing) ⊎ (said (row_at i n) ≡ said (row_at p.w.k n))
said_after p j i before s n = elim (s.sayings n) [
  | inl q ↦ inl q.1
  | inr e ↦ elim (before n) [
    | inl l ↦ inl (e ∙ l)
    | inr r ↦ inr (e ∙ r)
  ]
]

turn_after : (p : Aim) → IsAim p → (done : List ℕ) (j i : Known) → Same (Has p.part) unmarking j i → Turn p done j → Turn p done i
turn_after p is done j i s t = record {
  words = s.words ∙ t.words;
  regions = s.regions ∙ t.regions;
  sayings = said_after p j i t.sayings s;
  row = sym (face_same (row_at i p.d)) ∙ s.rows p.d (beside_on p j t.words is.beside) ∙ face_same (row_at j p.d) ∙ t.row;
}

pub none_told : (p : Aim) (strict : Shown) → strict.marks ≡ true → (bs : List Break) → Each (Told (Has p.part) strict) bs → In (late_at 15 p.w.t) bs → ⊥
none_told p strict quiet bs e i =
    let told = of_each (Told (Has p.part) strict) (late_at 15 p.w.t) bs e i in
    let never : true ≡ false = told.quiet quiet in cc

pub turn_of : (p : Aim) → IsAim p → {A : Type 0} {m : Step A} → Touches (Has p.part) unmarking m → (done : List ℕ) (j : Known) → Turn p done j
    → Turn p done (m j).known
turn_of p is {m = m} touches done j t = turn_after p is done j (m j).known (touches.same j) t

marked_turn : (p : Aim) → IsAim p → (done : List ℕ) (j i : Known) → Same (Has p.part) marking j i → Turn p done j → Turn p done i
marked_turn p is done j i s t = record {
  words = s.words ∙ t.words;
  regions = s.regions ∙ t.regions;
  sayings = said_after p j i t.sayings s;
  row = s.rows p.d (beside_on p j t.words is.beside) ∙ t.row;
}

pub calm_of : (p : Aim) → IsAim p → (S : ℕ → Type 0) → {A : Type 0} {m : Step A} → Touches (Has p.part) marking m → Calm (rule_of p S) m
calm_of p is S {m = m} touches = record {
  turn = λ done j s. record {
    turn = marked_turn p is done j (m j).known (touches.same j) s.turn;
    inside = λ g g-in. inside_same p.w j (m j).known (touches.same j).regions ((touches.same j).still refl) g (s.inside g g-in);
  };
  none = λ j. none_told p marking refl (m j).broken (touches.told j);
}

-- as the least that is told needs it
pub told_turn : (p : Aim) (done : List ℕ) (j : Known) → Turn p done j → ToldTurn p.w false j
told_turn p done j t = record {
  words = t.words;
  regions = t.regions;
  sayings = t.sayings;
  spent = λ e. absurd (let never : false ≡ true = e in cc);
}

-- ---- one label

-- what its step comes to, by the declaration of its own
record Marked (p : Aim) (done : List ℕ) (x : ℕ) (j : Known) (o : Option ℕ) : Type 0 where
  row : face marking (row_at (put_label o (marked_label (row_of j o)) j).known p.d) ≡ label_face (hit p (done ++ x ∷ [])) (value_of p) p.level
  wrong : x ≡ p.w.t → is_unmarked (row_of j o) ≡ false → hit p done ≡ true
  right : x ≡ p.w.t → hit p done ≡ true → is_unmarked (row_of j o) ≡ false

put_other : (j : Known) (o : Option ℕ) (d : ℕ) → (o ≡ Some d → ⊥) → row_at (put_label o (marked_label (row_of j o)) j).known d ≡ row_at j d
unfolding change give
put_other j None d other = refl
put_other j (Some e) d other = elim (row_either j e d (marked_label (row_at j e))) [
  | inl old ↦ old
  | inr new ↦ absurd (other (ap Some (sym new.0)))
]

marked_other : (p : Aim) (done : List ℕ) (x : ℕ) (j : Known) (o : Option ℕ) → Turn p done j → (o ≡ Some p.d → ⊥) → (x ≡ p.w.t → ⊥)
    → hit p (done ++ x ∷ []) ≡ hit p done → Marked p done x j o
marked_other p done x j o t other apart same = record {
  row = ap (face marking) (put_other j o p.d other) ∙ t.row ∙ ap (λ b. label_face b (value_of p) p.level) (sym same);
  wrong = λ e. absurd (apart e);
  right = λ e. absurd (apart e);
}

not_false : (b : Bool) → not b ≡ false → b ≡ true
not_false true e = refl
not_false false e = absurd (let never : true ≡ false = e in cc)

and_right : (a b : Bool) → a ≡ true → (a && b) ≡ b
and_right true b e = refl
and_right false b e = absurd (let never : false ≡ true = e in cc)

and_left : (a b c : Bool) → a ≡ false → (a && b) ≡ (a && c)
and_left false b c e = refl
and_left true b c e = absurd (let never : true ≡ false = e in cc)

-- the label itself
marked_here : (p : Aim) (done : List ℕ) (x : ℕ) (j : Known) → p.own ≡ true → Turn p done j → label_at p.w.k x ≡ value_of p → Marked p done x j (Some p.d)
unfolding change
marked_here p done x j own t same =
    let v = value_of p in
    let d = p.d in
    let row = face_label marking (row_at j d) (hit p done) v p.level t.row in
    let put : row_at (with_row j d (marked_label (row_at j d))) d ≡ marked_label (row_at j d)
    = got_put j.program.rows d (NameRow.Label row.marked v p.level row.ways) (marked_label (row_at j d)) row.is in
    let now : hit p (done ++ x ∷ []) ≡ true = and_right p.own (marks p.w.k (done ++ x ∷ []) v) own ∙ marks_more p.w.k done x v
    ∙ ap (λ b. marks p.w.k done v || b) (eq-eqb (label_at p.w.k x) v same) ∙ or_right (marks p.w.k done v) in
    let fine : is_unmarked (row_at j d) ≡ not (hit p done) = ap is_unmarked row.is ∙ ap not row.as_shown in
    record {
      row = ap (face marking) (put ∙ ap marked_label row.is) ∙ ap (λ b. label_face b v p.level) (sym now);
      wrong = λ e told. not_false (hit p done) (sym fine ∙ told);
      right = λ e again. fine ∙ ap not again;
    }

-- which declaration is its own
abbrev own_of : Known → ℕ → Option ℕ → Option ℕ
own_of j f o = if nat_eq (levels_in j f (row_of j o)) 0 then o else None

if_some : (b : Bool) (o : Option ℕ) (d : ℕ) → (if b then o else None) ≡ Some d → (o ≡ Some d) × (b ≡ true)
if_some true o d e = (e, refl)
if_some false o d e = absurd (let never : None ≡ Some d = e in cc)

-- at a level that is its block's or not
found_level : (p : Aim) (done : List ℕ) (j : Known) (f : ℕ) (o : Option ℕ) → Turn p done j → Inside p.w j f → o ≡ Some p.d
    → levels_in j f (row_of j o) ≡ level_of p.w - p.level
found_level p done j f o t here e =
    let row = face_label marking (row_at j p.d) (hit p done) (value_of p) p.level t.row in
    ap (λ q. levels_in j f (row_of j q)) e ∙ ap (levels_in j f) row.is ∙ ap (λ n. n - p.level) here.level

marked_by : (p : Aim) → IsAim p → (done : List ℕ) (f x : ℕ) (j : Known) → Turn p done j → Inside p.w j f → Of (Has p.part) x → (own : Bool) → p.own ≡ own
    → (same : Bool) → nat_eq (label_at p.w.k x) (value_of p) ≡ same → (o : Option ℕ) → o ≡ find_label p.w.k p.w.frame (label_at p.w.k x)
    → Marked p done x j (own_of j f o)
marked_by p is done f x j t here x-in false e same value o found =
    let foreign = is.theirs e in
    marked_other p done x j (own_of j f o) t
    (λ s.
    let q = if_some (nat_eq (levels_in j f (row_of j o)) 0) o p.d s in
    let level = found_level p done j f o t here q.0 in
    foreign.far (label_at p.w.k x) (sym found ∙ q.0) (sym level ∙ eqb-true (levels_in j f (row_of j o)) 0 q.1))
    (λ at. foreign.off (subst (Has p.part) at x-in.is))
    (and_left p.own (marks p.w.k (done ++ x ∷ []) (value_of p)) (marks p.w.k done (value_of p)) e)
marked_by p is done f x j t here x-in true e false value o found =
    let mine = is.mine e in
    let other : label_at p.w.k x ≡ value_of p → ⊥
    = λ s. (let never : true ≡ false = sym (eq-eqb (label_at p.w.k x) (value_of p) s) ∙ value in cc) in
    marked_other p done x j (own_of j f o) t
    (λ s. let q = if_some (nat_eq (levels_in j f (row_of j o)) 0) o p.d s in other (mine.only (label_at p.w.k x) (sym found ∙ q.0)))
    (λ at. other (ap (label_at p.w.k) at))
    (ap (λ b. p.own && b) (marks_more p.w.k done x (value_of p) ∙ ap (λ b. marks p.w.k done (value_of p) || b) value
    ∙ or_none (marks p.w.k done (value_of p))))
marked_by p is done f x j t here x-in true e true value o found =
    let mine = is.mine e in
    let same : label_at p.w.k x ≡ value_of p = eqb-true (label_at p.w.k x) (value_of p) value in
    let at : o ≡ Some p.d = found ∙ ap (find_label p.w.k p.w.frame) same ∙ mine.finds in
    let level = found_level p done j f o t here at in
    let zero : level_of p.w - p.level ≡ 0 = (let l = mine.level in omega (arith, l)) in
    let own : own_of j f o ≡ Some p.d = ap (λ b. if b then o else None) (eq-eqb (levels_in j f (row_of j o)) 0 (level ∙ zero)) ∙ at in
    subst (Marked p done x j) (sym own) (marked_here p done x j e t same)

pub mark_goes : (p : Aim) → IsAim p → (S : ℕ → Type 0) (f x : ℕ) → S f → Of (Has p.part) x → Goes (rule_of p S) (x ∷ []) (mark f x)
unfolding mark look ◌>>=◌ ask
mark_goes p is S f x f-in x-in = record {
  of = λ done j s.
      let here = s.inside f f-in in
      let o = own_label j f x in
      let put = put_label o (marked_label (row_of j o)) j in
      let ok = is_unmarked (row_of j o) in
      let found : find_label j f (label_at j x) ≡ find_label p.w.k p.w.frame (label_at p.w.k x)
      = ap (λ (ws : List SpelledToken). find_label j f (label_at (record p.w.k { words = ws }) x)) s.turn.words ∙ here.finds (label_at p.w.k x) in
      let m = marked_by p is done f x j s.turn here x-in p.own refl (nat_eq (label_at p.w.k x) (value_of p)) refl
      (find_label j f (label_at j x)) found in
      let same = (mark-touches {Q = Has p.part} {strict = loose} refl f x x-in).same j in
      let b = late_at 15 p.w.t in
      let e = no_row o (marked_label (row_of j o)) j in
      record {
        turn = record {
          turn = record {
            words = same.words ∙ s.turn.words;
            regions = same.regions ∙ s.turn.regions;
            sayings = said_after p j put.known s.turn.sayings same;
            row = m.row;
          };
          inside = λ g g-in. inside_same p.w j put.known (no_regions o (marked_label (row_of j o)) j) (no_frames o (marked_label (row_of j o)) j) g
              (s.inside g g-in);
        };
        forth = λ i.
            let q = told_if x p.w.t ok (subst (λ (bs : List Break). In b (told_by x ok ++ bs)) e i) in
            inl (q.0, m.wrong q.0 q.1);
        back = λ w. elim w [
          | inl v ↦ subst (λ (bs : List Break). In b (told_by x ok ++ bs)) (sym e) (if_told x p.w.t ok v.0 (m.right v.0 v.1))
          | inr n ↦ absurd n
        ];
      };
}
