-- Which labels of a label part break rule 2.
use Rattle.std.proofs.Common.{if◌then◌else◌, ◌++◌, ◌<◌, ◌||◌, ◌∙◌, ◌∷◌, ◌≡◌, [], ℕ, Bool, List, None, Option, Some, ap, arith, cond, false, inl, inr, is_none}
use Rattle.std.proofs.Common.{is_some, length, length-set, map, nat_eq, nat_le, refl, subst, sym, true}
use Rattle.std.{proofs.lemmas.Bool.eqb-true, proofs.lemmas.List.append_assoc, specs.List.list_any, specs.Map.lookup}
use Rattle.pas_tree.specs.{BlockTrees.LabelPartTree, declared.blocks.NextLabel.NextLabel}
use Rattle.check_steps.specs.{Breaks.number, Known.Known, Known.and_label, Known.label_at, Names.declare_in}
use Rattle.check_steps.specs.Regions.{RegionRows, declared_in, or_else, region_at}
use Rattle.check_steps.specs.Steps.{◌>>=◌, add_label, ask, change, each, give, look, when}
use Rattle.check_steps.specs.declared.{breaks.Break.Break, regions.Frame.Frame, words.SpelledToken.SpelledToken}
use Rattle.decl_checker.specs.Labels.{define_label, define_labels, define_next_label}
use Rattle.rule_laws.proofs.{NameTurns.or_none, Tables.lookup-last, Tables.region-set, Touches.any-last}
use Rattle.rule_laws.proofs.Breaks.{In, contained, found, in_either, in_left, in_right}
use Rattle.rule_laws.proofs.InTurn.{Goes, Rule, Wrong, goes_nowhere, goes_then, one_wrong, wrong_one}
use Rattle.rule_laws.specs.{Laws.broken_at, NameLaws.LabelPartsTellLabels, NameLaws.is_declared, RegionNames.label_token, RegionNames.labels_of}

-- the label part that is gone over from tables on, and the label that is looked at
record LabelPartOf : Type 0 where
  k : Known
  here : Frame
  t : ℕ

abbrev valued : Known → List ℕ → ℕ → Bool
valued k xs v = list_any (λ y. nat_eq v (label_at k y)) xs

record Turn (p : LabelPartOf) (done : List ℕ) (j : Known) : Type 0 where
  words : j.words ≡ p.k.words
  there : p.here.region < length j.regions
  labels : (v : ℕ) → is_some (declared_in j.regions p.here.region v) ≡ (is_some (declared_in p.k.regions p.here.region v) || valued p.k done v)

abbrev rule_two : LabelPartOf → Rule
rule_two p = record {
  X = ℕ;
  at = λ x. x;
  Turn = Turn p;
  Bad = λ done x. is_declared p.k p.here.region done x ≡ true;
  t = p.t;
  b = broken_at 2 p.t;
}

spelled_same : (k j : Known) (x : ℕ) → j.words ≡ k.words → label_at j x ≡ label_at k x
spelled_same k j x words = ap (λ (ws : List SpelledToken). label_at (record k { words = ws }) x) words

pub declared_more : (k : Known) (region value v token : ℕ) → region < length k.regions
    → declared_in (and_label k region value token).regions region v
    ≡ or_else (declared_in k.regions region v) (cond (nat_eq v value) (Some token) None)
declared_more k region value v token below =
    let rows = region_at k.regions region in
    ap (λ (r : RegionRows). lookup (nat_eq v) r.labels)
    (region-set k.regions region (record rows { labels = rows.labels ++ (value, token) ∷ [] }) below)
    ∙ lookup-last v value rows.labels token

or_assoc : (a b c : Bool) → ((a || b) || c) ≡ (a || (b || c))
or_assoc true b c = refl
or_assoc false b c = refl

or_last : (a b : Bool) → (a || (b || true)) ≡ true
or_last true b = refl
or_last false true = refl
or_last false false = refl

some_more : (o : Option ℕ) (b : Bool) (token : ℕ) → is_some (or_else o (cond b (Some token) None)) ≡ (is_some o || b)
some_more (Some x) b token = refl
some_more None true token = refl
some_more None false token = refl

valued_more : (k : Known) (done : List ℕ) (x v : ℕ) → valued k (done ++ x ∷ []) v ≡ (valued k done v || nat_eq v (label_at k x))
valued_more k done x v = any-last (λ y. nat_eq v (label_at k y)) done x

again_valued : (p : LabelPartOf) (done : List ℕ) (x v : ℕ) (b : Bool) → nat_eq v (label_at p.k x) ≡ b
    → (is_some (declared_in p.k.regions p.here.region (label_at p.k x)) || valued p.k done (label_at p.k x)) ≡ true
    → (is_some (declared_in p.k.regions p.here.region v) || valued p.k done v)
    ≡ (is_some (declared_in p.k.regions p.here.region v) || (valued p.k done v || b))
again_valued p done x v true e there =
    ap (λ m. is_some (declared_in p.k.regions p.here.region m) || valued p.k done m) (eqb-true v (label_at p.k x) e) ∙ there
    ∙ sym (or_last (is_some (declared_in p.k.regions p.here.region v)) (valued p.k done v))
again_valued p done x v false e there = ap (λ b. is_some (declared_in p.k.regions p.here.region v) || b) (sym (or_none (valued p.k done v)))

-- ---- one label

record Declared (p : LabelPartOf) (done : List ℕ) (x : ℕ) (j : Known) (o : Option ℕ) : Type 0 where
  turn : Turn p (done ++ x ∷ []) (when (is_none o) (add_label p.here.region (label_at j x) x) j).known

declared_by : (p : LabelPartOf) (done : List ℕ) (x : ℕ) (j : Known) → Turn p done j → (o : Option ℕ) → declared_in j.regions p.here.region (label_at j x) ≡ o
    → Declared p done x j o
unfolding when change give
declared_by p done x j t None e =
    let region = p.here.region in
    let value = label_at j x in
    let same = spelled_same p.k j x t.words in
    let rows = region_at j.regions region in
    let more = record rows { labels = rows.labels ++ (value, x) ∷ [] } in
    record {
      turn = record {
        words = t.words;
        there = subst (λ size. region < size) (sym (length-set j.regions region more)) t.there;
        labels = λ v.
            ap is_some (declared_more j region value v x t.there)
            ∙ some_more (declared_in j.regions region v) (nat_eq v value) x
            ∙ ap (λ b. b || nat_eq v value) (t.labels v)
            ∙ ap (λ m. (is_some (declared_in p.k.regions region v) || valued p.k done v) || nat_eq v m) same
            ∙ or_assoc (is_some (declared_in p.k.regions region v)) (valued p.k done v) (nat_eq v (label_at p.k x))
            ∙ ap (λ b. is_some (declared_in p.k.regions region v) || b) (sym (valued_more p.k done x v));
      };
    }
declared_by p done x j t (Some y) e =
    let region = p.here.region in
    let same = spelled_same p.k j x t.words in
    let there : (is_some (declared_in p.k.regions region (label_at p.k x)) || valued p.k done (label_at p.k x)) ≡ true
    = sym (t.labels (label_at p.k x)) ∙ ap (λ m. is_some (declared_in j.regions region m)) (sym same) ∙ ap is_some e in
    record {
      turn = record {
        words = t.words;
        there = t.there;
        labels = λ v. t.labels v ∙ again_valued p done x v (nat_eq v (label_at p.k x)) refl there
            ∙ ap (λ b. is_some (declared_in p.k.regions region v) || b) (sym (valued_more p.k done x v));
      };
    }

told_if : (x t : ℕ) (o : Option ℕ) → In (broken_at 2 t) (if is_none o then [] else broken_at 2 x ∷ []) → (x ≡ t) × (is_some o ≡ true)
told_if x t None i = absurd i
told_if x t (Some d) i = elim i [
  | inl e ↦ (ap (λ (b : Break). b.token) e, refl)
  | inr n ↦ absurd n
]

if_told : (x t : ℕ) (o : Option ℕ) → x ≡ t → is_some o ≡ true → In (broken_at 2 t) (if is_none o then [] else broken_at 2 x ∷ [])
if_told x t None e there = absurd (let never : false ≡ true = there in cc)
if_told x t (Some d) e there = inl (ap (λ n. broken_at 2 n) e)

-- what follows tells nothing
after_none : (b : Break) (xs ys : List Break) → ys ≡ [] → In b (xs ++ ys) → In b xs
after_none b xs ys none i = elim (in_either b xs ys i) [
  | inl l ↦ l
  | inr r ↦ absurd (subst (λ (l : List Break). In b l) none r)
]

no_more : (b : Bool) (region value token : ℕ) (j : Known) → (when b (add_label region value token) j).broken ≡ []
unfolding when change give
no_more true region value token j = refl
no_more false region value token j = refl

-- rule 14 is another
not_large : (x t : ℕ) (ok : Bool) → In (broken_at 2 t) (if ok then [] else broken_at 14 x ∷ []) → ⊥
not_large x t true i = absurd i
not_large x t false i = elim i [
  | inl e ↦ (let other : 14 ≡ 2 = ap (λ (b : Break). number b.broken) e in omega (arith, other))
  | inr n ↦ absurd n
]

label_goes : (p : LabelPartOf) (x : ℕ) → Goes (rule_two p) (x ∷ []) (define_label p.here x)
unfolding define_label declare_in look ◌>>=◌ ask change
label_goes p x = record {
  of = λ done j t.
      let region = p.here.region in
      let value = label_at j x in
      let o = declared_in j.regions region value in
      let same = spelled_same p.k j x t.words in
      let b = broken_at 2 p.t in
      let large = if nat_le value 9999 then [] else broken_at 14 x ∷ [] in
      let own = if is_none o then [] else broken_at 2 x ∷ [] in
      let rest = (when (is_none o) (add_label region value x) j).broken in
      let more = no_more (is_none o) region value x j in
      let is : is_some o ≡ is_declared p.k region done x = ap (λ m. is_some (declared_in j.regions region m)) same ∙ t.labels (label_at p.k x) in
      let d = (declared_by p done x j t o refl).turn in
      record {
        turn = record { words = d.words; there = d.there; labels = d.labels };
        forth = λ i. elim (in_either b large ((own ++ rest) ++ []) i) [
          | inl l ↦ absurd (not_large x p.t (nat_le value 9999) l)
          | inr r ↦ (let q = told_if x p.t o (after_none b own rest more (after_none b (own ++ rest) [] refl r)) in inl (q.0, sym is ∙ q.1))
        ];
        back = λ w. elim w [
          | inl v ↦ in_right b large ((own ++ rest) ++ []) (in_left b (own ++ rest) [] (in_left b own rest (if_told x p.t o v.0 (is ∙ v.1))))
          | inr n ↦ absurd n
        ];
      };
}

-- ---- a label part

next_go : (p : LabelPartOf) (ns : List NextLabel) → Goes (rule_two p) (map label_token ns) (each (define_next_label p.here) tt ns)
unfolding define_next_label
next_go p [] = goes_nowhere tt
next_go p (n ∷ ns) = goes_then (n.number ∷ []) (map label_token ns) (label_goes p n.number) (λ _. next_go p ns)

part_goes : (p : LabelPartOf) (c : Option LabelPartTree) → Goes (rule_two p) (labels_of c) (define_labels p.here c)
part_goes p None = goes_nowhere tt
part_goes p (Some c) = goes_then (c.first ∷ []) (map label_token c.others) (label_goes p c.first) (λ _. next_go p c.others)

pub label_part_law : LabelPartsTellLabels
label_part_law k here part before label after below same one =
    let p : LabelPartOf = record { k = k; here = here; t = label } in
    let begun : Turn p [] k = record { words = refl; there = below; labels = λ v. sym (or_none (is_some (declared_in k.regions here.region v))) } in
    let ends = (part_goes p part).of [] k begun in
    let bs = (define_labels here part k).broken in
    let b = broken_at 2 label in (
      (λ c. wrong_one (rule_two p) [] before label after one.others_before one.others_after
          (subst (λ (l : List ℕ). Wrong (rule_two p) [] l) same (ends.forth (found b bs c)))),
      (λ w. contained b bs (ends.back (subst (λ (l : List ℕ). Wrong (rule_two p) [] l) (sym same)
          (one_wrong (rule_two p) [] before label after refl w)))),
    )

or_true : (b : Bool) → (b || true) ≡ true
or_true true = refl
or_true false = refl

-- a label that one before it is equal to
pub labels_told : (k : Known) (here : Frame) (part : Option LabelPartTree) (before : List ℕ) (label : ℕ) (after : List ℕ) → here.region < length k.regions
    → labels_of part ≡ before ++ label ∷ after → list_any (λ y. nat_eq (label_at k label) (label_at k y)) before ≡ true
    → In (broken_at 2 label) (define_labels here part k).broken
labels_told k here part before label after below same second =
    let p : LabelPartOf = record { k = k; here = here; t = label } in
    let begun : Turn p [] k = record { words = refl; there = below; labels = λ v. sym (or_none (is_some (declared_in k.regions here.region v))) } in
    let ends = (part_goes p part).of [] k begun in
    let bad = ap (λ b. is_some (declared_in k.regions here.region (label_at k label)) || b) second
    ∙ or_true (is_some (declared_in k.regions here.region (label_at k label))) in
    ends.back (subst (λ (l : List ℕ). Wrong (rule_two p) [] l) (sym same) (one_wrong (rule_two p) [] before label after refl bad))

-- a label that is told of, at its place
pub record SecondLabel (k : Known) (region : ℕ) (labels : List ℕ) (token : ℕ) : Type 0 where
  pub before : List ℕ
  pub after : List ℕ
  pub is : labels ≡ before ++ token ∷ after
  pub again : is_declared k region before token ≡ true

pub second_label : (k : Known) (here : Frame) (part : Option LabelPartTree) (token : ℕ) → here.region < length k.regions
    → In (broken_at 2 token) (define_labels here part k).broken → SecondLabel k here.region (labels_of part) token
second_label k here part token below told =
    let p : LabelPartOf = record { k = k; here = here; t = token } in
    let begun : Turn p [] k = record { words = refl; there = below; labels = λ v. sym (or_none (is_some (declared_in k.regions here.region v))) } in
    split p [] (labels_of part) (((part_goes p part).of [] k begun).forth told)
  where
    split : (p : LabelPartOf) (done xs : List ℕ) → Wrong (rule_two p) done xs → SecondLabel p.k p.here.region (done ++ xs) p.t
    split p done [] w = absurd w
    split p done (x ∷ xs) w = elim w [
      | inl own ↦
          record {
            before = done;
            after = xs;
            is = ap (λ y. done ++ y ∷ xs) own.0;
            again = ap (λ y. is_declared p.k p.here.region done y) (sym own.0) ∙ own.1;
          }
      | inr later ↦
          subst (λ (l : List ℕ). SecondLabel p.k p.here.region l p.t) (append_assoc done (x ∷ []) xs) (split p (done ++ x ∷ []) xs later)
    ]
