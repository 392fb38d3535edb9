-- Inside of a with statement labels are found as outside: records declare none.
use Rattle.std.proofs.Common.{◌++◌, ◌<◌, ◌∙◌, ◌∷◌, ◌≡◌, ◌≤◌, ◌⊎◌, [], ℕ, Bool, List, None, Option, Some, ap, arith, false, inl, inr, length, map, refl, subst}
use Rattle.std.proofs.{Common.suc, Common.sym, Common.true, Common.zero, lemmas.Bool.cases_order, lemmas.Option.none-some}
use Rattle.grammar.specs.Nodes.{row}
use Rattle.pas_tree.specs.{ExpressionTrees.AccessTree, StatementTrees.NextAccessTree, TreeNodes.access_node, TreeNodes.next_access_node}
use Rattle.core_program.specs.ProgramRows.{type_in}
use Rattle.check_steps.specs.{Around.reach, Breaks.number, Frames.frame_in, Regions.RegionRows, Regions.declared_in, Regions.or_else}
use Rattle.check_steps.specs.Known.{Known, and_frame, find_label, find_label_from, frame_at, row_at, type_at}
use Rattle.check_steps.specs.Steps.{◌>>=◌, Step, ask, each, extend, give, late, look}
use Rattle.check_steps.specs.declared.{breaks.Break.Break, regions.Frame.Frame}
use Rattle.kind_checker.specs.declared.shapes.ExpressionType.{ExpressionType}
use Rattle.decl_checker.specs.Statements.{fields_in, inside_of, one_more_with, open_fields}
use Rattle.expression_checker.specs.{Expressions.access, Selectors.is_record, Selectors.type_row, declared.typed.Typed.Typed}
use Rattle.statement_checker.specs.{Parts.another_record, Parts.first_record, Records.inside_record, Sequences.add_element}
use Rattle.statement_checker.specs.declared.{parts.Opened.Opened, sequences.Element.Element}
use Rattle.rule_laws.proofs.{Alike.type_said, Breaks.In, Breaks.in_either, Breaks.in_right, Every.Every, Every.Of, ExpressionExpressions.access-touches}
use Rattle.rule_laws.proofs.{Faces.marking, InTurn.Goes, StatementSequences.add_element-touches, Touches.bind-touches, Touches.give-touches}
use Rattle.rule_laws.proofs.LabelTurns.{Inside, IsSpot, Seen, Spot, Still, Turn, label_outermost, rule_of, still_of, wrong_in}
use Rattle.rule_laws.proofs.Outward.{frame_before, frame_last, one_longer}
use Rattle.rule_laws.proofs.StatementStatements.{first_opened, next_opened, record_opened}
use Rattle.rule_laws.specs.{CaseLaws.late_at, Tokens.Has}

-- ---- one more frame

-- a frame after the last of them has none around it
frame_past : (fs : List Frame) (f : ℕ) → length fs ≤ f → reach (frame_in fs f).outer ≤ f
frame_past [] f past = omega arith
frame_past (y ∷ ys) zero past = absurd (omega (arith, past))
frame_past (y ∷ ys) (suc f) past = let on = frame_past ys f (omega (arith, past)) in omega (arith, on)

still_falls : (fs : List Frame) (x : Frame) → ((f : ℕ) → reach (frame_in fs f).outer ≤ f) → reach x.outer ≤ length fs
    → (f : ℕ) → reach (frame_in (fs ++ x ∷ []) f).outer ≤ f
still_falls fs x falls own f = elim (cases_order f (length fs)) [
  | inl e ↦
      let at : frame_in (fs ++ x ∷ []) f ≡ x = ap (frame_in (fs ++ x ∷ [])) e ∙ frame_last fs x in
      let same : reach (frame_in (fs ++ x ∷ []) f).outer ≡ reach x.outer = ap (λ (g : Frame). reach g.outer) at in
      omega (arith, same, own, e)
  | inr o ↦ elim o [
    | inl less ↦
        let same : reach (frame_in (fs ++ x ∷ []) f).outer ≡ reach (frame_in fs f).outer = ap (λ (g : Frame). reach g.outer) (frame_before fs x f less) in
        let before = falls f in
        omega (arith, same, before)
    | inr more ↦ frame_past (fs ++ x ∷ []) f (let l = one_longer fs x in omega (arith, l, more))
  ]
]

-- with one more frame and more turns
finds_further : (j : Known) (x : Frame) (v : ℕ) → ((f : ℕ) → reach (frame_in j.frames f).outer ≤ f) → (n m : ℕ) (at : Option ℕ) → reach at ≤ length j.frames
    → reach at ≤ n → reach at ≤ m → find_label_from n (and_frame j x) at v ≡ find_label_from m j at v
finds_further j x v falls n m None within a b = label_outermost (and_frame j x) n v ∙ sym (label_outermost j m v)
finds_further j x v falls zero m (Some f) within a b = absurd (omega (arith, a))
finds_further j x v falls (suc n) zero (Some f) within a b = absurd (omega (arith, b))
finds_further j x v falls (suc n) (suc m) (Some f) within a b =
    let out : reach (frame_at j f).outer ≤ f = falls f in
    ap (λ (g : Frame). or_else (declared_in j.regions g.region v) (find_label_from n (and_frame j x) g.outer v))
    (frame_before j.frames x f (omega (arith, within)))
    ∙ ap (λ o. or_else (declared_in j.regions (frame_at j f).region v) o)
    (finds_further j x v falls n m (frame_at j f).outer (omega (arith, out, within)) (omega (arith, out, a)) (omega (arith, out, b)))

finds_still : (j : Known) (x : Frame) (f v : ℕ) → ((g : ℕ) → reach (frame_in j.frames g).outer ≤ g) → f < length j.frames
    → find_label (and_frame j x) f v ≡ find_label j f v
finds_still j x f v falls below =
    let l = one_longer j.frames x in
    finds_further j x v falls (length (j.frames ++ x ∷ [])) (length j.frames) (Some f) (omega (arith, below)) (omega (arith, below, l)) (omega (arith, below))

-- ---- a frame of a record's fields

turn_in : (p : Spot) (done : List ℕ) (j : Known) (x : Frame) → Turn p done j → reach x.outer ≤ length j.frames → Turn p done (and_frame j x)
turn_in p done j x t outer = record {
  words = t.words;
  regions = t.regions;
  falls = still_falls j.frames x t.falls outer;
  rows = t.rows;
  sayings = t.sayings;
  labels = t.labels;
}

inside_in : (p : Spot) (done : List ℕ) (j : Known) (x : Frame) → Turn p done j → (g : ℕ) → Inside p j g → Inside p (and_frame j x) g
inside_in p done j x t g h = record {
  below = let l = one_longer j.frames x in let b = h.below in omega (arith, l, b);
  level = ap (λ (f : Frame). f.level) (frame_before j.frames x g h.below) ∙ h.level;
  finds = λ v. finds_still j x g v t.falls h.below ∙ h.finds v;
}

-- the frame itself
inside_new : (p : Spot) (done : List ℕ) (j : Known) (f region withs : ℕ) → Turn p done j → Inside p j f
    → ((v : ℕ) → declared_in j.regions region v ≡ None)
    → Inside p (and_frame j (record { region = region; outer = Some f; level = (frame_at j f).level; withs = withs })) (length j.frames)
inside_new p done j f region withs t here none =
    let x : Frame = record { region = region; outer = Some f; level = (frame_at j f).level; withs = withs } in
    let l = one_longer j.frames x in
    let last = frame_last j.frames x in
    let b = here.below in
    record {
      below = omega (arith, l);
      level = ap (λ (g : Frame). g.level) last ∙ here.level;
      finds = λ v.
          ap (λ n. find_label_from n (and_frame j x) (Some (length j.frames)) v) l
          ∙ ap (λ (g : Frame). or_else (declared_in j.regions g.region v) (find_label_from (length j.frames) (and_frame j x) g.outer v)) last
          ∙ ap (λ o. or_else o (find_label_from (length j.frames) (and_frame j x) (Some f) v)) (none v)
          ∙ finds_further j x v t.falls (length j.frames) (length j.frames) (Some f) (omega (arith, b)) (omega (arith, b)) (omega (arith, b))
          ∙ here.finds v;
    }

-- ---- records

types_before : (p : Spot) (done : List ℕ) (j : Known) → Turn p done j → (n region : ℕ) → fields_in (type_at j n) ≡ Some region
    → fields_in (type_at p.k n) ≡ Some region
types_before p done j t n region e = elim (t.sayings n) [
  | inl nothing ↦
      let none : type_at j n ≡ None = sym (type_said (row_at j n)) ∙ ap type_in nothing in
      absurd (none-some region (sym (ap fields_in none) ∙ e))
  | inr same ↦ ap fields_in (sym (type_said (row_at p.k n)) ∙ sym (ap type_in same) ∙ type_said (row_at j n)) ∙ e
]

no_labels : (p : Spot) → IsSpot p → (done : List ℕ) (j : Known) → Turn p done j → (of' : ExpressionType) (region : ℕ)
    → fields_in (type_row j of') ≡ Some region → (v : ℕ) → declared_in j.regions region v ≡ None
no_labels p is done j t (ExpressionType.Of n) region e v =
    ap (λ (rs : List RegionRows). declared_in rs region v) t.regions ∙ is.records n region v (types_before p done j t n region e)
no_labels p is done j t ExpressionType.Unknown region e v = absurd (none-some region e)
no_labels p is done j t ExpressionType.Nil region e v = absurd (none-some region e)
no_labels p is done j t (ExpressionType.Set host packing) region e v = absurd (none-some region e)
no_labels p is done j t (ExpressionType.Text n) region e v = absurd (none-some region e)

-- what a step that leads into a record leaves
pub record Leads (p : Spot) (done : List ℕ) (j i : Known) (inner : ℕ) (bs : List Break) : Type 0 where
  pub turn : Turn p done i
  pub inside : (g : ℕ) → Inside p j g → Inside p i g
  pub here : Inside p i inner
  pub none : In (late_at 15 p.t) bs → ⊥

leads_by : (p : Spot) (done : List ℕ) (j : Known) (f : ℕ) → Turn p done j → Inside p j f → (o : Option ℕ)
    → ((region : ℕ) → o ≡ Some region → (v : ℕ) → declared_in j.regions region v ≡ None)
    → let d = inside_of f o j in Leads p done j d.known d.value d.broken
unfolding give open_fields look extend ◌>>=◌
leads_by p done j f t here None none = record { turn = t; inside = λ g h. h; here = here; none = λ i. absurd i }
leads_by p done j f t here (Some region) none =
    let w = one_more_with (frame_at j f).withs in
    let x : Frame = record { region = region; outer = Some f; level = (frame_at j f).level; withs = w } in
    let b = here.below in
    record {
      turn = turn_in p done j x t (omega (arith, b));
      inside = inside_in p done j x t;
      here = inside_new p done j f region w t here (none region refl);
      none = λ i. absurd i;
    }

-- rule 23 is told before
asked : (p : Spot) (first : ℕ) (ok : Bool) (j : Known) (bs : List Break) → (In (late_at 15 p.t) bs → ⊥)
    → In (late_at 15 p.t) ((late 23 first ok j).broken ++ bs) → ⊥
unfolding ask
asked p first true j bs none i = none i
asked p first false j bs none i = elim i [
  | inl e ↦ (let other : 23 ≡ 15 = ap (λ (b : Break). number b.broken) e in omega (arith, other))
  | inr r ↦ none r
]

pub record_leads : (p : Spot) → IsSpot p → (done : List ℕ) (j : Known) (f first : ℕ) (v : Typed) → Turn p done j → Inside p j f
    → let d = inside_record f first v j in Leads p done j d.known d.value d.broken
unfolding inside_record look ◌>>=◌ ask
record_leads p is done j f first v t here =
    let o = fields_in (type_row j v.of) in
    let l = leads_by p done j f t here o (λ region e. no_labels p is done j t v.of region e) in
    record {
      turn = l.turn;
      inside = l.inside;
      here = l.here;
      none = asked p first (is_record (type_row j v.of)) j (inside_of f o j).broken l.none;
    }

-- after a calm step
then_leads : (p : Spot) (done : List ℕ) {A : Type 0} {m : Step A} → Still p m → (j i : Known) (inner : ℕ) (bs : List Break) → Turn p done j
    → Leads p done (m j).known i inner bs → Leads p done j i inner ((m j).broken ++ bs)
then_leads p done {m = m} calm j i inner bs t l = record {
  turn = l.turn;
  inside = λ g h. l.inside g (calm.inside done j t g h);
  here = l.here;
  none = λ x. elim (in_either (late_at 15 p.t) (m j).broken bs x) [
    | inl a ↦ calm.none j a
    | inr b ↦ l.none b
  ];
}

leads_then : (p : Spot) (done : List ℕ) {A : Type 0} {m : Step A} → Still p m → (j i : Known) (inner : ℕ) (bs : List Break)
    → Leads p done j i inner bs → Leads p done j (m i).known inner (bs ++ (m i).broken)
leads_then p done {m = m} calm j i inner bs l = record {
  turn = calm.turn done i l.turn;
  inside = λ g h. calm.inside done i l.turn g (l.inside g h);
  here = calm.inside done i l.turn inner l.here;
  none = λ x. elim (in_either (late_at 15 p.t) bs (m i).broken x) [
    | inl a ↦ l.none a
    | inr b ↦ calm.none i b
  ];
}

leads_end : (p : Spot) (done : List ℕ) (j i : Known) (inner : ℕ) (bs : List Break) → Leads p done j i inner bs → Leads p done j i inner (bs ++ [])
leads_end p done j i inner bs l = record {
  turn = l.turn;
  inside = l.inside;
  here = l.here;
  none = λ x. elim (in_either (late_at 15 p.t) bs [] x) [
    | inl a ↦ l.none a
    | inr b ↦ absurd b
  ];
}

leads_join : (p : Spot) (done : List ℕ) (j i h : Known) (one two : ℕ) (xs ys : List Break) → Leads p done j i one xs → Leads p done i h two ys
    → Leads p done j h two (xs ++ ys)
leads_join p done j i h one two xs ys a b = record {
  turn = b.turn;
  inside = λ g q. b.inside g (a.inside g q);
  here = b.here;
  none = λ x. elim (in_either (late_at 15 p.t) xs ys x) [
    | inl l ↦ a.none l
    | inr r ↦ b.none r
  ];
}

-- ---- the records of a with statement

first_leads : (p : Spot) → IsSpot p → (done : List ℕ) (j : Known) (f word : ℕ) (a : AccessTree) → Turn p done j → Inside p j f
    → Every (Has p.part) (access_node a) → let d = first_record f word a j in Leads p done j d.known d.value.frame d.broken
unfolding first_record ◌>>=◌ give
first_leads p is done j f word a t here inside =
    let calm = still_of p is (access-touches {strict = marking} f a inside) in
    let v = access f a j in
    let d = inside_record f a.name v.value v.known in
    then_leads p done calm j d.known d.value (d.broken ++ []) t
    (leads_end p done v.known d.known d.value d.broken
    (record_leads p is done v.known f a.name v.value (calm.turn done j t) (calm.inside done j t f here)))

abbrev opened : ℕ → Element → Opened
opened frame last = record { frame = frame; last = last }

next_leads : (p : Spot) → IsSpot p → (done : List ℕ) (j : Known) (o : Opened) (n : NextAccessTree) → Turn p done j → Inside p j o.frame
    → Of (Has p.part) o.last.slot → Every (Has p.part) (next_access_node n)
    → let d = another_record o n j in Leads p done j d.known d.value.frame d.broken
unfolding another_record ◌>>=◌ give
next_leads p is done j o n t here slot inside =
    let calm = still_of p is (access-touches {strict = marking} o.frame n.access inside.1) in
    let v = access o.frame n.access j in
    let d = inside_record o.frame n.access.name v.value v.known in
    let added : Still p (add_element o.last n.comma v.value.row >>= λ last. give (opened d.value last)) =
    still_of p is (bind-touches (add_element-touches {strict = marking} o.last n.comma v.value.row slot) (λ last. give-touches (opened d.value last))) in
    let e = add_element o.last n.comma v.value.row d.known in
    then_leads p done calm j e.known d.value (d.broken ++ (e.broken ++ [])) t
    (leads_then p done added v.known d.known d.value d.broken
    (record_leads p is done v.known o.frame n.access.name v.value (calm.turn done j t) (calm.inside done j t o.frame here)))

each_leads : (p : Spot) → IsSpot p → (done : List ℕ) (j : Known) (o : Opened) (ns : List NextAccessTree) → Turn p done j → Inside p j o.frame
    → Of (Has p.part) o.last.slot → Every (Has p.part) (row (map next_access_node ns))
    → let d = each another_record o ns j in Leads p done j d.known d.value.frame d.broken
unfolding ◌>>=◌ give
each_leads p is done j o [] t here slot inside = record { turn = t; inside = λ g h. h; here = here; none = λ i. absurd i }
each_leads p is done j o (n ∷ ns) t here slot inside =
    let d = another_record o n j in
    let one = next_leads p is done j o n t here slot inside.0 in
    let e = each another_record d.value ns d.known in
    let two = each_leads p is done d.known d.value ns one.turn one.here (record_opened o n inside.0.0 j) inside.1 in
    leads_join p done j d.known e.known d.value.frame e.value.frame d.broken e.broken one two

-- a with statement goes over the labels inside of it
pub with_marks : (p : Spot) → IsSpot p → (S : ℕ → Type 0) (f word : ℕ) (a : AccessTree) (ns : List NextAccessTree) (xs : List ℕ) (r : Opened → Step ℕ) → S f
    → Of (Has p.part) word → Every (Has p.part) (access_node a) → Every (Has p.part) (row (map next_access_node ns))
    → ((o : Opened) → Of (Has p.part) o.last.slot → Goes (rule_of p (λ g. S g ⊎ (g ≡ o.frame))) xs (r o))
    → Goes (rule_of p S) xs (first_record f word a >>= λ one. each another_record one ns >>= r)
unfolding ◌>>=◌
with_marks p is S f word a ns xs r f-in word-in a-in ns-in rest = record {
  of = λ done j s.
      let b = late_at 15 p.t in
      let d = first_record f word a j in
      let one = first_leads p is done j f word a s.turn (s.inside f f-in) a-in in
      let e = each another_record d.value ns d.known in
      let slot = first_opened f word a word-in j in
      let two = each_leads p is done d.known d.value ns one.turn one.here slot ns-in in
      let R : ℕ → Type 0 = λ g. S g ⊎ (g ≡ e.value.frame) in
      let seen : Seen p R done e.known = record {
        turn = two.turn;
        inside = λ g g-in. elim g-in [
          | inl old ↦ two.inside g (one.inside g (s.inside g old))
          | inr new ↦ subst (Inside p e.known) (sym new) two.here
        ];
      } in
      let g = r e.value e.known in
      let ends = (rest e.value (next_opened d.value ns slot ns-in d.known)).of done e.known seen in
      record {
        turn = record { turn = ends.turn.turn; inside = λ q q-in. ends.turn.inside q (inl q-in) };
        forth = λ i. elim (in_either b d.broken (e.broken ++ g.broken) i) [
          | inl l ↦ absurd (one.none l)
          | inr l ↦ elim (in_either b e.broken g.broken l) [
            | inl m ↦ absurd (two.none m)
            | inr m ↦ wrong_in p R S done xs (ends.forth m)
          ]
        ];
        back = λ w. in_right b d.broken (e.broken ++ g.broken) (in_right b e.broken g.broken (ends.back (wrong_in p S R done xs w)));
      };
}
