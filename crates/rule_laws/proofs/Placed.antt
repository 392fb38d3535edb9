-- Where the statements of a text begin: the rows of its procedures and functions, and the labels of their blocks.
use Rattle.std.proofs.Common.{◌++◌, ◌<◌, ◌∙◌, ◌∷◌, ◌≡◌, [], ℕ, List, None, Option, Some, ap, arith, false, inl, inr, length, map, nat_eq, refl, slice_get}
use Rattle.std.{proofs.Common.subst, proofs.Common.sym, proofs.Common.true, proofs.lemmas.List.append_assoc, proofs.lemmas.Option.none-some, specs.Map.lookup}
use Rattle.grammar.specs.Nodes.{Node, Pair}
use Rattle.pas_tree.specs.{HeadingPlaces.heading_name, HeadingTrees.HeadingTree, StatementTrees.CompoundTree, TreeNodes.variable_part_node}
use Rattle.pas_tree.specs.BlockTrees.{BlockTree, ConstantPartTree, LabelPartTree, RoutineTree, RoutineTrees, TypePartTree, VariablePartTree, routine_body}
use Rattle.pas_tree.specs.BlockTrees as tree
use Rattle.pas_tree.specs.StatementPlaces.{compound_word}
use Rattle.pas_tree.specs.TreeNodes.{block_node, compound_node, constant_part_node, heading_node, label_part_node, routine_node, routines_node, type_part_node}
use Rattle.core_program.specs.declared.rows.{NameRow.NameRow, PartRow.PartRow, Row.Row}
use Rattle.check_steps.specs.{Regions.RegionRows, Regions.declared_in, Regions.fresh_region, declared.regions.Frame.Frame}
use Rattle.check_steps.specs.Known.{Known, and_region, and_routine, frame_at, label_at, row_at}
use Rattle.check_steps.specs.Steps.{◌>>=◌, Step, change, extend, give, look}
use Rattle.denoter_checker.specs.{Formals.define_formals_at, Headings.signature, RoutineParts.block_in, RoutineParts.completion_of, RoutineParts.routine_name}
use Rattle.decl_checker.specs.{Routines.routine, Routines.routines_in, Statements.compound_uses, declared.routines.Entered.Entered}
use Rattle.decl_checker.specs.Blocks.{define_block, parts, put_body, word_after}
use Rattle.decl_checker.specs.Routines.{add_heading, block, define_inside, enter_at, enter_heading, first_heading, heading_row, one_deeper, open_routine}
use Rattle.rule_laws.proofs.{Calm.Calm, Calm.CalmPart, Chains.labels_have, Every.Every, Faces.row_either, Lasting.Declaring, Lasting.Lasting}
use Rattle.rule_laws.proofs.{LastsBlocks.parts-lasts, LastsBlocks.put_body-lasts, LastsFormals.define_formals_at-lasts, LastsHeadings.signature-lasts}
use Rattle.rule_laws.proofs.{LastsRoutines.after_completion, LastsRoutines.define_inside-lasts, LastsStatements.compound_uses-lasts, Laters.Later}
use Rattle.rule_laws.proofs.{Laters.kept_then, Leaves.Leaves, Leaves.bind-leaves, Leaves.is_fast, LeavesHeadings.signature-leaves, LeavesRoutines.EveryBy}
use Rattle.rule_laws.proofs.{LeavesRoutines.after_completion-leaves, LeavesStatements.compound_uses-leaves, Listed.Listed, Once.every_other, Paired.paired}
use Rattle.rule_laws.proofs.{PartTurns.Orderly, PartTurns.orderly_lasts, Regions.last_region, Seats.Seat, Seats.Seats, Seats.SeatsIn, Settled.Off}
use Rattle.rule_laws.proofs.{Settled.every_off, Tables.row_put, TextFields.Any, TextForwards.both_all, TextForwards.both_last, TextForwards.name_has}
use Rattle.rule_laws.proofs.{TextHeadings.IsOfText, TextScopes.Any_law, TextScopes.Any_told, TextScopes.any_teller}
use Rattle.rule_laws.proofs.LeavesBlocks.{constants-leaves, parts-leaves, put_body-leaves, types-leaves, variables-leaves}
use Rattle.rule_laws.proofs.MatedWalk.{PartText, choose, completing_row, enter, ground, no_split, none_first, parts_laid, routine_walks}
use Rattle.rule_laws.proofs.OwnLabels.{Base, But, Own, block_own, declares_lasts}
use Rattle.rule_laws.proofs.PartWalk.{Stated, completed_by_none, heading_stays, not_second, routine_keeps, routine_stated}
use Rattle.rule_laws.proofs.Sinces.{Homed, Since, block-since, homed_all, homed_start, routines_in-since, since_lasts, since_start}
use Rattle.rule_laws.proofs.Standing.{Stands, got_still, opened_lasts, standing, stands_at}
use Rattle.rule_laws.proofs.Walking.{IsLaid, Walking, begin_walking, behind_off, go_on}
use Rattle.rule_laws.specs.{NameLaws.block_labels, NameLaws.block_routines, TextLaws.labels_in_body, Tokens.Has, Tokens.IsDistinct}
use Rattle.rule_laws.specs.ForwardHeadings.{is_block, is_second, routines_in as listed}
use Rattle.rule_laws.specs.TextParts.{OfEach, OfEachAfter, OfRoutine, OfRoutineAfter, OfRoutines, OfRoutinesAfter}

-- ---- a text, where it is gone over

-- what is known of a part, all of it and what is left
record At (k : Known) (t : BlockTree) (rs : RoutineTrees) (before : List RoutineTree) (part : RoutineTrees) (j : Known) : Type 1 where
  text : PartText k t rs
  one : listed rs ≡ before ++ listed part
  all : OfEach (IsOfText k t) part
  seats : SeatsIn t before part
  calm : CalmPart t part
  orderly : Orderly k t j
  walking : Walking k t Any_told Any_law (listed rs) (listed part) j

pub record AtBlock (k : Known) (t : BlockTree) (b : BlockTree) (j : Known) : Type 1 where
  pub all : OfRoutines (IsOfText k t) b
  pub seats : Seats t b
  pub calm : Calm t b
  pub stated : Stated k t b
  pub laid : IsLaid k t Any_told (block_routines b) j
  pub orderly : Orderly k t j

abbrev after_parts : (frame number place : ℕ) (labels : Option LabelPartTree) (consts : Option ConstantPartTree) (kinds : Option TypePartTree)
    (vars : Option VariablePartTree) (routines : RoutineTrees) (body : CompoundTree) → Known → Known
after_parts frame number place labels consts kinds vars routines body j =
    let d = parts frame place (tree.a_block labels consts kinds vars routines body) j in (put_body number d.value (compound_word body) d.known).known

at_part : (k : Known) (t : BlockTree) (frame number place : ℕ) (labels : Option LabelPartTree) (consts : Option ConstantPartTree) (kinds : Option TypePartTree)
    (vars : Option VariablePartTree) (routines : RoutineTrees) (body : CompoundTree) (j : Known)
    → AtBlock k t (tree.a_block labels consts kinds vars routines body) j
    → At k t routines [] routines (after_parts frame number place labels consts kinds vars routines body j)
at_part k t frame number place labels consts kinds vars routines body j x =
    let b = tree.a_block labels consts kinds vars routines body in
    let d = parts frame place b j in
    let e = put_body number d.value (compound_word body) d.known in
    record {
      text = record { all = x.all; seats = x.seats; calm = x.calm.1; distinct = x.calm.0.distinct };
      one = refl;
      all = x.all;
      seats = x.seats;
      calm = x.calm.1;
      orderly = (put_body-lasts (orderly_lasts k t) number d.value (compound_word body)).of d.known
          ((parts-lasts (orderly_lasts k t) frame place b).of j x.orderly);
      walking = begin_walking k t Any_told Any_law (listed routines) e.known
          (parts_laid k t Any_told frame number place b j x.calm x.stated x.laid);
    }

at_next : (k : Known) (t : BlockTree) (frame : ℕ) (before : List RoutineTree) (rs : RoutineTrees) (r : RoutineTree) (rest : RoutineTrees) (j : Known)
    → At k t rs before (tree.more_routines r rest) j → At k t rs (before ++ r ∷ []) rest (routine frame rs r j).known
at_next k t frame before rs r rest j x =
    let passed = routine_walks k t Any_told Any_law (any_teller k t) frame before rs r (listed rest) j x.text x.one x.all.0 x.seats.0 x.calm.0 x.orderly
    x.walking (λ y has. tt) in
    record {
      text = x.text;
      one = x.one ∙ sym (append_assoc before (r ∷ []) (listed rest));
      all = x.all.1;
      seats = x.seats.1;
      calm = x.calm.1;
      orderly = (routine_keeps k t frame before rs r x.text.all x.text.seats x.all.0 x.seats.0).of j x.orderly;
      walking = go_on k t Any_told Any_law rs before r (listed rest) passed.o j (routine frame rs r j).known
          (ground k t rs before r (listed rest) x.text x.one) x.walking passed.passed;
    }

at_body : (k : Known) (t : BlockTree) (frame : ℕ) (before : List RoutineTree) (rs : RoutineTrees) (heading : HeadingTree) (semicolon : ℕ) (b : BlockTree)
    (last : ℕ) (rest : RoutineTrees) (j : Known) → let r = tree.a_routine heading semicolon (tree.a_block_body b) last in
    At k t rs before (tree.more_routines r rest) j → AtBlock k t b (enter_heading frame rs r j).known
at_body k t frame before rs heading semicolon b last rest j x =
    let r = tree.a_routine heading semicolon (tree.a_block_body b) last in
    let st = routine_stated k t before r x.all.0 x.seats.0 in
    let i = enter k t Any_told Any_law (any_teller k t) frame rs before r (listed rest) j x.text x.one x.orderly x.walking (λ y has. tt) in
    record {
      all = x.all.0.1;
      seats = x.seats.0.1;
      calm = x.calm.0.1;
      stated = st.body;
      laid = i.laid;
      orderly = (heading_stays k t frame before rs r x.text.all x.text.seats st).of j x.orderly;
    }

-- ---- rows that stay

-- Rows at other tokens stay.
abbrev Rests : (ℕ → Type 0) → Known → Known → Type 0
Rests Q j i = (n : ℕ) → (Q n → ⊥) → is_fast (row_at j n) ≡ true → row_at i n ≡ row_at j n

rests_of : {Q : ℕ → Type 0} {A : Type 0} {m : Step A} → Leaves Q m → (j : Known) → Rests Q j (m j).known
rests_of h j n off fast = h.of j n (λ o. off o.is) fast

rests_then : (Q : ℕ → Type 0) (j i f : Known) → Rests Q j i → Rests Q i f → Rests Q j f
rests_then Q j i f one two n off fast = let e = one n off fast in two n off (ap is_fast e ∙ fast) ∙ e

record After (rest : List RoutineTree) (r : RoutineTree) : Type 0 where
  earlier : List RoutineTree
  later : List RoutineTree
  one : rest ≡ earlier ++ r ∷ later

-- one comes after another whose name stands before it
after_name : (before : List RoutineTree) (r : RoutineTree) (rest earlier : List RoutineTree) (other : RoutineTree) (later : List RoutineTree)
    → before ++ r ∷ rest ≡ earlier ++ other ∷ later → Listed (map routine_name earlier) (routine_name r)
    → (Listed (map routine_name before) (routine_name r) → ⊥) → After rest other
after_name [] r rest [] other later e h never = absurd h
after_name [] r rest (y ∷ ys) other later e h never = let more : rest ≡ ys ++ other ∷ later = cc in record { earlier = ys; later = later; one = more }
after_name (b ∷ bs) r rest [] other later e h never = absurd h
after_name (b ∷ bs) r rest (y ∷ ys) other later e (inl own) never = let same : b ≡ y = cc in absurd (never (inl (ap routine_name same ∙ own)))
after_name (b ∷ bs) r rest (y ∷ ys) other later e (inr h) never =
    let more : bs ++ r ∷ rest ≡ ys ++ other ∷ later = cc in after_name bs r rest ys other later more h (λ i. never (inr i))

every_after : (Q : ℕ → Type 0) (rest : RoutineTrees) (earlier : List RoutineTree) (other : RoutineTree) (later : List RoutineTree)
    → listed rest ≡ earlier ++ other ∷ later → Every Q (routines_node rest) → Every Q (routine_node other)
every_after Q tree.end_of_routines earlier other later e h = absurd (no_split earlier other later e)
every_after Q (tree.more_routines q rest) [] other later e h = let same : q ≡ other = cc in subst (λ s. Every Q (routine_node s)) same h.0
every_after Q (tree.more_routines q rest) (y ∷ ys) other later e h =
    let more : listed rest ≡ ys ++ other ∷ later = cc in every_after Q rest ys other later more h.1

every_by : (Q : ℕ → Type 0) (o : Option RoutineTree) → ((other : RoutineTree) → o ≡ Some other → Every Q (routine_node other)) → EveryBy Q o
every_by Q None all = tt
every_by Q (Some (tree.a_routine heading semicolon body last)) all =
    (all (tree.a_routine heading semicolon body last) refl).1.1.0

enter_rests : (k : Known) (t : BlockTree) (Q : ℕ → Type 0) (frame : ℕ) (before : List RoutineTree) (rs : RoutineTrees) (r : RoutineTree)
    (rest : RoutineTrees) (j : Known) → At k t rs before (tree.more_routines r rest) j → Every Q (routine_node r) → Every Q (routines_node rest)
    → Rests Q j (enter_heading frame rs r j).known
unfolding enter_heading first_heading look ◌>>=◌
enter_rests k t Q frame before rs r rest j x r-in rest-in =
    let row = row_at j (routine_name r) in
    let X : Option ℕ → Type 0 = λ q. Rests Q j (enter_at q frame rs r j).known in
    let g = ground k t rs before r (listed rest) x.text x.one in
    elim (x.walking.ahead before r (listed rest) x.one (inl refl)) [
      | inr opened ↦ subst X (sym (completing_row row opened.first opened.row)) (λ n off fast. refl)
      | inl new ↦
          let never : (first : ℕ) → paired row ≡ Row.Part (PartRow.Completing first) → ⊥ = λ first e.
          let y = new.mate first e in
          behind_off k t rs before r (listed rest) g first y.1.listed y.0 in
          let o = completion_of j rs r in
          let chosen = choose k t Any_told Any_law rs r (listed rest) j x.walking (block_in row) refl in
          subst X (sym (none_first row never)) (rests_of (after_completion-leaves frame r o r-in (every_by Q o (λ other is.
          let c = chosen.each other is in
          let a = after_name before r (listed rest) c.earlier other c.later (sym x.one ∙ c.one) c.listed
          (λ h. behind_off k t rs before r (listed rest) g (routine_name r) h (inl refl)) in
          every_after Q rest a.earlier other a.later a.one rest-in))) j)
    ]

mutual
  unfolding ◌>>=◌ give

  block_rests : (k : Known) (t : BlockTree) (Q : ℕ → Type 0) (frame number place : ℕ) (b : BlockTree) (j : Known) → AtBlock k t b j
      → Every Q (block_node b) → Rests Q j (block frame number place b j).known
  block_rests k t Q frame number place (tree.a_block labels constants types variables routines body) j x b-in =
      let b = tree.a_block labels constants types variables routines body in
      let d1 = parts frame place b j in
      let d2 = put_body number d1.value (compound_word body) d1.known in
      let d3 = routines_in frame routines routines d2.known in
      let end = compound_uses frame body d3.known in
      rests_then Q j d1.known end.known (rests_of (parts-leaves frame place b b-in) j)
      (rests_then Q d1.known d2.known end.known (rests_of (put_body-leaves number d1.value (compound_word body)) d1.known)
      (rests_then Q d2.known d3.known end.known
      (part_rests k t Q frame [] routines routines d2.known (at_part k t frame number place labels constants types variables routines body j x)
      b-in.1.1.1.1.0)
      (rests_of (compound_uses-leaves frame body b-in.1.1.1.1.1) d3.known)))

  part_rests : (k : Known) (t : BlockTree) (Q : ℕ → Type 0) (frame : ℕ) (before : List RoutineTree) (rs part : RoutineTrees) (j : Known)
      → At k t rs before part j → Every Q (routines_node part) → Rests Q j (routines_in frame rs part j).known
  part_rests k t Q frame before rs tree.end_of_routines j x part-in = λ n off fast. refl
  part_rests k t Q frame before rs (tree.more_routines r rest) j x part-in =
      let d = routine frame rs r j in
      rests_then Q j d.known (routines_in frame rs rest d.known).known (routine_rests k t Q frame before rs r rest j x part-in.0 part-in.1)
      (part_rests k t Q frame (before ++ r ∷ []) rs rest d.known (at_next k t frame before rs r rest j x) part-in.1)

  routine_rests : (k : Known) (t : BlockTree) (Q : ℕ → Type 0) (frame : ℕ) (before : List RoutineTree) (rs : RoutineTrees) (r : RoutineTree)
      (rest : RoutineTrees) (j : Known) → At k t rs before (tree.more_routines r rest) j → Every Q (routine_node r) → Every Q (routines_node rest)
      → Rests Q j (routine frame rs r j).known
  routine_rests k t Q frame before rs (tree.a_routine heading semicolon (tree.a_directive directive) last) rest j x r-in rest-in =
      enter_rests k t Q frame before rs (tree.a_routine heading semicolon (tree.a_directive directive) last) rest j x r-in rest-in
  routine_rests k t Q frame before rs (tree.a_routine heading semicolon (tree.a_block_body b) last) rest j x r-in rest-in =
      let r = tree.a_routine heading semicolon (tree.a_block_body b) last in
      let d = enter_heading frame rs r j in
      let e = d.value in
      rests_then Q j d.known (block e.frame e.number e.place b d.known).known (enter_rests k t Q frame before rs r rest j x r-in rest-in)
      (block_rests k t Q e.frame e.number e.place b d.known (at_body k t frame before rs heading semicolon b last rest j x) r-in.1.1.0)

-- ---- what holds at the end

-- Tables come before some, where rows at these tokens stay.
pub record Tail (f : Known) (Q : ℕ → Type 0) (i : Known) : Type 0 where
  pub rows : (n : ℕ) → Q n → is_fast (row_at i n) ≡ true → row_at f n ≡ row_at i n
  pub later : Later i f

tail_sub : {f : Known} {Q R : ℕ → Type 0} {i : Known} → ((n : ℕ) → R n → Q n) → Tail f Q i → Tail f R i
tail_sub sub tail = record { rows = λ n r fast. tail.rows n (sub n r) fast; later = tail.later }

-- so did those before a step that leaves the rows
tail_back : (f : Known) (Q : ℕ → Type 0) (i e : Known) → Rests (Off Q) i e → Since (length i.regions) i e → Tail f Q e → Tail f Q i
tail_back f Q i e rests since tail =
    let more = since.kept in
    record {
      rows = λ n q fast.
          let same = rests n (λ off. off q) fast in
          tail.rows n q (ap is_fast same ∙ fast) ∙ same;
      later = kept_then (length i.regions) (length e.regions) i e f more.many more tail.later;
    }

-- ---- a procedure or function

-- Its row stands at its name, with the region of a frame, and so do those of its block's labels, which the region declares.
pub record Placed (k : Known) (r : RoutineTree) (j : Known) : Type 0 where
  pub n : ℕ
  pub f : Frame
  pub number : ℕ
  pub homed : Homed n f j
  pub row : row_at j (routine_name r) ≡ Row.Name (NameRow.Routine false number f.region)
  pub own : (d : ℕ) → Listed (labels_in_body (routine_body r)) d → Own k n f (labels_in_body (routine_body r)) d j

block_has_label : (b : BlockTree) (d : ℕ) → Listed (block_labels b) d → Has (block_node b) d
block_has_label (tree.a_block labels constants types variables routines body) d h = inl (labels_have labels d h)

-- what the text says of it
record IsPlaced (k : Known) (r : RoutineTree) : Type 0 where
  distinct : IsDistinct (routine_node r)
  low : (n : ℕ) → Has (routine_node r) n → n < length k.words

pub fresh_none : (j : Known) (token : ℕ) (f : Frame) → f.region ≡ length j.regions → (v : ℕ) → declared_in (and_region j token f).regions f.region v ≡ None
fresh_none j token f fresh v =
    let x = fresh_region token (length j.frames) in
    ap (λ r. declared_in (j.regions ++ x ∷ []) r v) fresh ∙ ap (λ (r : RegionRows). lookup (nat_eq v) r.labels) (last_region j.regions x)

-- where it was entered
placed_first : (k : Known) (t : BlockTree) (frame : ℕ) (heading : HeadingTree) (semicolon : ℕ) (b : BlockTree) (last : ℕ) (j : Known)
    → let r = tree.a_routine heading semicolon (tree.a_block_body b) last in
    IsPlaced k r → OfRoutine (IsOfText k t) r → Orderly k t j → Placed k r (after_completion frame r None j).known
unfolding open_routine add_heading define_inside look extend change give ◌>>=◌
placed_first k t frame heading semicolon b last j is all s =
    let r = tree.a_routine heading semicolon (tree.a_block_body b) last in
    let f : Frame = record { region = length j.regions; outer = Some frame; level = one_deeper (frame_at j frame).level; withs = 0 } in
    let n = length j.frames in
    let name = heading_name heading in
    let a = and_region j name f in
    let d = define_formals_at n heading a in
    let c = define_block n b d.known in
    let e = signature frame n heading c.known in
    let both = both_last k t in
    let both_a = both.regions j name f s.both in
    let standing_f : Lasting Any (Stands n f) = standing n f in
    let homed : Declaring (IsOfText k t) (Homed n f) = homed_all n f in
    let homed_a = homed_start j name f refl in
    let none = (define_formals_at-lasts (opened_lasts standing_f n f) n heading).of a (record {
      kept = homed_a.stands;
      stands = homed_a.stands;
      none = λ v. fresh_none j name f refl v;
    }) in
    let base : Base k t n f (Listed (block_labels b)) d.known = record {
      both = (define_formals_at-lasts both n heading).of a both_a;
      stands = none.stands;
      mine = λ v m e. absurd (none-some m (sym (none.none v) ∙ e));
    } in
    let both_c = (define_inside-lasts (both_all k t) n heading (tree.a_block_body b) None all.1 tt).of a both_a in
    let homed_c = (define_inside-lasts homed n heading (tree.a_block_body b) None all.1 tt).of a homed_a in
    let both_e = (signature-lasts both frame n heading).of c.known both_c in
    let homed_e = (signature-lasts homed.kept frame n heading).of c.known homed_c in
    let here = frame_at e.known n in
    let x = and_routine e.known (heading_row heading here.level e.value) in
    let number = length e.known.program.routines in
    let row = Row.Name (NameRow.Routine false number here.region) in
    let region : here.region ≡ f.region = ap (λ (g : Frame). g.region) (stands_at n f e.known homed_e.stands) in
    let few = is.low name (inl (name_has heading)) in
    let room = both_e.roomy.room in
    record {
      n = n;
      f = f;
      number = number;
      homed = record { stands = record { there = homed_e.stands.there; below = homed_e.stands.below }; own = homed_e.own };
      row = row_put x name row (omega (arith, few, room)) ∙ ap (λ m. Row.Name (NameRow.Routine false number m)) region;
      own = λ m h.
          let has = block_has_label b m h in
          let own = block_own k t n f b m d.known is.distinct.1.1.0 (is.low m (inr (inr (inl has)))) h base in
          let v = label_at k m in
          let declares = (signature-lasts (declares_lasts n f v own.first) frame n heading).of c.known own.declares in
          let off : Every (But m) (heading_node heading) = every_other (heading_node heading) m (λ i. is.distinct.2 m i (inr (inl has))) in
          let leaves = (signature-leaves frame n heading off).of c.known m (λ o. o.is refl) (ap is_fast own.row) in
          record {
            first = own.first;
            listed = own.listed;
            declares = record { stands = record { there = declares.stands.there; below = declares.stands.below }; is = declares.is };
            row = elim (row_either x name m row) [
              | inl old ↦ old ∙ leaves ∙ own.row
              | inr new ↦ absurd (is.distinct.2 m (subst (Has (heading_node heading)) (sym new.0) (name_has heading)) (inr (inl has)))
            ];
          };
    }

placed_then : (k : Known) (r : RoutineTree) (i f : Known) (Q : ℕ → Type 0) → Q (routine_name r)
    → ((d : ℕ) → Listed (labels_in_body (routine_body r)) d → Q d) → Tail f Q i → Placed k r i → Placed k r f
placed_then k r i f Q at labels tail p =
    let below = p.homed.stands.below in
    let many = tail.later.many in
    let stands : Stands p.n p.f f = record {
      there = ap (λ (fs : List Frame). slice_get fs p.n) tail.later.frames.is ∙ got_still i.frames tail.later.frames.more p.n p.f p.homed.stands.there;
      below = omega (arith, below, many);
    } in
    record {
      n = p.n;
      f = p.f;
      number = p.number;
      homed = record { stands = stands; own = tail.later.own p.f.region below ∙ p.homed.own };
      row = tail.rows (routine_name r) at (ap is_fast p.row) ∙ p.row;
      own = λ d h.
          let o = p.own d h in
          record {
            first = o.first;
            listed = o.listed;
            declares = record { stands = stands; is = tail.later.labels p.f.region (label_at k d) below ∙ o.declares.is };
            row = tail.rows d (labels d h) (ap is_fast o.row) ∙ o.row;
          };
    }

-- the tokens of its heading, and of its block's label part
abbrev own_node : HeadingTree → BlockTree → Node
own_node heading (tree.a_block labels constants types variables routines body) = Pair (heading_node heading) (label_part_node labels)

own_has : (heading : HeadingTree) (b : BlockTree) (d : ℕ) → Listed (block_labels b) d → Has (own_node heading b) d
own_has heading (tree.a_block labels constants types variables routines body) d h = inr (labels_have labels d h)

own_name : (heading : HeadingTree) (b : BlockTree) → Has (own_node heading b) (heading_name heading)
own_name heading (tree.a_block labels constants types variables routines body) = inl (name_has heading)

own_inside : (heading : HeadingTree) (semicolon : ℕ) (b : BlockTree) (last n : ℕ) → Has (own_node heading b) n
    → Has (routine_node (tree.a_routine heading semicolon (tree.a_block_body b) last)) n
own_inside heading semicolon (tree.a_block labels constants types variables routines body) last n (inl h) = inl h
own_inside heading semicolon (tree.a_block labels constants types variables routines body) last n (inr h) = inr (inr (inl (inl h)))

enter_placed : (k : Known) (t : BlockTree) (f : Known) (frame : ℕ) (before : List RoutineTree) (rs : RoutineTrees) (heading : HeadingTree)
    (semicolon : ℕ) (b : BlockTree) (last : ℕ) → let r = tree.a_routine heading semicolon (tree.a_block_body b) last in
    IsPlaced k r → OfRoutine (IsOfText k t) r → Seat t before r → is_second k before r ≡ false
    → (j : Known) → Orderly k t j → Tail f (Has (own_node heading b)) (enter_heading frame rs r j).known → Placed k r f
unfolding enter_heading first_heading look ◌>>=◌
enter_placed k t f frame before rs heading semicolon b last is all seat second j s tail =
    let r = tree.a_routine heading semicolon (tree.a_block_body b) last in
    let first = not_second k t j before r s seat second (row_at j (routine_name r)) refl in
    let none = completed_by_none k t j before rs r s seat refl in
    let placed : Placed k r (enter_heading frame rs r j).known
    = subst (λ (o : Option ℕ). Placed k r (enter_at o frame rs r j).known) (sym first)
    (subst (λ (o : Option RoutineTree). Placed k r (after_completion frame r o j).known) (sym none)
    (placed_first k t frame heading semicolon b last j is all s)) in
    placed_then k r (enter_heading frame rs r j).known f (Has (own_node heading b)) (own_name heading b) (λ d h. own_has heading b d h) tail placed

-- what is said of its block leaves these rows
own_rests : (k : Known) (t : BlockTree) (heading : HeadingTree) (semicolon : ℕ) (b : BlockTree) (last : ℕ) (e : Entered) (j : Known) → AtBlock k t b j
    → IsDistinct (routine_node (tree.a_routine heading semicolon (tree.a_block_body b) last))
    → Rests (Off (Has (own_node heading b))) j (block e.frame e.number e.place b j).known
unfolding ◌>>=◌
own_rests k t heading semicolon (tree.a_block labels consts kinds variable_part routines body) last e j lot d =
    let b = tree.a_block labels consts kinds variable_part routines body in
    let Q = Off (Has (own_node heading b)) in
    let x = own_node heading b in
    let inner = d.1.1.0 in
    let consts-in : Every Q (constant_part_node consts) = every_off x (constant_part_node consts) (λ n h i. elim h [
      | inl a ↦ d.2 n a (inr (inl (inr (inl i))))
      | inr l ↦ inner.2 n l (inl i)
    ]) in
    let kinds-in : Every Q (type_part_node kinds) = every_off x (type_part_node kinds) (λ n h i. elim h [
      | inl a ↦ d.2 n a (inr (inl (inr (inr (inl i)))))
      | inr l ↦ inner.2 n l (inr (inl i))
    ]) in
    let variables-in : Every Q (variable_part_node variable_part) = every_off x (variable_part_node variable_part) (λ n h i. elim h [
      | inl a ↦ d.2 n a (inr (inl (inr (inr (inr (inl i))))))
      | inr l ↦ inner.2 n l (inr (inr (inl i)))
    ]) in
    let routines-in : Every Q (routines_node routines) = every_off x (routines_node routines) (λ n h i. elim h [
      | inl a ↦ d.2 n a (inr (inl (inr (inr (inr (inr (inl i)))))))
      | inr l ↦ inner.2 n l (inr (inr (inr (inl i))))
    ]) in
    let body-in : Every Q (compound_node body) = every_off x (compound_node body) (λ n h i. elim h [
      | inl a ↦ d.2 n a (inr (inl (inr (inr (inr (inr (inr i)))))))
      | inr l ↦ inner.2 n l (inr (inr (inr (inr i))))
    ]) in
    let d1 = parts e.frame e.place b j in
    let d2 = put_body e.number d1.value (compound_word body) d1.known in
    let d3 = routines_in e.frame routines routines d2.known in
    let end = compound_uses e.frame body d3.known in
    rests_then Q j d1.known end.known (rests_of (bind-leaves (constants-leaves e.frame consts consts-in)
    (λ _. bind-leaves (types-leaves e.frame (word_after variable_part routines body) kinds kinds-in)
    (λ _. variables-leaves e.frame e.place variable_part variables-in))) j)
    (rests_then Q d1.known d2.known end.known (rests_of (put_body-leaves e.number d1.value (compound_word body)) d1.known)
    (rests_then Q d2.known d3.known end.known
    (part_rests k t Q e.frame [] routines routines d2.known (at_part k t e.frame e.number e.place labels consts kinds variable_part routines body j lot)
    routines-in)
    (rests_of (compound_uses-leaves e.frame body body-in) d3.known)))

-- Each that has a block, and completes no heading, is there.
abbrev pub Put : Known → Known → List RoutineTree → RoutineTree → Type 0
Put k f before r = is_second k before r ≡ false → is_block (routine_body r) ≡ true → Placed k r f

mutual
  unfolding ◌>>=◌ give

  pub block_carries : (k : Known) (t : BlockTree) (f : Known) (frame number place : ℕ) (b : BlockTree) (j : Known) → AtBlock k t b j
      → IsDistinct (block_node b) → ((n : ℕ) → Has (block_node b) n → n < length k.words) → Tail f (Has (block_node b)) (block frame number place b j).known
      → OfRoutinesAfter (Put k f) b
  block_carries k t f frame number place (tree.a_block labels constants types variables routines body) j x distinct low tail =
      let b = tree.a_block labels constants types variables routines body in
      let Q = Has (routines_node routines) in
      let body-in : Every (Off Q) (compound_node body) = every_off (routines_node routines) (compound_node body) distinct.1.1.1.1.2 in
      let d2 = after_parts frame number place labels constants types variables routines body j in
      let d3 = (routines_in frame routines routines d2).known in
      let end = (compound_uses frame body d3).known in
      part_carries k t f frame [] routines routines d2 (at_part k t frame number place labels constants types variables routines body j x)
      distinct.1.1.1.1.0 (λ n h. low n (inr (inr (inr (inr (inl h))))))
      (tail_back f Q d3 end (rests_of (compound_uses-leaves frame body body-in) d3)
      ((compound_uses-lasts (since_lasts {G = Any} (length d3.regions) d3) frame body).of d3 (since_start d3))
      (tail_sub (λ n h. inr (inr (inr (inr (inl h))))) tail))

  part_carries : (k : Known) (t : BlockTree) (f : Known) (frame : ℕ) (before : List RoutineTree) (rs part : RoutineTrees) (j : Known)
      → At k t rs before part j → IsDistinct (routines_node part) → ((n : ℕ) → Has (routines_node part) n → n < length k.words)
      → Tail f (Has (routines_node part)) (routines_in frame rs part j).known → OfEachAfter (Put k f) before part
  part_carries k t f frame before rs tree.end_of_routines j x distinct low tail = tt
  part_carries k t f frame before rs (tree.more_routines r rest) j x distinct low tail =
      let d = (routine frame rs r j).known in
      let end = (routines_in frame rs rest d).known in
      let next = at_next k t frame before rs r rest j x in (
        routine_carries k t f frame before rs r rest j x distinct.0 (λ n h. low n (inl h)) (tail_back f (Has (routine_node r)) d end
            (part_rests k t (Off (Has (routine_node r))) frame (before ++ r ∷ []) rs rest d next
            (every_off (routine_node r) (routines_node rest) distinct.2))
            ((routines_in-since (length d.regions) d frame rs rest).of d (since_start d)) (tail_sub (λ n h. inl h) tail)),
        part_carries k t f frame (before ++ r ∷ []) rs rest d next distinct.1 (λ n h. low n (inr h)) (tail_sub (λ n h. inr h) tail),
      )

  routine_carries : (k : Known) (t : BlockTree) (f : Known) (frame : ℕ) (before : List RoutineTree) (rs : RoutineTrees) (r : RoutineTree)
      (rest : RoutineTrees) (j : Known) → At k t rs before (tree.more_routines r rest) j → IsDistinct (routine_node r)
      → ((n : ℕ) → Has (routine_node r) n → n < length k.words) → Tail f (Has (routine_node r)) (routine frame rs r j).known
      → OfRoutineAfter (Put k f) before r
  routine_carries k t f frame before rs (tree.a_routine heading semicolon (tree.a_directive directive) last) rest j x distinct low tail =
      (λ second block. absurd (let never : false ≡ true = block in cc), tt)
  routine_carries k t f frame before rs (tree.a_routine heading semicolon (tree.a_block_body b) last) rest j x distinct low tail =
      let r = tree.a_routine heading semicolon (tree.a_block_body b) last in
      let d = (enter_heading frame rs r j).known in
      let e = (enter_heading frame rs r j).value in
      let inside = at_body k t frame before rs heading semicolon b last rest j x in
      let end = (block e.frame e.number e.place b d).known in (
        λ second block.
            enter_placed k t f frame before rs heading semicolon b last (record { distinct = distinct; low = low }) x.all.0 x.seats.0.0 second j x.orderly
            (tail_back f (Has (own_node heading b)) d end (own_rests k t heading semicolon b last e d inside distinct)
            ((block-since (length d.regions) d e.frame e.number e.place b).of d (since_start d)) (tail_sub (own_inside heading semicolon b last) tail)),
        block_carries k t f e.frame e.number e.place b d inside distinct.1.1.0 (λ n h. low n (inr (inr (inl h))))
            (tail_sub (λ n h. inr (inr (inl h))) tail),
      )
