-- Where a text breaks rule 2: at second names and labels of its regions alone.
use Rattle.std.proofs.Common.{◌++◌, ◌+◌, ◌<◌, ◌^◌, ◌||◌, ◌∙◌, ◌∷◌, ◌≡◌, ◌≤◌, [], ℕ, Bool, List, None, Option, Some, ap, arith, false, inl, inr, is_some, length}
use Rattle.std.proofs.Common.{nat_eq, refl, replicate, slice_get, subst, suc, sym, true, unwrap_or, zero}
use Rattle.std.proofs.lemmas.{List.append-nil, List.append_assoc, List.length-append, Option.same_Some}
use Rattle.std.specs.Map.{lookup}
use Rattle.pas_lexer.specs.Lexed.{Lexed}
use Rattle.grammar.specs.Nodes.{Item, spell}
use Rattle.pas_tree.specs.{DenoterTrees.FieldsTree, HeadingPlaces.heading_name, HeadingTrees.HeadingTree, StatementTrees.CompoundTree}
use Rattle.pas_tree.specs.BlockTrees.{BlockTree, BodyTree, ConstantPartTree, LabelPartTree, ParametersTree, ProgramTree, RoutineTree, RoutineTrees}
use Rattle.pas_tree.specs.BlockTrees.{TypePartTree, VariablePartTree, routine_body, routine_heading}
use Rattle.pas_tree.specs.BlockTrees as tree
use Rattle.pas_tree.specs.TreeNodes.{block_node, body_node, heading_node, parameters_node, routine_node, routines_node, tree_node}
use Rattle.pas_parser.specs.Formed.{items_of}
use Rattle.core_program.specs.declared.rows.{PartRow.PartRow, Row.Row}
use Rattle.check_steps.specs.{Words.known_at_start, Words.required_names, declared.regions.Frame.Frame, declared.words.SpelledToken.SpelledToken}
use Rattle.check_steps.specs.Known.{Known, and_region, label_at, name_at, row_at}
use Rattle.check_steps.specs.Regions.{RegionRows, declared_in, defined_in, fresh_region}
use Rattle.check_steps.specs.Steps.{◌>>=◌, Step, early, give, look}
use Rattle.check_steps.specs.declared.breaks.{Break.Break, Broken.Broken, Broken.TheVariants.Early}
use Rattle.denoter_checker.specs.{Defines.define_in_fields, Defines.define_record, declared.defines.Wanted.Wanted}
use Rattle.denoter_checker.specs.Formals.{define_formals_at, define_held, formals_of}
use Rattle.denoter_checker.specs.RoutineParts.{block_in, completion_of, define_routines, routine_at, routine_if_any, routine_name}
use Rattle.decl_checker.specs.{Labels.define_labels, Parameters.program_parameters, Programs.define_program, Programs.program_step}
use Rattle.decl_checker.specs.Blocks.{define_block, define_constants, define_types, define_variables}
use Rattle.decl_checker.specs.Routines.{define_body, define_completion, define_inside}
use Rattle.code_checker.specs.{Blocks.code_block, CheckedPrograms.check_step}
use Rattle.rule_laws.proofs.{Chains.Fits as Short, Chains.fits_left as short_left, Chains.fits_right as short_right, Faces.loose, InTurn.Wrong}
use Rattle.rule_laws.proofs.{InTurn.wrong_first, InTurn.wrong_later, LabelParts.SecondLabel, LabelParts.second_label, LabelTold.Anywhere}
use Rattle.rule_laws.proofs.{LastsFormals.define_formals_at-lasts, LastsLabels.define_labels-lasts, LastsParameters.program_parameters-lasts, NameTurns.Region}
use Rattle.rule_laws.proofs.{NameTurns.Turn, NameTurns.rule_two, NamesIn.parameters-in, Plain.Aim, Plain.Plain, Plain.is_plain, PlainBlocks.OwnRecords}
use Rattle.rule_laws.proofs.{Regions.last_region, Telling.Misses, TextBlocks.start_orderly, TextBlocks.whole, TextHeadings.IsOfText}
use Rattle.rule_laws.proofs.{TextLabels.code_block-touches, TextRoutines.labels_keep, TextTokens.text_length, Touches.Told as Used, TurnEnds.in_front}
use Rattle.rule_laws.proofs.Breaks.{Each, In, both, found, in_either, of_each}
use Rattle.rule_laws.proofs.Entering.{Completes, Entering, RecordsInBody, SeenBlock, SeenBody, SeenEach, SeenRoutine, program-came, without}
use Rattle.rule_laws.proofs.JoinedParts.{AllJoined, JoinedAt, Looked, Member, OfParts, PartsInBody, PartsInEach, PartsInOne, Tables, body_has, formals_first}
use Rattle.rule_laws.proofs.JoinedParts.{inside_each, member_has, names_apart, off_each, off_one, one_of_name, second_named, tables_all, tables_last}
use Rattle.rule_laws.proofs.LastsBlocks.{define_constants-lasts, define_types-lasts, define_variables-lasts}
use Rattle.rule_laws.proofs.NameLaw.{begun as begin, constant_part_goes, fields_go, held_formals_go, parameters_go, type_part_goes, variable_part_goes}
use Rattle.rule_laws.proofs.PartTwos.{Begun, Comes, PartOf, part_comes, place}
use Rattle.rule_laws.proofs.PartWalk.{Stated, StatedIn, StatedOf, completed_by_none, part_of, routine_stated}
use Rattle.rule_laws.proofs.Seats.{AnyKind, Kind, Nobody, Seats, SeatsIn, SeatsInside, SeatsOf, SomeAt, SomeIn, SomeInside, SomeOf, block_has, every_has}
use Rattle.rule_laws.proofs.Standing.{Opened, Stands, opened, opened_lasts, stands_at}
use Rattle.rule_laws.specs.{ForwardHeadings.is_block, ForwardHeadings.routines_in, Laws.broken_at, TextLaws.has_label, TextLaws.has_name}
use Rattle.rule_laws.specs.{TextLaws.names_in_body, TextParts.OfRoutines, TextParts.OfRoutinesAfter, Tokens.Has, Tokens.IsDistinct}
use Rattle.rule_laws.specs.OnlyLaws.{IsNoSecond, IsNoSecondIn, IsNoSecondLabel, IsNoSecondName, IsNoSecondOf, TextsBreakTwo}
use Rattle.rule_laws.specs.RegionNames.{block_names, constants_of, field_names, file_name, file_names, heading_names, is_defined, labels_of, listed_names}
use Rattle.rule_laws.specs.RegionNames.{parameter_names, types_of, variables_of}
use Rattle.rule_laws.specs.TextParts.{InBody, InRoutine, InRoutines, OfBody, OfBodyAfter, OfEach, OfEachAfter, OfRecordsIn, OfRoutine, OfRoutineAfter}

-- ---- a name that is told of, at its place

record SecondName (k : Known) (region : ℕ) (names : List ℕ) (token : ℕ) : Type 0 where
  before : List ℕ
  after : List ℕ
  is : names ≡ before ++ token ∷ after
  again : is_defined k region before token ≡ true

second_name : (p : Region) (done xs : List ℕ) → Wrong (rule_two p) done xs → SecondName p.k p.region (done ++ xs) p.t
second_name p done [] w = absurd w
second_name p done (x ∷ xs) w = elim w [
  | inl own ↦
      record {
        before = done;
        after = xs;
        is = ap (λ y. done ++ y ∷ xs) own.0;
        again = ap (λ y. is_defined p.k p.region done y) (sym own.0) ∙ own.1;
      }
  | inr later ↦ subst (λ (l : List ℕ). SecondName p.k p.region l p.t) (append_assoc done (x ∷ []) xs) (second_name p (done ++ x ∷ []) xs later)
]

-- nothing is defined in a region
abbrev Empty : Known → ℕ → Type 0
Empty j region = (name : ℕ) → defined_in j.regions region name ≡ None

none_second : (k j : Known) (region : ℕ) (names : List ℕ) (n : ℕ) → j.words ≡ k.words → Empty j region → IsNoSecondName k n names
    → Wrong (rule_two (record { k = j; region = region; t = n })) [] names → ⊥
none_second k j region names n words empty first w =
    let p : Region = record { k = j; region = region; t = n } in
    let s = second_name p [] names w in
    let held : has_name j s.before n ≡ true = ap (λ o. is_some o || has_name j s.before n) (sym (empty (name_at j n))) ∙ s.again in
    let same : has_name j s.before n ≡ has_name k s.before n = ap (λ (ws : List SpelledToken). has_name (record k { words = ws }) s.before n) words in
    let never : true ≡ false = sym held ∙ same ∙ first s.before s.after s.is in cc

none_label : (k j : Known) (region : ℕ) (labels : List ℕ) (n : ℕ) → j.words ≡ k.words → ((v : ℕ) → declared_in j.regions region v ≡ None)
    → IsNoSecondLabel k n labels → SecondLabel j region labels n → ⊥
none_label k j region labels n words empty first s =
    let held : has_label j s.before n ≡ true = ap (λ o. is_some o || has_label j s.before n) (sym (empty (label_at j n))) ∙ s.again in
    let same : has_label j s.before n ≡ has_label k s.before n = ap (λ (ws : List SpelledToken). has_label (record k { words = ws }) s.before n) words in
    let never : true ≡ false = sym held ∙ same ∙ first s.before s.after s.is in cc

-- ---- a region that is new

abbrev aim : Looked → Aim
aim x = record { words = x.k.words; P = Misses 2 x.n }

not_two : (what : Broken) (token n : ℕ) → is_plain what ≡ true → record { broken = what; token = token } ≡ broken_at 2 n → ⊥
not_two what token n plain e =
    let same : what ≡ Early 2 = ap (λ (b : Break). b.broken) e in
    let never : true ≡ false = sym plain ∙ ap is_plain same in cc

plain : (x : Looked) → Plain (aim x)
plain x = record { of = λ what token is e. not_two what token x.n is e }

each_in : (n : ℕ) (xs : List Break) → (In (broken_at 2 n) xs → ⊥) → Each (Misses 2 n) xs
each_in n [] h = tt
each_in n (b ∷ xs) h = ((λ e. h (inl e)), each_in n xs (λ i. h (inr i)))

empty_new : (k : Known) (token : ℕ) (f : Frame) → f.region ≡ length k.regions → Empty (and_region k token f) f.region
empty_new k token f e name =
    ap (λ region. defined_in (and_region k token f).regions region name) e
    ∙ ap (λ (r : RegionRows). lookup (nat_eq name) r.names) (last_region k.regions (fresh_region token (length k.frames)))

unlabelled_new : (k : Known) (token : ℕ) (f : Frame) → f.region ≡ length k.regions → (v : ℕ) → declared_in (and_region k token f).regions f.region v ≡ None
unlabelled_new k token f e v =
    ap (λ region. declared_in (and_region k token f).regions region v) e
    ∙ ap (λ (r : RegionRows). lookup (nat_eq v) r.labels) (last_region k.regions (fresh_region token (length k.frames)))

record_none : (x : Looked) (k : Known) (word : ℕ) (f : Frame) (fields : FieldsTree) → f.region ≡ length k.regions → k.words ≡ x.k.words
    → IsNoSecondName x.k x.n (field_names Wanted.Fields fields)
    → In (broken_at 2 x.n) (define_record (length k.frames) fields (and_region k word f)).broken → ⊥
unfolding define_record look ◌>>=◌
record_none x k word f fields e words first i =
    let j = and_region k word f in
    let s = opened k word f e in
    let p : Region = record { k = j; region = f.region; t = x.n } in
    let at = ap (λ (g : Frame). g.region) (stands_at (length k.frames) f j s) in
    let here = subst (λ region. In (broken_at 2 x.n) (define_in_fields Wanted.Fields region fields j).broken) at i in
    let ends = (fields_go p Wanted.Fields fields).of [] j (begin j f.region x.n s.below) in
    none_second x.k j f.region (field_names Wanted.Fields fields) x.n words (empty_new k word f e) first (ends.forth here)

-- what the formal parameters come to
record FormalsEnd (p : Region) (done : List ℕ) (h : HeadingTree) (i : Known) (bs : List Break) : Type 0 where
  turn : Turn p (done ++ heading_names h) i
  forth : In (broken_at 2 p.t) bs → Wrong (rule_two p) done (heading_names h)

formals_end : (i : Known) (g : ℕ) (f : Frame) (n : ℕ) (h : HeadingTree) (done : List ℕ) (j : Known) → Stands g f j
    → Turn (record { k = i; region = f.region; t = n }) done j
    → FormalsEnd (record { k = i; region = f.region; t = n }) done h (define_formals_at g h j).known (define_formals_at g h j).broken
unfolding define_formals_at look ◌>>=◌
formals_end i g f n h done j s t =
    let p : Region = record { k = i; region = f.region; t = n } in
    let at = ap (λ (g : Frame). g.region) (sym (stands_at g f j s)) in
    let ends = (held_formals_go p (formals_of h)).of done j t in
    let own : FormalsEnd p done h (define_held f.region (formals_of h) j).known (define_held f.region (formals_of h) j).broken
    = record { turn = ends.turn; forth = ends.forth } in
    subst (λ region. FormalsEnd p done h (define_held region (formals_of h) j).known (define_held region (formals_of h) j).broken) at own

heading_none : (x : Looked) (k : Known) (token : ℕ) (f : Frame) (h : HeadingTree) → f.region ≡ length k.regions → k.words ≡ x.k.words
    → IsNoSecondName x.k x.n (heading_names h) → In (broken_at 2 x.n) (define_formals_at (length k.frames) h (and_region k token f)).broken → ⊥
heading_none x k token f h e words first i =
    let j = and_region k token f in
    let s = opened k token f e in
    let ends = formals_end j (length k.frames) f x.n h [] j s (begin j f.region x.n s.below) in
    none_second x.k j f.region (heading_names h) x.n words (empty_new k token f e) first (ends.forth i)

-- ---- a block in the region of a frame

-- what the text says of a block
abbrev PartOfBody : Looked → BodyTree → Type 0
PartOfBody x (tree.a_directive directive) = Unit {0}
PartOfBody x (tree.a_block_body b) = PartOf x (part_of b)

parts_come : (x : Looked) (i : Known) (g : ℕ) (f : Frame) (names : List ℕ) (labels : Option LabelPartTree) (consts : Option ConstantPartTree)
    (kinds : Option TypePartTree) (variable_part : Option VariablePartTree) (routines : RoutineTrees) (body : CompoundTree) (j : Known)
    → let b = tree.a_block labels consts kinds variable_part routines body in
    Begun x i f.region → Opened (Tables x) g f j → Turn (place x i f.region) names j → IsNoSecondIn x.k x.n names (tree.a_block_body b)
    → Stated x.k x.t b → Each (Nobody x.t) names → PartOf x routines
    → let d = (define_labels f labels >>= λ _. define_constants f.region consts >>= λ _. define_types f.region kinds >>= λ _.
    define_variables f.region variable_part >>= λ _. define_routines f.region routines) j in Comes x d.known d.broken
unfolding ◌>>=◌
parts_come x i g f names labels consts kinds variable_part routines body j begun s turned first st nobody own =
    let p = place x i f.region in
    let r = rule_two p in
    let n = broken_at 2 x.n in
    let xs = constants_of consts in
    let ys = types_of kinds in
    let zs = variables_of variable_part in
    let all = names ++ (xs ++ (ys ++ zs)) in
    let l = define_labels f labels j in
    let c = define_constants f.region consts l.known in
    let d = define_types f.region kinds c.known in
    let v = define_variables f.region variable_part d.known in
    let w = define_routines f.region routines v.known in
    let one = (constant_part_goes p consts).of names l.known ((labels_keep p names f refl labels).of j turned) in
    let two = (type_part_goes p kinds).of (names ++ xs) c.known one.turn in
    let three = (variable_part_goes p variable_part).of ((names ++ xs) ++ ys) d.known two.turn in
    let labelled = (define_labels-lasts (tables_all x) f labels).of j s.kept in
    let defined = (define_constants-lasts (tables_all x).ends f.region consts).of l.known labelled in
    let typed = (define_types-lasts (tables_last x) (tables_all x).ends f.region kinds).of c.known defined in
    let varied = (define_variables-lasts (tables_last x) f.region variable_part).of d.known typed in
    let same : ((names ++ xs) ++ ys) ++ zs ≡ all = append_assoc (names ++ xs) ys zs ∙ append_assoc names xs (ys ++ zs) in
    let come = part_comes x i f.region all routines v.known begun own first.headings st.all st.seats
    (both (Nobody x.t) names (xs ++ (ys ++ zs)) nobody st.names) (subst (λ m. Turn p m v.known) same three.turn) varied in
    let never : Wrong r names (xs ++ (ys ++ zs)) → ⊥ = λ wrong. none_second x.k i f.region all x.n begun.words begun.empty first.names
    (wrong_later r [] names (xs ++ (ys ++ zs)) wrong) in
    record {
      tables = come.tables;
      none = λ told. elim (in_either n l.broken (c.broken ++ (d.broken ++ (v.broken ++ w.broken))) told) [
        | inl at_label ↦
            none_label x.k j f.region (labels_of labels) x.n s.kept.orderly.both.sound.words s.none first.labels
            (second_label j f labels x.n s.stands.below at_label)
        | inr later ↦ elim (in_either n c.broken (d.broken ++ (v.broken ++ w.broken)) later) [
          | inl here ↦ never (wrong_first r names xs (ys ++ zs) (one.forth here))
          | inr later ↦ elim (in_either n d.broken (v.broken ++ w.broken) later) [
            | inl here ↦ never (wrong_later r names xs (ys ++ zs) (wrong_first r (names ++ xs) ys zs (two.forth here)))
            | inr later ↦ elim (in_either n v.broken w.broken later) [
              | inl here ↦ never (wrong_later r names xs (ys ++ zs) (wrong_later r (names ++ xs) ys zs (three.forth here)))
              | inr here ↦ come.none here
            ]
          ]
        ]
      ];
    }

block_comes : (x : Looked) (i : Known) (g : ℕ) (f : Frame) (names : List ℕ) (b : BlockTree) (j : Known) → Begun x i f.region → Opened (Tables x) g f j
    → Turn (place x i f.region) names j → IsNoSecondIn x.k x.n names (tree.a_block_body b) → Stated x.k x.t b → Each (Nobody x.t) names
    → PartOf x (part_of b) → let d = define_block g b j in Comes x d.known d.broken
unfolding look ◌>>=◌
block_comes x i g f names (tree.a_block labels consts kinds variable_part routines body) j begun s turned first st nobody own =
    let rest : Frame → Step (Unit {0}) = λ here. define_labels here labels >>= λ _. define_constants here.region consts >>= λ _.
    define_types here.region kinds >>= λ _. define_variables here.region variable_part >>= λ _. define_routines here.region routines in
    subst (λ (h : Frame). Comes x (rest h j).known (rest h j).broken) (sym (stands_at g f j s.stands))
    (parts_come x i g f names labels consts kinds variable_part routines body j begun s turned first st nobody own)

-- a body that stands well in the region of some names
record Suits (x : Looked) (names : List ℕ) (body : BodyTree) : Type 1 where
  first : IsNoSecondIn x.k x.n names body
  stated : StatedIn x.k x.t body
  part : PartOfBody x body

body_comes : (x : Looked) (i : Known) (g : ℕ) (f : Frame) (names : List ℕ) (body : BodyTree) (j : Known) → Begun x i f.region → Opened (Tables x) g f j
    → Turn (place x i f.region) names j → Each (Nobody x.t) names → Suits x names body
    → let d = define_body g body j in Comes x d.known d.broken
unfolding give
body_comes x i g f names (tree.a_directive directive) j begun s turned nobody fits = record { tables = s.kept; none = λ told. told }
body_comes x i g f names (tree.a_block_body b) j begun s turned nobody fits =
    block_comes x i g f names b j begun s turned fits.first fits.stated nobody fits.part

-- the block of the heading itself, or that of the heading that completes it
either_comes : (x : Looked) (i : Known) (g : ℕ) (f : Frame) (names : List ℕ) (body : BodyTree) (o : Option RoutineTree) (j : Known) → Begun x i f.region
    → Opened (Tables x) g f j → Turn (place x i f.region) names j → Each (Nobody x.t) names → Suits x names body
    → ((c : RoutineTree) → o ≡ Some c → Suits x names (routine_body c)) → (is_block body ≡ true → o ≡ None)
    → let d = (define_body g body >>= λ _. define_completion g o) j in Comes x d.known d.broken
unfolding give ◌>>=◌
either_comes x i g f names body None j begun s turned nobody fits other alone =
    let c = body_comes x i g f names body j begun s turned nobody fits in
    record { tables = c.tables; none = λ told. c.none (in_front (broken_at 2 x.n) (define_body g body j).broken told) }
either_comes x i g f names (tree.a_directive directive) (Some c) j begun s turned nobody fits other alone =
    body_comes x i g f names (routine_body c) j begun s turned nobody (other c refl)
either_comes x i g f names (tree.a_block_body b) (Some c) j begun s turned nobody fits other alone =
    absurd (let never : Some c ≡ None = alone refl in cc)

-- ---- the region of a procedure or function

-- one after these
abbrev Exactly : List RoutineTree → RoutineTree → Kind
Exactly before r others q = (before ≡ others) × (r ≡ q)

record Site (x : Looked) (rs : RoutineTrees) (r : RoutineTree) : Type 0 where
  before : List RoutineTree
  at : SomeAt (Exactly before r) (routine_name r) x.t
  text : OfRoutine (IsOfText x.k x.t) r
  first : IsNoSecondIn x.k x.n (heading_names (routine_heading r)) (routine_body r)
  back : (position : ℕ) (c : RoutineTree) → AllJoined x (routine_name r) position → routine_at rs position ≡ Some c
      → IsNoSecondIn x.k x.n (heading_names (routine_heading r)) (routine_body c)
  part : PartOfBody x (routine_body r)

mutual
  seats_block : (t b : BlockTree) (before : List RoutineTree) (r : RoutineTree) (n : ℕ) → Seats t b → SomeAt (Exactly before r) n b → SeatsOf t before r
  seats_block t (tree.a_block labels constants types variables routines body) before r n seats h = seats_each t [] routines before r n seats h

  seats_each : (t : BlockTree) (others : List RoutineTree) (rs : RoutineTrees) (before : List RoutineTree) (r : RoutineTree) (n : ℕ) → SeatsIn t others rs
      → SomeIn (Exactly before r) n others rs → SeatsOf t before r
  seats_each t others tree.end_of_routines before r n seats h = absurd h
  seats_each t others (tree.more_routines q rest) before r n seats (inl h) = seats_one t others q before r n seats.0 h
  seats_each t others (tree.more_routines q rest) before r n seats (inr h) = seats_each t (others ++ q ∷ []) rest before r n seats.1 h

  seats_one : (t : BlockTree) (others : List RoutineTree) (q : RoutineTree) (before : List RoutineTree) (r : RoutineTree) (n : ℕ) → SeatsOf t others q
      → SomeOf (Exactly before r) n others q → SeatsOf t before r
  seats_one t others (tree.a_routine heading semicolon body last_semicolon) before r n seats (inl h) =
      subst (λ (l : List RoutineTree). SeatsOf t l r) (sym h.1.0) (subst (λ (s : RoutineTree). SeatsOf t others s) (sym h.1.1) seats)
  seats_one t others (tree.a_routine heading semicolon body last_semicolon) before r n seats (inr h) = seats_body t body before r n seats.1 h

  seats_body : (t : BlockTree) (body : BodyTree) (before : List RoutineTree) (r : RoutineTree) (n : ℕ) → SeatsInside t body
      → SomeInside (Exactly before r) n body → SeatsOf t before r
  seats_body t (tree.a_directive directive) before r n seats h = absurd h
  seats_body t (tree.a_block_body b) before r n seats h = seats_block t b before r n seats h

stated_at : (x : Looked) (rs : RoutineTrees) (r : RoutineTree) → Seats x.t x.t → (site : Site x rs r) → StatedOf x.k x.t site.before r
stated_at x rs r seats site =
    routine_stated x.k x.t site.before r site.text (seats_block x.t x.t site.before r (routine_name r) seats site.at)

record IsPlaced (row : Row) (position : ℕ) : Type 0 where
  function : Bool
  is : row ≡ Row.Part (PartRow.Forward function (Some position))

placed : (row : Row) (position : ℕ) → block_in row ≡ Some position → IsPlaced row position
placed (Row.Part (PartRow.Forward function block)) position e =
    record { function = function; is = ap (λ (b : Option ℕ). Row.Part (PartRow.Forward function b)) e }
placed row position e = absurd (let never : None ≡ Some position = e in cc)

completed_fits : (x : Looked) (k : Known) (rs : RoutineTrees) (r : RoutineTree) (o : Option RoutineTree) → Seats x.t x.t → Tables x k → Site x rs r
    → o ≡ completion_of k rs r → Completes (Site x rs) o → (c : RoutineTree) → o ≡ Some c → Suits x (heading_names (routine_heading r)) (routine_body c)
completed_fits x k rs r None seats s site is seen c e = absurd (let never : None ≡ Some c = e in cc)
completed_fits x k rs r (Some d) seats s site is seen c e = at (block_in (row_at k (routine_name r))) refl (sym is)
  where
    same : d ≡ c
    same = same_Some d c e

    at : (b : Option ℕ) → block_in (row_at k (routine_name r)) ≡ b → routine_if_any rs b ≡ Some d
        → Suits x (heading_names (routine_heading r)) (routine_body c)
    at None row found = absurd (let never : None ≡ Some d = found in cc)
    at (Some position) row found =
        let p = placed (row_at k (routine_name r)) position row in
        let fits : Suits x (heading_names (routine_heading r)) (routine_body d) = record {
          first = site.back position d (s.joined (routine_name r) p.function position p.is) found;
          stated = (stated_at x rs d seats seen).body;
          part = seen.part;
        } in
        subst (λ (q : RoutineTree). Suits x (heading_names (routine_heading r)) (routine_body q)) same fits

inside_comes : (x : Looked) (k : Known) (f : Frame) (rs : RoutineTrees) (r : RoutineTree) (o : Option RoutineTree) → Seats x.t x.t → Tables x k
    → f.region ≡ length k.regions
    → Site x rs r → o ≡ completion_of k rs r → Completes (Site x rs) o
    → let d = define_inside (length k.frames) (routine_heading r) (routine_body r) o (and_region k (routine_name r) f) in Comes x d.known d.broken
unfolding define_inside ◌>>=◌
inside_comes x k f rs r o seats s e site is seen =
    let j = and_region k (routine_name r) f in
    let g = length k.frames in
    let h = routine_heading r in
    let names = heading_names h in
    let body = routine_body r in
    let b = broken_at 2 x.n in
    let st = stated_at x rs r seats site in
    let stands = opened k (routine_name r) f e in
    let start : Opened (Tables x) g f j = record {
      kept = (tables_last x).regions k (routine_name r) f s;
      stands = stands;
      none = unlabelled_new k (routine_name r) f e;
    } in
    let begun : Begun x j f.region = record { words = s.orderly.both.sound.words; empty = empty_new k (routine_name r) f e } in
    let d = define_formals_at g h j in
    let ends = formals_end j g f x.n h [] j stands (begin j f.region x.n stands.below) in
    let next = (define_formals_at-lasts (opened_lasts (tables_last x) g f) g h).of j start in
    let rest = either_comes x j g f names body o d.known begun next ends.turn st.seat.formals
    (record { first = site.first; stated = st.body; part = site.part }) (completed_fits x k rs r o seats s site is seen)
    (λ block. is ∙ completed_by_none x.k x.t k site.before rs r s.orderly st.seat block) in
    record {
      tables = rest.tables;
      none = λ told. elim (in_either b d.broken ((define_body g body >>= λ _. define_completion g o) d.known).broken told) [
        | inl here ↦ none_second x.k j f.region (names ++ names_in_body body) x.n begun.words begun.empty site.first.names
            (wrong_first (rule_two (place x j f.region)) [] names (names_in_body body) (ends.forth here))
        | inr later ↦ rest.none later
      ];
    }

abbrev IsTold : Break → Type 0
IsTold b = Unit {0}

abbrev FirstFields : Looked → FieldsTree → Type 0
FirstFields x fields = IsNoSecondName x.k x.n (field_names Wanted.Fields fields)

abbrev FirstFormals : Looked → HeadingTree → Type 0
FirstFormals x h = IsNoSecondName x.k x.n (heading_names h)

entering : (x : Looked) → Seats x.t x.t → Entering (FirstFields x) (FirstFormals x) (Site x) (Tables x) IsTold (aim x)
entering x seats = record {
  low = without (tables_all x);
  spelled = λ k s. s.orderly.both.sound.words;
  records = record {
    plain = plain x;
    fields = λ k word f fields e words first. each_in x.n (define_record (length k.frames) fields (and_region k word f)).broken
        (record_none x k word f fields e words first);
  };
  formals = record {
    plain = plain x;
    formals = λ k token f h e words first. each_in x.n (define_formals_at (length k.frames) h (and_region k token f)).broken
        (heading_none x k token f h e words first);
  };
  inside = λ k f rs r o s e site is seen.
      let c = inside_comes x k f rs r o seats s e site is seen in
      record {
        kept = c.tables;
        told = λ w. each_in x.n (define_inside (length k.frames) (routine_heading r) (routine_body r) o (and_region k (routine_name r) f)).broken c.none;
      };
}

-- ---- the program's block

file_same : (k j : Known) (token : ℕ) → j.words ≡ k.words → j.names ≡ k.names → file_name j token ≡ file_name k token
file_same k j token words names =
    ap (λ (ws : List SpelledToken). file_name (record j { words = ws }) token) words
    ∙ ap (λ (ns : List (List ℕ)). file_name (record k { names = ns }) token) names

files_same : (k j : Known) (xs : List ℕ) → j.words ≡ k.words → j.names ≡ k.names → file_names j xs ≡ file_names k xs
files_same k j [] words names = refl
files_same k j (y ∷ ys) words names =
    ap (λ l. l ++ file_names j ys) (file_same k j y words names) ∙ ap (λ l. file_name k y ++ l) (files_same k j ys words names)

parameters_same : (k j : Known) (o : Option ParametersTree) → j.words ≡ k.words → j.names ≡ k.names → parameter_names j o ≡ parameter_names k o
parameters_same k j None words names = refl
parameters_same k j (Some p) words names = files_same k j (listed_names p.names) words names

program_comes : (x : Looked) (t : ProgramTree) (k : Known) (f : Frame) → x.t ≡ t.block → IsDistinct (tree_node t) → Stated x.k x.t t.block → Tables x k
    → f.region ≡ length k.regions → IsNoSecondIn x.k x.n (parameter_names x.k t.parameters) (tree.a_block_body t.block) → PartOf x (part_of t.block)
    → let d = define_program (length k.frames) t (and_region k 0 f) in Comes x d.known d.broken
unfolding define_program look ◌>>=◌
program_comes x t k f is distinct st s e first own =
    let j = and_region k 0 f in
    let g = length k.frames in
    let b = broken_at 2 x.n in
    let stands = opened k 0 f e in
    let begun : Begun x j f.region = record { words = s.orderly.both.sound.words; empty = empty_new k 0 f e } in
    let start : Opened (Tables x) g f j = record {
      kept = (tables_last x).regions k 0 f s;
      stands = stands;
      none = unlabelled_new k 0 f e;
    } in
    let rest : ℕ → Step (Unit {0}) = λ region. program_parameters region t.parameters >>= λ _. define_block g t.block in
    let d = program_parameters f.region t.parameters j in
    let ends = (parameters_go (place x j f.region) t.parameters).of [] j (begin j f.region x.n stands.below) in
    let next = (program_parameters-lasts (opened_lasts (tables_last x) g f) f.region t.parameters).of j start in
    let names = parameter_names j t.parameters in
    let roomy = s.orderly.both.roomy in
    let same = parameters_same x.k j t.parameters roomy.words roomy.names in
    let all : IsNoSecondIn x.k x.n names (tree.a_block_body t.block)
    = subst (λ l. IsNoSecondIn x.k x.n l (tree.a_block_body t.block)) (sym same) first in
    let nobody : Each (Nobody x.t) names = subst (λ (c : BlockTree). Each (Nobody c) names) (sym is) (parameters-in (Nobody t.block) j t.parameters
    (every_has (Nobody t.block) (parameters_node t.parameters) (λ n has some. distinct.1.1.2 n has (inr (inl (block_has AnyKind n t.block some)))))) in
    let come = block_comes x j g f names t.block d.known begun next ends.turn all st nobody own in
    let here : Comes x (rest f.region j).known (rest f.region j).broken = record {
      tables = come.tables;
      none = λ told. elim (in_either b d.broken (define_block g t.block d.known).broken told) [
        | inl early ↦ none_second x.k j f.region (names ++ block_names t.block) x.n begun.words begun.empty all.names
            (wrong_first (rule_two (place x j f.region)) [] names (block_names t.block) (ends.forth early))
        | inr later ↦ come.none later
      ];
    } in
    subst (λ region. Comes x (rest region j).known (rest region j).broken) (ap (λ (h : Frame). h.region) (sym (stands_at g f j stands))) here

-- ---- how many there are in a part

more_than : (xs : List Item) (x : Item) (ys : List Item) → 1 ≤ length (xs ++ x ∷ ys)
more_than xs x ys = let all = length-append xs (x ∷ ys) in omega (arith, all)

one_token : (heading : HeadingTree) (semicolon : ℕ) (body : BodyTree) (last_semicolon : ℕ)
    → 1 ≤ length (spell (routine_node (tree.a_routine heading semicolon body last_semicolon)))
one_token heading semicolon body last_semicolon = more_than (spell (heading_node heading)) _ _

few_routines : (rs : RoutineTrees) → length (routines_in rs) ≤ length (spell (routines_node rs))
few_routines tree.end_of_routines = omega arith
few_routines (tree.more_routines (tree.a_routine heading semicolon body last_semicolon) rest) =
    let r = tree.a_routine heading semicolon body last_semicolon in
    let more = few_routines rest in
    let all = length-append (spell (routine_node r)) (spell (routines_node rest)) in
    let own = one_token heading semicolon body last_semicolon in
    omega (arith, more, all, own)

few_part : (rs : RoutineTrees) → Short 0 (routines_node rs) → length (routines_in rs) ≤ 4294967295
few_part rs short = let is = short.is in let few = few_routines rs in omega (arith, is, few)

-- ---- all procedures and functions of a text

after_each : (P : List RoutineTree → RoutineTree → Type 0) (done : List RoutineTree) (rs : RoutineTrees) → OfEachAfter P done rs → (before : List RoutineTree)
    (s : RoutineTree) (after : List RoutineTree) → routines_in rs ≡ before ++ s ∷ after → P (done ++ before) s
after_each P done tree.end_of_routines h [] s after e = absurd (let never : [] ≡ s ∷ after = e in cc)
after_each P done tree.end_of_routines h (y ∷ ys) s after e = absurd (let never : [] ≡ y ∷ (ys ++ s ∷ after) = e in cc)
after_each P done (tree.more_routines r rest) h [] s after e =
    let at : r ≡ s = (let same : r ∷ routines_in rest ≡ s ∷ after = e in cc) in
    subst (λ l. P l s) (sym (append-nil done)) (subst (P done) at (own r h.0))
  where
    own : (q : RoutineTree) → OfRoutineAfter P done q → P done q
    own (tree.a_routine heading semicolon body last_semicolon) g = g.0
after_each P done (tree.more_routines r rest) h (y ∷ ys) s after e =
    let at : r ≡ y = (let same : r ∷ routines_in rest ≡ y ∷ (ys ++ s ∷ after) = e in cc) in
    let more : routines_in rest ≡ ys ++ s ∷ after = (let same : r ∷ routines_in rest ≡ y ∷ (ys ++ s ∷ after) = e in cc) in
    subst (λ l. P l s) (append_assoc done (r ∷ []) ys ∙ ap (λ q. done ++ q ∷ ys) at) (after_each P (done ++ r ∷ []) rest h.1 ys s after more)

body_part : (x : Looked) (body : BodyTree) → IsDistinct (body_node body) → Short 0 (body_node body)
    → ((m p : ℕ) → Has (body_node body) m → PartsInBody (JoinedAt x m p) body → AllJoined x m p) → OfBodyAfter (IsNoSecondOf x.k x.n) body
    → PartOfBody x body
body_part x (tree.a_directive directive) d short forward firsts = tt
body_part x (tree.a_block_body (tree.a_block labels constants types variables routines body)) d short forward firsts = record {
  few = few_part routines (short_left (short_right (short_right (short_right (short_right short)))));
  one = λ q r a b e. one_of_name routines q r d.1.1.1.1.0 a b e;
  joined = λ before s after e second. subst (λ l. IsNoSecondIn x.k x.n l (routine_body s)) (formals_first x.k before s (second_named x.k before s second))
      ((after_each (IsNoSecondOf x.k x.n) [] routines firsts before s after e).joined second);
  forward = λ m p q among e here.
      forward m p (inr (inr (inr (inr (inl (subst (Has (routines_node routines)) e (member_has q routines among)))))))
      (here, inside_each x m p routines q d.1.1.1.1.0 among e);
}

abbrev SeenPart : Looked → (all rs : RoutineTrees) → Type 0
SeenPart x all rs = SeenEach (FirstFields x) (FirstFormals x) (Site x) all rs

mutual
  site_block : (x : Looked) (b : BlockTree) → IsDistinct (block_node b) → Short 0 (block_node b)
      → ((before : List RoutineTree) (r : RoutineTree) (n : ℕ) → SomeAt (Exactly before r) n b → SomeAt (Exactly before r) n x.t)
      → ((m p : ℕ) → Has (block_node b) m → OfParts (JoinedAt x m p) b → AllJoined x m p) → ((m p : ℕ) → AllJoined x m p → OfParts (JoinedAt x m p) b)
      → OfRecordsIn (FirstFields x) b → OfRoutines (IsOfText x.k x.t) b → OfRoutinesAfter (IsNoSecondOf x.k x.n) b
      → SeenBlock (FirstFields x) (FirstFormals x) (Site x) b
  site_block x (tree.a_block labels constants types variables routines body) d short up forward back records text firsts =
      site_part x routines [] routines d.1.1.1.1.0 d.1.1.1.1.0 (short_left (short_right (short_right (short_right (short_right short)))))
      (λ before r n h. up before r n h)
      (λ m p has off here. forward m p (inr (inr (inr (inr (inl has))))) ((λ q c among e at. absurd (off q among e)), here))
      (λ m p a. (back m p a).0) (λ m p a. (back m p a).1) records.2 (λ r h. h) text firsts

  site_part : (x : Looked) (all : RoutineTrees) (before : List RoutineTree) (rs : RoutineTrees) → IsDistinct (routines_node all)
      → IsDistinct (routines_node rs) → Short 0 (routines_node rs)
      → ((b : List RoutineTree) (r : RoutineTree) (n : ℕ) → SomeIn (Exactly b r) n before rs → SomeAt (Exactly b r) n x.t)
      → ((m p : ℕ) → Has (routines_node rs) m → ((q : RoutineTree) → Member q (routines_in all) → routine_name q ≡ m → ⊥)
      → PartsInEach (JoinedAt x m p) rs → AllJoined x m p)
      → ((m p : ℕ) → AllJoined x m p → JoinedAt x m p all) → ((m p : ℕ) → AllJoined x m p → PartsInEach (JoinedAt x m p) rs)
      → InRoutines (FirstFields x) rs → ((r : RoutineTree) → Member r (routines_in rs) → Member r (routines_in all))
      → OfEach (IsOfText x.k x.t) rs → OfEachAfter (IsNoSecondOf x.k x.n) before rs → SeenPart x all rs
  site_part x all before tree.end_of_routines da d short up forward own back records among text firsts = tt
  site_part x all before (tree.more_routines r rest) da d short up forward own back records among text firsts = (
    site_routine x all before r d.0 (short_left short) (λ b q n h. up b q n (inl h))
        (λ m p has here. forward m p (inl (body_has r m has)) (λ q a e. names_apart all q r m da a (among r (inl refl)) e has)
        (here, off_each x m p rest (λ i. d.2 m (body_has r m has) i))) own (λ m p a. (back m p a).0) records.0 (among r (inl refl)) text.0 firsts.0,
    site_part x all (before ++ r ∷ []) rest da d.1 (short_right short) (λ b q n h. up b q n (inr h))
        (λ m p has off here. forward m p (inr has) off (off_one x m p r (λ i. d.2 m i has), here)) own (λ m p a. (back m p a).1) records.1
        (λ q h. among q (inr h)) text.1 firsts.1,
  )

  site_routine : (x : Looked) (all : RoutineTrees) (before : List RoutineTree) (r : RoutineTree) → IsDistinct (routine_node r) → Short 0 (routine_node r)
      → ((b : List RoutineTree) (q : RoutineTree) (n : ℕ) → SomeOf (Exactly b q) n before r → SomeAt (Exactly b q) n x.t)
      → ((m p : ℕ) → Has (body_node (routine_body r)) m → PartsInOne (JoinedAt x m p) r → AllJoined x m p)
      → ((m p : ℕ) → AllJoined x m p → JoinedAt x m p all) → ((m p : ℕ) → AllJoined x m p → PartsInOne (JoinedAt x m p) r)
      → InRoutine (FirstFields x) r → Member r (routines_in all) → OfRoutine (IsOfText x.k x.t) r → OfRoutineAfter (IsNoSecondOf x.k x.n) before r
      → SeenRoutine (FirstFields x) (FirstFormals x) (Site x) all r
  site_routine x all before (tree.a_routine heading semicolon body last_semicolon) d short up forward own back records member text firsts =
      let r = tree.a_routine heading semicolon body last_semicolon in
      let n = heading_name heading in
      let within = short_left (short_right (short_right short)) in (
        record {
          records = body_records x body records;
          heading = firsts.0.formals;
          site = record {
            before = before;
            at = up before r n (inl (refl, (refl, refl)));
            text = text;
            first = firsts.0.own;
            back = λ position c a found. own n position a r c member refl found;
            part = body_part x body d.1.1.0 within forward firsts.1;
          };
        },
        site_body x body d.1.1.0 within (λ b q m h. up b q m (inr h)) forward back records text.1 firsts.1,
      )

  site_body : (x : Looked) (body : BodyTree) → IsDistinct (body_node body) → Short 0 (body_node body)
      → ((b : List RoutineTree) (q : RoutineTree) (n : ℕ) → SomeInside (Exactly b q) n body → SomeAt (Exactly b q) n x.t)
      → ((m p : ℕ) → Has (body_node body) m → PartsInBody (JoinedAt x m p) body → AllJoined x m p)
      → ((m p : ℕ) → AllJoined x m p → PartsInBody (JoinedAt x m p) body)
      → InBody (FirstFields x) body → OfBody (IsOfText x.k x.t) body → OfBodyAfter (IsNoSecondOf x.k x.n) body
      → SeenBody (FirstFields x) (FirstFormals x) (Site x) body
  site_body x (tree.a_directive directive) d short up forward back records text firsts = tt
  site_body x (tree.a_block_body b) d short up forward back records text firsts = site_block x b d short up forward back records text firsts

  body_records : (x : Looked) (body : BodyTree) → InBody (FirstFields x) body → RecordsInBody (FirstFields x) body
  body_records x (tree.a_directive directive) h = tt
  body_records x (tree.a_block_body b) h = own_records x b h

  own_records : (x : Looked) (b : BlockTree) → OfRecordsIn (FirstFields x) b → OwnRecords (FirstFields x) b
  own_records x (tree.a_block labels constants types variables routines body) h = (h.0, h.1)

-- ---- a text

start : (l : Lexed) (t : ProgramTree) (n : ℕ) → Tables (record { k = known_at_start l; t = t.block; n = n }) (known_at_start l)
start l t n = record {
  orderly = start_orderly l t.block;
  joined = λ m function position e. absurd (blank (length l.tokens + length required_names) m (PartRow.Forward function (Some position)) e);
}
  where
    blank : (size m : ℕ) (r : PartRow) → unwrap_or (slice_get (replicate size Row.Nothing) m) Row.Nothing ≡ Row.Part r → ⊥
    blank zero m r e = cc
    blank (suc size) zero r e = cc
    blank (suc size) (suc m) r e = blank size m r e

-- what is told of the declarations of a text
declared_none : (l : Lexed) (t : ProgramTree) (token : ℕ) → spell (tree_node t) ≡ items_of l.tokens → length l.tokens < 2 ^ 32
    → IsNoSecond (known_at_start l) t token → Each (Misses 2 token) (program_step t (known_at_start l)).broken
declared_none l t token spelled few first =
    let k = known_at_start l in
    let x : Looked = record { k = k; t = t.block; n = token } in
    let y = whole l t spelled in
    let d = y.distinct.1.1.1.1.0 in
    let long = text_length l.tokens t spelled in
    let all : Short 0 (tree_node t) = record { is = omega (arith, long, few) } in
    let short = short_left (short_right (short_right (short_right (short_right all)))) in
    let seen = site_block x t.block d short (λ before r n h. h) (λ m p has here. here) (λ m p a. a) first.records y.all first.routines in
    let own = body_part x (tree.a_block_body t.block) d short (λ m p has here. here) first.routines in
    (program-came (entering x y.seats) t k (start l t token) (own_records x t.block first.records) seen (λ j f i e.
    let c = program_comes x t j f refl y.distinct y.stated i e first.program own in
    record { kept = c.tables; told = λ w. each_in token (define_program (length j.frames) t (and_region j 0 f)).broken c.none })).told (λ c i. tt)

pub text_two_law : TextsBreakTwo
unfolding check_step ◌>>=◌
text_two_law l t token spelled few first told =
    let k = known_at_start l in
    let b = broken_at 2 token in
    let d = program_step t k in
    let e = code_block d.value t.block d.known in
    elim (in_either b d.broken e.broken (found b (d.broken ++ e.broken) told)) [
      | inl early ↦ of_each (Misses 2 token) b d.broken (declared_none l t token spelled few first) early refl
      | inr late ↦
          let used = (of_each (Used Anywhere loose) b e.broken ((code_block-touches d.value t.block).told d.known) late).used in
          (let never : true ≡ false = used in cc)
    ]
