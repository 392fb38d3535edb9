-- Where the labels of a text are declared, and which are found from the frames of its procedures and functions.
use Rattle.std.proofs.Common.{◌++◌, ◌+◌, ◌<◌, ◌∙◌, ◌∷◌, ◌≡◌, ◌≤◌, ◌⊎◌, [], ℕ, Bool, List, None, Option, Some, ap, arith, false, inl, inr, length, map, nat_eq}
use Rattle.std.proofs.Common.{nat_le, refl, replicate, slice_get, subst, suc, sym, true, unwrap_or, zero}
use Rattle.std.{proofs.lemmas.List.append_assoc, proofs.lemmas.Option.none-some, specs.Map.lookup}
use Rattle.pas_lexer.specs.Lexed.{Lexed}
use Rattle.pas_tree.specs.{HeadingPlaces.heading_name, HeadingTrees.HeadingTree, StatementPlaces.compound_word, declared.blocks.NextLabel.NextLabel}
use Rattle.pas_tree.specs.BlockTrees.{BlockTree, BodyTree, LabelPartTree, ProgramTree, RoutineTree, RoutineTrees, routine_body, routine_heading}
use Rattle.pas_tree.specs.BlockTrees as tree
use Rattle.pas_tree.specs.TreeNodes.{routine_node, routines_node}
use Rattle.core_program.specs.declared.rows.{NameRow.NameRow, PartRow.PartRow, Row.Row, TypeRow.TypeRow}
use Rattle.check_steps.specs.{Known.with_routine, Known.with_row, Regions.RegionRows, Regions.declared_in, Regions.fresh_region, Regions.region_at}
use Rattle.check_steps.specs.{Required.open_outermost, Words.known_at_start, Words.required_names, declared.breaks.Break.Break, declared.regions.Frame.Frame}
use Rattle.check_steps.specs.Known.{Known, and_choice, and_definition, and_frame, and_label, and_region, and_routine, frame_at, label_at, name_at, row_at}
use Rattle.check_steps.specs.Steps.{◌>>=◌, change, extend, give, look}
use Rattle.denoter_checker.specs.{Formals.is_function, Headings.signature}
use Rattle.denoter_checker.specs.RoutineParts.{block_in, completion_of, define_routines, routine_name}
use Rattle.decl_checker.specs.{Labels.define_label, Labels.define_labels, Labels.define_next_label, Scopes.routine_region, declared.routines.Entered.Entered}
use Rattle.decl_checker.specs.Blocks.{define_block, define_constants, define_types, define_variables, parts, put_body}
use Rattle.decl_checker.specs.Programs.{define_program, main_row, open_program, program_step}
use Rattle.decl_checker.specs.Routines.{add_heading, block, body_in, define_body, define_completion, define_inside, enter_at, enter_heading, first_heading}
use Rattle.decl_checker.specs.Routines.{heading_row, one_deeper, open_routine, own_frame, routine, routines_in}
use Rattle.rule_laws.proofs.{Breaks.Each, Calm.Calm, Calm.CalmBody, Calm.CalmOf, Calm.CalmPart, Chains.seconds_same, Faces.row_either}
use Rattle.rule_laws.proofs.{LastsFormals.define_formals_at-lasts, LastsHeadings.signature-lasts, LastsParameters.program_parameters-lasts}
use Rattle.rule_laws.proofs.{LastsPrograms.open_program-lasts, LastsRequired.all_names-lasts, LastsRequired.ordinal_types-lasts}
use Rattle.rule_laws.proofs.{LastsRoutineParts.define_routines-lasts, LastsRoutines.after_completion, LastsStatements.compound_uses-lasts, Listed.Listed}
use Rattle.rule_laws.proofs.{Listed.each_at, Listed.each_listed, Mated.listed_earlier, Mated.listed_one, MatedText.defined_program, MatedWalk.routine_walks}
use Rattle.rule_laws.proofs.{Paired.paired, PartTurns.NoRoutine, PartTurns.Orderly, PartTurns.SecondOf, PartTurns.orderly_lasts, Regions.label_either}
use Rattle.rule_laws.proofs.{Regions.label_frame, Regions.last_region, Seats.Seats, Seats.SeatsIn, Seats.SeatsInside, Seats.SeatsOf, TextBlocks.Whole}
use Rattle.rule_laws.proofs.{TextBlocks.program_stays, TextBlocks.start_orderly, TextFields.Any, TextFields.any_each, TextForwards.part_apart}
use Rattle.rule_laws.proofs.{TextForwards.routine_has, TextHeadings.IsOfText, TextTables.OfOther, TextTables.each_next, TextTables.outer_frame, Touches.Longer}
use Rattle.rule_laws.proofs.Chains.{Below, Chain, IsHome, IsLevel, Names, Scope, Site, Sites, SitesBody, SitesEach, SitesRoutine, Ways, first_forward}
use Rattle.rule_laws.proofs.Keeping.{Keeps, ask-keeps, bind-keeps, give-keeps, look-keeps, put-keeps}
use Rattle.rule_laws.proofs.Lasting.{Ends, Lasting, declare_in-keeps, each_of-lasts, is_quiet, with_completion}
use Rattle.rule_laws.proofs.LastsBlocks.{define_constants-lasts, define_types-lasts, define_variables-lasts, parts-lasts, put_body-lasts}
use Rattle.rule_laws.proofs.Laters.{Held, Kept, Later, Way, got_below, held_here, held_on, held_up, kept_definition, kept_frame, kept_label, kept_less}
use Rattle.rule_laws.proofs.Laters.{kept_program, kept_region, longer_length, way_later, way_map, way_new}
use Rattle.rule_laws.proofs.MatedWalk.{PartText, Teller, choose, completes_second, completing_row, enter, ground, none_first, one_text, parts_laid}
use Rattle.rule_laws.proofs.PartWalk.{Fresh, Stated, StatedIn, completed_by_none, fresh_is_clean, heading_stays, routine_stated}
use Rattle.rule_laws.proofs.Standing.{Stands, got_still, no_frame, opened, stands_at}
use Rattle.rule_laws.proofs.Walking.{Home, IsLaid, LaidIn, Walking, begin_walking, behind_off, go_on, laid_same, one_node}
use Rattle.rule_laws.specs.{NameLaws.block_labels, NameLaws.block_routines, RegionNames.labels_of, TextLaws.labels_in_body, Tokens.Has, Tokens.IsDistinct}
use Rattle.rule_laws.specs.ForwardHeadings.{has_forward, is_block, routines_in as listed}
use Rattle.rule_laws.specs.TextParts.{OfBody, OfEach, OfRoutine, OfRoutines}

-- ---- the tables of a text

abbrev pub Never : ℕ → Type 0
Never d = ⊥

-- a frame of a level
pub record IsAt (g n : ℕ) (j : Known) : Type 0 where
  pub frame : Frame
  pub there : slice_get j.frames g ≡ Some frame
  pub level : frame.level ≡ n

-- From the outermost frame no label is found.
pub record First (i : Known) : Type 0 where
  pub inside : 0 < length i.regions
  pub home : (region_at i.regions 0).frame ≡ 0
  pub way : Way Never 0 i

-- a region of a procedure or function whose name stands at a token
pub record Head (c : Chain) (x region : ℕ) (i : Known) : Type 0 where
  pub inside : region < length i.regions
  pub there : (region_at i.regions region).frame < length i.frames
  pub scope : Names c x i (region_at i.regions region).frame

-- the text; the levels of some frames, and the frames from which labels are found that are not further in
pub record Walk : Type 1 where
  pub c : Chain
  pub S : ℕ → ℕ → Type 0
  pub T : ℕ → ℕ → Type 0

-- Regions below a number don't change.
pub record View (p : Walk) (b : ℕ) (j : Known) : Type 0 where
  pub rows : (d : ℕ) (marked : Bool) (v l ways : ℕ) → row_at j d ≡ Row.Name (NameRow.Label marked v l ways) → IsLevel p.c d l
  pub heads : (x : ℕ) (assigned : Bool) (n region : ℕ) → row_at j x ≡ Row.Name (NameRow.Routine assigned n region) → Held b (Head p.c x region) j
  pub first : Held b First j
  pub levels : (g n : ℕ) → p.S g n → IsAt g n j
  pub paths : (g n : ℕ) → p.T g n → Held b (Way (λ d. Below p.c (suc n) d) g) j
  pub many : b ≤ length j.regions

at_longer : (g n : ℕ) (i j : Known) → Longer i.frames j.frames → IsAt g n i → IsAt g n j
at_longer g n i j l s = record {
  frame = s.frame;
  there = ap (λ (fs : List Frame). slice_get fs g) l.is ∙ got_still i.frames l.more g s.frame s.there;
  level = s.level;
}

view_on : (p : Walk) (b : ℕ) (i j : Known) → Kept b i j
    → ((d : ℕ) (marked : Bool) (v l ways : ℕ) → row_at j d ≡ Row.Name (NameRow.Label marked v l ways) → IsLevel p.c d l)
    → ((x : ℕ) (assigned : Bool) (n region : ℕ) → row_at j x ≡ Row.Name (NameRow.Routine assigned n region) → Held b (Head p.c x region) i)
    → View p b i → View p b j
view_on p b i j kept rows heads s = record {
  rows = rows;
  heads = λ x assigned n region e. held_on b i j kept (heads x assigned n region e);
  first = held_on b i j kept s.first;
  levels = λ g n h. at_longer g n i j kept.frames (s.levels g n h);
  paths = λ g n h. held_on b i j kept (s.paths g n h);
  many = (let few = s.many in let more = kept.many in omega (arith, few, more));
}

-- the same rows
view_same : (p : Walk) (b : ℕ) (i j : Known) → Later i j → ((x : ℕ) → row_at j x ≡ row_at i x) → View p b i → View p b j
view_same p b i j later same s = view_on p b i j (kept_less b (length i.regions) i j s.many later)
    (λ d marked v l ways e. s.rows d marked v l ways (sym (same d) ∙ e)) (λ x assigned n region e. s.heads x assigned n region (sym (same x) ∙ e)) s

view_row : (p : Walk) (b : ℕ) (j : Known) (m : ℕ) (r : Row)
    → ((marked : Bool) (v l ways : ℕ) → r ≡ Row.Name (NameRow.Label marked v l ways) → IsLevel p.c m l)
    → ((assigned : Bool) (n region : ℕ) → r ≡ Row.Name (NameRow.Routine assigned n region) → Held b (Head p.c m region) j)
    → View p b j → View p b (with_row j m r)
view_row p b j m r label head s = view_on p b j (with_row j m r) (kept_program b j (with_row j m r) refl refl)
    (λ d marked v l ways e. elim (row_either j m d r) [
      | inl old ↦ s.rows d marked v l ways (sym old ∙ e)
      | inr new ↦ subst (λ x. IsLevel p.c x l) (sym new.0) (label marked v l ways (sym new.1 ∙ e))
    ])
    (λ x assigned n region e. elim (row_either j m x r) [
      | inl old ↦ s.heads x assigned n region (sym old ∙ e)
      | inr new ↦ subst (λ y. Held b (Head p.c y region) j) (sym new.0) (head assigned n region (sym new.1 ∙ e))
    ]) s

no_label : (r : Row) (marked : Bool) (v l ways : ℕ) → is_quiet r ≡ true → r ≡ Row.Name (NameRow.Label marked v l ways) → ⊥
no_label r marked v l ways quiet e = let never : false ≡ true = sym (ap is_quiet e) ∙ quiet in cc

no_head : (r : Row) (assigned : Bool) (n region : ℕ) → is_quiet r ≡ true → r ≡ Row.Name (NameRow.Routine assigned n region) → ⊥
no_head r assigned n region quiet e = let never : false ≡ true = sym (ap is_quiet e) ∙ quiet in cc

no_part : {r : PartRow} {n : NameRow} → Row.Part r ≡ Row.Name n → ⊥
no_part e = cc

no_type : {t : TypeRow} {n : NameRow} → Row.Type t ≡ Row.Name n → ⊥
no_type e = cc

view_part : (p : Walk) (b : ℕ) (j : Known) (m : ℕ) (r : PartRow) → View p b j → View p b (with_row j m (Row.Part r))
view_part p b j m r s =
    view_row p b j m (Row.Part r) (λ marked v l ways e. absurd (no_part e)) (λ assigned n region e. absurd (no_part e)) s

view_lasts : {G : RoutineTree → Type 0} (p : Walk) (b : ℕ) → Lasting G (View p b)
view_lasts p b = record {
  puts = λ j m r quiet s. view_row p b j m r (λ marked v l ways e. absurd (no_label r marked v l ways quiet e))
      (λ assigned n region e. absurd (no_head r assigned n region quiet e)) s;
  stays = λ j m s. view_row p b j m (row_at j m) (λ marked v l ways e. s.rows m marked v l ways e)
      (λ assigned n region e. s.heads m assigned n region e) s;
  bodies = λ j n r same s. view_same p b j (with_routine j n r) (kept_program (length j.regions) j (with_routine j n r) refl refl) (λ x. refl) s;
  routines = λ j r s. view_same p b j (and_routine j r) (kept_program (length j.regions) j (and_routine j r) refl refl) (λ x. refl) s;
  frames = λ j f s. view_same p b j (and_frame j f) (kept_frame j f) (λ x. refl) s;
  regions = λ j token f s. view_same p b j (and_region j token f) (kept_region j token f) (λ x. refl) s;
  defines = λ j region d at s. view_same p b j (and_definition j region (name_at j d.token) d) (kept_definition j region (name_at j d.token) d) (λ x. refl) s;
  requires = λ j name d behind s. view_same p b j (and_definition j 0 name d) (kept_definition j 0 name d) (λ x. refl) s;
  chooses = λ j list v s. view_same p b j (and_choice j list v) (kept_program (length j.regions) j (and_choice j list v) refl refl) (λ x. refl) s;
  records = λ j word packed region cells variants fresh s. view_row p b j word (Row.Type (TypeRow.Record packed region cells variants))
      (λ marked v l ways e. absurd (no_type e)) (λ assigned n at e. absurd (no_type e)) s;
  waits = λ j r g none s. view_part p b j (routine_name r) (PartRow.Forward (is_function (routine_heading r)) None) s;
  completes = λ j region first position r g e s.
      let row = PartRow.Forward (is_function (routine_heading r)) (Some position) in
      view_part p b (with_row j first (Row.Part row)) (routine_name r) (PartRow.Completing first) (view_part p b j first row s);
}

-- ---- a block whose names are defined

-- A frame of a block stands, and its region, which is new, declares some labels.
record Opening (p : Walk) (b n : ℕ) (f : Frame) (Q : ℕ → Type 0) (j : Known) : Type 0 where
  view : View p b j
  stands : Stands n f j
  own : (region_at j.regions f.region).frame ≡ n
  beyond : b ≤ f.region
  mine : (v d : ℕ) → declared_in j.regions f.region v ≡ Some d → Q d

opening_on : (p : Walk) (b n : ℕ) (f : Frame) (Q : ℕ → Type 0) (i j : Known) → Later i j → View p b j → Opening p b n f Q i → Opening p b n f Q j
opening_on p b n f Q i j later view s = record {
  view = view;
  stands = record {
    there = ap (λ (fs : List Frame). slice_get fs n) later.frames.is ∙ got_still i.frames later.frames.more n f s.stands.there;
    below = (let below = s.stands.below in let more = later.many in omega (arith, below, more));
  };
  own = later.own f.region s.stands.below ∙ s.own;
  beyond = s.beyond;
  mine = λ v d e. s.mine v d (sym (later.labels f.region v s.stands.below) ∙ e);
}

-- nothing but the program changes
opening_in : (p : Walk) (b n : ℕ) (f : Frame) (Q : ℕ → Type 0) (i j : Known) → j.regions ≡ i.regions → j.frames ≡ i.frames → View p b j
    → Opening p b n f Q i → Opening p b n f Q j
opening_in p b n f Q i j regions frames view s = opening_on p b n f Q i j (kept_program (length i.regions) i j regions frames) view s

opening_ends : (p : Walk) (b n : ℕ) (f : Frame) (Q : ℕ → Type 0) → Ends (Opening p b n f Q)
opening_ends p b n f Q j region d s =
    let i = and_definition j region (name_at j d.token) d in
    let later = kept_definition j region (name_at j d.token) d in
    opening_on p b n f Q j i later (view_same p b j i later (λ x. refl) s.view) s

opening_lasts : {G : RoutineTree → Type 0} (p : Walk) (b n : ℕ) (f : Frame) (Q : ℕ → Type 0) → Lasting G (Opening p b n f Q)
opening_lasts {G = G} p b n f Q =
    let c : Lasting G (View p b) = view_lasts p b in
    record {
      puts = λ j m r quiet s. opening_in p b n f Q j (with_row j m r) refl refl (c.puts j m r quiet s.view) s;
      stays = λ j m s. opening_in p b n f Q j (with_row j m (row_at j m)) refl refl (c.stays j m s.view) s;
      bodies = λ j m r same s. opening_in p b n f Q j (with_routine j m r) refl refl (c.bodies j m r same s.view) s;
      routines = λ j r s. opening_in p b n f Q j (and_routine j r) refl refl (c.routines j r s.view) s;
      frames = λ j g s. opening_on p b n f Q j (and_frame j g) (kept_frame j g) (c.frames j g s.view) s;
      regions = λ j token g s. opening_on p b n f Q j (and_region j token g) (kept_region j token g) (c.regions j token g s.view) s;
      defines = λ j region d at s. opening_ends p b n f Q j region d s;
      requires = λ j name d behind s. opening_on p b n f Q j (and_definition j 0 name d) (kept_definition j 0 name d) (c.requires j name d behind s.view) s;
      chooses = λ j list v s. opening_in p b n f Q j (and_choice j list v) refl refl (c.chooses j list v s.view) s;
      records = λ j word packed region cells variants fresh s.
          opening_in p b n f Q j (with_row j word (Row.Type (TypeRow.Record packed region cells variants))) refl refl
          (view_row p b j word (Row.Type (TypeRow.Record packed region cells variants)) (λ marked v l ways e. absurd (no_type e))
          (λ assigned m at e. absurd (no_type e)) s.view) s;
      waits = λ j r g none s. opening_in p b n f Q j (with_row j (routine_name r) (Row.Part (PartRow.Forward (is_function (routine_heading r)) None))) refl refl
          (c.waits j r g none s.view) s;
      completes = λ j region first position r g e s.
          opening_in p b n f Q j (with_completion j first position (is_function (routine_heading r)) (routine_name r)) refl refl
          (c.completes j region first position r g e s.view) s;
    }

-- a label of the block
label_opening : (p : Walk) (b n : ℕ) (f : Frame) (Q : ℕ → Type 0) (j : Known) (value token : ℕ) → Q token → Opening p b n f Q j
    → Opening p b n f Q (and_label j f.region value token)
label_opening p b n f Q j value token ok s =
    let i = and_label j f.region value token in
    let kept = kept_label b j f.region value token s.beyond in
    record {
      view = view_on p b j i kept s.view.rows s.view.heads s.view;
      stands = record { there = s.stands.there; below = (let below = s.stands.below in let more = kept.many in omega (arith, below, more)) };
      own = label_frame j f.region value token f.region ∙ s.own;
      beyond = s.beyond;
      mine = λ v d e. elim (label_either j f.region value token f.region v d e) [
        | inl old ↦ s.mine v d old
        | inr new ↦ subst Q new.1 ok
      ];
    }

label_row_opening : (p : Walk) (b n : ℕ) (f : Frame) (Q : ℕ → Type 0) (j : Known) (token value : ℕ) → IsLevel p.c token f.level → Opening p b n f Q j
    → Opening p b n f Q (with_row j token (Row.Name (NameRow.Label false value f.level 0)))
label_row_opening p b n f Q j token value ok s =
    let r = Row.Name (NameRow.Label false value f.level 0) in
    opening_in p b n f Q j (with_row j token r) refl refl
    (view_row p b j token r (λ marked v l ways e. subst (λ x. IsLevel p.c token x) (same_level e) ok) (λ assigned m region e. absurd (no_routine e)) s.view) s
  where
    same_level : {a m : Bool} {v x l y w z : ℕ} → Row.Name (NameRow.Label a v l w) ≡ Row.Name (NameRow.Label m x y z) → l ≡ y
    same_level e = cc

    no_routine : {marked assigned : Bool} {v l ways number region : ℕ}
        → Row.Name (NameRow.Label marked v l ways) ≡ Row.Name (NameRow.Routine assigned number region) → ⊥
    no_routine e = cc

-- a label at its level
abbrev AtLevel : Walk → Frame → (ℕ → Type 0) → ℕ → Type 0
AtLevel p f Q d = IsLevel p.c d f.level × Q d

define_label-opening : (p : Walk) (b n : ℕ) (f : Frame) (Q : ℕ → Type 0) (token : ℕ) → AtLevel p f Q token
    → Keeps (Opening p b n f Q) (define_label f token)
unfolding define_label
define_label-opening p b n f Q token ok = bind-keeps (look-keeps (λ k. label_at k token)) (λ value.
    bind-keeps (ask-keeps _ token (nat_le value 9999)) (λ _.
    bind-keeps (declare_in-keeps f.region value token (λ k i. label_opening p b n f Q k value token ok.1 i))
    (λ _. put-keeps token (Row.Name (NameRow.Label false value f.level 0)) (λ k i. label_row_opening p b n f Q k token value ok.0 i))))

define_next_label-opening : (p : Walk) (b n : ℕ) (f : Frame) (Q : ℕ → Type 0) (u : Unit {0}) (l : NextLabel) → AtLevel p f Q l.number
    → Keeps (Opening p b n f Q) (define_next_label f u l)
unfolding define_next_label
define_next_label-opening p b n f Q u l ok = define_label-opening p b n f Q l.number ok

define_labels-opening : (p : Walk) (b n : ℕ) (f : Frame) (Q : ℕ → Type 0) (part : Option LabelPartTree) → Each (λ d. AtLevel p f Q d) (labels_of part)
    → Keeps (Opening p b n f Q) (define_labels f part)
define_labels-opening p b n f Q None all = give-keeps tt
define_labels-opening p b n f Q (Some part) all = bind-keeps (define_label-opening p b n f Q part.first all.0)
    (λ _. each_of-lasts (λ (l : NextLabel). AtLevel p f Q l.number) (define_next_label f) (λ a x ok. define_next_label-opening p b n f Q a x ok) tt part.others
    (each_next (λ d. AtLevel p f Q d) part.others all.1))

define_block-opening : (p : Walk) (b n : ℕ) (f : Frame) (Q : ℕ → Type 0) (t : BlockTree) → Each (λ d. AtLevel p f Q d) (block_labels t)
    → Keeps (Opening p b n f Q) (define_block n t)
unfolding look ◌>>=◌
define_block-opening p b n f Q (tree.a_block labels consts kinds variable_part routines body) all = record {
  of = λ j s.
      let c : Lasting Any (Opening p b n f Q) = opening_lasts p b n f Q in
      subst (λ (here : Frame). Opening p b n f Q ((define_labels here labels >>= λ _. define_constants here.region consts >>= λ _.
      define_types here.region kinds >>= λ _. define_variables here.region variable_part >>= λ _. define_routines here.region routines) j).known)
      (sym (stands_at n f j s.stands))
      ((bind-keeps (define_labels-opening p b n f Q labels all) (λ _. bind-keeps (define_constants-lasts (opening_ends p b n f Q) f.region consts) (λ _.
      bind-keeps (define_types-lasts c (opening_ends p b n f Q) f.region kinds) (λ _. bind-keeps (define_variables-lasts c f.region variable_part) (λ _.
      define_routines-lasts c f.region routines (any_each (listed routines))))))).of j s);
}

define_body-opening : (p : Walk) (b n : ℕ) (f : Frame) (Q : ℕ → Type 0) (body : BodyTree) → Each (λ d. AtLevel p f Q d) (labels_in_body body)
    → Keeps (Opening p b n f Q) (define_body n body)
define_body-opening p b n f Q (tree.a_directive directive) all = give-keeps tt
define_body-opening p b n f Q (tree.a_block_body t) all = define_block-opening p b n f Q t all

-- the labels of a procedure or function
abbrev Labels : (ℕ → Type 0) → RoutineTree → Type 0
Labels L r = Each L (labels_in_body (routine_body r))

define_completion-opening : (p : Walk) (b n : ℕ) (f : Frame) (Q : ℕ → Type 0) (o : Option RoutineTree) → OfOther (Labels (λ d. AtLevel p f Q d)) o
    → Keeps (Opening p b n f Q) (define_completion n o)
define_completion-opening p b n f Q None all = give-keeps tt
define_completion-opening p b n f Q (Some r) all = define_body-opening p b n f Q (routine_body r) all

define_inside-opening : (p : Walk) (b n : ℕ) (f : Frame) (Q : ℕ → Type 0) (h : HeadingTree) (body : BodyTree) (o : Option RoutineTree)
    → Each (λ d. AtLevel p f Q d) (labels_in_body body) → OfOther (Labels (λ d. AtLevel p f Q d)) o → Keeps (Opening p b n f Q) (define_inside n h body o)
unfolding define_inside
define_inside-opening p b n f Q h body o body-in o-in = bind-keeps (define_formals_at-lasts (opening_lasts {G = Any} p b n f Q) n h) (λ _.
    bind-keeps (define_body-opening p b n f Q body body-in) (λ _. define_completion-opening p b n f Q o o-in))

opening_start : (p : Walk) (b : ℕ) (Q : ℕ → Type 0) (j : Known) (token : ℕ) (f : Frame) → f.region ≡ length j.regions → View p b j
    → Opening p b (length j.frames) f Q (and_region j token f)
opening_start p b Q j token f fresh s =
    let x = fresh_region token (length j.frames) in
    let c : Lasting Any (View p b) = view_lasts p b in
    record {
      view = c.regions j token f s;
      stands = opened j token f fresh;
      own = ap (λ r. (region_at (j.regions ++ x ∷ []) r).frame) fresh ∙ ap (λ (r : RegionRows). r.frame) (last_region j.regions x);
      beyond = (let many = s.many in omega (arith, fresh, many));
      mine = λ v d e. absurd (none-some d (sym (ap (λ r. declared_in (j.regions ++ x ∷ []) r v) fresh
          ∙ ap (λ (r : RegionRows). lookup (nat_eq v) r.labels) (last_region j.regions x)) ∙ e));
    }

-- ---- a block whose names are known

-- one frame more of a level
abbrev AndAt : (ℕ → ℕ → Type 0) → (g n x m : ℕ) → Type 0
AndAt S g n x m = S x m ⊎ ((x ≡ g) × (m ≡ n))

abbrev inner : Walk → (g n : ℕ) → Walk
inner p g n = record { c = p.c; S = λ x m. AndAt p.S g n x m; T = λ x m. AndAt p.T g n x m }

closed : (p : Walk) (b n : ℕ) (f : Frame) (Q : ℕ → Type 0) (j : Known) (m : ℕ) → f.level ≡ m
    → Way (λ d. Below p.c (suc m) d) n j → Opening p b n f Q j → View (inner p n m) (length j.regions) j
closed p b n f Q j m same way s = record {
  rows = s.view.rows;
  heads = λ x assigned i region e. held_up b (length j.regions) j s.view.many (s.view.heads x assigned i region e);
  first = held_up b (length j.regions) j s.view.many s.view.first;
  levels = λ x k h. elim h [
    | inl old ↦ s.view.levels x k old
    | inr new ↦ record {
      frame = f;
      there = subst (λ y. slice_get j.frames y ≡ Some f) (sym new.0) s.stands.there;
      level = same ∙ sym new.1;
    }
  ];
  paths = λ x k h. elim h [
    | inl old ↦ held_up b (length j.regions) j s.view.many (s.view.paths x k old)
    | inr new ↦ subst (λ y. Held (length j.regions) (Way (λ d. Below p.c (suc k) d) y) j) (sym new.0)
        (subst (λ y. Held (length j.regions) (Way (λ d. Below p.c (suc y) d) n) j) (sym new.1) (held_here j way))
  ];
  many = omega arith;
}

-- ---- a procedure or function is entered

-- another that has its block
record Other (k : Known) (rs : RoutineTrees) (r other : RoutineTree) : Type 0 where
  earlier : List RoutineTree
  later : List RoutineTree
  one : listed rs ≡ earlier ++ other ∷ later
  second : SecondOf k (routine_name r) earlier other

-- one of a part, and which has its block
record IsEntered (k : Known) (t : BlockTree) (rs : RoutineTrees) (before : List RoutineTree) (r : RoutineTree) (after : List RoutineTree)
    (o : Option RoutineTree) : Type 0 where
  one : listed rs ≡ before ++ r ∷ after
  distinct : IsDistinct (routines_node rs)
  each : (other : RoutineTree) → o ≡ Some other → Other k rs r other
  alone : is_block (routine_body r) ≡ true → o ≡ None

-- the labels of its region
abbrev ByLabels : Option RoutineTree → ℕ → Type 0
ByLabels None d = ⊥
ByLabels (Some r) d = Listed (labels_in_body (routine_body r)) d

record IsLabelBy (o : Option RoutineTree) (d : ℕ) : Type 0 where
  other : RoutineTree
  is : o ≡ Some other
  listed : Listed (labels_in_body (routine_body other)) d

label_by : (o : Option RoutineTree) (d : ℕ) → ByLabels o d → IsLabelBy o d
label_by None d h = absurd h
label_by (Some r) d h = record { other = r; is = refl; listed = h }

abbrev OwnLabels : RoutineTree → Option RoutineTree → ℕ → Type 0
OwnLabels r o d = Listed (labels_in_body (routine_body r)) d ⊎ ByLabels o d

no_forward_labels : (k : Known) (body : BodyTree) (d : ℕ) → has_forward k body ≡ true → Listed (labels_in_body body) d → ⊥
no_forward_labels k (tree.a_directive directive) d forward h = h
no_forward_labels k (tree.a_block_body b) d forward h = let never : false ≡ true = forward in cc

-- those of one whose frame it is
own_labels : (k : Known) (t : BlockTree) (rs : RoutineTrees) (before : List RoutineTree) (r : RoutineTree) (after : List RoutineTree) (o : Option RoutineTree)
    → IsEntered k t rs before r after o → (e : List RoutineTree) (q : RoutineTree) (l : List RoutineTree) → listed rs ≡ e ++ q ∷ l
    → IsHome k e q (routine_name r) → (d : ℕ) → OwnLabels r o d → Listed (labels_in_body (routine_body q)) d
own_labels k t rs before r after o x e q l split (inl home) d (inl own) =
    let same = one_node rs x.distinct before r after e q l (routine_name r) x.one split (routine_has r)
    (subst (Has (routine_node q)) home.0 (routine_has q)) in
    subst (λ s. Listed (labels_in_body (routine_body s)) d) same.one own
own_labels k t rs before r after o x e q l split (inl home) d (inr by) =
    let same = one_node rs x.distinct before r after e q l (routine_name r) x.one split (routine_has r)
    (subst (Has (routine_node q)) home.0 (routine_has q)) in
    let b = label_by o d by in
    absurd (none-some b.other (sym (x.alone (ap (λ s. is_block (routine_body s)) same.one ∙ home.1)) ∙ b.is))
own_labels k t rs before r after o x e q l split (inr second) d (inl own) =
    let f = first_forward k e q (routine_name r) second in
    let one : listed rs ≡ f.earlier ++ f.q ∷ (f.later ++ q ∷ l) = split ∙ ap (λ m. m ++ q ∷ l) f.one ∙ append_assoc f.earlier (f.q ∷ f.later) (q ∷ l) in
    let same = one_node rs x.distinct before r after f.earlier f.q (f.later ++ q ∷ l) (routine_name r) x.one one (routine_has r)
    (subst (Has (routine_node f.q)) f.at (routine_has f.q)) in
    absurd (no_forward_labels k (routine_body r) d (ap (λ s. has_forward k (routine_body s)) same.one ∙ f.forward) own)
own_labels k t rs before r after o x e q l split (inr second) d (inr by) =
    let b = label_by o d by in
    let c = x.each b.other b.is in
    let same = seconds_same k (listed rs) c.earlier b.other c.later e q l (routine_name r) (part_apart rs x.distinct) c.one split c.second second in
    subst (λ s. Listed (labels_in_body (routine_body s)) d) same.one b.listed

-- what is so inside of it
record Enter (p : Walk) (g m : ℕ) (j : Known) : Type 0 where
  bound : ℕ
  view : View (inner p g m) bound j

others_too : (p : Walk) (k : Known) (rs : RoutineTrees) (r : RoutineTree) (f : Frame) (Q : ℕ → Type 0) (a : ℕ) (o : Option RoutineTree)
    → f.level ≡ one_deeper a
    → ((other : RoutineTree) → o ≡ Some other → Other k rs r other) → Site p.c a rs → ((d : ℕ) → ByLabels o d → Q d)
    → OfOther (Labels (λ d. AtLevel p f Q d)) o
others_too p k rs r f Q a None same each site all = tt
others_too p k rs r f Q a (Some s) same each site all =
    let c = each s refl in
    each_listed (λ d. AtLevel p f Q d) (labels_in_body (routine_body s)) (λ d i. (
      subst (λ l. IsLevel p.c d l) (sym same)
          (each_at (λ d. IsLevel p.c d (one_deeper a)) (labels_in_body (routine_body s)) (site.leveled c.earlier s c.later c.one) d i),
      all d i,
    ))

-- its labels are of its level
own_fixed : (p : Walk) (k : Known) (t : BlockTree) (rs : RoutineTrees) (before : List RoutineTree) (r : RoutineTree) (after : List RoutineTree)
    (o : Option RoutineTree) (a d l : ℕ)
    → IsEntered k t rs before r after o → Site p.c a rs → OwnLabels r o d → IsLevel p.c d l → l ≡ one_deeper a
own_fixed p k t rs before r after o a d l x site (inl own) level = site.fixed before r after x.one d l own level
own_fixed p k t rs before r after o a d l x site (inr by) level =
    let b = label_by o d by in
    let c = x.each b.other b.is in
    site.fixed c.earlier b.other c.later c.one d l b.listed level

site_scope : (p : Walk) (b n : ℕ) (f : Frame) (rs : RoutineTrees) (before : List RoutineTree) (r : RoutineTree) (after : List RoutineTree)
    (o : Option RoutineTree) (j : Known) (around a : ℕ) → IsEntered p.c.k p.c.t rs before r after o → Site p.c a rs
    → f.level ≡ one_deeper a → f.outer ≡ Some around → around < n → p.T around a
    → Opening p b n f (OwnLabels r o) j → Scope p.c (one_deeper a) rs (routine_name r) j n
site_scope p b n f rs before r after o j around a x site same outer less around-in s =
    let h = s.view.paths around a around-in in
    let w = way_later (λ d. Below p.c (suc a) d) around h.before j h.later h.is in
    let new = way_new (λ d. Below p.c (suc a) d) (OwnLabels r o) j n around f s.stands.there s.stands.below outer less w s.mine in
    let up = site.deeper before r after x.one in
    record {
      level = ap (λ (g : Frame). g.level) (stands_at n f j s.stands) ∙ same;
      path = way_map (λ d. OwnLabels r o d ⊎ Below p.c (suc a) d) (λ d. Below p.c (suc (one_deeper a)) d) n j (λ d y. elim y [
        | inl own ↦ at d own
        | inr far ↦ far_in d far up
      ]) new;
      own = λ e q l split home. way_map (λ d. OwnLabels r o d ⊎ Below p.c (suc a) d)
          (λ d. Listed (labels_in_body (routine_body q)) d ⊎ Below p.c (one_deeper a) d) n j (λ d y. elim y [
            | inl own ↦ inl (own_labels p.c.k p.c.t rs before r after o x e q l split home d own)
            | inr far ↦ inr (further d far up)
          ]) new;
    }
  where
    at : (d : ℕ) → OwnLabels r o d → Below p.c (suc (one_deeper a)) d
    at d own l level = let same_level = own_fixed p p.c.k p.c.t rs before r after o a d l x site own level in omega (arith, same_level)

    far_in : (d : ℕ) → Below p.c (suc a) d → a < one_deeper a → Below p.c (suc (one_deeper a)) d
    far_in d far up l level = let one = far l level in omega (arith, one, up)

    further : (d : ℕ) → Below p.c (suc a) d → a < one_deeper a → Below p.c (one_deeper a) d
    further d far up l level = let one = far l level in omega (arith, one, up)

opened_view : (p : Walk) (b around a : ℕ) (rs : RoutineTrees) (before : List RoutineTree) (r : RoutineTree) (after : List RoutineTree)
    (o : Option RoutineTree) (j : Known) → p.S around a → p.T around a → Site p.c a rs → IsEntered p.c.k p.c.t rs before r after o
    → View p b j → let d = after_completion around r o j in Enter p d.value.frame (one_deeper a) d.known
unfolding open_routine add_heading look extend change give ◌>>=◌
opened_view p b around a rs before r after o j around-in path-in site x s =
    let at = s.levels around a around-in in
    let less = got_below j.frames around at.frame at.there in
    let f : Frame = record { region = length j.regions; outer = Some around; level = one_deeper (frame_at j around).level; withs = 0 } in
    let same : f.level ≡ one_deeper a = ap one_deeper (ap (λ (o : Option Frame). (unwrap_or o no_frame).level) at.there ∙ at.level) in
    let n = length j.frames in
    let h = routine_heading r in
    let m = one_deeper a in
    let names = labels_in_body (routine_body r) in
    let Q : ℕ → Type 0 = OwnLabels r o in
    let own : Each (λ d. AtLevel p f Q d) names = each_listed (λ d. AtLevel p f Q d) names
    (λ d i. (subst (λ l. IsLevel p.c d l) (sym same) (each_at (λ d. IsLevel p.c d m) names (site.leveled before r after x.one) d i), inl i)) in
    let far = others_too p p.c.k rs r f Q a o same x.each site (λ d by. inr by) in
    let c : Lasting Any (Opening p b n f Q) = opening_lasts p b n f Q in
    let i = and_region j (routine_name r) f in
    let inside = define_inside n h (routine_body r) o i in
    let end = signature around n h inside.known in
    let one = (define_inside-opening p b n f Q h (routine_body r) o own far).of i (opening_start p b Q j (routine_name r) f refl s) in
    let two = (signature-lasts c around n h).of inside.known one in
    let here = frame_at end.known n in
    let row = heading_row h here.level end.value in
    let e = and_routine end.known row in
    let three = c.routines end.known row two in
    let scope = site_scope p b n f rs before r after o e around a x site same refl less path-in three in
    let view = closed p b n f Q e m same scope.path three in
    let head : Head p.c (heading_name h) f.region e = record {
      inside = three.stands.below;
      there = subst (λ g. g < length e.frames) (sym three.own) (got_below e.frames n f three.stands.there);
      scope = subst (λ g. Names p.c (routine_name r) e g) (sym three.own)
          (site.named (routine_name r) e n (listed_one (listed rs) before r after x.one) scope);
    } in
    let region : f.region ≡ here.region = ap (λ (g : Frame). g.region) (sym (stands_at n f end.known two.stands)) in
    record {
      bound = length e.regions;
      view = view_row (inner p n m) (length e.regions) e (heading_name h)
          (Row.Name (NameRow.Routine false (length end.known.program.routines) here.region))
          (λ marked v l ways y. absurd (no_marked y))
          (λ assigned number at y. subst (λ z. Held (length e.regions) (Head p.c (heading_name h) z) e) (region ∙ same_region y) (held_here e head)) view;
    }
  where
    same_region : {x y : Bool} {m i u w : ℕ} → Row.Name (NameRow.Routine x m u) ≡ Row.Name (NameRow.Routine y i w) → u ≡ w
    same_region e = cc

    no_marked : {marked assigned : Bool} {v l ways number region : ℕ}
        → Row.Name (NameRow.Routine assigned number region) ≡ Row.Name (NameRow.Label marked v l ways) → ⊥
    no_marked e = cc

record Got (fs : List Frame) (n : ℕ) : Type 0 where
  frame : Frame
  is : slice_get fs n ≡ Some frame

got_at : (fs : List Frame) (n : ℕ) → n < length fs → Got fs n
got_at [] n below = absurd (omega (arith, below))
got_at (y ∷ ys) zero below = record { frame = y; is = refl }
got_at (y ∷ ys) (suc n) below = let g = got_at ys n (omega (arith, below)) in record { frame = g.frame; is = g.is }

record IsRoutine (r : Row) (number region : ℕ) : Type 0 where
  assigned : Bool
  is : r ≡ Row.Name (NameRow.Routine assigned number region)

paired_routine : (r : Row) (number region : ℕ) → paired r ≡ Row.Name (NameRow.Routine false number region) → IsRoutine r number region
paired_routine (Row.Name (NameRow.Routine assigned m g)) number region e =
    record { assigned = assigned; is = ap (λ x. x) (same_routine assigned m g number region e) }
  where
    same_routine : (assigned : Bool) (m g number region : ℕ)
        → Row.Name (NameRow.Routine false m g) ≡ Row.Name (NameRow.Routine false number region)
        → Row.Name (NameRow.Routine assigned m g) ≡ Row.Name (NameRow.Routine assigned number region)
    same_routine assigned m g number region e = cc
paired_routine (Row.Part (PartRow.Forward function (Some position))) number region e = absurd (no_part e)
paired_routine (Row.Part (PartRow.Completing first)) number region e = absurd (no_part e)
paired_routine r number region e = absurd (nothing e)
  where
    nothing : {n : NameRow} → Row.Nothing ≡ Row.Name n → ⊥
    nothing e = cc

-- one that was entered at its first heading
resumed_view : (p : Walk) (b a : ℕ) (rs : RoutineTrees) (first : ℕ) (j : Known) → Site p.c a rs → Listed (map routine_name (listed rs)) first → Home j first
    → View p b j → Enter p (own_frame j first) (one_deeper a) j
resumed_view p b a rs first j site there home s =
    let row = paired_routine (row_at j first) home.number home.region home.row in
    let h = s.heads first row.assigned home.number home.region row.is in
    let g = (region_at h.before.regions home.region).frame in
    let scope = site.down first h.before g there h.is.scope in
    let same : own_frame j first ≡ g
    = ap (λ r. (region_at j.regions (routine_region r)).frame) row.is ∙ h.later.own home.region h.is.inside in
    let got = got_at h.before.frames g h.is.there in
    let at : IsAt g (one_deeper a) j = at_longer g (one_deeper a) h.before j h.later.frames (record {
      frame = got.frame;
      there = got.is;
      level = ap (λ (o : Option Frame). (unwrap_or o no_frame).level) (sym got.is) ∙ scope.level;
    }) in
    let path : Held b (Way (λ d. Below p.c (suc (one_deeper a)) d) g) j = record { before = h.before; later = h.later; few = h.few; is = scope.path } in
    record {
      bound = b;
      view = subst (λ x. View (inner p x (one_deeper a)) b j) (sym same) (record {
        rows = s.rows;
        heads = s.heads;
        first = s.first;
        levels = λ x m y. elim y [
          | inl old ↦ s.levels x m old
          | inr new ↦ subst (λ z. IsAt z m j) (sym new.0) (subst (λ z. IsAt g z j) (sym new.1) at)
        ];
        paths = λ x m y. elim y [
          | inl old ↦ s.paths x m old
          | inr new ↦ subst (λ z. Held b (Way (λ d. Below p.c (suc m) d) z) j) (sym new.0)
              (subst (λ z. Held b (Way (λ d. Below p.c (suc z) d) g) j) (sym new.1) path)
        ];
        many = s.many;
      });
    }

-- ---- what is told of each is nothing here

abbrev pub Any_told : Break → Type 0
Any_told b = Unit {0}

abbrev pub Any_law : List RoutineTree → RoutineTree → Type 0
Any_law before r = Unit {0}

pub any_teller : (k : Known) (t : BlockTree) → Teller k t Any_told Any_law
any_teller k t = record {
  first = λ frame before rs r j s st all second w. tt;
  second = λ frame before rs q j s st all_q earlier r later one listed is that all c formals w. tt;
}

abbrev AnyWalking : Chain → RoutineTrees → List RoutineTree → Known → Type 0
AnyWalking c rs rest j = Walking c.k c.t Any_told Any_law (listed rs) rest j

entered_view : (p : Walk) (b frame a : ℕ) (rs : RoutineTrees) (before : List RoutineTree) (r : RoutineTree) (rest : List RoutineTree) (j : Known)
    → p.S frame a → p.T frame a → Site p.c a rs → PartText p.c.k p.c.t rs → listed rs ≡ before ++ r ∷ rest → Orderly p.c.k p.c.t j
    → AnyWalking p.c rs (r ∷ rest) j → View p b j → let d = enter_heading frame rs r j in Enter p d.value.frame (one_deeper a) d.known
unfolding enter_heading first_heading look ◌>>=◌
entered_view p b frame a rs before r rest j frame-in path-in site x one s walking view =
    let k = p.c.k in
    let t = p.c.t in
    let row = row_at j (routine_name r) in
    let m = one_deeper a in
    let X : Option ℕ → Type 0 = λ q. let d = enter_at q frame rs r j in Enter p d.value.frame m d.known in
    elim (walking.ahead before r rest one (inl refl)) [
      | inr opened ↦ subst X (sym (completing_row row opened.first opened.row))
          (resumed_view p b a rs opened.first j site (listed_earlier (listed rs) before (r ∷ rest) opened.first one opened.behind) opened.home view)
      | inl new ↦
          let never : (first : ℕ) → paired row ≡ Row.Part (PartRow.Completing first) → ⊥ = λ first e.
          let y = new.mate first e in
          behind_off k t rs before r rest (ground k t rs before r rest x one) first y.1.listed y.0 in
          let here = one_text k t [] rs before r rest x.all x.seats x.calm one in
          let o = completion_of j rs r in
          let chosen = choose k t Any_told Any_law rs r rest j walking (block_in row) refl in
          subst X (sym (none_first row never)) (opened_view p b frame a rs before r rest o j frame-in path-in site (record {
            one = one;
            distinct = x.distinct;
            each = λ other is.
                let c = chosen.each other is in
                let that = one_text k t [] rs c.earlier other c.later x.all x.seats x.calm c.one in
                record {
                  earlier = c.earlier;
                  later = c.later;
                  one = c.one;
                  second = completes_second k t j c.earlier other s that.stated (record { first = routine_name r; row = c.row });
                };
            alone = λ block. completed_by_none k t j before rs r s here.stated.seat block;
          }) view)
    ]

-- ---- blocks

pub record World (p : Walk) (j : Known) : Type 0 where
  pub orderly : Orderly p.c.k p.c.t j
  pub bound : ℕ
  pub view : View p bound j

world_lasts : (p : Walk) → Lasting NoRoutine (World p)
world_lasts p =
    let G = NoRoutine in
    let c = orderly_lasts p.c.k p.c.t in
    let e : (b : ℕ) → Lasting G (View p b) = λ b. view_lasts p b in
    record {
      puts = λ j m r quiet s. record { orderly = c.puts j m r quiet s.orderly; bound = s.bound; view = (e s.bound).puts j m r quiet s.view };
      stays = λ j m s. record { orderly = c.stays j m s.orderly; bound = s.bound; view = (e s.bound).stays j m s.view };
      bodies = λ j n r same s. record { orderly = c.bodies j n r same s.orderly; bound = s.bound; view = (e s.bound).bodies j n r same s.view };
      routines = λ j r s. record { orderly = c.routines j r s.orderly; bound = s.bound; view = (e s.bound).routines j r s.view };
      frames = λ j f s. record { orderly = c.frames j f s.orderly; bound = s.bound; view = (e s.bound).frames j f s.view };
      regions = λ j token f s. record { orderly = c.regions j token f s.orderly; bound = s.bound; view = (e s.bound).regions j token f s.view };
      defines = λ j region d at s. record { orderly = c.defines j region d at s.orderly; bound = s.bound; view = (e s.bound).defines j region d at s.view };
      requires = λ j name d behind s. record {
        orderly = c.requires j name d behind s.orderly;
        bound = s.bound;
        view = (e s.bound).requires j name d behind s.view;
      };
      chooses = λ j list v s. record { orderly = c.chooses j list v s.orderly; bound = s.bound; view = (e s.bound).chooses j list v s.view };
      records = λ j word packed region cells variants fresh s. record {
        orderly = c.records j word packed region cells variants (record {
          before = fresh.before;
          held = fresh.held.orderly;
          opened = fresh.opened;
          there = fresh.there;
          none = fresh.none;
        }) s.orderly;
        bound = s.bound;
        view = view_row p s.bound j word (Row.Type (TypeRow.Record packed region cells variants)) (λ marked v l ways x. absurd (no_type x))
            (λ assigned n at x. absurd (no_type x)) s.view;
      };
      waits = λ j r g none s. absurd g;
      completes = λ j region first position r g x s. absurd g;
    }

-- a procedure or function is left
outside : (p : Walk) (g n b : ℕ) (j : Known) → View (inner p g n) b j → View p b j
outside p g n b j s = record {
  rows = s.rows;
  heads = s.heads;
  first = s.first;
  levels = λ x m h. s.levels x m (inl h);
  paths = λ x m h. s.paths x m (inl h);
  many = s.many;
}

mutual
  unfolding ◌>>=◌ give

  block_world : (p : Walk) (a frame number place : ℕ) (b : BlockTree) (j : Known) → p.S frame a → p.T frame a → Sites p.c a b
      → OfRoutines (IsOfText p.c.k p.c.t) b → Seats p.c.t b → Calm p.c.t b → Stated p.c.k p.c.t b → IsLaid p.c.k p.c.t Any_told (block_routines b) j
      → World p j → World p (block frame number place b j).known
  block_world p a frame number place (tree.a_block labels constants types variables routines body) j frame-in path-in sites all seats calm st laid w =
      let b = tree.a_block labels constants types variables routines body in
      let d1 = parts frame place b j in
      let d2 = put_body number d1.value (compound_word body) d1.known in
      let d3 = routines_in frame routines routines d2.known in
      let one = (parts-lasts (world_lasts p) frame place b).of j w in
      let two = (put_body-lasts (world_lasts p) number d1.value (compound_word body)).of d1.known one in
      let laid2 = parts_laid p.c.k p.c.t Any_told frame number place b j calm st laid in
      let text : PartText p.c.k p.c.t routines = record { all = all; seats = seats; calm = calm.1; distinct = calm.0.distinct } in
      let three = part_world p a frame [] routines routines d2.known frame-in path-in sites.0 sites.1 text all seats calm.1 refl two
      (begin_walking p.c.k p.c.t Any_told Any_law (listed routines) d2.known laid2) in
      (compound_uses-lasts (world_lasts p) frame body).of d3.known three

  part_world : (p : Walk) (a frame : ℕ) (before : List RoutineTree) (rs part : RoutineTrees) (j : Known) → p.S frame a → p.T frame a
      → Site p.c a rs → SitesEach p.c (one_deeper a) part → PartText p.c.k p.c.t rs → OfEach (IsOfText p.c.k p.c.t) part
      → SeatsIn p.c.t before part → CalmPart p.c.t part → listed rs ≡ before ++ listed part → World p j → AnyWalking p.c rs (listed part) j
      → World p (routines_in frame rs part j).known
  part_world p a frame before rs tree.end_of_routines j frame-in path-in site sites text all seats calm one w walking = w
  part_world p a frame before rs (tree.more_routines r rest) j frame-in path-in site sites text all seats calm one w walking =
      let k = p.c.k in
      let t = p.c.t in
      let d = routine frame rs r j in
      let g = ground k t rs before r (listed rest) text one in
      let passed = routine_walks k t Any_told Any_law (any_teller k t) frame before rs r (listed rest) j text one all.0 seats.0 calm.0 w.orderly walking
      (λ x has. tt) in
      part_world p a frame (before ++ r ∷ []) rs rest d.known frame-in path-in site sites.1 text all.1 seats.1 calm.1
      (one ∙ sym (append_assoc before (r ∷ []) (listed rest)))
      (routine_world p a frame before rs r (listed rest) j frame-in path-in site sites.0 text one all.0 seats.0 calm.0 w walking)
      (go_on k t Any_told Any_law rs before r (listed rest) passed.o j d.known g walking passed.passed)

  routine_world : (p : Walk) (a frame : ℕ) (before : List RoutineTree) (rs : RoutineTrees) (r : RoutineTree) (rest : List RoutineTree) (j : Known)
      → p.S frame a → p.T frame a → Site p.c a rs → SitesRoutine p.c (one_deeper a) r → PartText p.c.k p.c.t rs → listed rs ≡ before ++ r ∷ rest
      → OfRoutine (IsOfText p.c.k p.c.t) r → SeatsOf p.c.t before r → CalmOf p.c.t r → World p j → AnyWalking p.c rs (r ∷ rest) j
      → World p (routine frame rs r j).known
  routine_world p a frame before rs (tree.a_routine heading semicolon body last_semicolon) rest j frame-in path-in site sites text one all seats calm w
      walking =
      let r = tree.a_routine heading semicolon body last_semicolon in
      let k = p.c.k in
      let t = p.c.t in
      let m = one_deeper a in
      let st = routine_stated k t before r all seats in
      let d = enter_heading frame rs r j in
      let e = body_in d.value body d.known in
      let i = enter k t Any_told Any_law (any_teller k t) frame rs before r rest j text one w.orderly walking (λ x has. tt) in
      let v = entered_view p w.bound frame a rs before r rest j frame-in path-in site text one w.orderly walking w.view in
      let inside = body_world (inner p d.value.frame m) m d.value body d.known (inr (refl, refl)) (inr (refl, refl)) sites all.1 seats.1 calm.1 st.body
      i.laid (record { orderly = (heading_stays k t frame before rs r text.all text.seats st).of j w.orderly; bound = v.bound; view = v.view }) in
      record { orderly = inside.orderly; bound = inside.bound; view = outside p d.value.frame m inside.bound e.known inside.view }

  body_world : (p : Walk) (a : ℕ) (e : Entered) (body : BodyTree) (j : Known) → p.S e.frame a → p.T e.frame a → SitesBody p.c a body
      → OfBody (IsOfText p.c.k p.c.t) body → SeatsInside p.c.t body → CalmBody p.c.t body → StatedIn p.c.k p.c.t body
      → LaidIn p.c.k p.c.t Any_told body j → World p j → World p (body_in e body j).known
  body_world p a e (tree.a_directive directive) j frame-in path-in sites all seats calm st laid w = w
  body_world p a e (tree.a_block_body b) j frame-in path-in sites all seats calm st laid w =
      block_world p a e.frame e.number e.place b j frame-in path-in sites all seats calm st laid w

-- ---- programs

-- the text, before frames are opened
abbrev pub outermost_walk : Chain → Walk
outermost_walk c = record { c = c; S = λ g n. ⊥; T = λ g n. ⊥ }

blank : (size n : ℕ) → unwrap_or (slice_get (replicate size Row.Nothing) n) Row.Nothing ≡ Row.Nothing
blank zero n = refl
blank (suc size) zero = refl
blank (suc size) (suc n) = blank size n

outer_view : (l : Lexed) (c : Chain) → View (outermost_walk c) 1 (and_region (known_at_start l) 0 outer_frame)
outer_view l c =
    let many = length l.tokens + length required_names in
    let j = and_region (known_at_start l) 0 outer_frame in
    record {
      rows = λ d marked v k ways e. absurd (no_row (sym (blank many d) ∙ e));
      heads = λ x assigned n region e. absurd (no_row (sym (blank many x) ∙ e));
      first = held_here j (record {
        inside = omega arith;
        home = refl;
        way = record {
          steps = 1;
          few = omega arith;
          there = omega arith;
          trail = (omega arith, omega arith, tt);
          finds = λ v d e. absurd (none-some d e);
        };
      });
      levels = λ g n h. absurd h;
      paths = λ g n h. absurd h;
      many = omega arith;
    }
  where
    no_row : {n : NameRow} → Row.Nothing ≡ Row.Name n → ⊥
    no_row e = cc

outermost_view : (l : Lexed) (c : Chain) → View (outermost_walk c) 1 (open_outermost (known_at_start l)).known
unfolding open_outermost extend give ◌>>=◌
outermost_view l p =
    let c : Lasting Any (View (outermost_walk p) 1) = view_lasts (outermost_walk p) 1 in
    let outer : ℕ = 0 in
    (bind-keeps (ordinal_types-lasts c) (λ _. bind-keeps (all_names-lasts c) (λ _. give-keeps outer))).of (and_region (known_at_start l) 0 outer_frame)
    (outer_view l p)

outermost_zero : (l : Lexed) → (open_outermost (known_at_start l)).value ≡ 0
unfolding open_outermost extend give ◌>>=◌
outermost_zero l = refl

defined_opening : (p : Walk) (b n : ℕ) (f : Frame) (Q : ℕ → Type 0) (t : ProgramTree) → Each (λ d. AtLevel p f Q d) (block_labels t.block)
    → Keeps (Opening p b n f Q) (define_program n t)
unfolding define_program
defined_opening p b n f Q t all = bind-keeps (look-keeps (λ k. (frame_at k n).region)) (λ region.
    bind-keeps (program_parameters-lasts (opening_lasts {G = Any} p b n f Q) region t.parameters) (λ _. define_block-opening p b n f Q t.block all))

pub program_world : (l : Lexed) (t : ProgramTree) → let c : Chain = record { k = known_at_start l; t = t.block } in
    Ways c → Whole l t → Calm t.block t.block → IsLaid c.k t.block Any_told (block_routines t.block) (defined_program l t)
    → World (outermost_walk c) (program_step t (known_at_start l)).known
unfolding program_step open_program extend give ◌>>=◌
program_world l t ways text calm laid =
    let c : Chain = record { k = known_at_start l; t = t.block } in
    let p = outermost_walk c in
    let o = open_outermost (known_at_start l) in
    let j = o.known in
    let f : Frame = record { region = length j.regions; outer = Some o.value; level = 0; withs = 0 } in
    let n = length j.frames in
    let i = and_region j 0 f in
    let labels = block_labels t.block in
    let Q : ℕ → Type 0 = λ d. Listed labels d in
    let a = define_program n t i in
    let e = and_routine a.known (main_row t.name) in
    let own : Each (λ d. AtLevel p f Q d) labels
    = each_listed (λ d. AtLevel p f Q d) labels (λ d h. (each_at (λ d. IsLevel c d 0) labels ways.leveled d h, h)) in
    let start = outermost_view l c in
    let one = (defined_opening p 1 n f Q t own).of i (opening_start p 1 Q j 0 f refl start) in
    let two = (opening_lasts {G = Any} p 1 n f Q).routines a.known (main_row t.name) one in
    let less : 0 < n = (let h = start.first in let there = h.is.way.there in let more = longer_length h.before.frames j.frames h.later.frames in
    omega (arith, there, more)) in
    let h = two.view.first in
    let outer = ap Some (outermost_zero l) in
    let way = way_new Never Q e n 0 f two.stands.there two.stands.below outer less (way_later Never 0 h.before e h.later h.is.way) two.mine in
    let path : Way (λ d. Below c 1 d) n e = way_map (λ d. Q d ⊎ Never d) (λ d. Below c 1 d) n e (λ d x. own_below c ways d x) way in
    let view = closed p 1 n f Q e 0 refl path two in
    let sound_start = (open_program-lasts (orderly_lasts c.k c.t)).of (known_at_start l) (start_orderly l t.block) in
    let fresh : Fresh t.block n f i = record { stands = opened j 0 f refl; clean = fresh_is_clean t.block j 0 f } in
    let sound_one = program_stays c.k t n f i text.distinct text.stated sound_start fresh in
    let sound = (orderly_lasts c.k c.t).routines a.known (main_row t.name) sound_one in
    let there = laid_same c.k t.block Any_told (tree.a_block_body t.block) a.known e text.stated (λ x has some. refl) laid in
    let end = block_world (inner p n 0) 0 n (length a.known.program.routines) 1 t.block e (inr (refl, refl)) (inr (refl, refl)) ways.sites text.all
    text.seats calm text.stated there (record { orderly = sound; bound = length e.regions; view = view }) in
    record { orderly = end.orderly; bound = end.bound; view = outside p n 0 end.bound _ end.view }
  where
    own_below : (c : Chain) → Ways c → (d : ℕ) → Listed (block_labels c.t) d ⊎ Never d → Below c 1 d
    own_below c ways d (inl h) l level = let same = ways.fixed d l h level in omega (arith, same)
    own_below c ways d (inr h) l level = absurd h
