-- What the declarations leave of the regions that there were at some point, and of the frame of a region.
use Rattle.std.proofs.Common.{◌++◌, ◌∙◌, ◌∷◌, ◌≡◌, ◌≤◌, [], ℕ, None, Option, Some, ap, arith, false, length, nat_le, refl, subst, sym}
use Rattle.pas_tree.specs.{HeadingPlaces.heading_name, HeadingTrees.HeadingTree, StatementPlaces.compound_word, declared.blocks.NextLabel.NextLabel}
use Rattle.pas_tree.specs.BlockTrees.{BlockTree, BodyTree, LabelPartTree, RoutineTree, RoutineTrees, routine_body, routine_heading}
use Rattle.pas_tree.specs.BlockTrees as tree
use Rattle.core_program.specs.declared.rows.{NameRow.NameRow, Row.Row, TypeRow.TypeRow}
use Rattle.check_steps.specs.{Regions.RegionRows, Regions.fresh_region, Regions.region_at, declared.regions.Definition.Definition, declared.regions.Frame.Frame}
use Rattle.check_steps.specs.Known.{Known, and_definition, and_frame, and_label, and_region, and_routine, frame_at, label_at, name_at, row_at, with_row}
use Rattle.check_steps.specs.Steps.{◌>>=◌, change, extend, give, look}
use Rattle.denoter_checker.specs.{Formals.is_function, Headings.signature, RoutineParts.completion_of, RoutineParts.define_routines, RoutineParts.routine_name}
use Rattle.decl_checker.specs.{Labels.define_label, Labels.define_labels, Labels.define_next_label, declared.routines.Entered.Entered}
use Rattle.decl_checker.specs.Blocks.{define_block, define_constants, define_types, define_variables}
use Rattle.decl_checker.specs.Routines.{add_heading, block, body_in, define_body, define_completion, define_inside, enter_at, enter_heading, first_heading}
use Rattle.decl_checker.specs.Routines.{first_name, heading_row, one_deeper, open_routine, resumed, routine, routines_in}
use Rattle.rule_laws.proofs.{LastsFormals.define_formals_at-lasts, LastsHeadings.signature-lasts, LastsRoutineParts.define_routines-lasts}
use Rattle.rule_laws.proofs.{LastsRoutines.after_completion, LastsStatements.compound_uses-lasts, TextFields.Any, TextFields.any_each}
use Rattle.rule_laws.proofs.Keeping.{Keeps, ask-keeps, bind-keeps, give-keeps, look-keeps, put-keeps}
use Rattle.rule_laws.proofs.Lasting.{Declaring, Ends, Lasting, declare_in-keeps, each-lasts, with_completion}
use Rattle.rule_laws.proofs.LastsBlocks.{define_constants-lasts, define_types-lasts, define_variables-lasts, parts-lasts, put_body-lasts}
use Rattle.rule_laws.proofs.Laters.{Kept, Later, kept_definition, kept_frame, kept_label, kept_less, kept_program, kept_region, kept_then}
use Rattle.rule_laws.proofs.Regions.{definition_frame, label_frame, last_region, region_before}
use Rattle.rule_laws.proofs.Standing.{Stands, opened, standing, standing_all, stands_at}
use Rattle.rule_laws.specs.ForwardHeadings.{routines_in as listed}

-- ---- regions that there were

-- Regions below a number are as they were.
pub record Since (b : ℕ) (i j : Known) : Type 0 where
  pub few : b ≤ length j.regions
  pub kept : Kept b i j

since_by : (b : ℕ) (i j h : Known) → Kept b j h → Since b i j → Since b i h
since_by b i j h next s = record {
  few = (let few = s.few in let more = next.many in omega (arith, few, more));
  kept = kept_then b b i j h (omega arith) s.kept next;
}

since_on : (b : ℕ) (i j h : Known) → Later j h → Since b i j → Since b i h
since_on b i j h later s = since_by b i j h (kept_less b (length j.regions) j h s.few later) s

since_in : (b : ℕ) (i j h : Known) → h.regions ≡ j.regions → h.frames ≡ j.frames → Since b i j → Since b i h
since_in b i j h regions frames s = since_on b i j h (kept_program (length j.regions) j h regions frames) s

pub since_start : (j : Known) → Since (length j.regions) j j
since_start j = record { few = omega arith; kept = kept_program (length j.regions) j j refl refl }

since_ends : (b : ℕ) (i : Known) → Ends (Since b i)
since_ends b i j region d s = since_on b i j (and_definition j region (name_at j d.token) d) (kept_definition j region (name_at j d.token) d) s

pub since_lasts : {G : RoutineTree → Type 0} (b : ℕ) (i : Known) → Lasting G (Since b i)
since_lasts b i = record {
  puts = λ j m r quiet s. since_in b i j (with_row j m r) refl refl s;
  stays = λ j m s. since_in b i j (with_row j m (row_at j m)) refl refl s;
  bodies = λ j m r same s. since_in b i j _ refl refl s;
  routines = λ j r s. since_in b i j (and_routine j r) refl refl s;
  frames = λ j f s. since_on b i j (and_frame j f) (kept_frame j f) s;
  regions = λ j token f s. since_on b i j (and_region j token f) (kept_region j token f) s;
  defines = λ j region d at s. since_ends b i j region d s;
  requires = λ j name d behind s. since_on b i j (and_definition j 0 name d) (kept_definition j 0 name d) s;
  chooses = λ j list v s. since_in b i j _ refl refl s;
  records = λ j word packed region cells variants fresh s. since_in b i j _ refl refl s;
  waits = λ j r g none s. since_in b i j _ refl refl s;
  completes = λ j region first position r g e s.
      since_in b i j (with_completion j first position (is_function (routine_heading r)) (routine_name r)) refl refl s;
}

-- a block's frame, whose region is none of them
record Inner (b : ℕ) (i : Known) (n : ℕ) (f : Frame) (j : Known) : Type 0 where
  since : Since b i j
  stands : Stands n f j

inner_ends : (b : ℕ) (i : Known) (n : ℕ) (f : Frame) → Ends (Inner b i n f)
inner_ends b i n f j region d s = record { since = since_ends b i j region d s.since; stands = (standing_all {G = Any} n f).ends j region d s.stands }

inner_lasts : (b : ℕ) (i : Known) (n : ℕ) (f : Frame) → Lasting Any (Inner b i n f)
inner_lasts b i n f =
    let c : Lasting Any (Since b i) = since_lasts b i in
    let e : Lasting Any (Stands n f) = standing n f in
    record {
      puts = λ j m r quiet s. record { since = c.puts j m r quiet s.since; stands = e.puts j m r quiet s.stands };
      stays = λ j m s. record { since = c.stays j m s.since; stands = e.stays j m s.stands };
      bodies = λ j m r same s. record { since = c.bodies j m r same s.since; stands = e.bodies j m r same s.stands };
      routines = λ j r s. record { since = c.routines j r s.since; stands = e.routines j r s.stands };
      frames = λ j g s. record { since = c.frames j g s.since; stands = e.frames j g s.stands };
      regions = λ j token g s. record { since = c.regions j token g s.since; stands = e.regions j token g s.stands };
      defines = λ j region d at s. inner_ends b i n f j region d s;
      requires = λ j name d behind s. record { since = c.requires j name d behind s.since; stands = e.requires j name d behind s.stands };
      chooses = λ j list v s. record { since = c.chooses j list v s.since; stands = e.chooses j list v s.stands };
      records = λ j word packed region cells variants fresh s. record {
        since = since_in b i j (with_row j word (Row.Type (TypeRow.Record packed region cells variants))) refl refl s.since;
        stands = record { there = s.stands.there; below = s.stands.below };
      };
      waits = λ j r g none s. record { since = c.waits j r g none s.since; stands = e.waits j r g none s.stands };
      completes = λ j region first position r g x s. record {
        since = c.completes j region first position r g x s.since;
        stands = e.completes j region first position r g x s.stands;
      };
    }

define_label-inner : (b : ℕ) (i : Known) (n : ℕ) (f : Frame) → b ≤ f.region → (token : ℕ) → Keeps (Inner b i n f) (define_label f token)
unfolding define_label
define_label-inner b i n f far token = bind-keeps (look-keeps (λ k. label_at k token)) (λ value. bind-keeps (ask-keeps _ token (nat_le value 9999)) (λ _.
    bind-keeps (declare_in-keeps f.region value token (λ j s. record {
      since = since_by b i j (and_label j f.region value token) (kept_label b j f.region value token far) s.since;
      stands = (standing_all {G = Any} n f).declares j f.region value token s.stands;
    })) (λ _. put-keeps token (Row.Name (NameRow.Label false value f.level 0)) (λ j s. record {
      since = since_in b i j (with_row j token (Row.Name (NameRow.Label false value f.level 0))) refl refl s.since;
      stands = record { there = s.stands.there; below = s.stands.below };
    }))))

define_next_label-inner : (b : ℕ) (i : Known) (n : ℕ) (f : Frame) → b ≤ f.region → (u : Unit {0}) (l : NextLabel)
    → Keeps (Inner b i n f) (define_next_label f u l)
unfolding define_next_label
define_next_label-inner b i n f far u l = define_label-inner b i n f far l.number

define_labels-inner : (b : ℕ) (i : Known) (n : ℕ) (f : Frame) → b ≤ f.region → (p : Option LabelPartTree) → Keeps (Inner b i n f) (define_labels f p)
define_labels-inner b i n f far None = give-keeps tt
define_labels-inner b i n f far (Some p) = bind-keeps (define_label-inner b i n f far p.first)
    (λ _. each-lasts (define_next_label f) (λ a x. define_next_label-inner b i n f far a x) tt p.others)

define_block-inner : (b : ℕ) (i : Known) (n : ℕ) (f : Frame) → b ≤ f.region → (t : BlockTree) → Keeps (Inner b i n f) (define_block n t)
unfolding look ◌>>=◌
define_block-inner b i n f far (tree.a_block labels consts kinds variable_part routines body) = record {
  of = λ j s.
      let c = inner_lasts b i n f in
      let ends = inner_ends b i n f in
      subst (λ (here : Frame). Inner b i n f ((define_labels here labels >>= λ _. define_constants here.region consts >>= λ _.
      define_types here.region kinds >>= λ _. define_variables here.region variable_part >>= λ _. define_routines here.region routines) j).known)
      (sym (stands_at n f j s.stands))
      ((bind-keeps (define_labels-inner b i n f far labels) (λ _. bind-keeps (define_constants-lasts ends f.region consts) (λ _.
      bind-keeps (define_types-lasts c ends f.region kinds) (λ _. bind-keeps (define_variables-lasts c f.region variable_part) (λ _.
      define_routines-lasts c f.region routines (any_each (listed routines))))))).of j s);
}

define_body-inner : (b : ℕ) (i : Known) (n : ℕ) (f : Frame) → b ≤ f.region → (body : BodyTree) → Keeps (Inner b i n f) (define_body n body)
define_body-inner b i n f far (tree.a_directive directive) = give-keeps tt
define_body-inner b i n f far (tree.a_block_body t) = define_block-inner b i n f far t

define_completion-inner : (b : ℕ) (i : Known) (n : ℕ) (f : Frame) → b ≤ f.region → (o : Option RoutineTree) → Keeps (Inner b i n f) (define_completion n o)
define_completion-inner b i n f far None = give-keeps tt
define_completion-inner b i n f far (Some r) = define_body-inner b i n f far (routine_body r)

define_inside-inner : (b : ℕ) (i : Known) (n : ℕ) (f : Frame) → b ≤ f.region → (h : HeadingTree) (body : BodyTree) (o : Option RoutineTree)
    → Keeps (Inner b i n f) (define_inside n h body o)
unfolding define_inside
define_inside-inner b i n f far h body o = bind-keeps (define_formals_at-lasts (inner_lasts b i n f) n h) (λ _.
    bind-keeps (define_body-inner b i n f far body) (λ _. define_completion-inner b i n f far o))

opened_since : (b : ℕ) (i : Known) (around : ℕ) (r : RoutineTree) (o : Option RoutineTree) → Keeps (Since b i) (after_completion around r o)
unfolding open_routine add_heading look extend change give ◌>>=◌
opened_since b i around r o = record {
  of = λ j s.
      let f : Frame = record { region = length j.regions; outer = Some around; level = one_deeper (frame_at j around).level; withs = 0 } in
      let n = length j.frames in
      let h = routine_heading r in
      let c = inner_lasts b i n f in
      let a = and_region j (routine_name r) f in
      let d = define_inside n h (routine_body r) o a in
      let e = signature around n h d.known in
      let one = (define_inside-inner b i n f s.few h (routine_body r) o).of a (record {
        since = since_on b i j a (kept_region j (routine_name r) f) s;
        stands = opened j (routine_name r) f refl;
      }) in
      let two = (signature-lasts c around n h).of d.known one in
      let here = frame_at e.known n in
      let row = heading_row h here.level e.value in
      since_in b i e.known (with_row (and_routine e.known row) (heading_name h)
      (Row.Name (NameRow.Routine false (length e.known.program.routines) here.region))) refl refl two.since;
}

enter_at-since : (b : ℕ) (i : Known) (o : Option ℕ) (frame : ℕ) (rs : RoutineTrees) (r : RoutineTree) → Keeps (Since b i) (enter_at o frame rs r)
unfolding first_heading
enter_at-since b i None frame rs r = bind-keeps (look-keeps (λ k. completion_of k rs r)) (λ completion. opened_since b i frame r completion)
enter_at-since b i (Some first) frame rs r = look-keeps (λ k. resumed k first)

enter_heading-since : (b : ℕ) (i : Known) (frame : ℕ) (rs : RoutineTrees) (r : RoutineTree) → Keeps (Since b i) (enter_heading frame rs r)
unfolding enter_heading
enter_heading-since b i frame rs r = bind-keeps (look-keeps (λ k. first_name (row_at k (routine_name r)))) (λ first. enter_at-since b i first frame rs r)

mutual
  pub block-since : (b : ℕ) (i : Known) (frame number place : ℕ) (t : BlockTree) → Keeps (Since b i) (block frame number place t)
  block-since b i frame number place (tree.a_block labels constants types variables routines body) =
      let c : Lasting Any (Since b i) = since_lasts b i in
      bind-keeps (parts-lasts c frame place (tree.a_block labels constants types variables routines body)) (λ end.
      bind-keeps (put_body-lasts c number end (compound_word body)) (λ _.
      bind-keeps (routines_in-since b i frame routines routines) (λ _. compound_uses-lasts c frame body)))

  pub routines_in-since : (b : ℕ) (i : Known) (frame : ℕ) (rs part : RoutineTrees) → Keeps (Since b i) (routines_in frame rs part)
  routines_in-since b i frame rs tree.end_of_routines = give-keeps tt
  routines_in-since b i frame rs (tree.more_routines r rest) =
      bind-keeps (routine-since b i frame rs r) (λ _. routines_in-since b i frame rs rest)

  pub routine-since : (b : ℕ) (i : Known) (frame : ℕ) (rs : RoutineTrees) (r : RoutineTree) → Keeps (Since b i) (routine frame rs r)
  routine-since b i frame rs (tree.a_routine heading semicolon body last_semicolon) =
      bind-keeps (enter_heading-since b i frame rs (tree.a_routine heading semicolon body last_semicolon)) (λ e. body_in-since b i e body)

  pub body_in-since : (b : ℕ) (i : Known) (e : Entered) (body : BodyTree) → Keeps (Since b i) (body_in e body)
  body_in-since b i e (tree.a_directive directive) = give-keeps tt
  body_in-since b i e (tree.a_block_body t) = block-since b i e.frame e.number e.place t

-- ---- a region's own frame

pub record Homed (n : ℕ) (f : Frame) (j : Known) : Type 0 where
  pub stands : Stands n f j
  pub own : (region_at j.regions f.region).frame ≡ n

homed_defined : (n : ℕ) (f : Frame) (j : Known) (region name : ℕ) (d : Definition) → Stands n f (and_definition j region name d) → Homed n f j
    → Homed n f (and_definition j region name d)
homed_defined n f j region name d stands s = record { stands = stands; own = definition_frame j region name d f.region ∙ s.own }

homed_lasts : {G : RoutineTree → Type 0} (n : ℕ) (f : Frame) → Lasting G (Homed n f)
homed_lasts {G = G} n f =
    let c : Lasting G (Stands n f) = standing n f in
    let e : Declaring G (Stands n f) = standing_all n f in
    record {
      puts = λ j m r quiet s. record { stands = c.puts j m r quiet s.stands; own = s.own };
      stays = λ j m s. record { stands = c.stays j m s.stands; own = s.own };
      bodies = λ j m r same s. record { stands = c.bodies j m r same s.stands; own = s.own };
      routines = λ j r s. record { stands = c.routines j r s.stands; own = s.own };
      frames = λ j g s. record { stands = c.frames j g s.stands; own = s.own };
      regions = λ j token g s. record {
        stands = c.regions j token g s.stands;
        own = ap (λ (r : RegionRows). r.frame) (region_before j.regions f.region (fresh_region token (length j.frames)) s.stands.below) ∙ s.own;
      };
      defines = λ j region d at s. homed_defined n f j region (name_at j d.token) d (c.defines j region d at s.stands) s;
      requires = λ j name d behind s. homed_defined n f j 0 name d (c.requires j name d behind s.stands) s;
      chooses = λ j list v s. record { stands = c.chooses j list v s.stands; own = s.own };
      records = λ j word packed region cells variants fresh s. record { stands = record { there = s.stands.there; below = s.stands.below }; own = s.own };
      waits = λ j r g none s. record { stands = c.waits j r g none s.stands; own = s.own };
      completes = λ j region first position r g x s. record { stands = c.completes j region first position r g x s.stands; own = s.own };
    }

pub homed_all : {G : RoutineTree → Type 0} (n : ℕ) (f : Frame) → Declaring G (Homed n f)
homed_all {G = G} n f =
    let e : Declaring G (Stands n f) = standing_all n f in
    record {
      kept = homed_lasts n f;
      ends = λ j region d s. homed_defined n f j region (name_at j d.token) d (e.ends j region d s.stands) s;
      declares = λ j region value token s. record {
        stands = e.declares j region value token s.stands;
        own = label_frame j region value token f.region ∙ s.own;
      };
      labels = λ j token value level s. record { stands = e.labels j token value level s.stands; own = s.own };
      heads = λ j name number region named few s. record { stands = e.heads j name number region named few s.stands; own = s.own };
    }

pub homed_start : (j : Known) (token : ℕ) (f : Frame) → f.region ≡ length j.regions → Homed (length j.frames) f (and_region j token f)
homed_start j token f fresh =
    let x = fresh_region token (length j.frames) in
    record {
      stands = opened j token f fresh;
      own = ap (λ r. (region_at (j.regions ++ x ∷ []) r).frame) fresh ∙ ap (λ (r : RegionRows). r.frame) (last_region j.regions x);
    }
