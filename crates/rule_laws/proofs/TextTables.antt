-- What the tables of a text say of records and of frames, wherever its declarations are looked at.
use Rattle.std.proofs.Common.{if◌then◌else◌, ◌++◌, ◌+◌, ◌<◌, ◌∙◌, ◌∷◌, ◌≡◌, ◌≤◌, ◌⊎◌, [], ℕ, Bool, List, None, Option, Some, ap, arith, false, inl, inr, length}
use Rattle.std.proofs.Common.{length-set, map, nat_eq, nat_le, nat_lt, refl, replicate, slice_get, subst, suc, sym, true, unwrap_or, zero}
use Rattle.std.proofs.lemmas.{Bool.Decides.nat_tests, List.length-append, Option.none-some, Option.same_Some}
use Rattle.std.specs.Map.{lookup}
use Rattle.pas_lexer.specs.Lexed.{Lexed}
use Rattle.pas_tree.specs.{HeadingPlaces.heading_name, HeadingTrees.HeadingTree, StatementPlaces.compound_word, declared.blocks.NextLabel.NextLabel}
use Rattle.pas_tree.specs.BlockTrees.{BlockTree, BodyTree, LabelPartTree, ProgramTree, RoutineTree, RoutineTrees, routine_body, routine_heading}
use Rattle.pas_tree.specs.BlockTrees as tree
use Rattle.core_program.specs.ProgramRows.{type_in}
use Rattle.core_program.specs.declared.rows.{NameRow.NameRow, PartRow.PartRow, Row.Row, TypeRow.TypeRow}
use Rattle.check_steps.specs.{Frames.frame_in, Required.open_outermost, Words.known_at_start, Words.required_names}
use Rattle.check_steps.specs.Known.{Known, and_definition, and_label, and_region, and_routine, frame_at, label_at, name_at, row_at, type_at, with_row}
use Rattle.check_steps.specs.Regions.{RegionRows, declared_in, fresh_region, region_at}
use Rattle.check_steps.specs.Steps.{◌>>=◌, Step, change, extend, give, look}
use Rattle.check_steps.specs.declared.{regions.Definition.Definition, regions.Frame.Frame, words.SpelledToken.SpelledToken}
use Rattle.denoter_checker.specs.{Formals.is_function, Headings.signature}
use Rattle.denoter_checker.specs.RoutineParts.{block_in, completion_of, define_routines, routine_at, routine_if_any, routine_name}
use Rattle.decl_checker.specs.{Labels.define_label, Labels.define_labels, Labels.define_next_label, Programs.define_program, Programs.main_row}
use Rattle.decl_checker.specs.{Programs.open_program, Programs.program_step, Scopes.routine_region, Statements.fields_in, declared.routines.Entered.Entered}
use Rattle.decl_checker.specs.Blocks.{define_block, define_constants, define_types, define_variables}
use Rattle.decl_checker.specs.Routines.{add_heading, block, body_in, define_body, define_completion, define_inside, enter_at, enter_heading, first_heading}
use Rattle.decl_checker.specs.Routines.{first_name, heading_row, one_deeper, open_routine, own_frame, routine, routines_in}
use Rattle.rule_laws.proofs.{Breaks.Each, Faces.row_either, LastsFormals.define_formals_at-lasts, LastsHeadings.signature-lasts}
use Rattle.rule_laws.proofs.{LastsParameters.program_parameters-lasts, LastsPrograms.define_program-lasts, LastsRoutineParts.define_routines-lasts}
use Rattle.rule_laws.proofs.{LastsStatements.compound_uses-lasts, TextFields.Any, TextFields.any_each, Touches.Longer, Touches.longer_still, Touches.no_longer}
use Rattle.rule_laws.proofs.Keeping.{Keeps, ask-keeps, bind-keeps, give-keeps, look-keeps, put-keeps}
use Rattle.rule_laws.proofs.Lasting.{Declaring, Ends, Lasting, declare_in-keeps, each_of-lasts, is_quiet}
use Rattle.rule_laws.proofs.LastsBlocks.{define_constants-lasts, define_types-lasts, define_variables-lasts, parts-lasts, put_body-lasts}
use Rattle.rule_laws.proofs.LastsRequired.{all_names-lasts, ordinal_types-lasts}
use Rattle.rule_laws.proofs.LastsRoutines.{after_completion, routine_own}
use Rattle.rule_laws.proofs.Outward.{Outward, frame_before, outward_first, outward_more, outward_new, outward_there}
use Rattle.rule_laws.proofs.Regions.{definition_frame, definition_labels, label_either, label_frame, label_labels, last_region, region_before, region_labels}
use Rattle.rule_laws.proofs.Standing.{Stands, opened, standing, standing_all, stands_at}
use Rattle.rule_laws.specs.{ForwardHeadings.routines_in as listed, NameLaws.block_labels, NameLaws.block_routines, RegionNames.label_token}
use Rattle.rule_laws.specs.{RegionNames.labels_of, TextLaws.labels_in_body, TextParts.OfBody, TextParts.OfEach, TextParts.OfRoutine, TextParts.OfRoutines}

-- a region of fields, which declares no label
pub record IsFields (j : Known) (region : ℕ) : Type 0 where
  pub there : region < length j.regions
  pub none : (v : ℕ) → declared_in j.regions region v ≡ None

-- a region whose own frame leads outward to none, and is further in than the program's block, unless it is the first one
pub record IsHome (j : Known) (region : ℕ) : Type 0 where
  pub there : region < length j.regions
  pub outward : Outward j.frames (region_at j.regions region).frame
  pub deep : (region ≡ 0) ⊎ (0 < (frame_in j.frames (region_at j.regions region).frame).level)

pub record Tidy (j : Known) : Type 0 where
  pub typed : (n region : ℕ) → fields_in (type_at j n) ≡ Some region → IsFields j region
  pub heads : (n : ℕ) (assigned : Bool) (number region : ℕ) → row_at j n ≡ Row.Name (NameRow.Routine assigned number region) → IsHome j region
  pub first : IsHome j 0

-- ---- one change

put_tidy : (j : Known) (m : ℕ) (r : Row) → ((region : ℕ) → fields_in (type_in r) ≡ Some region → IsFields j region)
    → ((assigned : Bool) (number region : ℕ) → r ≡ Row.Name (NameRow.Routine assigned number region) → IsHome j region) → Tidy j → Tidy (with_row j m r)
put_tidy j m r fields head s = record {
  typed = λ n region e. elim (row_either j m n r) [
    | inl old ↦ (let x = s.typed n region (sym (ap (λ q. fields_in (type_in q)) old) ∙ e) in record { there = x.there; none = x.none })
    | inr new ↦ (let x = fields region (sym (ap (λ q. fields_in (type_in q)) new.1) ∙ e) in record { there = x.there; none = x.none })
  ];
  heads = λ n assigned number region e. elim (row_either j m n r) [
    | inl old ↦ (let x = s.heads n assigned number region (sym old ∙ e) in record { there = x.there; outward = x.outward; deep = x.deep })
    | inr new ↦ (let x = head assigned number region (sym new.1 ∙ e) in record { there = x.there; outward = x.outward; deep = x.deep })
  ];
  first = record { there = s.first.there; outward = s.first.outward; deep = s.first.deep };
}

quiet_fields : (r : Row) → is_quiet r ≡ true → fields_in (type_in r) ≡ None
quiet_fields (Row.Type (TypeRow.Record packed region cells variants)) quiet = absurd (let never : false ≡ true = quiet in cc)
quiet_fields (Row.Type t) quiet = refl
quiet_fields r quiet = refl

no_head : (r : Row) (assigned : Bool) (number region : ℕ) → is_quiet r ≡ true → r ≡ Row.Name (NameRow.Routine assigned number region) → ⊥
no_head r assigned number region quiet e = let never : false ≡ true = sym (ap is_quiet e) ∙ quiet in cc

quiet_tidy : (j : Known) (m : ℕ) (r : Row) → is_quiet r ≡ true → Tidy j → Tidy (with_row j m r)
quiet_tidy j m r quiet s = put_tidy j m r (λ region e. absurd (none-some region (sym (quiet_fields r quiet) ∙ e)))
    (λ assigned number region e. absurd (no_head r assigned number region quiet e)) s

part_tidy : (j : Known) (m : ℕ) (r : PartRow) → Tidy j → Tidy (with_row j m (Row.Part r))
part_tidy j m r s = put_tidy j m (Row.Part r) (λ region e. absurd (none-some region e)) (λ assigned number region e. absurd (no_part e)) s
  where
    no_part : {r : PartRow} {n : NameRow} → Row.Part r ≡ Row.Name n → ⊥
    no_part e = cc

type_tidy : (j : Known) (m : ℕ) (t : TypeRow) → ((region : ℕ) → fields_in (Some t) ≡ Some region → IsFields j region) → Tidy j
    → Tidy (with_row j m (Row.Type t))
type_tidy j m t fields s = put_tidy j m (Row.Type t) fields (λ assigned number region e. absurd (no_type e)) s
  where
    no_type : {t : TypeRow} {n : NameRow} → Row.Type t ≡ Row.Name n → ⊥
    no_type e = cc

fields_more : (j : Known) (token : ℕ) (f : Frame) (region : ℕ) → IsFields j region → IsFields (and_region j token f) region
fields_more j token f region x =
    let there = x.there in
    let more = length-append j.regions (fresh_region token (length j.frames) ∷ []) in
    record {
      there = omega (arith, there, more);
      none = λ v. ap (λ (r : RegionRows). lookup (nat_eq v) r.labels) (region_before j.regions region (fresh_region token (length j.frames)) there) ∙ x.none v;
    }

deep_more : (fs : List Frame) (f : Frame) (g : ℕ) → g < length fs → 0 < (frame_in fs g).level → 0 < (frame_in (fs ++ f ∷ []) g).level
deep_more fs f g below deep = subst (λ (x : Frame). 0 < x.level) (sym (frame_before fs f g below)) deep

home_more : (j : Known) (token : ℕ) (f : Frame) (region : ℕ) → IsHome j region → IsHome (and_region j token f) region
home_more j token f region x =
    let there = x.there in
    let more = length-append j.regions (fresh_region token (length j.frames) ∷ []) in
    record {
      there = omega (arith, there, more);
      outward = subst (λ (r : RegionRows). Outward (j.frames ++ f ∷ []) r.frame)
          (sym (region_before j.regions region (fresh_region token (length j.frames)) there))
          (outward_more j.frames f (region_at j.regions region).frame x.outward);
      deep = elim x.deep [
        | inl e ↦ inl e
        | inr deep ↦ inr (subst (λ (r : RegionRows). 0 < (frame_in (j.frames ++ f ∷ []) r.frame).level)
            (sym (region_before j.regions region (fresh_region token (length j.frames)) there))
            (deep_more j.frames f (region_at j.regions region).frame (outward_there j.frames (region_at j.regions region).frame x.outward) deep))
      ];
    }

region_tidy : (j : Known) (token : ℕ) (f : Frame) → Tidy j → Tidy (and_region j token f)
region_tidy j token f s = record {
  typed = λ n region e. fields_more j token f region (s.typed n region e);
  heads = λ n assigned number region e. home_more j token f region (s.heads n assigned number region e);
  first = home_more j token f 0 s.first;
}

home_framed : (j : Known) (f : Frame) (region : ℕ) → IsHome j region → IsHome (record j { frames = j.frames ++ f ∷ [] }) region
home_framed j f region x = record {
  there = x.there;
  outward = outward_more j.frames f (region_at j.regions region).frame x.outward;
  deep = elim x.deep [
    | inl e ↦ inl e
    | inr deep ↦ inr (deep_more j.frames f (region_at j.regions region).frame (outward_there j.frames (region_at j.regions region).frame x.outward) deep)
  ];
}

definition_tidy : (j : Known) (region name : ℕ) (d : Definition) → Tidy j → Tidy (and_definition j region name d)
definition_tidy j at name d s =
    let rows = region_at j.regions at in
    let same = length-set j.regions at (record rows { names = rows.names ++ (name, d) ∷ [] }) in
    record {
      typed = λ n region e. (
          let x = s.typed n region e in
          let there = x.there in
          record { there = omega (arith, there, same); none = λ v. definition_labels j at name d region v ∙ x.none v });
      heads = λ n assigned number region e. home region same (s.heads n assigned number region e);
      first = home 0 same s.first;
    }
  where
    home : (region : ℕ) → length (and_definition j at name d).regions ≡ length j.regions → IsHome j region → IsHome (and_definition j at name d) region
    home region same x =
        let there = x.there in
        record {
          there = omega (arith, there, same);
          outward = subst (λ n. Outward j.frames n) (sym (definition_frame j at name d region)) x.outward;
          deep = subst (λ n. (region ≡ 0) ⊎ (0 < (frame_in j.frames n).level)) (sym (definition_frame j at name d region)) x.deep;
        }

pub tidy_lasts : {G : RoutineTree → Type 0} → Lasting G Tidy
tidy_lasts = record {
  puts = λ j m r quiet s. quiet_tidy j m r quiet s;
  stays = λ j m s. put_tidy j m (row_at j m) (λ region e. s.typed m region e) (λ assigned number region e. s.heads m assigned number region e) s;
  bodies = λ j n r same s. record {
    typed = λ n region e. (let x = s.typed n region e in record { there = x.there; none = x.none });
    heads = λ n assigned number region e. (let x = s.heads n assigned number region e in record { there = x.there; outward = x.outward; deep = x.deep });
    first = record { there = s.first.there; outward = s.first.outward; deep = s.first.deep };
  };
  routines = λ j r s. record {
    typed = λ n region e. (let x = s.typed n region e in record { there = x.there; none = x.none });
    heads = λ n assigned number region e. (let x = s.heads n assigned number region e in record { there = x.there; outward = x.outward; deep = x.deep });
    first = record { there = s.first.there; outward = s.first.outward; deep = s.first.deep };
  };
  frames = λ j f s. record {
    typed = λ n region e. (let x = s.typed n region e in record { there = x.there; none = x.none });
    heads = λ n assigned number region e. home_framed j f region (s.heads n assigned number region e);
    first = home_framed j f 0 s.first;
  };
  regions = λ j token f s. region_tidy j token f s;
  defines = λ j region d at s. definition_tidy j region (name_at j d.token) d s;
  requires = λ j name d behind s. definition_tidy j 0 name d s;
  chooses = λ j list value s. record {
    typed = λ n region e. (let x = s.typed n region e in record { there = x.there; none = x.none });
    heads = λ n assigned number region e. (let x = s.heads n assigned number region e in record { there = x.there; outward = x.outward; deep = x.deep });
    first = record { there = s.first.there; outward = s.first.outward; deep = s.first.deep };
  };
  records = λ j word packed region cells variants fresh s. type_tidy j word (TypeRow.Record packed region cells variants)
      (λ at e. (let same = same_Some region at e in subst (IsFields j) same (record { there = fresh.there; none = fresh.none }))) s;
  waits = λ j r g none s. part_tidy j (routine_name r) (PartRow.Forward (is_function (routine_heading r)) None) s;
  completes = λ j region first position r g e s.
      let row = PartRow.Forward (is_function (routine_heading r)) (Some position) in
      part_tidy (with_row j first (Row.Part row)) (routine_name r) (PartRow.Completing first) (part_tidy j first row s);
}

-- ---- frames that lead outward

-- What the tokens of a text spell, and those that stand in its label parts. From some tables on, the regions below a
-- number declare only some of these, which they declared there, and the frames stay.
pub record Labelling : Type 1 where
  pub k : Known
  pub L : ℕ → Type 0
  pub bound : ℕ
  pub low : ℕ → Type 0
  pub old : List RegionRows
  pub frames : List Frame

-- A label is declared at one of these tokens, by its value.
pub record Valued (y : Labelling) (j : Known) : Type 0 where
  pub words : j.words ≡ y.k.words
  pub declared : (region v d : ℕ) → declared_in j.regions region v ≡ Some d → (label_at y.k d ≡ v) × y.L d
  pub many : y.bound ≤ length j.regions
  pub below : (region v d : ℕ) → region < y.bound → declared_in j.regions region v ≡ Some d → y.low d
  pub stay : (region v : ℕ) → region < y.bound → declared_in j.regions region v ≡ declared_in y.old region v
  pub frames : Longer y.frames j.frames

valued_row : (y : Labelling) (j : Known) (m : ℕ) (r : Row) → Valued y j → Valued y (with_row j m r)
valued_row y j m r s = record { words = s.words; declared = s.declared; many = s.many; below = s.below; stay = s.stay; frames = s.frames }

valued_definition : (y : Labelling) (j : Known) (at name : ℕ) (d : Definition) → Valued y j → Valued y (and_definition j at name d)
valued_definition y j at name d s =
    let rows = region_at j.regions at in
    let same = length-set j.regions at (record rows { names = rows.names ++ (name, d) ∷ [] }) in
    record {
      words = s.words;
      declared = λ region v m e. s.declared region v m (sym (definition_labels j at name d region v) ∙ e);
      many = (let many = s.many in omega (arith, many, same));
      below = λ region v m less e. s.below region v m less (sym (definition_labels j at name d region v) ∙ e);
      stay = λ region v less. definition_labels j at name d region v ∙ s.stay region v less;
      frames = s.frames;
    }

one_more : (fs gs : List Frame) (f : Frame) → Longer fs gs → Longer fs (gs ++ f ∷ [])
one_more fs gs f s = longer_still fs gs (gs ++ f ∷ []) s (record { more = f ∷ []; is = refl })

valued_lasts : {G : RoutineTree → Type 0} (y : Labelling) → Lasting G (Valued y)
valued_lasts y = record {
  puts = λ j m r quiet s. valued_row y j m r s;
  stays = λ j m s. valued_row y j m (row_at j m) s;
  bodies = λ j m r same s. record { words = s.words; declared = s.declared; many = s.many; below = s.below; stay = s.stay; frames = s.frames };
  routines = λ j r s. record { words = s.words; declared = s.declared; many = s.many; below = s.below; stay = s.stay; frames = s.frames };
  frames = λ j g s. record {
    words = s.words;
    declared = s.declared;
    many = s.many;
    below = s.below;
    stay = s.stay;
    frames = one_more y.frames j.frames g s.frames;
  };
  regions = λ j token g s. record {
    words = s.words;
    declared = λ region v d e. s.declared region v d (region_labels j token g region v d e);
    many =
        let many = s.many in
        let more = length-append j.regions (fresh_region token (length j.frames) ∷ []) in
        omega (arith, many, more);
    below = λ region v d less e. s.below region v d less (region_labels j token g region v d e);
    stay = λ region v less.
        let many = s.many in
        ap (λ (r : RegionRows). lookup (nat_eq v) r.labels)
        (region_before j.regions region (fresh_region token (length j.frames)) (omega (arith, less, many))) ∙ s.stay region v less;
    frames = one_more y.frames j.frames g s.frames;
  };
  defines = λ j region d at s. valued_definition y j region (name_at j d.token) d s;
  requires = λ j name d behind s. valued_definition y j 0 name d s;
  chooses = λ j list value s. record { words = s.words; declared = s.declared; many = s.many; below = s.below; stay = s.stay; frames = s.frames };
  records = λ j word packed region cells variants fresh s. valued_row y j word (Row.Type (TypeRow.Record packed region cells variants)) s;
  waits = λ j r g none s. valued_row y j (routine_name r) (Row.Part (PartRow.Forward (is_function (routine_heading r)) None)) s;
  completes = λ j region first position r g e s.
      let row = Row.Part (PartRow.Forward (is_function (routine_heading r)) (Some position)) in
      valued_row y (with_row j first row) (routine_name r) (Row.Part (PartRow.Completing first)) (valued_row y j first row s);
}

-- so it is with these frames
pub record Walked (y : Labelling) (S : ℕ → Type 0) (j : Known) : Type 0 where
  pub tidy : Tidy j
  pub valued : Valued y j
  pub outward : (g : ℕ) → S g → Outward j.frames g

pub walked_lasts : {G : RoutineTree → Type 0} (y : Labelling) (S : ℕ → Type 0) → Lasting G (Walked y S)
walked_lasts {G = G} y S =
    let c : Lasting G Tidy = tidy_lasts in
    let e : Lasting G (Valued y) = valued_lasts y in
    record {
      puts = λ j m r quiet s. record { tidy = c.puts j m r quiet s.tidy; valued = e.puts j m r quiet s.valued; outward = s.outward };
      stays = λ j m s. record { tidy = c.stays j m s.tidy; valued = e.stays j m s.valued; outward = s.outward };
      bodies = λ j n r same s. record { tidy = c.bodies j n r same s.tidy; valued = e.bodies j n r same s.valued; outward = s.outward };
      routines = λ j r s. record { tidy = c.routines j r s.tidy; valued = e.routines j r s.valued; outward = s.outward };
      frames = λ j f s. record { tidy = c.frames j f s.tidy; valued = e.frames j f s.valued; outward = λ g g-in. outward_more j.frames f g (s.outward g g-in) };
      regions = λ j token f s. record {
        tidy = c.regions j token f s.tidy;
        valued = e.regions j token f s.valued;
        outward = λ g g-in. outward_more j.frames f g (s.outward g g-in);
      };
      defines = λ j region d at s. record { tidy = c.defines j region d at s.tidy; valued = e.defines j region d at s.valued; outward = s.outward };
      requires = λ j name d behind s. record { tidy = c.requires j name d behind s.tidy; valued = e.requires j name d behind s.valued; outward = s.outward };
      chooses = λ j list value s. record { tidy = c.chooses j list value s.tidy; valued = e.chooses j list value s.valued; outward = s.outward };
      records = λ j word packed region cells variants fresh s. record {
        tidy = c.records j word packed region cells variants (record {
          before = fresh.before;
          held = fresh.held.tidy;
          opened = fresh.opened;
          there = fresh.there;
          none = fresh.none;
        }) s.tidy;
        valued = valued_row y j word (Row.Type (TypeRow.Record packed region cells variants)) s.valued;
        outward = s.outward;
      };
      waits = λ j r g none s. record { tidy = c.waits j r g none s.tidy; valued = e.waits j r g none s.valued; outward = s.outward };
      completes = λ j region first position r g x s. record {
        tidy = c.completes j region first position r g x s.tidy;
        valued = e.completes j region first position r g x s.valued;
        outward = s.outward;
      };
    }

-- ---- a block whose names are defined

-- A frame of a block stands, no record has its region, and it is the region's own frame.
record Open (y : Labelling) (S : ℕ → Type 0) (n : ℕ) (f : Frame) (j : Known) : Type 0 where
  walked : Walked y S j
  stands : Stands n f j
  own : (region_at j.regions f.region).frame ≡ n
  beyond : y.bound ≤ f.region
  free : (m : ℕ) → fields_in (type_at j m) ≡ Some f.region → ⊥

put_free : (j : Known) (m : ℕ) (r : Row) (at : ℕ) → (fields_in (type_in r) ≡ Some at → ⊥) → ((n : ℕ) → fields_in (type_at j n) ≡ Some at → ⊥)
    → (n : ℕ) → fields_in (type_at (with_row j m r) n) ≡ Some at → ⊥
put_free j m r at none free n e = elim (row_either j m n r) [
  | inl old ↦ free n (sym (ap (λ q. fields_in (type_in q)) old) ∙ e)
  | inr new ↦ none (sym (ap (λ q. fields_in (type_in q)) new.1) ∙ e)
]

open_ends : (y : Labelling) (S : ℕ → Type 0) (n : ℕ) (f : Frame) → Ends (Open y S n f)
open_ends y S n f j region d s = record {
  walked = record {
    tidy = definition_tidy j region (name_at j d.token) d s.walked.tidy;
    valued = valued_definition y j region (name_at j d.token) d s.walked.valued;
    outward = s.walked.outward;
  };
  stands = (let e : Declaring Any (Stands n f) = standing_all n f in e.ends j region d s.stands);
  own = definition_frame j region (name_at j d.token) d f.region ∙ s.own;
  beyond = s.beyond;
  free = s.free;
}

open_lasts : {G : RoutineTree → Type 0} (y : Labelling) (S : ℕ → Type 0) (n : ℕ) (f : Frame) → Lasting G (Open y S n f)
open_lasts {G = G} y S n f =
    let c : Lasting G (Walked y S) = walked_lasts y S in
    let e : Lasting G (Stands n f) = standing n f in
    record {
      puts = λ j m r quiet s. record {
        walked = c.puts j m r quiet s.walked;
        stands = e.puts j m r quiet s.stands;
        own = s.own;
        beyond = s.beyond;
        free = put_free j m r f.region (λ x. none-some f.region (sym (quiet_fields r quiet) ∙ x)) s.free;
      };
      stays = λ j m s. record {
        walked = c.stays j m s.walked;
        stands = e.stays j m s.stands;
        own = s.own;
        beyond = s.beyond;
        free = put_free j m (row_at j m) f.region (s.free m) s.free;
      };
      bodies = λ j m r same s. record {
        walked = c.bodies j m r same s.walked;
        stands = e.bodies j m r same s.stands;
        own = s.own;
        beyond = s.beyond;
        free = s.free;
      };
      routines = λ j r s. record { walked = c.routines j r s.walked; stands = e.routines j r s.stands; own = s.own; beyond = s.beyond; free = s.free };
      frames = λ j g s. record { walked = c.frames j g s.walked; stands = e.frames j g s.stands; own = s.own; beyond = s.beyond; free = s.free };
      regions = λ j token g s. record {
        walked = c.regions j token g s.walked;
        stands = e.regions j token g s.stands;
        own = ap (λ (r : RegionRows). r.frame) (region_before j.regions f.region (fresh_region token (length j.frames)) s.stands.below) ∙ s.own;
        beyond = s.beyond;
        free = s.free;
      };
      defines = λ j region d at s. open_ends y S n f j region d s;
      requires = λ j name d behind s. record {
        walked = c.requires j name d behind s.walked;
        stands = e.requires j name d behind s.stands;
        own = definition_frame j 0 name d f.region ∙ s.own;
        beyond = s.beyond;
        free = s.free;
      };
      chooses = λ j list value s. record {
        walked = c.chooses j list value s.walked;
        stands = e.chooses j list value s.stands;
        own = s.own;
        beyond = s.beyond;
        free = s.free;
      };
      records = λ j word packed region cells variants fresh s. record {
        walked = c.records j word packed region cells variants (record {
          before = fresh.before;
          held = fresh.held.walked;
          opened = fresh.opened;
          there = fresh.there;
          none = fresh.none;
        }) s.walked;
        stands = record { there = s.stands.there; below = s.stands.below };
        own = s.own;
        beyond = s.beyond;
        free = put_free j word (Row.Type (TypeRow.Record packed region cells variants)) f.region (λ x.
            let same = same_Some region f.region x in
            let opened = fresh.opened in
            let below = fresh.held.stands.below in
            omega (arith, same, opened, below)) s.free;
      };
      waits = λ j r g none s. record {
        walked = c.waits j r g none s.walked;
        stands = e.waits j r g none s.stands;
        own = s.own;
        beyond = s.beyond;
        free = put_free j (routine_name r) (Row.Part (PartRow.Forward (is_function (routine_heading r)) None)) f.region (λ x. none-some f.region x) s.free;
      };
      completes = λ j region first position r g x s.
          let row = Row.Part (PartRow.Forward (is_function (routine_heading r)) (Some position)) in
          record {
            walked = c.completes j region first position r g x s.walked;
            stands = e.completes j region first position r g x s.stands;
            own = s.own;
            beyond = s.beyond;
            free = put_free (with_row j first row) (routine_name r) (Row.Part (PartRow.Completing first)) f.region (λ y. none-some f.region y)
                (put_free j first row f.region (λ y. none-some f.region y) s.free);
          };
    }

-- one label more in its region
label_open : (y : Labelling) (S : ℕ → Type 0) (n : ℕ) (f : Frame) (j : Known) (token : ℕ) → y.L token → Open y S n f j
    → Open y S n f (and_label j f.region (label_at y.k token) token)
label_open y S n f j token ok s =
    let value = label_at y.k token in
    let at = f.region in
    let rows = region_at j.regions at in
    let same = length-set j.regions at (record rows { labels = rows.labels ++ (value, token) ∷ [] }) in
    record {
      walked = record {
        tidy = record {
          typed = λ m region e. (
              let x = s.walked.tidy.typed m region e in
              let there = x.there in
              record {
                there = omega (arith, there, same);
                none = λ v. label_labels j at value token region v (λ y. s.free m (e ∙ ap Some y)) ∙ x.none v;
              });
          heads = λ m assigned number region e. home region same (s.walked.tidy.heads m assigned number region e);
          first = home 0 same s.walked.tidy.first;
        };
        valued = record {
          words = s.walked.valued.words;
          declared = λ region v d e. elim (label_either j at value token region v d e) [
            | inl old ↦ s.walked.valued.declared region v d old
            | inr new ↦ (sym (new.0 ∙ ap (label_at y.k) new.1), subst y.L new.1 ok)
          ];
          many = (let many = s.walked.valued.many in omega (arith, many, same));
          below = λ region v d less e. s.walked.valued.below region v d less (sym (label_labels j at value token region v (λ is.
              let beyond = s.beyond in omega (arith, less, beyond, is))) ∙ e);
          stay = λ region v less. label_labels j at value token region v (λ is. (let beyond = s.beyond in omega (arith, less, beyond, is)))
              ∙ s.walked.valued.stay region v less;
          frames = s.walked.valued.frames;
        };
        outward = s.walked.outward;
      };
      stands = record { there = s.stands.there; below = (let b = s.stands.below in omega (arith, b, same)) };
      own = label_frame j at value token at ∙ s.own;
      beyond = s.beyond;
      free = s.free;
    }
  where
    home : (region : ℕ) → length (and_label j f.region (label_at y.k token) token).regions ≡ length j.regions → IsHome j region
        → IsHome (and_label j f.region (label_at y.k token) token) region
    home region same x =
        let there = x.there in
        record {
          there = omega (arith, there, same);
          outward = subst (λ n. Outward j.frames n) (sym (label_frame j f.region (label_at y.k token) token region))
              x.outward;
          deep = subst (λ n. (region ≡ 0) ⊎ (0 < (frame_in j.frames n).level)) (sym (label_frame j f.region (label_at y.k token) token region))
              x.deep;
        }

label_row_open : (y : Labelling) (S : ℕ → Type 0) (n : ℕ) (f : Frame) (j : Known) (token value level : ℕ) → Open y S n f j
    → Open y S n f (with_row j token (Row.Name (NameRow.Label false value level 0)))
label_row_open y S n f j token value level s =
    let r = Row.Name (NameRow.Label false value level 0) in
    record {
      walked = record {
        tidy = put_tidy j token r (λ region e. absurd (none-some region e)) (λ assigned number region e. absurd (no_routine e)) s.walked.tidy;
        valued = valued_row y j token r s.walked.valued;
        outward = s.walked.outward;
      };
      stands = record { there = s.stands.there; below = s.stands.below };
      own = s.own;
      beyond = s.beyond;
      free = put_free j token r f.region (λ x. none-some f.region x) s.free;
    }
  where
    no_routine : {marked assigned : Bool} {value level ways number region : ℕ}
        → Row.Name (NameRow.Label marked value level ways) ≡ Row.Name (NameRow.Routine assigned number region) → ⊥
    no_routine e = cc

looked_same : {I : Known → Type 0} {A B : Type 0} (f : Known → A) (a : A) (g : A → Step B) → ((k : Known) → I k → f k ≡ a) → Keeps I (g a)
    → Keeps I (look f >>= g)
unfolding look ◌>>=◌
looked_same {I = I} f a g same h = record { of = λ k i. subst (λ x. I (g x k).known) (sym (same k i)) (h.of k i) }

define_label-open : (y : Labelling) (S : ℕ → Type 0) (n : ℕ) (f : Frame) (token : ℕ) → y.L token → Keeps (Open y S n f) (define_label f token)
unfolding define_label
define_label-open y S n f token ok = looked_same (λ k. label_at k token) (label_at y.k token) _
    (λ k i. ap (λ (ws : List SpelledToken). label_at (record y.k { words = ws }) token) i.walked.valued.words)
    (bind-keeps (ask-keeps _ token (nat_le (label_at y.k token) 9999)) (λ _.
    bind-keeps (declare_in-keeps f.region (label_at y.k token) token (λ k i. label_open y S n f k token ok i))
    (λ _. put-keeps token (Row.Name (NameRow.Label false (label_at y.k token) f.level 0))
    (λ k i. label_row_open y S n f k token (label_at y.k token) f.level i))))

define_next_label-open : (y : Labelling) (S : ℕ → Type 0) (n : ℕ) (f : Frame) (u : Unit {0}) (l : NextLabel) → y.L l.number
    → Keeps (Open y S n f) (define_next_label f u l)
unfolding define_next_label
define_next_label-open y S n f u l ok = define_label-open y S n f l.number ok

pub each_next : (L : ℕ → Type 0) (ls : List NextLabel) → Each L (map label_token ls) → Each (λ (l : NextLabel). L l.number) ls
each_next L [] h = tt
each_next L (l ∷ ls) h = (h.0, each_next L ls h.1)

define_labels-open : (y : Labelling) (S : ℕ → Type 0) (n : ℕ) (f : Frame) (p : Option LabelPartTree) → Each y.L (labels_of p)
    → Keeps (Open y S n f) (define_labels f p)
define_labels-open y S n f None all = give-keeps tt
define_labels-open y S n f (Some p) all = bind-keeps (define_label-open y S n f p.first all.0)
    (λ _. each_of-lasts (λ (l : NextLabel). y.L l.number) (define_next_label f) (λ a x ok. define_next_label-open y S n f a x ok) tt p.others
    (each_next y.L p.others all.1))

define_block-open : (y : Labelling) (S : ℕ → Type 0) (n : ℕ) (f : Frame) (b : BlockTree) → Each y.L (block_labels b) → Keeps (Open y S n f) (define_block n b)
unfolding look ◌>>=◌
define_block-open y S n f (tree.a_block labels consts kinds variable_part routines body) all = record {
  of = λ j s.
      let c : Lasting Any (Open y S n f) = open_lasts y S n f in
      subst (λ (here : Frame). Open y S n f ((define_labels here labels >>= λ _. define_constants here.region consts >>= λ _.
      define_types here.region kinds >>= λ _. define_variables here.region variable_part >>= λ _. define_routines here.region routines) j).known)
      (sym (stands_at n f j s.stands))
      ((bind-keeps (define_labels-open y S n f labels all) (λ _. bind-keeps (define_constants-lasts (open_ends y S n f) f.region consts) (λ _.
      bind-keeps (define_types-lasts c (open_ends y S n f) f.region kinds) (λ _. bind-keeps (define_variables-lasts c f.region variable_part) (λ _.
      define_routines-lasts c f.region routines (any_each (listed routines))))))).of j s);
}

define_body-open : (y : Labelling) (S : ℕ → Type 0) (n : ℕ) (f : Frame) (body : BodyTree) → Each y.L (labels_in_body body)
    → Keeps (Open y S n f) (define_body n body)
define_body-open y S n f (tree.a_directive directive) all = give-keeps tt
define_body-open y S n f (tree.a_block_body b) all = define_block-open y S n f b all

-- the labels of a procedure or function stand in the text's label parts
abbrev pub Labelled : Labelling → RoutineTree → Type 0
Labelled y r = Each y.L (labels_in_body (routine_body r))

abbrev pub OfOther : (RoutineTree → Type 0) → Option RoutineTree → Type 0
OfOther P None = Unit {0}
OfOther P (Some r) = P r

of_own : (P : RoutineTree → Type 0) (rs : RoutineTrees) (n : ℕ) → OfEach P rs → OfOther P (routine_at rs n)
of_own P tree.end_of_routines n h = tt
of_own P (tree.more_routines r rest) zero h = routine_own P r h.0
of_own P (tree.more_routines r rest) (suc n) h = of_own P rest n h.1

pub of_any : (P : RoutineTree → Type 0) (rs : RoutineTrees) (at : Option ℕ) → OfEach P rs → OfOther P (routine_if_any rs at)
of_any P rs None h = tt
of_any P rs (Some n) h = of_own P rs n h

define_completion-open : (y : Labelling) (S : ℕ → Type 0) (n : ℕ) (f : Frame) (o : Option RoutineTree) → OfOther (Labelled y) o
    → Keeps (Open y S n f) (define_completion n o)
define_completion-open y S n f None all = give-keeps tt
define_completion-open y S n f (Some r) all = define_body-open y S n f (routine_body r) all

define_inside-open : (y : Labelling) (S : ℕ → Type 0) (n : ℕ) (f : Frame) (h : HeadingTree) (body : BodyTree) (o : Option RoutineTree)
    → Each y.L (labels_in_body body) → OfOther (Labelled y) o → Keeps (Open y S n f) (define_inside n h body o)
unfolding define_inside
define_inside-open y S n f h body o body-in o-in = bind-keeps (define_formals_at-lasts (open_lasts {G = Any} y S n f) n h) (λ _.
    bind-keeps (define_body-open y S n f body body-in) (λ _. define_completion-open y S n f o o-in))

-- ---- a frame is opened for a block

-- these frames and one more
abbrev pub AndOne : (ℕ → Type 0) → ℕ → ℕ → Type 0
AndOne S n g = S g ⊎ (g ≡ n)

open_start : (y : Labelling) (S : ℕ → Type 0) (j : Known) (token around : ℕ) (f : Frame) → f.region ≡ length j.regions → f.outer ≡ Some around → S around
    → Walked y S j
    → Open y (AndOne S (length j.frames)) (length j.frames) f (and_region j token f)
open_start y S j token around f fresh outer around-in s =
    let n = length j.frames in
    record {
      walked = record {
        tidy = region_tidy j token f s.tidy;
        valued = (let e : Lasting Any (Valued y) = valued_lasts y in e.regions j token f s.valued);
        outward = λ g g-in. elim g-in [
          | inl old ↦ outward_more j.frames f g (s.outward g old)
          | inr new ↦ subst (λ m. Outward (j.frames ++ f ∷ []) m) (sym new) (outward_new j.frames f around outer (s.outward around around-in))
        ];
      };
      stands = opened j token f fresh;
      beyond = (let many = s.valued.many in omega (arith, fresh, many));
      own = ap (λ r. (region_at (j.regions ++ fresh_region token n ∷ []) r).frame) fresh
          ∙ ap (λ (r : RegionRows). r.frame) (last_region j.regions (fresh_region token n));
      free = λ m e. (let there = (s.tidy.typed m f.region e).there in omega (arith, fresh, there));
    }

home_of : (j : Known) (n : ℕ) (r : Row) → row_at j n ≡ r → Tidy j → IsHome j (routine_region r)
home_of j n (Row.Name (NameRow.Routine assigned number region)) e s = s.heads n assigned number region e
home_of j n (Row.Name r) e s = s.first
home_of j n r e s = s.first

-- the frame of a routine's region, by its name
pub own_outward : (j : Known) (name : ℕ) → Tidy j → Outward j.frames (own_frame j name)
own_outward j name s = (home_of j name (row_at j name) refl s).outward

head_walked : (y : Labelling) (S : ℕ → Type 0) (n : ℕ) (f : Frame) (j : Known) (name number at : ℕ) → S n → at ≡ f.region → 0 < f.level → Open y S n f j
    → Walked y S (with_row j name (Row.Name (NameRow.Routine false number at)))
head_walked y S n f j name number at n-in same deep s =
    let r = Row.Name (NameRow.Routine false number at) in
    let home : IsHome j f.region = record {
      there = s.stands.below;
      outward = subst (λ m. Outward j.frames m) (sym s.own) (s.walked.outward n n-in);
      deep = inr (subst (λ m. 0 < (frame_in j.frames m).level) (sym s.own) (subst (λ (g : Frame). 0 < g.level) (sym (stands_at n f j s.stands)) deep));
    } in
    record {
      tidy = put_tidy j name r (λ region e. absurd (none-some region e))
          (λ assigned m region e. (let is = same_region e in subst (IsHome j) (sym same ∙ is) home)) s.walked.tidy;
      valued = valued_row y j name r s.walked.valued;
      outward = s.walked.outward;
    }
  where
    same_region : {a b : Bool} {m i x y : ℕ} → Row.Name (NameRow.Routine a m x) ≡ Row.Name (NameRow.Routine b i y) → x ≡ y
    same_region e = cc

-- one block more is no outermost one
pub deeper : (n : ℕ) → 0 < one_deeper n
deeper n = by (nat_lt n 4294967295) refl
  where
    some : 0 < n + 1
    some = omega arith

    far : nat_lt n 4294967295 ≡ false → 0 < n
    far e = grind (arith, nat_tests)

    by : (b : Bool) → nat_lt n 4294967295 ≡ b → 0 < (if b then n + 1 else n)
    by true e = some
    by false e = far e

opened_walked : (y : Labelling) (S : ℕ → Type 0) (frame : ℕ) (r : RoutineTree) (o : Option RoutineTree) (j : Known) → S frame → Labelled y r
    → OfOther (Labelled y) o
    → Walked y S j → let d = after_completion frame r o j in Walked y (AndOne S d.value.frame) d.known
unfolding open_routine add_heading look extend change give ◌>>=◌
opened_walked y S frame r o j frame-in r-in o-in s =
    let f : Frame = record { region = length j.regions; outer = Some frame; level = one_deeper (frame_at j frame).level; withs = 0 } in
    let n = length j.frames in
    let R = AndOne S n in
    let h = routine_heading r in
    let c : Lasting Any (Open y R n f) = open_lasts y R n f in
    let i = and_region j (routine_name r) f in
    let a = define_inside n h (routine_body r) o i in
    let b = signature frame n h a.known in
    let one = (define_inside-open y R n f h (routine_body r) o r-in o-in).of i (open_start y S j (routine_name r) frame f refl refl frame-in s) in
    let two = (signature-lasts c frame n h).of a.known one in
    let here = frame_at b.known n in
    let row = heading_row h here.level b.value in
    let three = c.routines b.known row two in
    head_walked y R n f (and_routine b.known row) (heading_name h) (length b.known.program.routines) here.region (inr refl)
    (ap (λ (g : Frame). g.region) (stands_at n f b.known two.stands)) (deeper (frame_at j frame).level) three

first_walked : (y : Labelling) (S : ℕ → Type 0) (frame : ℕ) (rs : RoutineTrees) (r : RoutineTree) (j : Known) → S frame → OfEach (Labelled y) rs
    → Labelled y r → Walked y S j → let d = first_heading frame rs r j in Walked y (AndOne S d.value.frame) d.known
unfolding first_heading look ◌>>=◌
first_walked y S frame rs r j frame-in rs-in r-in s =
    opened_walked y S frame r (completion_of j rs r) j frame-in r-in (of_any (Labelled y) rs (block_in (row_at j (routine_name r))) rs-in) s

at_walked : (y : Labelling) (S : ℕ → Type 0) (o : Option ℕ) (frame : ℕ) (rs : RoutineTrees) (r : RoutineTree) (j : Known) → S frame
    → OfEach (Labelled y) rs → Labelled y r → Walked y S j → let d = enter_at o frame rs r j in Walked y (AndOne S d.value.frame) d.known
unfolding look
at_walked y S None frame rs r j frame-in rs-in r-in s = first_walked y S frame rs r j frame-in rs-in r-in s
at_walked y S (Some first) frame rs r j frame-in rs-in r-in s = record {
  tidy = s.tidy;
  valued = s.valued;
  outward = λ g g-in. elim g-in [
    | inl old ↦ s.outward g old
    | inr new ↦ subst (λ m. Outward j.frames m) (sym new) (own_outward j first s.tidy)
  ];
}

enter_walked : (y : Labelling) (S : ℕ → Type 0) (frame : ℕ) (rs : RoutineTrees) (r : RoutineTree) (j : Known) → S frame → OfEach (Labelled y) rs
    → Labelled y r → Walked y S j → let d = enter_heading frame rs r j in Walked y (AndOne S d.value.frame) d.known
unfolding enter_heading look ◌>>=◌
enter_walked y S frame rs r j frame-in rs-in r-in s = at_walked y S (first_name (row_at j (routine_name r))) frame rs r j frame-in rs-in r-in s

-- ---- blocks

then_walked : {y : Labelling} {S : ℕ → Type 0} (m : Step Entered) (f : Entered → Step (Unit {0}))
    → ((j : Known) → Walked y S j → Walked y (AndOne S (m j).value.frame) (m j).known)
    → ((e : Entered) → Keeps (Walked y (AndOne S e.frame)) (f e)) → Keeps (Walked y S) (m >>= f)
unfolding ◌>>=◌
then_walked m f enters inside = record {
  of = λ j s.
      let d = m j in
      let w = (inside d.value).of d.known (enters j s) in
      record { tidy = w.tidy; valued = w.valued; outward = λ g g-in. w.outward g (inl g-in) };
}

mutual
  block_walked : (y : Labelling) (S : ℕ → Type 0) (frame number place : ℕ) (b : BlockTree) → S frame → OfRoutines (Labelled y) b
      → Keeps (Walked y S) (block frame number place b)
  block_walked y S frame number place (tree.a_block labels constants types variables routines body) frame-in all =
      bind-keeps (parts-lasts (walked_lasts {G = Any} y S) frame place (tree.a_block labels constants types variables routines body)) (λ end.
      bind-keeps (put_body-lasts (walked_lasts {G = Any} y S) number end (compound_word body)) (λ _.
      bind-keeps (part_walked y S frame routines routines frame-in all all) (λ _. compound_uses-lasts (walked_lasts {G = Any} y S) frame body)))

  part_walked : (y : Labelling) (S : ℕ → Type 0) (frame : ℕ) (rs part : RoutineTrees) → S frame → OfEach (Labelled y) rs
      → OfEach (Labelled y) part → Keeps (Walked y S) (routines_in frame rs part)
  part_walked y S frame rs tree.end_of_routines frame-in rs-in all = give-keeps tt
  part_walked y S frame rs (tree.more_routines r rest) frame-in rs-in all =
      bind-keeps (routine_walked y S frame rs r frame-in rs-in all.0) (λ _. part_walked y S frame rs rest frame-in rs-in all.1)

  routine_walked : (y : Labelling) (S : ℕ → Type 0) (frame : ℕ) (rs : RoutineTrees) (r : RoutineTree) → S frame → OfEach (Labelled y) rs
      → OfRoutine (Labelled y) r → Keeps (Walked y S) (routine frame rs r)
  routine_walked y S frame rs (tree.a_routine heading semicolon body last_semicolon) frame-in rs-in all =
      then_walked (enter_heading frame rs (tree.a_routine heading semicolon body last_semicolon)) (λ e. body_in e body)
      (λ j s. enter_walked y S frame rs (tree.a_routine heading semicolon body last_semicolon) j frame-in rs-in all.0 s)
      (λ e. body_walked y (AndOne S e.frame) e body (inr refl) all.1)

  body_walked : (y : Labelling) (S : ℕ → Type 0) (e : Entered) (body : BodyTree) → S e.frame → OfBody (Labelled y) body
      → Keeps (Walked y S) (body_in e body)
  body_walked y S e (tree.a_directive directive) frame-in all = give-keeps tt
  body_walked y S e (tree.a_block_body b) frame-in all = block_walked y S e.frame e.number e.place b frame-in all

-- ---- programs

abbrev Zero : ℕ → Type 0
Zero g = g ≡ 0

abbrev pub outer_frame : Frame
outer_frame = record { region = 0; outer = None; level = 0; withs = 0 }

-- the text's declarations of the program's own names
abbrev pub defines_first : Lexed → ProgramTree → Known
defines_first l t = let d = open_program (known_at_start l) in (define_program d.value t d.known).known

-- the label parts of a text, from where only the program's own is looked at
abbrev pub labelling : Lexed → ProgramTree → (L low : ℕ → Type 0) → Labelling
labelling l t L low = record {
  k = known_at_start l;
  L = L;
  bound = length (defines_first l t).regions;
  low = low;
  old = (defines_first l t).regions;
  frames = (defines_first l t).frames;
}

-- and before
abbrev first_labelling : Lexed → (ℕ → Type 0) → Labelling
first_labelling l low = record { k = known_at_start l; L = low; bound = 0; low = low; old = []; frames = [] }

blank : (size n : ℕ) → unwrap_or (slice_get (replicate size Row.Nothing) n) Row.Nothing ≡ Row.Nothing
blank zero n = refl
blank (suc size) zero = refl
blank (suc size) (suc n) = blank size n

outer_walked : (l : Lexed) (L : ℕ → Type 0) → Walked (first_labelling l L) Zero (and_region (known_at_start l) 0 outer_frame)
outer_walked l L =
    let many = length l.tokens + length required_names in
    let out : Outward (outer_frame ∷ []) 0 = outward_first [] outer_frame refl in
    record {
      tidy = record {
        typed = λ n region e. absurd (none-some region (sym (ap (λ q. fields_in (type_in q)) (blank many n)) ∙ e));
        heads = λ n assigned number region e. absurd (no_row (sym (blank many n) ∙ e));
        first = record { there = omega arith; outward = out; deep = inl refl };
      };
      valued = record {
        words = refl;
        declared = λ region v d e. absurd (none-some d (region_labels (known_at_start l) 0 outer_frame region v d e));
        many = omega arith;
        below = λ region v d less e. absurd (omega (arith, less));
        stay = λ region v less. absurd (omega (arith, less));
        frames = record { more = outer_frame ∷ []; is = refl };
      };
      outward = λ g g-in. subst (λ m. Outward (outer_frame ∷ []) m) (sym g-in) out;
    }
  where
    no_row : {n : NameRow} → Row.Nothing ≡ Row.Name n → ⊥
    no_row e = cc

outermost_walked : (l : Lexed) (L : ℕ → Type 0) → let d = open_outermost (known_at_start l) in Walked (first_labelling l L) (λ g. g ≡ d.value) d.known
unfolding open_outermost extend give ◌>>=◌
outermost_walked l L =
    let y = first_labelling l L in
    let c : Lasting Any (Walked y Zero) = walked_lasts y Zero in
    let outer : ℕ = 0 in
    (bind-keeps (ordinal_types-lasts c) (λ _. bind-keeps (all_names-lasts c) (λ _. give-keeps outer))).of (and_region (known_at_start l) 0 outer_frame)
    (outer_walked l L)

defined_open : (y : Labelling) (S : ℕ → Type 0) (n : ℕ) (f : Frame) (t : ProgramTree) → Each y.L (block_labels t.block)
    → Keeps (Open y S n f) (define_program n t)
unfolding define_program
defined_open y S n f t all = bind-keeps (look-keeps (λ k. (frame_at k n).region)) (λ region.
    bind-keeps (program_parameters-lasts (open_lasts {G = Any} y S n f) region t.parameters) (λ _. define_block-open y S n f t.block all))

-- what is so where the program's block begins to be looked at, and where its statements do
pub record Programs (l : Lexed) (t : ProgramTree) (L low : ℕ → Type 0) : Type 0 where
  pub walked : let d = program_step t (known_at_start l) in Walked (labelling l t L low) (λ g. g ≡ d.value) d.known
  pub frame : Frame
  pub around : ℕ
  pub stands : Stands (program_step t (known_at_start l)).value frame (defines_first l t)
  pub outer : frame.outer ≡ Some around
  pub last : slice_get (defines_first l t).frames around ≡ Some outer_frame

outermost_stands : (l : Lexed) → let d = open_outermost (known_at_start l) in Stands d.value outer_frame d.known
unfolding open_outermost extend give ◌>>=◌
outermost_stands l =
    let c : Lasting Any (Stands 0 outer_frame) = standing 0 outer_frame in
    let outer : ℕ = 0 in
    (bind-keeps (ordinal_types-lasts c) (λ _. bind-keeps (all_names-lasts c) (λ _. give-keeps outer))).of (and_region (known_at_start l) 0 outer_frame)
    (opened (known_at_start l) 0 outer_frame refl)

pub program_walked : (l : Lexed) (t : ProgramTree) (L low : ℕ → Type 0) → ((n : ℕ) → low n → L n) → Each low (block_labels t.block)
    → OfRoutines (Labelled (labelling l t L low)) t.block → Programs l t L low
unfolding program_step open_program extend give ◌>>=◌
program_walked l t L low more own all =
    let x = first_labelling l low in
    let y = labelling l t L low in
    let o = open_outermost (known_at_start l) in
    let j = o.known in
    let S : ℕ → Type 0 = λ g. g ≡ o.value in
    let f : Frame = record { region = length j.regions; outer = Some o.value; level = 0; withs = 0 } in
    let n = length j.frames in
    let R = AndOne S n in
    let i = and_region j 0 f in
    let a = define_program n t i in
    let start = open_start x S j 0 o.value f refl refl refl (outermost_walked l low) in
    let one = (defined_open x R n f t own).of i start in
    let valued = one.walked.valued in
    let same : y.bound ≡ length a.known.regions = refl in
    let first : Walked y R a.known = record {
      tidy = one.walked.tidy;
      valued = record {
        words = valued.words;
        declared = λ region v d e. ((valued.declared region v d e).0, more d (valued.declared region v d e).1);
        many = omega (arith, same);
        below = λ region v d less e. (valued.declared region v d e).1;
        stay = λ region v less. refl;
        frames = no_longer a.known.frames;
      };
      outward = one.walked.outward;
    } in
    let two = (walked_lasts {G = Any} y R).routines a.known (main_row t.name) first in
    let end = (block_walked y R n (length a.known.program.routines) 1 t.block (inr refl) all).of (and_routine a.known (main_row t.name)) two in
    let outer = outermost_stands l in
    let outer_in : Stands o.value outer_frame i = (standing {G = Any} o.value outer_frame).regions j 0 f outer in
    record {
      walked = record { tidy = end.tidy; valued = end.valued; outward = λ g g-in. end.outward g (inr g-in) };
      frame = f;
      around = o.value;
      stands = one.stands;
      outer = refl;
      last = ((define_program-lasts (standing_all {G = Any} o.value outer_frame) n t (any_each (block_routines t.block))).of i outer_in).there;
    }
