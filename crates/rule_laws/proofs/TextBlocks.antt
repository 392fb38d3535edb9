-- The names and the forward headings of a text's blocks.
use Rattle.std.proofs.Common.{◌++◌, ◌+◌, ◌<◌, ◌∷◌, ◌≡◌, [], ℕ, List, Option, Some, ap, false, inl, inr, length, refl, subst, sym}
use Rattle.pas_lexer.specs.Lexed.{Lexed}
use Rattle.grammar.specs.Nodes.{spell}
use Rattle.pas_tree.specs.BlockTrees.{BlockTree, BodyTree, ProgramTree, RoutineTree, RoutineTrees, routine_body, routine_heading}
use Rattle.pas_tree.specs.BlockTrees as tree
use Rattle.pas_tree.specs.TreeNodes.{block_node, parameters_node, tree_node}
use Rattle.pas_parser.specs.Formed.{items_of}
use Rattle.core_program.specs.declared.rows.PartRow.{PartRow}
use Rattle.check_steps.specs.{Known.Known, Known.and_region, Known.frame_at, Known.row_at, Regions.defined_in, Required.open_outermost, Words.known_at_start}
use Rattle.check_steps.specs.{Words.required_names, declared.breaks.Break.Break, declared.regions.Frame.Frame}
use Rattle.check_steps.specs.Steps.{◌>>=◌, add_routine, extend, give, look}
use Rattle.denoter_checker.specs.{Formals.define_formals_at, RoutineParts.completion_of, RoutineParts.routine_name}
use Rattle.decl_checker.specs.{Blocks.define_block, Parameters.program_parameters}
use Rattle.decl_checker.specs.Programs.{define_program, main_row, open_program, program_step}
use Rattle.decl_checker.specs.Routines.{block, define_body, define_completion, define_inside, enter_at, enter_heading, first_heading, open_routine}
use Rattle.code_checker.specs.CheckedPrograms.{broken, check_step}
use Rattle.rule_laws.proofs.{Gives.Gives, Gives.gives_first, Gives.gives_then, Keeping.look-keeps, Lasting.add_routine-lasts}
use Rattle.rule_laws.proofs.{LastsFormals.define_formals_at-lasts, LastsParameters.program_parameters-lasts, LastsPrograms.open_program-lasts, Listed.each_at}
use Rattle.rule_laws.proofs.{NameLaw.begun, NameLaw.parameters_go, NameTurns.Region, NameTurns.Turn, NamesIn.parameters-in, PartWalk.fresh_is_clean}
use Rattle.rule_laws.proofs.{PartWalk.not_second, Standing.opened, Standing.standing, Standing.stands_at, TextFields.Any, TextFields.IsTold, TextFields.Text}
use Rattle.rule_laws.proofs.{TextHeadings.IsOfText, TextTokens.text_law, TextTokens.text_tokens, TextWalk.first_gives}
use Rattle.rule_laws.proofs.Breaks.{Each, In, contained, in_left, in_right}
use Rattle.rule_laws.proofs.LastsRoutines.{after_completion, block_each}
use Rattle.rule_laws.proofs.PartTurns.{Again, Clean, Orderly, orderly_lasts, part_again}
use Rattle.rule_laws.proofs.PartWalk.{Claim, Enters, Fresh, Stated, StatedIn, StatedOf, block_enters, block_leads, block_stays, frame_inside, fresh_inside}
use Rattle.rule_laws.proofs.Seats.{AnyKind, Nobody, Seats, block_has, every_has, text_names, text_seats}
use Rattle.rule_laws.proofs.TextForwards.{Both, block_apart, block_gives, both_last, inside_gives, start_both}
use Rattle.rule_laws.proofs.TextNames.{blank, block_back, block_labels_told, formals_end, inside_labels, inside_told, text_block, wrong_at}
use Rattle.rule_laws.specs.{ForwardHeadings.is_second, Laws.broken_at, NameLaws.block_labels, NameLaws.block_routines, RegionNames.block_names}
use Rattle.rule_laws.specs.{RegionNames.heading_names, RegionNames.parameter_names, TextParts.OfRoutines, TextParts.OfRoutinesAfter, Tokens.IsDistinct}
use Rattle.rule_laws.specs.TextLaws.{ForwardsAreTold, RegionIsTold, labels_in_body, names_in_body, names_of_routine, routines_in_body}

-- ---- a procedure or function with the name of one before it

-- that this is broken
abbrev telling : Break → Claim
telling b = record { X = λ i bs. In b bs; more = λ i bs cs here. in_right b bs cs here }

-- in a block
block_again : (k : Known) (t b : BlockTree) (p : Region) (done : List ℕ) (frame : ℕ) (j : Known) → p.region ≡ (frame_at j frame).region
    → p.k.words ≡ k.words → Clean t p.region p.k → Each (Nobody t) done → Stated k t b → Turn p done j → Orderly k t j
    → (before : List RoutineTree) (r : RoutineTree) (after : List RoutineTree) → block_routines b ≡ before ++ r ∷ after
    → Again k (done ++ block_names b) before r → In (broken_at 2 (routine_name r)) (define_block frame b j).broken
block_again k t (tree.a_block labels consts kinds variable_part routines body) p done frame j e words clean nobody st turned s before r after same again =
    let b = tree.a_block labels consts kinds variable_part routines body in
    block_leads k t b p done frame j (telling (broken_at 2 (routine_name r))) e
    (record { words = words; clean = clean; before = nobody; names = st.names }) (record {
      of = λ i part. part_again k t p.region (done ++ block_names b) routines i st.all st.seats part before r after same again;
    }) turned s

body_again : (k : Known) (t : BlockTree) (body : BodyTree) (p : Region) (done : List ℕ) (frame : ℕ) (j : Known) → p.region ≡ (frame_at j frame).region
    → p.k.words ≡ k.words → Clean t p.region p.k → Each (Nobody t) done → StatedIn k t body → Turn p done j → Orderly k t j
    → (before : List RoutineTree) (r : RoutineTree) (after : List RoutineTree) → routines_in_body body ≡ before ++ r ∷ after
    → Again k (done ++ names_in_body body) before r → In (broken_at 2 (routine_name r)) (define_body frame body j).broken
body_again k t (tree.a_directive directive) p done frame j e words clean nobody st turned s before r after same again = absurd (none before r after same)
  where
    none : (before : List RoutineTree) (r : RoutineTree) (after : List RoutineTree) → [] ≡ before ++ r ∷ after → ⊥
    none [] r after e = cc
    none (y ∷ ys) r after e = cc
body_again k t (tree.a_block_body b) p done frame j e words clean nobody st turned s before r after same again =
    block_again k t b p done frame j e words clean nobody st turned s before r after same again

-- in the region of a procedure or function
pub inside_again : (k : Known) (t : BlockTree) (j : Known) (frame : ℕ) (f : Frame) (q : RoutineTree) (completion : Option RoutineTree) → Orderly k t j
    → Fresh t frame f j → Each (Nobody t) (heading_names (routine_heading q)) → StatedIn k t (routine_body q)
    → (before : List RoutineTree) (r : RoutineTree) (after : List RoutineTree) → routines_in_body (routine_body q) ≡ before ++ r ∷ after
    → Again k (names_of_routine q) before r
    → In (broken_at 2 (routine_name r)) (define_inside frame (routine_heading q) (routine_body q) completion j).broken
unfolding define_inside ◌>>=◌
inside_again k t j frame f q completion s fresh formals st before r after same again =
    let b = broken_at 2 (routine_name r) in
    let h = routine_heading q in
    let p : Region = record { k = j; region = f.region; t = 0 } in
    let d = define_formals_at frame h j in
    let at = stands_at frame f j fresh.stands in
    let ends = formals_end j frame f.region 0 h j (ap (λ (g : Frame). g.region) (sym at)) (begun j f.region 0 fresh.stands.below) in
    let then = (define_formals_at-lasts (standing {G = Any} frame f) frame h).of j fresh.stands in
    let still = ap (λ (g : Frame). g.region) (sym (stands_at frame f d.known then)) in
    let e = define_body frame (routine_body q) d.known in
    let rest = define_completion frame completion e.known in
    in_right b d.broken (e.broken ++ rest.broken) (in_left b e.broken rest.broken
    (body_again k t (routine_body q) p (heading_names h) frame d.known still s.both.sound.words fresh.clean formals st ends.turn
    ((define_formals_at-lasts (orderly_lasts k t) frame h).of j s) before r after same again))

-- ---- what the region of a procedure or function tells in any case

pub record Inside (k : Known) (t : BlockTree) (r : RoutineTree) (b : Break) : Type 0 where
  pub told : (j : Known) (frame : ℕ) (f : Frame) (completion : Option RoutineTree) → Orderly k t j → Fresh t frame f j
      → In b (define_inside frame (routine_heading r) (routine_body r) completion j).broken

opened_told : (k : Known) (t : BlockTree) (j : Known) (frame : ℕ) (r : RoutineTree) (completion : Option RoutineTree) (b : Break) → Orderly k t j
    → Inside k t r b → In b (after_completion frame r completion j).broken
unfolding open_routine look extend ◌>>=◌
opened_told k t j frame r completion b s inside =
    let f = frame_inside j frame in
    let i = and_region j (routine_name r) f in
    let d = define_inside (length j.frames) (routine_heading r) (routine_body r) completion i in
    in_left b d.broken _ (inside.told i (length j.frames) f completion ((orderly_lasts k t).regions j (routine_name r) f s)
    (fresh_inside t j frame (routine_name r)))

pub first_told : (k : Known) (t : BlockTree) (j : Known) (frame : ℕ) (rs : RoutineTrees) (r : RoutineTree) (b : Break) → Orderly k t j → Inside k t r b
    → In b (first_heading frame rs r j).broken
unfolding first_heading look ◌>>=◌
first_told k t j frame rs r b s inside = opened_told k t j frame r (completion_of j rs r) b s inside

entered_told : (k : Known) (t : BlockTree) (j : Known) (frame : ℕ) (rs : RoutineTrees) (before : List RoutineTree) (r : RoutineTree) (b : Break)
    → Orderly k t j → StatedOf k t before r → is_second k before r ≡ false → Inside k t r b → In b (enter_heading frame rs r j).broken
unfolding enter_heading look ◌>>=◌
entered_told k t j frame rs before r b s st none inside =
    let e = not_second k t j before r s st.seat none (row_at j (routine_name r)) refl in
    subst (λ (o : Option ℕ). In b (enter_at o frame rs r j).broken) (sym e) (first_told k t j frame rs r b s inside)

-- ---- procedures and functions

-- what the law on names says of one
abbrev pub Names : Text → List RoutineTree → RoutineTree → Type 0
Names x before r = is_second x.k before r ≡ false
    → RegionIsTold x.k x.bs (names_of_routine r) (routines_in_body (routine_body r)) (labels_in_body (routine_body r))

names_entered : (x : Text) (t : BlockTree) → Enters x.k t (IsTold x) (Names x)
names_entered x t = record {
  entered = λ frame outer rs q all st. record {
    of = λ j s w none. record {
      names = λ before name after same second. w (broken_at 2 name) (entered_told x.k t j frame rs outer q (broken_at 2 name) s st none (record {
        told = λ i inner f completion o fresh. inside_told x.k i inner f q completion before name after o.both.sound.words fresh.stands same second;
      }));
      headings = λ before r after same again. w (broken_at 2 (routine_name r))
          (entered_told x.k t j frame rs outer q (broken_at 2 (routine_name r)) s st none (record {
            told = λ i inner f completion o fresh.
                inside_again x.k t i inner f q completion o fresh st.seat.formals st.body before r after same (record { is = again });
          }));
      labels = λ before label after same second. w (broken_at 2 label) (entered_told x.k t j frame rs outer q (broken_at 2 label) s st none (record {
        told = λ i inner f completion o fresh. inside_labels x.k i inner f q completion before label after o.both.sound.words fresh.stands same second;
      }));
    };
  };
}

-- and that on forward headings
abbrev pub Forwards : Text → List RoutineTree → RoutineTree → Type 0
Forwards x before r = is_second x.k before r ≡ false → ForwardsAreTold x.k x.bs (routines_in_body (routine_body r))

forwards_entered : (x : Text) (t : BlockTree) → Enters x.k t (IsTold x) (Forwards x)
unfolding enter_heading look ◌>>=◌
forwards_entered x t = record {
  entered = λ frame outer rs q all st. record {
    of = λ j s w none.
        let e = not_second x.k t j outer q s st.seat none (row_at j (routine_name q)) refl in
        let X = ForwardsAreTold x.k x.bs (routines_in_body (routine_body q)) in
        let first : Gives (Both x.k t) (IsTold x) (first_heading frame rs q) X = first_gives (both_last x.k t) frame rs q
        (λ inner completion. inside_gives x t inner (routine_heading q) (routine_body q) completion all st.seat.apart) in
        (subst (λ (o : Option ℕ). Gives (Both x.k t) (IsTold x) (enter_at o frame rs q) X) (sym e) first).of j s.both w;
  };
}

-- ---- the block of the program

-- what the text says of it
program_stated : (k : Known) (t : BlockTree) → OfRoutines (IsOfText k t) t → IsDistinct (block_node t) → Stated k t t
program_stated k t all distinct = by t (block_each (IsOfText k t) t all) (text_seats t distinct) (text_names t distinct)
  where
    by : (b : BlockTree) → Each (IsOfText k t) (block_routines b) → Seats t b → Each (Nobody t) (block_names b) → Stated k t b
    by (tree.a_block labels constants types variables routines body) all seats names = record { all = all; seats = seats; names = names }

-- the frame of the program's block
pub program_frame : (k : Known) (t : BlockTree) → let d = open_program k in (f : Frame) × Fresh t d.value f d.known
unfolding open_program extend ◌>>=◌
program_frame k t =
    let d = open_outermost k in
    let f : Frame = record { region = length d.known.regions; outer = Some d.value; level = 0; withs = 0 } in
    (f, record { stands = opened d.known 0 f refl; clean = fresh_is_clean t d.known 0 f })

-- where the parameters were defined
pub record Ready (k : Known) (t : ProgramTree) (frame : ℕ) (f : Frame) (i : Known) : Type 0 where
  pub orderly : Orderly k t.block i
  pub fresh : Fresh t.block frame f i
  pub at : f.region ≡ (frame_at i frame).region

pub ready : (k : Known) (t : ProgramTree) (frame : ℕ) (f : Frame) (j : Known) → IsDistinct (tree_node t) → Orderly k t.block j → Fresh t.block frame f j
    → Ready k t frame f (program_parameters (frame_at j frame).region t.parameters j).known
ready k t frame f j distinct s fresh =
    let b = t.block in
    let region = (frame_at j frame).region in
    let same : region ≡ f.region = ap (λ (g : Frame). g.region) (stands_at frame f j fresh.stands) in
    let p : Region = record { k = j; region = region; t = 0 } in
    let start = begun j region 0 (subst (λ r. r < length j.regions) (sym same) fresh.stands.below) in
    let turned = ((parameters_go p t.parameters).of [] j start).turn in
    let i = (program_parameters region t.parameters j).known in
    let stands = (program_parameters-lasts (standing {G = Any} frame f) region t.parameters).of j fresh.stands in
    let nobody = parameters-in (Nobody b) j t.parameters (every_has (Nobody b) (parameters_node t.parameters) (λ n has some.
    distinct.1.1.2 n has (inr (inl (block_has AnyKind n b some))))) in
    let clean : Clean b region i = λ n d found. elim (turned.tokens n d found) [
      | inl old ↦ fresh.clean n d (subst (λ r. defined_in j.regions r n ≡ Some d) same old)
      | inr listed ↦ each_at (Nobody b) (parameter_names j t.parameters) nobody d.token listed
    ] in
    record {
      orderly = (program_parameters-lasts (orderly_lasts k b) region t.parameters).of j s;
      fresh = record { stands = stands; clean = subst (λ r. Clean b r i) same clean };
      at = ap (λ (g : Frame). g.region) (sym (stands_at frame f i stands));
    }

-- its names and labels
abbrev pub OfProgram : Text → ProgramTree → Type 0
OfProgram x t = RegionIsTold x.k x.bs (block_names t.block) (block_routines t.block) (block_labels t.block)

program_names : (x : Text) (t : ProgramTree) (frame : ℕ) (f : Frame) (j : Known) → IsDistinct (tree_node t) → Stated x.k t.block t.block
    → Orderly x.k t.block j → Fresh t.block frame f j → ((b : Break) → In b (define_program frame t j).broken → IsTold x b) → OfProgram x t
unfolding define_program look ◌>>=◌
program_names x t frame f j distinct st s fresh w =
    let d = program_parameters (frame_at j frame).region t.parameters j in
    let i = d.known in
    let e = define_block frame t.block i in
    let y = ready x.k t frame f j distinct s fresh in
    let words = y.orderly.both.sound.words in
    let below = y.fresh.stands.below in
    record {
      names = λ before name after same second. w (broken_at 2 name) (in_right (broken_at 2 name) d.broken e.broken
          (block_back i frame f.region name t.block [] i y.at (begun i f.region name below)
          (wrong_at x.k i f.region (block_names t.block) before name after words same second)));
      headings = λ before r after same again. w (broken_at 2 (routine_name r)) (in_right (broken_at 2 (routine_name r)) d.broken e.broken
          (block_again x.k t.block t.block (record { k = i; region = f.region; t = 0 }) [] frame i y.at words y.fresh.clean tt st
          (begun i f.region 0 below) y.orderly before r after same (record { is = again })));
      labels = λ before label after same second. w (broken_at 2 label) (in_right (broken_at 2 label) d.broken e.broken
          (block_labels_told x.k i frame f t.block before label after words y.fresh.stands same second));
    }

pub program_stays : (k : Known) (t : ProgramTree) (frame : ℕ) (f : Frame) (j : Known) → IsDistinct (tree_node t) → Stated k t.block t.block
    → Orderly k t.block j → Fresh t.block frame f j → Orderly k t.block (define_program frame t j).known
unfolding define_program look ◌>>=◌
program_stays k t frame f j distinct st s fresh =
    let i = (program_parameters (frame_at j frame).region t.parameters j).known in
    let y = ready k t frame f j distinct s fresh in
    block_stays k t.block t.block (record { k = i; region = f.region; t = 0 }) [] frame i y.at y.orderly.both.sound.words y.fresh.clean tt st
    (begun i f.region 0 y.fresh.stands.below) y.orderly

-- ---- a text

pub start_orderly : (l : Lexed) (b : BlockTree) → Orderly (known_at_start l) b (known_at_start l)
start_orderly l b = record {
  both = start_both l b;
  marked = record {
    forward = λ n function block e. absurd (blank (length l.tokens + length required_names) n (PartRow.Forward function block) e);
    completing = λ n first e. absurd (blank (length l.tokens + length required_names) n (PartRow.Completing first) e);
  };
}

-- what the laws need
pub record Whole (l : Lexed) (t : ProgramTree) : Type 1 where
  pub all : OfRoutines (IsOfText (known_at_start l) t.block) t.block
  pub distinct : IsDistinct (tree_node t)
  pub stated : Stated (known_at_start l) t.block t.block
  pub seats : Seats t.block t.block

pub whole : (l : Lexed) (t : ProgramTree) → spell (tree_node t) ≡ items_of l.tokens → Whole l t
whole l t spelled =
    let k = known_at_start l in
    let inside = text_tokens l t spelled in
    let distinct = text_law l.tokens t spelled in
    let all = text_block k t.block t.block inside.1.1.1.1.0 (λ name none. none) in
    record {
      all = all;
      distinct = distinct;
      stated = program_stated k t.block all distinct.1.1.1.1.0;
      seats = text_seats t.block distinct.1.1.1.1.0;
    }

-- what each procedure and function gives where it is entered
later_gives : (x : Text) (t : ProgramTree) (P : List RoutineTree → RoutineTree → Type 0) (frame : ℕ) → OfRoutines (IsOfText x.k t.block) t.block
    → Seats t.block t.block → Enters x.k t.block (IsTold x) P
    → Gives (Orderly x.k t.block) (IsTold x) (add_routine (main_row t.name) >>= λ number. block frame number 1 t.block >>= λ _. give frame)
    (OfRoutinesAfter P t.block)
later_gives x t P frame all seats w = gives_then (add_routine-lasts (orderly_lasts x.k t.block) (main_row t.name)) (λ number.
    gives_first _ (block_enters w frame number 1 t.block all seats))

entered_gives : (x : Text) (t : ProgramTree) (P : List RoutineTree → RoutineTree → Type 0) → OfRoutines (IsOfText x.k t.block) t.block
    → IsDistinct (tree_node t) → Stated x.k t.block t.block → Seats t.block t.block → Enters x.k t.block (IsTold x) P
    → Gives (Orderly x.k t.block) (IsTold x) (program_step t) (OfRoutinesAfter P t.block)
unfolding program_step ◌>>=◌
entered_gives x t P all distinct st seats w = record {
  of = λ j s told.
      let k = x.k in
      let b = t.block in
      let opened = open_program j in
      let f = program_frame j b in
      let begin = (open_program-lasts (orderly_lasts k b)).of j s in
      let defined = define_program opened.value t opened.known in
      let next = program_stays k t opened.value f.0 opened.known distinct st begin f.1 in
      (later_gives x t P opened.value all seats w).of defined.known next (λ e here. told e (in_right e opened.broken _ (in_right e defined.broken _ here)));
}

-- what the program's block gives
program_gives : (x : Text) (t : ProgramTree) → IsDistinct (tree_node t) → Stated x.k t.block t.block
    → Gives (Orderly x.k t.block) (IsTold x) (program_step t) (OfProgram x t)
unfolding program_step ◌>>=◌
program_gives x t distinct st = record {
  of = λ j s w.
      let d = open_program j in
      let f = program_frame j t.block in
      let e = define_program d.value t d.known in
      program_names x t d.value f.0 d.known distinct st ((open_program-lasts (orderly_lasts x.k t.block)).of j s) f.1
      (λ b i. w b (in_right b d.broken _ (in_left b e.broken _ i)));
}

-- of those that have not the block of a forward heading
pub text_name_firsts : (l : Lexed) (t : ProgramTree) → spell (tree_node t) ≡ items_of l.tokens
    → let x : Text = record { k = known_at_start l; bs = broken l t } in OfProgram x t × OfRoutinesAfter (Names x) t.block
unfolding check_step
text_name_firsts l t spelled =
    let k = known_at_start l in
    let x : Text = record { k = k; bs = broken l t } in
    let y = whole l t spelled in
    let start = start_orderly l t.block in
    let told : (b : Break) → In b (check_step t k).broken → IsTold x b = λ b i. contained b (broken l t) i in (
      (gives_first _ (program_gives x t y.distinct y.stated)).of k start told,
      (gives_first _ (entered_gives x t (Names x) y.all y.distinct y.stated y.seats (names_entered x t.block))).of k start told,
    )

-- of those that have not the block of a forward heading
pub text_forward_firsts : (l : Lexed) (t : ProgramTree) → spell (tree_node t) ≡ items_of l.tokens
    → let x : Text = record { k = known_at_start l; bs = broken l t } in
    ForwardsAreTold x.k x.bs (block_routines t.block) × OfRoutinesAfter (Forwards x) t.block
unfolding check_step program_step define_program
text_forward_firsts l t spelled =
    let k = known_at_start l in
    let x : Text = record { k = k; bs = broken l t } in
    let y = whole l t spelled in
    let c = both_last k t.block in
    let told : (b : Break) → In b (check_step t k).broken → IsTold x b = λ b i. contained b (broken l t) i in
    let own : Gives (Both k t.block) (IsTold x) (program_step t) (ForwardsAreTold k x.bs (block_routines t.block)) =
    gives_then (open_program-lasts c) (λ frame. gives_first _ (gives_then (look-keeps (λ k. (frame_at k frame).region)) (λ region.
    gives_then (program_parameters-lasts c region t.parameters) (λ _.
    block_gives x t.block frame t.block y.all (block_apart t.block y.distinct.1.1.1.1.0))))) in (
      (gives_first _ own).of k (start_both l t.block) told,
      (gives_first _ (entered_gives x t (Forwards x) y.all y.distinct y.stated y.seats (forwards_entered x t.block))).of k (start_orderly l t.block) told,
    )
