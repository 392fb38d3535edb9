-- What holds of all that the declarations of a text break, by its regions, which are new where their names are defined.
use Rattle.std.proofs.Common.{◌++◌, ◌≡◌, [], ℕ, None, Option, Some, false, length, refl, suc, zero}
use Rattle.pas_tree.specs.{DenoterTrees.FieldsTree, HeadingTrees.HeadingTree, StatementPlaces.compound_word}
use Rattle.pas_tree.specs.BlockTrees.{BlockTree, BodyTree, ProgramTree, RoutineTree, RoutineTrees, routine_body, routine_heading}
use Rattle.pas_tree.specs.BlockTrees as tree
use Rattle.core_program.specs.declared.rows.{NameRow.NameRow, Row.Row}
use Rattle.check_steps.specs.{Required.open_outermost, declared.breaks.Break.Break, declared.regions.Frame.Frame}
use Rattle.check_steps.specs.Known.{Known, and_region, frame_at, row_at}
use Rattle.check_steps.specs.Steps.{◌>>=◌, Step, add_routine, extend, give, look}
use Rattle.denoter_checker.specs.{Formals.is_function, Headings.signature}
use Rattle.denoter_checker.specs.RoutineParts.{block_in, completion_of, routine_at, routine_if_any, routine_name}
use Rattle.decl_checker.specs.{Programs.define_program, Programs.main_row, Programs.open_program, Programs.program_step, declared.routines.Entered.Entered}
use Rattle.decl_checker.specs.Routines.{add_heading, block, body_in, define_inside, enter_at, enter_heading, first_heading, first_name, heading_row, one_deeper}
use Rattle.decl_checker.specs.Routines.{open_routine, place_after_result, resumed, routine, routines_in}
use Rattle.rule_laws.proofs.{Breaks.both, Breaks.in_right, LastsBlocks.parts-lasts, LastsBlocks.put_body-lasts, LastsHeadings.signature-lasts}
use Rattle.rule_laws.proofs.{LastsRequired.open_outermost-lasts, LastsRoutines.add_heading-lasts, LastsStatements.compound_uses-lasts, PlainDenoters.Records}
use Rattle.rule_laws.proofs.{PlainHeadings.Formals, PlainHeadings.signature-plain, PlainRequired.open_outermost-plain, PlainStatements.compound_uses-plain}
use Rattle.rule_laws.proofs.Comes.{Came, Comes, bind-came, bind-comes, comes_of, give-comes, look-comes}
use Rattle.rule_laws.proofs.Lasting.{Declaring, Lasting, add_routine-lasts}
use Rattle.rule_laws.proofs.Plain.{Aim, Plain, Solely, add_routine-plain, bind-solely, give-solely, look-solely, put-plain}
use Rattle.rule_laws.proofs.PlainBlocks.{OwnRecords, parts-plain, put_body-plain}
use Rattle.rule_laws.specs.FormalRoutines.{OfHeading}

-- no procedure or function
abbrev pub Never : RoutineTree → Type 0
Never r = ⊥

-- where no procedure or function is looked at
pub without : {G : RoutineTree → Type 0} {I : Known → Type 0} → Declaring G I → Declaring Never I
without {I = I} c =
    let l = c.kept in
    let kept : Lasting Never I = record {
      puts = l.puts;
      stays = l.stays;
      bodies = l.bodies;
      routines = l.routines;
      frames = l.frames;
      regions = l.regions;
      defines = l.defines;
      requires = l.requires;
      chooses = l.chooses;
      records = l.records;
      waits = λ k r g none i. absurd g;
      completes = λ k region first position r g e i. absurd g;
    } in
    record { kept = kept; ends = c.ends; declares = c.declares; labels = c.labels; heads = c.heads }

abbrev pub RecordsInBody : (FieldsTree → Type 0) → BodyTree → Type 0
RecordsInBody R (tree.a_directive directive) = Unit {0}
RecordsInBody R (tree.a_block_body b) = OwnRecords R b

-- what is known of a procedure or function, and of the records and the formal procedures and functions in it
pub record Seen (R : FieldsTree → Type 0) (H : HeadingTree → Type 0) (S : RoutineTree → Type 0) (r : RoutineTree) : Type 0 where
  pub records : RecordsInBody R (routine_body r)
  pub heading : OfHeading H (routine_heading r)
  pub site : S r

-- of the routine that completes a heading, if one does
abbrev pub Completes : (RoutineTree → Type 0) → Option RoutineTree → Type 0
Completes S None = Unit {0}
Completes S (Some r) = S r

-- Among all those of their part, what is known of each, and of those inside of it.
abbrev mutual
  pub SeenBlock : (FieldsTree → Type 0) → (HeadingTree → Type 0) → (RoutineTrees → RoutineTree → Type 0) → BlockTree → Type 0
  SeenBlock R H S (tree.a_block labels constants types variables routines body) = SeenEach R H S routines routines

  pub SeenEach : (FieldsTree → Type 0) → (HeadingTree → Type 0) → (RoutineTrees → RoutineTree → Type 0) → (all rs : RoutineTrees) → Type 0
  SeenEach R H S all tree.end_of_routines = Unit {0}
  SeenEach R H S all (tree.more_routines r rest) = SeenRoutine R H S all r × SeenEach R H S all rest

  pub SeenRoutine : (FieldsTree → Type 0) → (HeadingTree → Type 0) → (RoutineTrees → RoutineTree → Type 0) → RoutineTrees → RoutineTree → Type 0
  SeenRoutine R H S all (tree.a_routine heading semicolon body last_semicolon) =
      Seen R H (S all) (tree.a_routine heading semicolon body last_semicolon) × SeenBody R H S body

  pub SeenBody : (FieldsTree → Type 0) → (HeadingTree → Type 0) → (RoutineTrees → RoutineTree → Type 0) → BodyTree → Type 0
  SeenBody R H S (tree.a_directive directive) = Unit {0}
  SeenBody R H S (tree.a_block_body b) = SeenBlock R H S b

pub seen_own : (R : FieldsTree → Type 0) (H : HeadingTree → Type 0) (S : RoutineTrees → RoutineTree → Type 0) (all : RoutineTrees) (r : RoutineTree)
    → SeenRoutine R H S all r → Seen R H (S all) r
seen_own R H S all (tree.a_routine heading semicolon body last_semicolon) h = h.0

routine_each : (R : FieldsTree → Type 0) (H : HeadingTree → Type 0) (S : RoutineTrees → RoutineTree → Type 0) (all rs : RoutineTrees) (n : ℕ)
    → SeenEach R H S all rs → Completes (S all) (routine_at rs n)
routine_each R H S all tree.end_of_routines n h = tt
routine_each R H S all (tree.more_routines r rest) zero h = (seen_own R H S all r h.0).site
routine_each R H S all (tree.more_routines r rest) (suc n) h = routine_each R H S all rest n h.1

among_each : (R : FieldsTree → Type 0) (H : HeadingTree → Type 0) (S : RoutineTrees → RoutineTree → Type 0) (rs : RoutineTrees) (at : Option ℕ)
    → SeenEach R H S rs rs → Completes (S rs) (routine_if_any rs at)
among_each R H S rs None h = tt
among_each R H S rs (Some n) h = routine_each R H S rs rs n h

-- What is needed of the tables, and of what is broken: it holds of what is broken where the names of a procedure's or
-- function's region are defined, which is new.
pub record Entering (R : FieldsTree → Type 0) (H : HeadingTree → Type 0) (S : RoutineTrees → RoutineTree → Type 0) (I : Known → Type 0)
    (Told : Break → Type 0) (aim : Aim) : Type 0 where
  pub low : Declaring Never I
  pub spelled : (k : Known) → I k → k.words ≡ aim.words
  pub records : Records aim R
  pub formals : Formals aim H
  pub inside : (k : Known) (f : Frame) (rs : RoutineTrees) (r : RoutineTree) (completion : Option RoutineTree) → I k → f.region ≡ length k.regions → S rs r
      → completion ≡ completion_of k rs r → Completes (S rs) completion
      → Came I Told aim.P (define_inside (length k.frames) (routine_heading r) (routine_body r) completion) (and_region k (routine_name r) f)

add_heading-plain : {aim : Aim} (kept : Plain aim) (frame : ℕ) (h : HeadingTree) (end : ℕ) → Solely aim (add_heading frame h end)
unfolding add_heading
add_heading-plain kept frame h end = bind-solely (look-solely (λ k. frame_at k frame)) (λ here.
    bind-solely (add_routine-plain kept (heading_row h here.level end)) (λ number.
    bind-solely (put-plain kept _ (Row.Name (NameRow.Routine false number here.region))) (λ _. give-solely number)))

-- what comes after the names of the region
abbrev after_names : ℕ → ℕ → RoutineTree → Step Entered
after_names frame inner r = signature frame inner (routine_heading r) >>= λ end.
    add_heading inner (routine_heading r) end >>= λ number.
    give (record { number = number; frame = inner; place = place_after_result (is_function (routine_heading r)) end })

after_names-comes : {R : FieldsTree → Type 0} {H : HeadingTree → Type 0} {S : RoutineTrees → RoutineTree → Type 0} {I : Known → Type 0} {Told : Break → Type 0}
    {aim : Aim}
    (w : Entering R H S I Told aim) (frame inner : ℕ) (r : RoutineTree) → OfHeading H (routine_heading r) → Comes I Told aim.P (after_names frame inner r)
after_names-comes w frame inner r h =
    bind-comes (comes_of w.spelled (signature-lasts w.low.kept frame inner (routine_heading r)) (signature-plain w.formals frame inner (routine_heading r) h))
    (λ end.
    bind-comes (comes_of w.spelled (add_heading-lasts w.low inner (routine_heading r) end) (add_heading-plain w.formals.plain inner (routine_heading r) end))
    (λ number.
    give-comes _))

first_heading-comes : {R : FieldsTree → Type 0} {H : HeadingTree → Type 0} {S : RoutineTrees → RoutineTree → Type 0} {I : Known → Type 0}
    {Told : Break → Type 0} {aim : Aim}
    (w : Entering R H S I Told aim) (frame : ℕ) (rs : RoutineTrees) (r : RoutineTree) → SeenEach R H S rs rs → Seen R H (S rs) r
    → Comes I Told aim.P (first_heading frame rs r)
unfolding first_heading open_routine look extend ◌>>=◌
first_heading-comes {R = R} {H = H} {S = S} w frame rs r all seen = record {
  of = λ k i.
      let f : Frame = record { region = length k.regions; outer = Some frame; level = one_deeper (frame_at k frame).level; withs = 0 } in
      let completion = completion_of k rs r in
      let own = w.inside k f rs r completion i refl seen.site refl (among_each R H S rs (block_in (row_at k (routine_name r))) all) in
      let c = bind-came {f = λ _. after_names frame (length k.frames) r} (and_region k (routine_name r) f) own
      (λ _. after_names-comes w frame (length k.frames) r seen.heading) in
      record { kept = c.kept; told = λ t. c.told t };
}

enter_at-comes : {R : FieldsTree → Type 0} {H : HeadingTree → Type 0} {S : RoutineTrees → RoutineTree → Type 0} {I : Known → Type 0} {Told : Break → Type 0}
    {aim : Aim}
    (w : Entering R H S I Told aim) (o : Option ℕ) (frame : ℕ) (rs : RoutineTrees) (r : RoutineTree) → SeenEach R H S rs rs → Seen R H (S rs) r
    → Comes I Told aim.P (enter_at o frame rs r)
enter_at-comes w None frame rs r all seen = first_heading-comes w frame rs r all seen
enter_at-comes w (Some first) frame rs r all seen = look-comes (λ k. resumed k first)

enter_heading-comes : {R : FieldsTree → Type 0} {H : HeadingTree → Type 0} {S : RoutineTrees → RoutineTree → Type 0} {I : Known → Type 0}
    {Told : Break → Type 0} {aim : Aim}
    (w : Entering R H S I Told aim) (frame : ℕ) (rs : RoutineTrees) (r : RoutineTree) → SeenEach R H S rs rs → Seen R H (S rs) r
    → Comes I Told aim.P (enter_heading frame rs r)
unfolding enter_heading
enter_heading-comes w frame rs r all seen =
    bind-comes (look-comes (λ k. first_name (row_at k (routine_name r)))) (λ first. enter_at-comes w first frame rs r all seen)

mutual
  pub block-comes : {R : FieldsTree → Type 0} {H : HeadingTree → Type 0} {S : RoutineTrees → RoutineTree → Type 0} {I : Known → Type 0} {Told : Break → Type 0}
      {aim : Aim}
      (w : Entering R H S I Told aim) (frame number place : ℕ) (b : BlockTree) → OwnRecords R b → SeenBlock R H S b
      → Comes I Told aim.P (block frame number place b)
  block-comes w frame number place (tree.a_block labels constants types variables routines body) own all =
      let b = tree.a_block labels constants types variables routines body in
      bind-comes (comes_of w.spelled (parts-lasts w.low.kept frame place b) (parts-plain w.records frame place b own)) (λ end.
      bind-comes (comes_of w.spelled (put_body-lasts w.low.kept number end (compound_word body))
      (put_body-plain w.records.plain number end (compound_word body))) (λ _.
      bind-comes (part-comes w frame routines routines all all) (λ _.
      comes_of w.spelled (compound_uses-lasts w.low.kept frame body) (compound_uses-plain w.records.plain frame body))))

  part-comes : {R : FieldsTree → Type 0} {H : HeadingTree → Type 0} {S : RoutineTrees → RoutineTree → Type 0} {I : Known → Type 0} {Told : Break → Type 0}
      {aim : Aim}
      (w : Entering R H S I Told aim) (frame : ℕ) (rs part : RoutineTrees) → SeenEach R H S rs rs → SeenEach R H S rs part
      → Comes I Told aim.P (routines_in frame rs part)
  part-comes w frame rs tree.end_of_routines list all = give-comes tt
  part-comes w frame rs (tree.more_routines r rest) list all =
      bind-comes (routine-comes w frame rs r list all.0) (λ _. part-comes w frame rs rest list all.1)

  routine-comes : {R : FieldsTree → Type 0} {H : HeadingTree → Type 0} {S : RoutineTrees → RoutineTree → Type 0} {I : Known → Type 0} {Told : Break → Type 0}
      {aim : Aim}
      (w : Entering R H S I Told aim) (frame : ℕ) (rs : RoutineTrees) (r : RoutineTree) → SeenEach R H S rs rs → SeenRoutine R H S rs r
      → Comes I Told aim.P (routine frame rs r)
  routine-comes w frame rs (tree.a_routine heading semicolon body last_semicolon) list all =
      bind-comes (enter_heading-comes w frame rs (tree.a_routine heading semicolon body last_semicolon) list all.0) (λ e.
      body-comes w e body all.0.records all.1)

  body-comes : {R : FieldsTree → Type 0} {H : HeadingTree → Type 0} {S : RoutineTrees → RoutineTree → Type 0} {I : Known → Type 0} {Told : Break → Type 0}
      {aim : Aim}
      (w : Entering R H S I Told aim) (e : Entered) (body : BodyTree) → RecordsInBody R body → SeenBody R H S body → Comes I Told aim.P (body_in e body)
  body-comes w e (tree.a_directive directive) records all = give-comes tt
  body-comes w e (tree.a_block_body b) records all = block-comes w e.frame e.number e.place b records all

-- ---- a program

abbrev after_program : ℕ → ProgramTree → Step ℕ
after_program frame t = add_routine (main_row t.name) >>= λ number. block frame number 1 t.block >>= λ _. give frame

after_program-comes : {R : FieldsTree → Type 0} {H : HeadingTree → Type 0} {S : RoutineTrees → RoutineTree → Type 0} {I : Known → Type 0}
    {Told : Break → Type 0} {aim : Aim}
    (w : Entering R H S I Told aim) (frame : ℕ) (t : ProgramTree) → OwnRecords R t.block → SeenBlock R H S t.block
    → Comes I Told aim.P (after_program frame t)
after_program-comes w frame t own all =
    bind-comes (comes_of w.spelled (add_routine-lasts w.low.kept (main_row t.name)) (add_routine-plain w.records.plain (main_row t.name))) (λ number.
    bind-comes (block-comes w frame number 1 t.block own all) (λ _. give-comes frame))

pub program-came : {R : FieldsTree → Type 0} {H : HeadingTree → Type 0} {S : RoutineTrees → RoutineTree → Type 0} {I : Known → Type 0} {Told : Break → Type 0}
    {aim : Aim}
    (w : Entering R H S I Told aim) (t : ProgramTree) (k : Known) → I k → OwnRecords R t.block → SeenBlock R H S t.block
    → ((j : Known) (f : Frame) → I j → f.region ≡ length j.regions → Came I Told aim.P (define_program (length j.frames) t) (and_region j 0 f))
    → Came I Told aim.P (program_step t) k
unfolding program_step open_program extend ◌>>=◌
program-came {aim = aim} w t k i own all main =
    let d = open_outermost k in
    let f : Frame = record { region = length d.known.regions; outer = Some d.value; level = 0; withs = 0 } in
    let j = and_region d.known 0 f in
    let frame = length d.known.frames in
    let rest = bind-came {f = λ _. after_program frame t} j (main d.known f ((open_outermost-lasts w.low.kept).of k i) refl) (λ _.
    after_program-comes w frame t own all) in
    let e = (define_program frame t >>= λ _. after_program frame t) j in
    record {
      kept = rest.kept;
      told = λ told. both aim.P (d.broken ++ []) e.broken (both aim.P d.broken [] ((open_outermost-plain w.records.plain).of k (w.spelled k i)) tt)
          (rest.told (λ b here. told b (in_right b (d.broken ++ []) e.broken here)));
    }
