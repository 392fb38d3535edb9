-- That the declarations of a text break such rules alone, where each rule that is told from declarations is such.
use Rattle.std.proofs.Common.{◌∙◌, ◌≡◌, ℕ, None, Option, Some, length, refl}
use Rattle.pas_tree.specs.{DenoterTrees.FieldsTree, HeadingTrees.HeadingTree}
use Rattle.pas_tree.specs.BlockTrees.{BlockTree, BodyTree, ProgramTree, RoutineTree, RoutineTrees, routine_body, routine_heading}
use Rattle.pas_tree.specs.BlockTrees as tree
use Rattle.check_steps.specs.{Known.Known, Known.and_region, Known.frame_at, Steps.Step, declared.breaks.Break.Break}
use Rattle.denoter_checker.specs.RoutineParts.{define_each_routine, define_routines, have_blocks, routine_name}
use Rattle.decl_checker.specs.{Blocks.define_block, Programs.define_program, Programs.program_step}
use Rattle.decl_checker.specs.Routines.{define_body, define_completion, define_inside}
use Rattle.rule_laws.proofs.{Anything.body_all, Anything.heading_all, Anything.own_all, Breaks.Each, Comes.Came, LastsRoutineParts.define_routines-lasts}
use Rattle.rule_laws.proofs.Entering.{Entering, SeenBlock, SeenBody, SeenEach, SeenRoutine, program-came, without}
use Rattle.rule_laws.proofs.Plain.{Aim, Plain, Solely, bind-solely, give-solely, look-solely}
use Rattle.rule_laws.proofs.PlainDefines.{Twice, define_constants-twice, define_formals_at-twice, define_labels-twice, define_record-twice, define_types-twice}
use Rattle.rule_laws.proofs.PlainDefines.{define_variables-twice, program_parameters-twice}
use Rattle.rule_laws.proofs.Telling.{Allows, Only, bind-only, give-only, has_block-only, turn-only}
use Rattle.rule_laws.proofs.TextFields.{Spells, any_each, spelling, spelling_all}
use Rattle.rule_laws.specs.{ForwardHeadings.routines_in, Laws.broken_at}

-- This holds of plain rules, and of all rules that are told from declarations.
pub record Early (aim : Aim) : Type 0 where
  pub plain : Plain aim
  pub of : (rule token : ℕ) → aim.P (broken_at rule token)

twice : {aim : Aim} → Early aim → Twice aim
twice e = record { plain = e.plain; twice = e.of 2 }

allows : {aim : Aim} → Early aim → (name : ℕ) → Allows aim.P name
allows e name = record { twice = e.of 2 name; other = λ rule token two eight. e.of rule token }

-- ---- the procedures and functions of a part

turns-only : {aim : Aim} (e : Early aim) (region position : ℕ) (rs : RoutineTrees) → Only aim.P (define_each_routine region position rs)
turns-only e region position tree.end_of_routines = give-only position
turns-only e region position (tree.more_routines r rest) =
    bind-only (turn-only region position r (allows e (routine_name r))) (λ next. turns-only e region next rest)

blocks-only : {aim : Aim} (e : Early aim) (rs : RoutineTrees) → Only aim.P (have_blocks rs)
blocks-only e tree.end_of_routines = give-only tt
blocks-only e (tree.more_routines r rest) = bind-only (has_block-only r (e.of 8 (routine_name r))) (λ _. blocks-only e rest)

routines-early : {aim : Aim} (e : Early aim) (region : ℕ) (rs : RoutineTrees) → Solely aim (define_routines region rs)
routines-early e region rs =
    let only = bind-only (turns-only e region 0 rs) (λ _. blocks-only e rs) in
    record {
      same = λ k.
          let s : Spells k (define_routines region rs k).known = (define_routines-lasts (spelling k) region rs (any_each (routines_in rs))).of k
          (record { words = refl }) in
          s.words;
      of = λ k words. only.of k;
    }

-- ---- regions

block-early : {aim : Aim} (e : Early aim) (frame : ℕ) (b : BlockTree) → Solely aim (define_block frame b)
block-early e frame (tree.a_block labels consts kinds variable_part routines body) = let c = twice e in
    bind-solely (look-solely (λ k. frame_at k frame)) (λ here. bind-solely (define_labels-twice c here labels) (λ _.
    bind-solely (define_constants-twice c here.region consts) (λ _. bind-solely (define_types-twice c here.region kinds) (λ _.
    bind-solely (define_variables-twice c here.region variable_part) (λ _. routines-early e here.region routines)))))

body-early : {aim : Aim} (e : Early aim) (frame : ℕ) (body : BodyTree) → Solely aim (define_body frame body)
body-early e frame (tree.a_directive directive) = give-solely tt
body-early e frame (tree.a_block_body b) = block-early e frame b

completion-early : {aim : Aim} (e : Early aim) (frame : ℕ) (o : Option RoutineTree) → Solely aim (define_completion frame o)
completion-early e frame None = give-solely tt
completion-early e frame (Some r) = body-early e frame (routine_body r)

inside-early : {aim : Aim} (e : Early aim) (frame : ℕ) (h : HeadingTree) (body : BodyTree) (o : Option RoutineTree) → Solely aim (define_inside frame h body o)
unfolding define_inside
inside-early e frame h body o = bind-solely (define_formals_at-twice (twice e) frame h) (λ _.
    bind-solely (body-early e frame body) (λ _. completion-early e frame o))

program-early : {aim : Aim} (e : Early aim) (frame : ℕ) (t : ProgramTree) → Solely aim (define_program frame t)
unfolding define_program
program-early e frame t = bind-solely (look-solely (λ k. (frame_at k frame).region)) (λ region.
    bind-solely (program_parameters-twice (twice e) region t.parameters) (λ _. block-early e frame t.block))

-- ---- a text

abbrev IsTold : Break → Type 0
IsTold b = Unit {0}

abbrev AnyFields : FieldsTree → Type 0
AnyFields fields = Unit {0}

abbrev AnyHeading : HeadingTree → Type 0
AnyHeading h = Unit {0}

abbrev AnySite : RoutineTrees → RoutineTree → Type 0
AnySite all r = Unit {0}

mutual
  seen_block : (b : BlockTree) → SeenBlock AnyFields AnyHeading AnySite b
  seen_block (tree.a_block labels constants types variables routines body) = seen_part routines routines

  seen_part : (all rs : RoutineTrees) → SeenEach AnyFields AnyHeading AnySite all rs
  seen_part all tree.end_of_routines = tt
  seen_part all (tree.more_routines r rest) = (seen_routine all r, seen_part all rest)

  seen_routine : (all : RoutineTrees) (r : RoutineTree) → SeenRoutine AnyFields AnyHeading AnySite all r
  seen_routine all (tree.a_routine heading semicolon body last_semicolon) = (
    record {
      records = body_all AnyFields (λ f. tt) body;
      heading = heading_all AnyHeading (λ h. tt) heading;
      site = tt;
    },
    seen_body body,
  )

  seen_body : (body : BodyTree) → SeenBody AnyFields AnyHeading AnySite body
  seen_body (tree.a_directive directive) = tt
  seen_body (tree.a_block_body b) = seen_block b

came_of : {aim : Aim} {A : Type 0} {m : Step A} (k j : Known) → k.words ≡ aim.words → Solely aim m → Spells k j → Came (Spells k) IsTold aim.P m j
came_of k j words solely s = record { kept = record { words = solely.same j ∙ s.words }; told = λ w. solely.of j (s.words ∙ words) }

entering : {aim : Aim} → Early aim → (k : Known) → k.words ≡ aim.words → Entering AnyFields AnyHeading AnySite (Spells k) IsTold aim
entering e k words = record {
  low = without (spelling_all k);
  spelled = λ j s. s.words ∙ words;
  records = record {
    plain = e.plain;
    fields = λ j word f fields is words r. (define_record-twice (twice e) (length j.frames) fields).of (and_region j word f) words;
  };
  formals = record {
    plain = e.plain;
    formals = λ j token f h is words r. (define_formals_at-twice (twice e) (length j.frames) h).of (and_region j token f) words;
  };
  inside = λ j f rs r o s is site same seen. came_of k (and_region j (routine_name r) f) words
      (inside-early e (length j.frames) (routine_heading r) (routine_body r) o) (record { words = s.words });
}

pub declarations_early : {aim : Aim} → Early aim → (t : ProgramTree) (k : Known) → k.words ≡ aim.words → Each aim.P (program_step t k).broken
declarations_early e t k words =
    (program-came (entering e k words) t k (record { words = refl }) (own_all AnyFields (λ f. tt) t.block) (seen_block t.block)
    (λ j f i is. came_of k (and_region j 0 f) words (program-early e (length j.frames) t) (record { words = i.words }))).told (λ b i. tt)
