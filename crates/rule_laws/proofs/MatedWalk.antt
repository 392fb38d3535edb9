-- A text's procedures and functions in turn, each with its block, which may be that of a forward heading.
use Rattle.std.proofs.Common.{if◌then◌else◌, ◌++◌, ◌<◌, ◌∙◌, ◌∷◌, ◌≡◌, ◌⊎◌, [], ℕ, Bool, List, None, Option, Some, ap, arith, false, inl, inr, length}
use Rattle.std.proofs.Common.{length-set, map, refl, subst, suc, sym, true, zero}
use Rattle.std.proofs.lemmas.{List.append-nil, List.append_assoc, Option.none-some, Option.same_Some}
use Rattle.pas_tree.specs.{HeadingPlaces.heading_name, HeadingTrees.HeadingTree, StatementPlaces.compound_word}
use Rattle.pas_tree.specs.BlockTrees.{BlockTree, BodyTree, RoutineTree, RoutineTrees, routine_body, routine_heading}
use Rattle.pas_tree.specs.BlockTrees as tree
use Rattle.pas_tree.specs.TreeNodes.{block_node, body_node, heading_node, routine_node, routines_node}
use Rattle.core_program.specs.declared.rows.{NameRow.NameRow, PartRow.PartRow, Row.Row}
use Rattle.check_steps.specs.Known.{Known, and_region, and_routine, frame_at, row_at}
use Rattle.check_steps.specs.Steps.{◌>>=◌, change, extend, give, look}
use Rattle.check_steps.specs.declared.{breaks.Break.Break, regions.Frame.Frame}
use Rattle.denoter_checker.specs.{Formals.define_formals_at, Headings.signature}
use Rattle.denoter_checker.specs.RoutineParts.{block_in, completion_of, define_each_routine, have_blocks, routine_at, routine_if_any, routine_name}
use Rattle.decl_checker.specs.{Labels.define_labels, Statements.compound_uses, declared.routines.Entered.Entered}
use Rattle.decl_checker.specs.Blocks.{define_block, define_constants, define_types, define_variables, parts, put_body, word_after}
use Rattle.decl_checker.specs.Routines.{add_heading, block, body_in, define_body, define_completion, define_inside, enter_at, enter_heading, first_heading}
use Rattle.decl_checker.specs.Routines.{first_name, heading_row, open_routine, routine}
use Rattle.decl_checker.specs.Routines as walk
use Rattle.rule_laws.proofs.{Every.Every, Faces.row_either, LastsFormals.define_formals_at-lasts, LastsHeadings.signature-lasts}
use Rattle.rule_laws.proofs.{LastsLabels.define_labels-lasts, LastsRoutineParts.have_blocks-lasts, LastsRoutines.after_completion, LastsRoutines.routine_inner}
use Rattle.rule_laws.proofs.{LastsRoutines.routine_own, LastsStatements.compound_uses-lasts, Leaves.bind-leaves, LeavesBlocks.types-leaves}
use Rattle.rule_laws.proofs.{LeavesBlocks.variables-leaves, LeavesFormals.define_formals_at-leaves, LeavesHeadings.signature-leaves}
use Rattle.rule_laws.proofs.{LeavesLabels.define_labels-leaves, LeavesStatements.compound_uses-leaves, Listed.Listed, NameLaw.begun, NameLaw.constant_part_goes}
use Rattle.rule_laws.proofs.{NameLaw.type_part_goes, NameLaw.variable_part_goes, NameTurns.Region, NameTurns.Turn, PartWalk.if_stated, PartWalk.routine_keeps}
use Rattle.rule_laws.proofs.{PartWalk.routine_stated, Standing.standing, Standing.stands_at, Tables.row_put, TextFields.Any, TextForwards.Both}
use Rattle.rule_laws.proofs.{TextForwards.part_apart, TextForwards.routine_has, TextHeadings.IsOfText, TextNames.formals_end, TextRoutines.labels_keep}
use Rattle.rule_laws.proofs.Breaks.{Each, In, both, in_left, in_right}
use Rattle.rule_laws.proofs.Calm.{Calm, CalmBody, CalmOf, CalmPart, Nowhere}
use Rattle.rule_laws.proofs.LastsBlocks.{define_constants-lasts, define_types-lasts, define_variables-lasts, parts-lasts, put_body-lasts}
use Rattle.rule_laws.proofs.LeavesBlocks.{constants-leaves, define_constants-leaves, define_types-leaves, define_variables-leaves, put_body-leaves}
use Rattle.rule_laws.proofs.Mated.{Completes, Mates, Turned, each_mates, listed_one, no_both, no_mark, same_first}
use Rattle.rule_laws.proofs.Paired.{But, Off, off_more, off_none, off_then, older_ends, older_labels, older_lasts, paired, quiet_off}
use Rattle.rule_laws.proofs.PartTurns.{Clean, Orderly, SecondOf, first_token, orderly_all, orderly_lasts, part_begun}
use Rattle.rule_laws.proofs.PartWalk.{Fresh, Stated, StatedBy, StatedIn, StatedOf, completed_by_none, first_stays, frame_inside, fresh_inside, heading_stays}
use Rattle.rule_laws.proofs.Seats.{AnyKind, Nobody, Seats, SeatsIn, SeatsInside, SeatsOf, SomeAt}
use Rattle.rule_laws.proofs.Walking.{AtPlace, Ground, HasBy, Home, IsBlank, IsLaid, IsNew, IsOpen, LaidIn, Passed, Walking, at_split, begin_walking, behind_off}
use Rattle.rule_laws.proofs.Walking.{body_has, body_only, go_on, is_by, laid_same, listed_has, one_node, own_off, seats_some, split_distinct, split_has}
use Rattle.rule_laws.specs.{Laws.broken_at, NameLaws.block_routines, TextLaws.first_formals, Tokens.Has, Tokens.IsDistinct}
use Rattle.rule_laws.specs.ForwardHeadings.{have_one_name, is_block, is_second, routines_in}
use Rattle.rule_laws.specs.RegionNames.{constants_of, heading_names, types_of, variables_of}
use Rattle.rule_laws.specs.TextParts.{OfBody, OfBodyAfter, OfEach, OfEachAfter, OfRoutine, OfRoutineAfter, OfRoutines, OfRoutinesAfter}

-- all of some broken rules are told
abbrev pub All : (Break → Type 0) → List Break → Type 0
All Told bs = (b : Break) → In b bs → Told b

-- ---- the names of a block are defined

none_mated : (k : Known) (Told : Break → Type 0) (j : Known) → Mates k Told [] j
none_mated k Told j = record {
  mates = λ earlier r later first e row. absurd (nothing earlier r later e);
  blocks = λ n position function listed row. absurd listed;
  again = λ earlier r later e second. absurd (nothing earlier r later e);
}
  where
    nothing : (earlier : List RoutineTree) (r : RoutineTree) (later : List RoutineTree) → [] ≡ earlier ++ r ∷ later → ⊥
    nothing [] r later e = cc
    nothing (y ∷ ys) r later e = cc

-- the tables after it
pub record Lays (k : Known) (t : BlockTree) (Told : Break → Type 0) (body : BodyTree) (j i : Known) : Type 0 where
  pub laid : LaidIn k t Told body i
  pub off : Off t (Has (body_node body)) j i

pub block_lays : (k : Known) (t : BlockTree) (Told : Break → Type 0) (b : BlockTree) (origin : Known) (region : ℕ) (done : List ℕ) (frame : ℕ) (j : Known)
    → region ≡ (frame_at j frame).region → origin.words ≡ k.words → Clean t region origin → Each (Nobody t) done → Stated k t b → Calm t b
    → Turn (record { k = origin; region = region; t = 0 }) done j → Orderly k t j → IsBlank t (tree.a_block_body b) j
    → All Told (define_block frame b j).broken → Lays k t Told (tree.a_block_body b) j (define_block frame b j).known
unfolding look ◌>>=◌
block_lays k t Told (tree.a_block labels consts kinds variable_part routines body) origin around done frame j e words clean before st calm begun-here s blank
    w =
    let here = frame_at j frame in
    let region = here.region in
    let p : Region = record { k = origin; region = region; t = 0 } in
    let cs = constants_of consts in
    let ts = types_of kinds in
    let vs = variables_of variable_part in
    let d1 = define_labels here labels j in
    let d2 = define_constants region consts d1.known in
    let d3 = define_types region kinds d2.known in
    let d4 = define_variables region variable_part d3.known in
    let i = d4.known in
    let e5 = define_each_routine region 0 routines i in
    let b5 = have_blocks routines e5.known in
    let turn0 : Turn p done j = subst (λ r. Turn (record { k = origin; region = r; t = 0 }) done j) e begun-here in
    let turn1 = (labels_keep p done here refl labels).of j turn0 in
    let turn2 = ((constant_part_goes p consts).of done d1.known turn1).turn in
    let turn3 = ((type_part_goes p kinds).of (done ++ cs) d2.known turn2).turn in
    let turn4 = ((variable_part_goes p variable_part).of ((done ++ cs) ++ ts) d3.known turn3).turn in
    let same : ((done ++ cs) ++ ts) ++ vs ≡ done ++ (cs ++ (ts ++ vs)) = append_assoc (done ++ cs) ts vs ∙ append_assoc done cs (ts ++ vs) in
    let o = orderly_lasts k t in
    let a = orderly_all k t in
    let s1 = (define_labels-lasts a here labels).of j s in
    let s2 = (define_constants-lasts a.ends region consts).of d1.known s1 in
    let s3 = (define_types-lasts o a.ends region kinds).of d2.known s2 in
    let s4 = (define_variables-lasts o region variable_part).of d3.known s3 in
    let off1 = quiet_off t Nowhere (define_labels here labels) (define_labels-leaves here labels calm.0.labels)
    (λ x. older_labels x here labels) j in
    let off2 = quiet_off t Nowhere (define_constants region consts) (define_constants-leaves region consts calm.0.constants)
    (λ x. define_constants-lasts (older_ends x) region consts) d1.known in
    let off3 = quiet_off t Nowhere (define_types region kinds) (define_types-leaves region kinds calm.0.types)
    (λ x. define_types-lasts (older_lasts x) (older_ends x) region kinds) d2.known in
    let off4 = quiet_off t Nowhere (define_variables region variable_part) (define_variables-leaves region variable_part calm.0.variables)
    (λ x. define_variables-lasts (older_lasts x) region variable_part) d3.known in
    let off = off_then t Nowhere j d3.known i (off_then t Nowhere j d2.known d3.known (off_then t Nowhere j d1.known d2.known off1 off2) off3) off4 in
    let names = done ++ (cs ++ (ts ++ vs)) in
    let part = part_begun k t p names i words (subst (λ r. Clean t r origin) e clean) (both (Nobody t) done (cs ++ (ts ++ vs)) before st.names)
    (subst (λ l. Turn p l i) same turn4) s4 in
    let inside : (n : ℕ) → Has (routines_node routines) n → Has (block_node (tree.a_block labels consts kinds variable_part routines body)) n
    = λ n has. inr (inr (inr (inr (inl has)))) in
    let turned = each_mates k t Told region 0 names [] routines i st.all st.seats part refl (none_mated k Told i) calm.0.few
    (part_apart routines calm.0.distinct)
    (λ n listed. let some = seats_some t [] routines n st.seats listed in
    off.of n some (λ x. x) ∙ blank n (inside n (listed_has routines n listed)) some)
    (λ b has. w b (in_right b d1.broken _ (in_right b d2.broken _ (in_right b d3.broken _ (in_right b d4.broken _ (in_left b e5.broken b5.broken has)))))) in
    let after = (have_blocks-lasts {I = Turned k Told (routines_in routines) i} routines).of e5.known turned in
    record {
      laid = record {
        mates = after.mates;
        inner = λ earlier r later one n has some.
            after.off n (λ listed. body_only routines calm.0.distinct earlier r later n one has listed)
            ∙ off.of n some (λ x. x) ∙ blank n (inside n (split_has routines earlier r later n one (body_has r n has))) some;
      };
      off = record {
        of = λ n some out. after.off n (λ listed. out (inside n (listed_has routines n listed))) ∙ off.of n some (λ x. x);
      };
    }

body_lays : (k : Known) (t : BlockTree) (Told : Break → Type 0) (body : BodyTree) (origin : Known) (region : ℕ) (done : List ℕ) (frame : ℕ) (j : Known)
    → region ≡ (frame_at j frame).region → origin.words ≡ k.words → Clean t region origin → Each (Nobody t) done → StatedIn k t body → CalmBody t body
    → Turn (record { k = origin; region = region; t = 0 }) done j → Orderly k t j → IsBlank t body j
    → All Told (define_body frame body j).broken → Lays k t Told body j (define_body frame body j).known
unfolding give
body_lays k t Told (tree.a_directive directive) origin region done frame j e words clean before st calm turned s blank w =
    record { laid = tt; off = off_none t _ j }
body_lays k t Told (tree.a_block_body b) origin region done frame j e words clean before st calm turned s blank w =
    block_lays k t Told b origin region done frame j e words clean before st calm turned s blank w

-- ---- a first heading

-- the one that has its block, if there is one
abbrev BlankBy : BlockTree → Option RoutineTree → Known → Type 0
BlankBy t None j = Unit {0}
BlankBy t (Some r) j = IsBlank t (routine_body r) j

abbrev LaidBy : Known → BlockTree → (Break → Type 0) → Option RoutineTree → Known → Type 0
LaidBy k t Told None j = Unit {0}
LaidBy k t Told (Some r) j = LaidIn k t Told (routine_body r) j

abbrev CalmBy : BlockTree → Option RoutineTree → Type 0
CalmBy t None = Unit {0}
CalmBy t (Some r) = CalmBody t (routine_body r)

record LaysBoth (k : Known) (t : BlockTree) (Told : Break → Type 0) (name : ℕ) (body : BodyTree) (o : Option RoutineTree) (j i : Known) : Type 0 where
  own : LaidIn k t Told body i
  other : LaidBy k t Told o i
  off : Off t (λ n. (n ≡ name) ⊎ (Has (body_node body) n ⊎ HasBy o n)) j i

-- what is known of it
record Heading (k : Known) (t : BlockTree) (h : HeadingTree) (body : BodyTree) (o : Option RoutineTree) : Type 1 where
  formals : Each (Nobody t) (heading_names h)
  calm : Every (But t (λ n. n ≡ heading_name h)) (heading_node h)
  stated : StatedIn k t body
  calm_body : CalmBody t body
  by : StatedBy k t o
  calm_by : CalmBy t o
  alone : is_block body ≡ true → o ≡ None
  apart : (n : ℕ) → Has (body_node body) n → n ≡ heading_name h → ⊥
  apart_by : (n : ℕ) → HasBy o n → n ≡ heading_name h → ⊥

blank_after : (t : BlockTree) (X : ℕ → Type 0) (body : BodyTree) (j i : Known) → Off t X j i → ((n : ℕ) → Has (body_node body) n → X n → ⊥)
    → IsBlank t body j → IsBlank t body i
blank_after t X body j i off apart blank n has some = off.of n some (λ x. apart n has x) ∙ blank n has some

still_blank : (t : BlockTree) (X : ℕ → Type 0) (o : Option RoutineTree) (j i : Known) → Off t X j i → ((n : ℕ) → HasBy o n → X n → ⊥) → BlankBy t o j
    → BlankBy t o i
still_blank t X None j i off apart blank = tt
still_blank t X (Some r) j i off apart blank = blank_after t X (routine_body r) j i off apart blank

-- the block of another heading
by_lays : (k : Known) (t : BlockTree) (Told : Break → Type 0) (o : Option RoutineTree) (origin : Known) (region : ℕ) (done : List ℕ) (frame : ℕ) (j : Known)
    → region ≡ (frame_at j frame).region → origin.words ≡ k.words → Clean t region origin → Each (Nobody t) done → StatedBy k t o → CalmBy t o
    → Turn (record { k = origin; region = region; t = 0 }) done j → Orderly k t j → BlankBy t o j
    → All Told (define_completion frame o j).broken
    → LaidBy k t Told o (define_completion frame o j).known × Off t (HasBy o) j (define_completion frame o j).known
unfolding give
by_lays k t Told None origin region done frame j e words clean before st calm turned s blank w = (tt, off_none t _ j)
by_lays k t Told (Some r) origin region done frame j e words clean before st calm turned s blank w =
    let l = body_lays k t Told (routine_body r) origin region done frame j e words clean before st calm turned s blank w in
    (l.laid, l.off)

inside_lays : (k : Known) (t : BlockTree) (Told : Break → Type 0) (j : Known) (frame : ℕ) (f : Frame) (h : HeadingTree) (body : BodyTree)
    (o : Option RoutineTree)
    → Orderly k t j → Fresh t frame f j → Heading k t h body o → IsBlank t body j → BlankBy t o j → All Told (define_inside frame h body o j).broken
    → LaysBoth k t Told (heading_name h) body o j (define_inside frame h body o j).known
unfolding define_inside ◌>>=◌ give
inside_lays k t Told j frame f h (tree.a_directive directive) o s fresh st blank blank_by w =
    let d = define_formals_at frame h j in
    let at = stands_at frame f j fresh.stands in
    let ends = formals_end j frame f.region 0 h j (ap (λ (g : Frame). g.region) (sym at)) (begun j f.region 0 fresh.stands.below) in
    let stood = (define_formals_at-lasts (standing {G = Any} frame f) frame h).of j fresh.stands in
    let still = ap (λ (g : Frame). g.region) (sym (stands_at frame f d.known stood)) in
    let off = quiet_off t (λ n. n ≡ heading_name h) (define_formals_at frame h) (define_formals_at-leaves frame h st.calm)
    (λ x. define_formals_at-lasts (older_lasts x) frame h) j in
    let e = define_completion frame o d.known in
    let l = by_lays k t Told o j f.region (heading_names h) frame d.known still s.both.sound.words fresh.clean st.formals st.by st.calm_by ends.turn
    ((define_formals_at-lasts (orderly_lasts k t) frame h).of j s)
    (still_blank t (λ n. n ≡ heading_name h) o j d.known off st.apart_by blank_by)
    (λ b has. w b (in_right b d.broken e.broken has)) in
    record {
      own = tt;
      other = l.0;
      off = off_then t _ j d.known e.known (off_more t _ _ j d.known (λ n x. inl x) off) (off_more t _ _ d.known e.known (λ n x. inr (inr x)) l.1);
    }
inside_lays k t Told j frame f h (tree.a_block_body b) o s fresh st blank blank_by w =
    let d = define_formals_at frame h j in
    let at = stands_at frame f j fresh.stands in
    let ends = formals_end j frame f.region 0 h j (ap (λ (g : Frame). g.region) (sym at)) (begun j f.region 0 fresh.stands.below) in
    let stood = (define_formals_at-lasts (standing {G = Any} frame f) frame h).of j fresh.stands in
    let still = ap (λ (g : Frame). g.region) (sym (stands_at frame f d.known stood)) in
    let off = quiet_off t (λ n. n ≡ heading_name h) (define_formals_at frame h) (define_formals_at-leaves frame h st.calm)
    (λ x. define_formals_at-lasts (older_lasts x) frame h) j in
    let e = define_block frame b d.known in
    let l = block_lays k t Told b j f.region (heading_names h) frame d.known still s.both.sound.words fresh.clean st.formals st.stated st.calm_body ends.turn
    ((define_formals_at-lasts (orderly_lasts k t) frame h).of j s)
    (blank_after t (λ n. n ≡ heading_name h) (tree.a_block_body b) j d.known off st.apart blank)
    (λ x has. w x (in_right x d.broken _ (in_left x e.broken (define_completion frame o e.known).broken has))) in
    let none : LaysBoth k t Told (heading_name h) (tree.a_block_body b) None j (define_completion frame None e.known).known = record {
      own = l.laid;
      other = tt;
      off = off_then t _ j d.known e.known (off_more t _ _ j d.known (λ n x. inl x) off) (off_more t _ _ d.known e.known (λ n x. inr (inl x)) l.off);
    } in
    subst (λ q. LaysBoth k t Told (heading_name h) (tree.a_block_body b) q j (define_completion frame q e.known).known) (sym (st.alone refl)) none

laid_by : (k : Known) (t : BlockTree) (Told : Break → Type 0) (o : Option RoutineTree) (j i : Known) → StatedBy k t o
    → ((n : ℕ) → HasBy o n → SomeAt AnyKind n t → paired (row_at i n) ≡ paired (row_at j n)) → LaidBy k t Told o j → LaidBy k t Told o i
laid_by k t Told None j i st same laid = tt
laid_by k t Told (Some r) j i st same laid = laid_same k t Told (routine_body r) j i st same laid

-- the row of a heading that was entered
heading_off : (t : BlockTree) (frame : ℕ) (h : HeadingTree) (end : ℕ) (j : Known) → Off t (λ n. n ≡ heading_name h) j (add_heading frame h end j).known
unfolding add_heading look extend change give ◌>>=◌
heading_off t frame h end j = record {
  of = λ n some out.
      let here = frame_at j frame in
      let i = and_routine j (heading_row h here.level end) in
      elim (row_either i (heading_name h) n (Row.Name (NameRow.Routine false (length j.program.routines) here.region))) [
        | inl old ↦ ap paired old
        | inr new ↦ absurd (out new.0)
      ];
}

heading_home : (k : Known) (t : BlockTree) (frame : ℕ) (h : HeadingTree) (end : ℕ) (j : Known) → Both k t (add_heading frame h end j).known
    → heading_name h < length k.words → Home (add_heading frame h end j).known (heading_name h)
unfolding add_heading look extend change give ◌>>=◌
heading_home k t frame h end j both spelled =
    let here = frame_at j frame in
    let i = and_routine j (heading_row h here.level end) in
    let r = Row.Name (NameRow.Routine false (length j.program.routines) here.region) in
    let room = both.roomy.room in
    let same = length-set i.program.rows (heading_name h) r in
    record {
      number = length j.program.routines;
      region = here.region;
      row = ap paired (row_put i (heading_name h) r (omega (arith, spelled, room, same)));
    }

first_home : (k : Known) (t : BlockTree) (frame : ℕ) (r : RoutineTree) (o : Option RoutineTree) (j : Known)
    → Both k t (after_completion frame r o j).known → routine_name r < length k.words → Home (after_completion frame r o j).known (routine_name r)
unfolding open_routine look extend ◌>>=◌ give
first_home k t frame r o j both spelled =
    let h = routine_heading r in
    let inner = length j.frames in
    let d = define_inside inner h (routine_body r) o (and_region j (routine_name r) (frame_inside j frame)) in
    let e = signature frame inner h d.known in
    heading_home k t inner h e.value e.known both spelled

first_lays : (k : Known) (t : BlockTree) (Told : Break → Type 0) (j : Known) (frame : ℕ) (r : RoutineTree) (o : Option RoutineTree)
    → Orderly k t j → Heading k t (routine_heading r) (routine_body r) o → IsBlank t (routine_body r) j → BlankBy t o j
    → All Told (after_completion frame r o j).broken
    → LaysBoth k t Told (routine_name r) (routine_body r) o j (after_completion frame r o j).known
unfolding open_routine look extend ◌>>=◌ give
first_lays k t Told j frame r o s st blank blank_by w =
    let h = routine_heading r in
    let body = routine_body r in
    let f = frame_inside j frame in
    let inner = length j.frames in
    let here = and_region j (routine_name r) f in
    let d = define_inside inner h body o here in
    let e = signature frame inner h d.known in
    let a = add_heading inner h e.value e.known in
    let X : ℕ → Type 0 = λ n. n ≡ routine_name r in
    let l = inside_lays k t Told here inner f h body o ((orderly_lasts k t).regions j (routine_name r) f s) (fresh_inside t j frame (routine_name r)) st
    (λ n has some. blank n has some) (same_blank o blank_by) (λ b has. w b (in_left b d.broken _ has)) in
    let one = quiet_off t X (signature frame inner h) (signature-leaves frame inner h st.calm)
    (λ x. signature-lasts (older_lasts x) frame inner h) d.known in
    let two = heading_off t inner h e.value e.known in
    let off = off_then t X d.known e.known a.known one two in
    record {
      own = laid_same k t Told body d.known a.known st.stated (λ n has some. off.of n some (λ x. st.apart n has x)) l.own;
      other = laid_by k t Told o d.known a.known st.by (λ n has some. off.of n some (λ x. st.apart_by n has x)) l.other;
      off = off_then t _ j d.known a.known (record { of = λ n some out. l.off.of n some out }) (off_more t X _ d.known a.known (λ n x. inl x) off);
    }
  where
    same_blank : (q : Option RoutineTree) → BlankBy t q j → BlankBy t q (and_region j (routine_name r) (frame_inside j frame))
    same_blank None b = tt
    same_blank (Some q) b = λ n has some. b n has some

-- ---- what the text says of a part

pub record PartText (k : Known) (t : BlockTree) (rs : RoutineTrees) : Type 1 where
  pub all : OfEach (IsOfText k t) rs
  pub seats : SeatsIn t [] rs
  pub calm : CalmPart t rs
  pub distinct : IsDistinct (routines_node rs)

pub record OneText (k : Known) (t : BlockTree) (before : List RoutineTree) (r : RoutineTree) : Type 1 where
  pub stated : StatedOf k t before r
  pub spelled : routine_name r < length k.words
  pub all : OfBody (IsOfText k t) (routine_body r)
  pub calm : CalmOf t r

pub no_split : (earlier : List RoutineTree) (r : RoutineTree) (later : List RoutineTree) → [] ≡ earlier ++ r ∷ later → ⊥
no_split [] r later e = cc
no_split (y ∷ ys) r later e = cc

pub one_text : (k : Known) (t : BlockTree) (before : List RoutineTree) (rs : RoutineTrees) (earlier : List RoutineTree) (r : RoutineTree)
    (later : List RoutineTree)
    → OfEach (IsOfText k t) rs → SeatsIn t before rs → CalmPart t rs → routines_in rs ≡ earlier ++ r ∷ later → OneText k t (before ++ earlier) r
one_text k t before tree.end_of_routines earlier r later all seats calm e = absurd (no_split earlier r later e)
one_text k t before (tree.more_routines q rest) [] r later all seats calm e =
    let same : q ≡ r = cc in
    let here : OneText k t before q = record {
      stated = routine_stated k t before q all.0 seats.0;
      spelled = (routine_own (IsOfText k t) q all.0).spelled;
      all = routine_inner (IsOfText k t) q all.0;
      calm = calm.0;
    } in
    subst (λ b. OneText k t b r) (sym (append-nil before)) (subst (OneText k t before) same here)
one_text k t before (tree.more_routines q rest) (y ∷ ys) r later all seats calm e =
    let same : q ≡ y = cc in
    let more : routines_in rest ≡ ys ++ r ∷ later = cc in
    subst (λ b. OneText k t b r) (append_assoc before (q ∷ []) ys ∙ ap (λ x. before ++ x ∷ ys) same)
    (one_text k t (before ++ q ∷ []) rest ys r later all.1 seats.1 calm.1 more)

pub ground : (k : Known) (t : BlockTree) (rs : RoutineTrees) (before : List RoutineTree) (r : RoutineTree) (rest : List RoutineTree) → PartText k t rs
    → routines_in rs ≡ before ++ r ∷ rest → Ground k t rs before r rest
ground k t rs before r rest x e = record {
  one = e;
  distinct = x.distinct;
  seats = x.seats;
  stated = λ earlier q later s. (one_text k t [] rs earlier q later x.all x.seats x.calm s).stated.body;
}

calm_heading : (t : BlockTree) (r : RoutineTree) → CalmOf t r → Every (But t (λ n. n ≡ routine_name r)) (heading_node (routine_heading r))
calm_heading t (tree.a_routine heading semicolon body last_semicolon) c = c.0

calm_inside : (t : BlockTree) (r : RoutineTree) → CalmOf t r → CalmBody t (routine_body r)
calm_inside t (tree.a_routine heading semicolon body last_semicolon) c = c.1

calm_at : (t : BlockTree) (rs : RoutineTrees) (n : ℕ) → CalmPart t rs → CalmBy t (routine_at rs n)
calm_at t tree.end_of_routines n c = tt
calm_at t (tree.more_routines r rest) zero c = calm_inside t r c.0
calm_at t (tree.more_routines r rest) (suc n) c = calm_at t rest n c.1

calm_if : (t : BlockTree) (rs : RoutineTrees) (o : Option ℕ) → CalmPart t rs → CalmBy t (routine_if_any rs o)
calm_if t rs None c = tt
calm_if t rs (Some n) c = calm_at t rs n c

-- ---- which has the block of one that is entered

pub record ChosenOne (all : List RoutineTree) (r other : RoutineTree) (j : Known) : Type 0 where
  pub earlier : List RoutineTree
  pub later : List RoutineTree
  pub one : all ≡ earlier ++ other ∷ later
  pub row : paired (row_at j (routine_name other)) ≡ Row.Part (PartRow.Completing (routine_name r))
  pub listed : Listed (map routine_name earlier) (routine_name r)

pub record Chosen (t : BlockTree) (all : List RoutineTree) (r : RoutineTree) (o : Option RoutineTree) (j : Known) : Type 0 where
  pub blank : BlankBy t o j
  pub each : (other : RoutineTree) → o ≡ Some other → ChosenOne all r other j
  pub place : (position : ℕ) (function : Bool) → paired (row_at j (routine_name r)) ≡ Row.Part (PartRow.Forward function (Some position))
      → AtPlace all o position

no_name_row : {n : NameRow} {r : PartRow} → Row.Name n ≡ Row.Part r → ⊥
no_name_row e = cc

paired_place : (x : Row) (function : Bool) (position : ℕ) → paired x ≡ Row.Part (PartRow.Forward function (Some position)) → block_in x ≡ Some position
paired_place (Row.Part (PartRow.Forward g (Some p))) function position e = ap block_in e
paired_place (Row.Part (PartRow.Completing first)) function position e = absurd (no_both (sym e))
paired_place (Row.Name (NameRow.Routine assigned number region)) function position e = absurd (no_name_row e)
paired_place x function position e = absurd (no_mark e)

record HasPlace (x : Row) (position : ℕ) : Type 0 where
  function : Bool
  row : paired x ≡ Row.Part (PartRow.Forward function (Some position))

has_place : (x : Row) (position : ℕ) → block_in x ≡ Some position → HasPlace x position
has_place (Row.Part (PartRow.Forward g (Some p))) position e =
    record { function = g; row = ap (λ n. Row.Part (PartRow.Forward g (Some n))) (same_Some p position e) }
has_place (Row.Part (PartRow.Forward g None)) position e = absurd (none-some position e)
has_place x position e = absurd (none-some position e)

pub choose : (k : Known) (t : BlockTree) (Told : Break → Type 0) (P : List RoutineTree → RoutineTree → Type 0) (rs : RoutineTrees) (r : RoutineTree)
    (rest : List RoutineTree) (j : Known) → Walking k t Told P (routines_in rs) (r ∷ rest) j → (b : Option ℕ) → block_in (row_at j (routine_name r)) ≡ b
    → Chosen t (routines_in rs) r (routine_if_any rs b) j
choose k t Told P rs r rest j walking None e = record {
  blank = tt;
  each = λ other is. absurd (none-some other is);
  place = λ position function row. absurd (none-some position (sym e ∙ paired_place (row_at j (routine_name r)) function position row));
}
choose k t Told P rs r rest j walking (Some p) e =
    let x = has_place (row_at j (routine_name r)) p e in
    let found = walking.blocks (routine_name r) p x.function (inl refl) x.row in
    let b = found.0 in
    let is : routine_at rs p ≡ Some b.r = at_split rs b.earlier b.r b.later p b.one b.at in
    let new : IsNew t (r ∷ rest) b.earlier b.r j = elim found.1 [
      | inl own ↦ absurd (no_both (sym x.row ∙ ap (λ n. paired (row_at j n)) own ∙ b.row))
      | inr listed ↦ elim (walking.ahead b.earlier b.r b.later b.one (inr listed)) [
        | inl n ↦ n
        | inr opened ↦ absurd (opened.gone (inl (sym (same_first (sym opened.row ∙ b.row)))))
      ]
    ] in
    record {
      blank = subst (λ q. BlankBy t q j) (sym is) new.blank;
      each = λ other here. subst (λ q. ChosenOne (routines_in rs) r q j) (same_Some b.r other (sym is ∙ here)) (record {
        earlier = b.earlier;
        later = b.later;
        one = b.one;
        row = b.row;
        listed = (new.mate (routine_name r) b.row).1.listed;
      });
      place = λ position function row.
          let same : p ≡ position = same_Some p position (sym e ∙ paired_place (row_at j (routine_name r)) function position row) in
          record { earlier = b.earlier; other = b.r; later = b.later; one = b.one; at = b.at ∙ same; is = is };
    }

-- ---- what a law says of each

pub record Teller (k : Known) (t : BlockTree) (Told : Break → Type 0) (P : List RoutineTree → RoutineTree → Type 0) : Type 1 where
  -- of one with a block of its own, or none
  pub first : (frame : ℕ) (before : List RoutineTree) (rs : RoutineTrees) (r : RoutineTree) (j : Known) → Orderly k t j → StatedOf k t before r
      → OfBody (IsOfText k t) (routine_body r) → (is_second k before r ≡ true → Told (broken_at 2 (routine_name r)))
      → ((b : Break) → In b (first_heading frame rs r j).broken → Told b) → P before r
  -- of one that has the block of a forward heading
  pub second : (frame : ℕ) (before : List RoutineTree) (rs : RoutineTrees) (q : RoutineTree) (j : Known) → Orderly k t j → StatedOf k t before q
      → OfBody (IsOfText k t) (routine_body q) → (earlier : List RoutineTree) (r : RoutineTree) (later : List RoutineTree)
      → routines_in rs ≡ earlier ++ r ∷ later
      → Listed (map routine_name earlier) (routine_name q) → completion_of j rs q ≡ Some r → StatedOf k t earlier r
      → OfBody (IsOfText k t) (routine_body r) → Completes j (routine_name r) → first_formals k earlier r ≡ heading_names (routine_heading q)
      → ((b : Break) → In b (first_heading frame rs q j).broken → Told b) → P earlier r

-- the formal parameters of the first of its name
record FirstAt (k : Known) (before : List RoutineTree) (r : RoutineTree) (m : ℕ) : Type 0 where
  earlier : List RoutineTree
  q : RoutineTree
  later : List RoutineTree
  one : before ≡ earlier ++ q ∷ later
  at : routine_name q ≡ m
  formals : first_formals k before r ≡ heading_names (routine_heading q)

first_at : (k : Known) (before : List RoutineTree) (r : RoutineTree) (m : ℕ) → first_token k before r ≡ Some m → FirstAt k before r m
first_at k [] r m e = absurd (none-some m e)
first_at k (q ∷ qs) r m e = by (have_one_name k q r) refl (λ more. first_at k qs r m more)
  where
    by : (b : Bool) → have_one_name k q r ≡ b → (first_token k qs r ≡ Some m → FirstAt k qs r m) → FirstAt k (q ∷ qs) r m
    by true is next = record {
      earlier = [];
      q = q;
      later = qs;
      one = refl;
      at = same_Some (routine_name q) m (sym (ap (λ b. if b then Some (routine_name q) else first_token k qs r) is) ∙ e);
      formals = ap (λ b. if b then heading_names (routine_heading q) else first_formals k qs r) is;
    }
    by false is next =
        let f = next (sym (ap (λ b. if b then Some (routine_name q) else first_token k qs r) is) ∙ e) in
        record {
          earlier = q ∷ f.earlier;
          q = f.q;
          later = f.later;
          one = ap (λ l. q ∷ l) f.one;
          at = f.at;
          formals = ap (λ b. if b then heading_names (routine_heading q) else first_formals k qs r) is ∙ f.formals;
        }

-- that is this one, if its name stands at this token of it
formals_of : {k : Known} (rs : RoutineTrees) → IsDistinct (routines_node rs) → (before : List RoutineTree) (r : RoutineTree)
    (rest : List RoutineTree) → routines_in rs ≡ before ++ r ∷ rest → (n : ℕ) → Has (routine_node r) n → (earlier : List RoutineTree) (other : RoutineTree)
    (later : List RoutineTree) → routines_in rs ≡ earlier ++ other ∷ later → FirstAt k earlier other n
    → first_formals k earlier other ≡ heading_names (routine_heading r)
formals_of rs distinct before r rest one n has earlier other later is a =
    let split : routines_in rs ≡ a.earlier ++ a.q ∷ (a.later ++ other ∷ later)
    = is ∙ ap (λ l. l ++ other ∷ later) a.one ∙ append_assoc a.earlier (a.q ∷ a.later) (other ∷ later) in
    let same = one_node rs distinct a.earlier a.q (a.later ++ other ∷ later) before r rest n split one
    (subst (Has (routine_node a.q)) a.at (routine_has a.q)) has in
    a.formals ∙ ap (λ q. heading_names (routine_heading q)) same.one

-- ---- one that is entered

pub record Entry (k : Known) (t : BlockTree) (Told : Break → Type 0) (P : List RoutineTree → RoutineTree → Type 0) (rs : RoutineTrees)
    (before : List RoutineTree) (r : RoutineTree) (j i : Known) : Type 0 where
  pub told : P before r
  pub laid : LaidIn k t Told (routine_body r) i
  pub o : Option RoutineTree
  pub passed : Passed k t Told P (routines_in rs) r o j i

pub completing_row : (x : Row) (first : ℕ) → paired x ≡ Row.Part (PartRow.Completing first) → first_name x ≡ Some first
completing_row (Row.Part (PartRow.Completing n)) first e = ap first_name e
completing_row (Row.Part (PartRow.Forward g (Some p))) first e = absurd (no_both e)
completing_row (Row.Name (NameRow.Routine assigned number region)) first e = absurd (no_name_row e)
completing_row x first e = absurd (no_mark e)

pub none_first : (x : Row) → ((first : ℕ) → paired x ≡ Row.Part (PartRow.Completing first) → ⊥) → first_name x ≡ None
none_first (Row.Part (PartRow.Completing n)) never = absurd (never n refl)
none_first x never = refl

-- a heading that completes another is second in its part
pub completes_second : (k : Known) (t : BlockTree) (j : Known) (before : List RoutineTree) (r : RoutineTree) → Orderly k t j → StatedOf k t before r
    → (c : Completes j (routine_name r)) → SecondOf k c.first before r
completes_second k t j before r s st c =
    st.seat.own (SecondOf k c.first) (s.marked.completing (routine_name r) c.first (completing (row_at j (routine_name r)) c.first c.row))
  where
    completing : (x : Row) (first : ℕ) → paired x ≡ Row.Part (PartRow.Completing first) → x ≡ Row.Part (PartRow.Completing first)
    completing (Row.Part (PartRow.Completing n)) first e = e
    completing (Row.Part (PartRow.Forward g (Some p))) first e = e
    completing (Row.Name (NameRow.Routine a n g)) first e = absurd (no_name_row e)
    completing x first e = absurd (no_mark e)

-- the same tables, where it was opened before
open_entry : (k : Known) (t : BlockTree) (Told : Break → Type 0) (P : List RoutineTree → RoutineTree → Type 0) (rs : RoutineTrees)
    (before : List RoutineTree) (r : RoutineTree) (rest : List RoutineTree) (j : Known) → IsOpen k t Told P (r ∷ rest) before r j
    → Entry k t Told P rs before r j j
open_entry k t Told P rs before r rest j opened = record {
  told = opened.told;
  laid = opened.laid;
  o = None;
  passed = record {
    off = off_none t _ j;
    opens = λ other is. absurd (none-some other is);
    place = λ position function row. absurd (no_both (sym row ∙ opened.row));
  };
}

first_entry : (k : Known) (t : BlockTree) (Told : Break → Type 0) (P : List RoutineTree → RoutineTree → Type 0) → Teller k t Told P → (frame : ℕ)
    (rs : RoutineTrees) (before : List RoutineTree) (r : RoutineTree) (rest : List RoutineTree) (j : Known) → PartText k t rs
    → routines_in rs ≡ before ++ r ∷ rest → Orderly k t j → Walking k t Told P (routines_in rs) (r ∷ rest) j → IsNew t (r ∷ rest) before r j
    → ((first : ℕ) → paired (row_at j (routine_name r)) ≡ Row.Part (PartRow.Completing first) → ⊥)
    → All Told (first_heading frame rs r j).broken → Entry k t Told P rs before r j (first_heading frame rs r j).known
unfolding first_heading look ◌>>=◌
first_entry k t Told P teller frame rs before r rest j x one s walking new never w =
    let g = ground k t rs before r rest x one in
    let here = one_text k t [] rs before r rest x.all x.seats x.calm one in
    let b = block_in (row_at j (routine_name r)) in
    let o = completion_of j rs r in
    let i = (after_completion frame r o j).known in
    let after = first_stays k t j frame before r o s here.stated (if_stated k t rs b x.all x.seats)
    (λ block. completed_by_none k t j before rs r s here.stated.seat block) in
    let chosen = choose k t Told P rs r rest j walking b refl in
    let own : (n : ℕ) → Has (body_node (routine_body r)) n → n ≡ routine_name r → ⊥ = λ n has same.
    own_off r (split_distinct rs before r rest one x.distinct) (subst (Has (body_node (routine_body r))) same has) in
    let l = first_lays k t Told j frame r o s (record {
      formals = here.stated.seat.formals;
      calm = calm_heading t r here.calm;
      stated = here.stated.body;
      calm_body = calm_inside t r here.calm;
      by = if_stated k t rs b x.all x.seats;
      calm_by = calm_if t rs b x.calm;
      alone = λ block. completed_by_none k t j before rs r s here.stated.seat block;
      apart = own;
      apart_by = λ n by same.
          let q = is_by o n by in
          let c = chosen.each q.other q.is in
          let same_one = one_node rs x.distinct c.earlier q.other c.later before r rest n c.one one (body_has q.other n q.has)
          (subst (Has (routine_node r)) (sym same) (routine_has r)) in
          own n (subst (λ a. Has (body_node (routine_body a)) n) same_one.one q.has) same;
    }) new.blank chosen.blank w in
    record {
      told = teller.first frame before rs r j s here.stated here.all (λ second. elim (walking.again before r rest one (inl refl) second) [
        | inl c ↦ absurd (never c.first c.row)
        | inr told ↦ told
      ]) w;
      laid = l.own;
      o = o;
      passed = record {
        off = off_more t _ _ j i (λ n a. elim a [
          | inl name ↦ inl (subst (Has (routine_node r)) (sym name) (routine_has r))
          | inr more ↦ elim more [
            | inl has ↦ inl (body_has r n has)
            | inr by ↦ inr by
          ]
        ]) l.off;
        opens = λ other is.
            let c = chosen.each other is in
            let that = one_text k t [] rs c.earlier other c.later x.all x.seats x.calm c.one in
            let second = completes_second k t j c.earlier other s that.stated (record { first = routine_name r; row = c.row }) in
            let a = first_at k c.earlier other (routine_name r) second.1 in
            let formals : first_formals k c.earlier other ≡ heading_names (routine_heading r)
            = formals_of rs x.distinct before r rest one (routine_name r) (routine_has r) c.earlier other c.later c.one a in
            record {
              earlier = c.earlier;
              later = c.later;
              one = c.one;
              listed = c.listed;
              row = c.row;
              home = first_home k t frame r o j after.both here.spelled;
              told = teller.second frame before rs r j s here.stated here.all c.earlier other c.later c.one c.listed is that.stated that.all
                  (record { first = routine_name r; row = c.row })
                  formals w;
              laid = subst (λ q. LaidBy k t Told q i) is l.other;
            };
        place = chosen.place;
      };
    }

pub enter : (k : Known) (t : BlockTree) (Told : Break → Type 0) (P : List RoutineTree → RoutineTree → Type 0) → Teller k t Told P → (frame : ℕ)
    (rs : RoutineTrees) (before : List RoutineTree) (r : RoutineTree) (rest : List RoutineTree) (j : Known) → PartText k t rs
    → routines_in rs ≡ before ++ r ∷ rest → Orderly k t j → Walking k t Told P (routines_in rs) (r ∷ rest) j
    → All Told (enter_heading frame rs r j).broken → Entry k t Told P rs before r j (enter_heading frame rs r j).known
unfolding enter_heading look ◌>>=◌
enter k t Told P teller frame rs before r rest j x one s walking w =
    let row = row_at j (routine_name r) in
    let X : Option ℕ → Type 0 = λ q. All Told (enter_at q frame rs r j).broken → Entry k t Told P rs before r j (enter_at q frame rs r j).known in
    elim (walking.ahead before r rest one (inl refl)) [
      | inr opened ↦ subst X (sym (completing_row row opened.first opened.row)) (λ v. open_entry k t Told P rs before r rest j opened) w
      | inl new ↦
          let never : (first : ℕ) → paired row ≡ Row.Part (PartRow.Completing first) → ⊥ = λ first e.
          let m = new.mate first e in
          behind_off k t rs before r rest (ground k t rs before r rest x one) first m.1.listed m.0 in
          subst X (sym (none_first row never)) (λ v. first_entry k t Told P teller frame rs before r rest j x one s walking new never v) w
    ]

-- ---- the walk

pub record Walks (X : Type 0) (t : BlockTree) (S : ℕ → Type 0) (j i : Known) : Type 0 where
  pub law : X
  pub off : Off t S j i

pub record RoutineWalks (k : Known) (t : BlockTree) (Told : Break → Type 0) (P : List RoutineTree → RoutineTree → Type 0) (rs : RoutineTrees)
    (before : List RoutineTree) (r : RoutineTree) (j i : Known) : Type 0 where
  pub law : OfRoutineAfter P before r
  pub o : Option RoutineTree
  pub passed : Passed k t Told P (routines_in rs) r o j i

-- the body of one that was entered
after_body : (k : Known) (t : BlockTree) (Told : Break → Type 0) (P : List RoutineTree → RoutineTree → Type 0) (rs : RoutineTrees)
    (before : List RoutineTree) (r : RoutineTree) (rest : List RoutineTree) (o : Option RoutineTree) (j i h : Known) → Ground k t rs before r rest
    → Passed k t Told P (routines_in rs) r o j i → Off t (Has (body_node (routine_body r))) i h → Passed k t Told P (routines_in rs) r o j h
after_body k t Told P rs before r rest o j i h g p off = record {
  off = off_then t _ j i h p.off (off_more t _ _ i h (λ n has. inl (body_has r n has)) off);
  opens = λ other is.
      let c = p.opens other is in
      record {
        earlier = c.earlier;
        later = c.later;
        one = c.one;
        listed = c.listed;
        row = c.row;
        home =
            let home = c.home in
            let some = seats_some t [] rs (routine_name r) g.seats (listed_one (routines_in rs) before r rest g.one) in
            let off_body : Has (body_node (routine_body r)) (routine_name r) → ⊥ = own_off r (split_distinct rs before r rest g.one g.distinct) in
            record { number = home.number; region = home.region; row = off.of (routine_name r) some off_body ∙ home.row };
        told = c.told;
        laid = laid_same k t Told (routine_body other) i h (g.stated c.earlier other c.later c.one) (λ n has some. off.of n some (λ own.
            let same = one_node rs g.distinct c.earlier other c.later before r rest n c.one g.one (body_has other n has) (body_has r n own) in
            behind_off k t rs before r rest g (routine_name r) (subst (λ b. Listed (map routine_name b) (routine_name r)) same.earlier c.listed) (inl refl)))
            c.laid;
      };
  place = p.place;
}

-- the word of a block's statement part
abbrev pub compound_of : BlockTree → ℕ
compound_of (tree.a_block labels constants types variables routines body) = compound_word body

-- where the procedures and functions of a block begin
pub parts_off : (t : BlockTree) (X : ℕ → Type 0) (frame number place : ℕ) (b : BlockTree) (j : Known) → Calm t b
    → let d = parts frame place b j in Off t X j (put_body number d.value (compound_of b) d.known).known
parts_off t X frame number place (tree.a_block labels consts kinds variable_part routines body) j calm =
    let b = tree.a_block labels consts kinds variable_part routines body in
    let d1 = parts frame place b j in
    let d2 = put_body number d1.value (compound_word body) d1.known in
    let off1 = quiet_off t Nowhere (parts frame place b) (bind-leaves (constants-leaves frame consts calm.0.constants) (λ _.
    bind-leaves (types-leaves frame (word_after variable_part routines body) kinds calm.0.types) (λ _.
    variables-leaves frame place variable_part calm.0.variables))) (λ x. parts-lasts (older_lasts x) frame place b) j in
    let off2 = quiet_off t Nowhere (put_body number d1.value (compound_word body)) (put_body-leaves number d1.value (compound_word body))
    (λ x. put_body-lasts (older_lasts x) number d1.value (compound_word body)) d1.known in
    off_more t Nowhere X j d2.known (λ n x. absurd x) (off_then t Nowhere j d1.known d2.known off1 off2)

pub parts_laid : (k : Known) (t : BlockTree) (Told : Break → Type 0) (frame number place : ℕ) (b : BlockTree) (j : Known) → Calm t b → Stated k t b
    → IsLaid k t Told (block_routines b) j
    → let d = parts frame place b j in IsLaid k t Told (block_routines b) (put_body number d.value (compound_of b) d.known).known
parts_laid k t Told frame number place b j calm st laid =
    let d1 = parts frame place b j in
    let d2 = put_body number d1.value (compound_of b) d1.known in
    let off = parts_off t Nowhere frame number place b j calm in
    laid_same k t Told (tree.a_block_body b) j d2.known st (λ n has some. off.of n some (λ x. x)) laid

mutual
  unfolding ◌>>=◌ give

  pub block_walks : (k : Known) (t : BlockTree) (Told : Break → Type 0) (P : List RoutineTree → RoutineTree → Type 0) → Teller k t Told P
      → (frame number place : ℕ) (b : BlockTree) (j : Known) → OfRoutines (IsOfText k t) b → Seats t b → Calm t b → Stated k t b → Orderly k t j
      → IsLaid k t Told (block_routines b) j → ((x : Break) → In x (block frame number place b j).broken → Told x)
      → Walks (OfRoutinesAfter P b) t (Has (block_node b)) j (block frame number place b j).known
  block_walks k t Told P teller frame number place (tree.a_block labels consts kinds variable_part routines body) j all seats calm st s laid w =
      let b = tree.a_block labels consts kinds variable_part routines body in
      let d1 = parts frame place b j in
      let d2 = put_body number d1.value (compound_word body) d1.known in
      let d3 = walk.routines_in frame routines routines d2.known in
      let d4 = compound_uses frame body d3.known in
      let o = orderly_lasts k t in
      let s2 = (put_body-lasts o number d1.value (compound_word body)).of d1.known ((parts-lasts o frame place b).of j s) in
      let laid2 = parts_laid k t Told frame number place b j calm st laid in
      let text : PartText k t routines = record { all = all; seats = seats; calm = calm.1; distinct = calm.0.distinct } in
      let r = part_walks k t Told P teller frame [] routines routines d2.known text all seats calm.1 refl s2
      (begin_walking k t Told P (routines_in routines) d2.known laid2)
      (λ x has. w x (in_right x d1.broken _ (in_right x d2.broken _ (in_left x d3.broken d4.broken has)))) in
      let off4 = quiet_off t Nowhere (compound_uses frame body) (compound_uses-leaves frame body calm.0.statements)
      (λ x. compound_uses-lasts (older_lasts x) frame body) d3.known in
      record {
        law = r.law;
        off = off_then t _ j d2.known d4.known (parts_off t _ frame number place b j calm)
            (off_then t _ d2.known d3.known d4.known (off_more t _ _ d2.known d3.known (λ n has. inr (inr (inr (inr (inl has))))) r.off)
            (off_more t Nowhere _ d3.known d4.known (λ n x. absurd x) off4));
      }

  part_walks : (k : Known) (t : BlockTree) (Told : Break → Type 0) (P : List RoutineTree → RoutineTree → Type 0) → Teller k t Told P → (frame : ℕ)
      (before : List RoutineTree) (rs part : RoutineTrees) (j : Known) → PartText k t rs → OfEach (IsOfText k t) part → SeatsIn t before part
      → CalmPart t part → routines_in rs ≡ before ++ routines_in part → Orderly k t j → Walking k t Told P (routines_in rs) (routines_in part) j
      → ((x : Break) → In x (walk.routines_in frame rs part j).broken → Told x)
      → Walks (OfEachAfter P before part) t (Has (routines_node rs)) j (walk.routines_in frame rs part j).known
  part_walks k t Told P teller frame before rs tree.end_of_routines j text all seats calm one s walking w = record { law = tt; off = off_none t _ j }
  part_walks k t Told P teller frame before rs (tree.more_routines r rest) j text all seats calm one s walking w =
      let d = routine frame rs r j in
      let e = walk.routines_in frame rs rest d.known in
      let g = ground k t rs before r (routines_in rest) text one in
      let r1 = routine_walks k t Told P teller frame before rs r (routines_in rest) j text one all.0 seats.0 calm.0 s walking
      (λ x has. w x (in_left x d.broken e.broken has)) in
      let r2 = part_walks k t Told P teller frame (before ++ r ∷ []) rs rest d.known text all.1 seats.1 calm.1
      (one ∙ sym (append_assoc before (r ∷ []) (routines_in rest)))
      ((routine_keeps k t frame before rs r text.all text.seats all.0 seats.0).of j s)
      (go_on k t Told P rs before r (routines_in rest) r1.o j d.known g walking r1.passed) (λ x has. w x (in_right x d.broken e.broken has)) in
      record {
        law = (r1.law, r2.law);
        off = off_then t _ j d.known e.known (off_more t _ _ j d.known (λ n a. elim a [
          | inl has ↦ split_has rs before r (routines_in rest) n one has
          | inr by ↦
              let q = is_by r1.o n by in
              let c = r1.passed.opens q.other q.is in
              split_has rs c.earlier q.other c.later n c.one (body_has q.other n q.has)
        ]) r1.passed.off) r2.off;
      }

  pub routine_walks : (k : Known) (t : BlockTree) (Told : Break → Type 0) (P : List RoutineTree → RoutineTree → Type 0) → Teller k t Told P → (frame : ℕ)
      (before : List RoutineTree) (rs : RoutineTrees) (r : RoutineTree) (rest : List RoutineTree) (j : Known) → PartText k t rs
      → routines_in rs ≡ before ++ r ∷ rest → OfRoutine (IsOfText k t) r → SeatsOf t before r → CalmOf t r → Orderly k t j
      → Walking k t Told P (routines_in rs) (r ∷ rest) j → ((x : Break) → In x (routine frame rs r j).broken → Told x)
      → RoutineWalks k t Told P rs before r j (routine frame rs r j).known
  routine_walks k t Told P teller frame before rs (tree.a_routine heading semicolon body last_semicolon) rest j text one all seats calm s walking w =
      let r = tree.a_routine heading semicolon body last_semicolon in
      let st = routine_stated k t before r all seats in
      let d = enter_heading frame rs r j in
      let e = body_in d.value body d.known in
      let i = enter k t Told P teller frame rs before r rest j text one s walking (λ x has. w x (in_left x d.broken e.broken has)) in
      let b = body_walks k t Told P teller d.value body d.known all.1 seats.1 calm.1 st.body
      ((heading_stays k t frame before rs r text.all text.seats st).of j s) i.laid (λ x has. w x (in_right x d.broken e.broken has)) in
      record {
        law = (i.told, b.law);
        o = i.o;
        passed = after_body k t Told P rs before r rest i.o j d.known e.known (ground k t rs before r rest text one) i.passed b.off;
      }

  body_walks : (k : Known) (t : BlockTree) (Told : Break → Type 0) (P : List RoutineTree → RoutineTree → Type 0) → Teller k t Told P → (e : Entered)
      (body : BodyTree) (j : Known) → OfBody (IsOfText k t) body → SeatsInside t body → CalmBody t body → StatedIn k t body → Orderly k t j
      → LaidIn k t Told body j → ((x : Break) → In x (body_in e body j).broken → Told x)
      → Walks (OfBodyAfter P body) t (Has (body_node body)) j (body_in e body j).known
  body_walks k t Told P teller e (tree.a_directive directive) j all seats calm st s laid w = record { law = tt; off = off_none t _ j }
  body_walks k t Told P teller e (tree.a_block_body b) j all seats calm st s laid w =
      block_walks k t Told P teller e.frame e.number e.place b j all seats calm st s laid w
