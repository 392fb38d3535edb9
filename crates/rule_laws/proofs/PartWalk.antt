-- The declarations of a text's blocks, by which heading has the block of which.
use Rattle.std.proofs.Common.{◌++◌, ◌∙◌, ◌∷◌, ◌≡◌, [], ℕ, List, None, Option, Some, ap, false, length, nat_eq, refl, subst, suc, sym, true, zero}
use Rattle.std.{proofs.lemmas.List.append_assoc, proofs.lemmas.Option.none-some, specs.Map.lookup}
use Rattle.pas_tree.specs.{BlockTrees.routine_body, BlockTrees.routine_heading, HeadingTrees.HeadingTree, StatementPlaces.compound_word}
use Rattle.pas_tree.specs.BlockTrees.{BlockTree, BodyTree, ConstantPartTree, LabelPartTree, RoutineTree, RoutineTrees, TypePartTree, VariablePartTree}
use Rattle.pas_tree.specs.BlockTrees as tree
use Rattle.core_program.specs.declared.rows.{PartRow.PartRow, Row.Row}
use Rattle.check_steps.specs.{Regions.RegionRows, Regions.fresh_region, declared.breaks.Break.Break, declared.regions.Frame.Frame}
use Rattle.check_steps.specs.Known.{Known, and_region, frame_at, row_at}
use Rattle.check_steps.specs.Steps.{◌>>=◌, Step, extend, give, look}
use Rattle.denoter_checker.specs.Formals.{define_formals_at, is_function}
use Rattle.denoter_checker.specs.RoutineParts.{block_in, completion_of, define_routines, routine_at, routine_if_any, routine_name}
use Rattle.decl_checker.specs.{Labels.define_labels, declared.routines.Entered.Entered}
use Rattle.decl_checker.specs.Blocks.{define_block, define_constants, define_types, define_variables}
use Rattle.decl_checker.specs.Routines.{block, body_in, define_body, define_completion, define_inside, enter_at, enter_heading, first_heading, first_name}
use Rattle.decl_checker.specs.Routines.{one_deeper, open_routine, place_after_result, resumed, routine, routines_in}
use Rattle.rule_laws.proofs.{Breaks.Each, Breaks.both, InTurn.Goes, Keeping.Keeps, Keeping.bind-keeps, Keeping.give-keeps, Keeping.look-keeps}
use Rattle.rule_laws.proofs.{LastsFormals.define_formals_at-lasts, LastsHeadings.signature-lasts, LastsLabels.define_labels-lasts}
use Rattle.rule_laws.proofs.{LastsRoutines.add_heading-lasts, LastsRoutines.after_completion, LastsRoutines.part_each, LastsStatements.compound_uses-lasts}
use Rattle.rule_laws.proofs.{NameTurns.Region, NameTurns.Turn, NameTurns.rule_two, Regions.last_region, Standing.Stands, Standing.opened, Standing.standing}
use Rattle.rule_laws.proofs.{Standing.stands_at, TextFields.Any, TextHeadings.IsOfText, TextNames.formals_end, TextRoutines.labels_keep}
use Rattle.rule_laws.proofs.Gives.{Gives, gives_both, gives_first, gives_none, gives_then}
use Rattle.rule_laws.proofs.LastsBlocks.{define_constants-lasts, define_types-lasts, define_variables-lasts, parts-lasts, put_body-lasts}
use Rattle.rule_laws.proofs.NameLaw.{begun, constant_part_goes, type_part_goes, variable_part_goes}
use Rattle.rule_laws.proofs.PartTurns.{Clean, Orderly, Part, SecondOf, orderly_all, orderly_lasts, part_begun, part_kept}
use Rattle.rule_laws.proofs.Seats.{ForwardKind, Nobody, Seat, Seats, SeatsIn, SeatsInside, SeatsOf}
use Rattle.rule_laws.specs.{ForwardHeadings.has_forward, ForwardHeadings.is_block, ForwardHeadings.is_second, NameLaws.block_routines, TextLaws.names_in_body}
use Rattle.rule_laws.specs.RegionNames.{block_names, constants_of, heading_names, types_of, variables_of}
use Rattle.rule_laws.specs.TextParts.{OfBody, OfBodyAfter, OfEach, OfEachAfter, OfRoutine, OfRoutineAfter, OfRoutines, OfRoutinesAfter}

-- ---- what steps lead to after some names of a region were defined

-- what holds of tables and of what was broken on the way, and goes on to hold after more was
pub record Claim : Type 1 where
  pub X : Known → List Break → Type 0
  pub more : (i : Known) (bs cs : List Break) → X i cs → X i (bs ++ cs)

pub record Leads (p : Region) (done : List ℕ) (I : Known → Type 0) (c : Claim) {A : Type 0} (m : Step A) : Type 0 where
  pub of : (j : Known) → Turn p done j → I j → c.X (m j).known (m j).broken

leads_kept : {p : Region} {done : List ℕ} {I : Known → Type 0} {c : Claim} {A B : Type 0} {m : Step A} {f : A → Step B} → Keeps (Turn p done) m → Keeps I m
    → ((a : A) → Leads p done I c (f a)) → Leads p done I c (m >>= f)
unfolding ◌>>=◌
leads_kept {c = c} {m = m} {f = f} turns kept rest = record {
  of = λ j t i.
      let d = m j in
      let e = f d.value d.known in
      c.more e.known d.broken e.broken ((rest d.value).of d.known (turns.of j t) (kept.of j i));
}

leads_goes : {p : Region} {done : List ℕ} {I : Known → Type 0} {c : Claim} {A B : Type 0} {m : Step A} {f : A → Step B} (xs : List ℕ)
    → Goes (rule_two p) xs m → Keeps I m → ((a : A) → Leads p (done ++ xs) I c (f a)) → Leads p done I c (m >>= f)
unfolding ◌>>=◌
leads_goes {done = done} {c = c} {m = m} {f = f} xs goes kept rest = record {
  of = λ j t i.
      let d = m j in
      let e = f d.value d.known in
      c.more e.known d.broken e.broken ((rest d.value).of d.known ((goes.of done j t).turn) (kept.of j i));
}

-- a block in the region of a frame, where some names are defined
pub record Opens (k : Known) (t : BlockTree) (p : Region) (done : List ℕ) (b : BlockTree) : Type 1 where
  pub words : p.k.words ≡ k.words
  pub clean : Clean t p.region p.k
  pub before : Each (Nobody t) done
  pub names : Each (Nobody t) (block_names b)

abbrev pub part_of : BlockTree → RoutineTrees
part_of (tree.a_block labels constants types variables routines body) = routines

-- what its procedures and functions lead to
pub record Ends (k : Known) (t : BlockTree) (region : ℕ) (names : List ℕ) (c : Claim) (rs : RoutineTrees) : Type 0 where
  pub of : (j : Known) → Part k t region names [] j → let d = define_routines region rs j in c.X d.known d.broken

parts_lead : (k : Known) (t : BlockTree) (p : Region) (here : Frame) → here.region ≡ p.region → (labels : Option LabelPartTree)
    (consts : Option ConstantPartTree) (kinds : Option TypePartTree) (variable_part : Option VariablePartTree) (routines : RoutineTrees) (done : List ℕ)
    (c : Claim)
    → let names = constants_of consts ++ (types_of kinds ++ variables_of variable_part) in
    p.k.words ≡ k.words → Clean t p.region p.k → Each (Nobody t) (done ++ names)
    → Ends k t p.region (done ++ names) c routines
    → Leads p done (Orderly k t) c (define_labels here labels >>= λ _. define_constants p.region consts >>= λ _.
    define_types p.region kinds >>= λ _. define_variables p.region variable_part >>= λ _. define_routines p.region routines)
parts_lead k t p here e labels consts kinds variable_part routines done c words clean nobody ends =
    let o = orderly_lasts k t in
    let cs = constants_of consts in
    let ts = types_of kinds in
    let vs = variables_of variable_part in
    let same : ((done ++ cs) ++ ts) ++ vs ≡ done ++ (cs ++ (ts ++ vs)) = append_assoc (done ++ cs) ts vs ∙ append_assoc done cs (ts ++ vs) in
    leads_kept (labels_keep p done here e labels) (define_labels-lasts (orderly_all k t) here labels) (λ _.
    leads_goes cs (constant_part_goes p consts) (define_constants-lasts (orderly_all k t).ends p.region consts) (λ _.
    leads_goes ts (type_part_goes p kinds) (define_types-lasts o (orderly_all k t).ends p.region kinds) (λ _.
    leads_goes vs (variable_part_goes p variable_part) (define_variables-lasts o p.region variable_part) (λ _. record {
      of = λ j turned s. ends.of j (part_begun k t p (done ++ (cs ++ (ts ++ vs))) j words clean nobody (subst (λ l. Turn p l j) same turned) s);
    }))))

pub block_leads : (k : Known) (t b : BlockTree) (p : Region) (done : List ℕ) (frame : ℕ) (j : Known) (c : Claim) → p.region ≡ (frame_at j frame).region
    → Opens k t p done b → Ends k t p.region (done ++ block_names b) c (part_of b) → Turn p done j → Orderly k t j
    → let d = define_block frame b j in c.X d.known d.broken
unfolding look ◌>>=◌
block_leads k t (tree.a_block labels consts kinds variable_part routines body) p done frame j c e o ends turned s =
    let names = constants_of consts ++ (types_of kinds ++ variables_of variable_part) in
    let here = frame_at j frame in
    let steps : ℕ → Step (Unit {0}) = λ region. define_labels here labels >>= λ _. define_constants region consts >>= λ _.
    define_types region kinds >>= λ _. define_variables region variable_part >>= λ _. define_routines region routines in
    let led = (parts_lead k t p here (sym e) labels consts kinds variable_part routines done c o.words o.clean
    (both (Nobody t) done names o.before o.names) ends).of j turned s in
    subst (λ region. c.X (steps region j).known (steps region j).broken) e led

-- ---- tables stay orderly

-- that they are so
abbrev pub staying : Known → BlockTree → Claim
staying k t = record { X = λ i bs. Orderly k t i; more = λ i bs cs s. s }

-- what the text says of a block
pub record Stated (k : Known) (t b : BlockTree) : Type 1 where
  pub all : Each (IsOfText k t) (block_routines b)
  pub seats : SeatsIn t [] (part_of b)
  pub names : Each (Nobody t) (block_names b)

abbrev pub StatedIn : Known → BlockTree → BodyTree → Type 1
StatedIn k t (tree.a_directive directive) = Unit {1}
StatedIn k t (tree.a_block_body b) = Stated k t b

pub block_stays : (k : Known) (t b : BlockTree) (p : Region) (done : List ℕ) (frame : ℕ) (j : Known) → p.region ≡ (frame_at j frame).region
    → p.k.words ≡ k.words → Clean t p.region p.k → Each (Nobody t) done → Stated k t b → Turn p done j → Orderly k t j
    → Orderly k t (define_block frame b j).known
block_stays k t (tree.a_block labels consts kinds variable_part routines body) p done frame j e words clean before st turned s =
    let b = tree.a_block labels consts kinds variable_part routines body in
    block_leads k t b p done frame j (staying k t) e (record { words = words; clean = clean; before = before; names = st.names }) (record {
      of = λ i part. part_kept k t p.region (done ++ block_names b) routines i st.all st.seats part;
    }) turned s

body_stays : (k : Known) (t : BlockTree) (body : BodyTree) (p : Region) (done : List ℕ) (frame : ℕ) (j : Known) → p.region ≡ (frame_at j frame).region
    → p.k.words ≡ k.words → Clean t p.region p.k → Each (Nobody t) done → StatedIn k t body → Turn p done j → Orderly k t j
    → Orderly k t (define_body frame body j).known
unfolding give
body_stays k t (tree.a_directive directive) p done frame j e words clean before st turned s = s
body_stays k t (tree.a_block_body b) p done frame j e words clean before st turned s = block_stays k t b p done frame j e words clean before st turned s

abbrev pub StatedBy : Known → BlockTree → Option RoutineTree → Type 1
StatedBy k t None = Unit {1}
StatedBy k t (Some r) = StatedIn k t (routine_body r)

completion_stays : (k : Known) (t : BlockTree) (o : Option RoutineTree) (p : Region) (done : List ℕ) (frame : ℕ) (j : Known)
    → p.region ≡ (frame_at j frame).region → p.k.words ≡ k.words → Clean t p.region p.k → Each (Nobody t) done → StatedBy k t o → Turn p done j
    → Orderly k t j → Orderly k t (define_completion frame o j).known
unfolding give
completion_stays k t None p done frame j e words clean before st turned s = s
completion_stays k t (Some r) p done frame j e words clean before st turned s = body_stays k t (routine_body r) p done frame j e words clean before st turned s

-- the region of a routine; it has one block at most
inside_stays : (k : Known) (t : BlockTree) (j : Known) (frame : ℕ) (f : Frame) (h : HeadingTree) (body : BodyTree) (completion : Option RoutineTree)
    → Orderly k t j → Stands frame f j → Clean t f.region j → Each (Nobody t) (heading_names h) → StatedIn k t body → StatedBy k t completion
    → (is_block body ≡ true → completion ≡ None) → Orderly k t (define_inside frame h body completion j).known
unfolding define_inside ◌>>=◌ give
inside_stays k t j frame f h (tree.a_directive directive) completion s stands clean formals st by one =
    let p : Region = record { k = j; region = f.region; t = 0 } in
    let d = define_formals_at frame h j in
    let at = stands_at frame f j stands in
    let ends = formals_end j frame f.region 0 h j (ap (λ (g : Frame). g.region) (sym at)) (begun j f.region 0 stands.below) in
    let then = (define_formals_at-lasts (standing {G = Any} frame f) frame h).of j stands in
    let still = ap (λ (g : Frame). g.region) (sym (stands_at frame f d.known then)) in
    completion_stays k t completion p (heading_names h) frame d.known still s.both.sound.words clean formals by ends.turn
    ((define_formals_at-lasts (orderly_lasts k t) frame h).of j s)
inside_stays k t j frame f h (tree.a_block_body b) completion s stands clean formals st by one =
    let p : Region = record { k = j; region = f.region; t = 0 } in
    let d = define_formals_at frame h j in
    let at = stands_at frame f j stands in
    let ends = formals_end j frame f.region 0 h j (ap (λ (g : Frame). g.region) (sym at)) (begun j f.region 0 stands.below) in
    let then = (define_formals_at-lasts (standing {G = Any} frame f) frame h).of j stands in
    let still = ap (λ (g : Frame). g.region) (sym (stands_at frame f d.known then)) in
    let e = define_block frame b d.known in
    subst (λ (o : Option RoutineTree). Orderly k t (define_completion frame o e.known).known) (sym (one refl))
    (block_stays k t b p (heading_names h) frame d.known still s.both.sound.words clean formals st ends.turn
    ((define_formals_at-lasts (orderly_lasts k t) frame h).of j s))

-- ---- headings

-- what the text says of one of a part
pub record StatedOf (k : Known) (t : BlockTree) (before : List RoutineTree) (r : RoutineTree) : Type 1 where
  pub seat : Seat t before r
  pub body : StatedIn k t (routine_body r)

pub body_stated : (k : Known) (t : BlockTree) (body : BodyTree) → OfBody (IsOfText k t) body → SeatsInside t body → Each (Nobody t) (names_in_body body)
    → StatedIn k t body
body_stated k t (tree.a_directive directive) all seats names = tt
body_stated k t (tree.a_block_body (tree.a_block labels constants types variables routines body)) all seats names =
    record { all = part_each (IsOfText k t) routines all; seats = seats; names = names }

pub routine_stated : (k : Known) (t : BlockTree) (before : List RoutineTree) (r : RoutineTree) → OfRoutine (IsOfText k t) r → SeatsOf t before r
    → StatedOf k t before r
routine_stated k t before (tree.a_routine heading semicolon body last_semicolon) all seats =
    record { seat = seats.0; body = body_stated k t body all.1 seats.1 seats.0.names }

pub at_stated : (k : Known) (t : BlockTree) (before : List RoutineTree) (rs : RoutineTrees) (n : ℕ) → OfEach (IsOfText k t) rs → SeatsIn t before rs
    → StatedBy k t (routine_at rs n)
at_stated k t before tree.end_of_routines n all seats = tt
at_stated k t before (tree.more_routines r rest) zero all seats = (routine_stated k t before r all.0 seats.0).body
at_stated k t before (tree.more_routines r rest) (suc n) all seats = at_stated k t (before ++ r ∷ []) rest n all.1 seats.1

pub if_stated : (k : Known) (t : BlockTree) (rs : RoutineTrees) (o : Option ℕ) → OfEach (IsOfText k t) rs → SeatsIn t [] rs
    → StatedBy k t (routine_if_any rs o)
if_stated k t rs None all seats = tt
if_stated k t rs (Some n) all seats = at_stated k t [] rs n all seats

pub no_forward_block : (k : Known) (body : BodyTree) → is_block body ≡ true → has_forward k body ≡ true → ⊥
no_forward_block k (tree.a_directive directive) block forward = let never : false ≡ true = block in cc
no_forward_block k (tree.a_block_body b) block forward = let never : false ≡ true = forward in cc

-- a heading before a block is completed by none
pub not_forward : (k : Known) (t : BlockTree) (j : Known) (before : List RoutineTree) (r : RoutineTree) → Orderly k t j → Seat t before r
    → is_block (routine_body r) ≡ true → (row : Row) → row_at j (routine_name r) ≡ row → block_in row ≡ None
not_forward k t j before r s seat block (Row.Part (PartRow.Forward function at)) e =
    let own = seat.own (ForwardKind k function) (s.marked.forward (routine_name r) function at e) in
    absurd (no_forward_block k (routine_body r) block own.0)
not_forward k t j before r s seat block row e = refl

pub completed_by_none : (k : Known) (t : BlockTree) (j : Known) (before : List RoutineTree) (rs : RoutineTrees) (r : RoutineTree) → Orderly k t j
    → Seat t before r → is_block (routine_body r) ≡ true → completion_of j rs r ≡ None
completed_by_none k t j before rs r s seat block =
    ap (routine_if_any rs) (not_forward k t j before r s seat block (row_at j (routine_name r)) refl)

-- one that has not the block of an earlier one completes none
pub not_second : (k : Known) (t : BlockTree) (j : Known) (before : List RoutineTree) (r : RoutineTree) → Orderly k t j → Seat t before r
    → is_second k before r ≡ false → (row : Row) → row_at j (routine_name r) ≡ row → first_name row ≡ None
not_second k t j before r s seat none (Row.Part (PartRow.Completing first)) e =
    let own = seat.own (SecondOf k first) (s.marked.completing (routine_name r) first e) in
    absurd (let never : true ≡ false = sym own.0 ∙ none in cc)
not_second k t j before r s seat none row e = refl

pub fresh_is_clean : (t : BlockTree) (j : Known) (token : ℕ) (f : Frame) → Clean t (length j.regions) (and_region j token f)
fresh_is_clean t j token f n d found = absurd (none-some d
    (sym (ap (λ (x : RegionRows). lookup (nat_eq n) x.names) (last_region j.regions (fresh_region token (length j.frames)))) ∙ found))

-- the region of a routine that was just opened
pub record Fresh (t : BlockTree) (frame : ℕ) (f : Frame) (j : Known) : Type 0 where
  pub stands : Stands frame f j
  pub clean : Clean t f.region j

abbrev pub frame_inside : Known → ℕ → Frame
frame_inside j frame = record { region = length j.regions; outer = Some frame; level = one_deeper (frame_at j frame).level; withs = 0 }

pub fresh_inside : (t : BlockTree) (j : Known) (frame name : ℕ) → Fresh t (length j.frames) (frame_inside j frame) (and_region j name (frame_inside j frame))
fresh_inside t j frame name = record {
  stands = opened j name (frame_inside j frame) refl;
  clean = fresh_is_clean t j name (frame_inside j frame);
}

pub first_stays : (k : Known) (t : BlockTree) (j : Known) (frame : ℕ) (before : List RoutineTree) (r : RoutineTree) (completion : Option RoutineTree)
    → Orderly k t j → StatedOf k t before r → StatedBy k t completion → (is_block (routine_body r) ≡ true → completion ≡ None)
    → Orderly k t (after_completion frame r completion j).known
unfolding open_routine look extend ◌>>=◌
first_stays k t j frame before r completion s st by one =
    let h = routine_heading r in
    let f = frame_inside j frame in
    let inner = length j.frames in
    let i = and_region j (routine_name r) f in
    let fresh = fresh_inside t j frame (routine_name r) in
    let d = define_inside inner h (routine_body r) completion i in
    let then = inside_stays k t i inner f h (routine_body r) completion ((orderly_lasts k t).regions j (routine_name r) f s) fresh.stands fresh.clean
    st.seat.formals st.body by one in
    (bind-keeps (signature-lasts (orderly_lasts k t) frame inner h) (λ end. bind-keeps (add_heading-lasts (orderly_all k t) inner h end) (λ number.
    give-keeps (record { number = number; frame = inner; place = place_after_result (is_function h) end })))).of d.known then

enter_stays : (k : Known) (t : BlockTree) (frame : ℕ) (before : List RoutineTree) (rs : RoutineTrees) (r : RoutineTree) → OfEach (IsOfText k t) rs
    → SeatsIn t [] rs → StatedOf k t before r → (o : Option ℕ) → Keeps (Orderly k t) (enter_at o frame rs r)
unfolding first_heading look ◌>>=◌
enter_stays k t frame before rs r all seats st None = record {
  of = λ j s. first_stays k t j frame before r (completion_of j rs r) s st (if_stated k t rs (block_in (row_at j (routine_name r))) all seats)
      (λ block. completed_by_none k t j before rs r s st.seat block);
}
enter_stays k t frame before rs r all seats st (Some first) = look-keeps (λ j. resumed j first)

pub heading_stays : (k : Known) (t : BlockTree) (frame : ℕ) (before : List RoutineTree) (rs : RoutineTrees) (r : RoutineTree) → OfEach (IsOfText k t) rs
    → SeatsIn t [] rs → StatedOf k t before r → Keeps (Orderly k t) (enter_heading frame rs r)
unfolding enter_heading
heading_stays k t frame before rs r all seats st = bind-keeps (look-keeps (λ j. first_name (row_at j (routine_name r)))) (λ first.
    enter_stays k t frame before rs r all seats st first)

-- ---- blocks

mutual
  pub block_keeps : (k : Known) (t : BlockTree) (frame number place : ℕ) (b : BlockTree) → OfRoutines (IsOfText k t) b → Seats t b
      → Keeps (Orderly k t) (block frame number place b)
  block_keeps k t frame number place (tree.a_block labels constants types variables routines body) all seats =
      bind-keeps (parts-lasts (orderly_lasts k t) frame place (tree.a_block labels constants types variables routines body)) (λ end.
      bind-keeps (put_body-lasts (orderly_lasts k t) number end (compound_word body)) (λ _.
      bind-keeps (part_keeps k t frame [] routines routines all seats all seats) (λ _. compound_uses-lasts (orderly_lasts k t) frame body)))

  part_keeps : (k : Known) (t : BlockTree) (frame : ℕ) (before : List RoutineTree) (rs part : RoutineTrees) → OfEach (IsOfText k t) rs → SeatsIn t [] rs
      → OfEach (IsOfText k t) part → SeatsIn t before part → Keeps (Orderly k t) (routines_in frame rs part)
  part_keeps k t frame before rs tree.end_of_routines all seats all-in seats-in = give-keeps tt
  part_keeps k t frame before rs (tree.more_routines r rest) all seats all-in seats-in =
      bind-keeps (routine_keeps k t frame before rs r all seats all-in.0 seats-in.0) (λ _.
      part_keeps k t frame (before ++ r ∷ []) rs rest all seats all-in.1 seats-in.1)

  pub routine_keeps : (k : Known) (t : BlockTree) (frame : ℕ) (before : List RoutineTree) (rs : RoutineTrees) (r : RoutineTree) → OfEach (IsOfText k t) rs
      → SeatsIn t [] rs → OfRoutine (IsOfText k t) r → SeatsOf t before r → Keeps (Orderly k t) (routine frame rs r)
  routine_keeps k t frame before rs (tree.a_routine heading semicolon body last_semicolon) all seats all-in seats-in =
      let r = tree.a_routine heading semicolon body last_semicolon in
      bind-keeps (heading_stays k t frame before rs r all seats (routine_stated k t before r all-in seats-in)) (λ e.
      body_keeps k t e body all-in.1 seats-in.1)

  pub body_keeps : (k : Known) (t : BlockTree) (e : Entered) (body : BodyTree) → OfBody (IsOfText k t) body → SeatsInside t body
      → Keeps (Orderly k t) (body_in e body)
  body_keeps k t e (tree.a_directive directive) all seats = give-keeps tt
  body_keeps k t e (tree.a_block_body b) all seats = block_keeps k t e.frame e.number e.place b all seats

-- ---- what each procedure and function gives where it is entered

-- This is so after those before it in its part.
pub record Enters (k : Known) (t : BlockTree) (Told : Break → Type 0) (P : List RoutineTree → RoutineTree → Type 0) : Type 1 where
  pub entered : (frame : ℕ) (before : List RoutineTree) (rs : RoutineTrees) (r : RoutineTree) → OfBody (IsOfText k t) (routine_body r)
      → StatedOf k t before r → Gives (Orderly k t) Told (enter_heading frame rs r) (P before r)

mutual
  pub block_enters : {k : Known} {t : BlockTree} {Told : Break → Type 0} {P : List RoutineTree → RoutineTree → Type 0} (w : Enters k t Told P)
      (frame number place : ℕ) (b : BlockTree) → OfRoutines (IsOfText k t) b → Seats t b
      → Gives (Orderly k t) Told (block frame number place b) (OfRoutinesAfter P b)
  block_enters {k = k} {t = t} w frame number place (tree.a_block labels constants types variables routines body) all seats =
      gives_then (parts-lasts (orderly_lasts k t) frame place (tree.a_block labels constants types variables routines body)) (λ end.
      gives_then (put_body-lasts (orderly_lasts k t) number end (compound_word body)) (λ _.
      gives_first _ (part_enters w frame [] routines routines all seats all seats)))

  part_enters : {k : Known} {t : BlockTree} {Told : Break → Type 0} {P : List RoutineTree → RoutineTree → Type 0} (w : Enters k t Told P) (frame : ℕ)
      (before : List RoutineTree) (rs part : RoutineTrees) → OfEach (IsOfText k t) rs → SeatsIn t [] rs → OfEach (IsOfText k t) part
      → SeatsIn t before part → Gives (Orderly k t) Told (routines_in frame rs part) (OfEachAfter P before part)
  part_enters w frame before rs tree.end_of_routines all seats all-in seats-in = gives_none
  part_enters {k = k} {t = t} w frame before rs (tree.more_routines r rest) all seats all-in seats-in =
      gives_both (gives_first _ (routine_enters w frame before rs r all seats all-in.0 seats-in.0))
      (gives_then (routine_keeps k t frame before rs r all seats all-in.0 seats-in.0) (λ _.
      part_enters w frame (before ++ r ∷ []) rs rest all seats all-in.1 seats-in.1))

  routine_enters : {k : Known} {t : BlockTree} {Told : Break → Type 0} {P : List RoutineTree → RoutineTree → Type 0} (w : Enters k t Told P) (frame : ℕ)
      (before : List RoutineTree) (rs : RoutineTrees) (r : RoutineTree) → OfEach (IsOfText k t) rs → SeatsIn t [] rs → OfRoutine (IsOfText k t) r
      → SeatsOf t before r → Gives (Orderly k t) Told (routine frame rs r) (OfRoutineAfter P before r)
  routine_enters {k = k} {t = t} w frame before rs (tree.a_routine heading semicolon body last_semicolon) all seats all-in seats-in =
      let r = tree.a_routine heading semicolon body last_semicolon in
      let st = routine_stated k t before r all-in seats-in in
      gives_both (gives_first _ (w.entered frame before rs r all-in.1 st))
      (gives_then (heading_stays k t frame before rs r all seats st) (λ e. body_enters w e body all-in.1 seats-in.1))

  body_enters : {k : Known} {t : BlockTree} {Told : Break → Type 0} {P : List RoutineTree → RoutineTree → Type 0} (w : Enters k t Told P) (e : Entered)
      (body : BodyTree) → OfBody (IsOfText k t) body → SeatsInside t body → Gives (Orderly k t) Told (body_in e body) (OfBodyAfter P body)
  body_enters w e (tree.a_directive directive) all seats = gives_none
  body_enters w e (tree.a_block_body b) all seats = block_enters w e.frame e.number e.place b all seats
