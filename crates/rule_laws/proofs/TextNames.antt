-- The names of a text's blocks and formal parameters.
use Rattle.std.proofs.Common.{◌++◌, ◌+◌, ◌<◌, ◌||◌, ◌∙◌, ◌∷◌, ◌≡◌, [], ℕ, List, Option, ap, false, inl, inr, is_some, length, refl, replicate, slice_get, subst}
use Rattle.std.proofs.Common.{suc, sym, true, unwrap_or, zero}
use Rattle.std.proofs.lemmas.Option.{none-some}
use Rattle.pas_lexer.specs.Lexed.{Lexed}
use Rattle.pas_tree.specs.{BlockTrees.routine_body, BlockTrees.routine_heading, HeadingTrees.HeadingTree}
use Rattle.pas_tree.specs.BlockTrees.{BlockTree, BodyTree, ConstantPartTree, LabelPartTree, RoutineTree, RoutineTrees, TypePartTree, VariablePartTree}
use Rattle.pas_tree.specs.BlockTrees as tree
use Rattle.pas_tree.specs.TreeNodes.{block_node, body_node, routine_node, routines_node}
use Rattle.core_program.specs.declared.rows.{PartRow.PartRow, Row.Row}
use Rattle.check_steps.specs.{Known.Known, Known.frame_at, Known.name_at, Regions.defined_in, Steps.◌>>=◌, Steps.Step, Steps.look, Words.known_at_start}
use Rattle.check_steps.specs.{Words.required_names, declared.breaks.Break.Break, declared.regions.Frame.Frame, declared.words.SpelledToken.SpelledToken}
use Rattle.denoter_checker.specs.{Formals.define_formals_at, Formals.formals_of, RoutineParts.define_routines, RoutineParts.routine_name}
use Rattle.decl_checker.specs.{Labels.define_labels, Routines.define_body, Routines.define_completion, Routines.define_inside}
use Rattle.decl_checker.specs.Blocks.{define_block, define_constants, define_types, define_variables}
use Rattle.rule_laws.proofs.{Breaks.In, Breaks.in_left, Breaks.in_right, Every.Every, InTurn.Goes, InTurn.Wrong, InTurn.one_wrong, InTurn.wrong_parts}
use Rattle.rule_laws.proofs.{Keeping.Keeps, LabelParts.labels_told, LastsFormals.define_formals_at-lasts, NameTurns.Region, NameTurns.Turn, NameTurns.rule_two}
use Rattle.rule_laws.proofs.{Standing.Stands, Standing.standing, Standing.stands_at, TextFields.Any, TextFields.or_true, TextFields.spelling}
use Rattle.rule_laws.proofs.{TextRoutines.labels_keep, TextRoutines.no_split, TokenPlaces.heading_name-in}
use Rattle.rule_laws.proofs.NameLaw.{begun, constant_part_goes, held_formals_go, type_part_goes, variable_part_goes}
use Rattle.rule_laws.proofs.TextHeadings.{IsNeverForward, IsOfText, Sound}
use Rattle.rule_laws.specs.{ForwardHeadings.is_block, Laws.broken_at, NameLaws.block_labels}
use Rattle.rule_laws.specs.RegionNames.{block_names, constants_of, heading_names, types_of, variables_of}
use Rattle.rule_laws.specs.TextLaws.{has_label, has_name, labels_in_body, names_in_body, names_of_routine}
use Rattle.rule_laws.specs.TextParts.{OfBody, OfEach, OfRoutine, OfRoutines}

-- ---- a name that is defined again is told

record Back (p : Region) (xs : List ℕ) {A : Type 0} (m : Step A) : Type 0 where
  of : (done : List ℕ) (j : Known) → Turn p done j → Wrong (rule_two p) done xs → In (broken_at 2 p.t) (m j).broken

back_kept : {p : Region} {A B : Type 0} {m : Step A} {f : A → Step B} (xs : List ℕ) → ((done : List ℕ) → Keeps (Turn p done) m)
    → ((a : A) → Back p xs (f a)) → Back p xs (m >>= f)
unfolding ◌>>=◌
back_kept {p = p} {m = m} {f = f} xs kept back = record {
  of = λ done j t w.
      let d = m j in
      in_right (broken_at 2 p.t) d.broken (f d.value d.known).broken ((back d.value).of done d.known ((kept done).of j t) w);
}

back_then : {p : Region} {A B : Type 0} {m : Step A} {f : A → Step B} (xs ys : List ℕ) → Goes (rule_two p) xs m → ((a : A) → Back p ys (f a))
    → Back p (xs ++ ys) (m >>= f)
unfolding ◌>>=◌
back_then {p = p} {m = m} {f = f} xs ys goes back = record {
  of = λ done j t w.
      let d = m j in
      let rest = (f d.value d.known).broken in
      let ends = goes.of done j t in
      elim (wrong_parts (rule_two p) done xs ys w) [
        | inl one ↦ in_left (broken_at 2 p.t) d.broken rest (ends.back one)
        | inr other ↦ in_right (broken_at 2 p.t) d.broken rest ((back d.value).of (done ++ xs) d.known ends.turn other)
      ];
}

back_last : {p : Region} {A B : Type 0} {m : Step A} (f : A → Step B) (xs : List ℕ) → Goes (rule_two p) xs m → Back p xs (m >>= f)
unfolding ◌>>=◌
back_last {p = p} {m = m} f xs goes = record {
  of = λ done j t w. let d = m j in in_left (broken_at 2 p.t) d.broken (f d.value d.known).broken ((goes.of done j t).back w);
}

parts_back : (p : Region) (here : Frame) → here.region ≡ p.region → (labels : Option LabelPartTree) (consts : Option ConstantPartTree)
    (kinds : Option TypePartTree) (variable_part : Option VariablePartTree) (routines : RoutineTrees)
    → Back p (constants_of consts ++ (types_of kinds ++ variables_of variable_part))
    (define_labels here labels >>= λ _. define_constants p.region consts >>= λ _.
    define_types p.region kinds >>= λ _. define_variables p.region variable_part >>= λ _. define_routines p.region routines)
parts_back p here e labels consts kinds variable_part routines =
    back_kept (constants_of consts ++ (types_of kinds ++ variables_of variable_part)) (λ done. labels_keep p done here e labels) (λ _.
    back_then (constants_of consts) (types_of kinds ++ variables_of variable_part) (constant_part_goes p consts) (λ _.
    back_then (types_of kinds) (variables_of variable_part) (type_part_goes p kinds) (λ _.
    back_last _ (variables_of variable_part) (variable_part_goes p variable_part))))

-- the block of a frame, where some names of its region are defined
pub block_back : (k : Known) (frame region t : ℕ) (b : BlockTree) (done : List ℕ) (j : Known) → region ≡ (frame_at j frame).region
    → let p : Region = record { k = k; region = region; t = t } in
    Turn p done j → Wrong (rule_two p) done (block_names b) → In (broken_at 2 t) (define_block frame b j).broken
unfolding look ◌>>=◌
block_back k frame region t (tree.a_block labels consts kinds variable_part routines body) done j e turn w =
    let own = (frame_at j frame).region in
    let p : ℕ → Region = λ r. record { k = k; region = r; t = t } in
    let names = constants_of consts ++ (types_of kinds ++ variables_of variable_part) in
    (parts_back (p own) (frame_at j frame) refl labels consts kinds variable_part routines).of done j (subst (λ r. Turn (p r) done j) e turn)
    (subst (λ r. Wrong (rule_two (p r)) done names) e w)

body_back : (k : Known) (frame region t : ℕ) (body : BodyTree) (done : List ℕ) (j : Known) → region ≡ (frame_at j frame).region
    → let p : Region = record { k = k; region = region; t = t } in
    Turn p done j → Wrong (rule_two p) done (names_in_body body) → In (broken_at 2 t) (define_body frame body j).broken
body_back k frame region t (tree.a_directive directive) done j e turn w = absurd w
body_back k frame region t (tree.a_block_body b) done j e turn w = block_back k frame region t b done j e turn w

-- a label that one before it is equal to, in the block of a frame that stands
pub block_labels_told : (k j : Known) (frame : ℕ) (f : Frame) (b : BlockTree) (before : List ℕ) (label : ℕ) (after : List ℕ) → j.words ≡ k.words
    → Stands frame f j
    → block_labels b ≡ before ++ label ∷ after → has_label k before label ≡ true → In (broken_at 2 label) (define_block frame b j).broken
unfolding look ◌>>=◌
block_labels_told k j frame f (tree.a_block labels consts kinds variable_part routines body) before label after words s same second =
    let here = frame_at j frame in
    let below = subst (λ (g : Frame). g.region < length j.regions) (sym (stands_at frame f j s)) s.below in
    let second_here : has_label j before label ≡ true = ap (λ (ws : List SpelledToken). has_label (record k { words = ws }) before label) words ∙ second in
    in_left (broken_at 2 label) (define_labels here labels j).broken _ (labels_told j here labels before label after below same second_here)

body_labels : (k j : Known) (frame : ℕ) (f : Frame) (body : BodyTree) (before : List ℕ) (label : ℕ) (after : List ℕ) → j.words ≡ k.words
    → Stands frame f j → labels_in_body body ≡ before ++ label ∷ after → has_label k before label ≡ true
    → In (broken_at 2 label) (define_body frame body j).broken
body_labels k j frame f (tree.a_directive directive) before label after words s same second = absurd (no_split before label after same)
body_labels k j frame f (tree.a_block_body b) before label after words s same second = block_labels_told k j frame f b before label after words s same second

-- what a name that one before it is comes to
pub wrong_at : (k j : Known) (region : ℕ) (names before : List ℕ) (name : ℕ) (after : List ℕ) → j.words ≡ k.words → names ≡ before ++ name ∷ after
    → has_name k before name ≡ true → Wrong (rule_two (record { k = j; region = region; t = name })) [] names
wrong_at k j region names before name after words same second =
    let p : Region = record { k = j; region = region; t = name } in
    let here : has_name j before name ≡ true = ap (λ (ws : List SpelledToken). has_name (record k { words = ws }) before name) words ∙ second in
    let bad = ap (λ b. is_some (defined_in j.regions region (name_at j name)) || b) here
    ∙ or_true (is_some (defined_in j.regions region (name_at j name))) in
    subst (λ (l : List ℕ). Wrong (rule_two p) [] l) (sym same) (one_wrong (rule_two p) [] before name after refl bad)

-- ---- a procedure or function at its first heading

pub record FormalsEnd (k : Known) (region t : ℕ) (h : HeadingTree) (i : Known) (bs : List Break) : Type 0 where
  pub turn : Turn (record { k = k; region = region; t = t }) (heading_names h) i
  pub back : Wrong (rule_two (record { k = k; region = region; t = t })) [] (heading_names h) → In (broken_at 2 t) bs

pub formals_end : (k : Known) (frame region t : ℕ) (h : HeadingTree) (j : Known) → region ≡ (frame_at j frame).region
    → Turn (record { k = k; region = region; t = t }) [] j
    → FormalsEnd k region t h (define_formals_at frame h j).known (define_formals_at frame h j).broken
unfolding define_formals_at look ◌>>=◌
formals_end k frame region t h j e turn =
    let own = (frame_at j frame).region in
    let q : Region = record { k = k; region = own; t = t } in
    let ends = (held_formals_go q (formals_of h)).of [] j (subst (λ r. Turn (record { k = k; region = r; t = t }) [] j) e turn) in
    let d = define_formals_at frame h j in
    let there : FormalsEnd k own t h d.known d.broken = record { turn = ends.turn; back = ends.back } in
    subst (λ r. FormalsEnd k r t h d.known d.broken) (sym e) there

pub inside_told : (k j : Known) (frame : ℕ) (f : Frame) (r : RoutineTree) (completion : Option RoutineTree) (before : List ℕ) (name : ℕ) (after : List ℕ)
    → j.words ≡ k.words → Stands frame f j → names_of_routine r ≡ before ++ name ∷ after → has_name k before name ≡ true
    → In (broken_at 2 name) (define_inside frame (routine_heading r) (routine_body r) completion j).broken
unfolding define_inside ◌>>=◌
inside_told k j frame f r completion before name after words s same second =
    let b = broken_at 2 name in
    let p : Region = record { k = j; region = f.region; t = name } in
    let at = stands_at frame f j s in
    let w = wrong_at k j f.region (names_of_routine r) before name after words same second in
    let d = define_formals_at frame (routine_heading r) j in
    let ends = formals_end j frame f.region name (routine_heading r) j (ap (λ (g : Frame). g.region) (sym at)) (begun j f.region name s.below) in
    let e = define_body frame (routine_body r) d.known in
    let rest = define_completion frame completion e.known in
    elim (wrong_parts (rule_two p) [] (heading_names (routine_heading r)) (names_in_body (routine_body r)) w) [
      | inl one ↦ in_left b d.broken (e.broken ++ rest.broken) (ends.back one)
      | inr other ↦ (
          let then = (define_formals_at-lasts (standing {G = Any} frame f) frame (routine_heading r)).of j s in
          let still = ap (λ (g : Frame). g.region) (sym (stands_at frame f d.known then)) in
          in_right b d.broken (e.broken ++ rest.broken) (in_left b e.broken rest.broken
          (body_back j frame f.region name (routine_body r) (heading_names (routine_heading r)) d.known still ends.turn other)))
    ]

pub inside_labels : (k j : Known) (frame : ℕ) (f : Frame) (r : RoutineTree) (completion : Option RoutineTree) (before : List ℕ) (label : ℕ) (after : List ℕ)
    → j.words ≡ k.words → Stands frame f j → labels_in_body (routine_body r) ≡ before ++ label ∷ after → has_label k before label ≡ true
    → In (broken_at 2 label) (define_inside frame (routine_heading r) (routine_body r) completion j).broken
unfolding define_inside ◌>>=◌
inside_labels k j frame f r completion before label after words s same second =
    let b = broken_at 2 label in
    let d = define_formals_at frame (routine_heading r) j in
    let e = define_body frame (routine_body r) d.known in
    let rest = define_completion frame completion e.known in
    let then = (define_formals_at-lasts (standing {G = Any} frame f) frame (routine_heading r)).of j s in
    let spelled = (define_formals_at-lasts (spelling k) frame (routine_heading r)).of j (record { words = words }) in
    in_right b d.broken (e.broken ++ rest.broken) (in_left b e.broken rest.broken
    (body_labels k d.known frame f (routine_body r) before label after spelled.words then same second))

-- ---- the procedures and functions of a text

abbrev Forwards : Known → ℕ → RoutineTree → Type 0
Forwards k name r = is_block (routine_body r) ≡ false → name_at k (routine_name r) ≡ name → ⊥

abbrev Among : Known → ℕ → Type 0
Among k n = n < length k.words

mutual
  pub text_block : (k : Known) (t b : BlockTree) → Every (Among k) (block_node b)
      → ((name : ℕ) → IsNeverForward k t name → OfRoutines (Forwards k name) b) → OfRoutines (IsOfText k t) b
  text_block k t (tree.a_block labels constants types variables routines body) inside part = text_part k t routines inside.1.1.1.1.0 part

  text_part : (k : Known) (t : BlockTree) (rs : RoutineTrees) → Every (Among k) (routines_node rs)
      → ((name : ℕ) → IsNeverForward k t name → OfEach (Forwards k name) rs) → OfEach (IsOfText k t) rs
  text_part k t tree.end_of_routines inside part = tt
  text_part k t (tree.more_routines r rest) inside part =
      (text_routine k t r inside.0 (λ name none. (part name none).0), text_part k t rest inside.1 (λ name none. (part name none).1))

  text_routine : (k : Known) (t : BlockTree) (r : RoutineTree) → Every (Among k) (routine_node r)
      → ((name : ℕ) → IsNeverForward k t name → OfRoutine (Forwards k name) r) → OfRoutine (IsOfText k t) r
  text_routine k t (tree.a_routine heading semicolon body last_semicolon) inside part =
      let r = tree.a_routine heading semicolon body last_semicolon in
      let own : IsOfText k t r = record {
        spelled = (heading_name-in {Q = Among k} heading inside.0).is;
        directed = λ no none. (part (name_at k (routine_name r)) none).0 no refl;
      } in
      (own, text_body k t body inside.1.1.0 (λ name none. (part name none).1))

  text_body : (k : Known) (t : BlockTree) (body : BodyTree) → Every (Among k) (body_node body)
      → ((name : ℕ) → IsNeverForward k t name → OfBody (Forwards k name) body) → OfBody (IsOfText k t) body
  text_body k t (tree.a_directive directive) inside part = tt
  text_body k t (tree.a_block_body b) inside part = text_block k t b inside part

-- ---- where a text begins

-- the rows of no token
pub blank : (size n : ℕ) (r : PartRow) → unwrap_or (slice_get (replicate size Row.Nothing) n) Row.Nothing ≡ Row.Part r → ⊥
blank zero n r e = cc
blank (suc size) zero r e = cc
blank (suc size) (suc n) r e = blank size n r e

pub start_sound : (l : Lexed) (b : BlockTree) → Sound (known_at_start l) b (known_at_start l)
start_sound l b = record {
  words = refl;
  own = λ r n d e. absurd (none-some d e);
  forward = λ n function block e. absurd (blank (length l.tokens + length required_names) n (PartRow.Forward function block) e);
  completing = λ n first e. absurd (blank (length l.tokens + length required_names) n (PartRow.Completing first) e);
}
