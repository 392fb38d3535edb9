-- A name is used for what defines it from its token on, or later, wherever the declarations of a text are looked at.
use Rattle.std.proofs.Common.{◌<◌, ◌∷◌, ◌≡◌, ◌≤◌, ◌⊎◌, [], ℕ, List, None, Option, Some, ap, arith, false, inl, inr, length, map, nat_le, refl, subst}
use Rattle.std.proofs.lemmas.Option.{none-some}
use Rattle.pas_lexer.specs.Lexed.{Lexed}
use Rattle.grammar.specs.Nodes.{Node, row}
use Rattle.pas_tree.specs.{Blocks.constant_definition_node, HeadingPlaces.heading_name, HeadingTrees.HeadingTree, StatementPlaces.compound_word}
use Rattle.pas_tree.specs.BlockTrees.{BlockTree, BodyTree, ConstantPartTree, LabelPartTree, ProgramTree, RoutineTree, RoutineTrees, TypeDefinitionTree}
use Rattle.pas_tree.specs.BlockTrees.{TypePartTree, routine_body, routine_heading}
use Rattle.pas_tree.specs.BlockTrees as tree
use Rattle.pas_tree.specs.TreeNodes.{block_node, body_node, constant_part_node, routine_node, routines_node, type_definition_node, type_part_node}
use Rattle.pas_tree.specs.declared.blocks.{ConstantDefinition.ConstantDefinition, NextLabel.NextLabel}
use Rattle.core_program.specs.declared.rows.{NameRow.NameRow, Row.Row}
use Rattle.check_steps.specs.{Regions.defined_in, Steps.◌>>=◌, Steps.look, Words.known_at_start}
use Rattle.check_steps.specs.Known.{Known, and_definition, frame_at, label_at, name_at, row_at}
use Rattle.check_steps.specs.declared.{regions.Def.Def, regions.Definition.Definition, regions.Frame.Frame, words.SpelledToken.SpelledToken}
use Rattle.kind_checker.specs.Constants.{constants_in, define_constant}
use Rattle.denoter_checker.specs.{Formals.is_function, Parts.define_type, Parts.types_in}
use Rattle.denoter_checker.specs.RoutineParts.{block_in, completion_of, routine_name}
use Rattle.decl_checker.specs.{Blocks.define_block, Blocks.define_constants, Blocks.define_types, Labels.define_label, Labels.define_labels}
use Rattle.decl_checker.specs.{Labels.define_next_label, Programs.define_program, Programs.main_row, Programs.program_step, declared.routines.Entered.Entered}
use Rattle.decl_checker.specs.Routines.{add_heading, block, body_in, define_body, define_completion, define_inside, enter_at, enter_heading, first_heading}
use Rattle.decl_checker.specs.Routines.{first_name, heading_row, place_after_result, resumed, routine, routines_in}
use Rattle.rule_laws.proofs.{Breaks.Each, LastsDefines.define_denoter-lasts, LastsFormals.define_formals_at-lasts, LastsHeadings.signature-lasts}
use Rattle.rule_laws.proofs.{LastsParameters.program_parameters-lasts, LastsPrograms.open_program-lasts, LastsRoutineParts.define_routines-lasts}
use Rattle.rule_laws.proofs.{LastsRoutines.after_completion, LastsRoutines.open_routine-lasts, LastsStatements.compound_uses-lasts, TextFields.Any}
use Rattle.rule_laws.proofs.{TextFields.any_each, TextTables.OfOther, TextTables.of_any, TextTokens.IsOrdered}
use Rattle.rule_laws.proofs.Keeping.{Keeps, ask-keeps, bind-keeps, give-keeps, look-keeps, put-keeps}
use Rattle.rule_laws.proofs.Lasting.{Lasting, add_routine-lasts, declare_in-keeps, define_in-by, each-lasts, each_of-lasts}
use Rattle.rule_laws.proofs.LastsBlocks.{define_variables-lasts, parts-lasts, put_body-lasts}
use Rattle.rule_laws.proofs.TextHeadings.{defined_either, label_defined, region_defined}
use Rattle.rule_laws.specs.{ForwardHeadings.routines_in as listed, TextParts.OfBody, TextParts.OfEach, TextParts.OfRoutine, TextParts.OfRoutines}

-- ---- the tables

abbrev Ahead : Known → Definition → Type 0
Ahead k d = (d.token ≤ d.end) ⊎ (length k.words ≤ d.token)

-- No definition may be used before its token, but for the required ones.
pub record Timely (k j : Known) : Type 0 where
  pub words : j.words ≡ k.words
  pub ahead : (r n : ℕ) (d : Definition) → defined_in j.regions r n ≡ Some d → Ahead k d

timely_defined : (k j : Known) (region name : ℕ) (d : Definition) → Ahead k d → Timely k j → Timely k (and_definition j region name d)
timely_defined k j region name d fine s = record {
  words = s.words;
  ahead = λ r n e found. elim (defined_either j region name d r n e found) [
    | inl old ↦ s.ahead r n e old
    | inr new ↦ subst (Ahead k) new.1 fine
  ];
}

at_once : (k : Known) (d : Definition) → d.end ≡ d.token → Ahead k d
at_once k d at = inl (omega (arith, at))

pub timely_lasts : {G : RoutineTree → Type 0} (k : Known) → Lasting G (Timely k)
timely_lasts k = record {
  puts = λ j m r quiet s. record { words = s.words; ahead = s.ahead };
  stays = λ j m s. record { words = s.words; ahead = s.ahead };
  bodies = λ j n r same s. record { words = s.words; ahead = s.ahead };
  routines = λ j r s. record { words = s.words; ahead = s.ahead };
  frames = λ j f s. record { words = s.words; ahead = s.ahead };
  regions = λ j token f s. record { words = s.words; ahead = λ r n d e. s.ahead r n d (region_defined j token f r n d e) };
  defines = λ j region d at s. timely_defined k j region (name_at j d.token) d (at_once k d at) s;
  requires = λ j name d behind s.
      let many = ap (λ (ws : List SpelledToken). length ws) s.words in
      timely_defined k j 0 name d (inr (omega (arith, behind, many))) s;
  chooses = λ j list value s. record { words = s.words; ahead = s.ahead };
  records = λ j word packed region cells variants fresh s. record { words = s.words; ahead = s.ahead };
  waits = λ j r g none s. record { words = s.words; ahead = s.ahead };
  completes = λ j region first position r g e s. record { words = s.words; ahead = s.ahead };
}

-- ---- constants, types and labels

define_constant-timely : (k : Known) (region : ℕ) (u : Unit {0}) (d : ConstantDefinition) → IsOrdered (constant_definition_node d)
    → Keeps (Timely k) (define_constant region u d)
unfolding define_constant
define_constant-timely k region u d o =
    let e : Definition = record { def = Def.Constant d.name; token = d.name; end = d.semicolon } in
    let after : d.name < d.semicolon = o.2 d.name d.semicolon refl (inr (inr refl)) in
    define_in-by region e (λ j s. timely_defined k j region (name_at j d.name) e (inl (omega (arith, after))) s)

define_type-timely : (k : Known) (region : ℕ) (u : Unit {0}) (d : TypeDefinitionTree) → IsOrdered (type_definition_node d)
    → Keeps (Timely k) (define_type region u d)
unfolding define_type
define_type-timely k region u d o =
    let e : Definition = record { def = Def.TypeName d.name; token = d.name; end = d.semicolon } in
    let after : d.name < d.semicolon = o.2 d.name d.semicolon refl (inr (inr refl)) in
    bind-keeps (define_in-by region e (λ j s. timely_defined k j region (name_at j d.name) e (inl (omega (arith, after))) s))
    (λ _. define_denoter-lasts (timely_lasts {G = Any} k) region d.denoter)

ordered_row : {X : Type 0} (node : X → Node) (xs : List X) → IsOrdered (row (map node xs)) → Each (λ x. IsOrdered (node x)) xs
ordered_row node [] o = tt
ordered_row node (x ∷ xs) o = (o.0, ordered_row node xs o.1)

define_constants-timely : (k : Known) (region : ℕ) (p : Option ConstantPartTree) → IsOrdered (constant_part_node p)
    → Keeps (Timely k) (define_constants region p)
define_constants-timely k region None o = give-keeps tt
define_constants-timely k region (Some p) o = each_of-lasts (λ (d : ConstantDefinition). IsOrdered (constant_definition_node d)) (define_constant region)
    (λ a x inside. define_constant-timely k region a x inside) tt (constants_in p) (o.1.0, ordered_row constant_definition_node p.others o.1.1)

define_types-timely : (k : Known) (region : ℕ) (p : Option TypePartTree) → IsOrdered (type_part_node p) → Keeps (Timely k) (define_types region p)
define_types-timely k region None o = give-keeps tt
define_types-timely k region (Some p) o = each_of-lasts (λ (d : TypeDefinitionTree). IsOrdered (type_definition_node d)) (define_type region)
    (λ a x inside. define_type-timely k region a x inside) tt (types_in p) (o.1.0, ordered_row type_definition_node p.others o.1.1)

define_label-timely : (k : Known) (here : Frame) (token : ℕ) → Keeps (Timely k) (define_label here token)
unfolding define_label
define_label-timely k here token = bind-keeps (look-keeps (λ j. label_at j token)) (λ value. bind-keeps (ask-keeps _ token (nat_le value 9999)) (λ _.
    bind-keeps (declare_in-keeps here.region value token (λ j s. record {
      words = s.words;
      ahead = λ r n d e. s.ahead r n d (subst (λ (o : Option Definition). o ≡ Some d) (label_defined j here.region value token r n) e);
    }))
    (λ _. put-keeps token (Row.Name (NameRow.Label false value here.level 0)) (λ j s. record { words = s.words; ahead = s.ahead }))))

define_next_label-timely : (k : Known) (here : Frame) (u : Unit {0}) (l : NextLabel) → Keeps (Timely k) (define_next_label here u l)
unfolding define_next_label
define_next_label-timely k here u l = define_label-timely k here l.number

define_labels-timely : (k : Known) (here : Frame) (p : Option LabelPartTree) → Keeps (Timely k) (define_labels here p)
define_labels-timely k here None = give-keeps tt
define_labels-timely k here (Some p) = bind-keeps (define_label-timely k here p.first)
    (λ _. each-lasts (define_next_label here) (λ a x. define_next_label-timely k here a x) tt p.others)

-- ---- the names of a block

define_block-timely : (k : Known) (frame : ℕ) (b : BlockTree) → IsOrdered (block_node b) → Keeps (Timely k) (define_block frame b)
define_block-timely k frame (tree.a_block labels consts kinds variable_part routines body) o =
    let c : Lasting Any (Timely k) = timely_lasts k in
    bind-keeps (look-keeps (λ j. frame_at j frame)) (λ here. bind-keeps (define_labels-timely k here labels) (λ _.
    bind-keeps (define_constants-timely k here.region consts o.1.0) (λ _. bind-keeps (define_types-timely k here.region kinds o.1.1.0) (λ _.
    bind-keeps (define_variables-lasts c here.region variable_part)
    (λ _. define_routines-lasts c here.region routines (any_each (listed routines)))))))

define_body-timely : (k : Known) (frame : ℕ) (body : BodyTree) → IsOrdered (body_node body) → Keeps (Timely k) (define_body frame body)
define_body-timely k frame (tree.a_directive directive) o = give-keeps tt
define_body-timely k frame (tree.a_block_body b) o = define_block-timely k frame b o

-- what stands after the heading of a procedure or function is in order
abbrev pub Orderly : RoutineTree → Type 0
Orderly r = IsOrdered (body_node (routine_body r))

mutual
  pub orderly_block : (b : BlockTree) → IsOrdered (block_node b) → OfRoutines Orderly b
  orderly_block (tree.a_block labels consts kinds variable_part routines body) o = orderly_part routines o.1.1.1.1.0

  orderly_part : (rs : RoutineTrees) → IsOrdered (routines_node rs) → OfEach Orderly rs
  orderly_part tree.end_of_routines o = tt
  orderly_part (tree.more_routines r rest) o = (orderly_routine r o.0, orderly_part rest o.1)

  orderly_routine : (r : RoutineTree) → IsOrdered (routine_node r) → OfRoutine Orderly r
  orderly_routine (tree.a_routine heading semicolon body last_semicolon) o = (o.1.1.0, orderly_body body o.1.1.0)

  orderly_body : (body : BodyTree) → IsOrdered (body_node body) → OfBody Orderly body
  orderly_body (tree.a_directive directive) o = tt
  orderly_body (tree.a_block_body b) o = orderly_block b o

-- ---- headings

define_completion-timely : (k : Known) (frame : ℕ) (o : Option RoutineTree) → OfOther Orderly o → Keeps (Timely k) (define_completion frame o)
define_completion-timely k frame None all = give-keeps tt
define_completion-timely k frame (Some r) all = define_body-timely k frame (routine_body r) all

define_inside-timely : (k : Known) (frame : ℕ) (h : HeadingTree) (body : BodyTree) (o : Option RoutineTree) → IsOrdered (body_node body)
    → OfOther Orderly o → Keeps (Timely k) (define_inside frame h body o)
unfolding define_inside
define_inside-timely k frame h body o own other = bind-keeps (define_formals_at-lasts (timely_lasts {G = Any} k) frame h) (λ _.
    bind-keeps (define_body-timely k frame body own) (λ _. define_completion-timely k frame o other))

add_heading-timely : (k : Known) (frame : ℕ) (h : HeadingTree) (end : ℕ) → Keeps (Timely k) (add_heading frame h end)
unfolding add_heading
add_heading-timely k frame h end = bind-keeps (look-keeps (λ j. frame_at j frame)) (λ here.
    bind-keeps (add_routine-lasts (timely_lasts {G = Any} k) (heading_row h here.level end)) (λ number.
    bind-keeps (put-keeps (heading_name h) (Row.Name (NameRow.Routine false number here.region)) (λ j s. record { words = s.words; ahead = s.ahead }))
    (λ _. give-keeps number)))

after_completion-timely : (k : Known) (frame : ℕ) (r : RoutineTree) (o : Option RoutineTree) → Orderly r → OfOther Orderly o
    → Keeps (Timely k) (after_completion frame r o)
after_completion-timely k frame r o own other =
    let c : Lasting Any (Timely k) = timely_lasts k in
    bind-keeps (open_routine-lasts c frame (routine_name r)) (λ inner.
    bind-keeps (define_inside-timely k inner (routine_heading r) (routine_body r) o own other) (λ _.
    bind-keeps (signature-lasts c frame inner (routine_heading r)) (λ end. bind-keeps (add_heading-timely k inner (routine_heading r) end) (λ number.
    give-keeps (record { number = number; frame = inner; place = place_after_result (is_function (routine_heading r)) end })))))

first_heading-timely : (k : Known) (frame : ℕ) (rs : RoutineTrees) (r : RoutineTree) → OfEach Orderly rs → Orderly r
    → Keeps (Timely k) (first_heading frame rs r)
unfolding first_heading look ◌>>=◌
first_heading-timely k frame rs r all own = record {
  of = λ j s. (after_completion-timely k frame r (completion_of j rs r) own (of_any Orderly rs (block_in (row_at j (routine_name r))) all)).of j s;
}

enter_at-timely : (k : Known) (o : Option ℕ) (frame : ℕ) (rs : RoutineTrees) (r : RoutineTree) → OfEach Orderly rs → Orderly r
    → Keeps (Timely k) (enter_at o frame rs r)
enter_at-timely k None frame rs r all own = first_heading-timely k frame rs r all own
enter_at-timely k (Some first) frame rs r all own = look-keeps (λ j. resumed j first)

enter_heading-timely : (k : Known) (frame : ℕ) (rs : RoutineTrees) (r : RoutineTree) → OfEach Orderly rs → Orderly r
    → Keeps (Timely k) (enter_heading frame rs r)
unfolding enter_heading
enter_heading-timely k frame rs r all own = bind-keeps (look-keeps (λ j. first_name (row_at j (routine_name r)))) (λ first.
    enter_at-timely k first frame rs r all own)

-- ---- blocks

mutual
  block-timely : (k : Known) (frame number place : ℕ) (b : BlockTree) → OfRoutines Orderly b → Keeps (Timely k) (block frame number place b)
  block-timely k frame number place (tree.a_block labels constants types variables routines body) all =
      let c : Lasting Any (Timely k) = timely_lasts k in
      bind-keeps (parts-lasts c frame place (tree.a_block labels constants types variables routines body)) (λ end.
      bind-keeps (put_body-lasts c number end (compound_word body)) (λ _.
      bind-keeps (part-timely k frame routines routines all all) (λ _. compound_uses-lasts c frame body)))

  part-timely : (k : Known) (frame : ℕ) (rs part : RoutineTrees) → OfEach Orderly rs → OfEach Orderly part → Keeps (Timely k) (routines_in frame rs part)
  part-timely k frame rs tree.end_of_routines all h = give-keeps tt
  part-timely k frame rs (tree.more_routines r rest) all h =
      bind-keeps (routine-timely k frame rs r all h.0) (λ _. part-timely k frame rs rest all h.1)

  routine-timely : (k : Known) (frame : ℕ) (rs : RoutineTrees) (r : RoutineTree) → OfEach Orderly rs → OfRoutine Orderly r
      → Keeps (Timely k) (routine frame rs r)
  routine-timely k frame rs (tree.a_routine heading semicolon body last_semicolon) all h =
      bind-keeps (enter_heading-timely k frame rs (tree.a_routine heading semicolon body last_semicolon) all h.0) (λ e. body-timely k e body h.1)

  body-timely : (k : Known) (e : Entered) (body : BodyTree) → OfBody Orderly body → Keeps (Timely k) (body_in e body)
  body-timely k e (tree.a_directive directive) h = give-keeps tt
  body-timely k e (tree.a_block_body b) h = block-timely k e.frame e.number e.place b h

-- ---- a program

define_program-timely : (k : Known) (frame : ℕ) (t : ProgramTree) → IsOrdered (block_node t.block) → Keeps (Timely k) (define_program frame t)
unfolding define_program
define_program-timely k frame t o = bind-keeps (look-keeps (λ j. (frame_at j frame).region)) (λ region.
    bind-keeps (program_parameters-lasts (timely_lasts {G = Any} k) region t.parameters) (λ _. define_block-timely k frame t.block o))

pub program_timely : (k : Known) (t : ProgramTree) → IsOrdered (block_node t.block) → Keeps (Timely k) (program_step t)
unfolding program_step
program_timely k t o =
    let c : Lasting Any (Timely k) = timely_lasts k in
    bind-keeps (open_program-lasts c) (λ frame. bind-keeps (define_program-timely k frame t o) (λ _. bind-keeps (add_routine-lasts c (main_row t.name))
    (λ number. bind-keeps (block-timely k frame number 1 t.block (orderly_block t.block o)) (λ _. give-keeps frame))))

pub start_timely : (l : Lexed) → Timely (known_at_start l) (known_at_start l)
start_timely l = record { words = refl; ahead = λ r n d e. absurd (none-some d e) }
