-- Which names of a region break rule 2.
use Rattle.std.proofs.Common.{if◌then◌else◌, ◌++◌, ◌<◌, ◌↔◌, ◌∙◌, ◌∷◌, ◌≡◌, [], ℕ, All, Bool, Contains, List, None, Option, Some, ap, arith, false, inl, inr}
use Rattle.std.proofs.Common.{is_none, is_some, length, length-set, map, nat_eq, nat_le, refl, subst, sym, true}
use Rattle.std.{proofs.lemmas.List.Elements.All-head, proofs.lemmas.List.Elements.All-tail, specs.Map.lookup}
use Rattle.pas_tree.specs.{BlockTrees.VariableDeclarationTree, BlockTrees.VariablePartTree, ConstantTrees.NamesTree, DenoterTrees.StructureTree}
use Rattle.pas_tree.specs.{DenoterTrees.VariantsTree, HeadingPlaces.heading_name, SchemaTrees.FormalTypeTree, SchemaTrees.SchemaTree}
use Rattle.pas_tree.specs.BlockTrees.{ConstantPartTree, LabelPartTree, ParametersTree, RoutineTree, RoutineTrees, TypeDefinitionTree, TypePartTree}
use Rattle.pas_tree.specs.BlockTrees as blocks
use Rattle.pas_tree.specs.DenoterTrees.{ArmTree, ArmTrees, ArrayTree, DenoterTree, DenoterTrees, FieldsTree, FixedTree, PartTree, SectionTree, SectionTrees}
use Rattle.pas_tree.specs.DenoterTrees as denoters
use Rattle.pas_tree.specs.HeadingTrees.{FormalNamesTree, FormalTree, FormalTrees, FormalsTree, HeldFormals}
use Rattle.pas_tree.specs.HeadingTrees as headings
use Rattle.pas_tree.specs.SchemaTrees as schemas
use Rattle.pas_tree.specs.declared.{constants.NextName.NextName, denoters.TagField.TagField, schemas.NextSpec.NextSpec, schemas.Spec.Spec}
use Rattle.pas_tree.specs.declared.blocks.{ConstantDefinition.ConstantDefinition, NextLabel.NextLabel}
use Rattle.core_program.specs.declared.rows.{NameRow.NameRow, Row.Row, TextFile.TextFile}
use Rattle.check_steps.specs.{Breaks.number, Known.Known, Known.and_label, Known.frame_at, Known.label_at, Names.declare_in}
use Rattle.check_steps.specs.Regions.{RegionRows, declared_in, defined_in, region_at}
use Rattle.check_steps.specs.Steps.{◌>>=◌, Step, add_label, ask, change, each, early, give, look, put, when}
use Rattle.check_steps.specs.declared.{breaks.Break.Break, regions.Def.Def, regions.Frame.Frame, words.SpelledToken.SpelledToken}
use Rattle.kind_checker.specs.{Constants.constants_in, Constants.define_constant, declared.names.NameKind.NameKind}
use Rattle.kind_checker.specs.Names.{define_name, defined_as, each_name, on_name}
use Rattle.denoter_checker.specs.{Formals.formals_of, Parts.define_type, Parts.define_variable, Parts.types_in, Parts.variables_in, RoutineParts.define_routine}
use Rattle.denoter_checker.specs.{RoutineParts.define_routines, RoutineParts.routine_name, declared.defines.Wanted.Wanted}
use Rattle.denoter_checker.specs.Defines.{by, define_arm, define_arms, define_array, define_denoter, define_field, define_fixed, define_in_fields}
use Rattle.denoter_checker.specs.Defines.{define_others, define_part, define_record, define_section, define_sections, define_structure, define_variants}
use Rattle.denoter_checker.specs.Formals.{define_each_formal, define_formal, define_formal_names, define_formals_at, define_held, define_more_formals}
use Rattle.denoter_checker.specs.Schemas.{define_bounds, define_next_spec, define_schema, define_spec}
use Rattle.decl_checker.specs.Blocks.{define_block, define_constants, define_types, define_variables}
use Rattle.decl_checker.specs.Labels.{define_label, define_labels, define_next_label}
use Rattle.decl_checker.specs.Parameters.{define_file, program_parameter, program_parameters, text_file_named}
use Rattle.rule_laws.proofs.{InTurn.tells_then, InTurn.wrong_one, PartLaw.all_no_two, PartLaw.apart_of, PartLaw.only_eight, PartLaw.turns_only}
use Rattle.rule_laws.proofs.{PartSteps.has_each, PartSteps.part_listed, PartSteps.part_steps, Tables.region-set, Telling.Misses}
use Rattle.rule_laws.proofs.Breaks.{In, contained, found, in_either, of_each}
use Rattle.rule_laws.proofs.InTurn.{Calm, Ends, Goes, Wrong, calm_calm, calm_then, goes_calm, goes_nowhere, goes_then, one_wrong, tells_calm, tells_last}
use Rattle.rule_laws.proofs.NameTurns.{Region, Turn, define_goes, or_none, rule_two}
use Rattle.rule_laws.specs.{ForwardHeadings.routines_in, Laws.broken_at}
use Rattle.rule_laws.specs.NameLaws.{BlocksTellNames, HeadingsTellFormals, ProgramsTellParameters, RecordsTellFields}
use Rattle.rule_laws.specs.RegionNames.{arm_names, arms_names, array_names, block_names, bound_names, constant_names, constants_of, denoter_names, field_names}
use Rattle.rule_laws.specs.RegionNames.{file_name, file_names, fixed_names, formal_names, formals_names, heading_names, held_names, index_names, is_defined}
use Rattle.rule_laws.specs.RegionNames.{label_token, labels_of, list_names, listed_names, more_spec_names, names_and_bounds, next_token, other_formal_names}
use Rattle.rule_laws.specs.RegionNames.{parameter_names, schema_names, section_names, sections_names, spec_names, structure_names, tag_names, type_names}
use Rattle.rule_laws.specs.RegionNames.{types_of, variable_names, variables_of, variant_names, wanted}

-- ---- lists of names

name_goes : (p : Region) (kind : NameKind) (u : Unit {0}) (x : ℕ) → Goes (rule_two p) (x ∷ []) (define_name p.region kind u x)
unfolding define_name
name_goes p kind u x = define_goes p (record { def = defined_as kind x; token = x; end = x })

others_go : (p : Region) (kind : NameKind) (u : Unit {0}) (ns : List NextName)
    → Goes (rule_two p) (map next_token ns) (each (on_name (define_name p.region kind)) u ns)
unfolding on_name
others_go p kind u [] = goes_nowhere u
others_go p kind u (n ∷ ns) = goes_then (n.name ∷ []) (map next_token ns) (name_goes p kind u n.name) (λ v. others_go p kind v ns)

names_go : (p : Region) (kind : NameKind) (n : NamesTree) → Goes (rule_two p) (listed_names n) (each_name (define_name p.region kind) tt n)
names_go p kind n = goes_then (n.first ∷ []) (map next_token n.others) (name_goes p kind tt n.first) (λ u. others_go p kind u n.others)

-- ---- denoters

by_goes : (p : Region) (w : Wanted) (xs ys : List ℕ) (a b : Step (Unit {0})) → Goes (rule_two p) xs a → Goes (rule_two p) ys b
    → Goes (rule_two p) (wanted w xs ys) (by w a b)
by_goes p Wanted.Fields xs ys a b h g = h
by_goes p Wanted.Constants xs ys a b h g = g

field_goes : (p : Region) (f : Option TagField) → Goes (rule_two p) (tag_names f) (define_field p.region f)
field_goes p None = goes_nowhere tt
field_goes p (Some f) = name_goes p NameKind.Field tt f.name

mutual
  denoter_goes : (p : Region) (d : DenoterTree) → Goes (rule_two p) (denoter_names d) (define_denoter p.region d)
  denoter_goes p (denoters.a_type_name token) = goes_nowhere tt
  denoter_goes p (denoters.an_enumeration e) = names_go p NameKind.Constant e.names
  denoter_goes p (denoters.a_subrange first dots last) = goes_nowhere tt
  denoter_goes p (denoters.a_pointer caret name) = goes_nowhere tt
  denoter_goes p (denoters.a_structure packed s) = structure_goes p s

  structure_goes : (p : Region) (s : StructureTree) → Goes (rule_two p) (structure_names s) (define_structure p.region s)
  structure_goes p (denoters.an_array a) = array_goes p a
  structure_goes p (denoters.a_record word fields end) = fields_go p Wanted.Constants fields
  structure_goes p (denoters.a_set_type word of base) = denoter_goes p base

  array_goes : (p : Region) (a : ArrayTree) → Goes (rule_two p) (array_names a) (define_array p.region a)
  array_goes p (denoters.index_types word open' first others close of component) =
      goes_then (denoter_names first) (index_names others ++ denoter_names component) (denoter_goes p first) (λ _.
      goes_then (index_names others) (denoter_names component) (indexes_go p others) (λ _. denoter_goes p component))

  indexes_go : (p : Region) (r : DenoterTrees) → Goes (rule_two p) (index_names r) (define_others p.region r)
  indexes_go p denoters.end_of_denoters = goes_nowhere tt
  indexes_go p (denoters.more_denoters comma d rest) = goes_then (denoter_names d) (index_names rest) (denoter_goes p d) (λ _. indexes_go p rest)

  pub fields_go : (p : Region) (w : Wanted) (f : FieldsTree) → Goes (rule_two p) (field_names w f) (define_in_fields w p.region f)
  fields_go p w denoters.without_fields = goes_nowhere tt
  fields_go p w (denoters.fixed_fields fixed variants last) =
      goes_then (fixed_names w fixed) (held_names w variants) (fixed_goes p w fixed) (λ _. held_goes p w variants)
  fields_go p w (denoters.variant_fields variants last) = variants_go p w variants

  fixed_goes : (p : Region) (w : Wanted) (f : FixedTree) → Goes (rule_two p) (fixed_names w f) (define_fixed w p.region f)
  fixed_goes p w (denoters.fixed_part first others) =
      goes_then (section_names w first) (sections_names w others) (section_goes p w first) (λ _. sections_go p w others)

  section_goes : (p : Region) (w : Wanted) (s : SectionTree) → Goes (rule_two p) (section_names w s) (define_section w p.region s)
  section_goes p w (denoters.a_section names colon d) =
      by_goes p w (listed_names names) (denoter_names d) (each_name (define_name p.region NameKind.Field) tt names) (define_denoter p.region d)
      (names_go p NameKind.Field names) (denoter_goes p d)

  sections_go : (p : Region) (w : Wanted) (r : SectionTrees) → Goes (rule_two p) (sections_names w r) (define_sections w p.region r)
  sections_go p w denoters.end_of_sections = goes_nowhere tt
  sections_go p w (denoters.more_sections semicolon s rest) =
      goes_then (section_names w s) (sections_names w rest) (section_goes p w s) (λ _. sections_go p w rest)

  held_goes : (p : Region) (w : Wanted) (h : PartTree) → Goes (rule_two p) (held_names w h) (define_part w p.region h)
  held_goes p w denoters.without_part = goes_nowhere tt
  held_goes p w (denoters.a_part semicolon variants) = variants_go p w variants

  variants_go : (p : Region) (w : Wanted) (v : VariantsTree) → Goes (rule_two p) (variant_names w v) (define_variants w p.region v)
  variants_go p w (denoters.arms word tag of_word first others) =
      goes_then (wanted w (tag_names tag.field) []) (arm_names w first ++ arms_names w others)
      (by_goes p w (tag_names tag.field) [] (define_field p.region tag.field) (give tt) (field_goes p tag.field) (goes_nowhere tt)) (λ _.
      goes_then (arm_names w first) (arms_names w others) (arm_goes p w first) (λ _. arms_go p w others))

  arm_goes : (p : Region) (w : Wanted) (a : ArmTree) → Goes (rule_two p) (arm_names w a) (define_arm w p.region a)
  arm_goes p w (denoters.an_arm constants colon left fields right) = fields_go p w fields

  arms_go : (p : Region) (w : Wanted) (r : ArmTrees) → Goes (rule_two p) (arms_names w r) (define_arms w p.region r)
  arms_go p w denoters.end_of_arms = goes_nowhere tt
  arms_go p w (denoters.more_arms semicolon a rest) = goes_then (arm_names w a) (arms_names w rest) (arm_goes p w a) (λ _. arms_go p w rest)

-- ---- the parts of a block

constants_go : (p : Region) (ds : List ConstantDefinition) → Goes (rule_two p) (constant_names ds) (each (define_constant p.region) tt ds)
unfolding define_constant
constants_go p [] = goes_nowhere tt
constants_go p (d ∷ ds) = goes_then (d.name ∷ []) (constant_names ds)
    (define_goes p (record { def = Def.Constant d.name; token = d.name; end = d.semicolon })) (λ _. constants_go p ds)

pub constant_part_goes : (p : Region) (c : Option ConstantPartTree) → Goes (rule_two p) (constants_of c) (define_constants p.region c)
constant_part_goes p None = goes_nowhere tt
constant_part_goes p (Some c) = constants_go p (constants_in c)

types_go : (p : Region) (ds : List TypeDefinitionTree) → Goes (rule_two p) (type_names ds) (each (define_type p.region) tt ds)
unfolding define_type
types_go p [] = goes_nowhere tt
types_go p (d ∷ ds) = goes_then (d.name ∷ denoter_names d.denoter) (type_names ds)
    (goes_then (d.name ∷ []) (denoter_names d.denoter) (define_goes p (record { def = Def.TypeName d.name; token = d.name; end = d.semicolon }))
    (λ _. denoter_goes p d.denoter)) (λ _. types_go p ds)

pub type_part_goes : (p : Region) (c : Option TypePartTree) → Goes (rule_two p) (types_of c) (define_types p.region c)
type_part_goes p None = goes_nowhere tt
type_part_goes p (Some c) = types_go p (types_in c)

variables_go : (p : Region) (ds : List VariableDeclarationTree) → Goes (rule_two p) (variable_names ds) (each (define_variable p.region) tt ds)
unfolding define_variable
variables_go p [] = goes_nowhere tt
variables_go p (d ∷ ds) = goes_then (listed_names d.names ++ denoter_names d.denoter) (variable_names ds)
    (goes_then (listed_names d.names) (denoter_names d.denoter) (names_go p NameKind.Variable d.names) (λ _. denoter_goes p d.denoter))
    (λ _. variables_go p ds)

pub variable_part_goes : (p : Region) (c : Option VariablePartTree) → Goes (rule_two p) (variables_of c) (define_variables p.region c)
variable_part_goes p None = goes_nowhere tt
variable_part_goes p (Some c) = variables_go p (variables_in c)

-- ---- labels, which are no names

ask_calm : (p : Region) (rule token : ℕ) (ok : Bool) → (token ≡ p.t → ⊥) → Calm (rule_two p) (early rule token ok)
unfolding ask
ask_calm p rule token true apart = record { turn = λ done j t. t; none = λ j i. absurd i }
ask_calm p rule token false apart = record {
  turn = λ done j t. t;
  none = λ j i. elim i [
    | inl e ↦ apart (ap (λ (b : Break). b.token) e)
    | inr n ↦ absurd n
  ];
}

pub look_calm : (p : Region) {A : Type 0} (f : Known → A) → Calm (rule_two p) (look f)
unfolding look
look_calm p f = record { turn = λ done j t. t; none = λ j i. absurd i }

pub give_calm : (p : Region) {A : Type 0} (a : A) → Calm (rule_two p) (give a)
unfolding give
give_calm p a = record { turn = λ done j t. t; none = λ j i. absurd i }

pub row_calm : (p : Region) (n : ℕ) (r : Row) → Calm (rule_two p) (put n r)
unfolding change
row_calm p n r = record {
  turn = λ done j t. record { words = t.words; spellings = t.spellings; there = t.there; names = t.names; tokens = t.tokens };
  none = λ j i. absurd i;
}

-- one more label leaves the names
pub label_turn : (p : Region) (done : List ℕ) (j : Known) (value token : ℕ) → Turn p done j → Turn p done (and_label j p.region value token)
label_turn p done j value token t =
    let rows = region_at j.regions p.region in
    let more = record rows { labels = rows.labels ++ (value, token) ∷ [] } in
    record {
      words = t.words;
      spellings = t.spellings;
      there = subst (λ size. p.region < size) (sym (length-set j.regions p.region more)) t.there;
      names = λ n. ap (λ (r : RegionRows). is_some (lookup (nat_eq n) r.names)) (region-set j.regions p.region more t.there) ∙ t.names n;
      tokens = λ n d found. t.tokens n d (sym (ap (λ (r : RegionRows). lookup (nat_eq n) r.names) (region-set j.regions p.region more t.there)) ∙ found);
    }

more_calm : (p : Region) (ok : Bool) (value token : ℕ) → Calm (rule_two p) (when ok (add_label p.region value token))
unfolding when change give
more_calm p true value token = record { turn = λ done j t. label_turn p done j value token t; none = λ j i. absurd i }
more_calm p false value token = record { turn = λ done j t. t; none = λ j i. absurd i }

label_calm : (p : Region) (here : Frame) → here.region ≡ p.region → (token : ℕ) → (token ≡ p.t → ⊥) → Calm (rule_two p) (define_label here token)
unfolding define_label declare_in
label_calm p here e token apart = subst (λ r. Calm (rule_two p)
    (look (λ k. label_at k token) >>= λ value. early 14 token (nat_le value 9999) >>= λ _.
    (look (λ k. declared_in k.regions r value) >>= λ held. early 2 token (is_none held) >>= λ _. when (is_none held) (add_label r value token)) >>= λ _.
    put token (Row.Name (NameRow.Label false value here.level 0)))) (sym e)
    (calm_calm (look_calm p _) (λ value. calm_calm (ask_calm p 14 token _ apart) (λ _.
    calm_calm (calm_calm (look_calm p _) (λ held. calm_calm (ask_calm p 2 token _ apart) (λ _. more_calm p (is_none held) value token))) (λ _.
    row_calm p token _))))

next_labels_calm : (p : Region) (here : Frame) → here.region ≡ p.region → (ns : List NextLabel) → All (λ y. y ≡ p.t → ⊥) (map label_token ns)
    → Calm (rule_two p) (each (define_next_label here) tt ns)
unfolding define_next_label
next_labels_calm p here e [] others = give_calm p tt
next_labels_calm p here e (n ∷ ns) others = let P : ℕ → Type 0 = λ z. z ≡ p.t → ⊥ in
    calm_calm (label_calm p here e n.number (All-head P n.number (map label_token ns) others))
    (λ _. next_labels_calm p here e ns (All-tail P n.number (map label_token ns) others))

labels_calm : (p : Region) (here : Frame) → here.region ≡ p.region → (c : Option LabelPartTree) → All (λ y. y ≡ p.t → ⊥) (labels_of c)
    → Calm (rule_two p) (define_labels here c)
labels_calm p here e None others = give_calm p tt
labels_calm p here e (Some c) others = let P : ℕ → Type 0 = λ z. z ≡ p.t → ⊥ in
    calm_calm (label_calm p here e c.first (All-head P c.first (map label_token c.others) others))
    (λ _. next_labels_calm p here e c.others (All-tail P c.first (map label_token c.others) others))

-- ---- procedures and functions at other tokens

listed_calm : (p : Region) (rs : List RoutineTree) (j : Known) → All (λ r. routine_name r ≡ p.t → ⊥) rs
    → In (broken_at 2 p.t) (part_steps p.region rs j).broken → ⊥
unfolding ◌>>=◌
listed_calm p rs j others i =
    let d = each (define_routine p.region) 0 rs j in
    let b = broken_at 2 p.t in
    elim (in_either b d.broken (each has_each tt rs d.known).broken i) [
      | inl l ↦ of_each (Misses 2 p.t) b d.broken (turns_only (Misses 2 p.t) p.region rs 0 j (all_no_two p.t rs (apart_of p.t rs others))) l refl
      | inr r ↦ of_each (Misses 2 p.t) b (each has_each tt rs d.known).broken (only_eight p.t rs d.known) r refl
    ]

routines_calm : (p : Region) (rs : RoutineTrees) (j : Known) → All (λ r. routine_name r ≡ p.t → ⊥) (routines_in rs)
    → In (broken_at 2 p.t) (define_routines p.region rs j).broken → ⊥
routines_calm p rs j others i = listed_calm p (routines_in rs) j others
    (subst (λ (m : Step (Unit {0})). In (broken_at 2 p.t) (m j).broken) (part_listed p.region rs) i)

-- ---- the laws

pub begun : (k : Known) (region t : ℕ) → region < length k.regions → Turn (record { k = k; region = region; t = t }) [] k
begun k region t below = record {
  words = refl;
  spellings = refl;
  there = below;
  names = λ n. sym (or_none (is_some (defined_in k.regions region n)));
  tokens = λ n d found. inl found;
}

told : (p : Region) (before : List ℕ) (x : ℕ) (after : List ℕ) (xs : List ℕ) (bs : List Break) → x ≡ p.t → xs ≡ before ++ x ∷ after
    → All (λ y. y ≡ p.t → ⊥) before → All (λ y. y ≡ p.t → ⊥) after
    → (In (broken_at 2 p.t) bs → Wrong (rule_two p) [] xs) → (Wrong (rule_two p) [] xs → In (broken_at 2 p.t) bs)
    → Contains bs (broken_at 2 p.t) ↔ (is_defined p.k p.region before x ≡ true)
told p before x after xs bs e same b a forth back = (
  λ c. wrong_one (rule_two p) [] before x after b a
      (subst (λ (l : List ℕ). Wrong (rule_two p) [] l) same (forth (found (broken_at 2 p.t) bs c))),
  λ w. contained (broken_at 2 p.t) bs (back (subst (λ (l : List ℕ). Wrong (rule_two p) [] l) (sym same)
      (one_wrong (rule_two p) [] before x after e w))),
)

-- the parts that define names, and then the procedures and functions
block_told : (p : Region) (here : Frame) → here.region ≡ p.region → (labels : Option LabelPartTree) (constants : Option ConstantPartTree)
    (types : Option TypePartTree) (variables : Option VariablePartTree) (routines : RoutineTrees) → Turn p [] p.k
    → All (λ y. y ≡ p.t → ⊥) (labels_of labels) → All (λ r. routine_name r ≡ p.t → ⊥) (routines_in routines)
    → let s = define_labels here labels >>= λ _. define_constants p.region constants >>= λ _.
    define_types p.region types >>= λ _. define_variables p.region variables >>= λ _. define_routines p.region routines in
    let names = constants_of constants ++ (types_of types ++ variables_of variables) in
    (In (broken_at 2 p.t) (s p.k).broken → Wrong (rule_two p) [] names) × (Wrong (rule_two p) [] names → In (broken_at 2 p.t) (s p.k).broken)
block_told p here e labels constants types variables routines turn no_label no_routine =
    let names = constants_of constants ++ (types_of types ++ variables_of variables) in
    let t = tells_calm names (labels_calm p here e labels no_label) (λ _.
    tells_then (constants_of constants) (types_of types ++ variables_of variables) (constant_part_goes p constants) (λ _.
    tells_then (types_of types) (variables_of variables) (type_part_goes p types) (λ _.
    tells_last (variables_of variables) (variable_part_goes p variables) (λ _.
    record { none = λ j. routines_calm p routines j no_routine })))) in
    t.of [] p.k turn

pub name_law : BlocksTellNames
unfolding look ◌>>=◌
name_law k frame (blocks.a_block labels constants types variables routines body) before name after below same one other =
    let region = (frame_at k frame).region in
    let p : Region = record { k = k; region = region; t = name } in
    let b = blocks.a_block labels constants types variables routines body in
    let both = block_told p (frame_at k frame) refl labels constants types variables routines (begun k region name below) other.labels other.routines in
    told p before name after (block_names b) (define_block frame b k).broken refl same one.others_before one.others_after both.0 both.1

pub field_law : RecordsTellFields
unfolding define_record look ◌>>=◌
field_law k frame fields before name after below same one =
    let region = (frame_at k frame).region in
    let p : Region = record { k = k; region = region; t = name } in
    let ends = (fields_go p Wanted.Fields fields).of [] k (begun k region name below) in
    told p before name after (field_names Wanted.Fields fields) (define_record frame fields k).broken refl same one.others_before one.others_after
    ends.forth ends.back

-- ---- formal parameters

spec_goes : (p : Region) (s : Spec) → Goes (rule_two p) (spec_names s) (define_spec p.region s)
unfolding define_spec
spec_goes p s = goes_then (s.least ∷ []) (s.greatest ∷ []) (name_goes p NameKind.Formal tt s.least) (λ _. name_goes p NameKind.Formal tt s.greatest)

specs_go : (p : Region) (ns : List NextSpec) → Goes (rule_two p) (more_spec_names ns) (each (define_next_spec p.region) tt ns)
unfolding define_next_spec
specs_go p [] = goes_nowhere tt
specs_go p (n ∷ ns) = goes_then (spec_names n.spec) (more_spec_names ns) (spec_goes p n.spec) (λ _. specs_go p ns)

mutual
  bounds_go : (p : Region) (t : FormalTypeTree) → Goes (rule_two p) (bound_names t) (define_bounds p.region t)
  bounds_go p (schemas.a_formal_name n) = goes_nowhere tt
  bounds_go p (schemas.a_schema s) = schema_goes p s

  schema_goes : (p : Region) (s : SchemaTree) → Goes (rule_two p) (schema_names s) (define_schema p.region s)
  schema_goes p (schemas.a_packed_schema s) = spec_goes p s.spec
  schema_goes p (schemas.an_unpacked_schema word left specs right of_word component) =
      goes_then (spec_names specs.first) (more_spec_names specs.others ++ bound_names component) (spec_goes p specs.first) (λ _.
      goes_then (more_spec_names specs.others) (bound_names component) (specs_go p specs.others) (λ _. bounds_go p component))

group_goes : (p : Region) (f : FormalNamesTree) → Goes (rule_two p) (names_and_bounds f) (define_formal_names p.region f)
unfolding define_formal_names
group_goes p f = goes_then (listed_names f.names) (bound_names f.of_type) (names_go p NameKind.Formal f.names) (λ _. bounds_go p f.of_type)

formal_goes : (p : Region) (f : FormalTree) → Goes (rule_two p) (formal_names f) (define_formal p.region f)
formal_goes p (headings.value_formals f) = group_goes p f
formal_goes p (headings.variable_formals word f) = group_goes p f
formal_goes p (headings.a_routine_formal h) = name_goes p NameKind.Formal tt (heading_name h)

formals_go : (p : Region) (fs : FormalTrees) → Goes (rule_two p) (other_formal_names fs) (define_more_formals p.region fs)
formals_go p headings.end_of_formals = goes_nowhere tt
formals_go p (headings.more_formals semicolon f rest) =
    goes_then (formal_names f) (other_formal_names rest) (formal_goes p f) (λ _. formals_go p rest)

list_goes : (p : Region) (f : FormalsTree) → Goes (rule_two p) (list_names f) (define_each_formal p.region f)
list_goes p (headings.formal_list left first others right) =
    goes_then (formal_names first) (other_formal_names others) (formal_goes p first) (λ _. formals_go p others)

pub held_formals_go : (p : Region) (f : HeldFormals) → Goes (rule_two p) (formals_names f) (define_held p.region f)
held_formals_go p headings.without_formals = goes_nowhere tt
held_formals_go p (headings.some_formals f) = list_goes p f

pub formal_law : HeadingsTellFormals
unfolding define_formals_at look ◌>>=◌
formal_law k frame h before name after below same one =
    let region = (frame_at k frame).region in
    let p : Region = record { k = k; region = region; t = name } in
    let ends = (held_formals_go p (formals_of h)).of [] k (begun k region name below) in
    told p before name after (heading_names h) (define_formals_at frame h k).broken refl same one.others_before one.others_after ends.forth ends.back

-- ---- program parameters

-- those at other tokens are told of rule 34
other_rule_calm : (p : Region) (token : ℕ) (ok : Bool) → Calm (rule_two p) (early 34 token ok)
unfolding ask
other_rule_calm p token true = record { turn = λ done j t. t; none = λ j i. absurd i }
other_rule_calm p token false = record {
  turn = λ done j t. t;
  none = λ j i. elim i [
    | inl e ↦ (let other : 34 ≡ 2 = ap (λ (b : Break). number b.broken) e in omega (arith, other))
    | inr n ↦ absurd n
  ];
}

file_goes : (p : Region) (token : ℕ) (o : Option TextFile) → Goes (rule_two p) (if is_some o then token ∷ [] else []) (define_file p.region token o)
file_goes p token None = goes_nowhere tt
file_goes p token (Some file) =
    goes_calm (token ∷ []) (define_goes p (record { def = Def.TextFile token; token = token; end = token }))
    (λ _. row_calm p token (Row.Name (NameRow.TextFile file)))

file_same : (k j : Known) (token : ℕ) → j.words ≡ k.words → j.names ≡ k.names → text_file_named j token ≡ text_file_named k token
file_same k j token words names =
    ap (λ (ws : List SpelledToken). text_file_named (record j { words = ws }) token) words
    ∙ ap (λ (ns : List (List ℕ)). text_file_named (record k { names = ns }) token) names

parameter_goes : (p : Region) (u : Unit {0}) (token : ℕ) → Goes (rule_two p) (file_name p.k token) (program_parameter p.region u token)
unfolding program_parameter look ◌>>=◌
parameter_goes p u token = record {
  of = λ done j t.
      let s : Option TextFile → Step (Unit {0}) = λ o. early 34 token (is_some o) >>= λ _. define_file p.region token o in
      let o = text_file_named p.k token in
      let own : Goes (rule_two p) (file_name p.k token) (s o) =
      calm_then (file_name p.k token) (other_rule_calm p token (is_some o)) (λ _. file_goes p token o) in
      subst (λ (f : Option TextFile). Ends (rule_two p) done (file_name p.k token) (s f j).known (s f j).broken)
      (sym (file_same p.k j token t.words t.spellings)) (own.of done j t);
}

other_parameters_go : (p : Region) (u : Unit {0}) (ns : List NextName)
    → Goes (rule_two p) (file_names p.k (map next_token ns)) (each (on_name (program_parameter p.region)) u ns)
unfolding on_name
other_parameters_go p u [] = goes_nowhere u
other_parameters_go p u (n ∷ ns) =
    goes_then (file_name p.k n.name) (file_names p.k (map next_token ns)) (parameter_goes p u n.name) (λ v. other_parameters_go p v ns)

pub parameters_go : (p : Region) (x : Option ParametersTree) → Goes (rule_two p) (parameter_names p.k x) (program_parameters p.region x)
parameters_go p None = goes_nowhere tt
parameters_go p (Some x) = goes_then (file_name p.k x.names.first) (file_names p.k (map next_token x.names.others))
    (parameter_goes p tt x.names.first) (λ u. other_parameters_go p u x.names.others)

pub parameter_law : ProgramsTellParameters
parameter_law k region x before name after below same one =
    let p : Region = record { k = k; region = region; t = name } in
    let ends = (parameters_go p x).of [] k (begun k region name below) in
    told p before name after (parameter_names k x) (program_parameters region x k).broken refl same one.others_before one.others_after ends.forth ends.back
