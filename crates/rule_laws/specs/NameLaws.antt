-- Which names of a region break rule 2.
use Rattle.std.specs.Prelude.{◌++◌, ◌<◌, ◌||◌, ◌↔◌, ◌∷◌, ◌≡◌, ◌⊎◌, [], ℕ, All, Bool, Contains, List, Option, Some}
use Rattle.std.specs.Prelude.{false, is_some, length, nat_eq, true}
use Rattle.std.specs.List.{list_any}
use Rattle.pas_tree.specs.{DenoterTrees.FieldsTree, HeadingTrees.HeadingTree}
use Rattle.pas_tree.specs.BlockTrees.{BlockTree, LabelPartTree, ParametersTree, RoutineTree, RoutineTrees}
use Rattle.pas_tree.specs.BlockTrees as tree
use Rattle.check_steps.specs.Known.{Known, frame_at, label_at, name_at, row_at}
use Rattle.check_steps.specs.Regions.{declared_in, defined_in}
use Rattle.check_steps.specs.declared.regions.{Definition.Definition, Frame.Frame}
use Rattle.denoter_checker.specs.{Defines.define_record, Formals.define_formals_at, declared.defines.Wanted.Wanted}
use Rattle.denoter_checker.specs.RoutineParts.{define_routines, is_waiting, routine_name}
use Rattle.decl_checker.specs.{Blocks.define_block, Labels.define_labels, Parameters.program_parameters}
use Rattle.rule_laws.specs.ForwardHeadings.{is_named, is_second, routines_in}
use Rattle.rule_laws.specs.Laws.{IsNew, IsOne, broken_at}
use Rattle.rule_laws.specs.RegionNames.{block_names, field_names, heading_names, is_defined, labels_of, parameter_names}

-- one of the names of a region, those before it and those after it, which are other tokens
pub record IsOneName (before : List ℕ) (name : ℕ) (after : List ℕ) : Type 0 where
  pub others_before : All (λ y. y ≡ name → ⊥) before
  pub others_after : All (λ y. y ≡ name → ⊥) after

-- the labels of a block, and its routines
abbrev pub block_labels : BlockTree → List ℕ
block_labels (tree.a_block labels constants types variables routines body) = labels_of labels

abbrev pub block_routines : BlockTree → List RoutineTree
block_routines (tree.a_block labels constants types variables routines body) = routines_in routines

-- a token that is no label of the block, and no name of a procedure or a function
pub record IsNoOther (b : BlockTree) (name : ℕ) : Type 0 where
  pub labels : All (λ y. y ≡ name → ⊥) (block_labels b)
  pub routines : All (λ r. routine_name r ≡ name → ⊥) (block_routines b)

-- Of the names of a block's constants, types and variables, and of the enumerations in their types, these break rule 2.
abbrev pub BlocksTellNames : Type 0
BlocksTellNames = (k : Known) (frame : ℕ) (b : BlockTree) (before : List ℕ) (name : ℕ) (after : List ℕ)
    → (frame_at k frame).region < length k.regions → block_names b ≡ before ++ name ∷ after
    → IsOneName before name after → IsNoOther b name
    → Contains (define_block frame b k).broken (broken_at 2 name)
    ↔ (is_defined k (frame_at k frame).region before name ≡ true)

-- And so of the fields of a record, those of all its variants.
abbrev pub RecordsTellFields : Type 0
RecordsTellFields = (k : Known) (frame : ℕ) (fields : FieldsTree) (before : List ℕ) (name : ℕ) (after : List ℕ)
    → (frame_at k frame).region < length k.regions → field_names Wanted.Fields fields ≡ before ++ name ∷ after
    → IsOneName before name after
    → Contains (define_record frame fields k).broken (broken_at 2 name)
    ↔ (is_defined k (frame_at k frame).region before name ≡ true)

-- And so of the formal parameters of a heading, in the region of the frame of its block.
abbrev pub HeadingsTellFormals : Type 0
HeadingsTellFormals = (k : Known) (frame : ℕ) (h : HeadingTree) (before : List ℕ) (name : ℕ) (after : List ℕ)
    → (frame_at k frame).region < length k.regions → heading_names h ≡ before ++ name ∷ after
    → IsOneName before name after
    → Contains (define_formals_at frame h k).broken (broken_at 2 name)
    ↔ (is_defined k (frame_at k frame).region before name ≡ true)

-- And so of the program parameters, of which only text files are defined.
abbrev pub ProgramsTellParameters : Type 0
ProgramsTellParameters = (k : Known) (region : ℕ) (parameters : Option ParametersTree) (before : List ℕ) (name : ℕ)
    (after : List ℕ)
    → region < length k.regions → parameter_names k parameters ≡ before ++ name ∷ after
    → IsOneName before name after
    → Contains (program_parameters region parameters k).broken (broken_at 2 name)
    ↔ (is_defined k region before name ≡ true)

-- ---- procedures and functions

-- no two of these have their names at one token
abbrev pub DifferAll : List RoutineTree → Type 0
DifferAll [] = Unit {0}
DifferAll (r ∷ rs) = All (λ s. routine_name s ≡ routine_name r → ⊥) rs × DifferAll rs

-- a definition at a token at which no heading waits for a block
pub record IsSettled (k : Known) (token : ℕ) : Type 0 where
  pub row : token < length k.program.rows
  pub quiet : is_waiting (row_at k token) ≡ false

-- A part with procedures and functions begins to be looked at: nothing is known of their names' tokens, which are
-- different, and no heading waits where the region has a definition.
pub record IsPartBegun (k : Known) (region : ℕ) (before : List RoutineTree) (r : RoutineTree)
    (after : List RoutineTree) : Type 0 where
  pub there : region < length k.regions
  pub one : IsOne before r after
  pub differ : DifferAll before
  pub new : All (λ q. IsNew k region (routine_name q)) before
  pub old : (name : ℕ) (d : Definition) → defined_in k.regions region name ≡ Some d → IsSettled k d.token

-- The region defines the name before the part; or a routine before has it, and this one is not its second heading.
abbrev pub IsDefinedAgain : Known → ℕ → List RoutineTree → RoutineTree → Type 0
IsDefinedAgain k region before r =
    (is_some (defined_in k.regions region (name_at k (routine_name r))) ≡ true)
    ⊎ ((is_named k before r ≡ true) × (is_second k before r ≡ false))

-- Of the procedures and functions of a part these break rule 2, at their names.
abbrev pub PartsTellSecondHeadings : Type 0
PartsTellSecondHeadings = (k : Known) (region : ℕ) (rs : RoutineTrees) (before : List RoutineTree) (r : RoutineTree)
    (after : List RoutineTree)
    → routines_in rs ≡ before ++ r ∷ after → IsPartBegun k region before r after
    → Contains (define_routines region rs k).broken (broken_at 2 (routine_name r))
    ↔ IsDefinedAgain k region before r

-- ---- labels

-- a region declares a token's label, or one of these tokens is equal to it
abbrev pub is_declared : Known → ℕ → List ℕ → ℕ → Bool
is_declared k region before x = is_some (declared_in k.regions region (label_at k x))
    || list_any (λ y. nat_eq (label_at k x) (label_at k y)) before

-- Of the labels of a block's label part, in the region of its frame, these break rule 2.
abbrev pub LabelPartsTellLabels : Type 0
LabelPartsTellLabels = (k : Known) (here : Frame) (part : Option LabelPartTree) (before : List ℕ) (label : ℕ)
    (after : List ℕ)
    → here.region < length k.regions → labels_of part ≡ before ++ label ∷ after → IsOneName before label after
    → Contains (define_labels here part k).broken (broken_at 2 label) ↔ (is_declared k here.region before label ≡ true)
