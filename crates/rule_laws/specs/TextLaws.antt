-- What a whole text breaks of rules 2, 8, 12 and 15; and its tokens.
use Rattle.std.specs.Prelude.{if◌then◌else◌, ◌++◌, ◌<◌, ◌^◌, ◌∷◌, ◌≡◌, ◌⊎◌, [], ℕ, Bool, Contains, List, false, length}
use Rattle.std.specs.{Prelude.nat_eq, Prelude.true, List.list_any}
use Rattle.pas_lexer.specs.{Lexed.Lexed, declared.kinds.Token.Token}
use Rattle.grammar.specs.Nodes.{spell}
use Rattle.pas_tree.specs.{BlockTrees.routine_heading, TreeNodes.tree_node}
use Rattle.pas_tree.specs.BlockTrees.{BlockTree, BodyTree, ProgramTree, RoutineTree, RoutineTrees, routine_body}
use Rattle.pas_tree.specs.BlockTrees as tree
use Rattle.pas_parser.specs.Formed.{items_of}
use Rattle.check_steps.specs.{Words.known_at_start, declared.breaks.Break.Break}
use Rattle.check_steps.specs.Known.{Known, label_at, name_at}
use Rattle.denoter_checker.specs.{Formals.is_function, RoutineParts.routine_name, declared.defines.Wanted.Wanted}
use Rattle.code_checker.specs.CheckedPrograms.{broken}
use Rattle.rule_laws.specs.{BlockLabels.compound_labels, CaseLaws.late_at, ForwardHeadings.name_of_first}
use Rattle.rule_laws.specs.{Laws.broken_at, LeftNames.block_lefts, LeftNames.body_lefts, Tokens.IsDistinct}
use Rattle.rule_laws.specs.ForwardHeadings.{are_completing, has_forward, have_one_name, is_block, is_named, is_second}
use Rattle.rule_laws.specs.NameLaws.{block_labels, block_routines}
use Rattle.rule_laws.specs.RegionNames.{block_names, field_names, heading_names, labels_of}
use Rattle.rule_laws.specs.TextParts.{OfRecordsIn, OfRoutines, OfRoutinesAfter}

-- No token stands twice in a tree that spells the tokens of a source, nor in any part of it.
abbrev pub TokensDiffer : Type 0
TokensDiffer = (tokens : List Token) (t : ProgramTree) → spell (tree_node t) ≡ items_of tokens
    → IsDistinct (tree_node t)

-- ---- names and labels of a text's regions (6.2.2.7)

-- one of these tokens has a token's name
abbrev pub has_name : Known → List ℕ → ℕ → Bool
has_name k before x = list_any (λ y. nat_eq (name_at k x) (name_at k y)) before

-- Of these tokens each breaks rule 2 that has the name of one before it.
abbrev pub SecondsAreTold : Known → List Break → List ℕ → Type 0
SecondsAreTold k bs names = (before : List ℕ) (name : ℕ) (after : List ℕ) → names ≡ before ++ name ∷ after
    → has_name k before name ≡ true → Contains bs (broken_at 2 name)

-- So it is with the fields of each record type in a text, those of all its variants.
abbrev pub TextsTellFields : Type 0
TextsTellFields = (l : Lexed) (t : ProgramTree)
    → OfRecordsIn (λ fields. SecondsAreTold (known_at_start l) (broken l t) (field_names Wanted.Fields fields)) t.block

-- one of these tokens is a label of a token's value
abbrev pub has_label : Known → List ℕ → ℕ → Bool
has_label k before x = list_any (λ y. nat_eq (label_at k x) (label_at k y)) before

-- Of these labels each breaks rule 2 that is equal to one before it.
abbrev pub LabelsAreTold : Known → List Break → List ℕ → Type 0
LabelsAreTold k bs labels = (before : List ℕ) (label : ℕ) (after : List ℕ) → labels ≡ before ++ label ∷ after
    → has_label k before label ≡ true → Contains bs (broken_at 2 label)

-- Of the procedures and functions of a part each breaks rule 2 that has one of these names; and each that has the name
-- of one before it, unless it has the block of the first of its name.
abbrev pub HeadingsAreTold : Known → List Break → List ℕ → List RoutineTree → Type 0
HeadingsAreTold k bs names rs = (before : List RoutineTree) (r : RoutineTree) (after : List RoutineTree)
    → rs ≡ before ++ r ∷ after
    → (has_name k names (routine_name r) ≡ true) ⊎ ((is_named k before r ≡ true) × (is_second k before r ≡ false))
    → Contains bs (broken_at 2 (routine_name r))

-- so it is with the names and the labels of a region
pub record RegionIsTold (k : Known) (bs : List Break) (all_names : List ℕ) (part : List RoutineTree)
    (all_labels : List ℕ) : Type 0 where
  pub names : SecondsAreTold k bs all_names
  pub headings : HeadingsAreTold k bs all_names part
  pub labels : LabelsAreTold k bs all_labels

abbrev pub routines_in_body : BodyTree → List RoutineTree
routines_in_body (tree.a_directive directive) = []
routines_in_body (tree.a_block_body b) = block_routines b

abbrev pub names_in_body : BodyTree → List ℕ
names_in_body (tree.a_directive directive) = []
names_in_body (tree.a_block_body b) = block_names b

-- the formal parameters of a procedure or function, and then the names of its block
abbrev pub names_of_routine : RoutineTree → List ℕ
names_of_routine r = heading_names (routine_heading r) ++ names_in_body (routine_body r)

abbrev pub labels_in_body : BodyTree → List ℕ
labels_in_body (tree.a_directive directive) = []
labels_in_body (tree.a_block_body b) = block_labels b

-- the formal parameters in the first heading of its name, among those before a procedure or function in its part
abbrev pub first_formals : Known → List RoutineTree → RoutineTree → List ℕ
first_formals k [] r = []
first_formals k (q ∷ qs) r =
    if have_one_name k q r then heading_names (routine_heading q) else first_formals k qs r

-- the formal parameters of a procedure or function after others, and then the names of its block; if that is the block
-- of a forward heading, the formal parameters are those of the heading
abbrev pub names_after : Known → List RoutineTree → RoutineTree → List ℕ
names_after k before r =
    if is_second k before r then first_formals k before r ++ names_in_body (routine_body r) else names_of_routine r

-- So it is with the constants, types, variables, procedures, functions and labels of the program's block, and with
-- those of each procedure and function and its formal parameters; if it has the block of a forward heading, in a text
-- of fewer tokens than 2 ^ 32, and if rule 2 is not broken at its name.
abbrev pub TextsTellNames : Type 0
TextsTellNames = (l : Lexed) (t : ProgramTree) → spell (tree_node t) ≡ items_of l.tokens
    → let k = known_at_start l in let b = t.block in
    RegionIsTold k (broken l t) (block_names b) (block_routines b) (block_labels b)
    × OfRoutinesAfter (λ before r. (is_second k before r ≡ true
    → (length l.tokens < 2 ^ 32) × (Contains (broken l t) (broken_at 2 (routine_name r)) → ⊥))
    → RegionIsTold k (broken l t) (names_after k before r) (routines_in_body (routine_body r))
    (labels_in_body (routine_body r))) b

-- ---- forward headings (6.6.1)

-- Of the procedures and functions of a part, each forward heading breaks rule 8 or has its block later in the part.
abbrev pub ForwardsAreTold : Known → List Break → List RoutineTree → Type 0
ForwardsAreTold k bs rs = (before : List RoutineTree) (r : RoutineTree) (after : List RoutineTree)
    → rs ≡ before ++ r ∷ after → has_forward k (routine_body r) ≡ true
    → Contains bs (broken_at 8 (routine_name r)) ⊎ (are_completing k r after ≡ true)

-- So it is in the program's block, and in that of each procedure and function; if it has the block of a forward
-- heading, in a text of fewer tokens than 2 ^ 32.
abbrev pub TextsTellForwards : Type 0
TextsTellForwards = (l : Lexed) (t : ProgramTree) → spell (tree_node t) ≡ items_of l.tokens
    → let k = known_at_start l in let b = t.block in
    ForwardsAreTold k (broken l t) (block_routines b)
    × OfRoutinesAfter (λ before r. (is_second k before r ≡ true → length l.tokens < 2 ^ 32)
    → ForwardsAreTold k (broken l t) (routines_in_body (routine_body r))) b

-- ---- labels of statements (6.8.1)

-- the labels in front of the statements of a block
abbrev pub statement_labels : BlockTree → List ℕ
statement_labels (tree.a_block labels constants types variables routines body) = compound_labels body

abbrev pub statement_labels_in : BodyTree → List ℕ
statement_labels_in (tree.a_directive directive) = []
statement_labels_in (tree.a_block_body b) = statement_labels b

-- Of these labels each breaks rule 15 that has the value of one before it.
abbrev pub MarksAreTold : Known → List Break → List ℕ → Type 0
MarksAreTold k bs labels = (before : List ℕ) (label : ℕ) (after : List ℕ) → labels ≡ before ++ label ∷ after
    → has_label k before label ≡ true → Contains bs (late_at 15 label)

-- So it is with those of the program's block, and of the block of each procedure and function.
abbrev pub TextsTellMarks : Type 0
TextsTellMarks = (l : Lexed) (t : ProgramTree) → let k = known_at_start l in
    MarksAreTold k (broken l t) (statement_labels t.block)
    × OfRoutines (λ r. MarksAreTold k (broken l t) (statement_labels_in (routine_body r))) t.block

abbrev mutual
  -- the labels of the label parts of a block, and of the procedures and functions in it
  pub all_labels : BlockTree → List ℕ
  all_labels (tree.a_block labels constants types variables routines body) =
      labels_of labels ++ labels_in_routines routines

  pub labels_in_routines : RoutineTrees → List ℕ
  labels_in_routines tree.end_of_routines = []
  labels_in_routines (tree.more_routines r rest) = labels_in_routine r ++ labels_in_routines rest

  pub labels_in_routine : RoutineTree → List ℕ
  labels_in_routine (tree.a_routine heading semicolon body last_semicolon) = all_labels_in body

  pub all_labels_in : BodyTree → List ℕ
  all_labels_in (tree.a_directive directive) = []
  all_labels_in (tree.a_block_body b) = all_labels b

-- Of these labels each breaks rule 15 whose value none of some labels has.
abbrev pub UndeclaredAreTold : Known → List Break → (declared labels : List ℕ) → Type 0
UndeclaredAreTold k bs declared labels = (before : List ℕ) (label : ℕ) (after : List ℕ)
    → labels ≡ before ++ label ∷ after → has_label k declared label ≡ false → Contains bs (late_at 15 label)

-- So it is with the labels in front of the statements of the program's block and those of its label part; with the
-- labels in front of the statements of the block of each procedure and function and those of all label parts of the
-- text; and, in a text of fewer tokens than 2 ^ 32, with those of the block of each procedure and function and those of
-- its own label part.
abbrev pub TextsTellUndeclared : Type 0
TextsTellUndeclared = (l : Lexed) (t : ProgramTree) → let k = known_at_start l in let b = t.block in
    UndeclaredAreTold k (broken l t) (block_labels b) (statement_labels b)
    × OfRoutines (λ r. UndeclaredAreTold k (broken l t) (all_labels b) (statement_labels_in (routine_body r))) b
    × (spell (tree_node t) ≡ items_of l.tokens → length l.tokens < 2 ^ 32
    → OfRoutines (λ r. UndeclaredAreTold k (broken l t) (labels_in_body (routine_body r))
    (statement_labels_in (routine_body r))) b)

-- ---- functions without a value (6.6.2)

-- the semicolon after a procedure or function
abbrev pub routine_end : RoutineTree → ℕ
routine_end (tree.a_routine heading semicolon body last_semicolon) = last_semicolon

-- Each assignment before the end of a routine that has the routine's name alone on its left stands before this token.
abbrev pub IsUnnamedSince : Known → BlockTree → (start : ℕ) → RoutineTree → Type 0
IsUnnamedSince k text start r =
    (left : ℕ) → Contains (block_lefts text) left → left < routine_end r → name_at k left ≡ name_at k (routine_name r)
    → left < start

-- A function's name stands alone on the left of no assignment of its block, and of the procedures and functions in it;
-- if that is the block of a forward heading, of none between this heading and the end of the block.
pub record IsUnnamed (k : Known) (text : BlockTree) (before : List RoutineTree) (r : RoutineTree) : Type 0 where
  pub own : is_second k before r ≡ false → has_name k (body_lefts (routine_body r)) (routine_name r) ≡ false
  pub joined : is_second k before r ≡ true → IsUnnamedSince k text (name_of_first k before r) r

-- Such a function breaks rule 12, if it has a block, at the name in the heading of the block.
abbrev pub TextsTellResults : Type 0
TextsTellResults = (l : Lexed) (t : ProgramTree) → spell (tree_node t) ≡ items_of l.tokens
    → let k = known_at_start l in
    OfRoutinesAfter (λ before r. is_function (routine_heading r) ≡ true → is_block (routine_body r) ≡ true
    → IsUnnamed k t.block before r → Contains (broken l t) (late_at 12 (routine_name r))) t.block
