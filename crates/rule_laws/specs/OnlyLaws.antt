-- That a text breaks rules nowhere else than the laws on it tell.
use Rattle.std.specs.Prelude.{◌&&◌, ◌++◌, ◌<◌, ◌^◌, ◌||◌, ◌∷◌, ◌≡◌, ℕ, Bool, Contains, List, false, length, not, true}
use Rattle.pas_lexer.specs.Lexed.{Lexed}
use Rattle.grammar.specs.Nodes.{spell}
use Rattle.pas_tree.specs.BlockTrees.{BlockTree, BodyTree, ProgramTree, RoutineTree, routine_body, routine_heading}
use Rattle.pas_tree.specs.BlockTrees as tree
use Rattle.pas_tree.specs.TreeNodes.{tree_node}
use Rattle.pas_parser.specs.Formed.{items_of}
use Rattle.check_steps.specs.{Known.Known, Words.known_at_start, declared.breaks.Break.Break}
use Rattle.denoter_checker.specs.{Formals.is_function, RoutineParts.routine_name, declared.defines.Wanted.Wanted}
use Rattle.code_checker.specs.CheckedPrograms.{broken}
use Rattle.rule_laws.specs.{CaseLaws.late_at, FormalRoutines.OfHeading, Laws.LacksBlock, Laws.broken_at}
use Rattle.rule_laws.specs.{NameLaws.block_labels, NameLaws.block_routines, SomeBlocks.SomeBlock}
use Rattle.rule_laws.specs.ForwardHeadings.{is_block, is_named, is_second}
use Rattle.rule_laws.specs.RegionNames.{field_names, heading_names, parameter_names}
use Rattle.rule_laws.specs.TextLaws.{first_formals, has_label, has_name, labels_in_body, names_in_body}
use Rattle.rule_laws.specs.TextLaws.{routines_in_body, statement_labels, statement_labels_in}
use Rattle.rule_laws.specs.TextParts.{OfRecordsIn, OfRoutinesAfter}

-- ---- forward headings (6.6.1)

-- A procedure or function of the block has its name at this token. It is a forward heading that is not the first
-- definition of its name, so that rule 2 is broken there, or that no procedure or function after it in the block
-- completes.
pub record IsLeftForward (k : Known) (bs : List Break) (token : ℕ) (b : BlockTree) : Type 0 where
  pub before : List RoutineTree
  pub r : RoutineTree
  pub after : List RoutineTree
  pub one : block_routines b ≡ before ++ r ∷ after
  pub at : routine_name r ≡ token
  pub lacks : LacksBlock k bs r after

-- Rule 8 is broken at names of such headings alone.
abbrev pub TextsBreakEight : Type 0
TextsBreakEight = (l : Lexed) (t : ProgramTree) (token : ℕ) → spell (tree_node t) ≡ items_of l.tokens
    → Contains (broken l t) (broken_at 8 token)
    → SomeBlock (IsLeftForward (known_at_start l) (broken l t) token) t.block

-- ---- names and labels (6.2.2.7)

-- Where this token is one of these names, none before it has its name.
abbrev pub IsNoSecondName : Known → ℕ → List ℕ → Type 0
IsNoSecondName k token names =
    (before after : List ℕ) → names ≡ before ++ token ∷ after → has_name k before token ≡ false

-- Where it is one of these labels, none before it has its value.
abbrev pub IsNoSecondLabel : Known → ℕ → List ℕ → Type 0
IsNoSecondLabel k token labels =
    (before after : List ℕ) → labels ≡ before ++ token ∷ after → has_label k before token ≡ false

-- Whether one of these names is a routine's, or one of the routines before it has its name, and it has not the block of
-- the first of them.
abbrev pub is_again : Known → List ℕ → List RoutineTree → RoutineTree → Bool
is_again k names before r = has_name k names (routine_name r) || (is_named k before r && not (is_second k before r))

-- Where one of the procedures and functions of a part has its name at this token, it is not so after these names.
abbrev pub IsNoSecondHeading : Known → ℕ → List ℕ → List RoutineTree → Type 0
IsNoSecondHeading k token names rs = (before : List RoutineTree) (r : RoutineTree) (after : List RoutineTree)
    → rs ≡ before ++ r ∷ after → routine_name r ≡ token → is_again k names before r ≡ false

-- So it is in the region of these formal parameters and of the block that follows, if one does.
pub record IsNoSecondIn (k : Known) (token : ℕ) (formals : List ℕ) (body : BodyTree) : Type 0 where
  pub names : IsNoSecondName k token (formals ++ names_in_body body)
  pub headings : IsNoSecondHeading k token (formals ++ names_in_body body) (routines_in_body body)
  pub labels : IsNoSecondLabel k token (labels_in_body body)

-- So it is with the formal parameters of a procedure or function and its block; with the block and the formal
-- parameters of the forward heading that has it, which is the first of its name among those before it; and with the
-- formal parameters of each formal procedure and function.
pub record IsNoSecondOf (k : Known) (token : ℕ) (before : List RoutineTree) (r : RoutineTree) : Type 0 where
  pub own : IsNoSecondIn k token (heading_names (routine_heading r)) (routine_body r)
  pub joined : is_second k before r ≡ true → IsNoSecondIn k token (first_formals k before r) (routine_body r)
  pub formals : OfHeading (λ h. IsNoSecondName k token (heading_names h)) (routine_heading r)

-- This token is no second name or label of a region of the text: of a record type, the program's block, a procedure or
-- function, or a formal one.
pub record IsNoSecond (k : Known) (t : ProgramTree) (token : ℕ) : Type 0 where
  pub records : OfRecordsIn (λ fields. IsNoSecondName k token (field_names Wanted.Fields fields)) t.block
  pub program : IsNoSecondIn k token (parameter_names k t.parameters) (tree.a_block_body t.block)
  pub routines : OfRoutinesAfter (IsNoSecondOf k token) t.block

-- Rule 2 is broken at second names and labels alone.
abbrev pub TextsBreakTwo : Type 0
TextsBreakTwo = (l : Lexed) (t : ProgramTree) (token : ℕ) → spell (tree_node t) ≡ items_of l.tokens
    → length l.tokens < 2 ^ 32 → IsNoSecond (known_at_start l) t token → Contains (broken l t) (broken_at 2 token) → ⊥

-- ---- labels of statements (6.8.1)

-- Rule 15 is broken at labels in front of statements alone.
abbrev pub TextsBreakFifteen : Type 0
TextsBreakFifteen = (l : Lexed) (t : ProgramTree) (token : ℕ) → Contains (broken l t) (late_at 15 token)
    → SomeBlock (λ b. Contains (statement_labels b) token) t.block

-- Of these labels none breaks rule 15 whose value none before it has, and one of some others has.
abbrev pub OthersAreRight : Known → List Break → (declared labels : List ℕ) → Type 0
OthersAreRight k bs declared labels = (before : List ℕ) (label : ℕ) (after : List ℕ) → labels ≡ before ++ label ∷ after
    → has_label k before label ≡ false → has_label k declared label ≡ true → Contains bs (late_at 15 label) → ⊥

-- So it is with the labels in front of the statements of the program's block, and those of its label part; and with
-- those of the block of each procedure and function, but not of one of a forward heading.
abbrev pub TextsSpareLabels : Type 0
TextsSpareLabels = (l : Lexed) (t : ProgramTree) → spell (tree_node t) ≡ items_of l.tokens → length l.tokens < 2 ^ 32
    → let k = known_at_start l in let b = t.block in
    OthersAreRight k (broken l t) (block_labels b) (statement_labels b)
    × OfRoutinesAfter (λ before r. is_second k before r ≡ false → OthersAreRight k (broken l t)
    (labels_in_body (routine_body r)) (statement_labels_in (routine_body r))) b

-- ---- functions without a value (6.6.2)

-- One of the functions of the block has its name at this token, and a block.
pub record IsFunctionWithBlock (token : ℕ) (b : BlockTree) : Type 0 where
  pub r : RoutineTree
  pub one : Contains (block_routines b) r
  pub at : routine_name r ≡ token
  pub function : is_function (routine_heading r) ≡ true
  pub block : is_block (routine_body r) ≡ true

-- Rule 12 is broken at names of such functions alone.
abbrev pub TextsBreakTwelve : Type 0
TextsBreakTwelve = (l : Lexed) (t : ProgramTree) (token : ℕ) → Contains (broken l t) (late_at 12 token)
    → SomeBlock (IsFunctionWithBlock token) t.block
