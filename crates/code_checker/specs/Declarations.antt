-- What the declarations of a source come to.
use Rattle.std.specs.Prelude.{◌≡◌, ℕ, Err, List}
use Rattle.pas_lexer.specs.{Division.IsFault, Division.IsLexed, Lexed.Lexed}
use Rattle.grammar.specs.Nodes.{spell}
use Rattle.pas_tree.specs.{BlockTrees.program_tree, Blocks.tree_node, declared.blocks.Tree.Tree}
use Rattle.pas_parser.specs.{Exact.IsExact, Formed.IsFormed, Formed.items_of}
use Rattle.check_steps.specs.{Known.Known, declared.breaks.CheckFault.CheckFault}
use Rattle.decl_checker.specs.{Answers.EarlyFaultIs, Answers.IsWithoutEarly, Programs.broken_early, Programs.tables_of}
use Rattle.code_checker.specs.{Places.TokenBegins, declared.declarations.DeclarationFault.DeclarationFault}

-- the source has these tokens
pub record HasTokens (source : List ℕ) (t : Lexed) : Type 0 where
  pub kept : t.source ≡ source
  pub lexed : IsLexed source t.tokens

-- the tokens are the text of this tree
pub record IsTextOf (t : Lexed) (x : Tree) : Type 0 where
  pub formed : IsFormed (tree_node x)
  pub spelled : spell (tree_node x) ≡ items_of t.tokens

-- No rule that can be told from declarations and names alone is broken, and these are the tables.
abbrev pub IsDeclaredBy : Lexed → Tree → Known → Type 0
IsDeclaredBy t x known = IsWithoutEarly (broken_early t (program_tree x)) × (known ≡ tables_of t (program_tree x))

-- the source is the text of a program with these tables
abbrev pub IsDeclared : List ℕ → Known → Type 0
IsDeclared source known = (t : Lexed) × (x : Tree) × HasTokens source t × IsTextOf t x × IsDeclaredBy t x known

-- this is the first of the broken rules, at a token that stands there
abbrev pub BreaksFirst : Lexed → Tree → (rule line byte : ℕ) → Type 0
BreaksFirst t x rule line byte =
    (token : ℕ) × EarlyFaultIs (broken_early t (program_tree x)) (CheckFault.Rule rule token) × TokenBegins t token line
    byte

-- why a tree gives no tables
abbrev pub IsUndeclaredBy : Lexed → Tree → DeclarationFault → Type 0
IsUndeclaredBy t x (DeclarationFault.Lexis f) = ⊥
IsUndeclaredBy t x (DeclarationFault.Grammar f) = ⊥
IsUndeclaredBy t x (DeclarationFault.Rule rule line byte) = BreaksFirst t x rule line byte
IsUndeclaredBy t x DeclarationFault.Memory = Unit {0}

-- Why a source gives no tables: a piece of it does not fit; or, where all pieces fit, no tree of the grammar spells its
-- tokens; or, where one does, a rule is broken.
abbrev pub IsUndeclared : List ℕ → DeclarationFault → Type 0
IsUndeclared source (DeclarationFault.Lexis f) = IsFault source f
IsUndeclared source (DeclarationFault.Grammar f) = (t : Lexed) × HasTokens source t × IsExact t.tokens (Err f)
IsUndeclared source (DeclarationFault.Rule rule line byte) =
    (t : Lexed) × (x : Tree) × HasTokens source t × IsTextOf t x × BreaksFirst t x rule line byte
IsUndeclared source DeclarationFault.Memory = Unit {0}
