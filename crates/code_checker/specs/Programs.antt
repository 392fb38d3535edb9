-- What the tokens of a source come to as a program.
use Rattle.std.specs.Prelude.{◌≡◌, [], ℕ, Err}
use Rattle.pas_lexer.specs.Lexed.{Lexed}
use Rattle.pas_tree.specs.{BlockTrees.program_tree, declared.blocks.Tree.Tree}
use Rattle.pas_phrases.specs.declared.fault.ParseFault.{ParseFault}
use Rattle.pas_parser.specs.{Exact.IsExact, Formed.IsText}
use Rattle.core_program.specs.ProgramRows.{ProgramRows}
use Rattle.check_steps.specs.{Breaks.FaultIs, declared.breaks.CheckFault.CheckFault}
use Rattle.code_checker.specs.{Declarations.IsTextOf, Places.TokenBegins, declared.faults.SourceRefusal.SourceRefusal}
use Rattle.code_checker.specs.CheckedPrograms.{broken, program_of}
use Rattle.code_checker.specs.declared.faults.SourceFault.{SourceFault, TheVariants.Memory, TheVariants.Refused}

-- ---- programs

-- No rule is broken and nothing is too big in the tree, and this is the program that it denotes.
abbrev pub IsDenotedBy : Lexed → Tree → ProgramRows → Type 0
IsDenotedBy t x p = (broken t (program_tree x) ≡ []) × (p ≡ program_of t (program_tree x))

-- the tokens are the text of this program
abbrev pub IsChecked : Lexed → ProgramRows → Type 0
IsChecked t p = (x : Tree) × IsTextOf t x × IsDenotedBy t x p

-- ---- refusals

-- No formed tree spells the tokens. They are refused for this: a token is the first that is too deep, or else the first
-- with which no shaped tree goes on.
abbrev pub HasNoTree : Lexed → ParseFault → Type 0
HasNoTree t f = (IsText t.tokens → ⊥) × IsExact t.tokens (Err f)

-- the first of what is broken in the tree is at a token that stands there
abbrev pub IsBrokenAt : Lexed → Tree → (ℕ → CheckFault) → (line byte : ℕ) → Type 0
IsBrokenAt t x what line byte =
    (token : ℕ) × FaultIs (broken t (program_tree x)) (what token) × TokenBegins t token line byte

-- Why and where tokens are refused: no tree of the grammar spells them; or one does, and a rule is broken; or none is,
-- and something is too big.
abbrev pub RefusesText : Lexed → SourceRefusal → (line byte : ℕ) → Type 0
RefusesText t SourceRefusal.NotProgram line byte =
    (number : ℕ) × HasNoTree t (ParseFault.NotProgram number) × TokenBegins t number line byte
RefusesText t SourceRefusal.TooDeep line byte =
    (number : ℕ) × HasNoTree t (ParseFault.TooDeep number) × TokenBegins t number line byte
RefusesText t (SourceRefusal.Rule rule) line byte =
    (x : Tree) × IsTextOf t x × IsBrokenAt t x (CheckFault.Rule rule) line byte
RefusesText t SourceRefusal.TooBig line byte = (x : Tree) × IsTextOf t x × IsBrokenAt t x CheckFault.TooBig line byte
RefusesText t _ line byte = ⊥

abbrev pub IsUnchecked : Lexed → SourceFault → Type 0
IsUnchecked t (Refused why line byte) = RefusesText t why line byte
IsUnchecked t Memory = Unit {0}
