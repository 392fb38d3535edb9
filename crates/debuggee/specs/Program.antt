-- What a source is: a program; or why and where it is refused.
use Rattle.std.specs.Prelude.{◌≡◌, ◌⊎◌, ℕ, Err, List, Ok, Result}
use Rattle.pas_lexer.specs.{Division.IsLexed, Lexed.Lexed}
use Rattle.core_program.specs.ProgramRows.{ProgramRows}
use Rattle.code_checker.specs.{Declarations.HasTokens, Pieces.RefusesPiece, Programs.IsChecked, Programs.RefusesText}
use Rattle.code_checker.specs.declared.faults.SourceFault.{SourceFault, TheVariants.Memory, TheVariants.Refused}
use Rattle.code_checker.specs.declared.faults.SourceRefusal.{SourceRefusal}
use Rattle.debuggee.specs.declared.source.SourceProgram.{SourceProgram}

-- The source has these tokens, which are the text of this program; it breaks no rule, and nothing in it is too big.
pub record IsProgram (source : List ℕ) (t : Lexed) (p : ProgramRows) : Type 0 where
  pub kept : t.source ≡ source
  pub lexed : IsLexed source t.tokens
  pub checked : IsChecked t p

-- the answer is this program, with its tokens, or memory ran out
abbrev pub Keeps : Lexed → ProgramRows → Result SourceProgram SourceFault → Type 0
Keeps t p (Ok s) = (s.tokens ≡ t) × (s.program ≡ p)
Keeps t p (Err (Refused why line byte)) = ⊥
Keeps t p (Err Memory) = Unit {0}

-- no program has this source
abbrev pub NoProgram : List ℕ → Type 0
NoProgram source = (t : Lexed) (p : ProgramRows) → IsProgram source t p → ⊥

-- A source is refused at the first piece that does not fit; or, where all pieces fit, at a token: for the grammar,
-- or for a rule.
abbrev pub Refuses : List ℕ → SourceRefusal → (line byte : ℕ) → Type 0
Refuses source why line byte =
    RefusesPiece source why line byte ⊎ ((t : Lexed) × HasTokens source t × RefusesText t why line byte)

-- a refused source is no program, and this is why and where it is refused
abbrev pub IsRefused : List ℕ → SourceFault → Type 0
IsRefused source (Refused why line byte) = NoProgram source × Refuses source why line byte
IsRefused source Memory = Unit {0}
