-- What the bytes of a reference are: a program, or the first fault of the lexer, of the parser or of the check.
use Rattle.std.specs.Prelude.{◌≡◌, ℕ, List}
use Rattle.pas_lexer.specs.{Division.IsFault, Lexed.Lexed, declared.kinds.LexFault.LexFault}
use Rattle.pas_tree.specs.{BlockTrees.program_tree, declared.blocks.Tree.Tree}
use Rattle.pas_phrases.specs.declared.fault.ParseFault.{ParseFault}
use Rattle.core_program.specs.ProgramRows.{ProgramRows}
use Rattle.check_steps.specs.{Breaks.FaultIs, declared.breaks.CheckFault.CheckFault}
use Rattle.code_checker.specs.{CheckedPrograms.broken, Places.TokenBegins, Programs.HasNoTree, Programs.IsChecked}
use Rattle.code_checker.specs.Declarations.{HasTokens, IsTextOf}
use Rattle.reference_oracle.specs.declared.faults.RefFault.{RefFault}
use Rattle.reference_oracle.specs.declared.faults.RefFault.TheVariants.{Check, Lex, Memory, Parse}

-- the bytes are those of this program
abbrev pub IsSourceOf : List ℕ → ProgramRows → Type 0
IsSourceOf bytes p = (t : Lexed) × HasTokens bytes t × IsChecked t p

-- Want of memory is told as such, and not as a fault of the bytes.
abbrev pub IsOfBytes : LexFault → Type 0
IsOfBytes f = f ≡ LexFault.Memory → ⊥

-- no tree spells the tokens, for this; and where the token stands that it names
abbrev pub IsUnparsedAt : Lexed → ParseFault → (line byte : ℕ) → Type 0
IsUnparsedAt t (ParseFault.NotProgram token) line byte =
    HasNoTree t (ParseFault.NotProgram token) × TokenBegins t token line byte
IsUnparsedAt t (ParseFault.TooDeep token) line byte =
    HasNoTree t (ParseFault.TooDeep token) × TokenBegins t token line byte
IsUnparsedAt t ParseFault.Memory line byte = ⊥

-- this is the first of what is broken in the tree; and where the token stands that it names
abbrev pub IsBrokenAt : Lexed → Tree → CheckFault → (line byte : ℕ) → Type 0
IsBrokenAt t x (CheckFault.Rule rule token) line byte =
    FaultIs (broken t (program_tree x)) (CheckFault.Rule rule token) × TokenBegins t token line byte
IsBrokenAt t x (CheckFault.TooBig token) line byte =
    FaultIs (broken t (program_tree x)) (CheckFault.TooBig token) × TokenBegins t token line byte
IsBrokenAt t x CheckFault.Memory line byte = ⊥

-- Why the bytes are no program: a piece does not fit; or all do, and no tree spells the tokens; or one does, and
-- something is broken in it. The numbers are the line of the token that a fault names, and its first byte.
abbrev pub IsUnreadReference : List ℕ → RefFault → Type 0
IsUnreadReference bytes (Lex f) = IsFault bytes f × IsOfBytes f
IsUnreadReference bytes (Parse f line byte) = (t : Lexed) × HasTokens bytes t × IsUnparsedAt t f line byte
IsUnreadReference bytes (Check f line byte) =
    (t : Lexed) × HasTokens bytes t × ((x : Tree) × IsTextOf t x × IsBrokenAt t x f line byte)
IsUnreadReference bytes Memory = Unit {0}

-- ---- the same, stage by stage

abbrev pub IsUnlexedReference : List ℕ → RefFault → Type 0
IsUnlexedReference bytes (Lex f) = IsFault bytes f × IsOfBytes f
IsUnlexedReference bytes Memory = Unit {0}
IsUnlexedReference bytes f = ⊥

abbrev pub IsUnparsedReference : Lexed → RefFault → Type 0
IsUnparsedReference t (Parse f line byte) = IsUnparsedAt t f line byte
IsUnparsedReference t Memory = Unit {0}
IsUnparsedReference t f = ⊥

abbrev pub IsBrokenReference : Lexed → Tree → RefFault → Type 0
IsBrokenReference t x (Check f line byte) = IsBrokenAt t x f line byte
IsBrokenReference t x Memory = Unit {0}
IsBrokenReference t x f = ⊥

abbrev pub IsUncheckedReference : Lexed → RefFault → Type 0
IsUncheckedReference t (Parse f line byte) = IsUnparsedAt t f line byte
IsUncheckedReference t (Check f line byte) = (x : Tree) × IsTextOf t x × IsBrokenAt t x f line byte
IsUncheckedReference t Memory = Unit {0}
IsUncheckedReference t (Lex f) = ⊥
