-- What the bytes of a source come to as tokens.
use Rattle.std.specs.Prelude.{◌≡◌, ℕ, Err, List, Ok, Result}
use Rattle.pas_lexer.specs.{Division.IsFault, Division.IsLexed, Division.line_at, Lexed.Lexed}
use Rattle.pas_lexer.specs.declared.kinds.{LexFault.LexFault, Token.Token}
use Rattle.code_checker.specs.declared.faults.SourceFault.{SourceFault, TheVariants.Memory, TheVariants.Refused}
use Rattle.code_checker.specs.declared.faults.SourceRefusal.{SourceRefusal}

-- its first piece that does not fit, which begins at this byte, fails for this reason
abbrev pub PieceFailsFor : List ℕ → SourceRefusal → (byte : ℕ) → Type 0
PieceFailsFor source SourceRefusal.BadByte byte = IsFault source (LexFault.BadByte byte)
PieceFailsFor source SourceRefusal.OpenComment byte = IsFault source (LexFault.OpenComment byte)
PieceFailsFor source SourceRefusal.OpenString byte = IsFault source (LexFault.OpenString byte)
PieceFailsFor source SourceRefusal.EmptyString byte = IsFault source (LexFault.EmptyString byte)
PieceFailsFor source SourceRefusal.RealWord byte = IsFault source (LexFault.RealWord byte)
PieceFailsFor source SourceRefusal.TooLarge byte = IsFault source (LexFault.TooLarge byte)
PieceFailsFor source SourceRefusal.Joined byte = IsFault source (LexFault.Joined byte)
PieceFailsFor source _ byte = ⊥

-- a piece does not fit
abbrev pub RefusesPiece : List ℕ → SourceRefusal → (line byte : ℕ) → Type 0
RefusesPiece source why line byte = PieceFailsFor source why byte × (line ≡ line_at source byte)

-- a source that has no division into pieces is refused at the first that does not fit
abbrev pub IsUnlexed : List ℕ → SourceFault → Type 0
IsUnlexed source (Refused why line byte) =
    ((tokens : List Token) → IsLexed source tokens → ⊥) × RefusesPiece source why line byte
IsUnlexed source Memory = Unit {0}

-- the answer is these tokens, or that memory ran out
abbrev pub TokensAre : List Token → Result Lexed SourceFault → Type 0
TokensAre tokens (Ok t) = t.tokens ≡ tokens
TokensAre tokens (Err (Refused why line byte)) = ⊥
TokensAre tokens (Err Memory) = Unit {0}

-- how the fault of a piece is told
abbrev pub fault_of_piece : (source : List ℕ) → LexFault → SourceFault
fault_of_piece source (LexFault.BadByte at) = Refused SourceRefusal.BadByte (line_at source at) at
fault_of_piece source (LexFault.OpenComment at) = Refused SourceRefusal.OpenComment (line_at source at) at
fault_of_piece source (LexFault.OpenString at) = Refused SourceRefusal.OpenString (line_at source at) at
fault_of_piece source (LexFault.EmptyString at) = Refused SourceRefusal.EmptyString (line_at source at) at
fault_of_piece source (LexFault.RealWord at) = Refused SourceRefusal.RealWord (line_at source at) at
fault_of_piece source (LexFault.TooLarge at) = Refused SourceRefusal.TooLarge (line_at source at) at
fault_of_piece source (LexFault.Joined at) = Refused SourceRefusal.Joined (line_at source at) at
fault_of_piece source LexFault.Memory = Memory
