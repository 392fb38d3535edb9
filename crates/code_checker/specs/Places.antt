-- Where tokens stand in a source.
use Rattle.std.specs.Prelude.{◌≡◌, ℕ, Some, slice_get}
use Rattle.pas_lexer.specs.{Lexed.Lexed, declared.kinds.Token.Token}

-- the token of this number begins at this byte, on this line
pub record TokenBegins (t : Lexed) (number line byte : ℕ) : Type 0 where
  pub token : Token
  pub there : slice_get t.tokens number ≡ Some token
  pub line_is : line ≡ token.line
  pub byte_is : byte ≡ token.start
