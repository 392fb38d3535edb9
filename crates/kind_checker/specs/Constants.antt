-- Constants (6.3).
use Rattle.std.specs.Prelude.{if◌then◌else◌, ◌∷◌, [], ℕ, ℤ, Bool, List, None, Option, Some, false, nat_eq, nat_le}
use Rattle.std.specs.{Prelude.negsuc, Prelude.pos, Prelude.true, Int.RustNames.int_lt}
use lib.IntN.{neg_ℤ}
use Rattle.pas_tree.specs.{BlockTrees.ConstantPartTree, OperatorPlaces.sign_token}
use Rattle.pas_tree.specs.declared.{constants.Constant.Constant, operators.Sign.Sign}
use Rattle.pas_tree.specs.declared.blocks.ConstantDefinition.{ConstantDefinition}
use Rattle.core_program.specs.{ProgramRows.text_at, declared.rows.NameRow.NameRow, declared.rows.Row.Row}
use Rattle.check_steps.specs.Known.{Known, row_at, spelled_at}
use Rattle.check_steps.specs.Names.{define_in, use_again, use_at}
use Rattle.check_steps.specs.Steps.{◌>>=◌, Step, early, give, late, look, put}
use Rattle.check_steps.specs.declared.{regions.Def.Def, regions.Found.Found, words.Spelled.Spelled}
use Rattle.kind_checker.specs.declared.constants.ConstantValue.{ConstantValue, TheVariants.Ordinal, TheVariants.Text}

-- ---- signs

-- A constant of unknown value breaks no further rule.
abbrev pub is_integer : Option ConstantValue → Bool
is_integer None = true
is_integer (Some (Ordinal of' v)) = nat_eq of' 0
is_integer (Some (Text token)) = false

-- each integer of a source has its opposite
abbrev pub opposite : ℤ → ℤ
opposite v = if int_lt (negsuc 2147483647) v then neg_ℤ v else v

abbrev pub with_sign : Sign → ℤ → ℤ
with_sign (Sign.Plus t) v = v
with_sign (Sign.Minus t) v = opposite v

abbrev pub signed_value : Sign → Option ConstantValue → Option ConstantValue
signed_value s (Some (Ordinal of' v)) = if nat_eq of' 0 then Some (Ordinal of' (with_sign s v)) else None
signed_value s v = None

-- rule 4: a sign before a constant that is not an integer
unfoldable pub sign_before : Sign → Option ConstantValue → Step (Option ConstantValue)
sign_before s v = do
  _ ← early 4 (sign_token s) (is_integer v)
  give (signed_value s v)

abbrev pub signed : Option Sign → Option ConstantValue → Step (Option ConstantValue)
signed None v = give v
signed (Some s) v = sign_before s v

-- ---- constants

-- an unsigned integer up to maxint
abbrev pub integer_in : Spelled → Option ConstantValue
integer_in (Spelled.Number n) = if nat_le n 2147483647 then Some (Ordinal 0 (pos n)) else None
integer_in s = None

-- a string of one character is a char
abbrev pub text_value : ℕ → List ℕ → ConstantValue
text_value token (c ∷ []) = Ordinal 2 (pos c)
text_value token l = Text token

abbrev pub is_constant_def : Def → Bool
is_constant_def (Def.Constant n) = true
is_constant_def d = false

-- A name of unknown meaning breaks no further rule.
abbrev pub is_constant : Option Found → Bool
is_constant None = true
is_constant (Some f) = is_constant_def f.definition.def

abbrev pub value_in : Row → Option ConstantValue
value_in (Row.Name (NameRow.Constant of' v)) = Some (Ordinal of' v)
value_in (Row.Name (NameRow.Text token)) = Some (Text token)
value_in r = None

-- what a name stands for as a constant, if it is known
abbrev pub value_of : Known → Option Found → Option ConstantValue
value_of k None = None
value_of k (Some f) = value_in (row_at k f.definition.token)

-- rule 3: the name stands for another kind of thing
unfoldable pub named_constant : ℕ → ℕ → Step (Option ConstantValue)
named_constant frame token = do
  found ← use_at frame token token
  _ ← late 3 token (is_constant found)
  look (λ k. value_of k found)

-- what a constant stands for, seen from a frame
abbrev pub constant : ℕ → Constant → Step (Option ConstantValue)
constant frame (Constant.Number s n) = do
  v ← look (λ k. integer_in (spelled_at k n))
  signed s v
constant frame (Constant.Name s n) = do
  v ← named_constant frame n
  signed s v
constant frame (Constant.Text n) = look (λ k. Some (text_value n (text_at k.program n)))

-- ---- constants once more

-- Rule 30: the sign is an operator that does not fit. Rule 4 is told of it before, and comes first.
unfoldable pub sign_again : Sign → Option ConstantValue → Step (Option ConstantValue)
sign_again s v = do
  _ ← late 30 (sign_token s) (is_integer v)
  give (signed_value s v)

abbrev pub signed_again : Option Sign → Option ConstantValue → Step (Option ConstantValue)
signed_again None v = give v
signed_again (Some s) v = sign_again s v

unfoldable pub named_again : ℕ → ℕ → Step (Option ConstantValue)
named_again frame token = do
  found ← use_again frame token
  _ ← late 3 token (is_constant found)
  look (λ k. value_of k found)

-- what a constant stands for, seen from a frame, whose name and sign were looked at before
abbrev pub constant_again : ℕ → Constant → Step (Option ConstantValue)
constant_again frame (Constant.Number s n) = do
  v ← look (λ k. integer_in (spelled_at k n))
  signed_again s v
constant_again frame (Constant.Name s n) = do
  v ← named_again frame n
  signed_again s v
constant_again frame (Constant.Text n) = look (λ k. Some (text_value n (text_at k.program n)))

-- ---- the constant part

abbrev pub constants_in : ConstantPartTree → List ConstantDefinition
constants_in p = p.first ∷ p.others

-- a constant may be used from the semicolon after its definition on
unfoldable pub define_constant : ℕ → Unit {0} → ConstantDefinition → Step (Unit {0})
define_constant region u d = define_in region (record { def = Def.Constant d.name; token = d.name; end = d.semicolon })

abbrev pub value_row : Option ConstantValue → Row
value_row None = Row.Nothing
value_row (Some (Ordinal of' v)) = Row.Name (NameRow.Constant of' v)
value_row (Some (Text token)) = Row.Name (NameRow.Text token)

unfoldable pub constant_part : ℕ → Unit {0} → ConstantDefinition → Step (Unit {0})
constant_part frame u d = do
  value ← constant frame d.constant
  put d.name (value_row value)
