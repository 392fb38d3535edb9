-- The required names, defined in the outermost region.
use Rattle.std.specs.Prelude.{◌+◌, ℕ, None, is_none, length, negsuc, pos}
use Rattle.core_program.specs.declared.rows.{NameRow.NameRow, Required.Required, Row.Row, TypeRow.TheVariants.Ordinal}
use Rattle.core_program.specs.declared.rows.TextFile.TheVariants.{Input, Output}
use Rattle.check_steps.specs.{Regions.defined_in, declared.regions.Def.Def}
use Rattle.check_steps.specs.Steps.{◌>>=◌, Step, add_definition, give, look, open_region, put, when}

-- what a required name is defined as
abbrev pub required_def : NameRow → ℕ → Def
required_def (NameRow.TypeName of') n = Def.TypeName n
required_def (NameRow.Constant of' value) n = Def.Constant n
required_def (NameRow.TextFile file) n = Def.TextFile n
required_def r n = Def.Required n

-- The required name of this number stands for this. Its row stands after those of the tokens, and it may be used
-- everywhere.
unfoldable pub require : ℕ → NameRow → Step (Unit {0})
require name r = do
  first ← look (λ k. length k.words)
  held ← look (λ k. defined_in k.regions 0 name)
  _ ← put (first + name) (Row.Name r)
  when (is_none held) (add_definition 0 name
      (record { def = required_def r (first + name); token = first + name; end = 0 }))

-- the types integer, Boolean and char, with the numbers 0, 1 and 2
unfoldable pub ordinal_types : Step (Unit {0})
ordinal_types = do
  _ ← put 0 (Row.Type (Ordinal (negsuc 2147483646) (pos 2147483647)))
  _ ← put 1 (Row.Type (Ordinal (pos 0) (pos 1)))
  put 2 (Row.Type (Ordinal (pos 0) (pos 255)))

unfoldable pub type_names : Step (Unit {0})
type_names = do
  _ ← require 0 (NameRow.TypeName 0)
  _ ← require 1 (NameRow.TypeName 1)
  require 2 (NameRow.TypeName 2)

unfoldable pub constant_names : Step (Unit {0})
constant_names = do
  _ ← require 3 (NameRow.Constant 1 (pos 0))
  _ ← require 4 (NameRow.Constant 1 (pos 1))
  require 5 (NameRow.Constant 0 (pos 2147483647))

unfoldable pub arithmetic_names : Step (Unit {0})
arithmetic_names = do
  _ ← require 6 (NameRow.Required Required.Abs)
  _ ← require 7 (NameRow.Required Required.Sqr)
  require 8 (NameRow.Required Required.Odd)

unfoldable pub ordinal_names : Step (Unit {0})
ordinal_names = do
  _ ← require 9 (NameRow.Required Required.Ord)
  _ ← require 10 (NameRow.Required Required.Chr)
  _ ← require 11 (NameRow.Required Required.Succ)
  require 12 (NameRow.Required Required.Pred)

unfoldable pub reading_names : Step (Unit {0})
reading_names = do
  _ ← require 13 (NameRow.Required Required.Eof)
  _ ← require 14 (NameRow.Required Required.Eoln)
  _ ← require 15 (NameRow.Required Required.Read)
  require 16 (NameRow.Required Required.Readln)

unfoldable pub writing_names : Step (Unit {0})
writing_names = do
  _ ← require 17 (NameRow.Required Required.Write)
  _ ← require 18 (NameRow.Required Required.Writeln)
  require 19 (NameRow.Required Required.Page)

unfoldable pub moving_names : Step (Unit {0})
moving_names = do
  _ ← require 20 (NameRow.Required Required.New)
  _ ← require 21 (NameRow.Required Required.Dispose)
  _ ← require 22 (NameRow.Required Required.Pack)
  require 23 (NameRow.Required Required.Unpack)

unfoldable pub file_names : Step (Unit {0})
file_names = do
  _ ← require 24 (NameRow.TextFile Input)
  require 25 (NameRow.TextFile Output)

unfoldable pub routine_names : Step (Unit {0})
routine_names = do
  _ ← arithmetic_names
  _ ← ordinal_names
  _ ← reading_names
  _ ← writing_names
  moving_names

unfoldable pub all_names : Step (Unit {0})
all_names = do
  _ ← type_names
  _ ← constant_names
  _ ← routine_names
  file_names

-- the outermost region with all required names; what is given is the number of its frame
unfoldable pub open_outermost : Step ℕ
open_outermost = do
  frame ← open_region 0 None 0
  _ ← ordinal_types
  _ ← all_names
  give frame
