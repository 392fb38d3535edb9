-- Type denoters without others inside: names, enumerations, subranges, pointers; and sets of a base.
use Rattle.std.specs.Prelude.{if◌then◌else◌, ◌&&◌, ◌+ℤ◌, ℕ, ℤ, Bool, None, Option, Some, false, nat_eq, negsuc, pos}
use Rattle.std.specs.{Prelude.true, Prelude.unwrap_or, Int.RustNames.int_le, Int.RustNames.int_lt}
use Rattle.pas_tree.specs.DenoterTrees.{EnumerationTree}
use Rattle.core_program.specs.declared.rows.{NameRow.NameRow, Row.Row, TypeRow.TypeRow}
use Rattle.check_steps.specs.{Known.Known, Known.row_at, Known.type_at, Names.use_at}
use Rattle.check_steps.specs.Steps.{◌>>=◌, Step, early, give, late, look, put}
use Rattle.check_steps.specs.declared.regions.{Def.Def, Found.Found}
use Rattle.kind_checker.specs.{Names.each_name, Sizes.is_ordinal, Sizes.is_within_bytes, declared.types.Scope.Scope}
use Rattle.kind_checker.specs.declared.constants.ConstantValue.{ConstantValue, TheVariants.Ordinal}

-- ---- names

abbrev pub is_type_def : Def → Bool
is_type_def (Def.TypeName n) = true
is_type_def d = false

-- A name of unknown meaning breaks no further rule.
abbrev pub is_type_name : Option Found → Bool
is_type_name None = true
is_type_name (Some f) = is_type_def f.definition.def

-- the type for which a name stands by its row, and else this number
abbrev pub type_named : Row → ℕ → ℕ
type_named (Row.Name (NameRow.TypeName of')) otherwise = of'
type_named r otherwise = otherwise

abbrev pub type_of : Known → Option Found → ℕ → ℕ
type_of k None token = token
type_of k (Some f) token = type_named (row_at k f.definition.token) token

-- rule 3: the name stands for another kind of thing
unfoldable pub named_type : ℕ → ℕ → Step ℕ
named_type frame token = do
  found ← use_at frame token token
  _ ← late 3 token (is_type_name found)
  look (λ k. type_of k found token)

-- ---- subranges

-- a constant of unknown value breaks no further rule
abbrev pub is_range : Option ConstantValue → Option ConstantValue → Bool
is_range (Some (Ordinal g a)) (Some (Ordinal h b)) = nat_eq g h && int_le a b
is_range (Some a) (Some b) = false
is_range a b = true

abbrev pub range_row : Option ConstantValue → Option ConstantValue → Row
range_row (Some (Ordinal g a)) (Some (Ordinal h b)) =
    if nat_eq g h && int_le a b then Row.Type (TypeRow.Subrange g a b) else Row.Nothing
range_row a b = Row.Nothing

-- rule 5: a subrange's constants are not of one ordinal type, or the first is greater
unfoldable pub subrange : Option ConstantValue → ℕ → Option ConstantValue → Step ℕ
subrange first dots last = do
  _ ← early 5 dots (is_range first last)
  _ ← put dots (range_row first last)
  give dots

-- ---- enumerations

-- the ordinal after this one, of which there is none after the greatest integer
abbrev pub successor : ℤ → ℤ
successor v = if int_lt v (pos 2147483647) then v +ℤ pos 1 else v

-- one more constant of an enumeration, after the one of this ordinal; its own ordinal is given
unfoldable pub enumerated : ℕ → ℤ → ℕ → Step ℤ
enumerated of' last name = do
  _ ← put name (Row.Name (NameRow.Constant of' (successor last)))
  give (successor last)

-- the constants have the ordinals from 0 on
unfoldable pub enumeration : EnumerationTree → Step ℕ
enumeration e = do
  greatest ← each_name (enumerated e.left) (negsuc 0) e.names
  _ ← put e.left (Row.Type (TypeRow.Ordinal (pos 0) greatest))
  give e.left

-- ---- pointers

-- the token as at which the domain's name is looked up
abbrev pub looked_up_as : Scope → ℕ → ℕ
looked_up_as s name = unwrap_or s.domains_at name

abbrev pub definition_of : Option Found → ℕ → ℕ
definition_of None name = name
definition_of (Some f) name = f.definition.token

-- Where the domain may be defined later in the same part, its definition alone is known so far.
abbrev pub domain_named : Known → Option ℕ → Option Found → ℕ → ℕ
domain_named k None found name = type_of k found name
domain_named k (Some at) found name = definition_of found name

unfoldable pub pointer_type : Scope → ℕ → ℕ → Step ℕ
pointer_type s caret name = do
  found ← use_at s.frame (looked_up_as s name) name
  _ ← late 3 name (is_type_name found)
  domain ← look (λ k. domain_named k s.domains_at found name)
  _ ← put caret (Row.Type (TypeRow.Pointer domain))
  give caret

-- ---- sets, and types that are to be ordinal

-- Rule 6: an index, set base or tag is not ordinal. A number at which no type stands then takes its place.
unfoldable pub ordinal : ℕ → ℕ → ℕ → Step ℕ
ordinal first unknown t = do
  fine ← look (λ k. is_ordinal (type_at k t))
  _ ← late 6 first fine
  give (if fine then t else unknown)

-- rule 7: a set's base type has a value outside 0 to 255
unfoldable pub base_type : ℕ → ℕ → ℕ → Step ℕ
base_type first unknown t = do
  base ← ordinal first unknown t
  fine ← look (λ k. is_within_bytes (type_at k base))
  _ ← early 7 first fine
  give base

-- a set type, at its word `set`
unfoldable pub set_type : Bool → ℕ → ℕ → ℕ → ℕ → Step ℕ
set_type packed word first unknown t = do
  base ← base_type first unknown t
  _ ← put word (Row.Type (TypeRow.Set packed base))
  give word
