-- What a session asks of a value: its fields, and of each of them a text, a whole number or a truth value.
use Rattle.std.specs.Prelude.{if◌then◌else◌, ◌||◌, ◌≡◌, ◌⊎◌, ℕ, Bool, IsTrue, List, None, Option, Some, codes, false}
use Rattle.std.specs.{Prelude.option_map, Prelude.true, Str.bytes_eq}
use Rattle.json.specs.Token.{Token}
use Rattle.serde_json.specs.{Find.as_u64, Find.get, Find.get_member, Read.number_of}
use Rattle.serde_json.specs.Data.{Data, Members, Num, array, boolean, null, number, object, put, string, unsigned}
use Rattle.session_file.specs.declared.session.LoadFault.{LoadFault, TheVariants.Memory, TheVariants.NotJson}

-- ---- keys

abbrev pub is_entry_field : List ℕ → Bool
is_entry_field key =
    bytes_eq key (codes "call") || bytes_eq key (codes "kind") || bytes_eq key (codes "note")
    || bytes_eq key (codes "routine") || bytes_eq key (codes "standing")

abbrev pub is_reply_field : List ℕ → Bool
is_reply_field key = bytes_eq key (codes "question") || bytes_eq key (codes "reply")

abbrev pub is_session_field : List ℕ → Bool
is_session_field key =
    bytes_eq key (codes "budget") || bytes_eq key (codes "input") || bytes_eq key (codes "source")
    || bytes_eq key (codes "version")

-- the key of a field that is no list
abbrev pub is_field : List ℕ → Bool
is_field key = is_entry_field key || is_reply_field key || is_session_field key

-- ---- values

-- a whole number; all other numbers are as null
abbrev pub flat_number : Option ℕ → Data
flat_number (Some n) = number (unsigned n)
flat_number None = null

-- what is kept of a value: lists and objects are as null
abbrev pub flat : Data → Data
flat null = null
flat (boolean b) = boolean b
flat (number n) = flat_number (as_u64 n)
flat (string s) = string s
flat (array ds) = null
flat (object ms) = null

abbrev pub flat_numeral : Option Num → Data
flat_numeral (Some n) = flat_number (as_u64 n)
flat_numeral None = null

-- what is kept of a value that begins with this token
abbrev pub flat_token : Token → Data
flat_token Token.begin_object = null
flat_token Token.end_object = null
flat_token Token.begin_array = null
flat_token Token.end_array = null
flat_token (Token.key s) = null
flat_token (Token.string s) = string s
flat_token (Token.number s) = flat_numeral (number_of s)
flat_token (Token.boolean b) = boolean b
flat_token Token.null = null
flat_token Token.bad = null

-- an object begins with this token
abbrev pub is_opening : Token → Bool
is_opening Token.begin_object = true
is_opening Token.end_object = false
is_opening Token.begin_array = false
is_opening Token.end_array = false
is_opening (Token.key s) = false
is_opening (Token.string s) = false
is_opening (Token.number s) = false
is_opening (Token.boolean b) = false
is_opening Token.null = false
is_opening Token.bad = false

-- an array begins with this token
abbrev pub is_list_opening : Token → Bool
is_list_opening Token.begin_object = false
is_list_opening Token.end_object = false
is_list_opening Token.begin_array = true
is_list_opening Token.end_array = false
is_list_opening (Token.key s) = false
is_list_opening (Token.string s) = false
is_list_opening (Token.number s) = false
is_list_opening (Token.boolean b) = false
is_list_opening Token.null = false
is_list_opening Token.bad = false

-- ---- members

-- the fields with one more member, if that is a field
abbrev pub with_field : (key : List ℕ) → Data → Members → Members
with_field key d fields = if is_field key then put key d fields else fields

-- under the key of each field stands what is kept of the member
pub record Shows (fields members : Members) : Type 0 where
  pub each : (key : List ℕ) → IsTrue (is_field key) → get_member key fields ≡ option_map flat (get_member key members)

pub record ShowsValue (shown d : Data) : Type 0 where
  pub each : (key : List ℕ) → IsTrue (is_field key) → get key shown ≡ option_map flat (get key d)

-- ---- refusals

-- memory ran out, or nothing can be read
abbrev pub IsRefused : {A : Type 0} → LoadFault → Option A → Type 0
IsRefused fault read = (fault ≡ Memory) ⊎ ((fault ≡ NotJson) × (read ≡ None))
