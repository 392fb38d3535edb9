-- What is read of the tokens of a JSON text, as serde_json reads it, with the tokens that follow.
use Rattle.std.specs.Prelude.{◌≡◌, ℕ, List, Option, Some, length}
use Rattle.json.specs.Json as json
use Rattle.json.specs.Token.{Token}
use Rattle.serde_json.specs.Data.{Data, Items, Members, array, boolean, no_members, null, number, object, string}
use Rattle.serde_json.specs.Read.{converted, number_of, of_items, of_json, of_members}

-- a value, in which arrays and objects nest no deeper than this
abbrev pub value_read : (depth : ℕ) → List Token → Option (Data × List Token)
value_read depth ts = converted of_json (json.value depth ts)

-- the items of an array, to the bracket that closes it
abbrev pub items_read : (depth : ℕ) → List Token → Option (Items × List Token)
items_read depth ts = converted of_items (json.items (json.value depth) (length ts) ts)

-- the members of an object, to the brace that closes it
abbrev pub members_read : (depth : ℕ) → List Token → Option (Members × List Token)
members_read depth ts = converted (λ ms. of_members ms no_members) (json.members (json.value depth) (length ts) ts)

-- the value begins with this token
abbrev pub Begins : Token → Data → Type 0
Begins t null = t ≡ Token.null
Begins t (boolean b) = t ≡ Token.boolean b
Begins t (number n) = (s : List ℕ) × (t ≡ Token.number s) × (number_of s ≡ Some n)
Begins t (string s) = t ≡ Token.string s
Begins t (array ds) = t ≡ Token.begin_array
Begins t (object ms) = t ≡ Token.begin_object
