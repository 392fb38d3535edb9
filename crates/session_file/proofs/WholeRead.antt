-- What is read of a part of a value, or refused, is so of the whole.
use Rattle.std.proofs.Common.{◌-◌, ◌<◌, ◌∙◌, ◌∷◌, ◌≡◌, [], ℕ, List, None, Option, ap, inl, inr, refl, sym, true, true≢false}
use Rattle.json.{proofs.Grammar.value_is, specs.Json.parse_map, specs.Json.value, specs.Token.Token}
use Rattle.serde_json.specs.{Data.array, Data.object, Read.converted, Read.of_json}
use Rattle.session_file.proofs.PassTurns.{array_opened, object_opened}
use Rattle.session_file.specs.{Shown.IsRefused, Shown.is_list_opening, Shown.is_opening, declared.session.LoadFault.LoadFault}
use Rattle.session_file.specs.Passing.{items_read, members_read, value_read}

-- what refuses a part refuses the whole
pub refused_with : {A B : Type 0} (fault : LoadFault) (part : Option A) (whole : Option B) → (part ≡ None → whole ≡ None) → IsRefused fault part
    → IsRefused fault whole
refused_with fault part whole none (inl memory) = inl memory
refused_with fault part whole none (inr refused) = inr (refused.0, none refused.1)

-- no value stands where no token is left
pub nothing_read : (depth : ℕ) (ts : List Token) → ts ≡ [] → value_read depth ts ≡ None
nothing_read depth ts empty = ap (converted of_json) (ap (value depth) empty ∙ value_is depth [])

-- ---- by the first token

opening : (t : Token) → is_opening t ≡ true → t ≡ Token.begin_object
opening Token.begin_object e = refl
opening Token.end_object e = absurd (true≢false (sym e))
opening Token.begin_array e = absurd (true≢false (sym e))
opening Token.end_array e = absurd (true≢false (sym e))
opening (Token.key s) e = absurd (true≢false (sym e))
opening (Token.string s) e = absurd (true≢false (sym e))
opening (Token.number s) e = absurd (true≢false (sym e))
opening (Token.boolean b) e = absurd (true≢false (sym e))
opening Token.null e = absurd (true≢false (sym e))
opening Token.bad e = absurd (true≢false (sym e))

list_opening : (t : Token) → is_list_opening t ≡ true → t ≡ Token.begin_array
list_opening Token.begin_object e = absurd (true≢false (sym e))
list_opening Token.end_object e = absurd (true≢false (sym e))
list_opening Token.begin_array e = refl
list_opening Token.end_array e = absurd (true≢false (sym e))
list_opening (Token.key s) e = absurd (true≢false (sym e))
list_opening (Token.string s) e = absurd (true≢false (sym e))
list_opening (Token.number s) e = absurd (true≢false (sym e))
list_opening (Token.boolean b) e = absurd (true≢false (sym e))
list_opening Token.null e = absurd (true≢false (sym e))
list_opening Token.bad e = absurd (true≢false (sym e))

module _ (depth : ℕ) (ts r : List Token) (t : Token) (there : ts ≡ t ∷ r) (deep : 0 < depth) where
  -- an object is read by its members
  pub object_read : is_opening t ≡ true → value_read depth ts ≡ parse_map object (members_read (depth - 1) r)
  object_read opens = ap (value_read depth) (there ∙ ap (λ k. k ∷ r) (opening t opens)) ∙ object_opened depth r deep

  -- an array is read by its items
  pub array_read : is_list_opening t ≡ true → value_read depth ts ≡ parse_map array (items_read (depth - 1) r)
  array_read opens = ap (value_read depth) (there ∙ ap (λ k. k ∷ r) (list_opening t opens)) ∙ array_opened depth r deep
