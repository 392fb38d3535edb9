-- What a session asks of a value it finds in the fields that are kept of it.
use Rattle.std.proofs.Common.{if◌then◌else◌, ◌^◌, ◌∙◌, ◌≡◌, ℕ, BTreeMap, Bool, Bor, Global, IsTrue, List, None, Option, Some, String, ap, codes, false, nat_lt}
use Rattle.std.proofs.Common.{option_and_then, option_map, refl, rules, string_bytes, subst, sym, true, true≢false}
use Rattle.std.{proofs.lemmas.Slice.Eq.bytes_eq-Decides, specs.Result.result_ok, specs.Str.bytes_eq}
use Rattle.hex.specs.Hex.{decode_sized}
use Rattle.json.specs.{Reads.token_of, Token.Token}
use Rattle.json.specs.declared.token.Token as read_token
use Rattle.json.specs.declared.token.Token.TheVariants as variant
use Rattle.serde_json.proofs.Views.{get_member-put, get_member-put_other, view-Object}
use Rattle.serde_json.specs.{View.members_view, View.view, declared.value.Value.Object, declared.value.Value.Value, declared.value.Value.the_lemmas}
use Rattle.serde_json.specs.Data.{Data, Members, Num, array, boolean, float, negative, no_members, null, number, object, put, string, unsigned}
use Rattle.serde_json.specs.Find.{as_bool, as_number, as_str, as_u64, get, get_member}
use Rattle.serde_json.specs.declared.value.Value as value
use Rattle.answer_book.specs.declared.entries.{Entry.Entry, What.What, What.TheVariants.Judged, What.TheVariants.Trusted}
use Rattle.answer_book.specs.declared.entries.Judgement.{Judgement, TheVariants.Right, TheVariants.Unknown, TheVariants.Wrong}
use Rattle.session_file.specs.{Passing.Begins, Text.judgement_word}
use Rattle.session_file.specs.Reading.{digest_at, entry_in, if_there, judgement_of, note_in, only_if, reply_in, said_as, text_under, whole_under, word_under}
use Rattle.session_file.specs.Shown.{Shows, ShowsValue, flat, flat_number, flat_numeral, flat_token, is_field, is_opening, with_field}

-- ---- values without parts

pub view-null : view value.Null ≡ null
view-null = search (rules, the_lemmas)

pub view-boolean : (b : Bool) → view (value.Bool b) ≡ boolean b
view-boolean b = search (rules, the_lemmas)

pub view-string : (s : String Global) → view (value.String s) ≡ string (string_bytes s)
view-string s = search (rules, the_lemmas)

-- ---- a value by its first token

-- nothing is kept of a token that is no text, number or truth value
pub nothing_kept : (t : read_token.Token) → ((s : Bor (List ℕ)) → t ≡ variant.String s → ⊥) → ((s : Bor (List ℕ)) → t ≡ variant.Number s → ⊥)
    → ((b : Bool) → t ≡ variant.Bool b → ⊥) → null ≡ flat_token (token_of t)
nothing_kept variant.BeginObject no_text no_number no_truth = refl
nothing_kept variant.EndObject no_text no_number no_truth = refl
nothing_kept variant.BeginArray no_text no_number no_truth = refl
nothing_kept variant.EndArray no_text no_number no_truth = refl
nothing_kept (variant.Key s) no_text no_number no_truth = refl
nothing_kept (variant.String s) no_text no_number no_truth = absurd (no_text s refl)
nothing_kept (variant.Number s) no_text no_number no_truth = absurd (no_number s refl)
nothing_kept (variant.Bool b) no_text no_number no_truth = absurd (no_truth b refl)
nothing_kept variant.Null no_text no_number no_truth = refl
nothing_kept variant.Bad no_text no_number no_truth = refl

pub flat_begun : (t : Token) (d : Data) → Begins t d → flat d ≡ flat_token t
flat_begun t null b = sym (ap flat_token b)
flat_begun t (boolean x) b = sym (ap flat_token b)
flat_begun t (number n) b = sym (ap flat_token b.1 ∙ ap flat_numeral b.2)
flat_begun t (string s) b = sym (ap flat_token b)
flat_begun t (array ds) b = sym (ap flat_token b)
flat_begun t (object ms) b = sym (ap flat_token b)

-- the number of a numeral, if it is a whole one; every other numeral is as null
pub numeral_kept : (o : Option Num) (n : ℕ) → Some (Some n) ≡ option_map as_u64 o → number (unsigned n) ≡ flat_numeral o
numeral_kept None n e = absurd cc
numeral_kept (Some m) n e = let same : Some n ≡ as_u64 m = cc in ap flat_number same

pub numeral_null : (o : Option Num) → option_map as_u64 o ≡ Some None → null ≡ flat_numeral o
numeral_null None e = refl
numeral_null (Some m) e = let same : None ≡ as_u64 m = cc in ap flat_number same

pub numeral_none : (o : Option Num) → option_map as_u64 o ≡ None → null ≡ flat_numeral o
numeral_none None e = refl
numeral_none (Some m) e = absurd cc

-- a value that is no object has no fields
pub no_fields : (t : Token) (d : Data) → Begins t d → is_opening t ≡ false → ShowsValue null d
no_fields t null b e = record { each = λ key h. refl }
no_fields t (boolean x) b e = record { each = λ key h. refl }
no_fields t (number n) b e = record { each = λ key h. refl }
no_fields t (string s) b e = record { each = λ key h. refl }
no_fields t (array ds) b e = record { each = λ key h. refl }
no_fields t (object ms) b e = absurd (true≢false (sym (ap is_opening b) ∙ e))

-- ---- members one after another

pub none_shown : Shows no_members no_members
none_shown = record { each = λ key h. refl }

shown_by : (q k : List ℕ) (d : Data) (fields members : Members) (same : Bool) → bytes_eq q k ≡ same
    → get_member q fields ≡ option_map flat (get_member q members) → get_member q (put k (flat d) fields) ≡ option_map flat (get_member q (put k d members))
shown_by q k d fields members true e h =
    let is : q ≡ k = (bytes_eq-Decides q k).0 e in
    ap (λ x. get_member x (put k (flat d) fields)) is ∙ get_member-put k (flat d) fields
    ∙ sym (ap (λ x. option_map flat (get_member x (put k d members))) is ∙ ap (option_map flat) (get_member-put k d members))
shown_by q k d fields members false e h =
    let other = λ (s : q ≡ k). true≢false (sym ((bytes_eq-Decides q k).1 s) ∙ e) in
    get_member-put_other q k (flat d) fields other ∙ h ∙ ap (option_map flat) (sym (get_member-put_other q k d members other))

field_by : (k : List ℕ) (d : Data) (fields members : Members) (is : Bool) → is_field k ≡ is → Shows fields members
    → Shows (if is then put k (flat d) fields else fields) (put k d members)
field_by k d fields members true e s = record { each = λ q h. shown_by q k d fields members (bytes_eq q k) refl (s.each q h) }
field_by k d fields members false e s = record {
  each = λ q h. s.each q h ∙ ap (option_map flat) (sym (get_member-put_other q k d members (λ same. true≢false (sym h ∙ ap is_field same ∙ e))));
}

-- a member more
pub field_shown : (k : List ℕ) (d : Data) (fields members : Members) → Shows fields members → Shows (with_field k (flat d) fields) (put k d members)
field_shown k d fields members s = field_by k d fields members (is_field k) refl s

-- an object of the fields that are kept
pub object_shown : (m : BTreeMap (String Global) Value) (members : Members) → Shows (members_view m.entries) members
    → ShowsValue (view (Object m)) (object members)
object_shown m members s = subst (λ d. ShowsValue d (object members)) (sym (view-Object m)) (record { each = s.each })

-- ---- what is asked

text_flat : (o : Option Data) → option_and_then as_str (option_map flat o) ≡ option_and_then as_str o
text_flat None = refl
text_flat (Some null) = refl
text_flat (Some (boolean b)) = refl
text_flat (Some (number (unsigned n))) = refl
text_flat (Some (number (negative z))) = refl
text_flat (Some (number (float x))) = refl
text_flat (Some (string s)) = refl
text_flat (Some (array ds)) = refl
text_flat (Some (object ms)) = refl

whole_flat : (o : Option Data) → option_and_then as_u64 (option_and_then as_number (option_map flat o)) ≡ option_and_then as_u64 (option_and_then as_number o)
whole_flat None = refl
whole_flat (Some null) = refl
whole_flat (Some (boolean b)) = refl
whole_flat (Some (number (unsigned n))) = refl
whole_flat (Some (number (negative z))) = refl
whole_flat (Some (number (float x))) = refl
whole_flat (Some (string s)) = refl
whole_flat (Some (array ds)) = refl
whole_flat (Some (object ms)) = refl

truth_flat : (o : Option Data) → option_and_then as_bool (option_map flat o) ≡ option_and_then as_bool o
truth_flat None = refl
truth_flat (Some null) = refl
truth_flat (Some (boolean b)) = refl
truth_flat (Some (number (unsigned n))) = refl
truth_flat (Some (number (negative z))) = refl
truth_flat (Some (number (float x))) = refl
truth_flat (Some (string s)) = refl
truth_flat (Some (array ds)) = refl
truth_flat (Some (object ms)) = refl

note_flat : (o : Option Data) → if_there (option_map flat o) ≡ if_there o
note_flat None = refl
note_flat (Some null) = refl
note_flat (Some (boolean b)) = refl
note_flat (Some (number (unsigned n))) = refl
note_flat (Some (number (negative z))) = refl
note_flat (Some (number (float x))) = refl
note_flat (Some (string s)) = refl
note_flat (Some (array ds)) = refl
note_flat (Some (object ms)) = refl

-- what an entry of this kind says, by its two numbers
abbrev said_of : List ℕ → Option ℕ → Option ℕ → Option What
said_of kind routine call =
    if bytes_eq kind (judgement_word Right) then option_map (λ k. Judged k Right) call
    else if bytes_eq kind (judgement_word Wrong) then option_map (λ k. Judged k Wrong) call
    else if bytes_eq kind (judgement_word Unknown) then option_map (λ k. Judged k Unknown) call
    else if bytes_eq kind (codes "trust") then option_map Trusted routine
    else None

abbrev entry_of : (List ℕ → Option What) → Option Bool → Option (List ℕ) → Option Entry
entry_of said standing kind =
    option_and_then (λ what. option_map (λ s. record { what = what; standing = s }) standing) (option_and_then said kind)

abbrev reply_of : Option Judgement → Option (List ℕ) → Option (List ℕ × Judgement)
reply_of reply question = option_and_then (λ digest. option_map (λ r. (digest, r)) reply) question

module _ (shown d : Data) (s : ShowsValue shown d) where
  pub text_shown : (key : List ℕ) → IsTrue (is_field key) → text_under key shown ≡ text_under key d
  text_shown key h = ap (option_and_then as_str) (s.each key h) ∙ text_flat (get key d)

  pub whole_shown : (key : List ℕ) → IsTrue (is_field key) → whole_under key shown ≡ whole_under key d
  whole_shown key h = ap (λ o. option_and_then as_u64 (option_and_then as_number o)) (s.each key h) ∙ whole_flat (get key d)

  pub digest_shown : (key : List ℕ) → IsTrue (is_field key) → digest_at key shown ≡ digest_at key d
  digest_shown key h = ap (option_and_then (λ text. result_ok (decode_sized text 32))) (text_shown key h)

  said_shown : (kind : List ℕ) → said_as kind shown ≡ said_as kind d
  said_shown kind =
      ap (said_of kind (word_under (codes "routine") shown)) (ap (only_if (λ n. nat_lt n (2 ^ 32))) (whole_shown (codes "call") refl))
      ∙ ap (λ routine. said_of kind routine (word_under (codes "call") d)) (ap (only_if (λ n. nat_lt n (2 ^ 32))) (whole_shown (codes "routine") refl))

  kind_shown : (standing : Option Bool) (kind : Option (List ℕ)) → entry_of (λ k. said_as k shown) standing kind ≡ entry_of (λ k. said_as k d) standing kind
  kind_shown standing None = refl
  kind_shown standing (Some kind) =
      ap (λ said. option_and_then (λ what. option_map (λ t. record { what = what; standing = t }) standing) said) (said_shown kind)

  pub entry_shown : entry_in shown ≡ entry_in d
  entry_shown =
      ap (entry_of (λ kind. said_as kind shown) (option_and_then as_bool (get (codes "standing") shown))) (text_shown (codes "kind") refl)
      ∙ kind_shown (option_and_then as_bool (get (codes "standing") shown)) (text_under (codes "kind") d)
      ∙ ap (λ standing. entry_of (λ kind. said_as kind d) standing (text_under (codes "kind") d))
      (ap (option_and_then as_bool) (s.each (codes "standing") refl) ∙ truth_flat (get (codes "standing") d))

  pub note_shown : note_in shown ≡ note_in d
  note_shown = ap if_there (s.each (codes "note") refl) ∙ note_flat (get (codes "note") d)

  pub reply_shown : reply_in shown ≡ reply_in d
  reply_shown =
      ap (reply_of (option_and_then judgement_of (text_under (codes "reply") shown))) (digest_shown (codes "question") refl)
      ∙ ap (λ reply. reply_of reply (digest_at (codes "question") d)) (ap (option_and_then judgement_of) (text_shown (codes "reply") refl))
