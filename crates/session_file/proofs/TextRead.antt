-- The session of a text by the value that stands at the front of its tokens.
use Rattle.std.proofs.Common.{◌∙◌, ◌∷◌, ◌≡◌, ◌⊎◌, [], Err, List, MatchOption, None, Option, Result, Some, ap, false, inl, inr, is_some, option_and_then}
use Rattle.std.proofs.Common.{option_map, refl, sym, true, true≢false}
use Rattle.json.specs.{Json.Json, Json.if_last, Json.value, Token.Token}
use Rattle.serde_json.specs.Data.{Data, array, boolean, null, number, object, string}
use Rattle.serde_json.specs.Read.{converted, max_depth, of_json}
use Rattle.session_file.specs.{Passing.Begins, Passing.value_read, Reading.session_in, Reading.session_or_fault, Reading.text_read, Shown.IsRefused}
use Rattle.session_file.specs.{Shown.is_opening, declared.session.Session.Session, declared.session.SessionField.TheVariants.Version}
use Rattle.session_file.specs.declared.session.LoadFault.{LoadFault, TheVariants.BadShape, TheVariants.Memory}

-- the value, if no token follows
abbrev alone : Option (Data × List Token) → Option Data
alone None = None
alone (Some (d, [])) = Some d
alone (Some (d, t ∷ ts)) = None

last_by : (x : Option Data) → x ≡ alone (option_map (λ d. (d, [])) x)
last_by None = refl
last_by (Some d) = refl

followed_by : (t : Token) (ts : List Token) (x : Option Data) → None ≡ alone (option_map (λ d. (d, t ∷ ts)) x)
followed_by t ts None = refl
followed_by t ts (Some d) = refl

text_by : (o : Option (Json × List Token)) → option_and_then of_json (option_and_then (λ p. if_last p.0 p.1) o) ≡ alone (converted of_json o)
text_by None = refl
text_by (Some (j, [])) = last_by (of_json j)
text_by (Some (j, t ∷ ts)) = followed_by t ts (of_json j)

-- what was read next, if that was nothing, left nothing
pub ended : {X : Type 0} (seen : X → Token) (o : Option X) (r rest : List Token) → MatchOption o ((r ≡ []) × (rest ≡ [])) (λ x. r ≡ seen x ∷ rest)
    → is_some o ≡ false → r ≡ []
ended seen None r rest next none = next.0
ended seen (Some x) r rest next none = absurd (true≢false none)

module _ (ts : List Token) where
  text_is : text_read ts ≡ alone (value_read max_depth ts)
  text_is = text_by (value max_depth ts)

  -- a value, and nothing after it
  pub text_whole : (r : List Token) (d : Data) → value_read max_depth ts ≡ Some (d, r) → r ≡ [] → text_read ts ≡ Some d
  text_whole r d read over = text_is ∙ ap alone (read ∙ ap (λ r. Some (d, r)) over)

  -- a token follows
  pub text_longer : (t : Token) (r rest : List Token) (d : Data) → value_read max_depth ts ≡ Some (d, r) → r ≡ t ∷ rest → text_read ts ≡ None
  text_longer t r rest d read more = text_is ∙ ap alone (read ∙ ap (λ r. Some (d, r)) more)

  -- what was read next, if that was something, follows the value
  pub text_followed : {X : Type 0} (seen : X → Token) (o : Option X) (r rest : List Token) (d : Data) → value_read max_depth ts ≡ Some (d, r)
      → MatchOption o ((r ≡ []) × (rest ≡ [])) (λ x. r ≡ seen x ∷ rest) → is_some o ≡ true → text_read ts ≡ None
  text_followed seen None r rest d read next some = absurd (true≢false (sym some))
  text_followed seen (Some x) r rest d read next some = text_longer (seen x) r rest d read next

  -- no value
  pub text_refused : value_read max_depth ts ≡ None → text_read ts ≡ None
  text_refused none = text_is ∙ ap alone none

-- what refuses a part of the text refuses it
pub refused_text : {A : Type 0} (fault : LoadFault) (part : Option A) (ts : List Token) → (part ≡ None → text_read ts ≡ None) → IsRefused fault part
    → (◌≡◌ {A = Result Session LoadFault} (Err fault) (Err Memory)) ⊎ (◌≡◌ {A = Result Session LoadFault} (Err fault) (session_or_fault (text_read ts)))
refused_text fault part ts none (inl memory) = inl (ap Err memory)
refused_text fault part ts none (inr refused) = inr (ap Err refused.0 ∙ sym (ap session_or_fault (none refused.1)))

-- a value that is no object has no version
pub no_session : (t : Token) (d : Data) → Begins t d → is_opening t ≡ false → session_in d ≡ Err (BadShape Version)
no_session t null b e = refl
no_session t (boolean x) b e = refl
no_session t (number n) b e = refl
no_session t (string s) b e = refl
no_session t (array ds) b e = refl
no_session t (object ms) b e = absurd (true≢false (sym (ap is_opening b) ∙ e))
