-- What bytes are, once they are known to be a text or not.
use Rattle.std.proofs.Common.{if◌then◌else◌, ◌≡◌, ℕ, Bool, Err, IsUtf8, List, None, false, refl, true}
use Rattle.std.{proofs.lemmas.Str.IsUtf8-from_is_utf8, proofs.lemmas.Str.is_utf8-from_IsUtf8, specs.Str.is_utf8}
use Rattle.serde_json.specs.Read.{read}
use Rattle.session_file.specs.{Reading.session_of, Reading.session_or_fault, declared.session.LoadFault.TheVariants.NotJson}

pub is_text : (bytes : List ℕ) → IsUtf8 bytes → session_of bytes ≡ session_or_fault (read bytes)
unfolding session_of
is_text bytes utf8 = rw (is_utf8-from_IsUtf8 bytes utf8)

no_text_by : (bytes : List ℕ) (b : Bool) → is_utf8 bytes ≡ b → (IsUtf8 bytes → ⊥) → session_or_fault (if b then read bytes else None) ≡ Err NotJson
no_text_by bytes true e none = absurd (none (IsUtf8-from_is_utf8 bytes e))
no_text_by bytes false e none = refl

pub no_text : (bytes : List ℕ) → (IsUtf8 bytes → ⊥) → session_of bytes ≡ Err NotJson
unfolding session_of
no_text bytes none = no_text_by bytes (is_utf8 bytes) refl none
