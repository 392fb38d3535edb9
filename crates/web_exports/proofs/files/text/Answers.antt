use Rattle.std.proofs.Common.{◌≡◌, ℕ, List, Some, ap, false, inl, inr, refl}
use Rattle.std.proofs.lemmas.{Bool.cases_Bool, Str.IsUtf8-from_is_utf8, Str.is_utf8-from_IsUtf8}
use Rattle.std.specs.Str.{IsUtf8, is_utf8}
use Rattle.web_exports.proofs.files.text.Goals as goal

no_text : (bytes : List ℕ) → (IsUtf8 bytes → ⊥) → is_utf8 bytes ≡ false
no_text bytes none = elim (cases_Bool (is_utf8 bytes)) [ inl t ↦ absurd (none (IsUtf8-from_is_utf8 bytes t)) | inr f ↦ f ]

pub returns-in-Ok : goal.returns-in-Ok
returns-in-Ok c = rw (is_utf8-from_IsUtf8 c.args.bytes.now c.in-Ok.ensures.cases.1) (ap Some c.in-Ok.ensures.cases.0)

pub returns-in-Err : goal.returns-in-Err
returns-in-Err c = rw (no_text c.args.bytes.now c.in-Err.ensures.cases.0) refl
