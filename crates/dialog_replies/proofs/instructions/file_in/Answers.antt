use Rattle.std.proofs.Common.{◌≡◌, ℕ, Bool, List, None, Some, ap, false, refl, true}
use Rattle.std.{proofs.lemmas.Str.IsUtf8-from_is_utf8, proofs.lemmas.Str.is_utf8-from_IsUtf8, specs.Str.IsUtf8, specs.Str.is_utf8}
use Rattle.dialog_replies.proofs.instructions.file_in.Goals as goal
use Rattle.dialog_replies.specs.Instructions.{file_named}

no_file : (word : List ℕ) (b : Bool) → is_utf8 word ≡ b → (IsUtf8 word → ⊥) → None ≡ file_named word
no_file word true e none = absurd (none (IsUtf8-from_is_utf8 word e))
no_file word false e none = rw e refl

pub returns-in-Ok : goal.returns-in-Ok
returns-in-Ok c =
    rw (is_utf8-from_IsUtf8 c.args.word.now c.in-Ok.ensures.cases.1) (ap Some c.in-Ok.ensures.cases.0)

pub returns-in-Err : goal.returns-in-Err
returns-in-Err c = no_file c.args.word.now (is_utf8 c.args.word.now) refl c.in-Err.ensures.cases.0
