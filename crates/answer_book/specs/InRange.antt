-- What entries name.
use Rattle.std.specs.Prelude.{◌<◌, ℕ}
use Rattle.answer_book.specs.declared.entries.What.{What, TheVariants.Judged, TheVariants.Trusted}

-- a call, of which there are this many, or a routine, of which there are that many
abbrev pub IsInRange : ℕ → ℕ → What → Type 0
IsInRange calls routines (Judged call judgement) = call < calls
IsInRange calls routines (Trusted routine) = routine < routines
