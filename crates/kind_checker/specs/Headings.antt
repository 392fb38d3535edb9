-- Headings and their sections, by what a check knows (6.6.3.6).
use Rattle.std.specs.Prelude.{ℕ, Bool, Option, length}
use Rattle.check_steps.specs.Headings as headings
use Rattle.check_steps.specs.Known.{Known}
use Rattle.check_steps.specs.declared.headings.{FormalSection.FormalSection, Signature.Signature}

-- the parameters and the result of a heading; where none stands, those of a procedure without parameters
abbrev pub signature_at : Known → ℕ → Signature
signature_at k n = headings.signature_at k.program n

-- the section at a number and the number of the next one; none where the list ends
abbrev pub section_at : Known → ℕ → Option (FormalSection × ℕ)
section_at k at = headings.section_at k.program at

-- Congruous headings. No list has more sections than there are tokens.
abbrev pub congruous : Known → ℕ → ℕ → Bool
congruous k g h = headings.congruous (length k.words) k.program g h
