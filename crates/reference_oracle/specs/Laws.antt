-- What holds of verdicts.
use Rattle.std.specs.Prelude.{ℕ, IsSome}
use Rattle.core_program.specs.WholeTables.{WholeTables}
use Rattle.program_run.specs.CalledFrom.{CanBeCalled}
use Rattle.reference_oracle.specs.{Fitting.Asked, Fitting.FitsReference, Verdicts.Says, Verdicts.verdict_on}
use Rattle.reference_oracle.specs.Answers.{answer_of, reference_entry}

-- the test says what verdicts are, for each reference with whole tables
abbrev pub VerdictsAreTested : Type 0
VerdictsAreTested = (a : Asked) → WholeTables a.programs.reference → Says a (verdict_on a)

-- from the state in which the reference is asked its routine can be called
abbrev pub ReferencesCanBeAsked : Type 0
ReferencesCanBeAsked = (a : Asked) (routine : ℕ) → FitsReference a routine
    → CanBeCalled a.programs.reference routine (reference_entry a)

-- and there is an answer
abbrev pub ReferencesAnswer : Type 0
ReferencesAnswer = (a : Asked) → WholeTables a.programs.reference → (routine : ℕ) → FitsReference a routine
    → IsSome (answer_of a routine)
