-- The lines, where the call at fault is found.
use Rattle.std.proofs.Common.{◌<◌, ◌∙◌, ◌≡◌, ℕ, Err, IfOk, List, Ok, Result, ap}
use Rattle.dialog_replies.specs.Subject.{Subject, calls_recorded}
use Rattle.made_program.specs.{Laws.EndsAtTheFault, Lines.fault_lines, Lines.made_lines, Lines.summary_lines}

fault_named : (s : Subject) → EndsAtTheFault s → made_lines s ≡ fault_lines s
unfolding made_lines
fault_named s found = ap (summary_lines s) found

pub with_fault : {E : Type 0} (s : Subject) (result : Result (List ℕ) E) → (calls_recorded s < 100000 → EndsAtTheFault s)
    → IfOk result (λ text. text ≡ made_lines s) → IfOk result (λ text. calls_recorded s < 100000 → text ≡ fault_lines s)
with_fault s (Ok text) finds is = λ few. is ∙ fault_named s (finds few)
with_fault s (Err fault) finds is = tt
