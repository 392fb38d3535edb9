use Rattle.std.proofs.Common.{◌∙◌, ℕ, Bool, Some, arith, length, sym}
use Rattle.core_program.specs.ProgramRows.{routine_at}
use Rattle.reference_oracle.proofs.HeadingsCompared.{name_passed}
use Rattle.reference_oracle.proofs.headings.namesake_of.Goals as goal
use Rattle.reference_oracle.specs.{Fitting.is_namesake, Shapes.programs}

pub routines-preserved : goal.routines-preserved
routines-preserved c =
    let ps = programs c.args.subject.now c.args.reference.now in
    let named : ℕ → Bool = λ s. is_namesake ps (Some c.args.routine) (routine_at c.args.reference.now s) in
    name_passed named c.routines.number (length c.args.reference.now.routines) (omega arith) (sym c.is_namesake.ensures ∙ c.if-is_namesake.false)
    ∙ c.routines.invariant
