-- What the whole check of a program leaves, and what is told of it.
use Rattle.std.proofs.Common.{◌∙◌, ◌≡◌, [], ℕ, Err, IfErr, IfOk, List, None, Ok, Option, Result, Some, ap, subst, sym}
use Rattle.pas_lexer.specs.Lexed.{Lexed}
use Rattle.pas_tree.specs.BlockTrees.{ProgramTree}
use Rattle.core_program.specs.ProgramRows.{ProgramRows}
use Rattle.check_steps.proofs.First.{fault-first, first_of-none}
use Rattle.check_steps.specs.{Steps.run_step, Words.known_at_start, declared.breaks.Break.Break, declared.breaks.CheckFault.CheckFault, declared.work.Work.Work}
use Rattle.check_steps.specs.Breaks.{FaultIs, IsOfFirst, fault_at, fault_of, first_broken}
use Rattle.check_steps.specs.declared.breaks.Broken.{Broken, TheVariants.Early, TheVariants.Late, TheVariants.TooBig}
use Rattle.code_checker.specs.CheckedPrograms.{broken, check_step, program_of}

-- the first of what the tree breaks, and its program
pub record Leaves (l : Lexed) (t : ProgramTree) (v : Work) : Type 0 where
  pub first : first_broken (broken l t) None ≡ v.least
  pub program : v.tables.program ≡ program_of l t

pub leaves : (l : Lexed) (t : ProgramTree) (w v : Work) → w ≡ record { least = None; tables = known_at_start l } → run_step (check_step t) w ≡ (tt, v)
    → Leaves l t v
unfolding run_step
leaves l t w v is done =
    let made = ap (λ (x : Work). run_step (check_step t) x) (sym is) ∙ done in
    record {
      first = ap (λ (p : Unit {0} × Work). p.1.least) made;
      program = sym (ap (λ (p : Unit {0} × Work). p.1.tables.program) made);
    }

is_told : (bs : List Break) (what : Broken) (token : ℕ) → IsOfFirst bs (fault_at what token) → FaultIs bs (fault_at what token)
is_told bs (Early rule) token first = first
is_told bs (Late rule) token first = first
is_told bs TooBig token first = first

fault_told : (bs : List Break) (least : Option Break) (b : Break) (e : CheckFault) → first_broken bs None ≡ least → least ≡ Some b → e ≡ fault_of b
    → FaultIs bs e
fault_told bs least b e known is same =
    let P : CheckFault → Type 0 = λ x. FaultIs bs x in
    subst P (sym same) (is_told bs b.broken b.token (fault-first bs b (known ∙ is)))

pub told_program : (r : Result ProgramRows CheckFault) (l : Lexed) (t : ProgramTree) (v : Work) → Leaves l t v → IfOk r (λ p. p ≡ v.tables.program)
    → IfOk r (λ p. p ≡ program_of l t)
told_program (Ok p) l t v left told = told ∙ left.program
told_program (Err e) l t v left told = told

pub told_unbroken : (r : Result ProgramRows CheckFault) (l : Lexed) (t : ProgramTree) (v : Work) → Leaves l t v → IfOk r (λ _. v.least ≡ None)
    → IfOk r (λ _. broken l t ≡ [])
told_unbroken (Ok p) l t v left told = first_of-none (broken l t) (left.first ∙ told)
told_unbroken (Err e) l t v left told = told

pub told_fault : (r : Result ProgramRows CheckFault) (l : Lexed) (t : ProgramTree) (v : Work) → Leaves l t v
    → IfErr r (λ e. (b : Break) × (v.least ≡ Some b) × (e ≡ fault_of b)) → IfErr r (FaultIs (broken l t))
told_fault (Ok p) l t v left told = told
told_fault (Err e) l t v left told = fault_told (broken l t) v.least told.0 e left.first told.1 told.2
