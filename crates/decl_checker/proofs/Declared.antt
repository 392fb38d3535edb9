-- What the check of a program leaves.
use Rattle.std.proofs.Common.{◌∙◌, ◌≡◌, ℕ, Err, IfErr, IfOk, List, None, Ok, Result, ap, sym}
use Rattle.pas_lexer.specs.Lexed.{Lexed}
use Rattle.pas_tree.specs.BlockTrees.{ProgramTree}
use Rattle.check_steps.specs.{Known.Known, Steps.run_step, Words.known_at_start}
use Rattle.check_steps.specs.declared.{breaks.Break.Break, breaks.CheckFault.CheckFault, work.Work.Work}
use Rattle.decl_checker.specs.{Answers.EarlyFaultIs, Answers.HasFirst, Answers.IsWithoutEarly, Programs.broken_early, Programs.program_step, Programs.tables_of}

-- the first of the rules that the tree breaks, and the tables that it leaves
pub record Leaves (l : Lexed) (t : ProgramTree) (v : Work) : Type 0 where
  pub first : HasFirst (broken_early l t) v.least
  pub tables : v.tables ≡ tables_of l t

pub leaves : (l : Lexed) (t : ProgramTree) (w v : Work) {frame : ℕ} → w ≡ record { least = None; tables = known_at_start l }
    → run_step (program_step t) w ≡ (frame, v)
    → Leaves l t v
unfolding run_step
leaves l t w v {frame} is done =
    let made = ap (λ (x : Work). run_step (program_step t) x) (sym is) ∙ done in
    record {
      first = record { first_is = ap (λ (p : ℕ × Work). p.1.least) made };
      tables = sym (ap (λ (p : ℕ × Work). p.1.tables) made);
    }

pub told_tables : (r : Result Known CheckFault) (l : Lexed) (t : ProgramTree) (v : Work) → Leaves l t v → IfOk r (λ s. s ≡ v.tables)
    → IfOk r (λ s. s ≡ tables_of l t)
told_tables (Ok s) l t v left told = told ∙ left.tables
told_tables (Err e) l t v left told = told

pub told_unbroken : (r : Result Known CheckFault) (l : Lexed) (t : ProgramTree) (v : Work) → Leaves l t v
    → IfOk r (λ s. (bs : List Break) → HasFirst bs v.least → IsWithoutEarly bs) → IfOk r (λ s. IsWithoutEarly (broken_early l t))
told_unbroken (Ok s) l t v left told = told (broken_early l t) left.first
told_unbroken (Err e) l t v left told = told

pub told_fault : (r : Result Known CheckFault) (l : Lexed) (t : ProgramTree) (v : Work) → Leaves l t v
    → IfErr r (λ e. (bs : List Break) → HasFirst bs v.least → EarlyFaultIs bs e) → IfErr r (EarlyFaultIs (broken_early l t))
told_fault (Ok s) l t v left told = told
told_fault (Err e) l t v left told = told (broken_early l t) left.first
