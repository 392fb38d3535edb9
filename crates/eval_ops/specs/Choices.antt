-- What a case statement chooses.
use Rattle.cell_value.specs.declared.ways_out.Kind.{Kind}
use Rattle.core_program.specs.{Accesses.no_row, Acts.Fault}
use Rattle.core_program.specs.Tree.{ActTree, Exec, Halt, Here, Ret, Sub}
use Rattle.eval_ops.specs.declared.choices.CaseOutcome.{CaseOutcome}
use Rattle.eval_ops.specs.declared.choices.CaseOutcome.TheVariants.{Broken, NoCase, NoNumber, Statement}

-- what is done by the value of the index (6.8.3.5)
abbrev pub case_tree : Here → CaseOutcome → ActTree
case_tree h (Statement s) = Sub (Exec s h) Ret
case_tree h NoCase = Halt h.line (Fault Kind.NoCase)
case_tree h NoNumber = Halt h.line (Fault Kind.Undefined)
case_tree h Broken = no_row
