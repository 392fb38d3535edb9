-- Calls of required procedures (6.6.5, 6.9).
use Rattle.std.specs.Prelude.{ℕ, Option, false, true}
use Rattle.pas_tree.specs.StatementTrees.{ActualsTree}
use Rattle.core_program.specs.declared.rows.Required.{Required}
use Rattle.check_steps.specs.Steps.{Step, give}
use Rattle.statement_checker.specs.{Moves.pack_call, Moves.pointer_call, Transfers.page, Transfers.transfer_call}
use Rattle.statement_checker.specs.declared.actuals.RequiredCall.{RequiredCall}
use Rattle.statement_checker.specs.declared.transfers.Transfer.TheVariants.{Reading, Writing}

-- A call of a required procedure. A function is none.
abbrev pub required_call : Required → ℕ → RequiredCall → Option ActualsTree → Step ℕ
required_call Required.Read frame c a = transfer_call Reading false frame c a
required_call Required.Readln frame c a = transfer_call Reading true frame c a
required_call Required.Write frame c a = transfer_call Writing false frame c a
required_call Required.Writeln frame c a = transfer_call Writing true frame c a
required_call Required.Page frame c a = page frame c a
required_call Required.New frame c a = pointer_call true frame c a
required_call Required.Dispose frame c a = pointer_call false frame c a
required_call Required.Pack frame c a = pack_call true frame c a
required_call Required.Unpack frame c a = pack_call false frame c a
required_call r frame c a = give c.name
