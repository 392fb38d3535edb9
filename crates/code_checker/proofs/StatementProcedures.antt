-- What the steps of `Rattle.statement_checker.specs.Procedures` keep.
use Rattle.std.proofs.Common.{◌<◌, ℕ, Bool, Option, false, true}
use Rattle.pas_tree.specs.{StatementTrees.ActualsTree, TreeNodes.call_node}
use Rattle.core_program.specs.declared.rows.Required.{Required}
use Rattle.statement_checker.specs.Procedures.{required_call}
use Rattle.statement_checker.specs.declared.{actuals.RequiredCall.RequiredCall, transfers.Transfer.TheVariants.Reading, transfers.Transfer.TheVariants.Writing}
use Rattle.code_checker.proofs.{StatementMoves.pack_call-holds, StatementMoves.pointer_call-holds, Steps.Holds, Steps.give-holds, Within.Within}
use Rattle.code_checker.proofs.StatementTransfers.{page-holds, transfer_call-holds}

pub required_call-holds : {size : ℕ} {later : Bool} (r : Required) (frame : ℕ) (c : RequiredCall) (a : Option ActualsTree) → c.name < size
    → Within size (call_node a) → Holds size later (required_call r frame c a)
required_call-holds Required.Read frame c a c-in a-in = transfer_call-holds Reading false frame c a c-in a-in
required_call-holds Required.Readln frame c a c-in a-in = transfer_call-holds Reading true frame c a c-in a-in
required_call-holds Required.Write frame c a c-in a-in = transfer_call-holds Writing false frame c a c-in a-in
required_call-holds Required.Writeln frame c a c-in a-in = transfer_call-holds Writing true frame c a c-in a-in
required_call-holds Required.Page frame c a c-in a-in = page-holds frame c a c-in a-in
required_call-holds Required.New frame c a c-in a-in = pointer_call-holds true frame c a c-in a-in
required_call-holds Required.Dispose frame c a c-in a-in = pointer_call-holds false frame c a c-in a-in
required_call-holds Required.Pack frame c a c-in a-in = pack_call-holds true frame c a c-in a-in
required_call-holds Required.Unpack frame c a c-in a-in = pack_call-holds false frame c a c-in a-in
required_call-holds r frame c a c-in a-in = give-holds c.name
