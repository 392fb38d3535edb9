-- What the steps of `Rattle.statement_checker.specs.Procedures` touch.
use Rattle.std.proofs.Common.{ℕ, Option, false, true}
use Rattle.pas_tree.specs.{StatementTrees.ActualsTree, TreeNodes.call_node}
use Rattle.core_program.specs.declared.rows.Required.{Required}
use Rattle.statement_checker.specs.Procedures.{required_call}
use Rattle.statement_checker.specs.declared.{actuals.RequiredCall.RequiredCall, transfers.Transfer.TheVariants.Reading, transfers.Transfer.TheVariants.Writing}
use Rattle.rule_laws.proofs.{Every.Every, Every.Of, Faces.Shown, StatementMoves.pack_call-touches, StatementMoves.pointer_call-touches}
use Rattle.rule_laws.proofs.{StatementTransfers.page-touches, StatementTransfers.transfer_call-touches, Touches.Touches, Touches.give-touches}

pub required_call-touches : {Q : ℕ → Type 0} {strict : Shown} (r : Required) (frame : ℕ) (c : RequiredCall) (a : Option ActualsTree) → Of Q c.name
    → Every Q (call_node a) → Touches Q strict (required_call r frame c a)
required_call-touches Required.Read frame c a c-in a-in = transfer_call-touches Reading false frame c a c-in a-in
required_call-touches Required.Readln frame c a c-in a-in = transfer_call-touches Reading true frame c a c-in a-in
required_call-touches Required.Write frame c a c-in a-in = transfer_call-touches Writing false frame c a c-in a-in
required_call-touches Required.Writeln frame c a c-in a-in = transfer_call-touches Writing true frame c a c-in a-in
required_call-touches Required.Page frame c a c-in a-in = page-touches frame c a c-in a-in
required_call-touches Required.New frame c a c-in a-in = pointer_call-touches true frame c a c-in a-in
required_call-touches Required.Dispose frame c a c-in a-in = pointer_call-touches false frame c a c-in a-in
required_call-touches Required.Pack frame c a c-in a-in = pack_call-touches true frame c a c-in a-in
required_call-touches Required.Unpack frame c a c-in a-in = pack_call-touches false frame c a c-in a-in
required_call-touches r frame c a c-in a-in = give-touches c.name
