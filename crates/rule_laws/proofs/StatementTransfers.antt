-- What the steps of `Rattle.statement_checker.specs.Transfers` touch.
use Rattle.std.proofs.Common.{ℕ, Bool, None, Option, Some, false, length, nat_eq, refl, true}
use Rattle.pas_tree.specs.ExpressionPlaces.{first_of_expression}
use Rattle.pas_tree.specs.StatementTrees.{ActualTree, ActualsTree, NextActualTree, WidthTree}
use Rattle.pas_tree.specs.TreeNodes.{actual_node, actuals_node, call_node, next_actual_node, width_node}
use Rattle.core_program.specs.declared.rows.{ItemRow.ItemRow, StatementRow.StatementRow, TextFile.TextFile}
use Rattle.kind_checker.specs.{Operators.is_operand, Operators.is_unknown_shape, Shapes.shape_of}
use Rattle.expression_checker.specs.{NamesAlone.name_alone, declared.typed.Typed.Typed}
use Rattle.statement_checker.specs.{Actuals.actual_file, declared.actuals.RequiredCall.RequiredCall}
use Rattle.statement_checker.specs.Transfers.{another_item, first_item, is_enough, is_file_of, is_readable, is_writable, item_by, items, list_of, page}
use Rattle.statement_checker.specs.Transfers.{page_one, page_other, page_some, paged, put_written, read_item, transfer_alone, transfer_call, transfer_row}
use Rattle.statement_checker.specs.Transfers.{transfer_with, width, write_item, written_item}
use Rattle.statement_checker.specs.declared.transfers.Transfer.{Transfer, TheVariants.Reading, TheVariants.Writing}
use Rattle.rule_laws.proofs.{CheckItems.add_item-touches, Every.Every, Every.Of, ExpressionExpressions.expression-touches}
use Rattle.rule_laws.proofs.{ExpressionThreats.threat_alone-touches, Faces.Shown, Parts.name_alone-in, StatementActuals.plain_actual-touches}
use Rattle.rule_laws.proofs.{StatementActuals.wrong_number-touches, StatementSequences.stated-touches, TokenPlaces.first_of_expression-in}
use Rattle.rule_laws.proofs.Touches.{Touches, bind-touches, each-touches, give-touches, late-touches, look-touches}

pub read_item-touches : {Q : ℕ → Type 0} {strict : Shown} (frame : ℕ) (last : ℕ) (slot : ℕ) (a : ActualTree) → Of Q slot → Every Q (actual_node a)
    → Touches Q strict (read_item frame last slot a)
unfolding read_item
read_item-touches {Q = Q} frame last slot a slot-in a-in =
    bind-touches (threat_alone-touches frame (name_alone a.expression) (name_alone-in Q a.expression a-in.0)) (λ _.
    bind-touches (plain_actual-touches frame a a-in) (λ v. bind-touches (look-touches (λ k. is_readable k v)) (λ fine.
    bind-touches (late-touches 32 (first_of_expression a.expression) fine refl (first_of_expression-in a.expression a-in.0)) (λ _.
    add_item-touches last slot (ItemRow.Element v.row 0) slot-in))))

pub width-touches : {Q : ℕ → Type 0} {strict : Shown} (frame : ℕ) (w : WidthTree) → Every Q (width_node (Some w)) → Touches Q strict (width frame w)
unfolding width
width-touches frame w w-in = bind-touches (expression-touches frame w.width w-in.1)
    (λ v. bind-touches (look-touches (λ k. is_operand 0 (shape_of k v.of))) (λ fine.
    bind-touches (late-touches 33 w.colon fine refl w-in.0) (λ _. give-touches v.row)))

pub put_written-touches : {Q : ℕ → Type 0} {strict : Shown} (frame : ℕ) (last : ℕ) (v : Typed) (slot : ℕ) (width' : Option WidthTree) → Of Q slot
    → Every Q (width_node width')
    → Touches Q strict (put_written frame last v slot width')
put_written-touches frame last v slot None slot-in width-in = add_item-touches last slot (written_item v None) slot-in
put_written-touches frame last v slot (Some w) slot-in width-in =
    bind-touches (width-touches frame w width-in) (λ n. add_item-touches last slot (written_item v (Some n)) slot-in)

pub write_item-touches : {Q : ℕ → Type 0} {strict : Shown} (frame : ℕ) (last : ℕ) (slot : ℕ) (a : ActualTree) → Of Q slot → Every Q (actual_node a)
    → Touches Q strict (write_item frame last slot a)
unfolding write_item
write_item-touches frame last slot a slot-in a-in = bind-touches (expression-touches frame a.expression a-in.0) (λ v. bind-touches (look-touches
    (λ k. is_writable (shape_of k v.of))) (λ fine.
    bind-touches (late-touches 32 (first_of_expression a.expression) fine refl (first_of_expression-in a.expression a-in.0)) (λ _.
    put_written-touches frame last v slot a.width slot-in a-in.1)))

pub item_by-touches : {Q : ℕ → Type 0} {strict : Shown} (x_transfer : Transfer) (frame : ℕ) (last : ℕ) (slot : ℕ) (a : ActualTree) → Of Q slot
    → Every Q (actual_node a)
    → Touches Q strict (item_by x_transfer frame last slot a)
item_by-touches Reading frame last slot a slot-in a-in = read_item-touches frame last slot a slot-in a-in
item_by-touches Writing frame last slot a slot-in a-in = write_item-touches frame last slot a slot-in a-in

pub another_item-touches : {Q : ℕ → Type 0} {strict : Shown} (t : Transfer) (frame : ℕ) (last : ℕ) (n : NextActualTree) → Every Q (next_actual_node n)
    → Touches Q strict (another_item t frame last n)
another_item-touches t frame last n n-in = item_by-touches t frame last n.comma n.actual n-in.0 n-in.1

pub first_item-touches : {Q : ℕ → Type 0} {strict : Shown} (t : Transfer) (frame : ℕ) (last : ℕ) (slot : ℕ) (a : ActualTree) (x_text_file : Option TextFile)
    → Of Q slot → Every Q (actual_node a) → Touches Q strict (first_item t frame last slot a x_text_file)
first_item-touches t frame last slot a None slot-in a-in = item_by-touches t frame last slot a slot-in a-in
first_item-touches t frame last slot a (Some file) slot-in a-in =
    bind-touches (late-touches 32 (first_of_expression a.expression) (is_file_of t file) refl (first_of_expression-in a.expression a-in.0))
    (λ _. give-touches last)

pub items-touches : {Q : ℕ → Type 0} {strict : Shown} (t : Transfer) (frame : ℕ) (name : ℕ) (a : ActualsTree) (file : Option TextFile)
    → Every Q (actuals_node a)
    → Touches Q strict (items t frame name a file)
unfolding items
items-touches t frame name a file a-in = bind-touches (first_item-touches t frame name a.left a.first file a-in.0 a-in.1.0) (λ one.
    bind-touches (each-touches (another_item t frame) next_actual_node (λ a x h. another_item-touches t frame a x h) one a.others a-in.1.1.0) (λ _.
    give-touches (list_of file a)))

pub transfer_with-touches : {Q : ℕ → Type 0} {strict : Shown} (t : Transfer) (ends_line : Bool) (frame : ℕ) (c : RequiredCall) (a : ActualsTree) → Of Q c.name
    → Every Q (actuals_node a) → Touches Q strict (transfer_with t ends_line frame c a)
unfolding transfer_with
transfer_with-touches t ends_line frame c a c-in a-in = bind-touches (look-touches (λ k. actual_file k frame a.first)) (λ file.
    bind-touches (late-touches 26 c.name (is_enough ends_line file a) refl c-in) (λ _. bind-touches (items-touches t frame c.name a file a-in) (λ list.
    stated-touches c.name (transfer_row t ends_line c.line list) c-in)))

pub transfer_alone-touches : {Q : ℕ → Type 0} {strict : Shown} (t : Transfer) (ends_line : Bool) (c : RequiredCall) → Of Q c.name
    → Touches Q strict (transfer_alone t ends_line c)
unfolding transfer_alone
transfer_alone-touches t ends_line c c-in = bind-touches (late-touches 26 c.name ends_line refl c-in)
    (λ _. stated-touches c.name (transfer_row t ends_line c.line 0) c-in)

pub transfer_call-touches : {Q : ℕ → Type 0} {strict : Shown} (t : Transfer) (ends_line : Bool) (frame : ℕ) (c : RequiredCall) (actuals : Option ActualsTree)
    → Of Q c.name → Every Q (call_node actuals) → Touches Q strict (transfer_call t ends_line frame c actuals)
transfer_call-touches t ends_line frame c None c-in actuals-in = transfer_alone-touches t ends_line c c-in
transfer_call-touches t ends_line frame c (Some a) c-in actuals-in = transfer_with-touches t ends_line frame c a c-in actuals-in

pub page_other-touches : {Q : ℕ → Type 0} {strict : Shown} (frame : ℕ) (a : ActualTree) → Every Q (actual_node a) → Touches Q strict (page_other frame a)
unfolding page_other
page_other-touches frame a a-in = bind-touches (plain_actual-touches frame a a-in)
    (λ v. bind-touches (look-touches (λ k. is_unknown_shape (shape_of k v.of))) (λ fine.
    late-touches 32 (first_of_expression a.expression) fine refl (first_of_expression-in a.expression a-in.0)))

pub paged-touches : {Q : ℕ → Type 0} {strict : Shown} (frame : ℕ) (a : ActualTree) (x_text_file : Option TextFile) → Every Q (actual_node a)
    → Touches Q strict (paged frame a x_text_file)
paged-touches frame a None a-in = page_other-touches frame a a-in
paged-touches frame a (Some file) a-in =
    late-touches 32 (first_of_expression a.expression) (is_file_of Writing file) refl (first_of_expression-in a.expression a-in.0)

pub page_one-touches : {Q : ℕ → Type 0} {strict : Shown} (frame : ℕ) (c : RequiredCall) (a : ActualTree) → Of Q c.name → Every Q (actual_node a)
    → Touches Q strict (page_one frame c a)
unfolding page_one
page_one-touches frame c a c-in a-in = bind-touches (look-touches (λ k. actual_file k frame a)) (λ file. bind-touches (paged-touches frame a file a-in) (λ _.
    stated-touches c.name (StatementRow.Page c.line) c-in))

pub page_some-touches : {Q : ℕ → Type 0} {strict : Shown} (frame : ℕ) (c : RequiredCall) (a : ActualsTree) (bool : Bool) → Of Q c.name
    → Every Q (actuals_node a)
    → Touches Q strict (page_some frame c a bool)
page_some-touches frame c a true c-in a-in = page_one-touches frame c a.first c-in a-in.1.0
page_some-touches frame c a false c-in a-in = wrong_number-touches frame c.name a c-in a-in

pub page-touches : {Q : ℕ → Type 0} {strict : Shown} (frame : ℕ) (c : RequiredCall) (actuals : Option ActualsTree) → Of Q c.name → Every Q (call_node actuals)
    → Touches Q strict (page frame c actuals)
page-touches frame c None c-in actuals-in = stated-touches c.name (StatementRow.Page c.line) c-in
page-touches frame c (Some a) c-in actuals-in = page_some-touches frame c a (nat_eq (length a.others) 0) c-in actuals-in
