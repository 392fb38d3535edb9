-- What the steps of `Rattle.statement_checker.specs.Transfers` keep.
use Rattle.std.proofs.Common.{◌<◌, ℕ, Bool, None, Option, Some, false, length, nat_eq, refl, true}
use Rattle.pas_tree.specs.ExpressionPlaces.{first_of_expression}
use Rattle.pas_tree.specs.StatementTrees.{ActualTree, ActualsTree, NextActualTree, WidthTree}
use Rattle.pas_tree.specs.TreeNodes.{actual_node, actuals_node, call_node, next_actual_node, width_node}
use Rattle.core_program.specs.declared.rows.{ItemRow.ItemRow, StatementRow.StatementRow, TextFile.TextFile}
use Rattle.kind_checker.specs.{Operators.is_operand, Operators.is_unknown_shape, Shapes.shape_of}
use Rattle.expression_checker.specs.{NamesAlone.name_alone, declared.typed.Typed.Typed}
use Rattle.statement_checker.specs.{Actuals.actual_file, declared.actuals.RequiredCall.RequiredCall}
use Rattle.statement_checker.specs.Transfers.{another_item, first_item, is_enough, is_file_of, is_readable, is_writable, item_by, items, list_of, page}
use Rattle.statement_checker.specs.Transfers.{page_one, page_other, page_some, paged, put_written, read_item, transfer_alone, transfer_call, transfer_row}
use Rattle.statement_checker.specs.Transfers.{transfer_with, width, write_item, written_item}
use Rattle.statement_checker.specs.declared.transfers.Transfer.{Transfer, TheVariants.Reading, TheVariants.Writing}
use Rattle.code_checker.proofs.{CheckItems.add_item-holds, ExpressionExpressions.expression-holds, ExpressionThreats.threat_alone-holds, Parts.name_alone-in}
use Rattle.code_checker.proofs.{StatementSequences.stated-holds, TokenPlaces.first_of_expression-in, Within.Within}
use Rattle.code_checker.proofs.StatementActuals.{plain_actual-holds, wrong_number-holds}
use Rattle.code_checker.proofs.Steps.{Holds, bind-holds, each-holds, give-holds, late-holds, look-holds}

pub read_item-holds : {size : ℕ} {later : Bool} (frame : ℕ) (last : ℕ) (slot : ℕ) (a : ActualTree) → Within size (actual_node a)
    → Holds size later (read_item frame last slot a)
unfolding read_item
read_item-holds {size = size} frame last slot a a-in =
    bind-holds (threat_alone-holds frame (name_alone a.expression) (name_alone-in size a.expression a-in.0)) (λ _.
    bind-holds (plain_actual-holds frame a a-in) (λ v. bind-holds (look-holds (λ k. is_readable k v)) (λ fine.
    bind-holds (late-holds 32 (first_of_expression a.expression) fine refl (first_of_expression-in a.expression a-in.0)) (λ _.
    add_item-holds last slot (ItemRow.Element v.row 0)))))

pub width-holds : {size : ℕ} {later : Bool} (frame : ℕ) (w : WidthTree) → Within size (width_node (Some w)) → Holds size later (width frame w)
unfolding width
width-holds frame w w-in = bind-holds (expression-holds frame w.width w-in.1) (λ v. bind-holds (look-holds (λ k. is_operand 0 (shape_of k v.of))) (λ fine.
    bind-holds (late-holds 33 w.colon fine refl w-in.0) (λ _. give-holds v.row)))

pub put_written-holds : {size : ℕ} {later : Bool} (frame : ℕ) (last : ℕ) (v : Typed) (slot : ℕ) (width' : Option WidthTree) → Within size (width_node width')
    → Holds size later (put_written frame last v slot width')
put_written-holds frame last v slot None width-in = add_item-holds last slot (written_item v None)
put_written-holds frame last v slot (Some w) width-in = bind-holds (width-holds frame w width-in) (λ n. add_item-holds last slot (written_item v (Some n)))

pub write_item-holds : {size : ℕ} {later : Bool} (frame : ℕ) (last : ℕ) (slot : ℕ) (a : ActualTree) → Within size (actual_node a)
    → Holds size later (write_item frame last slot a)
unfolding write_item
write_item-holds frame last slot a a-in = bind-holds (expression-holds frame a.expression a-in.0) (λ v. bind-holds (look-holds
    (λ k. is_writable (shape_of k v.of))) (λ fine.
    bind-holds (late-holds 32 (first_of_expression a.expression) fine refl (first_of_expression-in a.expression a-in.0)) (λ _.
    put_written-holds frame last v slot a.width a-in.1)))

pub item_by-holds : {size : ℕ} {later : Bool} (x_transfer : Transfer) (frame : ℕ) (last : ℕ) (slot : ℕ) (a : ActualTree) → Within size (actual_node a)
    → Holds size later (item_by x_transfer frame last slot a)
item_by-holds Reading frame last slot a a-in = read_item-holds frame last slot a a-in
item_by-holds Writing frame last slot a a-in = write_item-holds frame last slot a a-in

pub another_item-holds : {size : ℕ} {later : Bool} (t : Transfer) (frame : ℕ) (last : ℕ) (n : NextActualTree) → Within size (next_actual_node n)
    → Holds size later (another_item t frame last n)
another_item-holds t frame last n n-in = item_by-holds t frame last n.comma n.actual n-in.1

pub first_item-holds : {size : ℕ} {later : Bool} (t : Transfer) (frame : ℕ) (last : ℕ) (slot : ℕ) (a : ActualTree) (x_text_file : Option TextFile)
    → Within size (actual_node a) → Holds size later (first_item t frame last slot a x_text_file)
first_item-holds t frame last slot a None a-in = item_by-holds t frame last slot a a-in
first_item-holds t frame last slot a (Some file) a-in =
    bind-holds (late-holds 32 (first_of_expression a.expression) (is_file_of t file) refl (first_of_expression-in a.expression a-in.0)) (λ _. give-holds last)

pub items-holds : {size : ℕ} {later : Bool} (t : Transfer) (frame : ℕ) (name : ℕ) (a : ActualsTree) (file : Option TextFile) → Within size (actuals_node a)
    → Holds size later (items t frame name a file)
unfolding items
items-holds t frame name a file a-in = bind-holds (first_item-holds t frame name a.left a.first file a-in.1.0) (λ one.
    bind-holds (each-holds (another_item t frame) next_actual_node (λ a x h. another_item-holds t frame a x h) one a.others a-in.1.1.0) (λ _.
    give-holds (list_of file a)))

pub transfer_with-holds : {size : ℕ} {later : Bool} (t : Transfer) (ends_line : Bool) (frame : ℕ) (c : RequiredCall) (a : ActualsTree) → c.name < size
    → Within size (actuals_node a) → Holds size later (transfer_with t ends_line frame c a)
unfolding transfer_with
transfer_with-holds t ends_line frame c a c-in a-in = bind-holds (look-holds (λ k. actual_file k frame a.first)) (λ file.
    bind-holds (late-holds 26 c.name (is_enough ends_line file a) refl c-in) (λ _. bind-holds (items-holds t frame c.name a file a-in) (λ list.
    stated-holds c.name (transfer_row t ends_line c.line list))))

pub transfer_alone-holds : {size : ℕ} {later : Bool} (t : Transfer) (ends_line : Bool) (c : RequiredCall) → c.name < size
    → Holds size later (transfer_alone t ends_line c)
unfolding transfer_alone
transfer_alone-holds t ends_line c c-in = bind-holds (late-holds 26 c.name ends_line refl c-in) (λ _. stated-holds c.name (transfer_row t ends_line c.line 0))

pub transfer_call-holds : {size : ℕ} {later : Bool} (t : Transfer) (ends_line : Bool) (frame : ℕ) (c : RequiredCall) (actuals : Option ActualsTree)
    → c.name < size → Within size (call_node actuals) → Holds size later (transfer_call t ends_line frame c actuals)
transfer_call-holds t ends_line frame c None c-in actuals-in = transfer_alone-holds t ends_line c c-in
transfer_call-holds t ends_line frame c (Some a) c-in actuals-in = transfer_with-holds t ends_line frame c a c-in actuals-in

pub page_other-holds : {size : ℕ} {later : Bool} (frame : ℕ) (a : ActualTree) → Within size (actual_node a) → Holds size later (page_other frame a)
unfolding page_other
page_other-holds frame a a-in = bind-holds (plain_actual-holds frame a a-in) (λ v. bind-holds (look-holds (λ k. is_unknown_shape (shape_of k v.of))) (λ fine.
    late-holds 32 (first_of_expression a.expression) fine refl (first_of_expression-in a.expression a-in.0)))

pub paged-holds : {size : ℕ} {later : Bool} (frame : ℕ) (a : ActualTree) (x_text_file : Option TextFile) → Within size (actual_node a)
    → Holds size later (paged frame a x_text_file)
paged-holds frame a None a-in = page_other-holds frame a a-in
paged-holds frame a (Some file) a-in =
    late-holds 32 (first_of_expression a.expression) (is_file_of Writing file) refl (first_of_expression-in a.expression a-in.0)

pub page_one-holds : {size : ℕ} {later : Bool} (frame : ℕ) (c : RequiredCall) (a : ActualTree) → c.name < size → Within size (actual_node a)
    → Holds size later (page_one frame c a)
unfolding page_one
page_one-holds frame c a c-in a-in = bind-holds (look-holds (λ k. actual_file k frame a)) (λ file. bind-holds (paged-holds frame a file a-in) (λ _.
    stated-holds c.name (StatementRow.Page c.line)))

pub page_some-holds : {size : ℕ} {later : Bool} (frame : ℕ) (c : RequiredCall) (a : ActualsTree) (bool : Bool) → c.name < size → Within size (actuals_node a)
    → Holds size later (page_some frame c a bool)
page_some-holds frame c a true c-in a-in = page_one-holds frame c a.first c-in a-in.1.0
page_some-holds frame c a false c-in a-in = wrong_number-holds frame c.name a c-in a-in

pub page-holds : {size : ℕ} {later : Bool} (frame : ℕ) (c : RequiredCall) (actuals : Option ActualsTree) → c.name < size → Within size (call_node actuals)
    → Holds size later (page frame c actuals)
page-holds frame c None c-in actuals-in = stated-holds c.name (StatementRow.Page c.line)
page-holds frame c (Some a) c-in actuals-in = page_some-holds frame c a (nat_eq (length a.others) 0) c-in actuals-in
