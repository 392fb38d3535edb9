-- The trees of headings by the fields of what the code holds.
use Rattle.std.proofs.Common.{◌∙◌, ◌≡◌, None, Option, Some, ap, refl}
use Rattle.pas_tree.specs.HeadingTrees as tree
use Rattle.pas_tree.specs.declared.headings.Formal.TheBlock.{hidden-the_row-NextFormal-0}
use Rattle.pas_tree.specs.declared.headings.Formals.{Formals, Row_of-NextFormal, end_of-NextFormal, is-Formals', items-the_row-NextFormal}
use Rattle.pas_tree.specs.declared.headings.Formals.{items_hidden-the_row-NextFormal-0, more_of-NextFormal, out-Formals}
use Rattle.pas_tree.specs.declared.headings.FunctionHeading.{FunctionHeading, back-FunctionHeading-formals, is-FunctionHeading', out-FunctionHeading}
use Rattle.pas_tree.specs.declared.headings.ProcedureHeading.{ProcedureHeading, is-ProcedureHeading', out-ProcedureHeading}

formals_held : (o : Option Formals) → tree.held_formals_tree (back-FunctionHeading-formals o) ≡ tree.formals_in o
formals_held None = refl
formals_held (Some f) = refl

pub procedure_view : (p : ProcedureHeading) → tree.procedure_tree p
    ≡ tree.procedure_heading (out-ProcedureHeading p).word (out-ProcedureHeading p).name (tree.formals_in (out-ProcedureHeading p).formals)
procedure_view p =
    let o = out-ProcedureHeading p in
    ap tree.procedure_tree (is-ProcedureHeading' p) ∙ ap (tree.procedure_heading o.word o.name) (formals_held o.formals)

pub function_view : (f : FunctionHeading) → tree.function_tree f
    ≡ tree.function_heading (out-FunctionHeading f).word (out-FunctionHeading f).name (tree.formals_in (out-FunctionHeading f).formals)
    (out-FunctionHeading f).result
function_view f =
    let o = out-FunctionHeading f in
    ap tree.function_tree (is-FunctionHeading' f)
    ∙ ap (λ formals. tree.function_heading o.word o.name formals o.result) (formals_held o.formals)

formal_rows : (n : _) (r : Row_of-NextFormal n) → tree.formal_row r ≡ tree.formal_trees (items-the_row-NextFormal n r)
formal_rows _ end_of-NextFormal = refl
formal_rows _ (more_of-NextFormal semicolon formal rest) = ap (tree.more_formals semicolon (tree.formal_tree formal)) (formal_rows _ rest)

pub formals_view : (f : Formals) → tree.formals_tree f
    ≡ tree.formal_list (out-Formals f).«open» (tree.formal_tree (out-Formals f).first) (tree.formal_trees (out-Formals f).others.items)
    (out-Formals f).close
formals_view f =
    let o = out-Formals f in
    ap tree.formals_tree (is-Formals' f)
    ∙ ap (λ xs. tree.formal_list o.«open» (tree.formal_tree o.first) xs o.close) (formal_rows _ (hidden-the_row-NextFormal-0 o.others)
    ∙ ap tree.formal_trees (items_hidden-the_row-NextFormal-0 o.others))

pub ruleset heading_views = (procedure_view, function_view)
