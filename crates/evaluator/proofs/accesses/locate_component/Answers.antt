use Rattle.std.proofs.Common.{◌∙◌, ◌≡◌, ℕ, ℤ, Some, ap, sym}
use Rattle.core_program.specs.{ProgramRows.type_at, Tree.ActTree, Tree.bind, Tree.doing, declared.rows.TypeRow.TypeRow}
use Rattle.core_program.specs.Accesses.{address, with_bounds, with_components}
use Rattle.core_program.specs.Cells as action
use Rattle.eval_ops.specs.Arrays.{size_in}
use Rattle.evaluator.proofs.TransfersByRow.{sized_by, with_number}
use Rattle.evaluator.proofs.accesses.locate_component.Goals as goal
use Rattle.evaluator.specs.Rest.{waiting}

pub returns-in-Some-clause-turns : goal.returns-in-Some-clause-turns
returns-in-Some-clause-turns c m u same =
    let p = c.args.program.now in
    let n = c.in-Some-Array in
    let e : c.args.array ≡ Some (TypeRow.Array n.field-0-0 n.index n.part n.field-0-3) = n.is ∙ ap Some (rw n.is at n.field-0-is) in
    let s : size_in (type_at p n.part) ≡ Some c.in-Some.size = cc in
    let K = waiting p c.args.body.now in
    let at : ℤ → ℤ → ℕ → ActTree = λ least greatest size. doing c.args.line (action.component (record { least = least; greatest = greatest; size = size })
    c.args.addr c.args.value) address in
    c.locate_component_in.ensures.turns m u (same ∙ ap (λ k. bind (with_components p k (λ a. doing c.args.line (action.component a c.args.addr c.args.value)
    address)) K) e ∙ (λ i. bind (with_bounds (type_at p n.index) (λ least greatest. sized_by (type_at p n.part) (at least greatest) i)) K) ∙ ap (λ o. bind
    (with_bounds (type_at p n.index) (λ least greatest. with_number o (at least greatest))) K) s ∙ ap (λ t. bind (with_bounds t (λ least greatest. at least
    greatest c.in-Some.size)) K) (sym c.type_row.ensures))
