use Rattle.std.proofs.Common.{◌∙◌, ◌≡◌, ℕ, Some, ap, rules}
use mir.Syntax.{w32}
use mir.Val.{of_z, to_z}
use Rattle.core_program.specs.{Accesses.address, Accesses.with_bounds, Tree.bind, Tree.doing, declared.rows.TypeRow.TypeRow}
use Rattle.core_program.specs.Cells as action
use Rattle.evaluator.proofs.Turning.{given, turns_same}
use Rattle.evaluator.proofs.accesses.locate_component_in.Goals as goal
use Rattle.evaluator.specs.Rest.{waiting}

pub returns-in-Some-Ordinal-clause-turns : goal.returns-in-Some-Ordinal-clause-turns
returns-in-Some-Ordinal-clause-turns c m u same =
    let p = c.args.program.now in
    let e : c.args.index ≡ Some (TypeRow.Ordinal c.in-Some-Ordinal.least c.in-Some-Ordinal.greatest) = c.in-Some-Ordinal.is ∙ ap Some
    (rw c.in-Some-Ordinal.is at c.in-Some-Ordinal.field-0-is) in
    let l : to_z w32 (of_z w32 c.in-Some-Ordinal.least) ≡ c.in-Some-Ordinal.least = search rules in
    let g : to_z w32 (of_z w32 c.in-Some-Ordinal.greatest) ≡ c.in-Some-Ordinal.greatest = search rules in
    turns_same p u _ m m c.address.result c.address.new.self
    (same ∙ ap (λ k. bind (with_bounds k (λ least greatest. doing c.args.line (action.component
    (record { least = least; greatest = greatest; size = c.args.size }) c.args.addr c.args.value) address))
    (waiting p c.args.body.now)) e)
    (c.address.ensures.moves p (action.component (record {
      least = c.in-Some-Ordinal.least;
      greatest = c.in-Some-Ordinal.greatest;
      size = c.args.size;
    }) c.args.addr c.args.value) m m
    (given {X = ℕ} (λ n. n) (action.component (record { least = c.in-Some-Ordinal.least; greatest = c.in-Some-Ordinal.greatest; size = c.args.size })
    c.args.addr c.args.value)
    c.component.result m (rw (l, g) at c.component.ensures))).turns

pub returns-in-Some-Subrange-clause-turns : goal.returns-in-Some-Subrange-clause-turns
returns-in-Some-Subrange-clause-turns c m u same =
    let p = c.args.program.now in
    let e : c.args.index ≡ Some (TypeRow.Subrange c.in-Some-Subrange.field-0-0 c.in-Some-Subrange.least c.in-Some-Subrange.greatest) =
    c.in-Some-Subrange.is ∙ ap Some (rw c.in-Some-Subrange.is at c.in-Some-Subrange.field-0-is) in
    let l : to_z w32 (of_z w32 c.in-Some-Subrange.least) ≡ c.in-Some-Subrange.least = search rules in
    let g : to_z w32 (of_z w32 c.in-Some-Subrange.greatest) ≡ c.in-Some-Subrange.greatest = search rules in
    turns_same p u _ m m c.address-in-Some-Subrange.result c.address-in-Some-Subrange.new.self
    (same ∙ ap (λ k. bind (with_bounds k (λ least greatest. doing c.args.line (action.component
    (record { least = least; greatest = greatest; size = c.args.size }) c.args.addr c.args.value) address))
    (waiting p c.args.body.now)) e)
    (c.address-in-Some-Subrange.ensures.moves p (action.component (record {
      least = c.in-Some-Subrange.least;
      greatest = c.in-Some-Subrange.greatest;
      size = c.args.size;
    }) c.args.addr c.args.value) m m
    (given {X = ℕ} (λ n. n) (action.component (record {
      least = c.in-Some-Subrange.least;
      greatest = c.in-Some-Subrange.greatest;
      size = c.args.size;
    }) c.args.addr c.args.value)
    c.component-in-Some-Subrange.result m (rw (l, g) at c.component-in-Some-Subrange.ensures))).turns
