use Rattle.std.proofs.Common.{◌+◌, ◌-◌, ◌∙◌, ap, sym}
use Rattle.cell_names.proofs.SpecsInTurn.{all_left, sought_on, sought_out}
use Rattle.cell_names.proofs.conformant.is_sought.Goals as goal
use Rattle.cell_names.specs.Conformant.{arguments_of, is_sought, most_specs, sought_by}

pub specs-init : goal.specs-init
specs-init c = ap (λ n. is_sought n c.args.program.now (arguments_of c.args.calls.now.calls) c.args.wanted c.args.found) all_left

pub returns-in-Ends : goal.returns-in-Ends
returns-in-Ends c =
    let p = c.args.program.now in let args = arguments_of c.args.calls.now.calls in
    ap (sought_by (is_sought (most_specs - (c.specs.counter + 1)) p args)) (sym c.in-Ends.is)
    ∙ sought_on p args c.specs.wanted c.specs.found c.specs.counter _ c.specs-test.true c.sought_here.ensures ∙ c.specs.invariant

pub specs-preserved : goal.specs-preserved
specs-preserved c =
    let p = c.args.program.now in let args = arguments_of c.args.calls.now.calls in
    ap (sought_by (is_sought (most_specs - (c.specs.counter + 1)) p args)) (sym c.in-GoesOn.is)
    ∙ sought_on p args c.specs.wanted c.specs.found c.specs.counter _ c.specs-test.true c.sought_here.ensures ∙ c.specs.invariant

pub returns : goal.returns
returns c =
    sought_out c.args.program.now (arguments_of c.args.calls.now.calls) c.specs.wanted c.specs.found c.specs.counter c.specs-test.false
    ∙ c.specs.invariant
