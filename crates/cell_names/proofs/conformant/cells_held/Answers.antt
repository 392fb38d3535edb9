use Rattle.std.proofs.Common.{◌+◌, ◌-◌, ◌∙◌, ap, sym}
use Rattle.core_program.specs.ProgramRows.{size_of}
use Rattle.cell_names.proofs.SpecsInTurn.{cells_begin, cells_on, cells_out}
use Rattle.cell_names.proofs.conformant.cells_held.Goals as goal
use Rattle.cell_names.specs.Conformant.{arguments_of, cells_by, cells_within, most_specs, times}

pub specs-init : goal.specs-init
specs-init c = cells_begin c.args.program.now (arguments_of c.args.calls.now.calls) c.args.call c.args.of

pub returns-in-None : goal.returns-in-None
returns-in-None c =
    let p = c.args.program.now in let args = arguments_of c.args.calls.now.calls in
    c.times.ensures ∙ ap (times c.specs.many) (c.from.ensures ∙ c.size_of.ensures)
    ∙ ap (cells_by (cells_within (most_specs - (c.specs.counter + 1)) p args c.args.call) p c.specs.many c.specs.at) (sym c.in-None.is)
    ∙ cells_on p args c.args.call c.specs.many c.specs.at c.specs.counter _ c.specs-test.true c.spec_in.ensures ∙ c.specs.invariant

pub specs-preserved : goal.specs-preserved
specs-preserved c =
    let p = c.args.program.now in let args = arguments_of c.args.calls.now.calls in
    ap (λ n. cells_within (most_specs - (c.specs.counter + 1)) p args c.args.call n c.in-Some.spec.component) c.times-many.ensures
    ∙ ap (cells_by (cells_within (most_specs - (c.specs.counter + 1)) p args c.args.call) p c.specs.many c.specs.at) (sym c.in-Some.is)
    ∙ cells_on p args c.args.call c.specs.many c.specs.at c.specs.counter _ c.specs-test.true c.spec_in.ensures ∙ c.specs.invariant

pub returns : goal.returns
returns c =
    cells_out c.args.program.now (arguments_of c.args.calls.now.calls) c.args.call c.specs.many c.specs.at c.specs.counter c.specs-test.false
    ∙ c.specs.invariant
