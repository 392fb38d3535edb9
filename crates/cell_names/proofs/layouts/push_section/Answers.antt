use Rattle.cell_names.proofs.PartsInTurn.{section_on}
use Rattle.cell_names.proofs.layouts.push_section.Goals as goal

pub names-preserved : goal.names-preserved
names-preserved c =
    section_on c.args.program.now c.names.places c.push_name.new.places _ c.args.count c.names.counter c.names.token c.next_name-token.result
    c.names-test.true c.next_name-token.ensures c.in_ok-push_name.ensures c.names.invariant
