use Rattle.cell_names.proofs.records.push_component.Goals as goal

pub returns-in-Some : goal.returns-in-Some
returns-in-Some c = rw c.in-Some.is c.push_placed.ensures
