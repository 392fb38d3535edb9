use Rattle.edge_ports.proofs.SticksOn.{gave_part}
use Rattle.edge_ports.proofs.outlet.give_page.Goals as goal

pub returns-in-Err : goal.returns-in-Err
returns-in-Err g c = λ p s. gave_part p _ _ c.args.page.now s c.in-Err.ensures.failed c.in-Err.ensures.cause c.in-Err.ensures.last c.write_all.ensures.loan
