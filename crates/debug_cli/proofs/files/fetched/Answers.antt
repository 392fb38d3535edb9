use Rattle.std.proofs.Common.{Err, None, ap}
use Rattle.debug_cli.proofs.RefusalsAreOwed.{file_refused}
use Rattle.debug_cli.proofs.files.fetched.Goals as goal
use Rattle.debug_cli.specs.Outside.{outside}

pub returns-in-Ok-clause-refused : goal.returns-in-Ok-clause-refused
returns-in-Ok-clause-refused g c = λ r sought i. outside (c.in-Ok.ensures.files i) (c.in-Ok.ensures.counts i) None None

pub returns-in-Err-clause-refused : goal.returns-in-Err-clause-refused
returns-in-Err-clause-refused g c = λ r sought.
    file_refused r c.args.name c.args.limit sought c.in-Err.why
    (record { absent = λ x. c.in-Err.ensures.absent (ap Err x); longer = λ b x. (c.in-Err.ensures.too_long b (ap Err x)).1 })
    c.in-Err.ensures.counts c.in-Err.ensures.files
