use Rattle.std.proofs.Common.{arith, rules}
use Rattle.debug_cli.proofs.DigitsSpellNumbers.{spells, spells_none}
use Rattle.debug_cli.proofs.budget.steps_in.Goals as goal

pub returns-in-Ok-clause-spelled : goal.returns-in-Ok-clause-spelled
returns-in-Ok-clause-spelled c = spells c.args.text.now (search rules) (omega arith) c.in-Ok.steps c.in-Ok.ensures.value.0 (omega arith) (omega arith)

pub returns-in-Err-clause-spelled : goal.returns-in-Err-clause-spelled
returns-in-Err-clause-spelled c = spells_none c.args.text.now (search rules) (omega arith) c.in-Err.ensures.value.0
