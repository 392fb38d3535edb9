use Rattle.std.proofs.Common.{arith, rules}
use Rattle.debug_cli.proofs.DigitsSpellNumbers.{spells_no_number, spells_number}
use Rattle.debug_cli.proofs.made_words.number_in.Goals as goal

pub returns-in-Ok-clause-spelled : goal.returns-in-Ok-clause-spelled
returns-in-Ok-clause-spelled c =
    spells_number c.args.text.now (search rules) c.in-Ok.number c.in-Ok.ensures.value.0 (search rules) (omega arith) (omega arith)

pub returns-in-Err-clause-spelled : goal.returns-in-Err-clause-spelled
returns-in-Err-clause-spelled c = spells_no_number c.args.text.now (search rules) c.in-Err.ensures.value.0
