use Rattle.code_checker.proofs.{OneText.at_most_one, OneText.declared_once, OneText.never_both, OneText.one_text, Refusals.refused_once}
use Rattle.code_checker.proofs.laws.one_text_one_program.Goals as goal

pub returns-clause-text : goal.returns-clause-text
returns-clause-text c = one_text

pub returns-clause-program : goal.returns-clause-program
returns-clause-program c = at_most_one

pub returns-clause-refusal : goal.returns-clause-refusal
returns-clause-refusal c = never_both

pub returns-clause-reason : goal.returns-clause-reason
returns-clause-reason c = refused_once

pub returns-clause-tables : goal.returns-clause-tables
returns-clause-tables c = declared_once
