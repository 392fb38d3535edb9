use Rattle.std.proofs.Common.{[]}
use Rattle.pas_lexer.proofs.OneDivision.{ended, lexed_or_fails, never_both, nil_fits, one_division, placed, same_fault, same_reason, same_tokens}
use Rattle.pas_lexer.proofs.SourceRejoined.{fits, in_order, unquoted, whole}
use Rattle.pas_lexer.proofs.lexing.division_laws.Goals as goal

pub returns-clause-one_division : goal.returns-clause-one_division
returns-clause-one_division c = λ source ps qs d e. (one_division ps qs source [] [] d e nil_fits nil_fits).0

pub returns-clause-one_list : goal.returns-clause-one_list
returns-clause-one_list c = same_tokens

pub returns-clause-one_fault : goal.returns-clause-one_fault
returns-clause-one_fault c = same_fault

pub returns-clause-one_reason : goal.returns-clause-one_reason
returns-clause-one_reason c = same_reason

pub returns-clause-never_both : goal.returns-clause-never_both
returns-clause-never_both c = never_both

pub returns-clause-placed : goal.returns-clause-placed
returns-clause-placed c = placed

pub returns-clause-ended : goal.returns-clause-ended
returns-clause-ended c = ended

pub returns-clause-lexed_or_fails : goal.returns-clause-lexed_or_fails
returns-clause-lexed_or_fails c = lexed_or_fails

pub returns-clause-whole : goal.returns-clause-whole
returns-clause-whole c = whole

pub returns-clause-in_order : goal.returns-clause-in_order
returns-clause-in_order c = in_order

pub returns-clause-unquoted : goal.returns-clause-unquoted
returns-clause-unquoted c = unquoted

pub returns-clause-fits : goal.returns-clause-fits
returns-clause-fits c = fits
