use Rattle.std.proofs.Common.{arith, length}
use Rattle.core_program.specs.ProgramRows.{row_at}
use Rattle.reference_oracle.proofs.MatchesFound.{one_found, variables_start}
use Rattle.reference_oracle.proofs.matches.block_variables.Goals as goal
use Rattle.reference_oracle.specs.Matches.{block_variable_in, block_variables}

pub tokens-init : goal.tokens-init
tokens-init c = variables_start c.args.program.now c.new-variables.result.items c.new-variables.ensures.items

pub tokens-preserved : goal.tokens-preserved
tokens-preserved c =
    let p = c.args.program.now in
    one_found (λ token. block_variable_in token (row_at p token)) c.tokens.variables.items c.put.new.variables.items (block_variables p) c.tokens.token
    (length p.rows) c.block_variable_at.result c.block_variable_at.ensures c.in_ok-put.ensures (omega arith) c.tokens.invariant
