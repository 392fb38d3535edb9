use Rattle.std.proofs.Common.{◌∙◌, sym}
use Rattle.cell_value.proofs.Laws.{arith_of_whole, quotient_law, remainder_law}
use Rattle.cell_value.proofs.arithmetic.arith.Goals as goal

pub returns-clause-whole : goal.returns-clause-whole
returns-clause-whole c = rw c.operate.ensures (arith_of_whole c.args.op c.args.left c.args.right)

pub returns-clause-quotient : goal.returns-clause-quotient
returns-clause-quotient c = λ i j q is_div is_left is_right given.
    quotient_law _ _ _ i j q is_div is_left is_right (sym c.operate.ensures ∙ given)

pub returns-clause-remainder : goal.returns-clause-remainder
returns-clause-remainder c = λ i j r is_mod is_left is_right given.
    remainder_law _ _ _ i j r is_mod is_left is_right (sym c.operate.ensures ∙ given)
