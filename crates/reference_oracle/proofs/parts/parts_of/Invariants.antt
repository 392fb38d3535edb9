use Rattle.reference_oracle.proofs.PartsPut.{LeftFrom}
use Rattle.reference_oracle.proofs.parts.parts_of.Given as goal

abbrev pub invariant-tokens : goal.invariant-tokens
invariant-tokens l = LeftFrom l.program l.lists.items l.token
