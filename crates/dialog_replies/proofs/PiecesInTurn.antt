-- Pieces that are printed one after another.
use Rattle.std.proofs.Common.{◌++◌, ◌∙◌, ℕ, List, ap, append_assoc}
use Rattle.edge_ports.specs.Printouts.{Printout, Prints}

-- one piece, and then another
pub both_printed : (before between after : Printout) (one other : List ℕ) → Prints before between one → Prints between after other
    → Prints before after (one ++ other)
both_printed before between after one other first then_other = (
  then_other.0 ∙ ap (λ (text : List ℕ). text ++ other) first.0 ∙ append_assoc before.text one other,
  then_other.1 ∙ first.1,
)
