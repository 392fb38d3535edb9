-- What is kept of the pairs of types that were looked at.
use Rattle.std.specs.{Prelude.◌≡◌, Prelude.length, HashMap.get}
use Rattle.reference_oracle.specs.{Levels.AreLevels, PartsKept.AreBothParts, Shapes.Programs}
use Rattle.reference_oracle.specs.PairsOfTypes.{AreNoted, AreNumbers, same_pair}
use Rattle.reference_oracle.specs.declared.pairs.Pairs.{Pairs}

-- all pairs that one of them leads to are among them, and it is known which match
pub record ArePairs (ps : Programs) (x : Pairs) : Type 0 where
  pub parts : AreBothParts ps x.parts
  pub numbers : AreNumbers (get same_pair x.known) x.list.items
  pub noted : AreNoted ps x.list.items x.inside.items
  pub all : length x.inside.items ≡ length x.list.items
  pub levels : AreLevels ps x.list.items x.levels.items
  pub size : length x.levels.items ≡ length x.inside.items
