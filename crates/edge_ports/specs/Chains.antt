-- The bytes of a chain.
use Rattle.std.specs.Prelude.{◌++◌, ◌∷◌, [], ℕ, List}
use Rattle.edge_ports.specs.declared.tale.Chain.{Chain, TheVariants.Link', TheVariants.Start}

abbrev pub bytes_in : Chain → List ℕ
bytes_in Start = []
bytes_in (Link' byte shape before) = bytes_in before ++ byte ∷ []
