-- The nodes of schemas are those of their trees without memory.
use Rattle.std.proofs.Common.{◌≡◌, refl}
use Rattle.grammar.specs.Nodes.{Pair, leaf}
use Rattle.grammar.specs.declared.terminals.Terminal.TheVariants as k
use Rattle.pas_tree.specs.SchemaTrees as tree_schemas
use Rattle.pas_tree.specs.Schemas as schemas
use Rattle.pas_tree.specs.TreeNodes as node
use Rattle.pas_tree.specs.declared.schemas.{FormalType.FormalType, FormalType.Name, FormalType.Schema', Schema.Packed, Schema.Schema, Schema.Unpacked'}

mutual
  pub formal_type_same : (x : FormalType) → schemas.formal_type_node x ≡ node.formal_type_node (tree_schemas.formal_type_tree x)
  formal_type_same (Name n) = refl
  formal_type_same (Schema' _ s) = schema_same s

  schema_same : (x : Schema) → schemas.schema_node x ≡ node.schema_node (tree_schemas.schema_tree x)
  schema_same (Packed p) = refl
  schema_same (Unpacked' word open' specs close of component) =
      λ i. Pair (leaf k.WArray word) (Pair (leaf k.LeftBracket open') (Pair (schemas.specs_node specs)
      (Pair (leaf k.RightBracket close) (Pair (leaf k.WOf of) (formal_type_same component i)))))
