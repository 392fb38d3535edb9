-- Conformant array schemas and the types of formal parameters as nodes.
use Rattle.std.specs.Prelude.{map}
use Rattle.grammar.specs.Nodes.{Node, Pair, leaf, row}
use Rattle.grammar.specs.declared.terminals.Terminal.TheVariants as k
use Rattle.pas_tree.specs.declared.schemas.{NextSpec.NextSpec, PackedSchema.PackedSchema, Schema.Packed, Schema.Schema}
use Rattle.pas_tree.specs.declared.schemas.{Schema.Unpacked', Spec.Spec, Specs.Specs, UnpackedSchema.UnpackedSchema}
use Rattle.pas_tree.specs.declared.schemas.FormalType.{FormalType, Name, Schema'}

abbrev pub spec_node : Spec → Node
spec_node s = Pair (leaf k.Name s.least) (Pair (leaf k.Range s.range)
    (Pair (leaf k.Name s.greatest) (Pair (leaf k.Colon s.colon) (leaf k.Name s.of))))

abbrev pub next_spec_node : NextSpec → Node
next_spec_node n = Pair (leaf k.Semicolon n.semicolon) (spec_node n.spec)

abbrev pub specs_node : Specs → Node
specs_node s = Pair (spec_node s.first) (row (map next_spec_node s.others.items))

abbrev pub packed_schema_node : PackedSchema → Node
packed_schema_node p =
    Pair (leaf k.WPacked p.packed) (Pair (leaf k.WArray p.word) (Pair (leaf k.LeftBracket p.«open»)
    (Pair (spec_node p.spec) (Pair (leaf k.RightBracket p.close) (Pair (leaf k.WOf p.of) (leaf k.Name p.component))))))

abbrev mutual
  pub formal_type_node : FormalType → Node
  formal_type_node (Name n) = leaf k.Name n
  formal_type_node (Schema' _ s) = schema_node s

  pub schema_node : Schema → Node
  schema_node (Packed p) = packed_schema_node p
  schema_node (Unpacked' word open' specs close of component) =
      Pair (leaf k.WArray word) (Pair (leaf k.LeftBracket open') (Pair (specs_node specs)
      (Pair (leaf k.RightBracket close) (Pair (leaf k.WOf of) (formal_type_node component)))))

abbrev pub unpacked_schema_node : UnpackedSchema → Node
unpacked_schema_node u =
    Pair (leaf k.WArray u.word) (Pair (leaf k.LeftBracket u.«open») (Pair (specs_node u.specs)
    (Pair (leaf k.RightBracket u.close) (Pair (leaf k.WOf u.of) (formal_type_node u.component)))))
