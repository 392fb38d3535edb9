-- Every schema's node fits its rule.
use Rattle.std.proofs.Common.{refl}
use Rattle.pas_tree.proofs.Fits.{Fits, deeper, left, listed, one, pair, right}
use Rattle.pas_tree.specs.Rules as r
use Rattle.pas_tree.specs.Schemas as node
use Rattle.pas_tree.specs.declared.schemas.{FormalType.FormalType, FormalType.Name, FormalType.Schema', NextSpec.NextSpec, PackedSchema.PackedSchema}
use Rattle.pas_tree.specs.declared.schemas.{Schema.Packed, Schema.Schema, Schema.Unpacked', Spec.Spec, Specs.Specs}

spec_fits : (s : Spec) → Fits r.spec_rule (node.spec_node s)
unfolding r.spec_rule
spec_fits s = pair (one refl) (pair (one refl) (pair (one refl) (pair (one refl) (one refl))))

next_spec_fits : (n : NextSpec) → Fits r.next_spec_rule (node.next_spec_node n)
unfolding r.next_spec_rule
next_spec_fits n = pair (one refl) (spec_fits n.spec)

specs_fits : (s : Specs) → Fits r.specs_rule (node.specs_node s)
unfolding r.specs_rule
specs_fits s = pair (spec_fits s.first) (listed node.next_spec_node next_spec_fits s.others.items)

packed_schema_fits : (p : PackedSchema) → Fits r.packed_schema_rule (node.packed_schema_node p)
unfolding r.packed_schema_rule
packed_schema_fits p =
    pair (one refl) (pair (one refl) (pair (one refl) (pair (spec_fits p.spec) (pair (one refl) (pair (one refl) (one refl))))))

mutual
  unfolding r.formal_type_rule r.schema_rule r.unpacked_schema_rule

  pub formal_type_fits : (t : FormalType) → Fits r.formal_type_rule (node.formal_type_node t)
  formal_type_fits (Name n) = left (one refl)
  formal_type_fits (Schema' _ s) = right (deeper (schema_fits s))

  schema_fits : (s : Schema) → Fits r.schema_rule (node.schema_node s)
  schema_fits (Packed p) = left (packed_schema_fits p)
  schema_fits (Unpacked' word open' specs close of component) =
      right (pair (one refl) (pair (one refl) (pair (specs_fits specs)
      (pair (one refl) (pair (one refl) (formal_type_fits component))))))
