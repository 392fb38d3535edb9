-- Schemas with equal nodes have equal trees.
use Rattle.std.proofs.Common.{◌≡◌, ap, arith, refl}
use Rattle.pas_tree.proofs.Told.{form, items_told, lead, left, left_number, number, rest, right, second}
use Rattle.pas_tree.specs.SchemaTrees as tree
use Rattle.pas_tree.specs.Schemas as node
use Rattle.pas_tree.specs.declared.schemas.{FormalType.FormalType, FormalType.Name, FormalType.Schema', NextSpec.NextSpec, PackedSchema.PackedSchema}
use Rattle.pas_tree.specs.declared.schemas.{Schema.Packed, Schema.Schema, Schema.Unpacked', Spec.Spec, Specs.Specs}

spec_told : (a b : Spec) → node.spec_node a ≡ node.spec_node b → a ≡ b
spec_told a b q =
    let least = ap left_number q in
    let range = ap number (ap second q) in
    let greatest = ap left_number (ap rest q) in
    let colon = ap number (ap second (ap rest q)) in
    let of = ap number (ap rest (ap rest q)) in
    λ i. record { least = least i; range = range i; greatest = greatest i; colon = colon i; of = of i }

next_spec_told : (a b : NextSpec) → node.next_spec_node a ≡ node.next_spec_node b → a ≡ b
next_spec_told a b q =
    let semicolon = ap left_number q in
    let spec = spec_told a.spec b.spec (ap right q) in
    λ i. record { semicolon = semicolon i; spec = spec i }

specs_told : (a b : Specs) → node.specs_node a ≡ node.specs_node b → tree.specs_tree a ≡ tree.specs_tree b
specs_told a b q =
    let first = spec_told a.first b.first (ap left q) in
    let others = items_told node.next_spec_node next_spec_told a.others.items b.others.items (ap right q) in
    λ i. record { first = first i; others = others i }

packed_schema_told : (a b : PackedSchema) → node.packed_schema_node a ≡ node.packed_schema_node b → a ≡ b
packed_schema_told a b q =
    let packed = ap left_number q in
    let word = ap number (ap second q) in
    let open' = ap left_number (ap rest q) in
    let spec = spec_told a.spec b.spec (ap second (ap rest q)) in
    let close = ap left_number (ap rest (ap rest q)) in
    let of = ap number (ap second (ap rest (ap rest q))) in
    let component = ap number (ap rest (ap rest (ap rest q))) in
    λ i. record {
      packed = packed i;
      word = word i;
      «open» = open' i;
      spec = spec i;
      close = close i;
      of = of i;
      component = component i;
    }

schema_form : (s : Schema) → form (node.schema_node s) ≡ 2
schema_form (Packed p) = refl
schema_form (Unpacked' w n s c o t) = refl

mutual
  pub formal_type_told : (x y : FormalType) → node.formal_type_node x ≡ node.formal_type_node y → tree.formal_type_tree x ≡ tree.formal_type_tree y
  formal_type_told (Name n) (Name m) q = ap tree.a_formal_name (ap number q)
  formal_type_told (Schema' _ a) (Schema' _ b) q = ap tree.a_schema (schema_told a b q)
  formal_type_told (Name n) (Schema' _ b) q = absurd (omega (arith, ap form q, schema_form b))
  formal_type_told (Schema' _ a) (Name m) q = absurd (omega (arith, ap form q, schema_form a))

  schema_told : (x y : Schema) → node.schema_node x ≡ node.schema_node y → tree.schema_tree x ≡ tree.schema_tree y
  schema_told (Packed a) (Packed b) q = ap tree.a_packed_schema (packed_schema_told a b q)
  schema_told (Unpacked' w n a c o x) (Unpacked' v m b d p y) q =
      λ i. tree.an_unpacked_schema (ap left_number q i) (ap number (ap second q) i) (specs_told a b (ap left (ap rest q)) i)
      (ap number (ap second (ap rest q)) i) (ap left_number (ap rest (ap rest q)) i) (formal_type_told x y (ap right (ap rest (ap rest q))) i)
  schema_told x y q = absurd (omega (arith, ap lead q))
