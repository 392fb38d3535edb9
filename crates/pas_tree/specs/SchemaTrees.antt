-- Conformant array schemas and the types of formal parameters without memory: one constructor a rule.
use Rattle.std.specs.Prelude.{ℕ, List}
use Rattle.pas_tree.specs.declared.schemas.{NextSpec.NextSpec, PackedSchema.PackedSchema, Spec.Spec, Specs.Specs}
use Rattle.pas_tree.specs.declared.schemas.FormalType.{FormalType, Name, Schema'}
use Rattle.pas_tree.specs.declared.schemas.Schema.{Packed, Schema, Unpacked'}

pub record SpecsTree : Type 0 where
  pub first : Spec
  pub others : List NextSpec

mutual
  pub data FormalTypeTree : Type 0 where
    a_formal_name : (token : ℕ) → FormalTypeTree
    a_schema : (schema : SchemaTree) → FormalTypeTree

  pub data SchemaTree : Type 0 where
    a_packed_schema : (packed : PackedSchema) → SchemaTree
    an_unpacked_schema : (word left : ℕ) (specs : SpecsTree) (right of_word : ℕ) (component : FormalTypeTree)
        → SchemaTree

-- ---- the views

abbrev pub specs_tree : Specs → SpecsTree
specs_tree s = record { first = s.first; others = s.others.items }

abbrev mutual
  pub formal_type_tree : FormalType → FormalTypeTree
  formal_type_tree (Name n) = a_formal_name n
  formal_type_tree (Schema' _ s) = a_schema (schema_tree s)

  pub schema_tree : Schema → SchemaTree
  schema_tree (Packed p) = a_packed_schema p
  schema_tree (Unpacked' word open' specs close of component) =
      an_unpacked_schema word open' (specs_tree specs) close of (formal_type_tree component)
