-- Where schemas begin.
use Rattle.std.specs.Prelude.{ℕ}
use Rattle.pas_tree.specs.SchemaTrees.{SchemaTree}
use Rattle.pas_tree.specs.SchemaTrees as tree

-- its `packed`, or its `array`
abbrev pub first_of_schema : SchemaTree → ℕ
first_of_schema (tree.a_packed_schema p) = p.packed
first_of_schema (tree.an_unpacked_schema word left specs right of_word component) = word
