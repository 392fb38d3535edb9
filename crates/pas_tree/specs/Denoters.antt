-- Type denoters as nodes.
use Rattle.std.specs.Prelude.{ℕ, None, Option, Some}
use Rattle.grammar.specs.Nodes.{Node, Nothing, Pair, SeriesPart, leaf}
use Rattle.grammar.specs.declared.terminals.Terminal.TheVariants as k
use Rattle.pas_tree.specs.Constants.{constant_node, constants_node, names_node}
use Rattle.pas_tree.specs.Operators.{token_node}
use Rattle.pas_tree.specs.declared.denoters.{Arm.Arm, Enumeration.Enumeration as EnumerationTree}
use Rattle.pas_tree.specs.declared.denoters.{Fields.Variants' as FieldsVariants', Fixed.end_of-NextSection}
use Rattle.pas_tree.specs.declared.denoters.{Fixed.more_of-NextSection, NextArm.NextArm, NextDenoter.NextDenoter}
use Rattle.pas_tree.specs.declared.denoters.{NextSection.NextSection, RecordDenoter.RecordDenoter, Section.Section}
use Rattle.pas_tree.specs.declared.denoters.{SetDenoter.SetDenoter, Tag.Tag, TagField.TagField, Variants.end_of-NextArm}
use Rattle.pas_tree.specs.declared.denoters.{Variants.more_of-NextArm}
use Rattle.pas_tree.specs.declared.denoters.ArrayDenoter.{ArrayDenoter, ArrayDenoter', Row_of-NextDenoter}
use Rattle.pas_tree.specs.declared.denoters.ArrayDenoter.{end_of-NextDenoter, more_of-NextDenoter}
use Rattle.pas_tree.specs.declared.denoters.Denoter.{Denoter, Enumeration, Name, Pointer, Structure', Subrange}
use Rattle.pas_tree.specs.declared.denoters.Fields.{Empty, Fields, Fixed', Held-Fields-Fixed-1, None', Some'}
use Rattle.pas_tree.specs.declared.denoters.Fixed.{Fixed as FixedTree, Fixed' as FixedTree', Row_of-NextSection}
use Rattle.pas_tree.specs.declared.denoters.NextVariants.{NextVariants, NextVariants'}
use Rattle.pas_tree.specs.declared.denoters.Structure.{Array, Record', Set', Structure}
use Rattle.pas_tree.specs.declared.denoters.Variants.{Row_of-NextArm, Variants as VariantsTree, Variants'}

abbrev pub enumeration_node : EnumerationTree → Node
enumeration_node e = Pair (leaf k.LeftParen e.«open») (Pair (names_node e.names) (leaf k.RightParen e.close))

abbrev pub tag_rest_node : Option TagField → ℕ → Node
tag_rest_node None name = Pair (leaf k.Name name) Nothing
tag_rest_node (Some f) name = Pair (leaf k.Name f.name) (Pair (leaf k.Colon f.colon) (leaf k.Name name))

abbrev pub tag_node : Tag → Node
tag_node t = tag_rest_node t.field t.name

-- a semicolon after the last part of a series, if there is one
abbrev pub last_semicolon_node : Option ℕ → Node
last_semicolon_node None = Nothing
last_semicolon_node (Some n) = Pair (leaf k.Semicolon n) Nothing

abbrev mutual
  pub denoter_node : Denoter → Node
  denoter_node (Name n) = Pair (leaf k.Name n) Nothing
  denoter_node (Enumeration e) = enumeration_node e
  denoter_node (Subrange first range last) = Pair (constant_node first) (Pair (leaf k.Range range) (constant_node last))
  denoter_node (Pointer caret name) = Pair (leaf k.Caret caret) (leaf k.Name name)
  denoter_node (Structure' packed _ s) = Pair (token_node k.WPacked packed) (structure_node s)

  pub structure_node : Structure → Node
  structure_node (Array a) = array_node a
  structure_node (Record' word fields end) = Pair (leaf k.WRecord word) (Pair (fields_node fields) (leaf k.WEnd end))
  structure_node (Set' word of base) = Pair (leaf k.WSet word) (Pair (leaf k.WOf of) (denoter_node base))

  pub array_node : ArrayDenoter → Node
  array_node (ArrayDenoter' word open' first _ others close of component) =
      Pair (leaf k.WArray word) (Pair (leaf k.LeftBracket open') (Pair (denoter_node first) (Pair (denoters_node others)
      (Pair (leaf k.RightBracket close) (Pair (leaf k.WOf of) (denoter_node component))))))

  pub denoters_node : {m : _} → Row_of-NextDenoter m → Node
  denoters_node end_of-NextDenoter = Nothing
  denoters_node (more_of-NextDenoter comma denoter rest) =
      Pair (Pair (leaf k.Comma comma) (denoter_node denoter)) (denoters_node rest)

  pub fields_node : Fields → Node
  fields_node Empty = Nothing
  fields_node (Fixed' fixed variants last) = fixed_node fixed (next_variants_node variants last)
  fields_node (FieldsVariants' _ variants last) = variants_node variants last

  -- the fixed part, and what stands after it
  pub fixed_node : FixedTree → Node → Node
  fixed_node (FixedTree' names colon denoter _ others) end =
      Pair (Pair (names_node names) (Pair (leaf k.Colon colon) (denoter_node denoter))) (sections_node others end)

  pub sections_node : {m : _} → Row_of-NextSection m → Node → Node
  sections_node end_of-NextSection end = end
  sections_node (more_of-NextSection semicolon names colon denoter rest) end =
      Pair (leaf k.Semicolon semicolon) (Pair (Pair (names_node names)
      (Pair (leaf k.Colon colon) (denoter_node denoter))) (sections_node rest end))

  pub next_variants_node : Held-Fields-Fixed-1 → Option ℕ → Node
  next_variants_node None' last = last_semicolon_node last
  next_variants_node (Some' (NextVariants' semicolon _ variants)) last =
      Pair (leaf k.Semicolon semicolon) (variants_node variants last)

  pub variants_node : VariantsTree → Option ℕ → Node
  variants_node (Variants' word tag of constants colon open' fields close _ others) last =
      Pair (leaf k.WCase word) (Pair (tag_node tag) (Pair (leaf k.WOf of)
      (Pair (Pair (constants_node constants) (Pair (leaf k.Colon colon)
      (Pair (leaf k.LeftParen open') (Pair (fields_node fields) (leaf k.RightParen close)))))
      (arms_node others (last_semicolon_node last)))))

  pub arms_node : {m : _} → Row_of-NextArm m → Node → Node
  arms_node end_of-NextArm end = end
  arms_node (more_of-NextArm semicolon constants colon open' fields close rest) end =
      Pair (leaf k.Semicolon semicolon)
      (Pair (Pair (constants_node constants) (Pair (leaf k.Colon colon)
      (Pair (leaf k.LeftParen open') (Pair (fields_node fields) (leaf k.RightParen close)))))
      (arms_node rest end))

abbrev pub arm_node : Arm → Node
arm_node a = Pair (constants_node a.constants)
    (Pair (leaf k.Colon a.colon) (Pair (leaf k.LeftParen a.«open»)
    (Pair (fields_node a.fields) (leaf k.RightParen a.close))))

-- ---- what is repeated

abbrev pub next_denoter_node : NextDenoter → Node
next_denoter_node n = Pair (leaf k.Comma n.comma) (denoter_node n.denoter)

abbrev pub section_node : Section → Node
section_node s = Pair (names_node s.names) (Pair (leaf k.Colon s.colon) (denoter_node s.denoter))

abbrev pub section_step : NextSection → SeriesPart
section_step n = record { separator = leaf k.Semicolon n.semicolon; part = section_node n.section }

abbrev pub arm_step : NextArm → SeriesPart
arm_step n = record { separator = leaf k.Semicolon n.semicolon; part = arm_node n.arm }

abbrev pub some_variants_node : NextVariants → Option ℕ → Node
some_variants_node (NextVariants' semicolon _ variants) last =
    Pair (leaf k.Semicolon semicolon) (variants_node variants last)

abbrev pub record_node : RecordDenoter → Node
record_node r = Pair (leaf k.WRecord r.word) (Pair (fields_node r.fields) (leaf k.WEnd r.end))

abbrev pub set_node : SetDenoter → Node
set_node s = Pair (leaf k.WSet s.word) (Pair (leaf k.WOf s.of) (denoter_node s.base))
