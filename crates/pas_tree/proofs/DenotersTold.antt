-- Type denoters with equal nodes have equal trees.
use Rattle.std.proofs.Common.{◌<◌, ◌≡◌, ℕ, None, Option, Some, ap, arith, refl}
use Rattle.grammar.specs.{Nodes.Node, Terminals.place, declared.terminals.Terminal.Terminal}
use Rattle.pas_tree.proofs.Told.{constant_told, constants_told, form, lead, left, left_number, names_told, number, rest, right, second, token_told}
use Rattle.pas_tree.specs.DenoterTrees as tree
use Rattle.pas_tree.specs.Denoters as node
use Rattle.pas_tree.specs.declared.denoters.{Enumeration.Enumeration as EnumerationOf, NextVariants.NextVariants', TagField.TagField}
use Rattle.pas_tree.specs.declared.denoters.ArrayDenoter.{ArrayDenoter, ArrayDenoter', Row_of-NextDenoter, end_of-NextDenoter, more_of-NextDenoter}
use Rattle.pas_tree.specs.declared.denoters.Denoter.{Denoter, Enumeration, Name, Pointer, Structure', Subrange}
use Rattle.pas_tree.specs.declared.denoters.Fields.{Empty, Fields, Fixed', Held-Fields-Fixed-1, None', Some', Variants' as FieldsVariants'}
use Rattle.pas_tree.specs.declared.denoters.Fixed.{Fixed as FixedOf, Fixed' as FixedOf', Row_of-NextSection, end_of-NextSection, more_of-NextSection}
use Rattle.pas_tree.specs.declared.denoters.Structure.{Array, Record', Set', Structure}
use Rattle.pas_tree.specs.declared.denoters.Variants.{Row_of-NextArm, Variants as VariantsOf, Variants', end_of-NextArm, more_of-NextArm}

enumeration_told : (a b : EnumerationOf) → node.enumeration_node a ≡ node.enumeration_node b → tree.enumeration_tree a ≡ tree.enumeration_tree b
enumeration_told a b q = λ i. record { left = ap left_number q i; names = names_told a.names b.names (ap second q) i; right = ap number (ap rest q) i }

tag_told : (f g : Option TagField) (n m : ℕ) → node.tag_rest_node f n ≡ node.tag_rest_node g m → (f ≡ g) × (n ≡ m)
tag_told None None n m q = (refl, ap left_number q)
tag_told (Some f) (Some g) n m q = (λ i. Some (record { name = ap left_number q i; colon = ap number (ap second q) i }), ap number (ap rest q))
tag_told f g n m q = absurd (omega (arith, ap form (ap right q)))

pub last_told : (n m : Option ℕ) → node.last_semicolon_node n ≡ node.last_semicolon_node m → n ≡ m
last_told None None q = refl
last_told (Some n) (Some m) q = ap Some (ap left_number q)
last_told n m q = absurd (omega (arith, ap form q))

pub last_right : (n : Option ℕ) → (form (right (node.last_semicolon_node n)) ≡ 1) × (lead (right (node.last_semicolon_node n)) ≡ 59)
last_right None = (refl, refl)
last_right (Some n) = (refl, refl)

-- ---- forms and first terminals

structure_below : (s : Structure) → lead (node.structure_node s) < 28
structure_below (Array (ArrayDenoter' w n a _ r c o x)) = omega arith
structure_below (Record' n a c) = omega arith
structure_below (Set' n o a) = omega arith

abbrev structure_place : Structure → ℕ
structure_place (Array a) = place Terminal.WArray
structure_place (Record' n a c) = place Terminal.WRecord
structure_place (Set' n o a) = place Terminal.WSet

structure_lead : (s : Structure) → lead (node.structure_node s) ≡ structure_place s
structure_lead (Array (ArrayDenoter' w n a _ r c o x)) = refl
structure_lead s = refl

abbrev Structured : Denoter → Type 0
Structured (Structure' n _ s) = lead (node.structure_node s) < 28
Structured d = Unit {0}

structured : (d : Denoter) → Structured d
structured (Structure' n _ s) = structure_below s
structured d = tt

variants_lead : (v : VariantsOf) (n : Option ℕ) → lead (node.variants_node v n) ≡ place Terminal.WCase
variants_lead (Variants' w t o a n k f c _ r) last = refl

abbrev fields_form : Fields → ℕ
fields_form Empty = 1
fields_form (Fixed' a v n) = 2
fields_form (FieldsVariants' _ v n) = 0

fields_left : (f : Fields) → form (left (node.fields_node f)) ≡ fields_form f
fields_left Empty = refl
fields_left (Fixed' (FixedOf' a n c _ r) v m) = refl
fields_left (FieldsVariants' _ (Variants' w t o a n k f c _ r) m) = refl

-- what ends a series of sections does not go on as a section does
abbrev Ends : Node → Type 0
Ends x = form (second x) < 2

next_variants_end : (v : Held-Fields-Fixed-1) (n : Option ℕ) → Ends (node.next_variants_node v n)
next_variants_end None' None = omega arith
next_variants_end None' (Some n) = omega arith
next_variants_end (Some' (NextVariants' m _ (Variants' w t o a n k f c _ r))) last = omega arith

mutual
  pub denoter_told : (x y : Denoter) → node.denoter_node x ≡ node.denoter_node y → tree.denoter_tree x ≡ tree.denoter_tree y
  denoter_told (Name n) (Name m) q = λ i. tree.a_type_name (ap left_number q i)
  denoter_told (Enumeration a) (Enumeration b) q = λ i. tree.an_enumeration (enumeration_told a b q i)
  denoter_told (Subrange a n c) (Subrange b m d) q =
      λ i. tree.a_subrange (constant_told a b (ap left q) i) (ap number (ap second q) i) (constant_told c d (ap rest q) i)
  denoter_told (Pointer n c) (Pointer m d) q = λ i. tree.a_pointer (ap left_number q i) (ap number (ap right q) i)
  denoter_told (Structure' n _ a) (Structure' m _ b) q =
      λ i. tree.a_structure (token_told Terminal.WPacked n m (ap left q) i) (structure_told a b (ap right q) i)
  denoter_told x y q = absurd (omega (arith, ap lead (ap right q), ap form (ap right q), structured x, structured y))

  structure_told : (x y : Structure) → node.structure_node x ≡ node.structure_node y → tree.structure_tree x ≡ tree.structure_tree y
  structure_told (Array a) (Array b) q = λ i. tree.an_array (array_told a b q i)
  structure_told (Record' n a c) (Record' m b d) q =
      λ i. tree.a_record (ap left_number q i) (fields_told a b (ap second q) i) (ap number (ap rest q) i)
  structure_told (Set' n o a) (Set' m p b) q = λ i. tree.a_set_type (ap left_number q i) (ap number (ap second q) i) (denoter_told a b (ap rest q) i)
  structure_told x y q = absurd (omega (arith, ap lead q, structure_lead x, structure_lead y))

  array_told : (x y : ArrayDenoter) → node.array_node x ≡ node.array_node y → tree.array_tree x ≡ tree.array_tree y
  array_told (ArrayDenoter' w n a _ r c o x) (ArrayDenoter' v m b _ s d p y) q =
      let others = ap rest (ap rest q) in
      λ i. tree.index_types (ap left_number q i) (ap number (ap second q) i) (denoter_told a b (ap left (ap rest q)) i)
      (denoters_told r s (ap second (ap rest q)) i) (ap left_number others i) (ap number (ap second others) i) (denoter_told x y (ap rest others) i)

  denoters_told : {m n : _} (r : Row_of-NextDenoter m) (s : Row_of-NextDenoter n) → node.denoters_node r ≡ node.denoters_node s
      → tree.denoter_row r ≡ tree.denoter_row s
  denoters_told end_of-NextDenoter end_of-NextDenoter q = refl
  denoters_told (more_of-NextDenoter n a r) (more_of-NextDenoter m b s) q =
      λ i. tree.more_denoters (ap number (ap left (ap left q)) i) (denoter_told a b (ap right (ap left q)) i) (denoters_told r s (ap right q) i)
  denoters_told r s q = absurd (omega (arith, ap form q))

  fields_told : (x y : Fields) → node.fields_node x ≡ node.fields_node y → tree.fields_tree x ≡ tree.fields_tree y
  fields_told Empty Empty q = refl
  fields_told (Fixed' a v n) (Fixed' b w m) q =
      let p = fixed_told a b (node.next_variants_node v n) (node.next_variants_node w m) (next_variants_end v n) (next_variants_end w m) q in
      let z = next_variants_told v w n m p.1 in
      λ i. tree.fixed_fields (p.0 i) (z.0 i) (z.1 i)
  fields_told (FieldsVariants' _ v n) (FieldsVariants' _ w m) q =
      let z = variants_told v w n m q in
      λ i. tree.variant_fields (z.0 i) (z.1 i)
  fields_told x y q = absurd (omega (arith, ap form (ap left q), fields_left x, fields_left y))

  fixed_told : (a b : FixedOf) (x y : Node) → Ends x → Ends y → node.fixed_node a x ≡ node.fixed_node b y → (tree.fixed_tree a ≡ tree.fixed_tree b) × (x ≡ y)
  fixed_told (FixedOf' a n c _ r) (FixedOf' b m d _ s) x y h j q =
      let p = sections_told r s x y h j (ap right q) in
      let first = ap left q in (
        λ i. tree.fixed_part (tree.a_section (names_told a b (ap left first) i) (ap number (ap second first) i) (denoter_told c d (ap rest first) i)) (p.0 i),
        p.1,
      )

  sections_told : {m n : _} (r : Row_of-NextSection m) (s : Row_of-NextSection n) (x y : Node) → Ends x → Ends y
      → node.sections_node r x ≡ node.sections_node s y → (tree.section_row r ≡ tree.section_row s) × (x ≡ y)
  sections_told end_of-NextSection end_of-NextSection x y h j q = (refl, q)
  sections_told (more_of-NextSection o a n c r) (more_of-NextSection p b m d s) x y h j q =
      let z = sections_told r s x y h j (ap rest q) in
      let here = ap second q in (
        λ i. tree.more_sections (ap left_number q i)
            (tree.a_section (names_told a b (ap left here) i) (ap number (ap second here) i) (denoter_told c d (ap rest here) i)) (z.0 i),
        z.1,
      )
  sections_told r s x y h j q = absurd (omega (arith, ap form (ap second q), h, j))

  next_variants_told : (v w : Held-Fields-Fixed-1) (n m : Option ℕ) → node.next_variants_node v n ≡ node.next_variants_node w m
      → (tree.part_tree v ≡ tree.part_tree w) × (n ≡ m)
  next_variants_told None' None' n m q = (refl, last_told n m q)
  next_variants_told (Some' (NextVariants' o _ v)) (Some' (NextVariants' p _ w)) n m q =
      let z = variants_told v w n m (ap right q) in
      (λ i. tree.a_part (ap left_number q i) (z.0 i), z.1)
  next_variants_told None' (Some' (NextVariants' p _ w)) n m q = absurd (omega (arith, ap lead (ap right q), (last_right n).1, variants_lead w m))
  next_variants_told (Some' (NextVariants' o _ v)) None' n m q = absurd (omega (arith, ap lead (ap right q), (last_right m).1, variants_lead v n))

  variants_told : (v w : VariantsOf) (n m : Option ℕ) → node.variants_node v n ≡ node.variants_node w m → (tree.variants_tree v ≡ tree.variants_tree w)
      × (n ≡ m)
  variants_told (Variants' w t o a n k f c _ r) (Variants' v u p b m l g d _ s) x y q =
      let tags = tag_told t.field u.field t.name u.name (ap second q) in
      let arm = ap second (ap rest q) in
      let arms = arms_told r s x y (ap rest (ap rest q)) in (
        λ i. tree.arms (ap left_number q i) (record { field = tags.0 i; name = tags.1 i }) (ap left_number (ap rest q) i)
            (tree.an_arm (constants_told a b (ap left arm) i) (ap number (ap second arm) i) (ap left_number (ap rest arm) i)
            (fields_told f g (ap second (ap rest arm)) i) (ap number (ap rest (ap rest arm)) i)) (arms.0 i),
        arms.1,
      )

  arms_told : {m n : _} (r : Row_of-NextArm m) (s : Row_of-NextArm n) (x y : Option ℕ)
      → node.arms_node r (node.last_semicolon_node x) ≡ node.arms_node s (node.last_semicolon_node y) → (tree.arm_row r ≡ tree.arm_row s) × (x ≡ y)
  arms_told end_of-NextArm end_of-NextArm x y q = (refl, last_told x y q)
  arms_told (more_of-NextArm o a n k f c r) (more_of-NextArm p b m l g d s) x y q =
      let arm = ap second q in
      let arms = arms_told r s x y (ap rest q) in (
        λ i. tree.more_arms (ap left_number q i)
            (tree.an_arm (constants_told a b (ap left arm) i) (ap number (ap second arm) i) (ap left_number (ap rest arm) i)
            (fields_told f g (ap second (ap rest arm)) i) (ap number (ap rest (ap rest arm)) i)) (arms.0 i),
        arms.1,
      )
  arms_told r s x y q = absurd (omega (arith, ap form (ap right q), (last_right x).0, (last_right y).0))
