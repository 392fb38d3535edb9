-- Programs with equal nodes have equal trees.
use Rattle.std.proofs.Common.{◌≡◌, None, Option, Some, ap, arith, option_map, refl}
use Rattle.grammar.proofs.Texts.{one_tree}
use Rattle.pas_tree.proofs.{Decided.pascal_decided, DenotersTold.denoter_told, HeadingsTold.heading_told, StatementsTold.compound_told}
use Rattle.pas_tree.proofs.Told.{all_told, constant_told, form, items_told, left, left_number, names_told, number, rest, right, second}
use Rattle.pas_tree.specs.{FirstFollow.pascal, OneTree.NodesTellTrees, OneTree.TextTellsTree, Rules.program_rule}
use Rattle.pas_tree.specs.BlockTrees as tree
use Rattle.pas_tree.specs.Blocks as node
use Rattle.pas_tree.specs.declared.blocks.{ConstantDefinition.ConstantDefinition, ConstantPart.ConstantPart, LabelPart.LabelPart, NextLabel.NextLabel}
use Rattle.pas_tree.specs.declared.blocks.{Parameters.Parameters, RoutineBody.Block', RoutineBody.Directive, RoutineBody.RoutineBody}
use Rattle.pas_tree.specs.declared.blocks.{TypeDefinition.TypeDefinition, TypePart.TypePart, VariableDeclaration.VariableDeclaration, VariablePart.VariablePart}
use Rattle.pas_tree.specs.declared.blocks.Block.{Block, Block' as BlockOf', Row_of-Routine, end_of-Routine, more_of-Routine}

next_label_told : (a b : NextLabel) → node.next_label_node a ≡ node.next_label_node b → a ≡ b
next_label_told a b q = λ i. record { comma = ap left_number q i; number = ap number (ap right q) i }

labels_told : (a b : Option LabelPart) → node.label_part_node a ≡ node.label_part_node b → option_map tree.label_part_tree a ≡ option_map tree.label_part_tree b
labels_told None None q = refl
labels_told (Some a) (Some b) q =
    λ i. Some (record {
      word = ap left_number q i;
      first = ap number (ap second q) i;
      others = items_told node.next_label_node next_label_told a.others.items b.others.items (ap left (ap rest q)) i;
      semicolon = ap number (ap right (ap rest q)) i;
    })
labels_told a b q = absurd (omega (arith, ap form q))

constant_definition_told : (a b : ConstantDefinition) → node.constant_definition_node a ≡ node.constant_definition_node b → a ≡ b
constant_definition_told a b q =
    λ i. record {
      name = ap left_number q i;
      equal = ap number (ap second q) i;
      constant = constant_told a.constant b.constant (ap left (ap rest q)) i;
      semicolon = ap number (ap right (ap rest q)) i;
    }

constant_part_told : (a b : Option ConstantPart) → node.constant_part_node a ≡ node.constant_part_node b
    → option_map tree.constant_part_tree a ≡ option_map tree.constant_part_tree b
constant_part_told None None q = refl
constant_part_told (Some a) (Some b) q =
    λ i. Some (record {
      word = ap left_number q i;
      first = constant_definition_told a.first b.first (ap second q) i;
      others = items_told node.constant_definition_node constant_definition_told a.others.items b.others.items (ap rest q) i;
    })
constant_part_told a b q = absurd (omega (arith, ap form q))

type_definition_told : (a b : TypeDefinition) → node.type_definition_node a ≡ node.type_definition_node b
    → tree.type_definition_tree a ≡ tree.type_definition_tree b
type_definition_told a b q =
    λ i. record {
      name = ap left_number q i;
      equal = ap number (ap second q) i;
      denoter = denoter_told a.denoter b.denoter (ap left (ap rest q)) i;
      semicolon = ap number (ap right (ap rest q)) i;
    }

type_part_told : (a b : Option TypePart) → node.type_part_node a ≡ node.type_part_node b → option_map tree.type_part_tree a ≡ option_map tree.type_part_tree b
type_part_told None None q = refl
type_part_told (Some a) (Some b) q =
    λ i. Some (record {
      word = ap left_number q i;
      first = type_definition_told a.first b.first (ap second q) i;
      others = all_told node.type_definition_node tree.type_definition_tree type_definition_told a.others.items b.others.items (ap rest q) i;
    })
type_part_told a b q = absurd (omega (arith, ap form q))

variable_declaration_told : (a b : VariableDeclaration) → node.variable_declaration_node a ≡ node.variable_declaration_node b
    → tree.variable_declaration_tree a ≡ tree.variable_declaration_tree b
variable_declaration_told a b q =
    λ i. record {
      names = names_told a.names b.names (ap left q) i;
      colon = ap number (ap second q) i;
      denoter = denoter_told a.denoter b.denoter (ap left (ap rest q)) i;
      semicolon = ap number (ap right (ap rest q)) i;
    }

variable_part_told : (a b : Option VariablePart) → node.variable_part_node a ≡ node.variable_part_node b
    → option_map tree.variable_part_tree a ≡ option_map tree.variable_part_tree b
variable_part_told None None q = refl
variable_part_told (Some a) (Some b) q =
    λ i. Some (record {
      word = ap left_number q i;
      first = variable_declaration_told a.first b.first (ap second q) i;
      others = all_told node.variable_declaration_node tree.variable_declaration_tree variable_declaration_told a.others.items b.others.items (ap rest q) i;
    })
variable_part_told a b q = absurd (omega (arith, ap form q))

block_form : (b : Block) → form (node.block_node b) ≡ 2
block_form (BlockOf' l c t v _ r a) = refl

mutual
  block_told : (x y : Block) → node.block_node x ≡ node.block_node y → tree.block_tree x ≡ tree.block_tree y
  block_told (BlockOf' l c t v _ r a) (BlockOf' k d u w _ s b) q =
      let others = ap rest (ap rest q) in
      λ i. tree.a_block (labels_told l k (ap left q) i) (constant_part_told c d (ap second q) i) (type_part_told t u (ap left (ap rest q)) i)
      (variable_part_told v w (ap second (ap rest q)) i) (routines_told r s (ap left others) i) (compound_told a b (ap right others) i)

  routines_told : {m n : _} (r : Row_of-Routine m) (s : Row_of-Routine n) → node.routines_node r ≡ node.routines_node s
      → tree.routine_row r ≡ tree.routine_row s
  routines_told end_of-Routine end_of-Routine q = refl
  routines_told (more_of-Routine h n a o r) (more_of-Routine g m b p s) q =
      let here = ap left q in
      λ i. tree.more_routines (tree.a_routine (heading_told h g (ap left here) i) (ap number (ap second here) i)
      (body_told a b (ap left (ap rest here)) i) (ap number (ap right (ap rest here)) i)) (routines_told r s (ap right q) i)
  routines_told r s q = absurd (omega (arith, ap form q))

  body_told : (x y : RoutineBody) → node.body_node x ≡ node.body_node y → tree.body_tree x ≡ tree.body_tree y
  body_told (Directive n) (Directive m) q = λ i. tree.a_directive (ap number q i)
  body_told (Block' _ a) (Block' _ b) q = λ i. tree.a_block_body (block_told a b q i)
  body_told (Directive n) (Block' _ b) q = absurd (omega (arith, ap form q, block_form b))
  body_told (Block' _ a) (Directive m) q = absurd (omega (arith, ap form q, block_form a))

parameters_told : (a b : Option Parameters) → node.parameters_node a ≡ node.parameters_node b
    → option_map tree.parameters_tree a ≡ option_map tree.parameters_tree b
parameters_told None None q = refl
parameters_told (Some a) (Some b) q =
    λ i. Some (record { left = ap left_number q i; names = names_told a.names b.names (ap second q) i; right = ap number (ap rest q) i })
parameters_told a b q = absurd (omega (arith, ap form q))

pub trees_told : NodesTellTrees
trees_told a b q =
    let block = ap rest (ap rest q) in
    λ i. record {
      word = ap left_number q i;
      name = ap number (ap second q) i;
      parameters = parameters_told a.parameters b.parameters (ap left (ap rest q)) i;
      semicolon = ap number (ap second (ap rest q)) i;
      block = block_told a.block b.block (ap left block) i;
      dot = ap number (ap second block) i;
      last = ap number (ap rest block) i;
    }

pub text_told : TextTellsTree
text_told n a b f g e = trees_told a b (one_tree pascal program_rule pascal_decided n (node.tree_node a) (node.tree_node b) f g e)
