-- The nodes of blocks and programs are those of their trees without memory.
use Rattle.std.proofs.Common.{◌≡◌, None, Option, Some, option_map, refl}
use Rattle.grammar.specs.Nodes.{Pair, leaf}
use Rattle.grammar.specs.declared.terminals.Terminal.TheVariants as k
use Rattle.pas_tree.proofs.{DenotersAgree.denoter_same, HeadingsAgree.heading_same, StatementsAgree.compound_same, StatementsAgree.row_same}
use Rattle.pas_tree.specs.BlockTrees as tree_blocks
use Rattle.pas_tree.specs.Blocks as blocks
use Rattle.pas_tree.specs.Constants as constants
use Rattle.pas_tree.specs.TreeNodes as node
use Rattle.pas_tree.specs.declared.blocks.{ConstantPart.ConstantPart, LabelPart.LabelPart, Parameters.Parameters, Tree.Tree, TypeDefinition.TypeDefinition}
use Rattle.pas_tree.specs.declared.blocks.{TypePart.TypePart, VariableDeclaration.VariableDeclaration, VariablePart.VariablePart}
use Rattle.pas_tree.specs.declared.blocks.Block.{Block, Block' as BlockTree', Row_of-Routine, end_of-Routine, more_of-Routine}
use Rattle.pas_tree.specs.declared.blocks.RoutineBody.{Block', Directive, RoutineBody}

label_part_same : (x : Option LabelPart) → blocks.label_part_node x ≡ node.label_part_node (option_map tree_blocks.label_part_tree x)
label_part_same None = refl
label_part_same (Some p) = refl

constant_part_same : (x : Option ConstantPart) → blocks.constant_part_node x ≡ node.constant_part_node (option_map tree_blocks.constant_part_tree x)
constant_part_same None = refl
constant_part_same (Some p) = refl

type_definition_same : (x : TypeDefinition) → blocks.type_definition_node x ≡ node.type_definition_node (tree_blocks.type_definition_tree x)
type_definition_same x =
    λ i. Pair (leaf k.Name x.name) (Pair (leaf k.Equal x.equal) (Pair (denoter_same x.denoter i) (leaf k.Semicolon x.semicolon)))

type_part_same : (x : Option TypePart) → blocks.type_part_node x ≡ node.type_part_node (option_map tree_blocks.type_part_tree x)
type_part_same None = refl
type_part_same (Some p) =
    λ i. Pair (leaf k.WType p.word) (Pair (type_definition_same p.first i)
    (row_same tree_blocks.type_definition_tree blocks.type_definition_node node.type_definition_node type_definition_same p.others.items i))

variable_declaration_same : (x : VariableDeclaration) → blocks.variable_declaration_node x
    ≡ node.variable_declaration_node (tree_blocks.variable_declaration_tree x)
variable_declaration_same x =
    λ i. Pair (constants.names_node x.names) (Pair (leaf k.Colon x.colon) (Pair (denoter_same x.denoter i) (leaf k.Semicolon x.semicolon)))

variable_part_same : (x : Option VariablePart) → blocks.variable_part_node x ≡ node.variable_part_node (option_map tree_blocks.variable_part_tree x)
variable_part_same None = refl
variable_part_same (Some p) =
    λ i. Pair (leaf k.WVar p.word) (Pair (variable_declaration_same p.first i)
    (row_same tree_blocks.variable_declaration_tree blocks.variable_declaration_node node.variable_declaration_node variable_declaration_same
    p.others.items i))

mutual
  pub block_same : (x : Block) → blocks.block_node x ≡ node.block_node (tree_blocks.block_tree x)
  block_same (BlockTree' labels constants types variables _ routines body) =
      λ i. Pair (label_part_same labels i) (Pair (constant_part_same constants i) (Pair (type_part_same types i) (Pair (variable_part_same variables i)
      (Pair (routines_same routines i) (compound_same body i)))))

  routines_same : {m : _} (x : Row_of-Routine m) → blocks.routines_node x ≡ node.routines_node (tree_blocks.routine_row x)
  routines_same end_of-Routine = refl
  routines_same (more_of-Routine heading semicolon body last_semicolon rest) =
      λ i. Pair (Pair (heading_same heading i) (Pair (leaf k.Semicolon semicolon) (Pair (body_same body i) (leaf k.Semicolon last_semicolon))))
      (routines_same rest i)

  body_same : (x : RoutineBody) → blocks.body_node x ≡ node.body_node (tree_blocks.body_tree x)
  body_same (Directive n) = refl
  body_same (Block' _ b) = block_same b

parameters_same : (x : Option Parameters) → blocks.parameters_node x ≡ node.parameters_node (option_map tree_blocks.parameters_tree x)
parameters_same None = refl
parameters_same (Some p) = refl

pub tree_same : (t : Tree) → blocks.tree_node t ≡ node.tree_node (tree_blocks.program_tree t)
tree_same t =
    λ i. Pair (leaf k.WProgram t.word) (Pair (leaf k.Name t.name) (Pair (parameters_same t.parameters i) (Pair (leaf k.Semicolon t.semicolon)
    (Pair (block_same t.block i) (Pair (leaf k.Dot t.dot) (leaf k.End t.end))))))
