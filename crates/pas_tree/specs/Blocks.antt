-- Blocks and programs as nodes.
use Rattle.std.specs.Prelude.{None, Option, Some, map}
use Rattle.grammar.specs.Nodes.{Node, Nothing, Pair, leaf, row}
use Rattle.grammar.specs.declared.terminals.Terminal.TheVariants as k
use Rattle.pas_tree.specs.{Constants.constant_node, Constants.names_node, Denoters.denoter_node, Headings.heading_node}
use Rattle.pas_tree.specs.{Statements.compound_node, declared.blocks.ConstantDefinition.ConstantDefinition}
use Rattle.pas_tree.specs.declared.blocks.{Block.more_of-Routine, ConstantPart.ConstantPart, LabelPart.LabelPart}
use Rattle.pas_tree.specs.declared.blocks.{NextLabel.NextLabel, Parameters.Parameters, Routine.Routine, Tree.Tree}
use Rattle.pas_tree.specs.declared.blocks.{TypeDefinition.TypeDefinition, TypePart.TypePart, VariablePart.VariablePart}
use Rattle.pas_tree.specs.declared.blocks.Block.{Block, Block' as BlockTree', Row_of-Routine, end_of-Routine}
use Rattle.pas_tree.specs.declared.blocks.RoutineBody.{Block', Directive, RoutineBody}
use Rattle.pas_tree.specs.declared.blocks.VariableDeclaration.{VariableDeclaration}

abbrev pub next_label_node : NextLabel → Node
next_label_node n = Pair (leaf k.Comma n.comma) (leaf k.Number n.number)

abbrev pub label_part_node : Option LabelPart → Node
label_part_node None = Nothing
label_part_node (Some p) = Pair (leaf k.WLabel p.word)
    (Pair (leaf k.Number p.first) (Pair (row (map next_label_node p.others.items)) (leaf k.Semicolon p.semicolon)))

abbrev pub constant_definition_node : ConstantDefinition → Node
constant_definition_node d = Pair (leaf k.Name d.name)
    (Pair (leaf k.Equal d.equal) (Pair (constant_node d.constant) (leaf k.Semicolon d.semicolon)))

abbrev pub constant_part_node : Option ConstantPart → Node
constant_part_node None = Nothing
constant_part_node (Some p) = Pair (leaf k.WConst p.word)
    (Pair (constant_definition_node p.first) (row (map constant_definition_node p.others.items)))

abbrev pub type_definition_node : TypeDefinition → Node
type_definition_node d = Pair (leaf k.Name d.name)
    (Pair (leaf k.Equal d.equal) (Pair (denoter_node d.denoter) (leaf k.Semicolon d.semicolon)))

abbrev pub type_part_node : Option TypePart → Node
type_part_node None = Nothing
type_part_node (Some p) = Pair (leaf k.WType p.word)
    (Pair (type_definition_node p.first) (row (map type_definition_node p.others.items)))

abbrev pub variable_declaration_node : VariableDeclaration → Node
variable_declaration_node d = Pair (names_node d.names)
    (Pair (leaf k.Colon d.colon) (Pair (denoter_node d.denoter) (leaf k.Semicolon d.semicolon)))

abbrev pub variable_part_node : Option VariablePart → Node
variable_part_node None = Nothing
variable_part_node (Some p) = Pair (leaf k.WVar p.word)
    (Pair (variable_declaration_node p.first) (row (map variable_declaration_node p.others.items)))

abbrev mutual
  pub block_node : Block → Node
  block_node (BlockTree' labels constants types variables _ routines body) =
      Pair (label_part_node labels) (Pair (constant_part_node constants)
      (Pair (type_part_node types) (Pair (variable_part_node variables)
      (Pair (routines_node routines) (compound_node body)))))

  pub routines_node : {m : _} → Row_of-Routine m → Node
  routines_node end_of-Routine = Nothing
  routines_node (more_of-Routine heading semicolon body last_semicolon rest) =
      Pair (Pair (heading_node heading) (Pair (leaf k.Semicolon semicolon)
      (Pair (body_node body) (leaf k.Semicolon last_semicolon)))) (routines_node rest)

  pub body_node : RoutineBody → Node
  body_node (Directive n) = leaf k.Name n
  body_node (Block' _ b) = block_node b

-- ---- what is repeated

abbrev pub routine_node : Routine → Node
routine_node r = Pair (heading_node r.heading)
    (Pair (leaf k.Semicolon r.semicolon) (Pair (body_node r.body) (leaf k.Semicolon r.last_semicolon)))

-- ---- the program

abbrev pub parameters_node : Option Parameters → Node
parameters_node None = Nothing
parameters_node (Some p) = Pair (leaf k.LeftParen p.«open») (Pair (names_node p.names) (leaf k.RightParen p.close))

-- The tree of a program as a node.
abbrev pub tree_node : Tree → Node
tree_node t =
    Pair (leaf k.WProgram t.word) (Pair (leaf k.Name t.name)
    (Pair (parameters_node t.parameters) (Pair (leaf k.Semicolon t.semicolon)
    (Pair (block_node t.block) (Pair (leaf k.Dot t.dot) (leaf k.End t.end))))))
