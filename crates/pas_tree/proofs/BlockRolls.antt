-- The nodes of blocks.
use Rattle.std.proofs.Common.{◌≡◌, Global, Option, Vec, map, refl}
use denote.Hole.Carrier.{roll}
use Rattle.grammar.specs.Nodes.{Pair, row}
use Rattle.pas_tree.specs.{Statements.compound_node, declared.blocks.VariablePart.VariablePart, declared.statements.Compound.Compound}
use Rattle.pas_tree.specs.Blocks as node
use Rattle.pas_tree.specs.declared.blocks.{Block.roll-Block, ConstantPart.ConstantPart, LabelPart.LabelPart, Routine.Routine, TypePart.TypePart}
use Rattle.pas_tree.specs.declared.blocks.RoutineBody.TheBlock as b

routines_row : (n : _) (r : b.Row_of-Routine n) → node.routines_node r ≡ row (map node.routine_node (b.items-the_row-Routine n r))
routines_row _ b.end_of-Routine = refl
routines_row _ (b.more_of-Routine heading semicolon body last_semicolon rest) = rw (routines_row _ rest)

pub block_rolled : (labels : Option LabelPart) (constants : Option ConstantPart) (types : Option TypePart) (variables : Option VariablePart)
    (routines : Vec Routine Global) (body : Compound)
    → node.block_node (roll-Block (record {
      labels = labels;
      constants = constants;
      types = types;
      variables = variables;
      routines = routines;
      body = body;
    }))
    ≡ Pair (node.label_part_node labels) (Pair (node.constant_part_node constants) (Pair (node.type_part_node types) (Pair (node.variable_part_node variables)
    (Pair (row (map node.routine_node routines.items)) (compound_node body)))))
unfolding roll-Block roll
block_rolled labels constants types variables routines body = rw (routines_row _ (b.hidden-the_row-Routine-0 routines), b.items_hidden-the_row-Routine-0)
