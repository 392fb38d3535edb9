-- Every program's node is a tree of the grammar, at some nesting.
use Rattle.std.proofs.Common.{None, Option, Some, refl}
use Rattle.grammar.{proofs.Somewhere.whole_nested, specs.Loose.IsGrammatical, specs.Loose.loose}
use Rattle.pas_tree.proofs.{DenotersFit.denoter_fits, HeadingsFit.heading_fits, StatementsFit.compound_fits}
use Rattle.pas_tree.proofs.ConstantsFit.{constant_fits, names_fits}
use Rattle.pas_tree.proofs.Fits.{Fits, absent, cons, deeper, left, listed, loose_rule, nil, one, pair, right}
use Rattle.pas_tree.specs.Blocks as node
use Rattle.pas_tree.specs.Rules as r
use Rattle.pas_tree.specs.declared.blocks.{ConstantDefinition.ConstantDefinition, ConstantPart.ConstantPart, LabelPart.LabelPart, Parameters.Parameters}
use Rattle.pas_tree.specs.declared.blocks.{RoutineBody.Block', RoutineBody.Directive, RoutineBody.RoutineBody, Tree.Tree, TypeDefinition.TypeDefinition}
use Rattle.pas_tree.specs.declared.blocks.{TypePart.TypePart, VariableDeclaration.VariableDeclaration, VariablePart.VariablePart}
use Rattle.pas_tree.specs.declared.blocks.Block.{Block, Block' as BlockTree', Row_of-Routine, end_of-Routine, more_of-Routine}

label_part_fits : (p : Option LabelPart) → Fits r.label_part_rule (node.label_part_node p)
unfolding r.label_part_rule r.next_label_rule
label_part_fits None = absent
label_part_fits (Some p) =
    left (pair (one refl) (pair (one refl) (pair (listed node.next_label_node (λ x. pair (one refl) (one refl)) p.others.items) (one refl))))

constant_definition_fits : (d : ConstantDefinition) → Fits r.constant_definition_rule (node.constant_definition_node d)
unfolding r.constant_definition_rule
constant_definition_fits d = pair (one refl) (pair (one refl) (pair (constant_fits d.constant) (one refl)))

type_definition_fits : (d : TypeDefinition) → Fits r.type_definition_rule (node.type_definition_node d)
unfolding r.type_definition_rule
type_definition_fits d = pair (one refl) (pair (one refl) (pair (deeper (denoter_fits d.denoter)) (one refl)))

variable_declaration_fits : (d : VariableDeclaration) → Fits r.variable_declaration_rule (node.variable_declaration_node d)
unfolding r.variable_declaration_rule
variable_declaration_fits d = pair (names_fits d.names) (pair (one refl) (pair (deeper (denoter_fits d.denoter)) (one refl)))

constant_part_fits : (p : Option ConstantPart) → Fits r.constant_part_rule (node.constant_part_node p)
unfolding r.constant_part_rule
constant_part_fits None = absent
constant_part_fits (Some p) =
    left (pair (one refl) (pair (constant_definition_fits p.first) (listed node.constant_definition_node constant_definition_fits p.others.items)))

type_part_fits : (p : Option TypePart) → Fits r.type_part_rule (node.type_part_node p)
unfolding r.type_part_rule
type_part_fits None = absent
type_part_fits (Some p) =
    left (pair (one refl) (pair (type_definition_fits p.first) (listed node.type_definition_node type_definition_fits p.others.items)))

variable_part_fits : (p : Option VariablePart) → Fits r.variable_part_rule (node.variable_part_node p)
unfolding r.variable_part_rule
variable_part_fits None = absent
variable_part_fits (Some p) =
    left (pair (one refl) (pair (variable_declaration_fits p.first) (listed node.variable_declaration_node variable_declaration_fits p.others.items)))

mutual
  unfolding r.block_rule r.routines_rule r.routine_rule r.body_rule

  block_fits : (b : Block) → Fits r.block_rule (node.block_node b)
  block_fits (BlockTree' labels constants types variables _ routines body) =
      pair (label_part_fits labels) (pair (constant_part_fits constants) (pair (type_part_fits types) (pair (variable_part_fits variables)
      (pair (routines_fits routines) (compound_fits body)))))

  routines_fits : {m : _} (t : Row_of-Routine m) → Fits r.routines_rule (node.routines_node t)
  routines_fits end_of-Routine = nil
  routines_fits (more_of-Routine head semicolon body last_semicolon rest) =
      cons (pair (deeper (heading_fits head)) (pair (one refl) (pair (body_fits body) (one refl)))) (routines_fits rest)

  body_fits : (b : RoutineBody) → Fits r.body_rule (node.body_node b)
  body_fits (Directive n) = left (one refl)
  body_fits (Block' _ b) = right (deeper (block_fits b))

parameters_fits : (p : Option Parameters) → Fits r.parameters_rule (node.parameters_node p)
unfolding r.parameters_rule
parameters_fits None = absent
parameters_fits (Some p) = left (pair (one refl) (pair (names_fits p.names) (one refl)))

program_fits : (t : Tree) → Fits r.program_rule (node.tree_node t)
unfolding r.program_rule
program_fits t =
    pair (one refl) (pair (one refl) (pair (parameters_fits t.parameters) (pair (one refl) (pair (deeper (block_fits t.block)) (pair (one refl) (one refl))))))

pub tree_fits : (t : Tree) → IsGrammatical r.rule r.program_rule (node.tree_node t)
tree_fits t = whole_nested loose_rule (loose r.program_rule) (node.tree_node t) None ((program_fits t).before None)
