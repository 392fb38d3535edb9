-- Each node of a block or a program is that of a typed tree.
use Rattle.std.proofs.Common.{None, Some, refl}
use Rattle.grammar.specs.{Grammars.Level, Nesting.Trees}
use Rattle.pas_tree.proofs.{BlockRolls.block_rolled, Levels.Levels, Memory.boxed, Parts.parts, Repeated.listed, StatementsCovered.compound_covered}
use Rattle.pas_tree.proofs.ConstantsCovered.{constant_covered, names_covered}
use Rattle.pas_tree.proofs.Covers.{Covers, absent, choose, five, four, made, one, pair, three}
use Rattle.pas_tree.specs.Blocks as node
use Rattle.pas_tree.specs.Rules as r
use Rattle.pas_tree.specs.declared.blocks.{Block.roll-Block, RoutineBody.Block', RoutineBody.Directive}

module _ {E : Level → Trees} where
  next_label_covered : Covers E r.next_label_rule node.next_label_node
  unfolding r.next_label_rule
  next_label_covered = made (λ (comma, number). record { comma = comma; number = number }) (λ _. refl) (pair one one)

  label_part_covered : Covers E r.label_part_rule node.label_part_node
  unfolding r.label_part_rule
  label_part_covered =
      choose (made (λ (word, first, others, semicolon). Some (record { word = word; first = first; others = others; semicolon = semicolon })) (λ _. refl)
      (four one one (listed parts.next_label next_label_covered) one)) (absent None refl)

  constant_definition_covered : Covers E r.constant_definition_rule node.constant_definition_node
  unfolding r.constant_definition_rule
  constant_definition_covered =
      made (λ (name, equal, constant, semicolon). record { name = name; equal = equal; constant = constant; semicolon = semicolon }) (λ _. refl)
      (four one one constant_covered one)

  constant_part_covered : Covers E r.constant_part_rule node.constant_part_node
  unfolding r.constant_part_rule
  constant_part_covered =
      choose (made (λ (word, first, others). Some (record { word = word; first = first; others = others })) (λ _. refl)
      (three one constant_definition_covered (listed parts.constant_definition constant_definition_covered))) (absent None refl)

  parameters_covered : Covers E r.parameters_rule node.parameters_node
  unfolding r.parameters_rule
  parameters_covered = choose (made (λ (open', names, close). Some (record { «open» = open'; names = names; close = close })) (λ _. refl)
      (three one names_covered one)) (absent None refl)

module _ {E : Level → Trees} (levels : Levels E) where
  -- ---- declarations

  type_definition_covered : Covers E r.type_definition_rule node.type_definition_node
  unfolding r.type_definition_rule
  type_definition_covered =
      made (λ (name, equal, denoter, semicolon). record { name = name; equal = equal; denoter = denoter; semicolon = semicolon }) (λ _. refl)
      (four one one levels.denoter one)

  type_part_covered : Covers E r.type_part_rule node.type_part_node
  unfolding r.type_part_rule
  type_part_covered =
      choose (made (λ (word, first, others). Some (record { word = word; first = first; others = others })) (λ _. refl)
      (three one type_definition_covered (listed parts.type_definition type_definition_covered))) (absent None refl)

  variable_declaration_covered : Covers E r.variable_declaration_rule node.variable_declaration_node
  unfolding r.variable_declaration_rule
  variable_declaration_covered =
      made (λ (names, colon, denoter, semicolon). record { names = names; colon = colon; denoter = denoter; semicolon = semicolon }) (λ _. refl)
      (four names_covered one levels.denoter one)

  variable_part_covered : Covers E r.variable_part_rule node.variable_part_node
  unfolding r.variable_part_rule
  variable_part_covered =
      choose (made (λ (word, first, others). Some (record { word = word; first = first; others = others })) (λ _. refl)
      (three one variable_declaration_covered (listed parts.variable_declaration variable_declaration_covered))) (absent None refl)

  -- ---- procedures and functions

  body_covered : Covers E r.body_rule node.body_node
  unfolding r.body_rule
  body_covered = choose (made Directive (λ _. refl) one) (made (Block' (boxed tt)) (λ _. refl) levels.block)

  routine_covered : Covers E r.routine_rule node.routine_node
  unfolding r.routine_rule
  routine_covered =
      made (λ (heading, semicolon, body, last). record { heading = heading; semicolon = semicolon; body = body; last_semicolon = last }) (λ _. refl)
      (four levels.heading one body_covered one)

  -- ---- blocks and the program

  pub block_covered : Covers E r.block_rule node.block_node
  unfolding r.block_rule r.routines_rule
  block_covered =
      made (λ (labels, constants, types, variables, rest). roll-Block (record {
        labels = labels;
        constants = constants;
        types = types;
        variables = variables;
        routines = rest.0;
        body = rest.1;
      }))
      (λ (labels, constants, types, variables, rest). block_rolled labels constants types variables rest.0 rest.1)
      (five label_part_covered constant_part_covered type_part_covered variable_part_covered
      (pair (listed parts.routine routine_covered) (compound_covered levels)))

  pub program_covered : Covers E r.program_rule node.tree_node
  unfolding r.program_rule
  program_covered =
      made (λ (word, name, parameters, semicolon, rest). record {
        word = word;
        name = name;
        parameters = parameters;
        semicolon = semicolon;
        block = rest.0;
        dot = rest.1;
        end = rest.2;
      }) (λ _. refl) (five one one parameters_covered one (three levels.block one one))
