-- Each node of a heading is that of a typed tree.
use Rattle.std.proofs.Common.{◌∷◌, [], None, Some, refl}
use Rattle.grammar.specs.{Grammars.Level, Nesting.Trees, declared.terminals.Terminal.Terminal}
use Rattle.pas_tree.proofs.{ConstantsCovered.names_covered, HeadingRolls.formals_rolled, Levels.Levels, Memory.boxed, Parts.parts, Repeated.listed}
use Rattle.pas_tree.proofs.Covers.{Covers, absent, choose, four, made, one, pair, three}
use Rattle.pas_tree.proofs.SchemasCovered.{formal_type_covered}
use Rattle.pas_tree.specs.Headings as node
use Rattle.pas_tree.specs.Rules as r
use Rattle.pas_tree.specs.declared.headings.{Formals.roll-Formals, Heading.Function, Heading.Procedure, ProcedureHeading.ProcedureHeading'}
use Rattle.pas_tree.specs.declared.headings.Formal.{Routine', Value, Variable}
use Rattle.pas_tree.specs.declared.headings.FunctionHeading.{FunctionHeading', None', Some'}

module _ {E : Level → Trees} (levels : Levels E) where
  formal_names_covered : Covers E r.variables_formal_rule node.formal_names_node
  unfolding r.variables_formal_rule
  formal_names_covered = made (λ (names, colon, of). record { names = names; colon = colon; of = of }) (λ _. refl)
      (three names_covered one (formal_type_covered levels))

  formal_covered : Covers E r.formal_rule node.formal_node
  unfolding r.formal_rule
  formal_covered =
      choose (made Value (λ _. refl) formal_names_covered)
      (choose (made (λ (word, names). Variable word names) (λ _. refl) (pair one formal_names_covered)) (made (Routine' (boxed tt)) (λ _. refl) levels.heading))

  next_formal_covered : Covers E r.next_formal_rule node.next_formal_node
  unfolding r.next_formal_rule
  next_formal_covered = made (λ (semicolon, formal). record { semicolon = semicolon; formal = formal }) (λ _. refl) (pair one formal_covered)

  formals_covered : Covers E r.formals_rule node.formals_node
  unfolding r.formals_rule
  formals_covered = made (λ (open', first, others, close). roll-Formals (record { «open» = open'; first = first; others = others; close = close }))
      (λ (open', first, others, close). formals_rolled open' first others close)
      (four one formal_covered (listed parts.next_formal next_formal_covered) one)

  held_formals_covered : Covers E (r.optional (Terminal.LeftParen ∷ []) r.formals_rule) node.held_formals_node
  held_formals_covered = choose (made Some' (λ _. refl) formals_covered) (absent None' refl)

  result_covered : Covers E r.result_rule node.result_node
  unfolding r.result_rule
  result_covered = choose (made (λ (colon, name). Some (record { colon = colon; name = name })) (λ _. refl) (pair one one)) (absent None refl)

  pub heading_covered : Covers E r.heading_rule node.heading_node
  unfolding r.heading_rule r.procedure_rule r.function_rule
  heading_covered =
      choose (made (λ (word, name, formals). Procedure (ProcedureHeading' word name formals)) (λ _. refl) (three one one held_formals_covered))
      (made (λ (word, name, formals, result). Function (FunctionHeading' word name formals result)) (λ _. refl)
      (four one one held_formals_covered result_covered))
