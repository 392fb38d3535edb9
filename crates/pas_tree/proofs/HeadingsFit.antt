-- Every heading's node fits its rule.
use Rattle.std.proofs.Common.{◌∷◌, [], None, Option, Some, refl}
use Rattle.grammar.specs.{Grammars.many, declared.terminals.Terminal.Terminal}
use Rattle.pas_tree.proofs.{ConstantsFit.names_fits, SchemasFit.formal_type_fits}
use Rattle.pas_tree.proofs.Fits.{Fits, absent, cons, deeper, left, nil, one, pair, right}
use Rattle.pas_tree.specs.Headings as node
use Rattle.pas_tree.specs.Rules as r
use Rattle.pas_tree.specs.declared.headings.{FormalNames.FormalNames, Heading.Function, Heading.Heading, Heading.Procedure, ResultType.ResultType}
use Rattle.pas_tree.specs.declared.headings.Formal.{Formal, Routine', Value, Variable}
use Rattle.pas_tree.specs.declared.headings.Formals.{Formals, Formals', Row_of-NextFormal, end_of-NextFormal, more_of-NextFormal}
use Rattle.pas_tree.specs.declared.headings.FunctionHeading.{FunctionHeading, FunctionHeading', Held-FunctionHeading-formals, None', Some'}
use Rattle.pas_tree.specs.declared.headings.ProcedureHeading.{ProcedureHeading, ProcedureHeading'}

formal_names_fits : (f : FormalNames) → Fits r.variables_formal_rule (node.formal_names_node f)
unfolding r.variables_formal_rule
formal_names_fits f = pair (names_fits f.names) (pair (one refl) (formal_type_fits f.of))

result_fits : (t : Option ResultType) → Fits r.result_rule (node.result_node t)
unfolding r.result_rule
result_fits None = absent
result_fits (Some t) = left (pair (one refl) (one refl))

mutual
  unfolding r.heading_rule r.procedure_rule r.function_rule r.formals_rule r.next_formal_rule r.formal_rule

  pub heading_fits : (x : Heading) → Fits r.heading_rule (node.heading_node x)
  heading_fits (Procedure p) = left (procedure_fits p)
  heading_fits (Function f) = right (function_fits f)

  procedure_fits : (p : ProcedureHeading) → Fits r.procedure_rule (node.procedure_node p)
  procedure_fits (ProcedureHeading' word name formals) = pair (one refl) (pair (one refl) (held_formals_fits formals))

  function_fits : (f : FunctionHeading) → Fits r.function_rule (node.function_node f)
  function_fits (FunctionHeading' word name formals result) =
      pair (one refl) (pair (one refl) (pair (held_formals_fits formals) (result_fits result)))

  held_formals_fits : (f : Held-FunctionHeading-formals) → Fits (r.optional (Terminal.LeftParen ∷ []) r.formals_rule) (node.held_formals_node f)
  held_formals_fits None' = absent
  held_formals_fits (Some' f) = left (formals_fits f)

  formals_fits : (f : Formals) → Fits r.formals_rule (node.formals_node f)
  formals_fits (Formals' open' first _ others close) = pair (one refl) (pair (formal_fits first) (pair (more_formals_fits others) (one refl)))

  more_formals_fits : {m : _} (t : Row_of-NextFormal m) → Fits (many (Terminal.Semicolon ∷ []) r.next_formal_rule) (node.more_formals_node t)
  more_formals_fits end_of-NextFormal = nil
  more_formals_fits (more_of-NextFormal semicolon formal rest) = cons (pair (one refl) (formal_fits formal)) (more_formals_fits rest)

  formal_fits : (f : Formal) → Fits r.formal_rule (node.formal_node f)
  formal_fits (Value f) = left (formal_names_fits f)
  formal_fits (Variable word f) = right (left (pair (one refl) (formal_names_fits f)))
  formal_fits (Routine' _ x) = right (right (deeper (heading_fits x)))
