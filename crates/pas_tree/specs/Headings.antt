-- Headings and formal parameters as nodes.
use Rattle.std.specs.Prelude.{None, Option, Some}
use Rattle.grammar.specs.Nodes.{Node, Nothing, Pair, leaf}
use Rattle.grammar.specs.declared.terminals.Terminal.TheVariants as k
use Rattle.pas_tree.specs.{Constants.names_node, Schemas.formal_type_node, declared.headings.Formals.more_of-NextFormal}
use Rattle.pas_tree.specs.declared.headings.{FormalNames.FormalNames, NextFormal.NextFormal, ResultType.ResultType}
use Rattle.pas_tree.specs.declared.headings.Formal.{Formal, Routine', Value, Variable}
use Rattle.pas_tree.specs.declared.headings.Formals.{Formals, Formals', Row_of-NextFormal, end_of-NextFormal}
use Rattle.pas_tree.specs.declared.headings.FunctionHeading.{FunctionHeading, FunctionHeading'}
use Rattle.pas_tree.specs.declared.headings.FunctionHeading.{Held-FunctionHeading-formals, None', Some'}
use Rattle.pas_tree.specs.declared.headings.Heading.{Function, Heading, Procedure}
use Rattle.pas_tree.specs.declared.headings.ProcedureHeading.{ProcedureHeading, ProcedureHeading'}

abbrev pub formal_names_node : FormalNames → Node
formal_names_node f = Pair (names_node f.names) (Pair (leaf k.Colon f.colon) (formal_type_node f.of))

abbrev pub result_node : Option ResultType → Node
result_node None = Nothing
result_node (Some r) = Pair (leaf k.Colon r.colon) (leaf k.Name r.name)

abbrev mutual
  pub heading_node : Heading → Node
  heading_node (Procedure p) = procedure_node p
  heading_node (Function f) = function_node f

  pub procedure_node : ProcedureHeading → Node
  procedure_node (ProcedureHeading' word name formals) =
      Pair (leaf k.WProcedure word) (Pair (leaf k.Name name) (held_formals_node formals))

  pub function_node : FunctionHeading → Node
  function_node (FunctionHeading' word name formals result) =
      Pair (leaf k.WFunction word) (Pair (leaf k.Name name) (Pair (held_formals_node formals) (result_node result)))

  pub held_formals_node : Held-FunctionHeading-formals → Node
  held_formals_node None' = Nothing
  held_formals_node (Some' f) = formals_node f

  pub formals_node : Formals → Node
  formals_node (Formals' open' first _ others close) =
      Pair (leaf k.LeftParen open') (Pair (formal_node first)
      (Pair (more_formals_node others) (leaf k.RightParen close)))

  pub more_formals_node : {m : _} → Row_of-NextFormal m → Node
  more_formals_node end_of-NextFormal = Nothing
  more_formals_node (more_of-NextFormal semicolon formal rest) =
      Pair (Pair (leaf k.Semicolon semicolon) (formal_node formal)) (more_formals_node rest)

  pub formal_node : Formal → Node
  formal_node (Value f) = formal_names_node f
  formal_node (Variable word f) = Pair (leaf k.WVar word) (formal_names_node f)
  formal_node (Routine' _ h) = heading_node h

-- ---- what is repeated

abbrev pub next_formal_node : NextFormal → Node
next_formal_node n = Pair (leaf k.Semicolon n.semicolon) (formal_node n.formal)
