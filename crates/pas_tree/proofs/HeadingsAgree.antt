-- The nodes of headings are those of their trees without memory.
use Rattle.std.proofs.Common.{◌≡◌, refl}
use Rattle.grammar.specs.Nodes.{Pair, leaf}
use Rattle.grammar.specs.declared.terminals.Terminal.TheVariants as k
use Rattle.pas_tree.proofs.SchemasAgree.{formal_type_same}
use Rattle.pas_tree.specs.Constants.{names_node}
use Rattle.pas_tree.specs.HeadingTrees as tree_headings
use Rattle.pas_tree.specs.Headings as headings
use Rattle.pas_tree.specs.TreeNodes as node
use Rattle.pas_tree.specs.declared.headings.{Formal.Formal, Formal.Routine', Formal.Value, Formal.Variable, FormalNames.FormalNames, Heading.Function}
use Rattle.pas_tree.specs.declared.headings.{Heading.Heading, Heading.Procedure, ProcedureHeading.ProcedureHeading, ProcedureHeading.ProcedureHeading'}
use Rattle.pas_tree.specs.declared.headings.Formals.{Formals, Formals', Row_of-NextFormal, end_of-NextFormal, more_of-NextFormal}
use Rattle.pas_tree.specs.declared.headings.FunctionHeading.{FunctionHeading, FunctionHeading', Held-FunctionHeading-formals, None', Some'}

formal_names_same : (x : FormalNames) → headings.formal_names_node x ≡ node.formal_names_node (tree_headings.formal_names_tree x)
formal_names_same x = λ i. Pair (names_node x.names) (Pair (leaf k.Colon x.colon) (formal_type_same x.of i))

mutual
  pub heading_same : (x : Heading) → headings.heading_node x ≡ node.heading_node (tree_headings.heading_tree x)
  heading_same (Procedure p) = procedure_same p
  heading_same (Function f) = function_same f

  procedure_same : (x : ProcedureHeading) → headings.procedure_node x ≡ node.procedure_node (tree_headings.procedure_tree x)
  procedure_same (ProcedureHeading' word name formals) =
      λ i. Pair (leaf k.WProcedure word) (Pair (leaf k.Name name) (held_formals_same formals i))

  function_same : (x : FunctionHeading) → headings.function_node x ≡ node.function_node (tree_headings.function_tree x)
  function_same (FunctionHeading' word name formals result) =
      λ i. Pair (leaf k.WFunction word) (Pair (leaf k.Name name) (Pair (held_formals_same formals i) (headings.result_node result)))

  held_formals_same : (x : Held-FunctionHeading-formals) → headings.held_formals_node x ≡ node.held_formals_node (tree_headings.held_formals_tree x)
  held_formals_same None' = refl
  held_formals_same (Some' f) = formals_same f

  formals_same : (x : Formals) → headings.formals_node x ≡ node.formals_node (tree_headings.formals_tree x)
  formals_same (Formals' open' first _ others close) =
      λ i. Pair (leaf k.LeftParen open') (Pair (formal_same first i) (Pair (more_formals_same others i) (leaf k.RightParen close)))

  more_formals_same : {m : _} (x : Row_of-NextFormal m) → headings.more_formals_node x ≡ node.more_formals_node (tree_headings.formal_row x)
  more_formals_same end_of-NextFormal = refl
  more_formals_same (more_of-NextFormal semicolon formal rest) =
      λ i. Pair (Pair (leaf k.Semicolon semicolon) (formal_same formal i)) (more_formals_same rest i)

  formal_same : (x : Formal) → headings.formal_node x ≡ node.formal_node (tree_headings.formal_tree x)
  formal_same (Value f) = formal_names_same f
  formal_same (Variable word f) =
      λ i. Pair (leaf k.WVar word) (formal_names_same f i)
  formal_same (Routine' _ h) = heading_same h
