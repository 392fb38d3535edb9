-- Headings with equal nodes have equal trees.
use Rattle.std.proofs.Common.{◌≡◌, ℕ, None, Option, Some, ap, arith, refl, sym}
use Rattle.grammar.specs.{Terminals.place, declared.terminals.Terminal.Terminal}
use Rattle.pas_tree.proofs.SchemasTold.{formal_type_told}
use Rattle.pas_tree.proofs.Told.{form, lead, left, left_number, names_told, number, rest, right, second}
use Rattle.pas_tree.specs.HeadingTrees as tree
use Rattle.pas_tree.specs.Headings as node
use Rattle.pas_tree.specs.declared.headings.{FormalNames.FormalNames, Heading.Function, Heading.Heading, Heading.Procedure, ResultType.ResultType}
use Rattle.pas_tree.specs.declared.headings.Formal.{Formal, Routine', Value, Variable}
use Rattle.pas_tree.specs.declared.headings.Formals.{Formals, Formals', Row_of-NextFormal, end_of-NextFormal, more_of-NextFormal}
use Rattle.pas_tree.specs.declared.headings.FunctionHeading.{FunctionHeading, FunctionHeading', Held-FunctionHeading-formals, None', Some'}
use Rattle.pas_tree.specs.declared.headings.ProcedureHeading.{ProcedureHeading, ProcedureHeading'}

formal_names_told : (a b : FormalNames) → node.formal_names_node a ≡ node.formal_names_node b → tree.formal_names_tree a ≡ tree.formal_names_tree b
formal_names_told a b q =
    λ i. record { names = names_told a.names b.names (ap left q) i; colon = ap number (ap second q) i; of_type = formal_type_told a.of b.of (ap rest q) i }

result_told : (a b : Option ResultType) → node.result_node a ≡ node.result_node b → a ≡ b
result_told None None q = refl
result_told (Some a) (Some b) q = λ i. Some (record { colon = ap left_number q i; name = ap number (ap right q) i })
result_told a b q = absurd (omega (arith, ap form q))

abbrev heading_place : Heading → ℕ
heading_place (Procedure p) = place Terminal.WProcedure
heading_place (Function f) = place Terminal.WFunction

heading_lead : (h : Heading) → lead (node.heading_node h) ≡ heading_place h
heading_lead (Procedure (ProcedureHeading' w n a)) = refl
heading_lead (Function (FunctionHeading' w n a r)) = refl

formals_form : (f : Formals) → form (node.formals_node f) ≡ 2
formals_form (Formals' n a _ r c) = refl

-- a formal procedure or function begins with a word
no_names : (h : Heading) (n : ℕ) → lead (node.heading_node h) ≡ n → n ≡ place Terminal.Name → ⊥
no_names (Procedure (ProcedureHeading' w m a)) n e f = absurd (omega arith)
no_names (Function (FunctionHeading' w m a r)) n e f = absurd (omega arith)

no_var : (h : Heading) (n : ℕ) → lead (node.heading_node h) ≡ n → n ≡ place Terminal.WVar → ⊥
no_var (Procedure (ProcedureHeading' w m a)) n e f = absurd (omega arith)
no_var (Function (FunctionHeading' w m a r)) n e f = absurd (omega arith)

mutual
  pub heading_told : (x y : Heading) → node.heading_node x ≡ node.heading_node y → tree.heading_tree x ≡ tree.heading_tree y
  heading_told (Procedure a) (Procedure b) q = λ i. tree.a_procedure (procedure_told a b q i)
  heading_told (Function a) (Function b) q = λ i. tree.a_function (function_told a b q i)
  heading_told x y q = absurd (omega (arith, ap lead q, heading_lead x, heading_lead y))

  procedure_told : (x y : ProcedureHeading) → node.procedure_node x ≡ node.procedure_node y → tree.procedure_tree x ≡ tree.procedure_tree y
  procedure_told (ProcedureHeading' w n a) (ProcedureHeading' v m b) q =
      λ i. tree.procedure_heading (ap left_number q i) (ap number (ap second q) i) (held_formals_told a b (ap rest q) i)

  function_told : (x y : FunctionHeading) → node.function_node x ≡ node.function_node y → tree.function_tree x ≡ tree.function_tree y
  function_told (FunctionHeading' w n a r) (FunctionHeading' v m b s) q =
      λ i. tree.function_heading (ap left_number q i) (ap number (ap second q) i) (held_formals_told a b (ap left (ap rest q)) i)
      (result_told r s (ap right (ap rest q)) i)

  held_formals_told : (x y : Held-FunctionHeading-formals) → node.held_formals_node x ≡ node.held_formals_node y
      → tree.held_formals_tree x ≡ tree.held_formals_tree y
  held_formals_told None' None' q = refl
  held_formals_told (Some' a) (Some' b) q = λ i. tree.some_formals (formals_told a b q i)
  held_formals_told None' (Some' b) q = absurd (omega (arith, ap form q, formals_form b))
  held_formals_told (Some' a) None' q = absurd (omega (arith, ap form q, formals_form a))

  formals_told : (x y : Formals) → node.formals_node x ≡ node.formals_node y → tree.formals_tree x ≡ tree.formals_tree y
  formals_told (Formals' n a _ r c) (Formals' m b _ s d) q =
      λ i. tree.formal_list (ap left_number q i) (formal_told a b (ap second q) i) (more_formals_told r s (ap left (ap rest q)) i)
      (ap number (ap right (ap rest q)) i)

  more_formals_told : {m n : _} (r : Row_of-NextFormal m) (s : Row_of-NextFormal n) → node.more_formals_node r ≡ node.more_formals_node s
      → tree.formal_row r ≡ tree.formal_row s
  more_formals_told end_of-NextFormal end_of-NextFormal q = refl
  more_formals_told (more_of-NextFormal n a r) (more_of-NextFormal m b s) q =
      λ i. tree.more_formals (ap number (ap left (ap left q)) i) (formal_told a b (ap right (ap left q)) i) (more_formals_told r s (ap right q) i)
  more_formals_told r s q = absurd (omega (arith, ap form q))

  formal_told : (x y : Formal) → node.formal_node x ≡ node.formal_node y → tree.formal_tree x ≡ tree.formal_tree y
  formal_told (Value a) (Value b) q = λ i. tree.value_formals (formal_names_told a b q i)
  formal_told (Variable n a) (Variable m b) q = λ i. tree.variable_formals (ap left_number q i) (formal_names_told a b (ap right q) i)
  formal_told (Routine' _ a) (Routine' _ b) q = λ i. tree.a_routine_formal (heading_told a b q i)
  formal_told (Value a) (Routine' _ b) q = absurd (no_names b (place Terminal.Name) (ap lead (sym q)) refl)
  formal_told (Routine' _ a) (Value b) q = absurd (no_names a (place Terminal.Name) (ap lead q) refl)
  formal_told (Variable n a) (Routine' _ b) q = absurd (no_var b (place Terminal.WVar) (ap lead (sym q)) refl)
  formal_told (Routine' _ a) (Variable m b) q = absurd (no_var a (place Terminal.WVar) (ap lead q) refl)
  formal_told x y q = absurd (omega (arith, ap lead q))
