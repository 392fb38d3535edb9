-- Headings and formal parameters without memory: one constructor a rule.
use Rattle.std.specs.Prelude.{◌∷◌, [], ℕ, List, None, Option, Some}
use Rattle.pas_tree.specs.{ConstantTrees.NamesTree, ConstantTrees.names_tree, SchemaTrees.FormalTypeTree}
use Rattle.pas_tree.specs.{SchemaTrees.formal_type_tree, declared.headings.Formals.more_of-NextFormal}
use Rattle.pas_tree.specs.declared.headings.{FormalNames.FormalNames, NextFormal.NextFormal, ResultType.ResultType}
use Rattle.pas_tree.specs.declared.headings.Formal.{Formal, Routine', Value, Variable}
use Rattle.pas_tree.specs.declared.headings.Formals.{Formals, Formals', Row_of-NextFormal, end_of-NextFormal}
use Rattle.pas_tree.specs.declared.headings.FunctionHeading.{FunctionHeading, FunctionHeading'}
use Rattle.pas_tree.specs.declared.headings.FunctionHeading.{Held-FunctionHeading-formals, None', Some'}
use Rattle.pas_tree.specs.declared.headings.Heading.{Function, Heading, Procedure}
use Rattle.pas_tree.specs.declared.headings.ProcedureHeading.{ProcedureHeading, ProcedureHeading'}

pub record FormalNamesTree : Type 0 where
  pub names : NamesTree
  pub colon : ℕ
  pub of_type : FormalTypeTree

mutual
  pub data HeadingTree : Type 0 where
    a_procedure : (procedure : ProcedureTree) → HeadingTree
    a_function : (function : FunctionTree) → HeadingTree

  pub data ProcedureTree : Type 0 where
    procedure_heading : (word name : ℕ) (formals : HeldFormals) → ProcedureTree

  pub data FunctionTree : Type 0 where
    function_heading : (word name : ℕ) (formals : HeldFormals) (result : Option ResultType) → FunctionTree

  -- formal parameters, if there are some
  pub data HeldFormals : Type 0 where
    without_formals : HeldFormals
    some_formals : (formals : FormalsTree) → HeldFormals

  pub data FormalsTree : Type 0 where
    formal_list : (left : ℕ) (first : FormalTree) (others : FormalTrees) (right : ℕ) → FormalsTree

  pub data FormalTrees : Type 0 where
    end_of_formals : FormalTrees
    more_formals : (semicolon : ℕ) (formal : FormalTree) (rest : FormalTrees) → FormalTrees

  pub data FormalTree : Type 0 where
    value_formals : (names : FormalNamesTree) → FormalTree
    variable_formals : (word : ℕ) (names : FormalNamesTree) → FormalTree
    a_routine_formal : (heading : HeadingTree) → FormalTree

-- ---- the views

abbrev pub formal_names_tree : FormalNames → FormalNamesTree
formal_names_tree f = record { names = names_tree f.names; colon = f.colon; of_type = formal_type_tree f.of }

abbrev mutual
  pub heading_tree : Heading → HeadingTree
  heading_tree (Procedure p) = a_procedure (procedure_tree p)
  heading_tree (Function f) = a_function (function_tree f)

  pub procedure_tree : ProcedureHeading → ProcedureTree
  procedure_tree (ProcedureHeading' word name formals) = procedure_heading word name (held_formals_tree formals)

  pub function_tree : FunctionHeading → FunctionTree
  function_tree (FunctionHeading' word name formals result) =
      function_heading word name (held_formals_tree formals) result

  pub held_formals_tree : Held-FunctionHeading-formals → HeldFormals
  held_formals_tree None' = without_formals
  held_formals_tree (Some' f) = some_formals (formals_tree f)

  pub formals_tree : Formals → FormalsTree
  formals_tree (Formals' open' first _ others close) =
      formal_list open' (formal_tree first) (formal_row others) close

  pub formal_row : {m : _} → Row_of-NextFormal m → FormalTrees
  formal_row end_of-NextFormal = end_of_formals
  formal_row (more_of-NextFormal semicolon formal rest) = more_formals semicolon (formal_tree formal) (formal_row rest)

  pub formal_tree : Formal → FormalTree
  formal_tree (Value f) = value_formals (formal_names_tree f)
  formal_tree (Variable word f) = variable_formals word (formal_names_tree f)
  formal_tree (Routine' _ h) = a_routine_formal (heading_tree h)

-- ---- the same of what the code holds

abbrev pub formal_trees : List NextFormal → FormalTrees
formal_trees [] = end_of_formals
formal_trees (n ∷ rest) = more_formals n.semicolon (formal_tree n.formal) (formal_trees rest)

abbrev pub formals_in : Option Formals → HeldFormals
formals_in None = without_formals
formals_in (Some f) = some_formals (formals_tree f)
