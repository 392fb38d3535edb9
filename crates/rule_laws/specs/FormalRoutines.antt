-- What holds of each formal procedure and function in a heading (6.6.3.1).
use Rattle.pas_tree.specs.HeadingTrees.{FormalTree, FormalTrees, FormalsTree, FunctionTree, HeadingTree, HeldFormals}
use Rattle.pas_tree.specs.HeadingTrees.{ProcedureTree}
use Rattle.pas_tree.specs.HeadingTrees as headings

abbrev mutual
  -- this holds of the heading of each formal procedure and function, and of those in it
  pub OfHeading : (HeadingTree → Type 0) → HeadingTree → Type 0
  OfHeading P (headings.a_procedure p) = OfProcedure P p
  OfHeading P (headings.a_function f) = OfFunction P f

  pub OfProcedure : (HeadingTree → Type 0) → ProcedureTree → Type 0
  OfProcedure P (headings.procedure_heading word name formals) = OfFormals P formals

  pub OfFunction : (HeadingTree → Type 0) → FunctionTree → Type 0
  OfFunction P (headings.function_heading word name formals result) = OfFormals P formals

  pub OfFormals : (HeadingTree → Type 0) → HeldFormals → Type 0
  OfFormals P headings.without_formals = Unit {0}
  OfFormals P (headings.some_formals f) = OfFormalList P f

  pub OfFormalList : (HeadingTree → Type 0) → FormalsTree → Type 0
  OfFormalList P (headings.formal_list left first others right) = OfFormal P first × OfOtherFormals P others

  pub OfOtherFormals : (HeadingTree → Type 0) → FormalTrees → Type 0
  OfOtherFormals P headings.end_of_formals = Unit {0}
  OfOtherFormals P (headings.more_formals semicolon f rest) = OfFormal P f × OfOtherFormals P rest

  pub OfFormal : (HeadingTree → Type 0) → FormalTree → Type 0
  OfFormal P (headings.value_formals f) = Unit {0}
  OfFormal P (headings.variable_formals word f) = Unit {0}
  OfFormal P (headings.a_routine_formal h) = P h × OfHeading P h
