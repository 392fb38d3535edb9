-- What headings have, and the names of their formal parameters (6.6.1, 6.6.2, 6.6.3.1).
use Rattle.std.specs.Prelude.{◌||◌, ℕ, Bool, None, Option, false, is_some, not, true}
use Rattle.pas_tree.specs.HeadingPlaces.{heading_name}
use Rattle.pas_tree.specs.HeadingTrees.{FormalNamesTree, FormalTree, FormalTrees, FormalsTree, FunctionTree}
use Rattle.pas_tree.specs.HeadingTrees.{HeadingTree, HeldFormals, ProcedureTree}
use Rattle.pas_tree.specs.HeadingTrees as tree
use Rattle.pas_tree.specs.declared.headings.{NextFormal.NextFormal, ResultType.ResultType}
use Rattle.check_steps.specs.{Known.frame_at, Steps.◌>>=◌, Steps.Step, Steps.give, Steps.look}
use Rattle.kind_checker.specs.{Names.define_name, Names.each_name, declared.names.NameKind.NameKind}
use Rattle.denoter_checker.specs.Schemas.{define_bounds}

-- ---- what a heading has

abbrev pub is_function : HeadingTree → Bool
is_function (tree.a_procedure p) = false
is_function (tree.a_function f) = true

abbrev pub procedure_formals : ProcedureTree → HeldFormals
procedure_formals (tree.procedure_heading word name formals) = formals

abbrev pub function_formals : FunctionTree → HeldFormals
function_formals (tree.function_heading word name formals result) = formals

-- the formal parameters, in parentheses
abbrev pub formals_of : HeadingTree → HeldFormals
formals_of (tree.a_procedure p) = procedure_formals p
formals_of (tree.a_function f) = function_formals f

abbrev pub function_result : FunctionTree → Option ResultType
function_result (tree.function_heading word name formals result) = result

-- the colon and the name of the result type
abbrev pub result_of : HeadingTree → Option ResultType
result_of (tree.a_procedure p) = None
result_of (tree.a_function f) = function_result f

-- A function's heading has a result type, unless it completes a forward one (6.6.2).
abbrev pub is_complete : HeadingTree → Bool
is_complete h = not (is_function h) || is_some (result_of h)

abbrev pub opening_parenthesis : FormalsTree → ℕ
opening_parenthesis (tree.formal_list left first others right) = left

-- ---- names

-- the names of a section, and the bounds of its schema, if it has one; rule 2: a region defines a name a second time
unfoldable pub define_formal_names : ℕ → FormalNamesTree → Step (Unit {0})
define_formal_names region f = do
  _ ← each_name (define_name region NameKind.Formal) tt f.names
  define_bounds region f.of_type

-- the names that a section defines, where a heading has its own
abbrev pub define_formal : ℕ → FormalTree → Step (Unit {0})
define_formal region (tree.value_formals f) = define_formal_names region f
define_formal region (tree.variable_formals word f) = define_formal_names region f
define_formal region (tree.a_routine_formal h) = define_name region NameKind.Formal tt (heading_name h)

abbrev pub define_more_formals : ℕ → FormalTrees → Step (Unit {0})
define_more_formals region tree.end_of_formals = give tt
define_more_formals region (tree.more_formals semicolon f rest) = do
  _ ← define_formal region f
  define_more_formals region rest

abbrev pub define_each_formal : ℕ → FormalsTree → Step (Unit {0})
define_each_formal region (tree.formal_list left first others right) = do
  _ ← define_formal region first
  define_more_formals region others

abbrev pub define_held : ℕ → HeldFormals → Step (Unit {0})
define_held region tree.without_formals = give tt
define_held region (tree.some_formals f) = define_each_formal region f

-- one more of what the code holds
unfoldable pub define_next_formal : ℕ → Unit {0} → NextFormal → Step (Unit {0})
define_next_formal region u n = define_formal region (tree.formal_tree n.formal)

-- the names of a heading's formals, in a region
abbrev pub define_formals : ℕ → HeadingTree → Step (Unit {0})
define_formals region h = define_held region (formals_of h)

-- the same in the region of a frame
unfoldable pub define_formals_at : ℕ → HeadingTree → Step (Unit {0})
define_formals_at frame h = do
  region ← look (λ k. (frame_at k frame).region)
  define_formals region h
