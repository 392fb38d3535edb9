-- What a step reads of its tree, or of the tables, is of the source's tokens.
use Rattle.std.proofs.Common.{if◌then◌else◌, ◌&&◌, ◌+◌, ◌-◌, ◌<◌, ◌≡◌, ◌≤◌, ℕ, Bool, List, None, Option, Some, arith, false, is_none, length, refl, slice_get}
use Rattle.std.proofs.{Common.suc, Common.true, Common.unwrap_or, Common.zero, lemmas.Option.slice_get_within}
use Rattle.pas_tree.specs.{Headings.result_node, StatementPlaces.compound_word, StatementTrees.CompoundTree, StatementTrees.compound_body}
use Rattle.pas_tree.specs.BlockTrees.{RoutineTree, RoutineTrees, routine_body, routine_heading}
use Rattle.pas_tree.specs.BlockTrees as blocked
use Rattle.pas_tree.specs.ExpressionTrees.{AccessTree, ExpressionTree, FactorTree, SimpleTree, TermTree}
use Rattle.pas_tree.specs.ExpressionTrees as expressed
use Rattle.pas_tree.specs.HeadingTrees.{FormalsTree, FunctionTree, HeadingTree, ProcedureTree}
use Rattle.pas_tree.specs.HeadingTrees as headed
use Rattle.pas_tree.specs.StatementTrees as stated_as
use Rattle.pas_tree.specs.TreeNodes.{access_node, body_node, compound_node, expression_node, factor_node, formals_node, function_node, heading_node}
use Rattle.pas_tree.specs.TreeNodes.{held_formals_node, procedure_node, routine_node, routines_node, simple_node, statements_node, term_node}
use Rattle.core_program.specs.declared.rows.TextFile.{TextFile}
use Rattle.check_steps.specs.{Names.usable, Threats.first_threat, Threats.is_threat, Threats.is_variable_of, declared.breaks.Broken.TheVariants.Late}
use Rattle.check_steps.specs.Known.{Known, find, name_at, row_at, threat_of}
use Rattle.denoter_checker.specs.Formals.{formals_of, function_formals, function_result, opening_parenthesis, procedure_formals, result_of}
use Rattle.denoter_checker.specs.RoutineParts.{block_in, completion_of, routine_at, routine_if_any, routine_name}
use Rattle.expression_checker.specs.{Actuals.file_of, Actuals.lone_file, Actuals.lone_of, Actuals.rule_of, NamesAlone.simple_name, NamesAlone.term_name}
use Rattle.expression_checker.specs.NamesAlone.{access_name, factor_name, is_last_factor, is_last_term, is_name, is_unrelated, name_alone, name_if, name_of_if}
use Rattle.expression_checker.specs.declared.actuals.{ExpectedFormal.ExpectedFormal, Lone.Lone}
use Rattle.expression_checker.specs.declared.actuals.ExpectedFormal.TheVariants as formal
use Rattle.code_checker.proofs.{Nodes.completion_node, TokenPlaces.heading_name-in, Within.Below, Within.Within}
use Rattle.code_checker.specs.RulesTold.{is_told}

-- ---- routines

routine_at-in : (size : ℕ) (rs : RoutineTrees) (n : ℕ) → Within size (routines_node rs) → Within size (completion_node (routine_at rs n))
routine_at-in size blocked.end_of_routines n h = tt
routine_at-in size (blocked.more_routines r rest) zero h = h.0
routine_at-in size (blocked.more_routines r rest) (suc n) h = routine_at-in size rest n h.1

among-in : (size : ℕ) (rs : RoutineTrees) (at : Option ℕ) → Within size (routines_node rs) → Within size (completion_node (routine_if_any rs at))
among-in size rs None h = tt
among-in size rs (Some n) h = routine_at-in size rs n h

-- of a routine with a forward heading, that with its block
pub completion_of-in : (size : ℕ) (k : Known) (rs : RoutineTrees) (r : RoutineTree) → Within size (routines_node rs)
    → Within size (completion_node (completion_of k rs r))
completion_of-in size k rs r h = among-in size rs (block_in (row_at k (routine_name r))) h

pub routine_heading-in : (size : ℕ) (r : RoutineTree) → Within size (routine_node r) → Within size (heading_node (routine_heading r))
routine_heading-in size (blocked.a_routine heading semicolon body last_semicolon) h = h.0

pub routine_body-in : (size : ℕ) (r : RoutineTree) → Within size (routine_node r) → Within size (body_node (routine_body r))
routine_body-in size (blocked.a_routine heading semicolon body last_semicolon) h = h.1.1.0

pub routine_name-in : (size : ℕ) (r : RoutineTree) → Within size (routine_node r) → routine_name r < size
routine_name-in size r h = heading_name-in (routine_heading r) (routine_heading-in size r h)

-- ---- statements

pub compound-in : (size : ℕ) (c : CompoundTree) → Within size (compound_node c) → Within size (statements_node (compound_body c))
compound-in size (stated_as.compound_statement begin body end) h = h.1.0

pub compound_word-in : (size : ℕ) (c : CompoundTree) → Within size (compound_node c) → compound_word c < size
compound_word-in size (stated_as.compound_statement begin body end) h = h.0

-- ---- headings

procedure_formals-in : (size : ℕ) (p : ProcedureTree) → Within size (procedure_node p) → Within size (held_formals_node (procedure_formals p))
procedure_formals-in size (headed.procedure_heading word name formals) h = h.1.1

function_formals-in : (size : ℕ) (f : FunctionTree) → Within size (function_node f) → Within size (held_formals_node (function_formals f))
function_formals-in size (headed.function_heading word name formals result) h = h.1.1.0

pub formals_of-in : (size : ℕ) (h : HeadingTree) → Within size (heading_node h) → Within size (held_formals_node (formals_of h))
formals_of-in size (headed.a_procedure p) h = procedure_formals-in size p h
formals_of-in size (headed.a_function f) h = function_formals-in size f h

function_result-in : (size : ℕ) (f : FunctionTree) → Within size (function_node f) → Within size (result_node (function_result f))
function_result-in size (headed.function_heading word name formals result) h = h.1.1.1

pub result_of-in : (size : ℕ) (h : HeadingTree) → Within size (heading_node h) → Within size (result_node (result_of h))
result_of-in size (headed.a_procedure p) h = tt
result_of-in size (headed.a_function f) h = function_result-in size f h

pub opening_parenthesis-in : (size : ℕ) (f : FormalsTree) → Within size (formals_node f) → opening_parenthesis f < size
opening_parenthesis-in size (headed.formal_list open' first others close) h = h.0

-- ---- names alone

name_if-in : (size : ℕ) (alone : Bool) (name : ℕ) → name < size → Below size (name_if alone name)
name_if-in size true name h = h
name_if-in size false name h = tt

name_of_if-in : (size : ℕ) (alone : Bool) (name : Option ℕ) → Below size name → Below size (name_of_if alone name)
name_of_if-in size true name h = h
name_of_if-in size false name h = tt

factor_name-in : (size : ℕ) (f : FactorTree) → Within size (factor_node f) → Below size (factor_name f)
factor_name-in size (expressed.an_access name selectors) h = name_if-in size (is_name selectors) name h.0
factor_name-in size (expressed.a_number n) h = tt
factor_name-in size (expressed.a_text n) h = tt
factor_name-in size (expressed.a_nil n) h = tt
factor_name-in size (expressed.a_call name arguments) h = tt
factor_name-in size (expressed.a_paren open' e close) h = tt
factor_name-in size (expressed.a_set members) h = tt
factor_name-in size (expressed.a_not n f) h = tt

term_name-in : (size : ℕ) (t : TermTree) → Within size (term_node t) → Below size (term_name t)
term_name-in size (expressed.a_term first others) h =
    name_of_if-in size (is_last_factor others) (factor_name first) (factor_name-in size first h.0)

simple_name-in : (size : ℕ) (s : SimpleTree) → Within size (simple_node s) → Below size (simple_name s)
simple_name-in size (expressed.a_simple sign first others) h =
    name_of_if-in size (is_none sign && is_last_term others) (term_name first) (term_name-in size first h.1.0)

pub name_alone-in : (size : ℕ) (e : ExpressionTree) → Within size (expression_node e) → Below size (name_alone e)
name_alone-in size (expressed.an_expression left relation) h =
    name_of_if-in size (is_unrelated relation) (simple_name left) (simple_name-in size left h.0)

pub access_name-in : (size : ℕ) (a : AccessTree) → Within size (access_node a) → Below size (access_name a)
access_name-in size a h = name_if-in size (is_name a.selectors) a.name h.0

-- ---- what is passed by a name alone

abbrev pub LoneIn : ℕ → Lone → Type 0
LoneIn size Lone.None = Unit {0}
LoneIn size (Lone.Routine name heading) = name < size
LoneIn size (Lone.File name file) = name < size

lone_file-in : (size : ℕ) (name : ℕ) (file : Option TextFile) → name < size → LoneIn size (lone_file name file)
lone_file-in size name None h = tt
lone_file-in size name (Some file) h = h

pub lone_of-in : (size : ℕ) (k : Known) (frame : ℕ) (f : ExpectedFormal) (name : Option ℕ) → Below size name → LoneIn size (lone_of k frame f name)
lone_of-in size k frame (formal.Routine heading) (Some name) h = h
lone_of-in size k frame formal.File (Some name) h = lone_file-in size name (file_of k (usable name (find k frame (name_at k name)))) h
lone_of-in size k frame (formal.Routine heading) None h = tt
lone_of-in size k frame formal.File None h = tt
lone_of-in size k frame formal.Unknown name h = tt
lone_of-in size k frame (formal.Value of') name h = tt
lone_of-in size k frame (formal.Variable of') name h = tt
lone_of-in size k frame (formal.Array copied first of' measure) name h = tt
lone_of-in size k frame (formal.Operand g) name h = tt

pub rule_of-told : (f : ExpectedFormal) → is_told (Late (rule_of f)) ≡ true
rule_of-told formal.Unknown = refl
rule_of-told (formal.Value of') = refl
rule_of-told (formal.Variable of') = refl
rule_of-told (formal.Array true first of' measure) = refl
rule_of-told (formal.Array false first of' measure) = refl
rule_of-told (formal.Routine heading) = refl
rule_of-told formal.File = refl
rule_of-told (formal.Operand g) = refl

-- ---- threats

held_at : (threats : List (Option ℕ)) (variable token : ℕ) (at : Option (Option ℕ)) → slice_get threats token ≡ at
    → is_variable_of (unwrap_or at None) variable ≡ true → token < length threats
held_at threats variable token None e h = absurd (let no : false ≡ true = h in cc)
held_at threats variable token (Some x) e h = slice_get_within threats token x e

threat-in : (threats : List (Option ℕ)) (variable token : ℕ) → is_threat threats variable token ≡ true → token < length threats
threat-in threats variable token h = held_at threats variable token (slice_get threats token) refl h

first-in : (size : ℕ) (n : ℕ) (threats : List (Option ℕ)) (variable token : ℕ) → length threats ≤ size → Below size (first_threat n threats variable token)
first-in size zero threats variable token t = tt
first-in size (suc n) threats variable token t =
    elim (is_threat threats variable token) as (λ v. is_threat threats variable token ≡ v
    → Below size (if v then Some token else first_threat n threats variable (token + 1))) [
      | true ↦ λ e. omega (arith, threat-in threats variable token e, t)
      | false ↦ λ e. first-in size n threats variable (token + 1) t
    ] refl

pub threat_of-in : (size : ℕ) (k : Known) (variable : ℕ) → length k.threats ≤ size → Below size (threat_of k variable)
threat_of-in size k variable t = first-in size (k.block.statements - k.block.first) k.threats variable k.block.first t
