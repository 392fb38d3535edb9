-- What a step reads of its tree, or of the tables, is of the source's tokens.
use Rattle.std.proofs.Common.{◌&&◌, ◌≡◌, ℕ, Bool, None, Option, Some, false, is_none, refl, true}
use Rattle.pas_tree.specs.ExpressionTrees.{AccessTree, ExpressionTree, FactorTree, SimpleTree, TermTree}
use Rattle.pas_tree.specs.ExpressionTrees as expressed
use Rattle.pas_tree.specs.StatementTrees.{CompoundTree, compound_body}
use Rattle.pas_tree.specs.StatementTrees as stated_as
use Rattle.pas_tree.specs.TreeNodes.{access_node, compound_node, expression_node, factor_node, simple_node, statements_node, term_node}
use Rattle.core_program.specs.declared.rows.TextFile.{TextFile}
use Rattle.check_steps.specs.{Known.Known, Known.find, Known.name_at, Names.usable}
use Rattle.expression_checker.specs.{Actuals.file_of, Actuals.lone_file, Actuals.lone_of, Actuals.rule_of, NamesAlone.simple_name, NamesAlone.term_name}
use Rattle.expression_checker.specs.NamesAlone.{access_name, factor_name, is_last_factor, is_last_term, is_name, is_unrelated, name_alone, name_if, name_of_if}
use Rattle.expression_checker.specs.declared.actuals.{ExpectedFormal.ExpectedFormal, Lone.Lone}
use Rattle.expression_checker.specs.declared.actuals.ExpectedFormal.TheVariants as formal
use Rattle.rule_laws.proofs.{Every.Below, Every.Every, Every.Of, Touches.is_of_ends}

-- ---- statements

pub compound-in : (Q : ℕ → Type 0) (c : CompoundTree) → Every Q (compound_node c) → Every Q (statements_node (compound_body c))
compound-in Q (stated_as.compound_statement begin body end) h = h.1.0

-- ---- names alone

name_if-in : (Q : ℕ → Type 0) (alone : Bool) (name : ℕ) → Of Q name → Below Q (name_if alone name)
name_if-in Q true name h = h
name_if-in Q false name h = tt

name_of_if-in : (Q : ℕ → Type 0) (alone : Bool) (name : Option ℕ) → Below Q name → Below Q (name_of_if alone name)
name_of_if-in Q true name h = h
name_of_if-in Q false name h = tt

factor_name-in : (Q : ℕ → Type 0) (f : FactorTree) → Every Q (factor_node f) → Below Q (factor_name f)
factor_name-in Q (expressed.an_access name selectors) h = name_if-in Q (is_name selectors) name h.0
factor_name-in Q (expressed.a_number n) h = tt
factor_name-in Q (expressed.a_text n) h = tt
factor_name-in Q (expressed.a_nil n) h = tt
factor_name-in Q (expressed.a_call name arguments) h = tt
factor_name-in Q (expressed.a_paren open' e close) h = tt
factor_name-in Q (expressed.a_set members) h = tt
factor_name-in Q (expressed.a_not n f) h = tt

term_name-in : (Q : ℕ → Type 0) (t : TermTree) → Every Q (term_node t) → Below Q (term_name t)
term_name-in Q (expressed.a_term first others) h =
    name_of_if-in Q (is_last_factor others) (factor_name first) (factor_name-in Q first h.0)

simple_name-in : (Q : ℕ → Type 0) (s : SimpleTree) → Every Q (simple_node s) → Below Q (simple_name s)
simple_name-in Q (expressed.a_simple sign first others) h =
    name_of_if-in Q (is_none sign && is_last_term others) (term_name first) (term_name-in Q first h.1.0)

pub name_alone-in : (Q : ℕ → Type 0) (e : ExpressionTree) → Every Q (expression_node e) → Below Q (name_alone e)
name_alone-in Q (expressed.an_expression left relation) h =
    name_of_if-in Q (is_unrelated relation) (simple_name left) (simple_name-in Q left h.0)

pub access_name-in : (Q : ℕ → Type 0) (a : AccessTree) → Every Q (access_node a) → Below Q (access_name a)
access_name-in Q a h = name_if-in Q (is_name a.selectors) a.name h.0

-- ---- what is passed by a name alone

abbrev pub LoneIn : (ℕ → Type 0) → Lone → Type 0
LoneIn Q Lone.None = Unit {0}
LoneIn Q (Lone.Routine name heading) = Of Q name
LoneIn Q (Lone.File name file) = Of Q name

lone_file-in : (Q : ℕ → Type 0) (name : ℕ) (file : Option TextFile) → Of Q name → LoneIn Q (lone_file name file)
lone_file-in Q name None h = tt
lone_file-in Q name (Some file) h = h

pub lone_of-in : (Q : ℕ → Type 0) (k : Known) (frame : ℕ) (f : ExpectedFormal) (name : Option ℕ) → Below Q name → LoneIn Q (lone_of k frame f name)
lone_of-in Q k frame (formal.Routine heading) (Some name) h = h
lone_of-in Q k frame formal.File (Some name) h = lone_file-in Q name (file_of k (usable name (find k frame (name_at k name)))) h
lone_of-in Q k frame (formal.Routine heading) None h = tt
lone_of-in Q k frame formal.File None h = tt
lone_of-in Q k frame formal.Unknown name h = tt
lone_of-in Q k frame (formal.Value of') name h = tt
lone_of-in Q k frame (formal.Variable of') name h = tt
lone_of-in Q k frame (formal.Array copied first of' measure) name h = tt
lone_of-in Q k frame (formal.Operand g) name h = tt

pub rule_of-quiet : (f : ExpectedFormal) → is_of_ends (rule_of f) ≡ false
rule_of-quiet formal.Unknown = refl
rule_of-quiet (formal.Value of') = refl
rule_of-quiet (formal.Variable of') = refl
rule_of-quiet (formal.Array true first of' measure) = refl
rule_of-quiet (formal.Array false first of' measure) = refl
rule_of-quiet (formal.Routine heading) = refl
rule_of-quiet formal.File = refl
rule_of-quiet (formal.Operand g) = refl
