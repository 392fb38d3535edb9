-- The places of the parts of declarations are tokens of theirs.
use Rattle.std.proofs.Common.{ℕ, None, Some}
use Rattle.grammar.specs.Nodes.{Node}
use Rattle.pas_tree.specs.{DenoterPlaces.first_of_denoter, DenoterPlaces.first_of_structure, HeadingTrees.HeadingTree}
use Rattle.pas_tree.specs.DenoterTrees.{DenoterTree, FixedTree, StructureTree}
use Rattle.pas_tree.specs.DenoterTrees as denoted
use Rattle.pas_tree.specs.HeadingTrees as headed
use Rattle.pas_tree.specs.TreeNodes.{denoter_node, fixed_node, heading_node, held_formals_node, structure_node}
use Rattle.denoter_checker.specs.Formals.{formals_of}
use Rattle.rule_laws.proofs.{Every.Every, Every.Of, TokenPlaces.first_of_constant-in, TokenPlaces.sections_end}

first_of_structure-in : {Q : ℕ → Type 0} (s : StructureTree) → Every Q (structure_node s) → Of Q (first_of_structure s)
first_of_structure-in (denoted.an_array (denoted.index_types word open' first others close of component)) h = h.0
first_of_structure-in (denoted.a_record word fields end) h = h.0
first_of_structure-in (denoted.a_set_type word of base) h = h.0

pub first_of_denoter-in : {Q : ℕ → Type 0} (d : DenoterTree) → Every Q (denoter_node d) → Of Q (first_of_denoter d)
first_of_denoter-in (denoted.a_type_name token) h = h.0
first_of_denoter-in (denoted.an_enumeration e) h = h.0
first_of_denoter-in (denoted.a_subrange first dots last) h = first_of_constant-in first h.0
first_of_denoter-in (denoted.a_pointer caret name) h = h.0
first_of_denoter-in (denoted.a_structure (Some packed) s) h = h.0
first_of_denoter-in (denoted.a_structure None s) h = first_of_structure-in s h.1

pub fixed_end : (Q : ℕ → Type 0) (f : FixedTree) (end : Node) → Every Q (fixed_node f end) → Every Q end
fixed_end Q (denoted.fixed_part first others) end h = sections_end Q others end h.1

pub formals_of-in : (Q : ℕ → Type 0) (h : HeadingTree) → Every Q (heading_node h) → Every Q (held_formals_node (formals_of h))
formals_of-in Q (headed.a_procedure (headed.procedure_heading word name formals)) h = h.1.1
formals_of-in Q (headed.a_function (headed.function_heading word name formals result)) h = h.1.1.0
