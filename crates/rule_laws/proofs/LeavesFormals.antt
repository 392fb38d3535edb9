-- What the steps of `Rattle.denoter_checker.specs.Formals` leave at other tokens.
use Rattle.std.proofs.Common.{ℕ}
use Rattle.pas_tree.specs.HeadingPlaces.{heading_name}
use Rattle.pas_tree.specs.HeadingTrees.{FormalNamesTree, FormalTree, FormalTrees, FormalsTree, HeadingTree, HeldFormals}
use Rattle.pas_tree.specs.HeadingTrees as tree
use Rattle.pas_tree.specs.TreeNodes.{formal_names_node, formal_node, formals_node, heading_node, held_formals_node, more_formals_node}
use Rattle.check_steps.specs.Known.{frame_at}
use Rattle.kind_checker.specs.{Names.define_name, declared.names.NameKind.NameKind}
use Rattle.denoter_checker.specs.Formals.{define_each_formal, define_formal, define_formal_names, define_formals, define_formals_at, define_held}
use Rattle.denoter_checker.specs.Formals.{define_more_formals, formals_of}
use Rattle.rule_laws.proofs.{Every.Every, Leaves.Leaves, Leaves.bind-leaves, Leaves.give-leaves, Leaves.look-leaves, LeavesNameLists.define_name-leaves}
use Rattle.rule_laws.proofs.{LeavesNameLists.each_name-leaves, LeavesPlaces.formals_of-in, LeavesSchemas.define_bounds-leaves, TokenPlaces.heading_name-in}

define_formal_names-leaves : {Q : ℕ → Type 0} (region : ℕ) (f : FormalNamesTree) → Every Q (formal_names_node f) → Leaves Q (define_formal_names region f)
unfolding define_formal_names
define_formal_names-leaves region f f-in = bind-leaves (each_name-leaves (define_name region NameKind.Formal) tt f.names (λ a x h.
    define_name-leaves region NameKind.Formal a x h) f-in.0) (λ _. define_bounds-leaves region f.of_type f-in.1.1)

pub define_formal-leaves : {Q : ℕ → Type 0} (region : ℕ) (formal : FormalTree) → Every Q (formal_node formal) → Leaves Q (define_formal region formal)
define_formal-leaves region (tree.value_formals f) formal-in = define_formal_names-leaves region f formal-in
define_formal-leaves region (tree.variable_formals word f) formal-in = define_formal_names-leaves region f formal-in.1
define_formal-leaves region (tree.a_routine_formal h) formal-in = define_name-leaves region NameKind.Formal tt (heading_name h) (heading_name-in h formal-in)

pub define_more_formals-leaves : {Q : ℕ → Type 0} (region : ℕ) (rest : FormalTrees) → Every Q (more_formals_node rest)
    → Leaves Q (define_more_formals region rest)
define_more_formals-leaves region tree.end_of_formals rest-in = give-leaves tt
define_more_formals-leaves region (tree.more_formals semicolon f rest) rest-in =
    bind-leaves (define_formal-leaves region f rest-in.0.1) (λ _. define_more_formals-leaves region rest rest-in.1)

pub define_each_formal-leaves : {Q : ℕ → Type 0} (region : ℕ) (f : FormalsTree) → Every Q (formals_node f) → Leaves Q (define_each_formal region f)
define_each_formal-leaves region (tree.formal_list open' first others close) f-in =
    bind-leaves (define_formal-leaves region first f-in.1.0) (λ _. define_more_formals-leaves region others f-in.1.1.0)

pub define_held-leaves : {Q : ℕ → Type 0} (region : ℕ) (formals : HeldFormals) → Every Q (held_formals_node formals)
    → Leaves Q (define_held region formals)
define_held-leaves region tree.without_formals formals-in = give-leaves tt
define_held-leaves region (tree.some_formals f) formals-in = define_each_formal-leaves region f formals-in

pub define_formals-leaves : {Q : ℕ → Type 0} (region : ℕ) (h : HeadingTree) → Every Q (heading_node h) → Leaves Q (define_formals region h)
define_formals-leaves {Q = Q} region h h-in = define_held-leaves region (formals_of h) (formals_of-in Q h h-in)

pub define_formals_at-leaves : {Q : ℕ → Type 0} (frame : ℕ) (h : HeadingTree) → Every Q (heading_node h) → Leaves Q (define_formals_at frame h)
unfolding define_formals_at
define_formals_at-leaves frame h h-in = bind-leaves (look-leaves (λ k. (frame_at k frame).region)) (λ region. define_formals-leaves region h h-in)
