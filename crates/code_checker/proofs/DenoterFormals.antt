-- What the steps of `Rattle.denoter_checker.specs.Formals` keep.
use Rattle.std.proofs.Common.{ℕ, false}
use Rattle.pas_tree.specs.HeadingPlaces.{heading_name}
use Rattle.pas_tree.specs.HeadingTrees.{FormalNamesTree, FormalTree, FormalTrees, FormalsTree, HeadingTree, HeldFormals}
use Rattle.pas_tree.specs.HeadingTrees as tree
use Rattle.pas_tree.specs.TreeNodes.{formal_names_node, formal_node, formals_node, heading_node, held_formals_node, more_formals_node}
use Rattle.check_steps.specs.Known.{frame_at}
use Rattle.kind_checker.specs.{Names.define_name, declared.names.NameKind.NameKind}
use Rattle.denoter_checker.specs.Formals.{define_each_formal, define_formal, define_formal_names, define_formals, define_formals_at, define_held}
use Rattle.denoter_checker.specs.Formals.{define_more_formals, formals_of}
use Rattle.code_checker.proofs.{DenoterSchemas.define_bounds-holds, KindNames.define_name-holds, KindNames.each_name-holds, Parts.formals_of-in, Steps.Holds}
use Rattle.code_checker.proofs.{Steps.bind-holds, Steps.give-holds, Steps.look-holds, TokenPlaces.heading_name-in, Within.Within}

define_formal_names-holds : {size : ℕ} (region : ℕ) (f : FormalNamesTree) → Within size (formal_names_node f) → Holds size false (define_formal_names region f)
unfolding define_formal_names
define_formal_names-holds region f f-in = bind-holds (each_name-holds (define_name region NameKind.Formal) tt f.names (λ a x h.
    define_name-holds region NameKind.Formal a x h) f-in.0) (λ _. define_bounds-holds region f.of_type f-in.1.1)

pub define_formal-holds : {size : ℕ} (region : ℕ) (formal : FormalTree) → Within size (formal_node formal) → Holds size false (define_formal region formal)
define_formal-holds region (tree.value_formals f) formal-in = define_formal_names-holds region f formal-in
define_formal-holds region (tree.variable_formals word f) formal-in = define_formal_names-holds region f formal-in.1
define_formal-holds region (tree.a_routine_formal h) formal-in = define_name-holds region NameKind.Formal tt (heading_name h) (heading_name-in h formal-in)

pub define_more_formals-holds : {size : ℕ} (region : ℕ) (rest : FormalTrees) → Within size (more_formals_node rest)
    → Holds size false (define_more_formals region rest)
define_more_formals-holds region tree.end_of_formals rest-in = give-holds tt
define_more_formals-holds region (tree.more_formals semicolon f rest) rest-in =
    bind-holds (define_formal-holds region f rest-in.0.1) (λ _. define_more_formals-holds region rest rest-in.1)

pub define_each_formal-holds : {size : ℕ} (region : ℕ) (f : FormalsTree) → Within size (formals_node f) → Holds size false (define_each_formal region f)
define_each_formal-holds region (tree.formal_list open' first others close) f-in =
    bind-holds (define_formal-holds region first f-in.1.0) (λ _. define_more_formals-holds region others f-in.1.1.0)

pub define_held-holds : {size : ℕ} (region : ℕ) (formals : HeldFormals) → Within size (held_formals_node formals)
    → Holds size false (define_held region formals)
define_held-holds region tree.without_formals formals-in = give-holds tt
define_held-holds region (tree.some_formals f) formals-in = define_each_formal-holds region f formals-in

pub define_formals-holds : {size : ℕ} (region : ℕ) (h : HeadingTree) → Within size (heading_node h) → Holds size false (define_formals region h)
define_formals-holds {size = size} region h h-in = define_held-holds region (formals_of h) (formals_of-in size h h-in)

pub define_formals_at-holds : {size : ℕ} (frame : ℕ) (h : HeadingTree) → Within size (heading_node h) → Holds size false (define_formals_at frame h)
unfolding define_formals_at
define_formals_at-holds frame h h-in = bind-holds (look-holds (λ k. (frame_at k frame).region)) (λ region. define_formals-holds region h h-in)
