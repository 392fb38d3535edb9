-- What the steps of `Rattle.denoter_checker.specs.Formals` leave as it was.
use Rattle.std.proofs.Common.{ℕ}
use Rattle.pas_tree.specs.{BlockTrees.RoutineTree, HeadingPlaces.heading_name}
use Rattle.pas_tree.specs.HeadingTrees.{FormalNamesTree, FormalTree, FormalTrees, FormalsTree, HeadingTree, HeldFormals}
use Rattle.pas_tree.specs.HeadingTrees as tree
use Rattle.check_steps.specs.Known.{Known, frame_at}
use Rattle.kind_checker.specs.{Names.define_name, declared.names.NameKind.NameKind}
use Rattle.denoter_checker.specs.Formals.{define_each_formal, define_formal, define_formal_names, define_formals, define_formals_at, define_held}
use Rattle.denoter_checker.specs.Formals.{define_more_formals, formals_of}
use Rattle.rule_laws.proofs.{Lasting.Lasting, Lasting.each_name-lasts, LastsNameLists.define_name-lasts, LastsSchemas.define_bounds-lasts}
use Rattle.rule_laws.proofs.Keeping.{Keeps, bind-keeps, give-keeps, look-keeps}

pub define_formal_names-lasts : {G : RoutineTree → Type 0} {I : Known → Type 0} (kept : Lasting G I) (region : ℕ) (f : FormalNamesTree)
    → Keeps I (define_formal_names region f)
unfolding define_formal_names
define_formal_names-lasts kept region f = bind-keeps
    (each_name-lasts (define_name region NameKind.Formal) tt f.names (λ a x. define_name-lasts kept region NameKind.Formal a x))
    (λ _. define_bounds-lasts kept region f.of_type)

pub define_formal-lasts : {G : RoutineTree → Type 0} {I : Known → Type 0} (kept : Lasting G I) (region : ℕ) (formal : FormalTree)
    → Keeps I (define_formal region formal)
define_formal-lasts kept region (tree.value_formals f) = define_formal_names-lasts kept region f
define_formal-lasts kept region (tree.variable_formals word f) = define_formal_names-lasts kept region f
define_formal-lasts kept region (tree.a_routine_formal h) = define_name-lasts kept region NameKind.Formal tt (heading_name h)

pub define_more_formals-lasts : {G : RoutineTree → Type 0} {I : Known → Type 0} (kept : Lasting G I) (region : ℕ) (rest : FormalTrees)
    → Keeps I (define_more_formals region rest)
define_more_formals-lasts kept region tree.end_of_formals = give-keeps tt
define_more_formals-lasts kept region (tree.more_formals semicolon f rest) =
    bind-keeps (define_formal-lasts kept region f) (λ _. define_more_formals-lasts kept region rest)

pub define_each_formal-lasts : {G : RoutineTree → Type 0} {I : Known → Type 0} (kept : Lasting G I) (region : ℕ) (f : FormalsTree)
    → Keeps I (define_each_formal region f)
define_each_formal-lasts kept region (tree.formal_list open' first others close) =
    bind-keeps (define_formal-lasts kept region first) (λ _. define_more_formals-lasts kept region others)

pub define_held-lasts : {G : RoutineTree → Type 0} {I : Known → Type 0} (kept : Lasting G I) (region : ℕ) (formals : HeldFormals)
    → Keeps I (define_held region formals)
define_held-lasts kept region tree.without_formals = give-keeps tt
define_held-lasts kept region (tree.some_formals f) = define_each_formal-lasts kept region f

pub define_formals-lasts : {G : RoutineTree → Type 0} {I : Known → Type 0} (kept : Lasting G I) (region : ℕ) (h : HeadingTree)
    → Keeps I (define_formals region h)
define_formals-lasts kept region h = define_held-lasts kept region (formals_of h)

pub define_formals_at-lasts : {G : RoutineTree → Type 0} {I : Known → Type 0} (kept : Lasting G I) (frame : ℕ) (h : HeadingTree)
    → Keeps I (define_formals_at frame h)
unfolding define_formals_at
define_formals_at-lasts kept frame h = bind-keeps (look-keeps (λ k. (frame_at k frame).region)) (λ region. define_formals-lasts kept region h)
