-- What the steps of `Rattle.denoter_checker.specs.RoutineParts` leave as it was.
use Rattle.std.proofs.Common.{◌∙◌, ◌≡◌, ℕ, None, Option, Some, ap, not, refl, subst, sym}
use Rattle.pas_tree.specs.{HeadingPlaces.heading_name, HeadingTrees.HeadingTree, HeadingTrees.HeldFormals, declared.headings.ResultType.ResultType}
use Rattle.pas_tree.specs.BlockTrees.{BodyTree, RoutineTree, RoutineTrees, routine_body, routine_heading}
use Rattle.pas_tree.specs.BlockTrees as tree
use Rattle.pas_tree.specs.HeadingTrees as headings
use Rattle.core_program.specs.declared.rows.{PartRow.PartRow, Row.Row}
use Rattle.check_steps.specs.{Known.Known, Known.row_at, declared.regions.Def.Def}
use Rattle.check_steps.specs.Steps.{◌>>=◌, ask, change, give, look}
use Rattle.denoter_checker.specs.Formals.{formals_of, is_complete, is_function, result_of}
use Rattle.denoter_checker.specs.RoutineParts.{complete_or_define, completed_by, completing, define_each_routine, define_heading, define_routine}
use Rattle.denoter_checker.specs.RoutineParts.{define_routines, defining, directed, directive_in, has_block, have_blocks, is_forward, is_waiting, no_result}
use Rattle.denoter_checker.specs.RoutineParts.{routine_name, without_formals}
use Rattle.rule_laws.proofs.{Breaks.Each, Lasting.Lasting, Lasting.define_in-lasts, Lasting.with_completion}
use Rattle.rule_laws.proofs.Keeping.{Keeps, ask-keeps, bind-keeps, give-keeps, look-keeps, put-keeps, when-keeps}
use Rattle.rule_laws.specs.ForwardHeadings.{is_block, routines_in}

pub define_heading-lasts : {G : RoutineTree → Type 0} {I : Known → Type 0} (c : Lasting G I) (region : ℕ) (h : HeadingTree) → Keeps I (define_heading region h)
unfolding define_heading
define_heading-lasts c region h =
    bind-keeps (define_in-lasts c region (record { def = Def.Routine (heading_name h); token = heading_name h; end = heading_name h }) refl)
    (λ _. ask-keeps _ (heading_name h) (is_complete h))

directive_in-lasts : {G : RoutineTree → Type 0} {I : Known → Type 0} (c : Lasting G I) (r : RoutineTree) (body : BodyTree) → G r → (routine_body r) ≡ body
    → Keeps I (directive_in (routine_heading r) body)
unfolding directed
directive_in-lasts c r (tree.a_directive directive) g e = bind-keeps (look-keeps (λ k. is_forward k directive)) (λ forward.
    bind-keeps (ask-keeps _ directive forward) (λ _.
    when-keeps forward (put-keeps (routine_name r) (Row.Part (PartRow.Forward (is_function (routine_heading r)) None))
    (λ k i. c.waits k r g (ap is_block e) i))))
directive_in-lasts c r (tree.a_block_body b) g e = give-keeps tt

defining-lasts : {G : RoutineTree → Type 0} {I : Known → Type 0} (c : Lasting G I) (region : ℕ) (r : RoutineTree) → G r
    → Keeps I (defining region (routine_heading r) (routine_body r))
unfolding defining
defining-lasts c region r g = bind-keeps (define_heading-lasts c region (routine_heading r)) (λ _. directive_in-lasts c r (routine_body r) g refl)

no_formals_same : (o : HeldFormals) (k : Known) → (without_formals o k).known ≡ k
unfolding ask give
no_formals_same headings.without_formals k = refl
no_formals_same (headings.some_formals f) k = refl

no_result_same : (o : Option ResultType) (k : Known) → (no_result o k).known ≡ k
unfolding ask give
no_result_same None k = refl
no_result_same (Some r) k = refl

-- the tables after a heading that completes another
pub completed : (first position : ℕ) (h : HeadingTree) (k : Known)
    → (completing first position h k).known ≡ with_completion k first position (is_function h) (heading_name h)
unfolding completing ◌>>=◌ change
completed first position h k =
    ap (λ (j : Known). with_completion j first position (is_function h) (heading_name h))
    (no_result_same (result_of h) (without_formals (formals_of h) k).known ∙ no_formals_same (formals_of h) k)

turn_lasts : {G : RoutineTree → Type 0} {I : Known → Type 0} (c : Lasting G I) (region position : ℕ) (r : RoutineTree) → G r → (k : Known) → I k
    → (o : Option ℕ)
    → completed_by k region (routine_heading r) (routine_body r) ≡ o → I (complete_or_define o region position (routine_heading r) (routine_body r) k).known
turn_lasts c region position r g k i None e = (defining-lasts c region r g).of k i
turn_lasts {I = I} c region position r g k i (Some first) e =
    subst I (sym (completed first position (routine_heading r) k)) (c.completes k region first position r g e i)

pub define_routine-lasts : {G : RoutineTree → Type 0} {I : Known → Type 0} (c : Lasting G I) (region position : ℕ) (r : RoutineTree) → G r
    → Keeps I (define_routine region position r)
unfolding define_routine look ◌>>=◌ give
define_routine-lasts c region position r g =
    record { of = λ k i. turn_lasts c region position r g k i (completed_by k region (routine_heading r) (routine_body r)) refl }

has_block-lasts : {I : Known → Type 0} (r : RoutineTree) → Keeps I (has_block r)
unfolding has_block
has_block-lasts r = bind-keeps (look-keeps (λ k. is_waiting (row_at k (routine_name r)))) (λ waiting. ask-keeps _ (routine_name r) (not waiting))

pub have_blocks-lasts : {I : Known → Type 0} (rs : RoutineTrees) → Keeps I (have_blocks rs)
have_blocks-lasts tree.end_of_routines = give-keeps tt
have_blocks-lasts (tree.more_routines r rest) = bind-keeps (has_block-lasts r) (λ _. have_blocks-lasts rest)

define_each_routine-lasts : {G : RoutineTree → Type 0} {I : Known → Type 0} (c : Lasting G I) (region position : ℕ) (rs : RoutineTrees)
    → Each G (routines_in rs) → Keeps I (define_each_routine region position rs)
define_each_routine-lasts c region position tree.end_of_routines all = give-keeps position
define_each_routine-lasts c region position (tree.more_routines r rest) all =
    bind-keeps (define_routine-lasts c region position r all.0) (λ next. define_each_routine-lasts c region next rest all.1)

pub define_routines-lasts : {G : RoutineTree → Type 0} {I : Known → Type 0} (c : Lasting G I) (region : ℕ) (rs : RoutineTrees) → Each G (routines_in rs)
    → Keeps I (define_routines region rs)
define_routines-lasts c region rs all = bind-keeps (define_each_routine-lasts c region 0 rs all) (λ _. have_blocks-lasts rs)
