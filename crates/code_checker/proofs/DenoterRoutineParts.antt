-- What the steps of `Rattle.denoter_checker.specs.RoutineParts` keep.
use Rattle.std.proofs.Common.{◌+◌, ◌<◌, ℕ, None, Option, Some, false, min, not, refl}
use Rattle.pas_tree.specs.{HeadingPlaces.heading_name, Headings.result_node, declared.headings.ResultType.ResultType}
use Rattle.pas_tree.specs.BlockTrees.{BodyTree, RoutineTree, RoutineTrees, routine_body, routine_heading}
use Rattle.pas_tree.specs.BlockTrees as tree
use Rattle.pas_tree.specs.HeadingTrees.{HeadingTree, HeldFormals}
use Rattle.pas_tree.specs.HeadingTrees as headed
use Rattle.pas_tree.specs.TreeNodes.{body_node, heading_node, held_formals_node, routine_node, routines_node}
use Rattle.core_program.specs.declared.rows.{PartRow.PartRow, Row.Row}
use Rattle.check_steps.specs.{Known.row_at, declared.regions.Def.Def}
use Rattle.denoter_checker.specs.Formals.{formals_of, is_complete, is_function, opening_parenthesis, result_of}
use Rattle.denoter_checker.specs.RoutineParts.{complete_or_define, completed_by, completing, define_each_routine, define_heading, define_routine}
use Rattle.denoter_checker.specs.RoutineParts.{define_routines, defining, directed, directive_in, has_block, have_blocks, is_forward, is_waiting, no_result}
use Rattle.denoter_checker.specs.RoutineParts.{routine_name, without_formals}
use Rattle.code_checker.proofs.{CheckNames.define_in-holds, TokenPlaces.heading_name-in, Within.Within}
use Rattle.code_checker.proofs.Parts.{formals_of-in, opening_parenthesis-in, result_of-in, routine_body-in, routine_heading-in, routine_name-in}
use Rattle.code_checker.proofs.Steps.{Holds, bind-holds, early-holds, give-holds, look-holds, put-holds, when-holds}

pub define_heading-holds : {size : ℕ} (region : ℕ) (h : HeadingTree) → Within size (heading_node h) → Holds size false (define_heading region h)
unfolding define_heading
define_heading-holds region h h-in = bind-holds (define_in-holds region (record {
  def = Def.Routine (heading_name h);
  token = heading_name h;
  end =
      heading_name h;
}) (heading_name-in h h-in)) (λ _. early-holds 9 (heading_name h) (is_complete h) refl (heading_name-in h h-in))

pub directed-holds : {size : ℕ} (h : HeadingTree) (directive : ℕ) → Within size (heading_node h) → directive < size → Holds size false (directed h directive)
unfolding directed
directed-holds h directive h-in directive-in = bind-holds (look-holds (λ k. is_forward k directive)) (λ forward.
    bind-holds (early-holds 10 directive forward refl directive-in) (λ _.
    when-holds forward (put-holds (heading_name h) (Row.Part (PartRow.Forward (is_function h) None)))))

pub directive_in-holds : {size : ℕ} (h : HeadingTree) (routine_body : BodyTree) → Within size (heading_node h) → Within size (body_node routine_body)
    → Holds size false (directive_in h routine_body)
directive_in-holds h (tree.a_directive directive) h-in routine_body-in = directed-holds h directive h-in routine_body-in
directive_in-holds h (tree.a_block_body b) h-in routine_body-in = give-holds tt

pub defining-holds : {size : ℕ} (region : ℕ) (h : HeadingTree) (body : BodyTree) → Within size (heading_node h) → Within size (body_node body)
    → Holds size false (defining region h body)
unfolding defining
defining-holds region h body h-in body-in = bind-holds (define_heading-holds region h h-in) (λ _. directive_in-holds h body h-in body-in)

pub without_formals-holds : {size : ℕ} (formals : HeldFormals) → Within size (held_formals_node formals) → Holds size false (without_formals formals)
without_formals-holds headed.without_formals formals-in = give-holds tt
without_formals-holds {size = size} (headed.some_formals f) formals-in =
    early-holds 9 (opening_parenthesis f) false refl (opening_parenthesis-in size f formals-in)

pub no_result-holds : {size : ℕ} (result_type : Option ResultType) → Within size (result_node result_type) → Holds size false (no_result result_type)
no_result-holds None result_type-in = give-holds tt
no_result-holds (Some r) result_type-in = early-holds 9 r.colon false refl result_type-in.0

pub completing-holds : {size : ℕ} (first : ℕ) (position : ℕ) (h : HeadingTree) → Within size (heading_node h) → Holds size false (completing first position h)
unfolding completing
completing-holds {size = size} first position h h-in = bind-holds (without_formals-holds (formals_of h) (formals_of-in size h h-in)) (λ _.
    bind-holds (no_result-holds (result_of h) (result_of-in size h h-in)) (λ _.
    bind-holds (put-holds first (Row.Part (PartRow.Forward (is_function h) (Some position)))) (λ _.
    put-holds (heading_name h) (Row.Part (PartRow.Completing first)))))

pub complete_or_define-holds : {size : ℕ} (x : Option ℕ) (region : ℕ) (position : ℕ) (h : HeadingTree) (body : BodyTree) → Within size (heading_node h)
    → Within size (body_node body) → Holds size false (complete_or_define x region position h body)
complete_or_define-holds None region position h body h-in body-in = defining-holds region h body h-in body-in
complete_or_define-holds (Some first) region position h body h-in body-in = completing-holds first position h h-in

pub define_routine-holds : {size : ℕ} (region : ℕ) (position : ℕ) (r : RoutineTree) → Within size (routine_node r)
    → Holds size false (define_routine region position r)
unfolding define_routine
define_routine-holds {size = size} region position r r-in =
    bind-holds (look-holds (λ k. completed_by k region (routine_heading r) (routine_body r))) (λ first.
    bind-holds (complete_or_define-holds first region position (routine_heading r) (routine_body r) (routine_heading-in size r r-in)
    (routine_body-in size r r-in)) (λ _. give-holds (min (position + 1) 4294967295)))

pub has_block-holds : {size : ℕ} (r : RoutineTree) → Within size (routine_node r) → Holds size false (has_block r)
unfolding has_block
has_block-holds {size = size} r r-in = bind-holds (look-holds (λ k. is_waiting (row_at k (routine_name r)))) (λ waiting.
    early-holds 8 (routine_name r) (not waiting) refl (routine_name-in size r r-in))

pub define_each_routine-holds : {size : ℕ} (region : ℕ) (position : ℕ) (rs : RoutineTrees) → Within size (routines_node rs)
    → Holds size false (define_each_routine region position rs)
define_each_routine-holds region position tree.end_of_routines rs-in = give-holds position
define_each_routine-holds region position (tree.more_routines r rest) rs-in =
    bind-holds (define_routine-holds region position r rs-in.0) (λ next. define_each_routine-holds region next rest rs-in.1)

pub have_blocks-holds : {size : ℕ} (rs : RoutineTrees) → Within size (routines_node rs) → Holds size false (have_blocks rs)
have_blocks-holds tree.end_of_routines rs-in = give-holds tt
have_blocks-holds (tree.more_routines r rest) rs-in = bind-holds (has_block-holds r rs-in.0) (λ _. have_blocks-holds rest rs-in.1)

pub define_routines-holds : {size : ℕ} (region : ℕ) (rs : RoutineTrees) → Within size (routines_node rs) → Holds size false (define_routines region rs)
define_routines-holds region rs rs-in = bind-holds (define_each_routine-holds region 0 rs rs-in) (λ _. have_blocks-holds rs rs-in)
