-- What the steps of `Rattle.decl_checker.specs.Blocks` leave as it was.
use Rattle.std.proofs.Common.{◌∙◌, ◌≡◌, ℕ, None, Option, Some, ap, refl, sym}
use Rattle.std.proofs.lemmas.Option.{same_Some}
use Rattle.pas_tree.specs.BlockTrees.{BlockTree, ConstantPartTree, RoutineTree, TypePartTree, VariablePartTree}
use Rattle.pas_tree.specs.BlockTrees as tree
use Rattle.core_program.specs.{ProgramRows.routine_at, declared.program.Routine.Routine as RoutineRow}
use Rattle.check_steps.specs.{Known.Known, Known.frame_at, Known.line_at, Steps.◌>>=◌, Steps.change, Steps.give, Steps.look}
use Rattle.kind_checker.specs.Constants.{constant_part, constants_in, define_constant}
use Rattle.denoter_checker.specs.Parts.{define_type, define_variable, types_in, variable_declaration, variables_in}
use Rattle.decl_checker.specs.Blocks.{constants, define_block, define_constants, define_types, define_variables, parts, put_body, put_held, types, variables}
use Rattle.decl_checker.specs.Blocks.{with_body, word_after}
use Rattle.rule_laws.proofs.{Breaks.Each, Lasting.Declaring, Lasting.Ends, Lasting.Lasting, Lasting.each-lasts, LastsConstants.constant_part-lasts}
use Rattle.rule_laws.proofs.{LastsConstants.define_constant-lasts, LastsLabels.define_labels-lasts, LastsRoutineParts.define_routines-lasts}
use Rattle.rule_laws.proofs.Keeping.{Keeps, bind-keeps, give-keeps, look-keeps}
use Rattle.rule_laws.proofs.LastsParts.{define_type-lasts, define_variable-lasts, type_part-lasts, variable_declaration-lasts}
use Rattle.rule_laws.specs.NameLaws.{block_routines}

pub define_constants-lasts : {I : Known → Type 0} (ends : Ends I) (region : ℕ) (constant_part' : Option ConstantPartTree)
    → Keeps I (define_constants region constant_part')
define_constants-lasts ends region None = give-keeps tt
define_constants-lasts ends region (Some p) = each-lasts (define_constant region) (λ a x. define_constant-lasts ends region a x) tt (constants_in p)

pub define_types-lasts : {G : RoutineTree → Type 0} {I : Known → Type 0} (kept : Lasting G I) (ends : Ends I) (region : ℕ)
    (type_part' : Option TypePartTree) → Keeps I (define_types region type_part')
define_types-lasts kept ends region None = give-keeps tt
define_types-lasts kept ends region (Some p) = each-lasts (define_type region) (λ a x. define_type-lasts kept ends region a x) tt (types_in p)

pub define_variables-lasts : {G : RoutineTree → Type 0} {I : Known → Type 0} (kept : Lasting G I) (region : ℕ) (variable_part : Option VariablePartTree)
    → Keeps I (define_variables region variable_part)
define_variables-lasts kept region None = give-keeps tt
define_variables-lasts kept region (Some p) = each-lasts (define_variable region) (λ a x. define_variable-lasts kept region a x) tt (variables_in p)

pub constants-lasts : {G : RoutineTree → Type 0} {I : Known → Type 0} (kept : Lasting G I) (frame : ℕ) (constant_part' : Option ConstantPartTree)
    → Keeps I (constants frame constant_part')
constants-lasts kept frame None = give-keeps tt
constants-lasts kept frame (Some p) = each-lasts (constant_part frame) (λ a x. constant_part-lasts kept frame a x) tt (constants_in p)

pub types-lasts : {G : RoutineTree → Type 0} {I : Known → Type 0} (kept : Lasting G I) (frame after' : ℕ) (type_part' : Option TypePartTree)
    → Keeps I (types frame after' type_part')
types-lasts kept frame after None = give-keeps tt
types-lasts kept frame after (Some p) = type_part-lasts kept frame after p

pub variables-lasts : {G : RoutineTree → Type 0} {I : Known → Type 0} (kept : Lasting G I) (frame place : ℕ) (variable_part : Option VariablePartTree)
    → Keeps I (variables frame place variable_part)
variables-lasts kept frame place None = give-keeps place
variables-lasts kept frame place (Some p) = each-lasts (variable_declaration frame) (λ a x. variable_declaration-lasts kept frame a x) place (variables_in p)

pub parts-lasts : {G : RoutineTree → Type 0} {I : Known → Type 0} (kept : Lasting G I) (frame place : ℕ) (b : BlockTree) → Keeps I (parts frame place b)
parts-lasts kept frame place (tree.a_block labels consts kinds variable_part routines body) =
    bind-keeps (constants-lasts kept frame consts) (λ _. bind-keeps (types-lasts kept frame (word_after variable_part routines body) kinds)
    (λ _. variables-lasts kept frame place variable_part))

-- the routine keeps its name
pub put_body-lasts : {G : RoutineTree → Type 0} {I : Known → Type 0} (kept : Lasting G I) (number cells begin : ℕ) → Keeps I (put_body number cells begin)
unfolding put_body look ◌>>=◌ change give
put_body-lasts {I = I} kept number cells begin = record { of = λ k i. by k i (routine_at k.program number) refl }
  where
    by : (k : Known) → I k → (o : Option RoutineRow) → routine_at k.program number ≡ o
        → I (put_held number (with_body o cells begin (line_at k begin)) k).known
    by k i None e = i
    by k i (Some q) e = kept.bodies k number (record q { cells = cells; statements = begin; line = line_at k begin })
        (λ x there. ap (λ (r : RoutineRow). r.name) (same_Some q x (sym e ∙ there))) i

pub define_block-lasts : {G : RoutineTree → Type 0} {I : Known → Type 0} (kept : Declaring G I) (frame : ℕ) (b : BlockTree) → Each G (block_routines b)
    → Keeps I (define_block frame b)
define_block-lasts kept frame (tree.a_block labels consts kinds variable_part routines body) all =
    bind-keeps (look-keeps (λ k. frame_at k frame)) (λ here. bind-keeps (define_labels-lasts kept here labels) (λ _.
    bind-keeps (define_constants-lasts kept.ends here.region consts) (λ _. bind-keeps (define_types-lasts kept.kept kept.ends here.region kinds) (λ _.
    bind-keeps (define_variables-lasts kept.kept here.region variable_part) (λ _. define_routines-lasts kept.kept here.region routines all)))))
