-- What the steps of `Rattle.decl_checker.specs.Blocks` keep.
use Rattle.std.proofs.Common.{ℕ, Bool, None, Option, Some, false}
use Rattle.pas_tree.specs.BlockTrees.{BlockTree, ConstantPartTree, TypePartTree, VariablePartTree}
use Rattle.pas_tree.specs.BlockTrees as tree
use Rattle.pas_tree.specs.Blocks.{constant_definition_node}
use Rattle.pas_tree.specs.TreeNodes.{block_node, constant_part_node, type_definition_node, type_part_node, variable_declaration_node, variable_part_node}
use Rattle.core_program.specs.{ProgramRows.routine_at, declared.program.Routine.Routine as RoutineRow}
use Rattle.check_steps.specs.Known.{frame_at, line_at}
use Rattle.kind_checker.specs.Constants.{constant_part, constants_in, define_constant}
use Rattle.denoter_checker.specs.Parts.{define_type, define_variable, types_in, variable_declaration, variables_in}
use Rattle.decl_checker.specs.Blocks.{constants, define_block, define_constants, define_types, define_variables, parts, put_body, put_held, types, variables}
use Rattle.decl_checker.specs.Blocks.{with_body, word_after}
use Rattle.code_checker.proofs.{DeclareLabels.define_labels-holds, DenoterRoutineParts.define_routines-holds, Within.Within}
use Rattle.code_checker.proofs.DenoterParts.{define_type-holds, define_variable-holds, type_part-holds, variable_declaration-holds}
use Rattle.code_checker.proofs.KindConstants.{constant_part-holds, define_constant-holds}
use Rattle.code_checker.proofs.Steps.{Holds, bind-holds, each-holds, give-holds, look-holds, put_routine-holds}

pub define_constants-holds : {size : ℕ} (region : ℕ) (constant_part' : Option ConstantPartTree) → Within size (constant_part_node constant_part')
    → Holds size false (define_constants region constant_part')
define_constants-holds region None constant_part-in = give-holds tt
define_constants-holds region (Some p) constant_part-in = each-holds (define_constant region) constant_definition_node (λ a x h.
    define_constant-holds region a x h) tt (constants_in p) constant_part-in.1

pub define_types-holds : {size : ℕ} (region : ℕ) (type_part' : Option TypePartTree) → Within size (type_part_node type_part')
    → Holds size false (define_types region type_part')
define_types-holds region None type_part-in = give-holds tt
define_types-holds region (Some p) type_part-in = each-holds (define_type region) type_definition_node (λ a x h.
    define_type-holds region a x h) tt (types_in p) type_part-in.1

pub define_variables-holds : {size : ℕ} (region : ℕ) (variable_part : Option VariablePartTree) → Within size (variable_part_node variable_part)
    → Holds size false (define_variables region variable_part)
define_variables-holds region None variable_part-in = give-holds tt
define_variables-holds region (Some p) variable_part-in = each-holds (define_variable region) variable_declaration_node (λ a x h.
    define_variable-holds region a x h) tt (variables_in p) variable_part-in.1

pub define_block-holds : {size : ℕ} (frame : ℕ) (b : BlockTree) → Within size (block_node b) → Holds size false (define_block frame b)
define_block-holds frame (tree.a_block labels consts kinds variable_part routines body) b-in =
    bind-holds (look-holds (λ k. frame_at k frame)) (λ here. bind-holds (define_labels-holds here labels b-in.0) (λ _.
    bind-holds (define_constants-holds here.region consts b-in.1.0) (λ _. bind-holds (define_types-holds here.region kinds b-in.1.1.0) (λ _.
    bind-holds (define_variables-holds here.region variable_part b-in.1.1.1.0) (λ _. define_routines-holds here.region routines b-in.1.1.1.1.0)))))

pub constants-holds : {size : ℕ} (frame : ℕ) (constant_part' : Option ConstantPartTree) → Within size (constant_part_node constant_part')
    → Holds size false (constants frame constant_part')
constants-holds frame None constant_part-in = give-holds tt
constants-holds frame (Some p) constant_part-in = each-holds (constant_part frame) constant_definition_node (λ a x h.
    constant_part-holds frame a x h) tt (constants_in p) constant_part-in.1

pub types-holds : {size : ℕ} (frame : ℕ) (after' : ℕ) (type_part' : Option TypePartTree) → Within size (type_part_node type_part')
    → Holds size false (types frame after' type_part')
types-holds frame after None type_part-in = give-holds tt
types-holds frame after (Some p) type_part-in = type_part-holds frame after p type_part-in

pub variables-holds : {size : ℕ} (frame : ℕ) (place : ℕ) (variable_part : Option VariablePartTree) → Within size (variable_part_node variable_part)
    → Holds size false (variables frame place variable_part)
variables-holds frame place None variable_part-in = give-holds place
variables-holds frame place (Some p) variable_part-in = each-holds (variable_declaration frame) variable_declaration_node (λ a x h.
    variable_declaration-holds frame a x h) place (variables_in p) variable_part-in.1

pub parts-holds : {size : ℕ} (frame : ℕ) (place : ℕ) (b : BlockTree) → Within size (block_node b) → Holds size false (parts frame place b)
parts-holds frame place (tree.a_block labels consts kinds variable_part routines body) b-in =
    bind-holds (constants-holds frame consts b-in.1.0) (λ _. bind-holds (types-holds frame (word_after variable_part routines body) kinds b-in.1.1.0) (λ _.
    variables-holds frame place variable_part b-in.1.1.1.0))

pub put_held-holds : {size : ℕ} {later : Bool} (number : ℕ) (x_routine : Option RoutineRow) → Holds size later (put_held number x_routine)
put_held-holds number None = give-holds tt
put_held-holds number (Some r) = put_routine-holds number r

pub put_body-holds : {size : ℕ} {later : Bool} (number : ℕ) (cells : ℕ) (begin : ℕ) → Holds size later (put_body number cells begin)
unfolding put_body
put_body-holds number cells begin = bind-holds (look-holds (λ k. with_body (routine_at k.program number) cells begin (line_at k begin))) (λ r.
    put_held-holds number r)
