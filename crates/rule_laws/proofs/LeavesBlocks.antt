-- What the steps of `Rattle.decl_checker.specs.Blocks` leave at other tokens.
use Rattle.std.proofs.Common.{ℕ, None, Option, Some}
use Rattle.pas_tree.specs.BlockTrees.{BlockTree, ConstantPartTree, TypePartTree, VariablePartTree}
use Rattle.pas_tree.specs.BlockTrees as tree
use Rattle.pas_tree.specs.Blocks.{constant_definition_node}
use Rattle.pas_tree.specs.TreeNodes.{block_node, constant_part_node, type_definition_node, type_part_node, variable_declaration_node, variable_part_node}
use Rattle.core_program.specs.{ProgramRows.routine_at, declared.program.Routine.Routine as RoutineRow}
use Rattle.check_steps.specs.Known.{line_at}
use Rattle.kind_checker.specs.Constants.{constant_part, constants_in, define_constant}
use Rattle.denoter_checker.specs.Parts.{define_type, define_variable, types_in, variable_declaration, variables_in}
use Rattle.decl_checker.specs.Blocks.{constants, define_constants, define_types, define_variables, parts, put_body, put_held, types, variables, with_body}
use Rattle.decl_checker.specs.Blocks.{word_after}
use Rattle.rule_laws.proofs.{Every.Every, LeavesConstants.constant_part-leaves, LeavesConstants.define_constant-leaves}
use Rattle.rule_laws.proofs.Leaves.{Leaves, bind-leaves, each-leaves, give-leaves, look-leaves, put_routine-leaves}
use Rattle.rule_laws.proofs.LeavesParts.{define_type-leaves, define_variable-leaves, type_part-leaves, variable_declaration-leaves}

pub define_constants-leaves : {Q : ℕ → Type 0} (region : ℕ) (constant_part' : Option ConstantPartTree) → Every Q (constant_part_node constant_part')
    → Leaves Q (define_constants region constant_part')
define_constants-leaves region None constant_part-in = give-leaves tt
define_constants-leaves region (Some p) constant_part-in = each-leaves (define_constant region) constant_definition_node (λ a x h.
    define_constant-leaves region a x h) tt (constants_in p) constant_part-in.1

pub define_types-leaves : {Q : ℕ → Type 0} (region : ℕ) (type_part' : Option TypePartTree) → Every Q (type_part_node type_part')
    → Leaves Q (define_types region type_part')
define_types-leaves region None type_part-in = give-leaves tt
define_types-leaves region (Some p) type_part-in = each-leaves (define_type region) type_definition_node (λ a x h.
    define_type-leaves region a x h) tt (types_in p) type_part-in.1

pub define_variables-leaves : {Q : ℕ → Type 0} (region : ℕ) (variable_part : Option VariablePartTree) → Every Q (variable_part_node variable_part)
    → Leaves Q (define_variables region variable_part)
define_variables-leaves region None variable_part-in = give-leaves tt
define_variables-leaves region (Some p) variable_part-in = each-leaves (define_variable region) variable_declaration_node (λ a x h.
    define_variable-leaves region a x h) tt (variables_in p) variable_part-in.1

pub constants-leaves : {Q : ℕ → Type 0} (frame : ℕ) (constant_part' : Option ConstantPartTree) → Every Q (constant_part_node constant_part')
    → Leaves Q (constants frame constant_part')
constants-leaves frame None constant_part-in = give-leaves tt
constants-leaves frame (Some p) constant_part-in = each-leaves (constant_part frame) constant_definition_node (λ a x h.
    constant_part-leaves frame a x h) tt (constants_in p) constant_part-in.1

pub types-leaves : {Q : ℕ → Type 0} (frame : ℕ) (after' : ℕ) (type_part' : Option TypePartTree) → Every Q (type_part_node type_part')
    → Leaves Q (types frame after' type_part')
types-leaves frame after None type_part-in = give-leaves tt
types-leaves frame after (Some p) type_part-in = type_part-leaves frame after p type_part-in

pub variables-leaves : {Q : ℕ → Type 0} (frame : ℕ) (place : ℕ) (variable_part : Option VariablePartTree) → Every Q (variable_part_node variable_part)
    → Leaves Q (variables frame place variable_part)
variables-leaves frame place None variable_part-in = give-leaves place
variables-leaves frame place (Some p) variable_part-in = each-leaves (variable_declaration frame) variable_declaration_node (λ a x h.
    variable_declaration-leaves frame a x h) place (variables_in p) variable_part-in.1

pub parts-leaves : {Q : ℕ → Type 0} (frame : ℕ) (place : ℕ) (b : BlockTree) → Every Q (block_node b) → Leaves Q (parts frame place b)
parts-leaves frame place (tree.a_block labels consts kinds variable_part routines body) b-in =
    bind-leaves (constants-leaves frame consts b-in.1.0) (λ _. bind-leaves (types-leaves frame (word_after variable_part routines body) kinds b-in.1.1.0) (λ _.
    variables-leaves frame place variable_part b-in.1.1.1.0))

pub put_held-leaves : {Q : ℕ → Type 0} (number : ℕ) (x_routine : Option RoutineRow) → Leaves Q (put_held number x_routine)
put_held-leaves number None = give-leaves tt
put_held-leaves number (Some r) = put_routine-leaves number r

pub put_body-leaves : {Q : ℕ → Type 0} (number : ℕ) (cells : ℕ) (begin : ℕ) → Leaves Q (put_body number cells begin)
unfolding put_body
put_body-leaves number cells begin = bind-leaves (look-leaves (λ k. with_body (routine_at k.program number) cells begin (line_at k begin))) (λ r.
    put_held-leaves number r)
