-- What the steps of `Rattle.decl_checker.specs.Blocks` break.
use Rattle.std.proofs.Common.{◌∷◌, [], ℕ, List, None, Option, Some, refl}
use Rattle.pas_tree.specs.BlockTrees.{BlockTree, ConstantPartTree, TypePartTree, VariableDeclarationTree, VariablePartTree}
use Rattle.pas_tree.specs.BlockTrees as tree
use Rattle.pas_tree.specs.DenoterTrees.{FieldsTree}
use Rattle.core_program.specs.{ProgramRows.routine_at, declared.program.Routine.Routine as RoutineRow}
use Rattle.check_steps.specs.{Known.line_at, Steps.each}
use Rattle.kind_checker.specs.Constants.{constant_part, constants_in}
use Rattle.denoter_checker.specs.Parts.{variable_declaration, variables_in}
use Rattle.decl_checker.specs.Blocks.{constants, parts, put_body, put_held, types, variables, with_body, word_after}
use Rattle.rule_laws.proofs.{PlainConstants.constant_part-plain, PlainDenoters.Records, PlainParts.type_part-plain, PlainParts.variable_declaration-plain}
use Rattle.rule_laws.proofs.Plain.{Aim, Plain, Solely, bind-solely, change-solely, each-plain, give-solely, look-solely}
use Rattle.rule_laws.specs.TextParts.{InTypePart, InVariablePart, InVariables}

pub constants-plain : {aim : Aim} (kept : Plain aim) (frame : ℕ) (constant_part' : Option ConstantPartTree)
    → Solely aim (constants frame constant_part')
constants-plain kept frame None = give-solely tt
constants-plain kept frame (Some p) = each-plain (constant_part frame) (λ a x. constant_part-plain kept frame a x) tt (constants_in p)

pub types-plain : {aim : Aim} {R : FieldsTree → Type 0} (kept : Records aim R) (frame after' : ℕ) (type_part' : Option TypePartTree)
    → InTypePart R type_part'
    → Solely aim (types frame after' type_part')
types-plain kept frame after None h = give-solely tt
types-plain kept frame after (Some p) h = type_part-plain kept frame after p h

variables-each : {aim : Aim} {R : FieldsTree → Type 0} (kept : Records aim R) (frame place : ℕ) (ds : List VariableDeclarationTree) → InVariables R ds
    → Solely aim (each (variable_declaration frame) place ds)
variables-each kept frame place [] h = give-solely place
variables-each kept frame place (d ∷ ds) h =
    bind-solely (variable_declaration-plain kept frame place d h.0) (λ next. variables-each kept frame next ds h.1)

pub variables-plain : {aim : Aim} {R : FieldsTree → Type 0} (kept : Records aim R) (frame place : ℕ) (variable_part : Option VariablePartTree)
    → InVariablePart R variable_part → Solely aim (variables frame place variable_part)
variables-plain kept frame place None h = give-solely place
variables-plain kept frame place (Some p) h = variables-each kept frame place (variables_in p) h

-- the records in a block's own types and variables
abbrev pub OwnRecords : (FieldsTree → Type 0) → BlockTree → Type 0
OwnRecords R (tree.a_block labels consts kinds variable_part routines body) = InTypePart R kinds × InVariablePart R variable_part

pub parts-plain : {aim : Aim} {R : FieldsTree → Type 0} (kept : Records aim R) (frame place : ℕ) (b : BlockTree) → OwnRecords R b
    → Solely aim (parts frame place b)
parts-plain kept frame place (tree.a_block labels consts kinds variable_part routines body) h =
    bind-solely (constants-plain kept.plain frame consts) (λ _. bind-solely (types-plain kept frame (word_after variable_part routines body) kinds h.0)
    (λ _. variables-plain kept frame place variable_part h.1))

put_held-plain : {aim : Aim} (number : ℕ) (o : Option RoutineRow) → Solely aim (put_held number o)
put_held-plain number None = give-solely tt
put_held-plain number (Some r) = change-solely _ (λ k. refl)

pub put_body-plain : {aim : Aim} (kept : Plain aim) (number cells begin : ℕ) → Solely aim (put_body number cells begin)
unfolding put_body
put_body-plain kept number cells begin = bind-solely (look-solely (λ k. with_body (routine_at k.program number) cells begin (line_at k begin))) (λ r.
    put_held-plain number r)
