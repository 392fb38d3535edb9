-- What the steps of `Rattle.denoter_checker.specs.Parts` keep.
use Rattle.std.proofs.Common.{◌+◌, ◌-◌, ◌<◌, ℕ, Bool, Some, false, nat_le, suc, zero}
use Rattle.pas_tree.specs.BlockTrees.{TypeDefinitionTree, TypePartTree, VariableDeclarationTree}
use Rattle.pas_tree.specs.TreeNodes.{type_definition_node, type_part_node, variable_declaration_node}
use Rattle.core_program.specs.{ProgramRows.size_of, declared.rows.Mode.TheVariants.Own, declared.rows.NameRow.NameRow, declared.rows.Row.Row}
use Rattle.check_steps.specs.{Known.frame_at, Known.row_at, declared.regions.Def.Def}
use Rattle.kind_checker.specs.{Names.define_name, Sizes.frame_capped, declared.names.NameKind.NameKind, declared.types.Scope.Scope}
use Rattle.denoter_checker.specs.Parts.{at_names, define_type, define_variable, domains, place_variable, settle_domain, settle_from, settled, type_definition}
use Rattle.denoter_checker.specs.Parts.{type_part, types_in, variable_declaration}
use Rattle.code_checker.proofs.{CheckNames.define_in-holds, DenoterDefines.define_denoter-holds, DenoterDenoters.denoter-holds, Within.Within}
use Rattle.code_checker.proofs.KindNames.{define_name-holds, each_name-holds}
use Rattle.code_checker.proofs.Steps.{Holds, bind-holds, each-holds, give-holds, look-holds, put-holds, too_big-holds}

pub define_type-holds : {size : ℕ} (region : ℕ) (u : Unit {0}) (d : TypeDefinitionTree) → Within size (type_definition_node d)
    → Holds size false (define_type region u d)
unfolding define_type
define_type-holds region u d d-in = bind-holds (define_in-holds region (record { def = Def.TypeName d.name; token = d.name; end = d.semicolon }) d-in.0) (λ _.
    define_denoter-holds region d.denoter d-in.1.1.0)

pub type_definition-holds : {size : ℕ} (s : Scope) (u : Unit {0}) (d : TypeDefinitionTree) → Within size (type_definition_node d)
    → Holds size false (type_definition s u d)
unfolding type_definition
type_definition-holds s u d d-in = bind-holds (denoter-holds s d.denoter d-in.1.1.0) (λ t. put-holds d.name (Row.Name (NameRow.TypeName t)))

pub settle_domain-holds : {size : ℕ} {later : Bool} (token : ℕ) → Holds size later (settle_domain token)
unfolding settle_domain
settle_domain-holds token = bind-holds (look-holds (λ k. settled k (row_at k token))) (λ r. put-holds token r)

pub settle_from-holds : {size : ℕ} {later : Bool} (x : ℕ) (token : ℕ) → Holds size later (settle_from x token)
settle_from-holds zero token = give-holds tt
settle_from-holds (suc n) token = bind-holds (settle_domain-holds token) (λ _. settle_from-holds n (token + 1))

pub domains-holds : {size : ℕ} {later : Bool} (first : ℕ) (after' : ℕ) → Holds size later (domains first after')
domains-holds first after = settle_from-holds (after - first) first

pub type_part-holds : {size : ℕ} (frame : ℕ) (after' : ℕ) (p : TypePartTree) → Within size (type_part_node (Some p))
    → Holds size false (type_part frame after' p)
type_part-holds frame after p p-in = bind-holds (each-holds (type_definition (record { frame = frame; domains_at = Some after })) type_definition_node
    (λ a x h. type_definition-holds (record { frame = frame; domains_at = Some after }) a x h) tt (types_in p) p-in.1) (λ _. domains-holds p.word after)

pub define_variable-holds : {size : ℕ} (region : ℕ) (u : Unit {0}) (d : VariableDeclarationTree) → Within size (variable_declaration_node d)
    → Holds size false (define_variable region u d)
unfolding define_variable
define_variable-holds region u d d-in = bind-holds (each_name-holds (define_name region NameKind.Variable) tt d.names (λ a x h.
    define_name-holds region NameKind.Variable a x h) d-in.0) (λ _. define_denoter-holds region d.denoter d-in.1.1.0)

pub place_variable-holds : {size : ℕ} {later : Bool} (level : ℕ) (t : ℕ) (at : ℕ) (token : ℕ) → token < size
    → Holds size later (place_variable level t at token)
unfolding place_variable
place_variable-holds level t at token token-in = bind-holds (put-holds token (Row.Name (NameRow.Variable Own t at level))) (λ _. bind-holds (look-holds
    (λ k. size_of k.program t)) (λ cells. bind-holds (too_big-holds token (nat_le cells 65536) token-in) (λ _. give-holds (frame_capped (at + cells)))))

pub variable_declaration-holds : {size : ℕ} (frame : ℕ) (at : ℕ) (d : VariableDeclarationTree) → Within size (variable_declaration_node d)
    → Holds size false (variable_declaration frame at d)
unfolding variable_declaration
variable_declaration-holds frame at d d-in = bind-holds (look-holds (λ k. (frame_at k frame).level)) (λ level.
    bind-holds (denoter-holds (at_names frame) d.denoter d-in.1.1.0) (λ t. each_name-holds (place_variable level t) at d.names (λ a x h.
    place_variable-holds level t a x h) d-in.0))
