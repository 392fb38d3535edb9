-- What the steps of `Rattle.denoter_checker.specs.Parts` leave at other tokens.
use Rattle.std.proofs.Common.{◌+◌, ◌-◌, ℕ, Some, nat_le, suc, zero}
use Rattle.pas_tree.specs.BlockTrees.{TypeDefinitionTree, TypePartTree, VariableDeclarationTree}
use Rattle.pas_tree.specs.TreeNodes.{type_definition_node, type_part_node, variable_declaration_node}
use Rattle.core_program.specs.{ProgramRows.size_of, declared.rows.Mode.TheVariants.Own, declared.rows.NameRow.NameRow, declared.rows.Row.Row}
use Rattle.check_steps.specs.{Known.frame_at, declared.regions.Def.Def}
use Rattle.kind_checker.specs.{Names.define_name, Sizes.frame_capped, declared.names.NameKind.NameKind, declared.types.Scope.Scope}
use Rattle.denoter_checker.specs.Parts.{at_names, define_type, define_variable, domains, place_variable, settle_domain, settle_from, settled, type_definition}
use Rattle.denoter_checker.specs.Parts.{type_part, types_in, variable_declaration}
use Rattle.rule_laws.proofs.{Every.Every, Every.Of, LeavesDefines.define_denoter-leaves, LeavesDenoters.denoter-leaves, LeavesNames.define_in-leaves}
use Rattle.rule_laws.proofs.Leaves.{Leaves, bind-leaves, each-leaves, give-leaves, look-leaves, looking-leaves, put-leaves, settled_fast, too_big-leaves}
use Rattle.rule_laws.proofs.LeavesNameLists.{define_name-leaves, each_name-leaves}

pub define_type-leaves : {Q : ℕ → Type 0} (region : ℕ) (u : Unit {0}) (d : TypeDefinitionTree) → Every Q (type_definition_node d)
    → Leaves Q (define_type region u d)
unfolding define_type
define_type-leaves region u d d-in = bind-leaves (define_in-leaves region (record { def = Def.TypeName d.name; token = d.name; end = d.semicolon }) d-in.0)
    (λ _.
    define_denoter-leaves region d.denoter d-in.1.1.0)

pub type_definition-leaves : {Q : ℕ → Type 0} (s : Scope) (u : Unit {0}) (d : TypeDefinitionTree) → Every Q (type_definition_node d)
    → Leaves Q (type_definition s u d)
unfolding type_definition
type_definition-leaves s u d d-in = bind-leaves (denoter-leaves s d.denoter d-in.1.1.0) (λ t. put-leaves d.name (Row.Name (NameRow.TypeName t)) d-in.0)

pub settle_domain-leaves : {Q : ℕ → Type 0} (token : ℕ) → Leaves Q (settle_domain token)
unfolding settle_domain
settle_domain-leaves token = looking-leaves token (λ k r. settled k r) (λ k r fast. settled_fast k r fast)

pub settle_from-leaves : {Q : ℕ → Type 0} (x : ℕ) (token : ℕ) → Leaves Q (settle_from x token)
settle_from-leaves zero token = give-leaves tt
settle_from-leaves (suc n) token = bind-leaves (settle_domain-leaves token) (λ _. settle_from-leaves n (token + 1))

pub domains-leaves : {Q : ℕ → Type 0} (first : ℕ) (after' : ℕ) → Leaves Q (domains first after')
domains-leaves first after = settle_from-leaves (after - first) first

pub type_part-leaves : {Q : ℕ → Type 0} (frame : ℕ) (after' : ℕ) (p : TypePartTree) → Every Q (type_part_node (Some p))
    → Leaves Q (type_part frame after' p)
type_part-leaves frame after p p-in = bind-leaves (each-leaves (type_definition (record { frame = frame; domains_at = Some after })) type_definition_node
    (λ a x h. type_definition-leaves (record { frame = frame; domains_at = Some after }) a x h) tt (types_in p) p-in.1) (λ _. domains-leaves p.word after)

pub define_variable-leaves : {Q : ℕ → Type 0} (region : ℕ) (u : Unit {0}) (d : VariableDeclarationTree) → Every Q (variable_declaration_node d)
    → Leaves Q (define_variable region u d)
unfolding define_variable
define_variable-leaves region u d d-in = bind-leaves (each_name-leaves (define_name region NameKind.Variable) tt d.names (λ a x h.
    define_name-leaves region NameKind.Variable a x h) d-in.0) (λ _. define_denoter-leaves region d.denoter d-in.1.1.0)

pub place_variable-leaves : {Q : ℕ → Type 0} (level : ℕ) (t : ℕ) (at : ℕ) (token : ℕ) → Of Q token
    → Leaves Q (place_variable level t at token)
unfolding place_variable
place_variable-leaves level t at token token-in = bind-leaves (put-leaves token (Row.Name (NameRow.Variable Own t at level)) token-in)
    (λ _. bind-leaves (look-leaves
    (λ k. size_of k.program t)) (λ cells. bind-leaves (too_big-leaves token (nat_le cells 65536) token-in) (λ _. give-leaves (frame_capped (at + cells)))))

pub variable_declaration-leaves : {Q : ℕ → Type 0} (frame : ℕ) (at : ℕ) (d : VariableDeclarationTree) → Every Q (variable_declaration_node d)
    → Leaves Q (variable_declaration frame at d)
unfolding variable_declaration
variable_declaration-leaves frame at d d-in = bind-leaves (look-leaves (λ k. (frame_at k frame).level)) (λ level.
    bind-leaves (denoter-leaves (at_names frame) d.denoter d-in.1.1.0) (λ t. each_name-leaves (place_variable level t) at d.names (λ a x h.
    place_variable-leaves level t a x h) d-in.0))
