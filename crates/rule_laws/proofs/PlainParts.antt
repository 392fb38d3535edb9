-- What the steps of `Rattle.denoter_checker.specs.Parts` break.
use Rattle.std.proofs.Common.{◌+◌, ◌-◌, ◌∷◌, [], ℕ, List, Some, nat_le, refl, suc, zero}
use Rattle.pas_tree.specs.{BlockTrees.TypeDefinitionTree, BlockTrees.TypePartTree, BlockTrees.VariableDeclarationTree, DenoterTrees.FieldsTree}
use Rattle.core_program.specs.{ProgramRows.size_of, declared.rows.Mode.TheVariants.Own, declared.rows.NameRow.NameRow, declared.rows.Row.Row}
use Rattle.check_steps.specs.{Known.frame_at, Steps.each}
use Rattle.kind_checker.specs.{Sizes.frame_capped, declared.types.Scope.Scope}
use Rattle.denoter_checker.specs.Parts.{at_names, domains, place_variable, settle_from, type_definition, type_part, types_in, variable_declaration}
use Rattle.rule_laws.proofs.Plain.{Aim, Plain, Solely, ask-plain, bind-solely, each_name-plain, give-solely, look-solely, put-plain, settle_domain-plain}
use Rattle.rule_laws.proofs.PlainDenoters.{Records, denoter-plain}
use Rattle.rule_laws.specs.TextParts.{InTypes, OfRecords}

pub type_definition-plain : {aim : Aim} {R : FieldsTree → Type 0} (kept : Records aim R) (s : Scope) (u : Unit {0}) (d : TypeDefinitionTree)
    → OfRecords R d.denoter
    → Solely aim (type_definition s u d)
unfolding type_definition
type_definition-plain kept s u d h = bind-solely (denoter-plain kept s d.denoter h) (λ t. put-plain kept.plain d.name (Row.Name (NameRow.TypeName t)))

pub settle_from-plain : {aim : Aim} (kept : Plain aim) (x token : ℕ) → Solely aim (settle_from x token)
settle_from-plain kept zero token = give-solely tt
settle_from-plain kept (suc n) token = bind-solely (settle_domain-plain kept token) (λ _. settle_from-plain kept n (token + 1))

pub domains-plain : {aim : Aim} (kept : Plain aim) (first after' : ℕ) → Solely aim (domains first after')
domains-plain kept first after = settle_from-plain kept (after - first) first

types-each : {aim : Aim} {R : FieldsTree → Type 0} (kept : Records aim R) (s : Scope) (u : Unit {0}) (ds : List TypeDefinitionTree) → InTypes R ds
    → Solely aim (each (type_definition s) u ds)
types-each kept s u [] h = give-solely u
types-each kept s u (d ∷ ds) h = bind-solely (type_definition-plain kept s u d h.0) (λ v. types-each kept s v ds h.1)

pub type_part-plain : {aim : Aim} {R : FieldsTree → Type 0} (kept : Records aim R) (frame after' : ℕ) (p : TypePartTree) → InTypes R (types_in p)
    → Solely aim (type_part frame after' p)
type_part-plain kept frame after p h = bind-solely (types-each kept (record { frame = frame; domains_at = Some after }) tt (types_in p) h)
    (λ _. domains-plain kept.plain p.word after)

pub place_variable-plain : {aim : Aim} (kept : Plain aim) (level t at token : ℕ)
    → Solely aim (place_variable level t at token)
unfolding place_variable
place_variable-plain kept level t at token = bind-solely (put-plain kept token (Row.Name (NameRow.Variable Own t at level)))
    (λ _. bind-solely (look-solely (λ k. size_of k.program t)) (λ cells. bind-solely (ask-plain kept _ token (nat_le cells 65536) refl)
    (λ _. give-solely (frame_capped (at + cells)))))

pub variable_declaration-plain : {aim : Aim} {R : FieldsTree → Type 0} (kept : Records aim R) (frame at : ℕ) (d : VariableDeclarationTree)
    → OfRecords R d.denoter
    → Solely aim (variable_declaration frame at d)
unfolding variable_declaration
variable_declaration-plain kept frame at d h = bind-solely (look-solely (λ k. (frame_at k frame).level))
    (λ level. bind-solely (denoter-plain kept (at_names frame) d.denoter h)
    (λ t. each_name-plain (place_variable level t) at d.names (λ a x. place_variable-plain kept.plain level t a x)))
