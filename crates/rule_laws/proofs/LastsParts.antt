-- What the steps of `Rattle.denoter_checker.specs.Parts` leave as it was.
use Rattle.std.proofs.Common.{◌+◌, ◌-◌, ℕ, Some, nat_le, refl, suc, zero}
use Rattle.pas_tree.specs.BlockTrees.{RoutineTree, TypeDefinitionTree, TypePartTree, VariableDeclarationTree}
use Rattle.core_program.specs.{ProgramRows.size_of, declared.rows.Mode.TheVariants.Own, declared.rows.NameRow.NameRow, declared.rows.Row.Row}
use Rattle.check_steps.specs.{Known.Known, Known.frame_at, declared.regions.Def.Def, declared.regions.Definition.Definition}
use Rattle.kind_checker.specs.{Names.define_name, Sizes.frame_capped, declared.names.NameKind.NameKind, declared.types.Scope.Scope}
use Rattle.denoter_checker.specs.Parts.{at_names, define_type, define_variable, domains, place_variable, settle_from, type_definition, type_part, types_in}
use Rattle.denoter_checker.specs.Parts.{variable_declaration}
use Rattle.rule_laws.proofs.{LastsDefines.define_denoter-lasts, LastsDenoters.denoter-lasts, LastsNameLists.define_name-lasts}
use Rattle.rule_laws.proofs.Keeping.{Keeps, ask-keeps, bind-keeps, give-keeps, look-keeps}
use Rattle.rule_laws.proofs.Lasting.{Ends, Lasting, define_in-by, each-lasts, each_name-lasts, put-lasts, settle_domain-lasts}

pub define_type-lasts : {G : RoutineTree → Type 0} {I : Known → Type 0} (kept : Lasting G I) (ends : Ends I) (region : ℕ) (u : Unit {0})
    (d : TypeDefinitionTree) → Keeps I (define_type region u d)
unfolding define_type
define_type-lasts kept ends region u d =
    let e : Definition = record { def = Def.TypeName d.name; token = d.name; end = d.semicolon } in
    bind-keeps (define_in-by region e (λ k i. ends k region e i)) (λ _. define_denoter-lasts kept region d.denoter)

pub type_definition-lasts : {G : RoutineTree → Type 0} {I : Known → Type 0} (kept : Lasting G I) (s : Scope) (u : Unit {0}) (d : TypeDefinitionTree)
    → Keeps I (type_definition s u d)
unfolding type_definition
type_definition-lasts kept s u d = bind-keeps (denoter-lasts kept s d.denoter) (λ t. put-lasts kept d.name (Row.Name (NameRow.TypeName t)) refl)

pub settle_from-lasts : {G : RoutineTree → Type 0} {I : Known → Type 0} (kept : Lasting G I) (x token : ℕ) → Keeps I (settle_from x token)
settle_from-lasts kept zero token = give-keeps tt
settle_from-lasts kept (suc n) token = bind-keeps (settle_domain-lasts kept token) (λ _. settle_from-lasts kept n (token + 1))

pub domains-lasts : {G : RoutineTree → Type 0} {I : Known → Type 0} (kept : Lasting G I) (first after' : ℕ) → Keeps I (domains first after')
domains-lasts kept first after = settle_from-lasts kept (after - first) first

pub type_part-lasts : {G : RoutineTree → Type 0} {I : Known → Type 0} (kept : Lasting G I) (frame after' : ℕ) (p : TypePartTree)
    → Keeps I (type_part frame after' p)
type_part-lasts kept frame after p = bind-keeps (each-lasts (type_definition (record { frame = frame; domains_at = Some after }))
    (λ a x. type_definition-lasts kept (record { frame = frame; domains_at = Some after }) a x) tt (types_in p)) (λ _. domains-lasts kept p.word after)

pub define_variable-lasts : {G : RoutineTree → Type 0} {I : Known → Type 0} (kept : Lasting G I) (region : ℕ) (u : Unit {0}) (d : VariableDeclarationTree)
    → Keeps I (define_variable region u d)
unfolding define_variable
define_variable-lasts kept region u d = bind-keeps (each_name-lasts (define_name region NameKind.Variable) tt d.names
    (λ a x. define_name-lasts kept region NameKind.Variable a x)) (λ _. define_denoter-lasts kept region d.denoter)

pub place_variable-lasts : {G : RoutineTree → Type 0} {I : Known → Type 0} (kept : Lasting G I) (level t at token : ℕ)
    → Keeps I (place_variable level t at token)
unfolding place_variable
place_variable-lasts kept level t at token = bind-keeps (put-lasts kept token (Row.Name (NameRow.Variable Own t at level)) refl)
    (λ _. bind-keeps (look-keeps (λ k. size_of k.program t)) (λ cells. bind-keeps (ask-keeps _ token (nat_le cells 65536))
    (λ _. give-keeps (frame_capped (at + cells)))))

pub variable_declaration-lasts : {G : RoutineTree → Type 0} {I : Known → Type 0} (kept : Lasting G I) (frame at : ℕ) (d : VariableDeclarationTree)
    → Keeps I (variable_declaration frame at d)
unfolding variable_declaration
variable_declaration-lasts kept frame at d = bind-keeps (look-keeps (λ k. (frame_at k frame).level))
    (λ level. bind-keeps (denoter-lasts kept (at_names frame) d.denoter)
    (λ t. each_name-lasts (place_variable level t) at d.names (λ a x. place_variable-lasts kept level t a x)))
