-- What the steps of `Rattle.decl_checker.specs.Parameters` leave as it was.
use Rattle.std.proofs.Common.{ℕ, None, Option, Some, is_some, refl}
use Rattle.pas_tree.specs.BlockTrees.{ParametersTree, RoutineTree}
use Rattle.core_program.specs.declared.rows.{NameRow.NameRow, Row.Row, TextFile.TextFile}
use Rattle.check_steps.specs.{Known.Known, declared.regions.Def.Def}
use Rattle.decl_checker.specs.Parameters.{define_file, program_parameter, program_parameters, text_file_named}
use Rattle.rule_laws.proofs.Keeping.{Keeps, ask-keeps, bind-keeps, give-keeps, look-keeps}
use Rattle.rule_laws.proofs.Lasting.{Lasting, define_in-lasts, each_name-lasts, put-lasts}

pub define_file-lasts : {G : RoutineTree → Type 0} {I : Known → Type 0} (kept : Lasting G I) (region token : ℕ) (x_text_file : Option TextFile)
    → Keeps I (define_file region token x_text_file)
define_file-lasts kept region token None = give-keeps tt
define_file-lasts kept region token (Some file) =
    bind-keeps (define_in-lasts kept region (record { def = Def.TextFile token; token = token; end = token }) refl)
    (λ _. put-lasts kept token (Row.Name (NameRow.TextFile file)) refl)

pub program_parameter-lasts : {G : RoutineTree → Type 0} {I : Known → Type 0} (kept : Lasting G I) (region : ℕ) (u : Unit {0}) (token : ℕ)
    → Keeps I (program_parameter region u token)
unfolding program_parameter
program_parameter-lasts kept region u token = bind-keeps (look-keeps (λ k. text_file_named k token))
    (λ file. bind-keeps (ask-keeps _ token (is_some file)) (λ _. define_file-lasts kept region token file))

pub program_parameters-lasts : {G : RoutineTree → Type 0} {I : Known → Type 0} (kept : Lasting G I) (region : ℕ) (parameters : Option ParametersTree)
    → Keeps I (program_parameters region parameters)
program_parameters-lasts kept region None = give-keeps tt
program_parameters-lasts kept region (Some p) = each_name-lasts (program_parameter region) tt p.names (λ a x. program_parameter-lasts kept region a x)
