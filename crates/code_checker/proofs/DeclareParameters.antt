-- What the steps of `Rattle.decl_checker.specs.Parameters` keep.
use Rattle.std.proofs.Common.{◌<◌, ℕ, None, Option, Some, false, is_some, refl}
use Rattle.pas_tree.specs.{BlockTrees.ParametersTree, TreeNodes.parameters_node}
use Rattle.core_program.specs.declared.rows.{NameRow.NameRow, Row.Row, TextFile.TextFile}
use Rattle.check_steps.specs.declared.regions.Def.{Def}
use Rattle.decl_checker.specs.Parameters.{define_file, program_parameter, program_parameters, text_file_named}
use Rattle.code_checker.proofs.{CheckNames.define_in-holds, KindNames.each_name-holds, Within.Within}
use Rattle.code_checker.proofs.Steps.{Holds, bind-holds, early-holds, give-holds, look-holds, put-holds}

pub define_file-holds : {size : ℕ} (region : ℕ) (token : ℕ) (x_text_file : Option TextFile) → token < size
    → Holds size false (define_file region token x_text_file)
define_file-holds region token None token-in = give-holds tt
define_file-holds region token (Some file) token-in =
    bind-holds (define_in-holds region (record { def = Def.TextFile token; token = token; end = token }) token-in) (λ _.
    put-holds token (Row.Name (NameRow.TextFile file)))

pub program_parameter-holds : {size : ℕ} (region : ℕ) (u : Unit {0}) (token : ℕ) → token < size → Holds size false (program_parameter region u token)
unfolding program_parameter
program_parameter-holds region u token token-in = bind-holds (look-holds (λ k. text_file_named k token)) (λ file.
    bind-holds (early-holds 34 token (is_some file) refl token-in) (λ _. define_file-holds region token file token-in))

pub program_parameters-holds : {size : ℕ} (region : ℕ) (parameters : Option ParametersTree) → Within size (parameters_node parameters)
    → Holds size false (program_parameters region parameters)
program_parameters-holds region None parameters-in = give-holds tt
program_parameters-holds region (Some p) parameters-in = each_name-holds (program_parameter region) tt p.names (λ a x h.
    program_parameter-holds region a x h) parameters-in.1.0
