-- What the steps of `Rattle.decl_checker.specs.Parameters` leave at other tokens.
use Rattle.std.proofs.Common.{ℕ, None, Option, Some, is_some}
use Rattle.pas_tree.specs.{BlockTrees.ParametersTree, TreeNodes.parameters_node}
use Rattle.core_program.specs.declared.rows.{NameRow.NameRow, Row.Row, TextFile.TextFile}
use Rattle.check_steps.specs.declared.regions.Def.{Def}
use Rattle.decl_checker.specs.Parameters.{define_file, program_parameter, program_parameters, text_file_named}
use Rattle.rule_laws.proofs.{Every.Every, Every.Of, LeavesNameLists.each_name-leaves, LeavesNames.define_in-leaves}
use Rattle.rule_laws.proofs.Leaves.{Leaves, bind-leaves, early-leaves, give-leaves, look-leaves, put-leaves}

pub define_file-leaves : {Q : ℕ → Type 0} (region : ℕ) (token : ℕ) (x_text_file : Option TextFile) → Of Q token
    → Leaves Q (define_file region token x_text_file)
define_file-leaves region token None token-in = give-leaves tt
define_file-leaves region token (Some file) token-in =
    bind-leaves (define_in-leaves region (record { def = Def.TextFile token; token = token; end = token }) token-in) (λ _.
    put-leaves token (Row.Name (NameRow.TextFile file)) token-in)

pub program_parameter-leaves : {Q : ℕ → Type 0} (region : ℕ) (u : Unit {0}) (token : ℕ) → Of Q token → Leaves Q (program_parameter region u token)
unfolding program_parameter
program_parameter-leaves region u token token-in = bind-leaves (look-leaves (λ k. text_file_named k token)) (λ file.
    bind-leaves (early-leaves 34 token (is_some file) token-in) (λ _. define_file-leaves region token file token-in))

pub program_parameters-leaves : {Q : ℕ → Type 0} (region : ℕ) (parameters : Option ParametersTree) → Every Q (parameters_node parameters)
    → Leaves Q (program_parameters region parameters)
program_parameters-leaves region None parameters-in = give-leaves tt
program_parameters-leaves region (Some p) parameters-in = each_name-leaves (program_parameter region) tt p.names (λ a x h.
    program_parameter-leaves region a x h) parameters-in.1.0
