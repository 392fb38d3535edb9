-- The parts of a block that define types and declare variables (6.2.1).
use Rattle.std.specs.Prelude.{◌+◌, ◌-◌, ◌∷◌, ℕ, List, None, Some, nat_le, suc, zero}
use Rattle.pas_tree.specs.BlockTrees.{TypeDefinitionTree, TypePartTree, VariableDeclarationTree, VariablePartTree}
use Rattle.pas_tree.specs.BlockTrees.{type_definition_tree, variable_declaration_tree}
use Rattle.pas_tree.specs.declared.blocks.{TypeDefinition.TypeDefinition, VariableDeclaration.VariableDeclaration}
use Rattle.core_program.specs.ProgramRows.{size_of}
use Rattle.core_program.specs.declared.rows.{Mode.TheVariants.Own, NameRow.NameRow, Row.Row, TypeRow.TypeRow}
use Rattle.check_steps.specs.{Known.Known, Known.frame_at, Known.row_at, Names.define_in, declared.regions.Def.Def}
use Rattle.check_steps.specs.Steps.{◌>>=◌, Step, each, give, look, put, too_big}
use Rattle.kind_checker.specs.{Names.define_name, Names.each_name, Sizes.frame_capped, Types.type_named}
use Rattle.kind_checker.specs.declared.{names.NameKind.NameKind, types.Scope.Scope}
use Rattle.denoter_checker.specs.{Defines.define_denoter, Denoters.denoter}

-- ---- types

abbrev pub types_in : TypePartTree → List TypeDefinitionTree
types_in p = p.first ∷ p.others

-- a type may be used from the semicolon after its definition on
unfoldable pub define_type : ℕ → Unit {0} → TypeDefinitionTree → Step (Unit {0})
define_type region u d = do
  _ ← define_in region (record { def = Def.TypeName d.name; token = d.name; end = d.semicolon })
  define_denoter region d.denoter

unfoldable pub type_definition : Scope → Unit {0} → TypeDefinitionTree → Step (Unit {0})
type_definition s u d = do
  t ← denoter s d.denoter
  put d.name (Row.Name (NameRow.TypeName t))

-- ---- domains

-- the row of a pointer whose domain is known by its definition alone
abbrev pub settled : Known → Row → Row
settled k (Row.Type (TypeRow.Pointer domain)) = Row.Type (TypeRow.Pointer (type_named (row_at k domain) domain))
settled k r = r

unfoldable pub settle_domain : ℕ → Step (Unit {0})
settle_domain token = do
  r ← look (λ k. settled k (row_at k token))
  put token r

abbrev pub settle_from : ℕ → ℕ → Step (Unit {0})
settle_from zero token = give tt
settle_from (suc n) token = settle_domain token >>= λ _. settle_from n (token + 1)

-- The pointers from a token on to the one after a part get the types for which their domains' definitions stand.
abbrev pub domains : ℕ → ℕ → Step (Unit {0})
domains first after = settle_from (after - first) first

-- A part of type definitions, in front of a token. A pointer's domain is looked up as if at that token.
abbrev pub type_part : ℕ → ℕ → TypePartTree → Step (Unit {0})
type_part frame after p = do
  _ ← each (type_definition (record { frame = frame; domains_at = Some after })) tt (types_in p)
  domains p.word after

-- ---- variables

abbrev pub variables_in : VariablePartTree → List VariableDeclarationTree
variables_in p = p.first ∷ p.others

unfoldable pub define_variable : ℕ → Unit {0} → VariableDeclarationTree → Step (Unit {0})
define_variable region u d = do
  _ ← each_name (define_name region NameKind.Variable) tt d.names
  define_denoter region d.denoter

-- a variable of a type, after the cells of those before; the place after it is given
unfoldable pub place_variable : ℕ → ℕ → ℕ → ℕ → Step ℕ
place_variable level t at token = do
  _ ← put token (Row.Name (NameRow.Variable Own t at level))
  cells ← look (λ k. size_of k.program t)
  _ ← too_big token (nat_le cells 65536)
  give (frame_capped (at + cells))

abbrev pub at_names : ℕ → Scope
at_names frame = record { frame = frame; domains_at = None }

unfoldable pub variable_declaration : ℕ → ℕ → VariableDeclarationTree → Step ℕ
variable_declaration frame at d = do
  level ← look (λ k. (frame_at k frame).level)
  t ← denoter (at_names frame) d.denoter
  each_name (place_variable level t) at d.names

-- ---- one more of what the code holds

unfoldable pub define_next_type : ℕ → Unit {0} → TypeDefinition → Step (Unit {0})
define_next_type region u d = define_type region u (type_definition_tree d)

unfoldable pub next_type_definition : Scope → Unit {0} → TypeDefinition → Step (Unit {0})
next_type_definition s u d = type_definition s u (type_definition_tree d)

unfoldable pub define_next_variable : ℕ → Unit {0} → VariableDeclaration → Step (Unit {0})
define_next_variable region u d = define_variable region u (variable_declaration_tree d)

unfoldable pub next_variable_declaration : ℕ → ℕ → VariableDeclaration → Step ℕ
next_variable_declaration frame at d = variable_declaration frame at (variable_declaration_tree d)
