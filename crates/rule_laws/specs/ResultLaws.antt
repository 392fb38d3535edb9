-- Which functions break rule 12.
use Rattle.std.specs.Prelude.{◌-◌, ◌<◌, ◌↔◌, ◌≡◌, ◌⊎◌, ℕ, All, Bool, Contains, None, Some, false, length, true}
use Rattle.grammar.specs.Nodes.{Node, spell}
use Rattle.pas_tree.specs.BlockTrees.{BodyTree}
use Rattle.core_program.specs.ProgramRows.{routine_at}
use Rattle.core_program.specs.declared.{program.Routine.Routine, rows.NameRow.NameRow, rows.Row.Row}
use Rattle.check_steps.specs.{Around.Falls, Regions.defined_in, declared.regions.Definition.Definition}
use Rattle.check_steps.specs.Known.{Known, row_at, type_at}
use Rattle.kind_checker.specs.Headings.{signature_at}
use Rattle.decl_checker.specs.Routines.{own_frame}
use Rattle.statement_checker.specs.Assignments.{is_inside_from}
use Rattle.code_checker.specs.{Blocks.code_body, Results.name_in_first}
use Rattle.rule_laws.specs.{CaseLaws.late_at, ForwardHeadings.is_block, Tokens.Has}
use Rattle.rule_laws.specs.FunctionResults.{body_assigns, names_inside, statements_of_body}

-- A token that stands in none of these statements, and is not the last one of the source.
pub record IsApart (k : Known) (statements : Node) (token : ℕ) : Type 0 where
  pub none : Has statements token → ⊥
  pub before_end : token ≡ length k.words - 1 → ⊥

-- At a token stands a function that has a block, with its result, and nothing is assigned to it so far.
pub record IsUnassigned (k : Known) (statements : Node) (token : ℕ) : Type 0 where
  pub number : ℕ
  pub region : ℕ
  pub routine : Routine
  pub place : ℕ
  pub of : ℕ
  pub row : row_at k token ≡ Row.Name (NameRow.Routine false number region)
  pub there : routine_at k.program number ≡ Some routine
  pub has_place : routine.result ≡ Some place
  pub has_type : (signature_at k routine.heading).result ≡ Some of
  pub heading : IsApart k statements routine.heading

-- The row of a procedure or function stands at the name in its first heading.
abbrev pub AreAtNames : Known → Type 0
AreAtNames k = (token : ℕ) (assigned : Bool) (number region : ℕ) (r : Routine)
    → row_at k token ≡ Row.Name (NameRow.Routine assigned number region) → routine_at k.program number ≡ Some r
    → r.name ≡ token

-- A routine by its name in a heading, whose block is in that of the function: outward from its frame the function's
-- region is reached in at most as many frames as there are tokens beside the statements.
pub record IsWithin (k : Known) (statements : Node) (function name : ℕ) : Type 0 where
  pub token : IsApart k statements name
  pub first : IsApart k statements (name_in_first k name)
  pub there : own_frame k (name_in_first k name) < length k.frames
  pub inside : is_inside_from (length k.words - length (spell statements)) k (Some (own_frame k (name_in_first k name)))
      function
      ≡ true

-- another one than that of the function
pub record IsOtherWithin (k : Known) (statements : Node) (function its_name name : ℕ) : Type 0 where
  pub within : IsWithin k statements function name
  pub other : name ≡ its_name → ⊥

-- The statements are those of a block, or of one in it, whose declarations were looked at: definitions and types stand
-- beside them, and each frame comes after the one around it.
pub record AreDeclared (k : Known) (statements : Node) : Type 0 where
  pub falls : Falls k.frames
  pub definitions : (region name : ℕ) (d : Definition) → defined_in k.regions region name ≡ Some d
      → IsApart k statements d.token
  pub types : (n : ℕ) → Has statements n ⊎ (n ≡ length k.words - 1) → type_at k n ≡ None

-- The block after a function's heading begins to be looked at: nothing is assigned to the function so far, headings and
-- statements are different tokens, and the frames of the routines in the block are inside of the function's region.
pub record IsFunctionBegun (k : Known) (name : ℕ) (body : BodyTree) : Type 0 where
  pub block : is_block body ≡ true
  pub function : IsUnassigned k (statements_of_body body) (name_in_first k name)
  pub named : AreAtNames k
  pub declared : AreDeclared k (statements_of_body body)
  pub own : IsWithin k (statements_of_body body) (name_in_first k name) name
  pub inner : All (IsOtherWithin k (statements_of_body body) (name_in_first k name) name) (names_inside body)

-- A function breaks rule 12, at the name in the heading before its block, if no statement of the block or of a routine
-- in it assigns to the function.
abbrev pub FunctionsTellAssignments : Type 0
FunctionsTellAssignments = (k : Known) (name : ℕ) (body : BodyTree) → IsFunctionBegun k name body
    → Contains (code_body true name body k).broken (late_at 12 name)
    ↔ (body_assigns k (name_in_first k name) name body ≡ false)
