-- Which labels break rule 15.
use Rattle.std.specs.Prelude.{◌++◌, ◌-◌, ◌<◌, ◌↔◌, ◌∷◌, ◌≡◌, ◌⊎◌, ℕ, All, Bool, Contains, List, None, Some, false}
use Rattle.std.specs.Prelude.{length, true}
use Rattle.pas_tree.specs.{StatementTrees.CompoundTree, TreeNodes.compound_node}
use Rattle.core_program.specs.declared.rows.{NameRow.NameRow, Row.Row}
use Rattle.check_steps.specs.{Around.Falls, Regions.declared_in}
use Rattle.check_steps.specs.Known.{Known, find_label, frame_at, label_at, row_at, type_at}
use Rattle.decl_checker.specs.Statements.{fields_in}
use Rattle.statement_checker.specs.Statements.{compound}
use Rattle.rule_laws.specs.{CaseLaws.late_at, Tokens.Has}
use Rattle.rule_laws.specs.BlockLabels.{compound_labels, declares, marks}

-- A statement's label breaks rule 15 if the closest block doesn't declare it, or if it stands before an earlier
-- statement of the block, too.
abbrev pub IsWrongLabel : Known → ℕ → List ℕ → ℕ → Type 0
IsWrongLabel k frame before label = (declares k frame label ≡ false) ⊎ (marks k before (label_at k label) ≡ true)

-- one of the labels of a block, those before it and those after it, which are other tokens
pub record IsOneLabel (before : List ℕ) (label : ℕ) (after : List ℕ) : Type 0 where
  pub others_before : All (λ l. l ≡ label → ⊥) before
  pub others_after : All (λ l. l ≡ label → ⊥) after

-- a label of a block at this level that marks no statement so far
pub record IsUnmarkedLabel (k : Known) (value level token : ℕ) : Type 0 where
  pub ways : ℕ
  pub row : row_at k token ≡ Row.Name (NameRow.Label false value level ways)

-- a label of a block further out than this level
pub record IsOuterLabel (k : Known) (level token : ℕ) : Type 0 where
  pub marked : Bool
  pub value : ℕ
  pub its_level : ℕ
  pub ways : ℕ
  pub row : row_at k token ≡ Row.Name (NameRow.Label marked value its_level ways)
  pub further : its_level < level

-- The statements of the block of a frame begin to be looked at. Its own labels mark none so far, those of blocks around
-- are further out, labels are declared at other tokens than those of the statements and the last one, and no record
-- declares a label. Each frame comes after the one around it.
pub record IsBlockBegun (k : Known) (frame : ℕ) (c : CompoundTree) : Type 0 where
  pub falls : Falls k.frames
  pub there : frame < length k.frames
  pub own : (value token : ℕ) → declared_in k.regions (frame_at k frame).region value ≡ Some token
      → IsUnmarkedLabel k value (frame_at k frame).level token
  pub outer : (value token : ℕ) → declared_in k.regions (frame_at k frame).region value ≡ None
      → find_label k frame value ≡ Some token → IsOuterLabel k (frame_at k frame).level token
  pub apart : (value token : ℕ) → find_label k frame value ≡ Some token → Has (compound_node c) token → ⊥
  pub before_end : (value token : ℕ) → find_label k frame value ≡ Some token → token ≡ length k.words - 1 → ⊥
  pub records : (number region value : ℕ) → fields_in (type_at k number) ≡ Some region
      → declared_in k.regions region value ≡ None

-- Of the labels of a block's statements these break rule 15.
abbrev pub BlocksTellLabels : Type 0
BlocksTellLabels = (k : Known) (frame : ℕ) (c : CompoundTree) (before : List ℕ) (label : ℕ) (after : List ℕ)
    → IsBlockBegun k frame c → compound_labels c ≡ before ++ label ∷ after → IsOneLabel before label after
    → Contains (compound frame c k).broken (late_at 15 label) ↔ IsWrongLabel k frame before label
