-- Label declarations (6.2.1).
use Rattle.std.specs.Prelude.{ℕ, None, Option, Some, false, nat_le}
use Rattle.pas_tree.specs.{BlockTrees.LabelPartTree, declared.blocks.NextLabel.NextLabel}
use Rattle.core_program.specs.declared.rows.{NameRow.NameRow, Row.Row}
use Rattle.check_steps.specs.{Known.label_at, Names.declare_in, declared.regions.Frame.Frame}
use Rattle.check_steps.specs.Steps.{◌>>=◌, Step, each, early, give, look, put}

-- Rule 14: a declared label above 9999.
unfoldable pub define_label : Frame → ℕ → Step (Unit {0})
define_label here token = do
  value ← look (λ k. label_at k token)
  _ ← early 14 token (nat_le value 9999)
  _ ← declare_in here.region value token
  put token (Row.Name (NameRow.Label false value here.level 0))

unfoldable pub define_next_label : Frame → Unit {0} → NextLabel → Step (Unit {0})
define_next_label here u n = define_label here n.number

-- the labels of a block, in the region of its frame
abbrev pub define_labels : Frame → Option LabelPartTree → Step (Unit {0})
define_labels here None = give tt
define_labels here (Some p) = do
  _ ← define_label here p.first
  each (define_next_label here) tt p.others
