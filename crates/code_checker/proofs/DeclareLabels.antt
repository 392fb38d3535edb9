-- What the steps of `Rattle.decl_checker.specs.Labels` keep.
use Rattle.std.proofs.Common.{◌<◌, ℕ, None, Option, Some, false, nat_le, refl}
use Rattle.pas_tree.specs.{BlockTrees.LabelPartTree, Blocks.next_label_node, TreeNodes.label_part_node, declared.blocks.NextLabel.NextLabel}
use Rattle.core_program.specs.declared.rows.{NameRow.NameRow, Row.Row}
use Rattle.check_steps.specs.{Known.label_at, declared.regions.Frame.Frame}
use Rattle.decl_checker.specs.Labels.{define_label, define_labels, define_next_label}
use Rattle.code_checker.proofs.{CheckNames.declare_in-holds, Within.Within}
use Rattle.code_checker.proofs.Steps.{Holds, bind-holds, each-holds, early-holds, give-holds, look-holds, put-holds}

pub define_label-holds : {size : ℕ} (here : Frame) (token : ℕ) → token < size → Holds size false (define_label here token)
unfolding define_label
define_label-holds here token token-in = bind-holds (look-holds (λ k. label_at k token)) (λ value.
    bind-holds (early-holds 14 token (nat_le value 9999) refl token-in) (λ _. bind-holds (declare_in-holds here.region value token token-in) (λ _.
    put-holds token (Row.Name (NameRow.Label false value here.level 0)))))

pub define_next_label-holds : {size : ℕ} (here : Frame) (u : Unit {0}) (n : NextLabel) → Within size (next_label_node n)
    → Holds size false (define_next_label here u n)
unfolding define_next_label
define_next_label-holds here u n n-in = define_label-holds here n.number n-in.1

pub define_labels-holds : {size : ℕ} (here : Frame) (label_part : Option LabelPartTree) → Within size (label_part_node label_part)
    → Holds size false (define_labels here label_part)
define_labels-holds here None label_part-in = give-holds tt
define_labels-holds here (Some p) label_part-in = bind-holds (define_label-holds here p.first label_part-in.1.0) (λ _.
    each-holds (define_next_label here) next_label_node (λ a x h. define_next_label-holds here a x h) tt p.others label_part-in.1.1.0)
