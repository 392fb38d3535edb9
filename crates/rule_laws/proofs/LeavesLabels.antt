-- What the steps of `Rattle.decl_checker.specs.Labels` leave at other tokens.
use Rattle.std.proofs.Common.{ℕ, None, Option, Some, false, nat_le}
use Rattle.pas_tree.specs.{BlockTrees.LabelPartTree, Blocks.next_label_node, TreeNodes.label_part_node, declared.blocks.NextLabel.NextLabel}
use Rattle.core_program.specs.declared.rows.{NameRow.NameRow, Row.Row}
use Rattle.check_steps.specs.{Known.label_at, declared.regions.Frame.Frame}
use Rattle.decl_checker.specs.Labels.{define_label, define_labels, define_next_label}
use Rattle.rule_laws.proofs.{Every.Every, Every.Of, LeavesNames.declare_in-leaves}
use Rattle.rule_laws.proofs.Leaves.{Leaves, bind-leaves, each-leaves, early-leaves, give-leaves, look-leaves, put-leaves}

pub define_label-leaves : {Q : ℕ → Type 0} (here : Frame) (token : ℕ) → Of Q token → Leaves Q (define_label here token)
unfolding define_label
define_label-leaves here token token-in = bind-leaves (look-leaves (λ k. label_at k token)) (λ value.
    bind-leaves (early-leaves 14 token (nat_le value 9999) token-in) (λ _. bind-leaves (declare_in-leaves here.region value token token-in) (λ _.
    put-leaves token (Row.Name (NameRow.Label false value here.level 0)) token-in)))

pub define_next_label-leaves : {Q : ℕ → Type 0} (here : Frame) (u : Unit {0}) (n : NextLabel) → Every Q (next_label_node n)
    → Leaves Q (define_next_label here u n)
unfolding define_next_label
define_next_label-leaves here u n n-in = define_label-leaves here n.number n-in.1

pub define_labels-leaves : {Q : ℕ → Type 0} (here : Frame) (label_part : Option LabelPartTree) → Every Q (label_part_node label_part)
    → Leaves Q (define_labels here label_part)
define_labels-leaves here None label_part-in = give-leaves tt
define_labels-leaves here (Some p) label_part-in = bind-leaves (define_label-leaves here p.first label_part-in.1.0) (λ _.
    each-leaves (define_next_label here) next_label_node (λ a x h. define_next_label-leaves here a x h) tt p.others label_part-in.1.1.0)
