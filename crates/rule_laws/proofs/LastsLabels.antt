-- What the steps of `Rattle.decl_checker.specs.Labels` leave as it was.
use Rattle.std.proofs.Common.{ℕ, None, Option, Some, false, nat_le}
use Rattle.pas_tree.specs.{BlockTrees.LabelPartTree, BlockTrees.RoutineTree, declared.blocks.NextLabel.NextLabel}
use Rattle.core_program.specs.declared.rows.{NameRow.NameRow, Row.Row}
use Rattle.check_steps.specs.{Known.Known, Known.label_at, declared.regions.Frame.Frame}
use Rattle.decl_checker.specs.Labels.{define_label, define_labels, define_next_label}
use Rattle.rule_laws.proofs.Keeping.{Keeps, ask-keeps, bind-keeps, give-keeps, look-keeps, put-keeps}
use Rattle.rule_laws.proofs.Lasting.{Declaring, declare_in-keeps, each-lasts}

pub define_label-lasts : {G : RoutineTree → Type 0} {I : Known → Type 0} (kept : Declaring G I) (here : Frame) (token : ℕ) → Keeps I (define_label here token)
unfolding define_label
define_label-lasts kept here token = bind-keeps (look-keeps (λ k. label_at k token))
    (λ value. bind-keeps (ask-keeps _ token (nat_le value 9999)) (λ _. bind-keeps
    (declare_in-keeps here.region value token (λ k i. kept.declares k here.region value token i))
    (λ _. put-keeps token (Row.Name (NameRow.Label false value here.level 0)) (λ k i. kept.labels k token value here.level i))))

pub define_next_label-lasts : {G : RoutineTree → Type 0} {I : Known → Type 0} (kept : Declaring G I) (here : Frame) (u : Unit {0}) (n : NextLabel)
    → Keeps I (define_next_label here u n)
unfolding define_next_label
define_next_label-lasts kept here u n = define_label-lasts kept here n.number

pub define_labels-lasts : {G : RoutineTree → Type 0} {I : Known → Type 0} (kept : Declaring G I) (here : Frame) (label_part : Option LabelPartTree)
    → Keeps I (define_labels here label_part)
define_labels-lasts kept here None = give-keeps tt
define_labels-lasts kept here (Some p) = bind-keeps (define_label-lasts kept here p.first)
    (λ _. each-lasts (define_next_label here) (λ a x. define_next_label-lasts kept here a x) tt p.others)
