-- What the steps of `Rattle.denoter_checker.specs.Variants` leave at other tokens.
use Rattle.std.proofs.Common.{◌+◌, ◌-◌, ℕ, ℤ, Bool, None, Option, Some}
use Rattle.pas_tree.specs.{ConstantTrees.ConstantsTree, DenoterPlaces.first_of_constant, Denoters.tag_rest_node, TreeNodes.constants_node}
use Rattle.pas_tree.specs.Constants.{constant_node, next_constant_node}
use Rattle.pas_tree.specs.declared.{constants.Constant.Constant, constants.NextConstant.NextConstant, denoters.TagField.TagField}
use Rattle.core_program.specs.declared.rows.{ItemRow.ItemRow, NameRow.NameRow, PartRow.PartRow, Row.Row}
use Rattle.kind_checker.specs.Sizes.{capped, host_of}
use Rattle.denoter_checker.specs.Variants.{add_choice, arm_choices, case_constant, choices, chosen_value, constants_uses, hidden_tag, is_choice, listed_choice}
use Rattle.denoter_checker.specs.Variants.{named_tag, next_choice, next_constant, one_more, tag_part, tag_type, value_if, variant_part}
use Rattle.denoter_checker.specs.declared.variants.{Choosing.Choosing, Listed.Listed, PartPlace.PartPlace}
use Rattle.rule_laws.proofs.{Every.Every, Every.Of, LeavesConstants.constant-leaves, LeavesConstants.constant_again-leaves, LeavesItems.add_item-leaves}
use Rattle.rule_laws.proofs.{LeavesTypes.named_type-leaves, LeavesTypes.ordinal-leaves, TokenPlaces.first_of_constant-in}
use Rattle.rule_laws.proofs.Leaves.{Leaves, add_chosen-leaves, bind-leaves, each-leaves, give-leaves, late-leaves, look-leaves, put-leaves}

pub tag_type-leaves : {Q : ℕ → Type 0} (frame : ℕ) (name : ℕ) → Of Q name → Leaves Q (tag_type frame name)
unfolding tag_type
tag_type-leaves frame name name-in = bind-leaves (named_type-leaves frame name name-in) (λ t. ordinal-leaves name name t name-in)

pub hidden_tag-leaves : {Q : ℕ → Type 0} (p : PartPlace) (name : ℕ) → Of Q name → Leaves Q (hidden_tag p name)
unfolding hidden_tag
hidden_tag-leaves p name name-in = bind-leaves (tag_type-leaves p.frame name name-in) (λ t. look-leaves (λ k. host_of k t))

pub named_tag-leaves : {Q : ℕ → Type 0} (p : PartPlace) (field : ℕ) (name : ℕ) → Of Q field → Of Q name
    → Leaves Q (named_tag p field name)
unfolding named_tag
named_tag-leaves p field name field-in name-in = bind-leaves (tag_type-leaves p.frame name name-in) (λ t.
    bind-leaves (put-leaves field (Row.Name (NameRow.Tag t p.offset p.holder p.word)) field-in) (λ _. look-leaves (λ k. host_of k t)))

pub tag_part-leaves : {Q : ℕ → Type 0} (p : PartPlace) (tag_field : Option TagField) (name' : ℕ) (name : ℕ)
    → Every Q (tag_rest_node tag_field name')
    → Of Q name → Leaves Q (tag_part p tag_field name)
tag_part-leaves p None name' name tag_field-in name-in = hidden_tag-leaves p name name-in
tag_part-leaves p (Some f) name' name tag_field-in name-in = named_tag-leaves p f.name name tag_field-in.0 name-in

pub next_constant-leaves : {Q : ℕ → Type 0} (frame : ℕ) (u : Unit {0}) (n : NextConstant) → Every Q (next_constant_node n)
    → Leaves Q (next_constant frame u n)
unfolding next_constant
next_constant-leaves frame u n n-in = bind-leaves (constant-leaves frame n.constant n-in.1) (λ _. give-leaves tt)

pub constants_uses-leaves : {Q : ℕ → Type 0} (frame : ℕ) (c : ConstantsTree) → Every Q (constants_node c)
    → Leaves Q (constants_uses frame c)
unfolding constants_uses
constants_uses-leaves frame c c-in = bind-leaves (constant-leaves frame c.first c-in.0) (λ _. each-leaves (next_constant frame) next_constant_node (λ a x h.
    next_constant-leaves frame a x h) tt c.others c-in.1)

pub add_choice-leaves : {Q : ℕ → Type 0} (value : ℤ) (chosen : ℕ) (last : ℕ) (slot : ℕ) → Of Q slot
    → Leaves Q (add_choice value chosen last slot)
unfolding add_choice
add_choice-leaves value chosen last slot slot-in = add_item-leaves last slot (ItemRow.Choice value chosen 0) slot-in

pub chosen_value-leaves : {Q : ℕ → Type 0} (list : ℕ) (value : ℤ) (chosen : ℕ) (last : ℕ) (slot : ℕ) → Of Q list → Of Q slot
    → Leaves Q (chosen_value list value chosen last slot)
unfolding chosen_value
chosen_value-leaves list value chosen last slot list-in slot-in =
    bind-leaves (add_chosen-leaves list value list-in) (λ _. add_choice-leaves value chosen last slot slot-in)

pub listed_choice-leaves : {Q : ℕ → Type 0} (list : ℕ) (x : Option ℤ) (chosen : ℕ) (last : ℕ) (slot : ℕ) → Of Q list → Of Q slot
    → Leaves Q (listed_choice list x chosen last slot)
listed_choice-leaves list None chosen last slot list-in slot-in = give-leaves last
listed_choice-leaves list (Some value) chosen last slot list-in slot-in = chosen_value-leaves list value chosen last slot list-in slot-in

pub case_constant-leaves : {Q : ℕ → Type 0} (c : Choosing) (chosen : ℕ) (last : ℕ) (slot : ℕ) (x : Constant) → Of Q c.list → Of Q slot
    → Every Q (constant_node x)
    → Leaves Q (case_constant c chosen last slot x)
unfolding case_constant
case_constant-leaves c chosen last slot x list-in slot-in x-in =
    bind-leaves (constant_again-leaves c.frame x x-in) (λ v. bind-leaves (look-leaves (λ k. is_choice k c v))
    (λ fine. bind-leaves (late-leaves 22 (first_of_constant x) fine (first_of_constant-in x x-in)) (λ _.
    listed_choice-leaves c.list (value_if fine v) chosen last slot list-in slot-in)))

pub next_choice-leaves : {Q : ℕ → Type 0} (c : Choosing) (chosen : ℕ) (last : ℕ) (n : NextConstant) → Of Q c.list
    → Every Q (next_constant_node n)
    → Leaves Q (next_choice c chosen last n)
unfolding next_choice
next_choice-leaves c chosen last n list-in n-in = case_constant-leaves c chosen last n.comma n.constant list-in n-in.0 n-in.1

pub choices-leaves : {Q : ℕ → Type 0} (c : Choosing) (chosen : ℕ) (last : ℕ) (slot : ℕ) (xs : ConstantsTree) → Of Q c.list → Of Q slot
    → Every Q (constants_node xs)
    → Leaves Q (choices c chosen last slot xs)
unfolding choices
choices-leaves c chosen last slot xs list-in slot-in xs-in = bind-leaves (case_constant-leaves c chosen last slot xs.first list-in slot-in xs-in.0) (λ next.
    each-leaves (next_choice c chosen) next_constant_node (λ a x h. next_choice-leaves c chosen a x list-in h) next xs.others xs-in.1)

pub arm_choices-leaves : {Q : ℕ → Type 0} (c : Choosing) (l : Listed) (slot : ℕ) (open' : ℕ) (constants : ConstantsTree) → Of Q c.list
    → Of Q slot
    → Of Q open' → Every Q (constants_node constants)
    → Leaves Q (arm_choices c l slot open' constants)
unfolding arm_choices
arm_choices-leaves c l slot open' constants list-in slot-in open-in constants-in =
    bind-leaves (put-leaves open' (Row.Part (PartRow.Variant l.variants (one_more l.position))) open-in) (λ _.
    bind-leaves (constants_uses-leaves c.frame constants constants-in)
    (λ _. bind-leaves (choices-leaves c open' l.last slot constants list-in slot-in constants-in) (λ last.
    give-leaves (record { variants = l.variants; last = last; position = one_more l.position }))))

pub variant_part-leaves : {Q : ℕ → Type 0} (p : PartPlace) (hidden : Bool) (of' : ℕ) (end : ℕ) → Of Q p.word
    → Leaves Q (variant_part p hidden of' end)
unfolding variant_part
variant_part-leaves p hidden of' end word-in =
    bind-leaves (put-leaves p.word (Row.Part (PartRow.Variants hidden p.offset (end - capped (p.offset + 1)) of' p.holder)) word-in)
    (λ _. give-leaves end)
