-- What the steps of `Rattle.denoter_checker.specs.Variants` keep.
use Rattle.std.proofs.Common.{if◌then◌else◌, ◌+◌, ◌-◌, ◌<◌, ℕ, ℤ, Bool, None, Option, Some, false, refl}
use Rattle.pas_tree.specs.{ConstantTrees.ConstantsTree, DenoterPlaces.first_of_constant, Denoters.tag_rest_node, TreeNodes.constants_node}
use Rattle.pas_tree.specs.Constants.{constant_node, next_constant_node}
use Rattle.pas_tree.specs.declared.{constants.Constant.Constant, constants.NextConstant.NextConstant, denoters.TagField.TagField}
use Rattle.core_program.specs.declared.rows.{ItemRow.ItemRow, NameRow.NameRow, PartRow.PartRow, Row.Row}
use Rattle.kind_checker.specs.Sizes.{capped, host_of}
use Rattle.denoter_checker.specs.Variants.{add_choice, arm_choices, case_constant, choices, chosen_value, constants_uses, hidden_tag, is_choice, listed_choice}
use Rattle.denoter_checker.specs.Variants.{named_tag, next_choice, next_constant, one_more, tag_part, tag_type, value_if, variant_part}
use Rattle.denoter_checker.specs.declared.variants.{Choosing.Choosing, Listed.Listed, PartPlace.PartPlace}
use Rattle.code_checker.proofs.{CheckItems.add_item-holds, KindTypes.named_type-holds, KindTypes.ordinal-holds, TokenPlaces.first_of_constant-in, Within.Within}
use Rattle.code_checker.proofs.KindConstants.{constant-holds, constant_again-holds}
use Rattle.code_checker.proofs.Steps.{Holds, add_chosen-holds, bind-holds, each-holds, give-holds, late-holds, look-holds, put-holds}

pub tag_type-holds : {size : ℕ} (frame : ℕ) (name : ℕ) → name < size → Holds size false (tag_type frame name)
unfolding tag_type
tag_type-holds frame name name-in = bind-holds (named_type-holds frame name name-in) (λ t. ordinal-holds name name t name-in)

pub hidden_tag-holds : {size : ℕ} (p : PartPlace) (name : ℕ) → name < size → Holds size false (hidden_tag p name)
unfolding hidden_tag
hidden_tag-holds p name name-in = bind-holds (tag_type-holds p.frame name name-in) (λ t. look-holds (λ k. host_of k t))

pub named_tag-holds : {size : ℕ} (p : PartPlace) (field : ℕ) (name : ℕ) → name < size → Holds size false (named_tag p field name)
unfolding named_tag
named_tag-holds p field name name-in = bind-holds (tag_type-holds p.frame name name-in) (λ t.
    bind-holds (put-holds field (Row.Name (NameRow.Tag t p.offset p.holder p.word))) (λ _. look-holds (λ k. host_of k t)))

pub tag_part-holds : {size : ℕ} (p : PartPlace) (tag_field : Option TagField) (name' : ℕ) (name : ℕ) → Within size (tag_rest_node tag_field name')
    → name < size → Holds size false (tag_part p tag_field name)
tag_part-holds p None name' name tag_field-in name-in = hidden_tag-holds p name name-in
tag_part-holds p (Some f) name' name tag_field-in name-in = named_tag-holds p f.name name name-in

pub next_constant-holds : {size : ℕ} (frame : ℕ) (u : Unit {0}) (n : NextConstant) → Within size (next_constant_node n)
    → Holds size false (next_constant frame u n)
unfolding next_constant
next_constant-holds frame u n n-in = bind-holds (constant-holds frame n.constant n-in.1) (λ _. give-holds tt)

pub constants_uses-holds : {size : ℕ} (frame : ℕ) (c : ConstantsTree) → Within size (constants_node c) → Holds size false (constants_uses frame c)
unfolding constants_uses
constants_uses-holds frame c c-in = bind-holds (constant-holds frame c.first c-in.0) (λ _. each-holds (next_constant frame) next_constant_node (λ a x h.
    next_constant-holds frame a x h) tt c.others c-in.1)

pub add_choice-holds : {size : ℕ} {later : Bool} (value : ℤ) (chosen : ℕ) (last : ℕ) (slot : ℕ) → Holds size later (add_choice value chosen last slot)
unfolding add_choice
add_choice-holds value chosen last slot = add_item-holds last slot (ItemRow.Choice value chosen 0)

pub chosen_value-holds : {size : ℕ} {later : Bool} (list : ℕ) (value : ℤ) (chosen : ℕ) (last : ℕ) (slot : ℕ)
    → Holds size later (chosen_value list value chosen last slot)
unfolding chosen_value
chosen_value-holds list value chosen last slot = bind-holds (add_chosen-holds list value) (λ _. add_choice-holds value chosen last slot)

pub listed_choice-holds : {size : ℕ} {later : Bool} (list : ℕ) (x : Option ℤ) (chosen : ℕ) (last : ℕ) (slot : ℕ)
    → Holds size later (listed_choice list x chosen last slot)
listed_choice-holds list None chosen last slot = give-holds last
listed_choice-holds list (Some value) chosen last slot = chosen_value-holds list value chosen last slot

pub case_constant-holds : {size : ℕ} {later : Bool} (c : Choosing) (chosen : ℕ) (last : ℕ) (slot : ℕ) (x : Constant) → Within size (constant_node x)
    → Holds size later (case_constant c chosen last slot x)
unfolding case_constant
case_constant-holds c chosen last slot x x-in = bind-holds (constant_again-holds c.frame x x-in) (λ v. bind-holds (look-holds (λ k. is_choice k c v))
    (λ fine. bind-holds (late-holds 22 (first_of_constant x) fine refl (first_of_constant-in x x-in)) (λ _.
    listed_choice-holds c.list (value_if fine v) chosen last slot)))

pub next_choice-holds : {size : ℕ} {later : Bool} (c : Choosing) (chosen : ℕ) (last : ℕ) (n : NextConstant) → Within size (next_constant_node n)
    → Holds size later (next_choice c chosen last n)
unfolding next_choice
next_choice-holds c chosen last n n-in = case_constant-holds c chosen last n.comma n.constant n-in.1

pub choices-holds : {size : ℕ} {later : Bool} (c : Choosing) (chosen : ℕ) (last : ℕ) (slot : ℕ) (xs : ConstantsTree) → Within size (constants_node xs)
    → Holds size later (choices c chosen last slot xs)
unfolding choices
choices-holds c chosen last slot xs xs-in = bind-holds (case_constant-holds c chosen last slot xs.first xs-in.0) (λ next.
    each-holds (next_choice c chosen) next_constant_node (λ a x h. next_choice-holds c chosen a x h) next xs.others xs-in.1)

pub arm_choices-holds : {size : ℕ} (c : Choosing) (l : Listed) (slot : ℕ) (open' : ℕ) (constants : ConstantsTree) → Within size (constants_node constants)
    → Holds size false (arm_choices c l slot open' constants)
unfolding arm_choices
arm_choices-holds c l slot open' constants constants-in = bind-holds (put-holds open' (Row.Part (PartRow.Variant l.variants (one_more l.position)))) (λ _.
    bind-holds (constants_uses-holds c.frame constants constants-in) (λ _. bind-holds (choices-holds c open' l.last slot constants constants-in) (λ last.
    give-holds (record { variants = l.variants; last = last; position = one_more l.position }))))

pub variant_part-holds : {size : ℕ} {later : Bool} (p : PartPlace) (hidden : Bool) (of' : ℕ) (end : ℕ) → Holds size later (variant_part p hidden of' end)
unfolding variant_part
variant_part-holds p hidden of' end = bind-holds (put-holds p.word (Row.Part (PartRow.Variants hidden p.offset (end - capped (p.offset + 1)) of' p.holder)))
    (λ _. give-holds end)
