-- What the steps of `Rattle.denoter_checker.specs.Variants` touch.
use Rattle.std.proofs.Common.{◌+◌, ◌-◌, ℕ, ℤ, Bool, None, Option, Some, refl}
use Rattle.pas_tree.specs.{ConstantTrees.ConstantsTree, DenoterPlaces.first_of_constant, Denoters.tag_rest_node, TreeNodes.constants_node}
use Rattle.pas_tree.specs.Constants.{constant_node, next_constant_node}
use Rattle.pas_tree.specs.declared.{constants.Constant.Constant, constants.NextConstant.NextConstant, denoters.TagField.TagField}
use Rattle.core_program.specs.declared.rows.{ItemRow.ItemRow, NameRow.NameRow, PartRow.PartRow, Row.Row}
use Rattle.kind_checker.specs.Sizes.{capped, host_of}
use Rattle.denoter_checker.specs.Variants.{add_choice, arm_choices, case_constant, choices, chosen_value, constants_uses, hidden_tag, is_choice, listed_choice}
use Rattle.denoter_checker.specs.Variants.{named_tag, next_choice, next_constant, one_more, tag_part, tag_type, value_if, variant_part}
use Rattle.denoter_checker.specs.declared.variants.{Choosing.Choosing, Listed.Listed, PartPlace.PartPlace}
use Rattle.rule_laws.proofs.{CheckItems.add_item-touches, Every.Every, Every.Of, Faces.Shown, KindConstants.constant-touches}
use Rattle.rule_laws.proofs.{KindConstants.constant_again-touches, KindTypes.named_type-touches, KindTypes.ordinal-touches, TokenPlaces.first_of_constant-in}
use Rattle.rule_laws.proofs.Touches.{Touches, add_chosen-touches, bind-touches, each-touches, give-touches, late-touches, look-touches, put-touches}

pub tag_type-touches : {Q : ℕ → Type 0} {strict : Shown} (frame : ℕ) (name : ℕ) → Of Q name → Touches Q strict (tag_type frame name)
unfolding tag_type
tag_type-touches frame name name-in = bind-touches (named_type-touches frame name name-in) (λ t. ordinal-touches name name t name-in)

pub hidden_tag-touches : {Q : ℕ → Type 0} {strict : Shown} (p : PartPlace) (name : ℕ) → Of Q name → Touches Q strict (hidden_tag p name)
unfolding hidden_tag
hidden_tag-touches p name name-in = bind-touches (tag_type-touches p.frame name name-in) (λ t. look-touches (λ k. host_of k t))

pub named_tag-touches : {Q : ℕ → Type 0} {strict : Shown} (p : PartPlace) (field : ℕ) (name : ℕ) → Of Q field → Of Q name
    → Touches Q strict (named_tag p field name)
unfolding named_tag
named_tag-touches p field name field-in name-in = bind-touches (tag_type-touches p.frame name name-in) (λ t.
    bind-touches (put-touches field (Row.Name (NameRow.Tag t p.offset p.holder p.word)) field-in refl) (λ _. look-touches (λ k. host_of k t)))

pub tag_part-touches : {Q : ℕ → Type 0} {strict : Shown} (p : PartPlace) (tag_field : Option TagField) (name' : ℕ) (name : ℕ)
    → Every Q (tag_rest_node tag_field name')
    → Of Q name → Touches Q strict (tag_part p tag_field name)
tag_part-touches p None name' name tag_field-in name-in = hidden_tag-touches p name name-in
tag_part-touches p (Some f) name' name tag_field-in name-in = named_tag-touches p f.name name tag_field-in.0 name-in

pub next_constant-touches : {Q : ℕ → Type 0} {strict : Shown} (frame : ℕ) (u : Unit {0}) (n : NextConstant) → Every Q (next_constant_node n)
    → Touches Q strict (next_constant frame u n)
unfolding next_constant
next_constant-touches frame u n n-in = bind-touches (constant-touches frame n.constant n-in.1) (λ _. give-touches tt)

pub constants_uses-touches : {Q : ℕ → Type 0} {strict : Shown} (frame : ℕ) (c : ConstantsTree) → Every Q (constants_node c)
    → Touches Q strict (constants_uses frame c)
unfolding constants_uses
constants_uses-touches frame c c-in = bind-touches (constant-touches frame c.first c-in.0) (λ _. each-touches (next_constant frame) next_constant_node (λ a x h.
    next_constant-touches frame a x h) tt c.others c-in.1)

pub add_choice-touches : {Q : ℕ → Type 0} {strict : Shown} (value : ℤ) (chosen : ℕ) (last : ℕ) (slot : ℕ) → Of Q slot
    → Touches Q strict (add_choice value chosen last slot)
unfolding add_choice
add_choice-touches value chosen last slot slot-in = add_item-touches last slot (ItemRow.Choice value chosen 0) slot-in

pub chosen_value-touches : {Q : ℕ → Type 0} {strict : Shown} (list : ℕ) (value : ℤ) (chosen : ℕ) (last : ℕ) (slot : ℕ) → Of Q list → Of Q slot
    → Touches Q strict (chosen_value list value chosen last slot)
unfolding chosen_value
chosen_value-touches list value chosen last slot list-in slot-in =
    bind-touches (add_chosen-touches list value list-in) (λ _. add_choice-touches value chosen last slot slot-in)

pub listed_choice-touches : {Q : ℕ → Type 0} {strict : Shown} (list : ℕ) (x : Option ℤ) (chosen : ℕ) (last : ℕ) (slot : ℕ) → Of Q list → Of Q slot
    → Touches Q strict (listed_choice list x chosen last slot)
listed_choice-touches list None chosen last slot list-in slot-in = give-touches last
listed_choice-touches list (Some value) chosen last slot list-in slot-in = chosen_value-touches list value chosen last slot list-in slot-in

pub case_constant-touches : {Q : ℕ → Type 0} {strict : Shown} (c : Choosing) (chosen : ℕ) (last : ℕ) (slot : ℕ) (x : Constant) → Of Q c.list → Of Q slot
    → Every Q (constant_node x)
    → Touches Q strict (case_constant c chosen last slot x)
unfolding case_constant
case_constant-touches c chosen last slot x list-in slot-in x-in =
    bind-touches (constant_again-touches c.frame x x-in) (λ v. bind-touches (look-touches (λ k. is_choice k c v))
    (λ fine. bind-touches (late-touches 22 (first_of_constant x) fine refl (first_of_constant-in x x-in)) (λ _.
    listed_choice-touches c.list (value_if fine v) chosen last slot list-in slot-in)))

pub next_choice-touches : {Q : ℕ → Type 0} {strict : Shown} (c : Choosing) (chosen : ℕ) (last : ℕ) (n : NextConstant) → Of Q c.list
    → Every Q (next_constant_node n)
    → Touches Q strict (next_choice c chosen last n)
unfolding next_choice
next_choice-touches c chosen last n list-in n-in = case_constant-touches c chosen last n.comma n.constant list-in n-in.0 n-in.1

pub choices-touches : {Q : ℕ → Type 0} {strict : Shown} (c : Choosing) (chosen : ℕ) (last : ℕ) (slot : ℕ) (xs : ConstantsTree) → Of Q c.list → Of Q slot
    → Every Q (constants_node xs)
    → Touches Q strict (choices c chosen last slot xs)
unfolding choices
choices-touches c chosen last slot xs list-in slot-in xs-in = bind-touches (case_constant-touches c chosen last slot xs.first list-in slot-in xs-in.0) (λ next.
    each-touches (next_choice c chosen) next_constant_node (λ a x h. next_choice-touches c chosen a x list-in h) next xs.others xs-in.1)

pub arm_choices-touches : {Q : ℕ → Type 0} {strict : Shown} (c : Choosing) (l : Listed) (slot : ℕ) (open' : ℕ) (constants : ConstantsTree) → Of Q c.list
    → Of Q slot
    → Of Q open' → Every Q (constants_node constants)
    → Touches Q strict (arm_choices c l slot open' constants)
unfolding arm_choices
arm_choices-touches c l slot open' constants list-in slot-in open-in constants-in =
    bind-touches (put-touches open' (Row.Part (PartRow.Variant l.variants (one_more l.position))) open-in refl) (λ _.
    bind-touches (constants_uses-touches c.frame constants constants-in)
    (λ _. bind-touches (choices-touches c open' l.last slot constants list-in slot-in constants-in) (λ last.
    give-touches (record { variants = l.variants; last = last; position = one_more l.position }))))

pub variant_part-touches : {Q : ℕ → Type 0} {strict : Shown} (p : PartPlace) (hidden : Bool) (of' : ℕ) (end : ℕ) → Of Q p.word
    → Touches Q strict (variant_part p hidden of' end)
unfolding variant_part
variant_part-touches p hidden of' end word-in =
    bind-touches (put-touches p.word (Row.Part (PartRow.Variants hidden p.offset (end - capped (p.offset + 1)) of' p.holder)) word-in refl)
    (λ _. give-touches end)
