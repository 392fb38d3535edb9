-- What the steps of `Rattle.denoter_checker.specs.Variants` break.
use Rattle.std.proofs.Common.{◌+◌, ◌-◌, ℕ, ℤ, Bool, None, Option, Some, refl}
use Rattle.pas_tree.specs.{ConstantTrees.ConstantsTree, DenoterPlaces.first_of_constant}
use Rattle.pas_tree.specs.declared.{constants.Constant.Constant, constants.NextConstant.NextConstant, denoters.TagField.TagField}
use Rattle.core_program.specs.declared.rows.{ItemRow.ItemRow, NameRow.NameRow, PartRow.PartRow, Row.Row}
use Rattle.kind_checker.specs.Sizes.{capped, host_of}
use Rattle.denoter_checker.specs.Variants.{add_choice, arm_choices, case_constant, choices, chosen_value, constants_uses, hidden_tag, is_choice, listed_choice}
use Rattle.denoter_checker.specs.Variants.{named_tag, next_choice, next_constant, one_more, tag_part, tag_type, value_if, variant_part}
use Rattle.denoter_checker.specs.declared.variants.{Choosing.Choosing, Listed.Listed, PartPlace.PartPlace}
use Rattle.rule_laws.proofs.{PlainItems.add_item-plain, PlainTypes.named_type-plain, PlainTypes.ordinal-plain}
use Rattle.rule_laws.proofs.Plain.{Aim, Plain, Solely, add_chosen-plain, ask-plain, bind-solely, each-plain, give-solely, look-solely, put-plain}
use Rattle.rule_laws.proofs.PlainConstants.{constant-plain, constant_again-plain}

pub tag_type-plain : {aim : Aim} (kept : Plain aim) (frame name : ℕ) → Solely aim (tag_type frame name)
unfolding tag_type
tag_type-plain kept frame name = bind-solely (named_type-plain kept frame name) (λ t. ordinal-plain kept name name t)

pub hidden_tag-plain : {aim : Aim} (kept : Plain aim) (p : PartPlace) (name : ℕ) → Solely aim (hidden_tag p name)
unfolding hidden_tag
hidden_tag-plain kept p name = bind-solely (tag_type-plain kept p.frame name) (λ t. look-solely (λ k. host_of k t))

pub named_tag-plain : {aim : Aim} (kept : Plain aim) (p : PartPlace) (field name : ℕ) → Solely aim (named_tag p field name)
unfolding named_tag
named_tag-plain kept p field name = bind-solely (tag_type-plain kept p.frame name)
    (λ t. bind-solely (put-plain kept field (Row.Name (NameRow.Tag t p.offset p.holder p.word))) (λ _. look-solely (λ k. host_of k t)))

pub tag_part-plain : {aim : Aim} (kept : Plain aim) (p : PartPlace) (tag_field : Option TagField) (name : ℕ)
    → Solely aim (tag_part p tag_field name)
tag_part-plain kept p None name = hidden_tag-plain kept p name
tag_part-plain kept p (Some f) name = named_tag-plain kept p f.name name

pub next_constant-plain : {aim : Aim} (kept : Plain aim) (frame : ℕ) (u : Unit {0}) (n : NextConstant)
    → Solely aim (next_constant frame u n)
unfolding next_constant
next_constant-plain kept frame u n = bind-solely (constant-plain kept frame n.constant) (λ _. give-solely tt)

pub constants_uses-plain : {aim : Aim} (kept : Plain aim) (frame : ℕ) (c : ConstantsTree)
    → Solely aim (constants_uses frame c)
unfolding constants_uses
constants_uses-plain kept frame c = bind-solely (constant-plain kept frame c.first)
    (λ _. each-plain (next_constant frame) (λ a x. next_constant-plain kept frame a x) tt c.others)

pub add_choice-plain : {aim : Aim} (kept : Plain aim) (value : ℤ) (chosen last slot : ℕ)
    → Solely aim (add_choice value chosen last slot)
unfolding add_choice
add_choice-plain kept value chosen last slot = add_item-plain kept last slot (ItemRow.Choice value chosen 0)

pub chosen_value-plain : {aim : Aim} (kept : Plain aim) (list : ℕ) (value : ℤ) (chosen last slot : ℕ)
    → Solely aim (chosen_value list value chosen last slot)
unfolding chosen_value
chosen_value-plain kept list value chosen last slot = bind-solely (add_chosen-plain kept list value) (λ _. add_choice-plain kept value chosen last slot)

pub listed_choice-plain : {aim : Aim} (kept : Plain aim) (list : ℕ) (x : Option ℤ) (chosen last slot : ℕ)
    → Solely aim (listed_choice list x chosen last slot)
listed_choice-plain kept list None chosen last slot = give-solely last
listed_choice-plain kept list (Some value) chosen last slot = chosen_value-plain kept list value chosen last slot

pub case_constant-plain : {aim : Aim} (kept : Plain aim) (c : Choosing) (chosen last slot : ℕ) (x : Constant)
    → Solely aim (case_constant c chosen last slot x)
unfolding case_constant
case_constant-plain kept c chosen last slot x = bind-solely (constant_again-plain kept c.frame x)
    (λ v. bind-solely (look-solely (λ k. is_choice k c v)) (λ fine. bind-solely (ask-plain kept _ (first_of_constant x) fine refl)
    (λ _. listed_choice-plain kept c.list (value_if fine v) chosen last slot)))

pub next_choice-plain : {aim : Aim} (kept : Plain aim) (c : Choosing) (chosen last : ℕ) (n : NextConstant)
    → Solely aim (next_choice c chosen last n)
unfolding next_choice
next_choice-plain kept c chosen last n = case_constant-plain kept c chosen last n.comma n.constant

pub choices-plain : {aim : Aim} (kept : Plain aim) (c : Choosing) (chosen last slot : ℕ) (xs : ConstantsTree)
    → Solely aim (choices c chosen last slot xs)
unfolding choices
choices-plain kept c chosen last slot xs = bind-solely (case_constant-plain kept c chosen last slot xs.first)
    (λ next. each-plain (next_choice c chosen) (λ a x. next_choice-plain kept c chosen a x) next xs.others)

pub arm_choices-plain : {aim : Aim} (kept : Plain aim) (c : Choosing) (l : Listed) (slot open' : ℕ)
    (constants : ConstantsTree) → Solely aim (arm_choices c l slot open' constants)
unfolding arm_choices
arm_choices-plain kept c l slot open' constants = bind-solely (put-plain kept open' (Row.Part (PartRow.Variant l.variants (one_more l.position))))
    (λ _. bind-solely (constants_uses-plain kept c.frame constants)
    (λ _. bind-solely (choices-plain kept c open' l.last slot constants)
    (λ last. give-solely (record { variants = l.variants; last = last; position = one_more l.position }))))

pub variant_part-plain : {aim : Aim} (kept : Plain aim) (p : PartPlace) (hidden : Bool) (of' end : ℕ)
    → Solely aim (variant_part p hidden of' end)
unfolding variant_part
variant_part-plain kept p hidden of' end = bind-solely (put-plain kept p.word
    (Row.Part (PartRow.Variants hidden p.offset (end - capped (p.offset + 1)) of' p.holder))) (λ _. give-solely end)
