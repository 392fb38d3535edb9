-- What the steps of `Rattle.denoter_checker.specs.Variants` leave as it was.
use Rattle.std.proofs.Common.{◌+◌, ◌-◌, ℕ, ℤ, Bool, None, Option, Some, refl}
use Rattle.pas_tree.specs.{BlockTrees.RoutineTree, ConstantTrees.ConstantsTree, DenoterPlaces.first_of_constant}
use Rattle.pas_tree.specs.declared.{constants.Constant.Constant, constants.NextConstant.NextConstant, denoters.TagField.TagField}
use Rattle.core_program.specs.declared.rows.{ItemRow.ItemRow, NameRow.NameRow, PartRow.PartRow, Row.Row}
use Rattle.check_steps.specs.Known.{Known}
use Rattle.kind_checker.specs.Sizes.{capped, host_of}
use Rattle.denoter_checker.specs.Variants.{add_choice, arm_choices, case_constant, choices, chosen_value, constants_uses, hidden_tag, is_choice, listed_choice}
use Rattle.denoter_checker.specs.Variants.{named_tag, next_choice, next_constant, one_more, tag_part, tag_type, value_if, variant_part}
use Rattle.denoter_checker.specs.declared.variants.{Choosing.Choosing, Listed.Listed, PartPlace.PartPlace}
use Rattle.rule_laws.proofs.{Lasting.Lasting, Lasting.add_chosen-lasts, Lasting.each-lasts, Lasting.put-lasts, LastsConstants.constant-lasts}
use Rattle.rule_laws.proofs.{LastsConstants.constant_again-lasts, LastsItems.add_item-lasts, LastsTypes.named_type-lasts, LastsTypes.ordinal-lasts}
use Rattle.rule_laws.proofs.Keeping.{Keeps, ask-keeps, bind-keeps, give-keeps, look-keeps}

pub tag_type-lasts : {G : RoutineTree → Type 0} {I : Known → Type 0} (kept : Lasting G I) (frame name : ℕ) → Keeps I (tag_type frame name)
unfolding tag_type
tag_type-lasts kept frame name = bind-keeps (named_type-lasts kept frame name) (λ t. ordinal-lasts kept name name t)

pub hidden_tag-lasts : {G : RoutineTree → Type 0} {I : Known → Type 0} (kept : Lasting G I) (p : PartPlace) (name : ℕ) → Keeps I (hidden_tag p name)
unfolding hidden_tag
hidden_tag-lasts kept p name = bind-keeps (tag_type-lasts kept p.frame name) (λ t. look-keeps (λ k. host_of k t))

pub named_tag-lasts : {G : RoutineTree → Type 0} {I : Known → Type 0} (kept : Lasting G I) (p : PartPlace) (field name : ℕ) → Keeps I (named_tag p field name)
unfolding named_tag
named_tag-lasts kept p field name = bind-keeps (tag_type-lasts kept p.frame name)
    (λ t. bind-keeps (put-lasts kept field (Row.Name (NameRow.Tag t p.offset p.holder p.word)) refl) (λ _. look-keeps (λ k. host_of k t)))

pub tag_part-lasts : {G : RoutineTree → Type 0} {I : Known → Type 0} (kept : Lasting G I) (p : PartPlace) (tag_field : Option TagField) (name : ℕ)
    → Keeps I (tag_part p tag_field name)
tag_part-lasts kept p None name = hidden_tag-lasts kept p name
tag_part-lasts kept p (Some f) name = named_tag-lasts kept p f.name name

pub next_constant-lasts : {G : RoutineTree → Type 0} {I : Known → Type 0} (kept : Lasting G I) (frame : ℕ) (u : Unit {0}) (n : NextConstant)
    → Keeps I (next_constant frame u n)
unfolding next_constant
next_constant-lasts kept frame u n = bind-keeps (constant-lasts kept frame n.constant) (λ _. give-keeps tt)

pub constants_uses-lasts : {G : RoutineTree → Type 0} {I : Known → Type 0} (kept : Lasting G I) (frame : ℕ) (c : ConstantsTree)
    → Keeps I (constants_uses frame c)
unfolding constants_uses
constants_uses-lasts kept frame c = bind-keeps (constant-lasts kept frame c.first)
    (λ _. each-lasts (next_constant frame) (λ a x. next_constant-lasts kept frame a x) tt c.others)

pub add_choice-lasts : {G : RoutineTree → Type 0} {I : Known → Type 0} (kept : Lasting G I) (value : ℤ) (chosen last slot : ℕ)
    → Keeps I (add_choice value chosen last slot)
unfolding add_choice
add_choice-lasts kept value chosen last slot = add_item-lasts kept last slot (ItemRow.Choice value chosen 0)

pub chosen_value-lasts : {G : RoutineTree → Type 0} {I : Known → Type 0} (kept : Lasting G I) (list : ℕ) (value : ℤ) (chosen last slot : ℕ)
    → Keeps I (chosen_value list value chosen last slot)
unfolding chosen_value
chosen_value-lasts kept list value chosen last slot = bind-keeps (add_chosen-lasts kept list value) (λ _. add_choice-lasts kept value chosen last slot)

pub listed_choice-lasts : {G : RoutineTree → Type 0} {I : Known → Type 0} (kept : Lasting G I) (list : ℕ) (x : Option ℤ) (chosen last slot : ℕ)
    → Keeps I (listed_choice list x chosen last slot)
listed_choice-lasts kept list None chosen last slot = give-keeps last
listed_choice-lasts kept list (Some value) chosen last slot = chosen_value-lasts kept list value chosen last slot

pub case_constant-lasts : {G : RoutineTree → Type 0} {I : Known → Type 0} (kept : Lasting G I) (c : Choosing) (chosen last slot : ℕ) (x : Constant)
    → Keeps I (case_constant c chosen last slot x)
unfolding case_constant
case_constant-lasts kept c chosen last slot x = bind-keeps (constant_again-lasts kept c.frame x)
    (λ v. bind-keeps (look-keeps (λ k. is_choice k c v)) (λ fine. bind-keeps (ask-keeps _ (first_of_constant x) fine)
    (λ _. listed_choice-lasts kept c.list (value_if fine v) chosen last slot)))

pub next_choice-lasts : {G : RoutineTree → Type 0} {I : Known → Type 0} (kept : Lasting G I) (c : Choosing) (chosen last : ℕ) (n : NextConstant)
    → Keeps I (next_choice c chosen last n)
unfolding next_choice
next_choice-lasts kept c chosen last n = case_constant-lasts kept c chosen last n.comma n.constant

pub choices-lasts : {G : RoutineTree → Type 0} {I : Known → Type 0} (kept : Lasting G I) (c : Choosing) (chosen last slot : ℕ) (xs : ConstantsTree)
    → Keeps I (choices c chosen last slot xs)
unfolding choices
choices-lasts kept c chosen last slot xs = bind-keeps (case_constant-lasts kept c chosen last slot xs.first)
    (λ next. each-lasts (next_choice c chosen) (λ a x. next_choice-lasts kept c chosen a x) next xs.others)

pub arm_choices-lasts : {G : RoutineTree → Type 0} {I : Known → Type 0} (kept : Lasting G I) (c : Choosing) (l : Listed) (slot open' : ℕ)
    (constants : ConstantsTree) → Keeps I (arm_choices c l slot open' constants)
unfolding arm_choices
arm_choices-lasts kept c l slot open' constants = bind-keeps (put-lasts kept open' (Row.Part (PartRow.Variant l.variants (one_more l.position))) refl)
    (λ _. bind-keeps (constants_uses-lasts kept c.frame constants)
    (λ _. bind-keeps (choices-lasts kept c open' l.last slot constants)
    (λ last. give-keeps (record { variants = l.variants; last = last; position = one_more l.position }))))

pub variant_part-lasts : {G : RoutineTree → Type 0} {I : Known → Type 0} (kept : Lasting G I) (p : PartPlace) (hidden : Bool) (of' end : ℕ)
    → Keeps I (variant_part p hidden of' end)
unfolding variant_part
variant_part-lasts kept p hidden of' end = bind-keeps (put-lasts kept p.word
    (Row.Part (PartRow.Variants hidden p.offset (end - capped (p.offset + 1)) of' p.holder)) refl) (λ _. give-keeps end)
