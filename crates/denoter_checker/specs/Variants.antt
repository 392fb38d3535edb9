-- The tag of a variant part, and the values that choose its variants (6.4.3.3).
use Rattle.std.specs.Prelude.{if◌then◌else◌, ◌&&◌, ◌+◌, ◌-◌, ◌||◌, ℕ, ℤ, Bool, None, Option, Some, is_none, nat_eq}
use Rattle.std.specs.Prelude.{nat_lt, not, true}
use Rattle.pas_tree.specs.{ConstantTrees.ConstantsTree, ConstantTrees.constants_tree, DenoterPlaces.first_of_constant}
use Rattle.pas_tree.specs.declared.constants.{Constant.Constant, NextConstant.NextConstant}
use Rattle.pas_tree.specs.declared.denoters.{NextArm.NextArm, TagField.TagField}
use Rattle.core_program.specs.declared.rows.{ItemRow.ItemRow, NameRow.NameRow, PartRow.PartRow, Row.Row}
use Rattle.check_steps.specs.{Items.add_item, Known.Known, Known.is_chosen, Known.type_at}
use Rattle.check_steps.specs.Steps.{◌>>=◌, Step, add_chosen, each, give, late, look, put}
use Rattle.kind_checker.specs.{Sizes.capped, Sizes.host_of, Types.named_type, Types.ordinal}
use Rattle.kind_checker.specs.Constants.{constant, constant_again}
use Rattle.kind_checker.specs.declared.constants.ConstantValue.{ConstantValue, TheVariants.Ordinal, TheVariants.Text}
use Rattle.denoter_checker.specs.declared.variants.{Choosing.Choosing, Listed.Listed, PartPlace.PartPlace}

-- ---- tags

-- rule 6: a tag is not ordinal
unfoldable pub tag_type : ℕ → ℕ → Step ℕ
tag_type frame name = do
  t ← named_type frame name
  ordinal name name t

unfoldable pub hidden_tag : PartPlace → ℕ → Step ℕ
hidden_tag p name = do
  t ← tag_type p.frame name
  look (λ k. host_of k t)

unfoldable pub named_tag : PartPlace → ℕ → ℕ → Step ℕ
named_tag p field name = do
  t ← tag_type p.frame name
  _ ← put field (Row.Name (NameRow.Tag t p.offset p.holder p.word))
  look (λ k. host_of k t)

-- the tag, which is hidden if it has no field; its host type is given
abbrev pub tag_part : PartPlace → Option TagField → ℕ → Step ℕ
tag_part p None name = hidden_tag p name
tag_part p (Some f) name = named_tag p f.name name

-- ---- the names and signs of case constants

-- rules 1, 3 and 4, each constant once
unfoldable pub next_constant : ℕ → Unit {0} → NextConstant → Step (Unit {0})
next_constant frame u n = do
  _ ← constant frame n.constant
  give tt

unfoldable pub constants_uses : ℕ → ConstantsTree → Step (Unit {0})
constants_uses frame c = do
  _ ← constant frame c.first
  each (next_constant frame) tt c.others

-- ---- lists of the values that choose

-- A case constant of unknown value, and one for a selector or tag of unknown type, breaks no further rule.
abbrev pub is_choice : Known → Choosing → Option ConstantValue → Bool
is_choice k c None = true
is_choice k c (Some (Text token)) = is_none (type_at k c.host)
is_choice k c (Some (Ordinal of' value)) =
    is_none (type_at k c.host) || (nat_eq of' c.host && not (is_chosen k c.list value))

abbrev pub value_if : Bool → Option ConstantValue → Option ℤ
value_if true (Some (Ordinal of' value)) = Some value
value_if ok v = None

-- one more value, at a slot after the last one
unfoldable pub add_choice : ℤ → ℕ → ℕ → ℕ → Step ℕ
add_choice value chosen last slot = add_item last slot (ItemRow.Choice value chosen 0)

-- the same, with the value put down for the list
unfoldable pub chosen_value : ℕ → ℤ → ℕ → ℕ → ℕ → Step ℕ
chosen_value list value chosen last slot = do
  _ ← add_chosen list value
  add_choice value chosen last slot

abbrev pub listed_choice : ℕ → Option ℤ → ℕ → ℕ → ℕ → Step ℕ
listed_choice list None chosen last slot = give last
listed_choice list (Some value) chosen last slot = chosen_value list value chosen last slot

-- rule 22: a case constant is not of the selector's or tag's host type, or its value is repeated in the same case
-- statement or variant part
unfoldable pub case_constant : Choosing → ℕ → ℕ → ℕ → Constant → Step ℕ
case_constant c chosen last slot x = do
  v ← constant_again c.frame x
  fine ← look (λ k. is_choice k c v)
  _ ← late 22 (first_of_constant x) fine
  listed_choice c.list (value_if fine v) chosen last slot

unfoldable pub next_choice : Choosing → ℕ → ℕ → NextConstant → Step ℕ
next_choice c chosen last n = case_constant c chosen last n.comma n.constant

-- the constants that choose one thing; where the last item of the list stands is given
unfoldable pub choices : Choosing → ℕ → ℕ → ℕ → ConstantsTree → Step ℕ
choices c chosen last slot xs = do
  next ← case_constant c chosen last slot xs.first
  each (next_choice c chosen) next xs.others

-- ---- variants

abbrev pub one_more : ℕ → ℕ
one_more n = if nat_lt n 4294967295 then n + 1 else n

-- a variant, at its `(`, its constants, and the values that choose it
unfoldable pub arm_choices : Choosing → Listed → ℕ → ℕ → ConstantsTree → Step Listed
arm_choices c l slot left constants = do
  _ ← put left (Row.Part (PartRow.Variant l.variants (one_more l.position)))
  _ ← constants_uses c.frame constants
  last ← choices c left l.last slot constants
  give (record { variants = l.variants; last = last; position = one_more l.position })

unfoldable pub next_arm_choices : Choosing → Listed → NextArm → Step Listed
next_arm_choices c l n = arm_choices c l n.semicolon n.arm.«open» (constants_tree n.arm.constants)

abbrev pub choosing_at : PartPlace → ℕ → ℕ → Choosing
choosing_at p host of' = record { frame = p.frame; host = host; list = of' }

abbrev pub nothing_listed : ℕ → Listed
nothing_listed word = record { variants = word; last = word; position = 0 }

-- the row of a variant part, once the place after its variants is known
unfoldable pub variant_part : PartPlace → Bool → ℕ → ℕ → Step ℕ
variant_part p hidden of' end = do
  _ ← put p.word (Row.Part (PartRow.Variants hidden p.offset (end - capped (p.offset + 1)) of' p.holder))
  give end
