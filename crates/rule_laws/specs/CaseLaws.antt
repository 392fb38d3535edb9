-- Which case constants break rule 22.
use Rattle.std.specs.Prelude.{◌++◌, ◌-◌, ◌<◌, ◌↔◌, ◌∷◌, ◌≡◌, ◌⊎◌, ℕ, ℤ, All, Contains, List, None, Option, Some, false}
use Rattle.std.specs.Prelude.{is_some, length, true}
use Rattle.grammar.specs.Nodes.{Node}
use Rattle.pas_tree.specs.{DenoterPlaces.first_of_constant, DenoterTrees.VariantsTree, StatementTrees.CaseTree}
use Rattle.pas_tree.specs.{TreeNodes.case_node, TreeNodes.variants_node, declared.constants.Constant.Constant}
use Rattle.pas_tree.specs.DenoterTrees as denoters
use Rattle.pas_tree.specs.StatementTrees as statements
use Rattle.check_steps.specs.{Around.Falls, Known.Known, Known.is_chosen, Known.row_at, Known.type_at}
use Rattle.check_steps.specs.declared.breaks.{Break.Break, Broken.TheVariants.Late}
use Rattle.kind_checker.specs.{Constants.value_in, declared.constants.ConstantValue.ConstantValue}
use Rattle.denoter_checker.specs.{Denoters.choosing_in, Variants.tag_part, declared.variants.PartPlace.PartPlace}
use Rattle.statement_checker.specs.{Parts.selected, Statements.case_statement}
use Rattle.rule_laws.specs.CaseConstants.{case_constants, has_equal, is_of_host, stands_for, variant_constants}
use Rattle.rule_laws.specs.Tokens.{Has, IsDistinct}

-- a rule that is told after those of declarations and names, at a token
abbrev pub late_at : ℕ → ℕ → Break
late_at rule token = record { broken = Late rule; token = token }

-- A constant breaks rule 22 if its value is known, and so is the host type of the selector or tag, and it is not of
-- that type or a constant before it is equal.
pub record IsWrongChoice (k : Known) (frame host : ℕ) (before : List Constant) (x : Constant) : Type 0 where
  pub value : ConstantValue
  pub stands : stands_for k frame x ≡ Some value
  pub typed : is_some (type_at k host) ≡ true
  pub wrong : (is_of_host host value ≡ false) ⊎ (has_equal k frame before x ≡ true)

-- one of the constants of a list, those before it and those after it, which begin at other tokens
pub record IsAmong (before : List Constant) (x : Constant) (after : List Constant) : Type 0 where
  pub others_before : All (λ y. first_of_constant y ≡ first_of_constant x → ⊥) before
  pub others_after : All (λ y. first_of_constant y ≡ first_of_constant x → ⊥) after

-- No type and no constant stands at a token.
pub record IsFree (k : Known) (token : ℕ) : Type 0 where
  pub type : type_at k token ≡ None
  pub value : value_in (row_at k token) ≡ None

-- A part of a tree whose tokens are all different is looked at from a frame, and each frame comes after the one around
-- it. No type and no constant stands at the part's tokens, nor at the last one of the source, and nothing is chosen in
-- its list so far.
pub record IsLookedAt (k : Known) (frame list : ℕ) (part : Node) : Type 0 where
  pub distinct : IsDistinct part
  pub falls : Falls k.frames
  pub there : frame < length k.frames
  pub free : (n : ℕ) → Has part n ⊎ (n ≡ length k.words - 1) → IsFree k n
  pub fresh : (v : ℤ) → is_chosen k list v ≡ false

abbrev pub of_word : CaseTree → ℕ
of_word (statements.case_statement word selector of first others semicolon last) = of

-- the host type of a case statement's selector
abbrev pub selector_host : Known → ℕ → CaseTree → ℕ
selector_host k frame (statements.case_statement word selector of first others semicolon last) =
    (selected frame of selector k).value.choosing.host

-- Among the constants of a case statement these break rule 22, at their first tokens.
abbrev pub CasesTellEqualConstants : Type 0
CasesTellEqualConstants = (k : Known) (frame : ℕ) (label : Option ℕ) (c : CaseTree)
    (before : List Constant) (x : Constant) (after : List Constant)
    → IsLookedAt k frame (of_word c) (case_node c) → case_constants c ≡ before ++ x ∷ after → IsAmong before x after
    → Contains (case_statement frame label c k).broken (late_at 22 (first_of_constant x))
    ↔ IsWrongChoice k frame (selector_host k frame c) before x

abbrev pub list_of : VariantsTree → ℕ
list_of (denoters.arms word tag of first others) = of

-- the host type of a variant part's tag
abbrev pub tag_host : Known → PartPlace → VariantsTree → ℕ
tag_host k p (denoters.arms word tag of first others) =
    (tag_part p tag.field tag.name k).value

-- And so among the constants of a variant part.
abbrev pub VariantsTellEqualConstants : Type 0
VariantsTellEqualConstants = (k : Known) (p : PartPlace) (v : VariantsTree) (last : Option ℕ)
    (before : List Constant) (x : Constant) (after : List Constant)
    → IsLookedAt k p.frame (list_of v) (variants_node v last) → variant_constants v ≡ before ++ x ∷ after
    → IsAmong before x after
    → Contains (choosing_in p v k).broken (late_at 22 (first_of_constant x))
    ↔ IsWrongChoice k p.frame (tag_host k p v) before x
