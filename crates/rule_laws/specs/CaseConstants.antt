-- The constants of a case statement and of a variant part, and what they stand for (6.8.3.5, 6.4.3.3).
use Rattle.std.specs.Prelude.{◌&&◌, ◌++◌, ◌∷◌, [], ℕ, Bool, List, None, Option, Some, false, map, nat_eq}
use Rattle.std.specs.{List.list_any, Ordering.int_eq}
use Rattle.pas_tree.specs.{ConstantTrees.ConstantsTree, declared.operators.Sign.Sign}
use Rattle.pas_tree.specs.DenoterTrees.{ArmTree, ArmTrees, VariantsTree}
use Rattle.pas_tree.specs.DenoterTrees as denoters
use Rattle.pas_tree.specs.StatementTrees.{BranchTree, BranchTrees, CaseTree}
use Rattle.pas_tree.specs.StatementTrees as statements
use Rattle.pas_tree.specs.declared.constants.{Constant.Constant, NextConstant.NextConstant}
use Rattle.core_program.specs.ProgramRows.{text_at}
use Rattle.check_steps.specs.{Known.Known, Known.find, Known.name_at, Known.spelled_at, Names.usable}
use Rattle.kind_checker.specs.Constants.{integer_in, signed_value, text_value, value_of}
use Rattle.kind_checker.specs.declared.constants.ConstantValue.{ConstantValue, TheVariants.Ordinal, TheVariants.Text}

-- ---- lists of constants, in the order of the text

abbrev pub in_next : NextConstant → Constant
in_next n = n.constant

abbrev pub listed : ConstantsTree → List Constant
listed c = c.first ∷ map in_next c.others

abbrev pub branch_constants : BranchTree → List Constant
branch_constants (statements.a_branch constants colon s) = listed constants

abbrev pub branches_constants : BranchTrees → List Constant
branches_constants statements.end_of_branches = []
branches_constants (statements.more_branches semicolon b rest) = branch_constants b ++ branches_constants rest

-- the constants of all branches of a case statement
abbrev pub case_constants : CaseTree → List Constant
case_constants (statements.case_statement word selector of_word first others semicolon last) =
    branch_constants first ++ branches_constants others

abbrev pub arm_constants : ArmTree → List Constant
arm_constants (denoters.an_arm constants colon left fields right) = listed constants

abbrev pub arms_constants : ArmTrees → List Constant
arms_constants denoters.end_of_arms = []
arms_constants (denoters.more_arms semicolon a rest) = arm_constants a ++ arms_constants rest

-- the constants of all variants of a variant part
abbrev pub variant_constants : VariantsTree → List Constant
variant_constants (denoters.arms word tag of_word first others) = arm_constants first ++ arms_constants others

-- ---- what they stand for

abbrev pub with_sign_of : Option Sign → Option ConstantValue → Option ConstantValue
with_sign_of None v = v
with_sign_of (Some s) v = signed_value s v

-- what a constant stands for, seen from a frame, where that is known
abbrev pub stands_for : Known → ℕ → Constant → Option ConstantValue
stands_for k frame (Constant.Number s n) = with_sign_of s (integer_in (spelled_at k n))
stands_for k frame (Constant.Name s n) = with_sign_of s (value_of k (usable n (find k frame (name_at k n))))
stands_for k frame (Constant.Text n) = Some (text_value n (text_at k.program n))

abbrev pub is_of_host : ℕ → ConstantValue → Bool
is_of_host host (Ordinal of' v) = nat_eq of' host
is_of_host host (Text token) = false

-- the same value of one ordinal type
abbrev pub are_equal : Option ConstantValue → Option ConstantValue → Bool
are_equal (Some (Ordinal a v)) (Some (Ordinal b w)) = nat_eq b a && int_eq v w
are_equal v w = false

-- whether one of these constants is equal to another
abbrev pub has_equal : Known → ℕ → List Constant → Constant → Bool
has_equal k frame xs x = list_any (λ y. are_equal (stands_for k frame x) (stands_for k frame y)) xs
