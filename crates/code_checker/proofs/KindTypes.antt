-- What the steps of `Rattle.kind_checker.specs.Types` keep.
use Rattle.std.proofs.Common.{if◌then◌else◌, ◌<◌, ℕ, ℤ, Bool, Option, false, negsuc, pos, refl}
use Rattle.pas_tree.specs.{DenoterTrees.EnumerationTree, TreeNodes.enumeration_node}
use Rattle.core_program.specs.declared.rows.{NameRow.NameRow, Row.Row, TypeRow.TypeRow}
use Rattle.check_steps.specs.Known.{type_at}
use Rattle.kind_checker.specs.{Sizes.is_ordinal, Sizes.is_within_bytes, declared.constants.ConstantValue.ConstantValue, declared.types.Scope.Scope}
use Rattle.kind_checker.specs.Types.{base_type, domain_named, enumerated, enumeration, is_range, is_type_name, looked_up_as, named_type, ordinal, pointer_type}
use Rattle.kind_checker.specs.Types.{range_row, set_type, subrange, successor, type_of}
use Rattle.code_checker.proofs.{CheckNames.use_at-holds, KindNames.each_name-holds, Within.Within}
use Rattle.code_checker.proofs.Steps.{Holds, bind-holds, early-holds, give-holds, late-holds, look-holds, put-holds}

pub named_type-holds : {size : ℕ} (frame : ℕ) (token : ℕ) → token < size → Holds size false (named_type frame token)
unfolding named_type
named_type-holds frame token token-in = bind-holds (use_at-holds frame token token token-in) (λ found.
    bind-holds (late-holds 3 token (is_type_name found) refl token-in) (λ _. look-holds (λ k. type_of k found token)))

pub subrange-holds : {size : ℕ} (first : Option ConstantValue) (dots : ℕ) (last : Option ConstantValue) → dots < size
    → Holds size false (subrange first dots last)
unfolding subrange
subrange-holds first dots last dots-in = bind-holds (early-holds 5 dots (is_range first last) refl dots-in) (λ _.
    bind-holds (put-holds dots (range_row first last)) (λ _. give-holds dots))

pub enumerated-holds : {size : ℕ} {later : Bool} (of' : ℕ) (last : ℤ) (name : ℕ) → Holds size later (enumerated of' last name)
unfolding enumerated
enumerated-holds of' last name = bind-holds (put-holds name (Row.Name (NameRow.Constant of' (successor last)))) (λ _. give-holds (successor last))

pub enumeration-holds : {size : ℕ} {later : Bool} (e : EnumerationTree) → Within size (enumeration_node e) → Holds size later (enumeration e)
unfolding enumeration
enumeration-holds e e-in = bind-holds (each_name-holds (enumerated e.left) (negsuc 0) e.names (λ a x h. enumerated-holds e.left a x) e-in.1.0)
    (λ greatest. bind-holds (put-holds e.left (Row.Type (TypeRow.Ordinal (pos 0) greatest))) (λ _. give-holds e.left))

pub pointer_type-holds : {size : ℕ} (s : Scope) (caret : ℕ) (name : ℕ) → name < size → Holds size false (pointer_type s caret name)
unfolding pointer_type
pointer_type-holds s caret name name-in = bind-holds (use_at-holds s.frame (looked_up_as s name) name name-in) (λ found.
    bind-holds (late-holds 3 name (is_type_name found) refl name-in) (λ _. bind-holds (look-holds (λ k. domain_named k s.domains_at found name)) (λ domain.
    bind-holds (put-holds caret (Row.Type (TypeRow.Pointer domain))) (λ _. give-holds caret))))

pub ordinal-holds : {size : ℕ} {later : Bool} (first : ℕ) (unknown : ℕ) (t : ℕ) → first < size → Holds size later (ordinal first unknown t)
unfolding ordinal
ordinal-holds first unknown t first-in = bind-holds (look-holds (λ k. is_ordinal (type_at k t))) (λ fine. bind-holds (late-holds 6 first fine refl first-in)
    (λ _. give-holds (if fine then t else unknown)))

pub base_type-holds : {size : ℕ} (first : ℕ) (unknown : ℕ) (t : ℕ) → first < size → Holds size false (base_type first unknown t)
unfolding base_type
base_type-holds first unknown t first-in = bind-holds (ordinal-holds first unknown t first-in) (λ base. bind-holds (look-holds
    (λ k. is_within_bytes (type_at k base))) (λ fine. bind-holds (early-holds 7 first fine refl first-in) (λ _. give-holds base)))

pub set_type-holds : {size : ℕ} (packed : Bool) (word : ℕ) (first : ℕ) (unknown : ℕ) (t : ℕ) → first < size
    → Holds size false (set_type packed word first unknown t)
unfolding set_type
set_type-holds packed word first unknown t first-in = bind-holds (base_type-holds first unknown t first-in) (λ base.
    bind-holds (put-holds word (Row.Type (TypeRow.Set packed base))) (λ _. give-holds word))
