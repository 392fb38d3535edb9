-- What the steps of `Rattle.kind_checker.specs.Types` leave at other tokens.
use Rattle.std.proofs.Common.{if◌then◌else◌, ℕ, ℤ, Bool, Option, negsuc, pos}
use Rattle.pas_tree.specs.{DenoterTrees.EnumerationTree, TreeNodes.enumeration_node}
use Rattle.core_program.specs.declared.rows.{NameRow.NameRow, Row.Row, TypeRow.TypeRow}
use Rattle.check_steps.specs.Known.{type_at}
use Rattle.kind_checker.specs.{Sizes.is_ordinal, Sizes.is_within_bytes, declared.constants.ConstantValue.ConstantValue, declared.types.Scope.Scope}
use Rattle.kind_checker.specs.Types.{base_type, domain_named, enumerated, enumeration, is_range, is_type_name, looked_up_as, named_type, ordinal, pointer_type}
use Rattle.kind_checker.specs.Types.{range_row, set_type, subrange, successor, type_of}
use Rattle.rule_laws.proofs.{Every.Every, Every.Of, LeavesNameLists.each_name-leaves, LeavesNames.use_at-leaves}
use Rattle.rule_laws.proofs.Leaves.{Leaves, bind-leaves, early-leaves, give-leaves, late-leaves, look-leaves, put-leaves}

pub named_type-leaves : {Q : ℕ → Type 0} (frame : ℕ) (token : ℕ) → Of Q token → Leaves Q (named_type frame token)
unfolding named_type
named_type-leaves frame token token-in = bind-leaves (use_at-leaves frame token token token-in) (λ found.
    bind-leaves (late-leaves 3 token (is_type_name found) token-in) (λ _. look-leaves (λ k. type_of k found token)))

pub subrange-leaves : {Q : ℕ → Type 0} (first : Option ConstantValue) (dots : ℕ) (last : Option ConstantValue) → Of Q dots
    → Leaves Q (subrange first dots last)
unfolding subrange
subrange-leaves first dots last dots-in = bind-leaves (early-leaves 5 dots (is_range first last) dots-in) (λ _.
    bind-leaves (put-leaves dots (range_row first last) dots-in) (λ _. give-leaves dots))

pub enumerated-leaves : {Q : ℕ → Type 0} (of' : ℕ) (last : ℤ) (name : ℕ) → Of Q name → Leaves Q (enumerated of' last name)
unfolding enumerated
enumerated-leaves of' last name name-in = bind-leaves (put-leaves name (Row.Name (NameRow.Constant of' (successor last))) name-in)
    (λ _. give-leaves (successor last))

pub enumeration-leaves : {Q : ℕ → Type 0} (e : EnumerationTree) → Every Q (enumeration_node e) → Leaves Q (enumeration e)
unfolding enumeration
enumeration-leaves e e-in = bind-leaves (each_name-leaves (enumerated e.left) (negsuc 0) e.names (λ a x h. enumerated-leaves e.left a x h) e-in.1.0)
    (λ greatest. bind-leaves (put-leaves e.left (Row.Type (TypeRow.Ordinal (pos 0) greatest)) e-in.0) (λ _. give-leaves e.left))

pub pointer_type-leaves : {Q : ℕ → Type 0} (s : Scope) (caret : ℕ) (name : ℕ) → Of Q caret → Of Q name → Leaves Q (pointer_type s caret name)
unfolding pointer_type
pointer_type-leaves s caret name caret-in name-in = bind-leaves (use_at-leaves s.frame (looked_up_as s name) name name-in) (λ found.
    bind-leaves (late-leaves 3 name (is_type_name found) name-in) (λ _. bind-leaves (look-leaves (λ k. domain_named k s.domains_at found name)) (λ domain.
    bind-leaves (put-leaves caret (Row.Type (TypeRow.Pointer domain)) caret-in) (λ _. give-leaves caret))))

pub ordinal-leaves : {Q : ℕ → Type 0} (first : ℕ) (unknown : ℕ) (t : ℕ) → Of Q first → Leaves Q (ordinal first unknown t)
unfolding ordinal
ordinal-leaves first unknown t first-in = bind-leaves (look-leaves (λ k. is_ordinal (type_at k t))) (λ fine. bind-leaves (late-leaves 6 first fine first-in)
    (λ _. give-leaves (if fine then t else unknown)))

pub base_type-leaves : {Q : ℕ → Type 0} (first : ℕ) (unknown : ℕ) (t : ℕ) → Of Q first → Leaves Q (base_type first unknown t)
unfolding base_type
base_type-leaves first unknown t first-in = bind-leaves (ordinal-leaves first unknown t first-in) (λ base. bind-leaves (look-leaves
    (λ k. is_within_bytes (type_at k base))) (λ fine. bind-leaves (early-leaves 7 first fine first-in) (λ _. give-leaves base)))

pub set_type-leaves : {Q : ℕ → Type 0} (packed : Bool) (word : ℕ) (first : ℕ) (unknown : ℕ) (t : ℕ) → Of Q word → Of Q first
    → Leaves Q (set_type packed word first unknown t)
unfolding set_type
set_type-leaves packed word first unknown t word-in first-in = bind-leaves (base_type-leaves first unknown t first-in) (λ base.
    bind-leaves (put-leaves word (Row.Type (TypeRow.Set packed base)) word-in) (λ _. give-leaves word))
