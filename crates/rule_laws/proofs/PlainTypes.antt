-- What the steps of `Rattle.kind_checker.specs.Types` break.
use Rattle.std.proofs.Common.{if◌then◌else◌, ℕ, ℤ, Bool, Option, negsuc, pos, refl}
use Rattle.pas_tree.specs.DenoterTrees.{EnumerationTree}
use Rattle.core_program.specs.declared.rows.{NameRow.NameRow, Row.Row, TypeRow.TypeRow}
use Rattle.check_steps.specs.Known.{type_at}
use Rattle.kind_checker.specs.{Sizes.is_ordinal, Sizes.is_within_bytes, declared.constants.ConstantValue.ConstantValue, declared.types.Scope.Scope}
use Rattle.kind_checker.specs.Types.{base_type, domain_named, enumerated, enumeration, is_range, is_type_name, looked_up_as, named_type, ordinal, pointer_type}
use Rattle.kind_checker.specs.Types.{range_row, set_type, subrange, successor, type_of}
use Rattle.rule_laws.proofs.Plain.{Aim, Plain, Solely, ask-plain, bind-solely, each_name-plain, give-solely, look-solely, put-plain}
use Rattle.rule_laws.proofs.PlainNames.{use_at-plain}

pub named_type-plain : {aim : Aim} (kept : Plain aim) (frame token : ℕ) → Solely aim (named_type frame token)
unfolding named_type
named_type-plain kept frame token = bind-solely (use_at-plain kept frame token token)
    (λ found. bind-solely (ask-plain kept _ token (is_type_name found) refl) (λ _. look-solely (λ k. type_of k found token)))

pub subrange-plain : {aim : Aim} (kept : Plain aim) (first : Option ConstantValue) (dots : ℕ)
    (last : Option ConstantValue) → Solely aim (subrange first dots last)
unfolding subrange
subrange-plain kept first dots last = bind-solely (ask-plain kept _ dots (is_range first last) refl)
    (λ _. bind-solely (put-plain kept dots (range_row first last)) (λ _. give-solely dots))

pub enumerated-plain : {aim : Aim} (kept : Plain aim) (of' : ℕ) (last : ℤ) (name : ℕ) → Solely aim (enumerated of' last name)
unfolding enumerated
enumerated-plain kept of' last name = bind-solely (put-plain kept name (Row.Name (NameRow.Constant of' (successor last))))
    (λ _. give-solely (successor last))

pub enumeration-plain : {aim : Aim} (kept : Plain aim) (e : EnumerationTree) → Solely aim (enumeration e)
unfolding enumeration
enumeration-plain kept e = bind-solely (each_name-plain (enumerated e.left) (negsuc 0) e.names (λ a x. enumerated-plain kept e.left a x))
    (λ greatest. bind-solely (put-plain kept e.left (Row.Type (TypeRow.Ordinal (pos 0) greatest))) (λ _. give-solely e.left))

pub pointer_type-plain : {aim : Aim} (kept : Plain aim) (s : Scope) (caret name : ℕ) → Solely aim (pointer_type s caret name)
unfolding pointer_type
pointer_type-plain kept s caret name = bind-solely (use_at-plain kept s.frame (looked_up_as s name) name)
    (λ found. bind-solely (ask-plain kept _ name (is_type_name found) refl) (λ _. bind-solely (look-solely (λ k. domain_named k s.domains_at found name))
    (λ domain. bind-solely (put-plain kept caret (Row.Type (TypeRow.Pointer domain))) (λ _. give-solely caret))))

pub ordinal-plain : {aim : Aim} (kept : Plain aim) (first unknown t : ℕ) → Solely aim (ordinal first unknown t)
unfolding ordinal
ordinal-plain kept first unknown t = bind-solely (look-solely (λ k. is_ordinal (type_at k t)))
    (λ fine. bind-solely (ask-plain kept _ first fine refl) (λ _. give-solely (if fine then t else unknown)))

pub base_type-plain : {aim : Aim} (kept : Plain aim) (first unknown t : ℕ) → Solely aim (base_type first unknown t)
unfolding base_type
base_type-plain kept first unknown t = bind-solely (ordinal-plain kept first unknown t)
    (λ base. bind-solely (look-solely (λ k. is_within_bytes (type_at k base))) (λ fine. bind-solely (ask-plain kept _ first fine refl) (λ _. give-solely base)))

pub set_type-plain : {aim : Aim} (kept : Plain aim) (packed : Bool) (word first unknown t : ℕ)
    → Solely aim (set_type packed word first unknown t)
unfolding set_type
set_type-plain kept packed word first unknown t = bind-solely (base_type-plain kept first unknown t)
    (λ base. bind-solely (put-plain kept word (Row.Type (TypeRow.Set packed base))) (λ _. give-solely word))
