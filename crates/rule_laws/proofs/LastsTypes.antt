-- What the steps of `Rattle.kind_checker.specs.Types` leave as it was.
use Rattle.std.proofs.Common.{if◌then◌else◌, ◌&&◌, ◌≡◌, ℕ, ℤ, Bool, Option, Some, false, int_le, nat_eq, negsuc, pos, refl, true}
use Rattle.pas_tree.specs.{BlockTrees.RoutineTree, DenoterTrees.EnumerationTree}
use Rattle.core_program.specs.declared.rows.{NameRow.NameRow, Row.Row, TypeRow.TypeRow}
use Rattle.check_steps.specs.Known.{Known, type_at}
use Rattle.kind_checker.specs.Sizes.{is_ordinal, is_within_bytes}
use Rattle.kind_checker.specs.Types.{base_type, domain_named, enumerated, enumeration, is_range, is_type_name, looked_up_as, named_type, ordinal, pointer_type}
use Rattle.kind_checker.specs.Types.{range_row, set_type, subrange, successor, type_of}
use Rattle.kind_checker.specs.declared.{constants.ConstantValue.ConstantValue, constants.ConstantValue.TheVariants.Ordinal, types.Scope.Scope}
use Rattle.rule_laws.proofs.{Lasting.Lasting, Lasting.each_name-lasts, Lasting.is_quiet, Lasting.put-lasts, LastsNames.use_at-lasts}
use Rattle.rule_laws.proofs.Keeping.{Keeps, ask-keeps, bind-keeps, give-keeps, look-keeps}

pub named_type-lasts : {G : RoutineTree → Type 0} {I : Known → Type 0} (kept : Lasting G I) (frame token : ℕ) → Keeps I (named_type frame token)
unfolding named_type
named_type-lasts kept frame token = bind-keeps (use_at-lasts kept frame token token)
    (λ found. bind-keeps (ask-keeps _ token (is_type_name found)) (λ _. look-keeps (λ k. type_of k found token)))

if_quiet : (b : Bool) (t : TypeRow) → is_quiet (Row.Type t) ≡ true → is_quiet (if b then Row.Type t else Row.Nothing) ≡ true
if_quiet true t quiet = quiet
if_quiet false t quiet = refl

range_quiet : (first last : Option ConstantValue) → is_quiet (range_row first last) ≡ true
range_quiet (Some (Ordinal g a)) (Some (Ordinal h b)) = if_quiet (nat_eq g h && int_le a b) (TypeRow.Subrange g a b) refl
range_quiet a b = refl

pub subrange-lasts : {G : RoutineTree → Type 0} {I : Known → Type 0} (kept : Lasting G I) (first : Option ConstantValue) (dots : ℕ)
    (last : Option ConstantValue) → Keeps I (subrange first dots last)
unfolding subrange
subrange-lasts kept first dots last = bind-keeps (ask-keeps _ dots (is_range first last))
    (λ _. bind-keeps (put-lasts kept dots (range_row first last) (range_quiet first last)) (λ _. give-keeps dots))

pub enumerated-lasts : {G : RoutineTree → Type 0} {I : Known → Type 0} (kept : Lasting G I) (of' : ℕ) (last : ℤ) (name : ℕ) → Keeps I (enumerated of' last name)
unfolding enumerated
enumerated-lasts kept of' last name = bind-keeps (put-lasts kept name (Row.Name (NameRow.Constant of' (successor last))) refl)
    (λ _. give-keeps (successor last))

pub enumeration-lasts : {G : RoutineTree → Type 0} {I : Known → Type 0} (kept : Lasting G I) (e : EnumerationTree) → Keeps I (enumeration e)
unfolding enumeration
enumeration-lasts kept e = bind-keeps (each_name-lasts (enumerated e.left) (negsuc 0) e.names (λ a x. enumerated-lasts kept e.left a x))
    (λ greatest. bind-keeps (put-lasts kept e.left (Row.Type (TypeRow.Ordinal (pos 0) greatest)) refl) (λ _. give-keeps e.left))

pub pointer_type-lasts : {G : RoutineTree → Type 0} {I : Known → Type 0} (kept : Lasting G I) (s : Scope) (caret name : ℕ) → Keeps I (pointer_type s caret name)
unfolding pointer_type
pointer_type-lasts kept s caret name = bind-keeps (use_at-lasts kept s.frame (looked_up_as s name) name)
    (λ found. bind-keeps (ask-keeps _ name (is_type_name found)) (λ _. bind-keeps (look-keeps (λ k. domain_named k s.domains_at found name))
    (λ domain. bind-keeps (put-lasts kept caret (Row.Type (TypeRow.Pointer domain)) refl) (λ _. give-keeps caret))))

pub ordinal-lasts : {G : RoutineTree → Type 0} {I : Known → Type 0} (kept : Lasting G I) (first unknown t : ℕ) → Keeps I (ordinal first unknown t)
unfolding ordinal
ordinal-lasts kept first unknown t = bind-keeps (look-keeps (λ k. is_ordinal (type_at k t)))
    (λ fine. bind-keeps (ask-keeps _ first fine) (λ _. give-keeps (if fine then t else unknown)))

pub base_type-lasts : {G : RoutineTree → Type 0} {I : Known → Type 0} (kept : Lasting G I) (first unknown t : ℕ) → Keeps I (base_type first unknown t)
unfolding base_type
base_type-lasts kept first unknown t = bind-keeps (ordinal-lasts kept first unknown t)
    (λ base. bind-keeps (look-keeps (λ k. is_within_bytes (type_at k base))) (λ fine. bind-keeps (ask-keeps _ first fine) (λ _. give-keeps base)))

pub set_type-lasts : {G : RoutineTree → Type 0} {I : Known → Type 0} (kept : Lasting G I) (packed : Bool) (word first unknown t : ℕ)
    → Keeps I (set_type packed word first unknown t)
unfolding set_type
set_type-lasts kept packed word first unknown t = bind-keeps (base_type-lasts kept first unknown t)
    (λ base. bind-keeps (put-lasts kept word (Row.Type (TypeRow.Set packed base)) refl) (λ _. give-keeps word))
