-- What the steps of `Rattle.expression_checker.specs.Selectors` keep.
use Rattle.std.proofs.Common.{◌<◌, ℕ, Bool, refl}
use Rattle.expression_checker.specs.Selectors.{component_at, dereference_row, dereferenced, domain_at, field_access, field_named, field_row, has_field}
use Rattle.expression_checker.specs.Selectors.{index_row, indexed, is_array, is_index, is_pointer, is_record, selected_field, type_row}
use Rattle.expression_checker.specs.declared.typed.Typed.{Typed}
use Rattle.code_checker.proofs.Steps.{Holds, bind-holds, give-holds, late-holds, look-holds, put-holds}

pub indexed-holds : {size : ℕ} {later : Bool} (p : Typed) (bracket : ℕ) (first : ℕ) (i : Typed) → bracket < size → first < size
    → Holds size later (indexed p bracket first i)
unfolding indexed
indexed-holds p bracket first i bracket-in first-in = bind-holds (look-holds (λ k. type_row k p.of)) (λ r.
    bind-holds (late-holds 23 bracket (is_array r) refl bracket-in) (λ _. bind-holds (look-holds (λ k. is_index k r i.of)) (λ fine.
    bind-holds (late-holds 25 first fine refl first-in) (λ _. bind-holds (put-holds bracket (index_row r p i)) (λ _. give-holds (component_at r bracket))))))

pub selected_field-holds : {size : ℕ} {later : Bool} (p : Typed) (dot : ℕ) (name : ℕ) → dot < size → name < size
    → Holds size later (selected_field p dot name)
unfolding selected_field
selected_field-holds p dot name dot-in name-in = bind-holds (look-holds (λ k. type_row k p.of)) (λ r. bind-holds (late-holds 23 dot (is_record r) refl dot-in)
    (λ _. bind-holds (look-holds (λ k. field_named k r name)) (λ f. bind-holds (late-holds 24 name (has_field r f) refl name-in) (λ _.
    bind-holds (put-holds name (field_row p f)) (λ _. give-holds (field_access name f))))))

pub dereferenced-holds : {size : ℕ} {later : Bool} (p : Typed) (caret : ℕ) → caret < size → Holds size later (dereferenced p caret)
unfolding dereferenced
dereferenced-holds p caret caret-in = bind-holds (look-holds (λ k. type_row k p.of)) (λ r. bind-holds (late-holds 23 caret (is_pointer r) refl caret-in) (λ _.
    bind-holds (put-holds caret (dereference_row r p)) (λ _. give-holds (domain_at r caret))))
