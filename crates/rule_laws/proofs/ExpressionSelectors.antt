-- What the steps of `Rattle.expression_checker.specs.Selectors` touch.
use Rattle.std.proofs.Common.{ℕ, refl}
use Rattle.expression_checker.specs.Selectors.{component_at, dereference_row, dereferenced, domain_at, field_access, field_named, field_row, has_field}
use Rattle.expression_checker.specs.Selectors.{index_row, indexed, is_array, is_index, is_pointer, is_record, selected_field, type_row}
use Rattle.expression_checker.specs.declared.typed.Typed.{Typed}
use Rattle.rule_laws.proofs.{Every.Of, Faces.Shown, RowsPut.dereference_none, RowsPut.field_none, RowsPut.index_none}
use Rattle.rule_laws.proofs.Touches.{Touches, bind-touches, give-touches, late-touches, look-touches, put-touches}

pub indexed-touches : {Q : ℕ → Type 0} {strict : Shown} (p : Typed) (bracket : ℕ) (first : ℕ) (i : Typed) → Of Q bracket → Of Q first
    → Touches Q strict (indexed p bracket first i)
unfolding indexed
indexed-touches p bracket first i bracket-in first-in = bind-touches (look-touches (λ k. type_row k p.of)) (λ r.
    bind-touches (late-touches 23 bracket (is_array r) refl bracket-in) (λ _. bind-touches (look-touches (λ k. is_index k r i.of)) (λ fine.
    bind-touches (late-touches 25 first fine refl first-in) (λ _. bind-touches (put-touches bracket (index_row r p i) bracket-in (index_none r p i))
    (λ _. give-touches (component_at r bracket))))))

pub selected_field-touches : {Q : ℕ → Type 0} {strict : Shown} (p : Typed) (dot : ℕ) (name : ℕ) → Of Q dot → Of Q name
    → Touches Q strict (selected_field p dot name)
unfolding selected_field
selected_field-touches p dot name dot-in name-in = bind-touches (look-touches (λ k. type_row k p.of))
    (λ r. bind-touches (late-touches 23 dot (is_record r) refl dot-in)
    (λ _. bind-touches (look-touches (λ k. field_named k r name)) (λ f. bind-touches (late-touches 24 name (has_field r f) refl name-in) (λ _.
    bind-touches (put-touches name (field_row p f) name-in (field_none p f)) (λ _. give-touches (field_access name f))))))

pub dereferenced-touches : {Q : ℕ → Type 0} {strict : Shown} (p : Typed) (caret : ℕ) → Of Q caret → Touches Q strict (dereferenced p caret)
unfolding dereferenced
dereferenced-touches p caret caret-in = bind-touches (look-touches (λ k. type_row k p.of))
    (λ r. bind-touches (late-touches 23 caret (is_pointer r) refl caret-in) (λ _.
    bind-touches (put-touches caret (dereference_row r p) caret-in (dereference_none r p)) (λ _. give-touches (domain_at r caret))))
