-- Fields of a record that a name does not go on with.
use Rattle.std.proofs.Common.{◌+◌, ◌-◌, ◌∙◌, ◌≡◌, ◌≤◌, ℕ, Bool, List, None, Option, Some, ap, arith, codes, false, is_some, refl, sym, true}
use Rattle.core_program.specs.ProgramRows.{ProgramRows, row_at, text_at, type_at}
use Rattle.core_program.specs.declared.rows.{NameRow.NameRow, Row.Row, TypeRow.TypeRow}
use Rattle.cell_names.proofs.{CellsAlike.moved_none, NameParts.then_both, NamesPassed.neither, NamesPassed.nothing_by}
use Rattle.cell_names.specs.NamedBy.{after_part, leads_by, leads_on, then_part}
use Rattle.cell_names.specs.Names.{Scene, field_step, record_step, selector_text, step_by, step_down, typed_step}
use Rattle.cell_names.specs.Walks.{goes_by, is_selected, is_selected_at, may_select, moved, record_in, record_of}
use Rattle.cell_names.specs.declared.{names.Held.Held, names.Spot.Spot, names.Step.Step, places.PlacedPart.PlacedPart}

typed_record : (s : Scene) (of' place owner : ℕ) (t : Option TypeRow) → record_in of' t ≡ Some owner
    → typed_step s of' place t ≡ record_step s.program place (s.finding.component owner place)
typed_record s of' place owner (Some (TypeRow.Record packed region cells variants)) e =
    ap (λ n. record_step s.program place (s.finding.component n place)) (let f : of' ≡ owner = cc in f)
typed_record s of' place owner t e = absurd (let z : ◌≡◌ {A = Option ℕ} None (Some owner) = e in cc)

held_record : (s : Scene) (place owner : ℕ) (h : Held) → record_of s.program h ≡ Some owner
    → step_by s place h ≡ record_step s.program place (s.finding.component owner place)
held_record s place owner (Held.Variable of') e = typed_record s of' place owner (type_at s.program of') e
held_record s place owner h e = absurd (let z : ◌≡◌ {A = Option ℕ} None (Some owner) = e in cc)

step_in_record : (s : Scene) (at : Spot) (owner k : ℕ) → record_of s.program at.held ≡ Some owner
    → step_down s (moved k at) ≡ record_step s.program (at.place + k) (s.finding.component owner (at.place + k))
unfolding step_down
step_in_record s at owner k e = held_record s (at.place + k) owner at.held e

-- a selector goes by the field alone
by_row : (p : ProgramRows) (number a b : ℕ) (r : Row) (name : List ℕ) → goes_by p (field_step number a r) name ≡ goes_by p (field_step number b r) name
by_row p number a b (Row.Name (NameRow.Field of' offset holder)) name = refl
by_row p number a b (Row.Name (NameRow.Tag of' offset holder variants)) name = refl
by_row p number a b (Row.Part r) name = refl
by_row p number a b r name = refl

by_field : (p : ProgramRows) (place : ℕ) (part : Option PlacedPart) (name : List ℕ) → goes_by p (record_step p place part) name ≡ is_selected p part name
by_field p place None name = refl
by_field p place (Some part) name = by_row p part.number (place - part.place) (0 - part.place) (row_at p part.number) name

not_gone : (p : ProgramRows) (go : Spot → List ℕ → Bool) (name : List ℕ) (o : Option Step) → goes_by p o name ≡ false → leads_by p go name o ≡ false
not_gone p go name None e = refl
not_gone p go name (Some st) e = ap (leads_on (go st.spot)) (nothing_by (after_part (selector_text p st.selector) name) e)

gone_by : (o : Option (List ℕ)) → leads_on (λ rest. true) o ≡ is_some o
gone_by None = refl
gone_by (Some rest) = refl

not_led : (p : ProgramRows) (name : List ℕ) (o : Option Step) → leads_by p (λ at rest. true) name o ≡ false → goes_by p o name ≡ false
not_led p name None e = refl
not_led p name (Some st) e = sym (gone_by (after_part (selector_text p st.selector) name)) ∙ e

-- a name that leads to no cell here does not go on with the field
pub not_here : (s : Scene) (at : Spot) (owner : ℕ) (name : List ℕ) → record_of s.program at.held ≡ Some owner
    → ((go : Spot → List ℕ → Bool) → leads_by s.program go name (step_down s at) ≡ false) → is_selected_at s owner at.place name ≡ false
not_here s at owner name is none =
    let z : at.place + 0 ≡ at.place = omega arith in
    let step : step_down s at ≡ record_step s.program at.place (s.finding.component owner at.place) =
    ap (step_down s) (sym (moved_none at)) ∙ step_in_record s at owner 0 is
    ∙ ap (λ n. record_step s.program n (s.finding.component owner n)) z in
    sym (by_field s.program at.place (s.finding.component owner at.place) name)
    ∙ ap (λ o. goes_by s.program o name) (sym step) ∙ not_led s.program name (step_down s at) (none (λ a rest. true))

-- and leads to no cell of a field that it does not go on with
pub no_field : (s : Scene) (at : Spot) (owner : ℕ) (name : List ℕ) (last : ℕ) → record_of s.program at.held ≡ Some owner
    → ((k : ℕ) → k ≤ last → is_selected_at s owner (at.place + k) name ≡ false)
    → (go : Spot → List ℕ → Bool) (k : ℕ) → k ≤ last → leads_by s.program go name (step_down s (moved k at)) ≡ false
no_field s at owner name last is none go k below =
    ap (leads_by s.program go name) (step_in_record s at owner k is)
    ∙ not_gone s.program go name (record_step s.program (at.place + k) (s.finding.component owner (at.place + k)))
    (by_field s.program (at.place + k) (s.finding.component owner (at.place + k)) name ∙ none k below)

by_texts : (p : ProgramRows) (number place : ℕ) (r : Row) (name : List ℕ)
    → is_some (then_part (text_at p number) (after_part (codes ".") name)) ≡ false → is_some (after_part (codes ".case") name) ≡ false
    → goes_by p (field_step number place r) name ≡ false
by_texts p number place (Row.Name (NameRow.Field of' offset holder)) name field tag =
    ap is_some (then_both (codes ".") (text_at p number) (Some name)) ∙ field
by_texts p number place (Row.Name (NameRow.Tag of' offset holder variants)) name field tag =
    ap is_some (then_both (codes ".") (text_at p number) (Some name)) ∙ field
by_texts p number place (Row.Part r) name field tag = tag
by_texts p number place r name field tag = refl

-- a name does not go on where no text fits
pub not_selected : (p : ProgramRows) (part : PlacedPart) (name : List ℕ) → may_select p part.number name ≡ false → is_selected p (Some part) name ≡ false
not_selected p part name e =
    let both = neither (is_some (then_part (text_at p part.number) (after_part (codes ".") name))) (is_some (after_part (codes ".case") name)) e in
    by_texts p part.number (0 - part.place) (row_at p part.number) name both.0 both.1
