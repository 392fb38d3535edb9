-- The indices of an array that a name does not go on with.
use Rattle.std.proofs.Common.{◌%◌, ◌++◌, ◌+ℤ◌, ◌+◌, ◌-◌, ◌/◌, ◌<◌, ◌∙◌, ◌≡◌, ◌≤◌, ℕ, ℤ, Bool, List, None, Option, Some, ap, arith, codes, false, is_some, pos}
use Rattle.std.proofs.Common.{refl, subst, suc, sym, true, zero}
use Rattle.core_program.specs.ProgramRows.{ProgramRows, size_of, type_at}
use Rattle.core_program.specs.declared.{components.Extent.Extent, rows.TypeRow.TypeRow}
use Rattle.cell_names.proofs.{CellsAlike.mod_le, CellsAlike.same_row, NamesPassed.nothing_by}
use Rattle.cell_names.specs.{NamedBy.after_part, NamedBy.leads_by, NamedBy.leads_on, Values.bounds_of, Values.within_bounds, Walks.moved}
use Rattle.cell_names.specs.Conformant.{cells_held, extent_of, held_in}
use Rattle.cell_names.specs.Names.{Scene, array_step, conformant_step, extent_step, least_in, spot, step_by, step_down, typed_step}
use Rattle.cell_names.specs.Walks.{components_by, components_in, components_of, conformant_components, index_text, is_indexed, is_indexed_by, left_of_component}
use Rattle.cell_names.specs.declared.{names.Held.Held, names.Spot.Spot, values.Bounds.Bounds, walks.Components.Components}

pub sized : (p : ProgramRows) (a : Components) (place size : ℕ) (name : List ℕ) → (size ≡ 0 → ⊥)
    → is_some (after_part (index_text p a (place / size)) name) ≡ is_indexed_by p a place size name
sized p a place zero name some = absurd (some refl)
sized p a place (suc n) name some = refl

-- cells of one component
indexed_alike : (p : ProgramRows) (a : Components) (next m size : ℕ) (name : List ℕ) → m ≤ left_of_component next size
    → is_indexed_by p a (next + m) size name ≡ is_indexed_by p a next size name
indexed_alike p a next m zero name below = refl
indexed_alike p a next m (suc n) name below =
    ap (λ q. is_some (after_part (index_text p a q) name)) (same_row next n m below (mod_le next n))

-- the cells of the next component
pub none_indexed : (p : ProgramRows) (a : Components) (place more next left passed : ℕ) (name : List ℕ) → next ≡ place + (more + 1)
    → is_indexed p a next name ≡ false → left ≡ left_of_component next a.size → passed ≤ more + 1 + left
    → (k : ℕ) → more < k → k ≤ passed → is_indexed p a (place + k) name ≡ false
none_indexed p a place more next left passed name is none alike within k above below =
    let e : place + k ≡ next + (k - (more + 1)) = omega (arith, is, above) in
    ap (λ n. is_indexed p a n name) e
    ∙ indexed_alike p a next (k - (more + 1)) a.size name (subst (λ n. k - (more + 1) ≤ n) alike (omega (arith, above, below, within))) ∙ none

typed_array : (s : Scene) (of' place : ℕ) (t : Option TypeRow) (a : Components) → components_in s.program t ≡ Some a
    → typed_step s of' place t ≡ array_step a.index a.least a.component place a.size
typed_array s of' place (Some (TypeRow.Array packed index component cells)) a e =
    ap (λ (x : Components). array_step x.index x.least x.component place x.size)
    (let f : record {
      index = index;
      bounds = bounds_of s.program index;
      least = least_in (bounds_of s.program index);
      component = Held.Variable component;
      size = size_of s.program component;
    } ≡ a = cc in f)
typed_array s of' place t a e = absurd (let z : ◌≡◌ {A = Option Components} None (Some a) = e in cc)

array_by : (s : Scene) (call index component place : ℕ) (e : Option Extent) (a : Components) → components_by s call index component e ≡ Some a
    → extent_step index e (held_in s.program call component) place (cells_held s.program s.args call component)
    ≡ array_step a.index a.least a.component place a.size
array_by s call index component place None a is = absurd (let z : ◌≡◌ {A = Option Components} None (Some a) = is in cc)
array_by s call index component place (Some e) a is =
    ap (λ (x : Components). array_step x.index x.least x.component place x.size)
    (let f : record {
      index = index;
      bounds = bounds_of s.program index;
      least = e.least;
      component = held_in s.program call component;
      size = cells_held s.program s.args call component;
    } ≡ a = cc in f)

conformant_array : (s : Scene) (call place : ℕ) (t : Option TypeRow) (a : Components) → conformant_components s call t ≡ Some a
    → conformant_step s call place t ≡ array_step a.index a.least a.component place a.size
conformant_array s call place (Some (TypeRow.Conformant packed index component at)) a e =
    array_by s call index component place (extent_of s.program s.args call index at) a e
conformant_array s call place t a e = absurd (let z : ◌≡◌ {A = Option Components} None (Some a) = e in cc)

held_array : (s : Scene) (place : ℕ) (h : Held) (a : Components) → components_of s h ≡ Some a
    → step_by s place h ≡ array_step a.index a.least a.component place a.size
held_array s place (Held.Variable of') a e = typed_array s of' place (type_at s.program of') a e
held_array s place (Held.Conformant call of') a e = conformant_array s call place (type_at s.program of') a e
held_array s place h a e = absurd (let z : ◌≡◌ {A = Option Components} None (Some a) = e in cc)

step_in_array : (s : Scene) (at : Spot) (a : Components) (k : ℕ) → components_of s at.held ≡ Some a
    → step_down s (moved k at) ≡ array_step a.index a.least a.component (at.place + k) a.size
unfolding step_down
step_in_array s at a k e = held_array s (at.place + k) at.held a e

typed_bounds : (p : ProgramRows) (t : Option TypeRow) (a : Components) → components_in p t ≡ Some a → a.bounds ≡ bounds_of p a.index
typed_bounds p (Some (TypeRow.Array packed index component cells)) a e =
    let f : record {
      index = index;
      bounds = bounds_of p index;
      least = least_in (bounds_of p index);
      component = Held.Variable component;
      size = size_of p component;
    } ≡ a = cc in
    ap (λ (x : Components). x.bounds) (sym f) ∙ ap (λ (x : Components). bounds_of p x.index) f
typed_bounds p t a e = absurd (let z : ◌≡◌ {A = Option Components} None (Some a) = e in cc)

bounds_by : (s : Scene) (call index component : ℕ) (e : Option Extent) (a : Components) → components_by s call index component e ≡ Some a
    → a.bounds ≡ bounds_of s.program a.index
bounds_by s call index component None a is = absurd (let z : ◌≡◌ {A = Option Components} None (Some a) = is in cc)
bounds_by s call index component (Some e) a is =
    let f : record {
      index = index;
      bounds = bounds_of s.program index;
      least = e.least;
      component = held_in s.program call component;
      size = cells_held s.program s.args call component;
    } ≡ a = cc in
    ap (λ (x : Components). x.bounds) (sym f) ∙ ap (λ (x : Components). bounds_of s.program x.index) f

conformant_bounds : (s : Scene) (call : ℕ) (t : Option TypeRow) (a : Components) → conformant_components s call t ≡ Some a
    → a.bounds ≡ bounds_of s.program a.index
conformant_bounds s call (Some (TypeRow.Conformant packed index component at)) a e =
    bounds_by s call index component (extent_of s.program s.args call index at) a e
conformant_bounds s call t a e = absurd (let z : ◌≡◌ {A = Option Components} None (Some a) = e in cc)

held_bounds : (s : Scene) (h : Held) (a : Components) → components_of s h ≡ Some a → a.bounds ≡ bounds_of s.program a.index
held_bounds s (Held.Variable of') a e = typed_bounds s.program (type_at s.program of') a e
held_bounds s (Held.Conformant call of') a e = conformant_bounds s call (type_at s.program of') a e
held_bounds s h a e = absurd (let z : ◌≡◌ {A = Option Components} None (Some a) = e in cc)

abbrev text_within : ProgramRows → Option Bounds → (ordinal : ℤ) → List ℕ
text_within p b ordinal = codes "[" ++ within_bounds p ordinal b ++ codes "]"

not_led : (p : ProgramRows) (a : Components) (place size : ℕ) (name : List ℕ) (go : Spot → List ℕ → Bool) → a.bounds ≡ bounds_of p a.index
    → is_indexed_by p a place size name ≡ false → leads_by p go name (array_step a.index a.least a.component place size) ≡ false
not_led p a place zero name go is none = refl
not_led p a place (suc n) name go is none =
    let at = spot a.component (place % suc n) in
    ap (λ b. leads_on (go at) (after_part (text_within p b (a.least +ℤ pos (place / suc n))) name)) (sym is)
    ∙ ap (leads_on (go at)) (nothing_by (after_part (index_text p a (place / suc n)) name) none)

led_if_some : (o : Option (List ℕ)) → is_some o ≡ leads_on (λ rest. true) o
led_if_some None = refl
led_if_some (Some rest) = refl

not_indexed : (p : ProgramRows) (a : Components) (place size : ℕ) (name : List ℕ) → a.bounds ≡ bounds_of p a.index
    → leads_by p (λ at rest. true) name (array_step a.index a.least a.component place size) ≡ false → is_indexed_by p a place size name ≡ false
not_indexed p a place zero name is none = refl
not_indexed p a place (suc n) name is none =
    led_if_some (after_part (index_text p a (place / suc n)) name)
    ∙ ap (λ b. leads_on (λ rest. true) (after_part (text_within p b (a.least +ℤ pos (place / suc n))) name)) is ∙ none

module _ (s : Scene) (at : Spot) (name : List ℕ) (a : Components) (array : components_of s at.held ≡ Some a) where
  -- to which cells a name does not go on, by the indices
  pub no_index : (first : ℕ) → ((go : Spot → List ℕ → Bool) (k : ℕ) → k ≤ first → leads_by s.program go name (step_down s (moved k at)) ≡ false)
      → (k : ℕ) → k ≤ first → is_indexed s.program a (at.place + k) name ≡ false
  no_index first none k below =
      not_indexed s.program a (at.place + k) a.size name (held_bounds s at.held a array)
      (ap (leads_by s.program (λ x rest. true) name) (sym (step_in_array s at a k array)) ∙ none (λ x rest. true) k below)

  pub no_component : (passed : ℕ) → ((k : ℕ) → k ≤ passed → is_indexed s.program a (at.place + k) name ≡ false)
      → (go : Spot → List ℕ → Bool) (k : ℕ) → k ≤ passed → leads_by s.program go name (step_down s (moved k at)) ≡ false
  no_component passed none go k below =
      ap (leads_by s.program go name) (step_in_array s at a k array)
      ∙ not_led s.program a (at.place + k) a.size name go (held_bounds s at.held a array) (none k below)
