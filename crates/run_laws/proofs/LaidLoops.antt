-- One turn of each loop of the test of tables that are laid out.
use Rattle.std.proofs.Common.{if◌then◌else◌, ◌&&◌, ◌+◌, ◌-◌, ◌<◌, ◌||◌, ◌∙◌, ◌≡◌, ◌≤◌, ℕ, Bool, None, Option, Some, ap, arith, false, is_some, length, min}
use Rattle.std.proofs.Common.{nat_eq, refl, suc, sym, true, zero}
use Rattle.core_program.specs.{WholeTables.is_end, declared.program.Routine.Routine, declared.rows.Mode.Mode}
use Rattle.core_program.specs.ProgramRows.{ProgramRows, row_at, type_at}
use Rattle.run_laws.specs.LaidOut.{all_behind, has_place, is_behind, is_name_of, some_has}
use Rattle.run_laws.specs.LaidTests.{and_deeper, and_further_end, and_further_meet, and_inside, and_specs_inside, array_component, is_deep, is_variable_at}
use Rattle.run_laws.specs.LaidTests.{names_end, names_meet, next_actual, next_section, on_if, place_after, schema_of, schema_within, section_end, section_meets}
use Rattle.run_laws.specs.LaidTests.{sections_end, sections_meet, spec_component, spec_stands, specs_before, specs_end, takes_item}
use Rattle.run_laws.specs.ParameterPieces.{name_after}

one_less : (n : ℕ) → 0 < n → n ≡ suc (n - 1)
one_less n h = omega (arith, h)

-- ---- specs

module _ (p : ProgramRows) (n i at : ℕ) (below : i < n) where
  inward : schema_within (n - i) p at ≡ and_inside (schema_within (n - (i + 1)) p) at (is_some (type_at p at)) (spec_component (type_at p at))
  inward = let e : n - i ≡ suc (n - (i + 1)) = omega (arith, below) in ap (λ m. schema_within m p at) e

  added : (s : Option (ℕ × ℕ)) → specs_before i (specs_before 1 s) ≡ specs_before (i + 1) s
  added None = refl
  added (Some s) = let e : i + (1 + s.0) ≡ (i + 1) + s.0 = omega arith in ap (λ k. Some (k, s.1)) e

  pub schema-onward : (component : ℕ) → spec_component (type_at p at) ≡ Some component
      → specs_before i (schema_within (n - i) p at) ≡ specs_before (i + 1) (schema_within (n - (i + 1)) p component)
  schema-onward component h =
      ap (specs_before i) (inward ∙ ap (and_inside (schema_within (n - (i + 1)) p) at (is_some (type_at p at))) h)
      ∙ added (schema_within (n - (i + 1)) p component)

  no_inside : (f : ℕ → Option (ℕ × ℕ)) (there : Bool) → and_inside f at there None ≡ and_inside (λ component. None) at there None
  no_inside f true = refl
  no_inside f false = refl

  pub schema-ends : spec_component (type_at p at) ≡ None
      → specs_before i (schema_within (n - i) p at) ≡ specs_before i (and_inside (λ component. None) at (is_some (type_at p at)) None)
  schema-ends h =
      ap (specs_before i) (inward ∙ ap (and_inside (schema_within (n - (i + 1)) p) at (is_some (type_at p at))) h
      ∙ no_inside (schema_within (n - (i + 1)) p) (is_some (type_at p at)))

pub schema-nowhere : (p : ProgramRows) (n i at : ℕ) → n - i ≡ 0 → specs_before i (schema_within (n - i) p at) ≡ None
schema-nowhere p n i at e = ap (λ m. specs_before i (schema_within m p at)) e

pub schema-begins : (s : Option (ℕ × ℕ)) → specs_before 0 s ≡ s
schema-begins None = refl
schema-begins (Some s) = let e : 0 + s.0 ≡ s.0 = omega arith in ap (λ k. Some (k, s.1)) e

-- ---- arrays in arrays

module _ (p : ProgramRows) (n at : ℕ) where
  deeper : 0 < n → is_deep n p at ≡ and_deeper (is_deep (n - 1) p) (array_component (type_at p at))
  deeper h = ap (λ m. is_deep m p at) (one_less n h)

  pub deep-onward : (component : ℕ) → 0 < n → array_component (type_at p at) ≡ Some component → is_deep n p at ≡ is_deep (n - 1) p component
  deep-onward component h e = deeper h ∙ ap (and_deeper (is_deep (n - 1) p)) e

  pub deep-stops : 0 < n → array_component (type_at p at) ≡ None → is_deep n p at ≡ false
  deep-stops h e = deeper h ∙ ap (and_deeper (is_deep (n - 1) p)) e

  pub deep-nowhere : n ≡ 0 → is_deep n p at ≡ true
  deep-nowhere e = ap (λ m. is_deep m p at) e

pub ruleset deep_loops = (deep-onward, deep-stops, deep-nowhere)

-- ---- names of a section

module _ (p : ProgramRows) (m : Mode) (n of' : ℕ) (first : Bool) (at : ℕ) where
  by_one : 0 < n → names_meet n p m of' first at
      ≡ on_if (takes_item p m of' first (row_at p at)) (names_meet (n - 1) p m of' false (next_actual (row_at p at)))
  by_one h = ap (λ k. names_meet k p m of' first at) (one_less n h)

  pub names-onward : 0 < n → takes_item p m of' first (row_at p at) ≡ true
      → names_meet n p m of' first at ≡ names_meet (n - 1) p m of' false (next_actual (row_at p at))
  names-onward h e = by_one h ∙ ap (λ b. on_if b (names_meet (n - 1) p m of' false (next_actual (row_at p at)))) e

  pub names-stop : 0 < n → takes_item p m of' first (row_at p at) ≡ false → names_meet n p m of' first at ≡ None
  names-stop h e = by_one h ∙ ap (λ b. on_if b (names_meet (n - 1) p m of' false (next_actual (row_at p at)))) e

  pub names-nowhere : n ≡ 0 → names_meet n p m of' first at ≡ Some at
  names-nowhere e = ap (λ k. names_meet k p m of' first at) e

pub ruleset names_loops = (names-onward, names-stop, names-nowhere)

-- ---- sections

module _ (p : ProgramRows) (n section at : ℕ) where
  by_section : 0 < n → sections_meet n p section at
      ≡ and_further_meet (sections_meet (n - 1) p) at (next_section (row_at p section)) (section_meets p (row_at p section) at)
  by_section h = ap (λ k. sections_meet k p section at) (one_less n h)

  pub sections-end : 0 < n → next_section (row_at p section) ≡ None → sections_meet n p section at ≡ is_end at
  sections-end h e = by_section h ∙ ap (λ o. and_further_meet (sections_meet (n - 1) p) at o (section_meets p (row_at p section) at)) e

  pub sections-stop : (next : ℕ) → 0 < n → next_section (row_at p section) ≡ Some next → section_meets p (row_at p section) at ≡ None
      → sections_meet n p section at ≡ false
  sections-stop next h e f = by_section h ∙ ap (λ o. and_further_meet (sections_meet (n - 1) p) at o (section_meets p (row_at p section) at)) e
      ∙ ap (λ o. and_further_meet (sections_meet (n - 1) p) at (Some next) o) f

  pub sections-onward : (next after : ℕ) → 0 < n → next_section (row_at p section) ≡ Some next → section_meets p (row_at p section) at ≡ Some after
      → sections_meet n p section at ≡ sections_meet (n - 1) p next after
  sections-onward next after h e f = by_section h ∙ ap (λ o. and_further_meet (sections_meet (n - 1) p) at o (section_meets p (row_at p section) at)) e
      ∙ ap (λ o. and_further_meet (sections_meet (n - 1) p) at (Some next) o) f

  pub sections-nowhere : n ≡ 0 → sections_meet n p section at ≡ false
  sections-nowhere e = ap (λ k. sections_meet k p section at) e

pub ruleset sections_loops = (sections-onward, sections-end, sections-stop, sections-nowhere)

-- ---- places of bounds

module _ (p : ProgramRows) (n at place : ℕ) where
  by_spec : 0 < n → specs_end n p at place
      ≡ and_specs_inside (specs_end (n - 1) p) place (is_some (type_at p at)) (spec_component (type_at p at)) (spec_stands p at place (type_at p at))
  by_spec h = ap (λ k. specs_end k p at place) (one_less n h)

  with_component : (component : Option ℕ) → 0 < n → spec_component (type_at p at) ≡ component → specs_end n p at place
      ≡ and_specs_inside (specs_end (n - 1) p) place (is_some (type_at p at)) component (spec_stands p at place (type_at p at))
  with_component component h e =
      by_spec h ∙ ap (λ o. and_specs_inside (specs_end (n - 1) p) place (is_some (type_at p at)) o (spec_stands p at place (type_at p at))) e

  pub specs-found : 0 < n → spec_component (type_at p at) ≡ None → is_some (type_at p at) ≡ true → specs_end n p at place ≡ Some place
  specs-found h e f = with_component None h e ∙ ap (λ b. and_specs_inside (specs_end (n - 1) p) place b None (spec_stands p at place (type_at p at))) f

  pub specs-missing : 0 < n → spec_component (type_at p at) ≡ None → is_some (type_at p at) ≡ false → specs_end n p at place ≡ None
  specs-missing h e f = with_component None h e ∙ ap (λ b. and_specs_inside (specs_end (n - 1) p) place b None (spec_stands p at place (type_at p at))) f

  pub specs-stop : (component : ℕ) → 0 < n → spec_component (type_at p at) ≡ Some component → spec_stands p at place (type_at p at) ≡ false
      → specs_end n p at place ≡ None
  specs-stop component h e f = with_component (Some component) h e ∙ ap (λ b. on_if b (specs_end (n - 1) p component (place_after place 2))) f

  pub specs-onward : (component : ℕ) → 0 < n → spec_component (type_at p at) ≡ Some component → spec_stands p at place (type_at p at) ≡ true
      → specs_end n p at place ≡ specs_end (n - 1) p component (place_after place 2)
  specs-onward component h e f = with_component (Some component) h e ∙ ap (λ b. on_if b (specs_end (n - 1) p component (place_after place 2))) f

  pub specs-nowhere : n ≡ 0 → specs_end n p at place ≡ None
  specs-nowhere e = ap (λ k. specs_end k p at place) e

pub ruleset specs_loops = (specs-onward, specs-found, specs-missing, specs-stop, specs-nowhere)

-- ---- places of names

module _ (p : ProgramRows) (m : Mode) (n cells token place : ℕ) where
  one_name : 0 < n → names_end n p m cells token place
      ≡ on_if (is_variable_at m place (row_at p token)) (names_end (n - 1) p m cells (name_after token) (place_after place cells))
  one_name h = ap (λ k. names_end k p m cells token place) (one_less n h)

  pub ends-onward : 0 < n → is_variable_at m place (row_at p token) ≡ true
      → names_end n p m cells token place ≡ names_end (n - 1) p m cells (name_after token) (place_after place cells)
  ends-onward h e = one_name h ∙ ap (λ b. on_if b (names_end (n - 1) p m cells (name_after token) (place_after place cells))) e

  pub ends-stop : 0 < n → is_variable_at m place (row_at p token) ≡ false → names_end n p m cells token place ≡ None
  ends-stop h e = one_name h ∙ ap (λ b. on_if b (names_end (n - 1) p m cells (name_after token) (place_after place cells))) e

  pub ends-nowhere : n ≡ 0 → names_end n p m cells token place ≡ Some place
  ends-nowhere e = ap (λ k. names_end k p m cells token place) e

pub ruleset name_ends = (ends-onward, ends-stop, ends-nowhere)

-- ---- places of sections

module _ (p : ProgramRows) (n section place : ℕ) where
  one_section : 0 < n → sections_end n p section place
      ≡ and_further_end (sections_end (n - 1) p) place (next_section (row_at p section)) (section_end p (row_at p section) place)
  one_section h = ap (λ k. sections_end k p section place) (one_less n h)

  pub last-end : 0 < n → next_section (row_at p section) ≡ None → sections_end n p section place ≡ Some place
  last-end h e = one_section h ∙ ap (λ o. and_further_end (sections_end (n - 1) p) place o (section_end p (row_at p section) place)) e

  pub last-stop : (next : ℕ) → 0 < n → next_section (row_at p section) ≡ Some next → section_end p (row_at p section) place ≡ None
      → sections_end n p section place ≡ None
  last-stop next h e f = one_section h ∙ ap (λ o. and_further_end (sections_end (n - 1) p) place o (section_end p (row_at p section) place)) e
      ∙ ap (λ o. and_further_end (sections_end (n - 1) p) place (Some next) o) f

  pub last-onward : (next after : ℕ) → 0 < n → next_section (row_at p section) ≡ Some next → section_end p (row_at p section) place ≡ Some after
      → sections_end n p section place ≡ sections_end (n - 1) p next after
  last-onward next after h e f = one_section h ∙ ap (λ o. and_further_end (sections_end (n - 1) p) place o (section_end p (row_at p section) place)) e
      ∙ ap (λ o. and_further_end (sections_end (n - 1) p) place (Some next) o) f

  pub last-nowhere : n ≡ 0 → sections_end n p section place ≡ None
  last-nowhere e = ap (λ k. sections_end k p section place) e

pub ruleset section_ends = (last-onward, last-end, last-stop, last-nowhere)

-- ---- variables of blocks

module _ (p : ProgramRows) (number : ℕ) (r : Routine) (n : ℕ) where
  back_one : 0 < n → all_behind p number r n ≡ (if is_name_of (row_at p (n - 1)) number r.name then true
      else is_behind r.level r.parameters (row_at p (n - 1)) && all_behind p number r (n - 1))
  back_one h = ap (all_behind p number r) (one_less n h)

  past_name : 0 < n → is_name_of (row_at p (n - 1)) number r.name ≡ false
      → all_behind p number r n ≡ (is_behind r.level r.parameters (row_at p (n - 1)) && all_behind p number r (n - 1))
  past_name h e =
      back_one h ∙ ap (λ b. if b then true else is_behind r.level r.parameters (row_at p (n - 1)) && all_behind p number r (n - 1)) e

  pub behind-begins : 0 < n → is_name_of (row_at p (n - 1)) number r.name ≡ true → all_behind p number r n ≡ true
  behind-begins h e =
      back_one h ∙ ap (λ b. if b then true else is_behind r.level r.parameters (row_at p (n - 1)) && all_behind p number r (n - 1)) e

  pub behind-stops : 0 < n → is_name_of (row_at p (n - 1)) number r.name ≡ false → is_behind r.level r.parameters (row_at p (n - 1)) ≡ false
      → all_behind p number r n ≡ false
  behind-stops h e f = past_name h e ∙ ap (λ b. b && all_behind p number r (n - 1)) f

  pub behind-onward : 0 < n → is_name_of (row_at p (n - 1)) number r.name ≡ false → is_behind r.level r.parameters (row_at p (n - 1)) ≡ true
      → all_behind p number r n ≡ all_behind p number r (n - 1)
  behind-onward h e f = past_name h e ∙ ap (λ b. b && all_behind p number r (n - 1)) f

  pub behind-nowhere : n ≡ 0 → all_behind p number r n ≡ true
  behind-nowhere e = ap (all_behind p number r) e

pub ruleset behind_loops = (behind-onward, behind-begins, behind-stops, behind-nowhere)

module _ (p : ProgramRows) (number : ℕ) (r : Routine) (place n : ℕ) where
  one_back : 0 < n → some_has p number r place n ≡ (if is_name_of (row_at p (n - 1)) number r.name then false
      else has_place r.level place (row_at p (n - 1)) || some_has p number r place (n - 1))
  one_back h = ap (some_has p number r place) (one_less n h)

  name_past : 0 < n → is_name_of (row_at p (n - 1)) number r.name ≡ false
      → some_has p number r place n ≡ (has_place r.level place (row_at p (n - 1)) || some_has p number r place (n - 1))
  name_past h e =
      one_back h ∙ ap (λ b. if b then false else has_place r.level place (row_at p (n - 1)) || some_has p number r place (n - 1)) e

  pub place-begins : 0 < n → is_name_of (row_at p (n - 1)) number r.name ≡ true → some_has p number r place n ≡ false
  place-begins h e =
      one_back h ∙ ap (λ b. if b then false else has_place r.level place (row_at p (n - 1)) || some_has p number r place (n - 1)) e

  pub place-found : 0 < n → is_name_of (row_at p (n - 1)) number r.name ≡ false → has_place r.level place (row_at p (n - 1)) ≡ true
      → some_has p number r place n ≡ true
  place-found h e f = name_past h e ∙ ap (λ b. b || some_has p number r place (n - 1)) f

  pub place-onward : 0 < n → is_name_of (row_at p (n - 1)) number r.name ≡ false → has_place r.level place (row_at p (n - 1)) ≡ false
      → some_has p number r place n ≡ some_has p number r place (n - 1)
  place-onward h e f = name_past h e ∙ ap (λ b. b || some_has p number r place (n - 1)) f

  pub place-nowhere : n ≡ 0 → some_has p number r place n ≡ false
  place-nowhere e = ap (some_has p number r place) e

pub ruleset place_loops = (place-onward, place-begins, place-found, place-nowhere)

pub ruleset schema_loops = (schema-onward, schema-ends, schema-nowhere, schema-begins)
