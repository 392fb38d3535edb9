-- The specs of a schema, one after another.
use Rattle.std.proofs.Common.{◌+◌, ◌-◌, ◌<◌, ◌∙◌, ◌≡◌, ◌≤◌, ℕ, Option, ap, arith, false, refl, suc, sym, zero}
use Rattle.core_program.specs.ProgramRows.{ProgramRows, type_at}
use Rattle.cell_names.specs.Conformant.{Arguments, cells_by, cells_held, cells_within, is_sought, most_specs, sought_by, sought_here, spec_in}
use Rattle.cell_names.specs.declared.{conformant.Sought.Sought, conformant.SpecIndices.SpecIndices, names.Held.Held}

pub most_is : most_specs ≡ 1048576
unfolding most_specs
most_is = refl

left : (taken : ℕ) → taken < 1048576 → most_specs - taken ≡ suc (most_specs - (taken + 1))
unfolding most_specs
left taken below = omega (arith, below)

none_left : (taken : ℕ) → 1048576 ≤ taken → most_specs - taken ≡ zero
unfolding most_specs
none_left taken past = omega (arith, past)

pub all_left : most_specs - 0 ≡ most_specs
all_left = omega arith

module _ (p : ProgramRows) (args : Arguments) where
  -- the cells by one more spec, or by the type of a component
  pub cells_on : (call many of' taken : ℕ) (o : Option SpecIndices) → taken < 1048576 → o ≡ spec_in p args call (type_at p of')
      → cells_by (cells_within (most_specs - (taken + 1)) p args call) p many of' o ≡ cells_within (most_specs - taken) p args call many of'
  cells_on call many of' taken o below is =
      ap (cells_by (cells_within (most_specs - (taken + 1)) p args call) p many of') is
      ∙ ap (λ n. cells_within n p args call many of') (sym (left taken below))

  pub cells_begin : (call of' : ℕ) → cells_within (most_specs - 0) p args call 1 of' ≡ cells_held p args call of'
  unfolding cells_held
  cells_begin call of' = ap (λ n. cells_within n p args call 1 of') all_left

  pub cells_out : (call many of' taken : ℕ) → 1048576 ≤ taken → 0 ≡ cells_within (most_specs - taken) p args call many of'
  cells_out call many of' taken past = ap (λ n. cells_within n p args call many of') (sym (none_left taken past))

  -- what is wanted and what was found, or their components
  pub sought_on : (wanted found : Held) (taken : ℕ) (x : Sought) → taken < 1048576 → x ≡ sought_here p args wanted found
      → sought_by (is_sought (most_specs - (taken + 1)) p args) x ≡ is_sought (most_specs - taken) p args wanted found
  sought_on wanted found taken x below is =
      ap (sought_by (is_sought (most_specs - (taken + 1)) p args)) is ∙ ap (λ n. is_sought n p args wanted found) (sym (left taken below))

  pub sought_out : (wanted found : Held) (taken : ℕ) → 1048576 ≤ taken → false ≡ is_sought (most_specs - taken) p args wanted found
  sought_out wanted found taken past = ap (λ n. is_sought n p args wanted found) (sym (none_left taken past))
