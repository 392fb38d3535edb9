-- Where jumps out of calls lead.
use Rattle.std.specs.Prelude.{◌+◌, ◌≡◌, ◌⊎◌, ℕ, All}
use Rattle.cell_value.specs.declared.ways_out.WayOut.{WayOut}
use Rattle.core_program.specs.{Run.Call, RunLaws.OfEachCall}

-- A jump out of a call that this one made leads into this one's frame; or else this one ends by the same jump.
abbrev pub LeadsOutward : (outer inner : Call) → Type 0
LeadsOutward outer inner = (label base : ℕ) → inner.way ≡ WayOut.Jumped label base
    → (base ≡ outer.base) ⊎ (outer.way ≡ WayOut.Jumped label base)

-- So it is with the calls that each call of each run made: those below it that stand one deeper.
abbrev pub JumpsLeadOutward : Type 0
JumpsLeadOutward = OfEachCall (λ p number c below. All (λ d. d.depth ≡ c.depth + 1 → LeadsOutward c d) below)
