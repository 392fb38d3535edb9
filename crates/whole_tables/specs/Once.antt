-- No two constructs have a part in common, and none has one twice.
use Rattle.std.specs.Prelude.{◌≡◌, ℕ, Some, false}
use Rattle.core_program.specs.{ProgramRows.ProgramRows, WholeTables.may_share, WholeTables.part_at}

abbrev pub IsOnce : ProgramRows → Type 0
IsOnce p = (a i b j n : ℕ) → part_at p a i ≡ Some n → part_at p b j ≡ Some n → may_share p a b n ≡ false
    → (a ≡ b) × (i ≡ j)
