-- How many values types have, and how many cells.
use Rattle.std.specs.Prelude.{if◌then◌else◌, ◌&&◌, ◌*◌, ◌+◌, ◌-ℤ◌, ℕ, ℤ, Bool, None, Option, Some, false, nat_lt, pos}
use Rattle.std.specs.{Prelude.true, Int.RustNames.int_le, Int.RustNames.unsigned_abs}
use Rattle.core_program.specs.ProgramRows.{size_of}
use Rattle.core_program.specs.declared.rows.TypeRow.{TypeRow, TheVariants.Ordinal, TheVariants.Subrange}
use Rattle.check_steps.specs.Known.{Known, type_at}

-- sizes of types, and offsets in them: 65,537 stands for more than 65,536
abbrev pub capped : ℕ → ℕ
capped n = if nat_lt n 65537 then n else 65537

-- sizes of frames, and places in them: 524,289 stands for more than 524,288
abbrev pub frame_capped : ℕ → ℕ
frame_capped n = if nat_lt n 524289 then n else 524289

-- how many values there are from one to another
abbrev pub values_from : ℤ → ℤ → ℕ
values_from first last = if int_le first last then capped (unsigned_abs (last -ℤ first) + 1) else 0

-- how many values an ordinal type has
abbrev pub values_in : Option TypeRow → ℕ
values_in (Some (Ordinal least greatest)) = values_from least greatest
values_in (Some (Subrange host least greatest)) = values_from least greatest
values_in t = 0

-- the cells of an array: as many components as the index type has values
abbrev pub array_cells : Known → ℕ → ℕ → ℕ
array_cells k index component = capped (values_in (type_at k index) * size_of k.program component)

-- A type of which nothing is known breaks no further rule.
abbrev pub is_ordinal : Option TypeRow → Bool
is_ordinal None = true
is_ordinal (Some (Ordinal least greatest)) = true
is_ordinal (Some (Subrange host least greatest)) = true
is_ordinal (Some t) = false

abbrev pub is_byte : ℤ → ℤ → Bool
is_byte least greatest = int_le (pos 0) least && int_le greatest (pos 255)

-- whether all values of an ordinal type are within 0 to 255
abbrev pub is_within_bytes : Option TypeRow → Bool
is_within_bytes (Some (Ordinal least greatest)) = is_byte least greatest
is_within_bytes (Some (Subrange host least greatest)) = is_byte least greatest
is_within_bytes t = true

abbrev pub host_in : Option TypeRow → ℕ → ℕ
host_in (Some (Subrange host least greatest)) t = host
host_in r t = t

-- the type itself, or that of a subrange's constants
abbrev pub host_of : Known → ℕ → ℕ
host_of k t = host_in (type_at k t) t
