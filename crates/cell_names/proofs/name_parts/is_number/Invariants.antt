use Rattle.std.proofs.Common.{◌≡◌, ◌≤◌, bytes_eq, decimal, length, take}
use Rattle.cell_names.proofs.name_parts.is_number.Given as goal

abbrev pub decreases-digits : goal.decreases-digits
decreases-digits l = l.left

abbrev pub invariant-digits : goal.invariant-digits
invariant-digits l = record {
  inside : l.end ≤ length l.text;
  so_far : bytes_eq (decimal l.left) (take l.end l.text) ≡ bytes_eq (decimal l.number) l.text;
}
