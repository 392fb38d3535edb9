use Rattle.std.proofs.Common.{◌≡◌, ◌≤◌, ℕ, length}
use Rattle.json.specs.Json.{members, value}
use Rattle.serde_json.specs.{Data.Members, Read.converted, Read.of_members}
use Rattle.session_file.proofs.parts.parts_in.Given as goal
use Rattle.session_file.specs.{Parts.AreParts, Passing.members_read}

abbrev pub invariant-members : goal.invariant-members
invariant-members l =
    (n : ℕ) × (found : Members) × (length l.reader ≤ n)
    × (members_read l.depth l.initial.reader ≡ converted (λ ms. of_members ms found) (members (value l.depth) n l.reader))
    × AreParts l.parts found × (length l.reader ≤ length l.initial.reader)

abbrev pub decreases-members : goal.decreases-members
decreases-members l = length l.reader
