use Rattle.std.proofs.Common.{◌≡◌, ◌≤◌, ℕ, length}
use Rattle.json.specs.Json.{members, value}
use Rattle.serde_json.specs.{Data.Members, Read.converted, Read.of_members, View.members_view}
use Rattle.session_file.proofs.fields.fields_in.Given as goal
use Rattle.session_file.specs.{Passing.members_read, Shown.Shows}

abbrev pub invariant-members : goal.invariant-members
invariant-members l =
    (n : ℕ) × (found : Members) × (length l.reader ≤ n)
    × (members_read l.depth l.initial.reader ≡ converted (λ ms. of_members ms found) (members (value l.depth) n l.reader))
    × Shows (members_view l.fields.entries) found × (length l.reader ≤ length l.initial.reader)

abbrev pub decreases-members : goal.decreases-members
decreases-members l = length l.reader
