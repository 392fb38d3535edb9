use Rattle.std.proofs.Common.{◌*◌, ◌+◌, ◌≡◌, ◌≤◌, ℕ, length}
use Rattle.std.specs.Prelude.{⊤}
use Rattle.json.specs.Json.{items, members, value}
use Rattle.serde_json.specs.{Data.Members, Read.converted, Read.of_members}
use Rattle.session_file.proofs.PassTurns.{made_of}
use Rattle.session_file.proofs.passing.+pass.Given as goal
use Rattle.session_file.specs.Passing.{members_read}

abbrev pub decreases-pass_rest : goal.decreases-pass_rest
decreases-pass_rest l = 3 * l.depth

abbrev pub decreases-pass : goal.decreases-pass
decreases-pass l = 3 * l.depth + 1

abbrev pub decreases-pass_items : goal.decreases-pass_items
decreases-pass_items l = 3 * l.depth + 2

abbrev pub decreases-pass_members : goal.decreases-pass_members
decreases-pass_members l = 3 * l.depth + 2

abbrev pub invariant-pass_items-items : goal.invariant-pass_items-items
invariant-pass_items-items l =
    (n : ℕ) × (length l.reader ≤ n)
    × (converted (made_of {S = ⊤} (λ _ _. tt) tt) (items (value l.depth) (length l.initial.reader) l.initial.reader)
    ≡ converted (made_of {S = ⊤} (λ _ _. tt) tt) (items (value l.depth) n l.reader))
    × (length l.reader ≤ length l.initial.reader)

abbrev pub decreases-pass_items-items : goal.decreases-pass_items-items
decreases-pass_items-items l = length l.reader

abbrev pub invariant-pass_members-members : goal.invariant-pass_members-members
invariant-pass_members-members l =
    (n : ℕ) × (found : Members) × (length l.reader ≤ n)
    × (members_read l.depth l.initial.reader ≡ converted (λ ms. of_members ms found) (members (value l.depth) n l.reader))
    × (length l.reader ≤ length l.initial.reader)

abbrev pub decreases-pass_members-members : goal.decreases-pass_members-members
decreases-pass_members-members l = length l.reader
