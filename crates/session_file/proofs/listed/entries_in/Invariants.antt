use Rattle.std.proofs.Common.{◌≡◌, ◌≤◌, ℕ, Some, length}
use Rattle.json.specs.Json.{items, value}
use Rattle.serde_json.specs.Read.{converted}
use Rattle.session_file.proofs.PassTurns.{made_of}
use Rattle.session_file.proofs.listed.entries_in.Given as goal
use Rattle.session_file.specs.Listed.{next_listed, nothing_listed}

abbrev pub invariant-items : goal.invariant-items
invariant-items l =
    (n : ℕ) × (length l.reader ≤ n)
    × (converted (made_of next_listed (Some nothing_listed)) (items (value l.depth) (length l.initial.reader) l.initial.reader)
    ≡ converted (made_of next_listed l.listed) (items (value l.depth) n l.reader))
    × (length l.reader ≤ length l.initial.reader)

abbrev pub decreases-items : goal.decreases-items
decreases-items l = length l.reader
