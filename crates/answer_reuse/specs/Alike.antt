-- Calls that are alike: they were given the same, and found the same of all that they looked at, so that they did the
-- same. Each is judged once for all.
use Rattle.std.specs.Prelude.{◌&&◌, ◌+◌, ◌<◌, ◌||◌, ◌∷◌, ◌≡◌, [], ℕ, Bool, List, Option, Some, false, nat_eq, slice_get}
use Rattle.std.specs.Prelude.{true}
use Rattle.cell_value.specs.Effects.{changes_of, given_of, looked_of, made_of, reads_of, taken_of}
use Rattle.cell_value.specs.declared.entries.Seen.{Seen, TheVariants.Absent, TheVariants.Held, TheVariants.There}
use Rattle.core_program.specs.{Agree.EndedByItself, Replay.same_args, Replay.same_value, Run.Call}
use Rattle.body_replay.specs.Agreement.{are_same_items, ended_by_itself}

-- Two calls are alike. What they wrote is not asked, nor how many steps they took or calls they made.
pub record Alike (c d : Call) : Type 0 where
  -- each ended by itself, by a jump or by a fault
  pub way : EndedByItself c.way × EndedByItself d.way
  pub routine : c.routine ≡ d.routine
  pub args : c.args ≡ d.args
  pub top : c.entry.top ≡ d.entry.top
  -- where one of them made cells of the heap, both found the heap as long
  pub fresh : 0 < made_of c.log + made_of d.log → c.entry.fresh ≡ d.entry.fresh
  -- what they read and asked of the cells that they share with their callers
  pub reads : reads_of c.base c.log ≡ reads_of d.base d.log
  -- how far they looked into the input, its end included, and what they saw there
  pub looked : looked_of c.entry.place c.log ≡ looked_of d.entry.place d.log
  pub items : (n : ℕ) → n < looked_of c.entry.place c.log
      → slice_get c.entry.items (c.entry.place + n) ≡ slice_get d.entry.items (d.entry.place + n)

-- Two calls ended the same way, with the same result, and had the same effect.
pub record DidTheSame (c d : Call) : Type 0 where
  pub way : c.way ≡ d.way
  pub result : c.result ≡ d.result
  pub changes : changes_of c.base c.log ≡ changes_of d.base d.log
  pub made : made_of c.log ≡ made_of d.log
  pub taken : taken_of c.log ≡ taken_of d.log
  pub given : given_of c.log ≡ given_of d.log

-- ---- the same as a test, line by line

abbrev pub is_same_seen : Seen → Seen → Bool
is_same_seen (Held v) (Held w) = same_value v w
is_same_seen There There = true
is_same_seen Absent Absent = true
is_same_seen s t = false

abbrev pub are_same_reads : List (ℕ × Seen) → List (ℕ × Seen) → Bool
are_same_reads [] [] = true
are_same_reads ((addr, s) ∷ reads) ((other, t) ∷ others) =
    nat_eq addr other && (is_same_seen s t && are_same_reads reads others)
are_same_reads reads others = false

unfoldable pub are_alike : (c d : Call) → Bool
are_alike c d =
    (ended_by_itself c.way && ended_by_itself d.way)
    && (nat_eq c.routine d.routine
    && (same_args c.args d.args
    && (nat_eq c.entry.top d.entry.top
    && ((nat_eq (made_of c.log + made_of d.log) 0 || nat_eq c.entry.fresh d.entry.fresh)
    && (are_same_reads (reads_of c.base c.log) (reads_of d.base d.log)
    && (nat_eq (looked_of c.entry.place c.log) (looked_of d.entry.place d.log)
    && are_same_items c.entry.items c.entry.place d.entry.items d.entry.place (looked_of c.entry.place c.log)))))))

abbrev pub are_alike_at : Option Call → Option Call → Bool
are_alike_at (Some c) (Some d) = are_alike c d
are_alike_at c d = false

-- whether the calls of these numbers are alike: each call is alike to itself
abbrev pub is_alike : List Call → (j k : ℕ) → Bool
is_alike calls j k = nat_eq j k || are_alike_at (slice_get calls j) (slice_get calls k)
