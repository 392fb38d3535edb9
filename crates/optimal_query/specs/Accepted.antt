-- What a list of commands leaves standing, read from the commands that were accepted: an entry stands if no accepted
-- command took it back. No list of entries with flags is kept here, as a book keeps one.
use Rattle.std.specs.Prelude.{if◌then◌else◌, ◌&&◌, ◌++◌, ◌+◌, ◌==◌, ◌∷◌, ◌≡◌, [], ℕ, Bool, List, None, Option, Some}
use Rattle.std.specs.Prelude.{false, filter, length, nat_le, not, option_map, true}
use Rattle.std.specs.List.{filter_map, list_any}
use Rattle.call_tree.specs.Recording.{Recording}
use Rattle.answer_book.specs.Numbers.{last_where, numbers_below}
use Rattle.answer_book.specs.declared.entries.{Entry.Entry, Judgement.TheVariants.Wrong}
use Rattle.answer_book.specs.declared.entries.What.{What, TheVariants.Judged, TheVariants.Trusted}
use Rattle.optimal_query.specs.{Search.answers_in, Search.search_over, Standing.searched}
use Rattle.optimal_query.specs.Standing.{Command, Judge, TakeBack, TakeBackLast, Trust, after_commands, answers_after}

-- what an accepted command does: it makes the entry of this number, which says this, or takes back the entry of this
-- number
pub data CommandAct : Type 0 where
  Made : (number : ℕ) (what : What) → CommandAct
  TookBack : (number : ℕ) → CommandAct

-- whether it made an entry, the entry of this number, or took that one back
abbrev pub makes : CommandAct → Bool
makes (Made number what) = true
makes (TookBack number) = false

abbrev pub made : ℕ → CommandAct → Bool
made number (Made other what) = other == number
made number (TookBack other) = false

abbrev pub took_back : ℕ → CommandAct → Bool
took_back number (Made other what) = false
took_back number (TookBack other) = other == number

-- whether one of these acts took back the entry of this number
abbrev pub is_taken_back : List CommandAct → ℕ → Bool
is_taken_back acts number = list_any (took_back number) acts

-- an entry stands if one of these acts made it and none took it back
abbrev pub stands : List CommandAct → ℕ → Bool
stands acts number = list_any (made number) acts && not (is_taken_back acts number)

-- how many entries they made
abbrev pub number_made : List CommandAct → ℕ
number_made acts = length (filter makes acts)

-- what the entries that stand say, first to last
abbrev pub said_unless : (ℕ → Bool) → CommandAct → Option What
said_unless taken_back (Made number what) = if taken_back number then None else Some what
said_unless taken_back (TookBack number) = None

abbrev pub standing_after : List CommandAct → List What
standing_after acts = filter_map (said_unless (is_taken_back acts)) acts

-- the entries, first to last, with whether they stand
abbrev pub entry_unless : (ℕ → Bool) → CommandAct → Option Entry
entry_unless taken_back (Made number what) = Some (record { what = what; standing = not (taken_back number) })
entry_unless taken_back (TookBack number) = None

abbrev pub entries_after : List CommandAct → List Entry
entries_after acts = filter_map (entry_unless (is_taken_back acts)) acts

-- a new entry, if there is room for it: there is room for 100,000 entries, counting those that were taken back
abbrev pub new_entry : List CommandAct → What → Option CommandAct
new_entry acts what = if nat_le 100000 (number_made acts) then None else Some (Made (number_made acts + 1) what)

-- what a command does after these acts, in a search over this many calls of this many routines; nothing where it is
-- refused
abbrev pub act_of : ℕ → ℕ → List CommandAct → Command → Option CommandAct
act_of calls routines acts (Judge call judgement) =
    if nat_le calls call then None else new_entry acts (Judged call judgement)
act_of calls routines acts (Trust routine) = if nat_le routines routine then None else new_entry acts (Trusted routine)
act_of calls routines acts (TakeBack number) = if stands acts number then Some (TookBack number) else None
act_of calls routines acts TakeBackLast =
    option_map TookBack (last_where (stands acts) (numbers_below (number_made acts + 1)))

abbrev pub and_then : List CommandAct → Option CommandAct → List CommandAct
and_then acts None = acts
and_then acts (Some act) = acts ++ act ∷ []

-- what the accepted ones of these commands do, first to last, after these acts
abbrev pub acts_after : ℕ → ℕ → List CommandAct → List Command → List CommandAct
acts_after calls routines acts [] = acts
acts_after calls routines acts (command ∷ commands) =
    acts_after calls routines (and_then acts (act_of calls routines acts command)) commands

-- and in a search over a run: entry 1 says that call 0 is wrong
abbrev pub acts_in : Recording → List Command → List CommandAct
acts_in run commands = acts_after (length run.calls) run.routines (Made 1 (Judged 0 Wrong) ∷ []) commands

-- the entries of the search are those that these commands make, and the answers that stand are those which no accepted
-- command took back
pub record StandUnlessTakenBack (run : Recording) (commands : List Command) : Type 0 where
  pub entries : (searched run commands).book.entries ≡ entries_after (acts_in run commands)
  pub answers : answers_after run commands ≡ standing_after (acts_in run commands)

abbrev pub EntriesStandUnlessTakenBack : Type 0
EntriesStandUnlessTakenBack = (run : Recording) (commands : List Command) → StandUnlessTakenBack run commands

-- ---- a search that begins with entries, as one that goes on with a saved session

-- acts that give these entries, of which the first has this number: each is made, and is taken back if it does not
-- stand
abbrev pub acts_from : ℕ → List Entry → List CommandAct
acts_from number [] = []
acts_from number (entry ∷ entries) =
    Made number entry.what ∷ (if entry.standing then acts_from (number + 1) entries
    else TookBack number ∷ acts_from (number + 1) entries)

abbrev pub acts_giving : List Entry → List CommandAct
acts_giving entries = acts_from 1 entries

-- and what these commands do after them
abbrev pub acts_since : Recording → List Entry → List Command → List CommandAct
acts_since run first commands = acts_after (length run.calls) run.routines (acts_giving first) commands

-- These acts give the entries that the search begins with. The entries after these commands are those that all acts
-- make, and the answers that stand are those which no act took back.
pub record StandAfterEntries (run : Recording) (first : List Entry) (commands : List Command) : Type 0 where
  pub given : entries_after (acts_giving first) ≡ first
  pub entries : (after_commands (search_over run first) commands).book.entries
      ≡ entries_after (acts_since run first commands)
  pub answers : answers_in (after_commands (search_over run first) commands)
      ≡ standing_after (acts_since run first commands)

abbrev pub GivenEntriesStandUnlessTakenBack : Type 0
GivenEntriesStandUnlessTakenBack =
    (run : Recording) (first : List Entry) (commands : List Command) → StandAfterEntries run first commands
