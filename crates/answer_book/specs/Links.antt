-- The entries on one call, of trust in one routine, or all of them, linked from the last one back by their numbers; 0
-- is no entry.
use Rattle.std.specs.Prelude.{if◌then◌else◌, ◌&&◌, ◌++◌, ◌+◌, ◌-◌, ◌<◌, ◌==◌, ◌∷◌, ◌≡◌, [], ℕ, Bool, List, None, Option}
use Rattle.std.specs.Prelude.{Some, false, length, not, replicate, slice_index, slice_set}
use Rattle.std.specs.Option.{option_and_then}
use Rattle.answer_book.specs.{Entries.entry_at, Spoken.entry_judgement}
use Rattle.answer_book.specs.declared.{entries.Entry.Entry, entries.Judgement.Judgement, entry_links.Subject.Subject}
use Rattle.answer_book.specs.declared.entries.What.{What, TheVariants.Judged, TheVariants.Trusted}
use Rattle.answer_book.specs.declared.entry_links.Subject.TheVariants.{Any, Call, Routine}

-- what the chains are about, for each entry that is on a chain the one before it, and for each chain the last one
pub record Links : Type 0 where
  pub subject : Subject
  pub before : List ℕ
  pub last : List ℕ

-- the chain on which an entry is that says this: that of the call that it judges, that of the routine that it trusts,
-- or the one of all entries
abbrev pub place_of : Subject → What → Option ℕ
place_of Call (Judged call judgement) = Some call
place_of Call (Trusted routine) = None
place_of Routine (Judged call judgement) = None
place_of Routine (Trusted routine) = Some routine
place_of Any what = Some 0

abbrev pub is_place : (place : ℕ) → Option ℕ → Bool
is_place place None = false
is_place place (Some other) = other == place

-- what an entry says, while it stands and is on the chain
abbrev pub said_on : Subject → (place : ℕ) → Entry → Option What
said_on subject place entry =
    if entry.standing && is_place place (place_of subject entry.what) then Some entry.what else None

-- the chain on which the entry of this number is, whether or not it stands
abbrev pub place_at : Subject → List Entry → (number : ℕ) → Option ℕ
place_at subject entries number = option_and_then (λ entry. place_of subject entry.what) (entry_at entries number)

-- what the entry of this number says, while it stands and is on the chain
abbrev pub said_at : Subject → List Entry → (place number : ℕ) → Option What
said_at subject entries place number = option_and_then (said_on subject place) (entry_at entries number)

-- the judgement on the call that the entry of this number gives, while it stands
abbrev pub judgement_at : List Entry → (call number : ℕ) → Option Judgement
judgement_at entries call number = option_and_then (entry_judgement call) (entry_at entries number)

abbrev pub is_taken_back_entry : Option Entry → Bool
is_taken_back_entry None = false
is_taken_back_entry (Some entry) = not entry.standing

-- whether the entry of this number was made and taken back
abbrev pub was_taken_back : List Entry → (number : ℕ) → Bool
was_taken_back entries number = is_taken_back_entry (entry_at entries number)

-- from a number back to an earlier entry on the chain, if there is one, past none on it that stands
pub record LeadsBack (subject : Subject) (entries : List Entry) (place from to : ℕ) : Type 0 where
  pub earlier : to < from
  pub on_chain : 0 < to → place_at subject entries to ≡ Some place
  pub none_between : (number : ℕ) → to < number → number < from → said_at subject entries place number ≡ None

-- each entry leads back on its chain, and so does the end of the entries on each chain
pub record AreLinked (entries : List Entry) (links : Links) : Type 0 where
  pub each : length links.before ≡ length entries
  pub before : (number place : ℕ) → place_at links.subject entries number ≡ Some place
      → LeadsBack links.subject entries place number (slice_index links.before (number - 1))
  pub last : (place : ℕ) → place < length links.last
      → LeadsBack links.subject entries place (length entries + 1) (slice_index links.last place)

-- and there are this many chains of this kind
pub record AreLinkedBy (kind : Subject) (many : ℕ) (entries : List Entry) (links : Links) : Type 0 where
  pub linked : AreLinked entries links
  pub subject : links.subject ≡ kind
  pub chains : length links.last ≡ many

-- the number of the last entry on the chain that stands, 0 if there is none
pub record IsLastOn (subject : Subject) (entries : List Entry) (place number : ℕ) : Type 0 where
  pub leads : LeadsBack subject entries place (length entries + 1) number
  pub stands : was_taken_back entries number ≡ false

-- the links of this many chains before anything is said
abbrev pub no_links : Subject → (chains : ℕ) → Links
no_links subject chains = record { subject = subject; before = []; last = replicate chains 0 }

abbrev pub links_at : Links → Option ℕ → (standing : Bool) → Links
links_at links (Some place) standing = record {
  subject = links.subject;
  before = links.before ++ slice_index links.last place ∷ [];
  last = if standing then slice_set links.last place (length links.before + 1) else links.last;
}
links_at links None standing =
    record { subject = links.subject; before = links.before ++ 0 ∷ []; last = links.last }

-- the links with those of one entry more
abbrev pub links_with : Links → Entry → Links
links_with links entry = links_at links (place_of links.subject entry.what) entry.standing

-- the links where the last entry on a chain was found anew
abbrev pub links_found : Links → (place number : ℕ) → Links
links_found links place number = record links { last = slice_set links.last place number }
