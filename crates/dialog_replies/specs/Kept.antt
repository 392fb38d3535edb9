-- How a search keeps what a dialog is about.
use Rattle.std.specs.Prelude.{◌<◌, ◌≡◌, [], ℕ, List, None, Option, Some, length}
use Rattle.std.specs.{BTreeMap.get, Ordering.nat_cmp}
use Rattle.call_tree.specs.Recording.{Recording}
use Rattle.optimal_query.specs.Search.{Search}
use Rattle.dialog_replies.specs.{Said.Said, Said.digest_on, Subject.Subject, Subject.calls_recorded, Subject.tree_of}
use Rattle.dialog_replies.specs.declared.{dialogs.Dialog.Dialog, questions.Digests.Digests}

-- it is a search over the calls of the run, of which there is one at least
pub record IsSearchOf (s : Subject) (search : Search) : Type 0 where
  pub last : search.last ≡ s.tree.last
  pub routine : search.book.routine ≡ s.tree.routine
  pub routines : search.book.routines ≡ s.routines
  pub of_routines : length search.book.routine ≡ length search.last
  pub some : 0 < calls_recorded s

-- each of these digests is that of the question about its call
abbrev pub AreDigestsOf : Subject → Digests → Type 0
AreDigestsOf s digests =
    (call : ℕ) (digest : List ℕ) → get nat_cmp digests.made call ≡ Some digest → digest ≡ digest_on s call

-- these are the classes of alike calls, one for each call; there are none before they are asked for
abbrev pub AreClassesOf : Subject → Option (List ℕ) → Type 0
AreClassesOf s (Some classes) = (s.classes ≡ Some classes) × (length classes ≡ calls_recorded s)
AreClassesOf s None = Unit {0}

-- what was said in a dialog
abbrev pub said_in_dialog : Dialog → Said
said_in_dialog d = record { entries = d.debug.book.entries; notes = d.notes; replies = d.replies }

-- it is a dialog over the calls of the run
pub record IsDialogOf (s : Subject) (d : Dialog) : Type 0 where
  pub search : IsSearchOf s d.debug
  pub digests : AreDigestsOf s d.digests
  pub classes : AreClassesOf s d.classes

-- these are the calls of the run: there is one at least, all were left, and each is of a routine
pub record AreCallsOf (s : Subject) (run : Recording) : Type 0 where
  pub tree : s.tree ≡ tree_of run
  pub routines : s.routines ≡ run.routines
  pub some : 0 < calls_recorded s
  pub all_left : run.open_calls ≡ []
