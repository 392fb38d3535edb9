-- The entries of a session that fits a run name what there is, and the search with them is one over the run.
use Rattle.std.proofs.Common.{if◌then◌else◌, ◌+◌, ◌<◌, ◌==◌, ◌∙◌, ◌∷◌, ◌≡◌, [], ℕ, All, Bool, List, None, Option, Some, ap, false, length, ltb-true, nat_lt}
use Rattle.std.proofs.Common.{not, refl, subst, sym, true}
use Rattle.std.{proofs.lemmas.List.Elements.All-cons, proofs.lemmas.List.Elements.All-nil, specs.Option.option_or, specs.Str.bytes_eq}
use Rattle.call_tree.specs.Recording.{Recording}
use Rattle.answer_book.specs.InRange.{IsInRange}
use Rattle.answer_book.specs.declared.entries.{Entry.Entry, What.What, What.TheVariants.Judged, What.TheVariants.Trusted}
use Rattle.optimal_query.specs.Search.{search_over}
use Rattle.session_file.specs.declared.session.Session.{Session}
use Rattle.dialog_replies.proofs.ColumnsOfCalls.{calls_counted, new_is_search}
use Rattle.dialog_replies.specs.{Kept.AreCallsOf, Kept.IsSearchOf, Start.has_replies_alone, Subject.Subject, Subject.calls_recorded}
use Rattle.dialog_replies.specs.Fit.{entries_misfit, misfit, named_beyond, saved_misfit, session_misfit}
use Rattle.dialog_replies.specs.declared.{misfits.Misfit.Misfit, start.Start.Start}
use Rattle.dialog_replies.specs.declared.misfits.Misfit.TheVariants.{Budget, Call, Input, Routine, Source}

-- they name calls and routines that there are
abbrev pub AreNamed : ℕ → ℕ → List Entry → Type 0
AreNamed calls routines entries = All (λ entry. IsInRange calls routines entry.what) entries

below_by : (n most : ℕ) (beyond : Misfit) (t : Bool) → nat_lt n most ≡ t → (if t then None else Some beyond) ≡ None → n < most
below_by n most beyond true e none = ltb-true n most e
below_by n most beyond false e none = absurd (let l : ⊥ = cc in l)

named : (s : Subject) (number : ℕ) (what : What) → named_beyond s number what ≡ None → IsInRange (calls_recorded s) s.routines what
named s number (Judged call judgement) none = below_by call (calls_recorded s) (Call number call) (nat_lt call (calls_recorded s)) refl none
named s number (Trusted routine) none = below_by routine s.routines (Routine number routine) (nat_lt routine s.routines) refl none

neither : (a b : Option Misfit) → option_or a b ≡ None → (a ≡ None) × (b ≡ None)
neither None b none = (refl, none)
neither (Some misfit) b none = absurd (let l : ⊥ = cc in l)

all_named : (s : Subject) (number : ℕ) (entries : List Entry) → entries_misfit s number entries ≡ None → AreNamed (calls_recorded s) s.routines entries
all_named s number [] none = All-nil (λ entry. IsInRange (calls_recorded s) s.routines entry.what)
all_named s number (entry ∷ entries) none =
    let both = neither (named_beyond s number entry.what) (entries_misfit s (number + 1) entries) none in
    All-cons (λ entry. IsInRange (calls_recorded s) s.routines entry.what) entry entries (named s number entry.what both.0)
    (all_named s (number + 1) entries both.1)

same : (t : Bool) (differs : Misfit) (rest : Option Misfit) → (if not t then Some differs else rest) ≡ None → rest ≡ None
same true differs rest none = none
same false differs rest none = absurd (let l : ⊥ = cc in l)

session_named : (s : Subject) (start : Start) (session : Session) → session_misfit s start session ≡ None
    → AreNamed (calls_recorded s) s.routines session.entries
session_named s start session none =
    let input = same (bytes_eq start.source session.source) (Source start.source session.source) _ none in
    let budget = same (bytes_eq start.input session.input) (Input start.input session.input) _ input in
    let entries = same (start.budget == session.budget) (Budget start.budget session.budget) _ budget in
    all_named s 1 session.entries entries

-- the session that is gone on with
pub saved_fits : (s : Subject) (start : Start) (session : Session) → start.saved ≡ Some session → misfit s start ≡ None
    → saved_misfit s start (Some session) ≡ None
unfolding misfit
saved_fits s start session is fits = sym (ap (saved_misfit s start) is) ∙ fits

-- and its entries, where it gives them
pub entries_named : (s : Subject) (start : Start) (session : Session) → has_replies_alone start session ≡ false
    → saved_misfit s start (Some session) ≡ None → AreNamed (calls_recorded s) s.routines session.entries
entries_named s start session all fits =
    session_named s start session (sym (ap (λ (alone : Bool). if alone then None else session_misfit s start session) all) ∙ fits)

-- the calls and routines that there are are those of the run
pub named_in_run : (s : Subject) (run : Recording) (entries : List Entry) → AreCallsOf s run → AreNamed (calls_recorded s) s.routines entries
    → AreNamed (length run.calls) run.routines entries
named_in_run s run entries h all =
    subst (λ n. AreNamed n run.routines entries) (calls_counted s run h) (subst (λ n. AreNamed (calls_recorded s) n entries) h.routines all)

-- whatever its entries are, a search over the calls of a run is one over them
pub over_the_run : (s : Subject) (run : Recording) (entries : List Entry) → AreCallsOf s run → IsSearchOf s (search_over run entries)
over_the_run s run entries h =
    let new = new_is_search s run h in
    record {
      last = new.last;
      routine = new.routine;
      routines = new.routines;
      of_routines = new.of_routines;
      some = new.some;
    }
