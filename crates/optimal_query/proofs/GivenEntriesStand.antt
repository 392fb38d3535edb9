-- The entries that a search begins with are those that their acts give, and they stand unless a command takes them back.
use Rattle.std.proofs.Common.{if◌then◌else◌, ◌+◌, ◌<◌, ◌||◌, ◌∙◌, ◌∷◌, ◌≡◌, ◌≢◌, ◌≤◌, [], ℕ, Bool, List, ap, arith, false, length, not, refl, suc, sym, true}
use Rattle.std.{proofs.lemmas.Bool.eq-eqb, proofs.lemmas.Bool.ne_eqb, proofs.lemmas.List.length-map, specs.List.filter_map}
use Rattle.call_tree.specs.{Recording.routines_of, declared.records.Call.Call}
use Rattle.answer_book.specs.{Entries.said_by, declared.entries.Entry.Entry}
use Rattle.optimal_query.proofs.StandUnlessTakenBack.{AreNumbered, Follow, entries_by, entry, follow_commands, said_alike}
use Rattle.optimal_query.specs.Accepted.{CommandAct, GivenEntriesStandUnlessTakenBack, TookBack, acts_from, acts_giving, acts_since, is_taken_back, number_made}
use Rattle.optimal_query.specs.Search.{search_over}

-- what follows the making of an entry
abbrev and_if : (number : ℕ) → (standing : Bool) → List CommandAct → List CommandAct
and_if number standing rest = if standing then rest else TookBack number ∷ rest

-- ---- one entry

apart_by : (number from : ℕ) (standing : Bool) (rest : List CommandAct) → from ≢ number → is_taken_back rest number ≡ false
    → is_taken_back (and_if from standing rest) number ≡ false
apart_by number from true rest apart h = h
apart_by number from false rest apart h = ap (λ (b : Bool). b || is_taken_back rest number) (ne_eqb from number apart) ∙ h

here_by : (from : ℕ) (standing : Bool) (rest : List CommandAct) → is_taken_back rest from ≡ false
    → is_taken_back (and_if from standing rest) from ≡ not standing
here_by from true rest h = h
here_by from false rest h = ap (λ (b : Bool). b || is_taken_back rest from) (eq-eqb from from refl)

after_by : (from : ℕ) (standing : Bool) (rest : List CommandAct) (number : ℕ) → from ≢ number
    → is_taken_back (and_if from standing rest) number ≡ is_taken_back rest number
after_by from true rest number apart = refl
after_by from false rest number apart = ap (λ (b : Bool). b || is_taken_back rest number) (ne_eqb from number apart)

numbered_by : (from next : ℕ) (standing : Bool) (rest : List CommandAct) → AreNumbered next rest → AreNumbered next (and_if from standing rest)
numbered_by from next true rest h = h
numbered_by from next false rest h = h

as_many_by : (from : ℕ) (standing : Bool) (rest : List CommandAct) → number_made (and_if from standing rest) ≡ number_made rest
as_many_by from true rest = refl
as_many_by from false rest = refl

same_entries_by : (t : ℕ → Bool) (from : ℕ) (standing : Bool) (rest : List CommandAct) → entries_by t (and_if from standing rest) ≡ entries_by t rest
same_entries_by t from true rest = refl
same_entries_by t from false rest = refl

not_twice : (b : Bool) → not (not b) ≡ b
not_twice true = refl
not_twice false = refl

-- ---- all entries from a number on

none_below : (number from : ℕ) (entries : List Entry) → number < from → is_taken_back (acts_from from entries) number ≡ false
none_below number from [] below = refl
none_below number from (e ∷ entries) below =
    apart_by number from e.standing (acts_from (from + 1) entries) (λ same. omega (arith, same, below))
    (none_below number (from + 1) entries (omega (arith, below)))

none_after : (number from : ℕ) (entries : List Entry) → from + length entries ≤ number → is_taken_back (acts_from from entries) number ≡ false
none_after number from [] later = refl
none_after number from (e ∷ entries) later =
    apart_by number from e.standing (acts_from (from + 1) entries) (λ same. omega (arith, same, later))
    (none_after number (from + 1) entries (omega (arith, later)))

numbered_from : (from : ℕ) (entries : List Entry) → AreNumbered from (acts_from from entries)
numbered_from from [] = tt
numbered_from from (e ∷ entries) =
    (refl, numbered_by from (from + 1) e.standing (acts_from (from + 1) entries) (numbered_from (from + 1) entries))

as_many_from : (from : ℕ) (entries : List Entry) → number_made (acts_from from entries) ≡ length entries
as_many_from from [] = refl
as_many_from from (e ∷ entries) =
    ap (λ (n : ℕ). suc n) (as_many_by from e.standing (acts_from (from + 1) entries) ∙ as_many_from (from + 1) entries)

-- exactly those are taken back that do not stand
abbrev TakesBack : (ℕ → Bool) → ℕ → List Entry → Type 0
TakesBack t from [] = Unit {0}
TakesBack t from (e ∷ entries) = (t from ≡ not e.standing) × TakesBack t (from + 1) entries

takes_alike : (t u : ℕ → Bool) (from : ℕ) (entries : List Entry) → ((number : ℕ) → from ≤ number → u number ≡ t number) → TakesBack t from entries
    → TakesBack u from entries
takes_alike t u from [] same h = tt
takes_alike t u from (e ∷ entries) same h =
    (same from (omega arith) ∙ h.0, takes_alike t u (from + 1) entries (λ number later. same number (omega (arith, later))) h.1)

takes_back : (from : ℕ) (entries : List Entry) → TakesBack (is_taken_back (acts_from from entries)) from entries
takes_back from [] = tt
takes_back from (e ∷ entries) = (
  here_by from e.standing (acts_from (from + 1) entries) (none_below from (from + 1) entries (omega arith)),
  takes_alike (is_taken_back (acts_from (from + 1) entries)) (is_taken_back (acts_from from (e ∷ entries))) (from + 1) entries
      (λ number later. after_by from e.standing (acts_from (from + 1) entries) number (λ same. omega (arith, same, later)))
      (takes_back (from + 1) entries),
)

given_from : (t : ℕ → Bool) (from : ℕ) (entries : List Entry) → TakesBack t from entries → entries_by t (acts_from from entries) ≡ entries
given_from t from [] h = refl
given_from t from (e ∷ entries) h =
    let rest : List CommandAct = acts_from (from + 1) entries in
    ap (λ (b : Bool). entry e.what (not b) ∷ entries_by t (and_if from e.standing rest)) h.0
    ∙ ap (λ (b : Bool). entry e.what b ∷ entries_by t (and_if from e.standing rest)) (not_twice e.standing)
    ∙ ap (λ (l : List Entry). e ∷ l) (same_entries_by t from e.standing rest ∙ given_from t (from + 1) entries h.1)

-- the entries that a search begins with follow from their acts
pub follow_given : (entries : List Entry) → Follow (acts_giving entries) entries
follow_given entries = record {
  entries_are = sym (given_from (is_taken_back (acts_giving entries)) 1 entries (takes_back 1 entries));
  numbered = numbered_from 1 entries;
  none_later = λ number later. let all = as_many_from 1 entries in none_after number 1 entries (omega (arith, later, all));
}

pub given_entries_stand : GivenEntriesStandUnlessTakenBack
given_entries_stand run first commands =
    let start = follow_given first in
    let long : length (routines_of run.calls) ≡ length run.calls = length-map run.calls (λ (call : Call). call.routine) in
    let all = follow_commands (acts_giving first) (search_over run first) commands long refl start in
    let acts : List CommandAct = acts_since run first commands in
    record {
      given = sym start.entries_are;
      entries = all.entries_are;
      answers = ap (λ (l : List Entry). filter_map said_by l) all.entries_are ∙ said_alike (is_taken_back acts) acts;
    }
