-- The entries of a book are those that accepted commands made, and stand unless one took them back.
use Rattle.std.proofs.Common.{◌&&◌, ◌++◌, ◌+◌, ◌-◌, ◌<◌, ◌==◌, ◌||◌, ◌∙◌, ◌∷◌, ◌≡◌, ◌≢◌, [], ℕ, Bool, Err, List, None, Ok, Option, Some, ap, append-nil, arith}
use Rattle.std.proofs.Common.{cond, false, inl, inr, length, nat_le, not, option_map, refl, slice_get, subst, suc, sym, true, zero}
use Rattle.std.proofs.lemmas.Bool.{cases_eq, eq-eqb, ne_eqb, true≢false}
use Rattle.std.proofs.lemmas.List.{length-map, Elements.filter_map-append, Folds.list_any-append}
use Rattle.std.specs.List.{cons_option, filter_map, list_any}
use Rattle.call_tree.specs.{Recording.routines_of, declared.records.Call.Call}
use Rattle.answer_book.proofs.LastWhere.{last_where_is}
use Rattle.answer_book.specs.{Answers.number_or_fault, Entries.with_taken_back, Numbers.last_where, Numbers.numbers_below}
use Rattle.answer_book.specs.Entries.{entries_with, entries_without, entry_saying, first_entries, is_standing, is_standing_entry, last_standing, said_by}
use Rattle.answer_book.specs.declared.entries.{BookFault.BookFault, Entry.Entry, Judgement.TheVariants.Wrong}
use Rattle.answer_book.specs.declared.entries.BookFault.TheVariants as fault
use Rattle.answer_book.specs.declared.entries.What.{What, TheVariants.Judged, TheVariants.Trusted}
use Rattle.optimal_query.proofs.WhatStands.{same_after_command}
use Rattle.optimal_query.specs.Accepted.{CommandAct, EntriesStandUnlessTakenBack, Made, TookBack, act_of, acts_after, acts_in, and_then, entries_after}
use Rattle.optimal_query.specs.Accepted.{entry_unless, is_taken_back, made, number_made, said_unless, stands, took_back}
use Rattle.optimal_query.specs.Search.{Search, new_search, search_with, search_without}
use Rattle.optimal_query.specs.Standing.{Command, Judge, TakeBack, TakeBackLast, Trust, after_command, after_commands, if_accepted, search_taken_back}

-- the entries are numbered from `from` on, in order
abbrev pub AreNumbered : ℕ → List CommandAct → Type 0
AreNumbered from [] = Unit {0}
AreNumbered from (Made number what ∷ acts) = (number ≡ from) × AreNumbered (from + 1) acts
AreNumbered from (TookBack number ∷ acts) = AreNumbered from acts

-- and with one more number taken back
abbrev and_this : (ℕ → Bool) → ℕ → ℕ → Bool
and_this taken_back number other = (number == other) || taken_back other

abbrev pub entries_by : (ℕ → Bool) → List CommandAct → List Entry
entries_by taken_back acts = filter_map (entry_unless taken_back) acts

abbrev pub entry : What → Bool → Entry
entry what standing = record { what = what; standing = standing }

-- a number before the first one changes nothing
same_below : (t : ℕ → Bool) (number from : ℕ) (acts : List CommandAct) → AreNumbered from acts → number < from
    → entries_by (and_this t number) acts ≡ entries_by t acts
same_below t number from [] h below = refl
same_below t number from (Made m what ∷ acts) h below =
    let apart : (number == m) ≡ false = ne_eqb number m (λ e. let is = h.0 in omega arith) in
    ap (λ (b : Bool). entry what (not (b || t m)) ∷ entries_by (and_this t number) acts) apart
    ∙ ap (λ (l : List Entry). entry what (not (t m)) ∷ l) (same_below t number (from + 1) acts h.1 (omega arith))
same_below t number from (TookBack m ∷ acts) h below = same_below t number from acts h below

-- the entry of this number is the one at this place
record IsAt (from : ℕ) (acts : List CommandAct) (number place : ℕ) : Type 0 where
  numbered : AreNumbered from acts
  at : number ≡ from + place

later_place : (entry : Entry) (entries : List Entry) (place : ℕ) (found : Option Entry)
    → with_taken_back (entry ∷ entries) (suc place) found ≡ entry ∷ with_taken_back entries place found
later_place entry entries place None = refl
later_place entry entries place (Some other) = refl

-- with one more number taken back the entry at its place no longer stands
taken_back_at : (t : ℕ → Bool) (from : ℕ) (acts : List CommandAct) (number place : ℕ) → IsAt from acts number place
    → entries_by (and_this t number) acts ≡ with_taken_back (entries_by t acts) place (slice_get (entries_by t acts) place)
taken_back_at t from [] number place is = refl
taken_back_at t from (TookBack m ∷ acts) number place is =
    taken_back_at t from acts number place (record { numbered = is.numbered; at = is.at })
taken_back_at t from (Made m what ∷ acts) number zero is =
    let first = is.numbered.0 in
    let at = is.at in
    let here : (number == m) ≡ true = eq-eqb number m (omega arith) in
    ap (λ (b : Bool). entry what (not (b || t m)) ∷ entries_by (and_this t number) acts) here
    ∙ ap (λ (l : List Entry). entry what false ∷ l) (same_below t number (from + 1) acts is.numbered.1 (omega arith))
taken_back_at t from (Made m what ∷ acts) number (suc place) is =
    let first = is.numbered.0 in
    let at = is.at in
    let apart : (number == m) ≡ false = ne_eqb number m (λ e. omega arith) in
    let rest = taken_back_at t (from + 1) acts number place (record { numbered = is.numbered.1; at = omega arith }) in
    ap (λ (b : Bool). entry what (not (b || t m)) ∷ entries_by (and_this t number) acts) apart
    ∙ ap (λ (l : List Entry). entry what (not (t m)) ∷ l) rest
    ∙ sym (later_place (entry what (not (t m))) (entries_by t acts) place (slice_get (entries_by t acts) place))

-- whether the entry at a place stands
stands_at : (t : ℕ → Bool) (from : ℕ) (acts : List CommandAct) (number place : ℕ) → IsAt from acts number place
    → is_standing_entry (slice_get (entries_by t acts) place) ≡ (list_any (made number) acts && not (t number))
stands_at t from [] number place is = refl
stands_at t from (TookBack m ∷ acts) number place is =
    stands_at t from acts number place (record { numbered = is.numbered; at = is.at })
stands_at t from (Made m what ∷ acts) number zero is =
    let first = is.numbered.0 in
    let at = is.at in
    let same : m ≡ number = omega arith in
    ap (λ (k : ℕ). not (t k)) same
    ∙ sym (ap (λ (b : Bool). (b || list_any (made number) acts) && not (t number)) (eq-eqb m number same))
stands_at t from (Made m what ∷ acts) number (suc place) is =
    let first = is.numbered.0 in
    let at = is.at in
    let apart : (m == number) ≡ false = ne_eqb m number (λ e. omega arith) in
    stands_at t (from + 1) acts number place (record { numbered = is.numbered.1; at = omega arith })
    ∙ sym (ap (λ (b : Bool). (b || list_any (made number) acts) && not (t number)) apart)

none_made : (number from : ℕ) (acts : List CommandAct) → AreNumbered from acts → number < from → list_any (made number) acts ≡ false
none_made number from [] h below = refl
none_made number from (TookBack m ∷ acts) h below = none_made number from acts h below
none_made number from (Made m what ∷ acts) h below =
    let apart : (m == number) ≡ false = ne_eqb m number (λ e. let is = h.0 in omega arith) in
    ap (λ (b : Bool). b || list_any (made number) acts) apart ∙ none_made number (from + 1) acts h.1 (omega arith)

made_within : (number from : ℕ) (acts : List CommandAct) → AreNumbered from acts → list_any (made number) acts ≡ true → number < from + number_made acts
made_within number from [] h is = absurd (true≢false (sym is))
made_within number from (TookBack m ∷ acts) h is = made_within number from acts h is
made_within number from (Made m what ∷ acts) h is = elim (cases_eq m number) [
  | inl same ↦ let first = h.0 in omega arith
  | inr apart ↦
      let rest = made_within number (from + 1) acts h.1 (sym (ap (λ (b : Bool). b || list_any (made number) acts) (ne_eqb m number apart)) ∙ is) in
      omega arith
]

pub as_many : (t : ℕ → Bool) (acts : List CommandAct) → length (entries_by t acts) ≡ number_made acts
as_many t [] = refl
as_many t (Made m what ∷ acts) = ap (λ (n : ℕ). suc n) (as_many t acts)
as_many t (TookBack m ∷ acts) = as_many t acts

-- an entry stands in the list where it stands by the acts
stand_alike : (acts : List CommandAct) (number : ℕ) → AreNumbered 1 acts → is_standing (entries_after acts) number ≡ stands acts number
stand_alike acts number h = elim (cases_eq number 0) [
  | inl none ↦
      ap (λ (b : Bool). is_standing_entry (cond b None (slice_get (entries_after acts) (number - 1)))) (eq-eqb number 0 none)
      ∙ sym (ap (λ (b : Bool). b && not (is_taken_back acts number)) (none_made number 1 acts h (omega arith)))
  | inr some ↦
      let is_some : number ≢ 0 = some in
      ap (λ (b : Bool). is_standing_entry (cond b None (slice_get (entries_after acts) (number - 1)))) (ne_eqb number 0 some)
      ∙ stands_at (is_taken_back acts) 1 acts number (number - 1) (record { numbered = h; at = omega arith })
]

last_alike : (acts : List CommandAct) → AreNumbered 1 acts
    → last_standing (entries_after acts) ≡ last_where (stands acts) (numbers_below (number_made acts + 1))
last_alike acts h =
    let alike : is_standing (entries_after acts) ≡ stands acts = (λ i number. stand_alike acts number h i) in
    ap (λ (p : ℕ → Bool). last_where p (numbers_below (length (entries_after acts) + 1))) alike
    ∙ ap (λ (n : ℕ). last_where (stands acts) (numbers_below (n + 1))) (as_many (is_taken_back acts) acts)

-- one act more
numbered_made : (from : ℕ) (acts : List CommandAct) (what : What) (number : ℕ) → AreNumbered from acts → number ≡ from + number_made acts
    → AreNumbered from (acts ++ Made number what ∷ [])
numbered_made from [] what number h next = ((omega arith), tt)
numbered_made from (Made m other ∷ acts) what number h next = (h.0, numbered_made (from + 1) acts what number h.1 (omega arith))
numbered_made from (TookBack m ∷ acts) what number h next = numbered_made from acts what number h next

numbered_taken : (from : ℕ) (acts : List CommandAct) (number : ℕ) → AreNumbered from acts → AreNumbered from (acts ++ TookBack number ∷ [])
numbered_taken from [] number h = tt
numbered_taken from (Made m what ∷ acts) number h = (h.0, numbered_taken (from + 1) acts number h.1)
numbered_taken from (TookBack m ∷ acts) number h = numbered_taken from acts number h

one_more : (acts : List CommandAct) (number : ℕ) (what : What) → number_made (acts ++ Made number what ∷ []) ≡ number_made acts + 1
one_more [] number what = omega arith
one_more (Made m other ∷ acts) number what = let rest = one_more acts number what in omega arith
one_more (TookBack m ∷ acts) number what = one_more acts number what

no_more : (acts : List CommandAct) (number : ℕ) → number_made (acts ++ TookBack number ∷ []) ≡ number_made acts
no_more [] number = refl
no_more (Made m what ∷ acts) number = ap (λ (n : ℕ). suc n) (no_more acts number)
no_more (TookBack m ∷ acts) number = no_more acts number

or_neither : (b : Bool) → (b || (false || false)) ≡ b
or_neither true = refl
or_neither false = refl

or_turned : (b c : Bool) → (b || (c || false)) ≡ (c || b)
or_turned true true = refl
or_turned true false = refl
or_turned false true = refl
or_turned false false = refl

taken_as_before : (acts : List CommandAct) (number : ℕ) (what : What) (other : ℕ)
    → is_taken_back (acts ++ Made number what ∷ []) other ≡ is_taken_back acts other
taken_as_before acts number what other =
    list_any-append (took_back other) acts (Made number what ∷ []) ∙ or_neither (is_taken_back acts other)

taken_and_this : (acts : List CommandAct) (number other : ℕ)
    → is_taken_back (acts ++ TookBack number ∷ []) other ≡ and_this (is_taken_back acts) number other
taken_and_this acts number other =
    list_any-append (took_back other) acts (TookBack number ∷ []) ∙ or_turned (is_taken_back acts other) (number == other)

-- these are the entries after these acts
pub record Follow (acts : List CommandAct) (entries : List Entry) : Type 0 where
  pub entries_are : entries ≡ entries_after acts
  pub numbered : AreNumbered 1 acts
  pub none_later : (number : ℕ) → number_made acts < number → is_taken_back acts number ≡ false

pub follow_made : (acts : List CommandAct) (entries : List Entry) (what : What) → Follow acts entries
    → Follow (acts ++ Made (number_made acts + 1) what ∷ []) (entries_with entries what)
follow_made acts entries what before =
    let number : ℕ = number_made acts + 1 in
    let same : is_taken_back (acts ++ Made number what ∷ []) ≡ is_taken_back acts = (λ i other. taken_as_before acts number what other i) in
    let t : ℕ → Bool = is_taken_back acts in
    record {
      entries_are =
          ap (λ (l : List Entry). l ++ entry_saying what ∷ []) before.entries_are
          ∙ sym (filter_map-append (entry_unless (is_taken_back (acts ++ Made number what ∷ []))) acts (Made number what ∷ [])
          ∙ ap (λ (t : ℕ → Bool). entries_by t acts ++ entry what (not (t number)) ∷ []) same
          ∙ ap (λ (b : Bool). entries_by t acts ++ entry what (not b) ∷ []) (before.none_later number (omega arith)));
      numbered = numbered_made 1 acts what number before.numbered (omega arith);
      none_later = λ other later.
          let more = one_more acts number what in
          taken_as_before acts number what other ∙ before.none_later other (omega arith);
    }

left_holds : (a b : Bool) → (a && b) ≡ true → a ≡ true
left_holds true b h = refl
left_holds false b h = h

follow_taken : (acts : List CommandAct) (entries : List Entry) (number : ℕ) → Follow acts entries → stands acts number ≡ true
    → Follow (acts ++ TookBack number ∷ []) (entries_without entries number)
follow_taken acts entries number before standing =
    let is_made = left_holds (list_any (made number) acts) (not (is_taken_back acts number)) standing in
    let inside = made_within number 1 acts before.numbered is_made in
    let apart : number ≢ 0 = (λ e. true≢false (sym is_made ∙ none_made number 1 acts before.numbered (omega arith))) in
    let same : is_taken_back (acts ++ TookBack number ∷ []) ≡ and_this (is_taken_back acts) number =
    (λ i other. taken_and_this acts number other i) in
    let place : ℕ = number - 1 in
    record {
      entries_are =
          ap (λ (l : List Entry). with_taken_back l place (cond (number == 0) None (slice_get l place))) before.entries_are
          ∙ ap (λ (b : Bool). with_taken_back (entries_after acts) place (cond b None (slice_get (entries_after acts) place))) (ne_eqb number 0 apart)
          ∙ sym (taken_back_at (is_taken_back acts) 1 acts number place (record { numbered = before.numbered; at = omega arith }))
          ∙ sym (filter_map-append (entry_unless (is_taken_back (acts ++ TookBack number ∷ []))) acts (TookBack number ∷ [])
          ∙ append-nil (entries_by (is_taken_back (acts ++ TookBack number ∷ [])) acts) ∙ ap (λ (t : ℕ → Bool). entries_by t acts) same);
      numbered = numbered_taken 1 acts number before.numbered;
      none_later = λ other later.
          let as_before = no_more acts number in
          taken_and_this acts number other
          ∙ ap (λ (b : Bool). b || is_taken_back acts other) (ne_eqb number other (λ e. omega arith)) ∙ before.none_later other (omega arith);
    }

-- a command that says something, where it is refused or not, and where the book is full or not
added : {acts : List CommandAct} (search : Search) (what : What) (refused full : Bool) (refusal : BookFault) → Follow acts search.book.entries
    → Follow (and_then acts (cond refused None (cond full None (Some (Made (number_made acts + 1) what)))))
    (if_accepted {X = ℕ} (cond refused (Err refusal) (cond full (Err fault.Full) (Ok (number_made acts + 1)))) (search_with search what) search).book.entries
added search what true full refusal before = before
added search what false true refusal before = before
added {acts = acts} search what false false refusal before = follow_made acts search.book.entries what before

taken : (acts : List CommandAct) (search : Search) (number : ℕ) (standing : Bool) → stands acts number ≡ standing → Follow acts search.book.entries
    → Follow (and_then acts (cond standing (Some (TookBack number)) None))
    (if_accepted {X = Unit {0}} (cond standing (Ok tt) (Err (fault.NotStanding number))) (search_without search number) search).book.entries
taken acts search number true is before = follow_taken acts search.book.entries number before is
taken acts search number false is before = before

last_taken : (acts : List CommandAct) (search : Search) (last : Option ℕ) → last_where (stands acts) (numbers_below (number_made acts + 1)) ≡ last
    → Follow acts search.book.entries
    → Follow (and_then acts (option_map TookBack last)) (search_taken_back (number_or_fault last) search).book.entries
last_taken acts search None is before = before
last_taken acts search (Some number) is before =
    follow_taken acts search.book.entries number before (last_where_is (stands acts) (number_made acts + 1) number is).passes

as_many_entries : {acts : List CommandAct} {entries : List Entry} → Follow acts entries → number_made acts ≡ length entries
as_many_entries {acts = acts} before = sym (ap (λ (l : List Entry). length l) before.entries_are ∙ as_many (is_taken_back acts) acts)

pub follow_command : (acts : List CommandAct) (search : Search) (command : Command) → Follow acts search.book.entries
    → Follow (and_then acts (act_of (length search.book.routine) search.book.routines acts command)) (after_command search command).book.entries
follow_command acts search (Judge call judgement) before =
    let what : What = Judged call judgement in
    let refused : Bool = nat_le (length search.book.routine) call in
    subst (λ (n : ℕ). Follow (and_then acts (act_of (length search.book.routine) search.book.routines acts (Judge call judgement)))
    (if_accepted {X = ℕ} (cond refused (Err (fault.NoCall call)) (cond (nat_le 100000 n) (Err fault.Full) (Ok (n + 1)))) (search_with search what)
    search).book.entries)
    (as_many_entries before) (added search what refused (nat_le 100000 (number_made acts)) (fault.NoCall call) before)
follow_command acts search (Trust routine) before =
    let what : What = Trusted routine in
    let refused : Bool = nat_le search.book.routines routine in
    subst (λ (n : ℕ). Follow (and_then acts (act_of (length search.book.routine) search.book.routines acts (Trust routine)))
    (if_accepted {X = ℕ} (cond refused (Err (fault.NoRoutine routine)) (cond (nat_le 100000 n) (Err fault.Full) (Ok (n + 1)))) (search_with search what)
    search).book.entries)
    (as_many_entries before) (added search what refused (nat_le 100000 (number_made acts)) (fault.NoRoutine routine) before)
follow_command acts search (TakeBack number) before =
    let alike : stands acts number ≡ is_standing search.book.entries number =
    sym (ap (λ (l : List Entry). is_standing l number) before.entries_are ∙ stand_alike acts number before.numbered) in
    subst (λ (b : Bool). Follow (and_then acts (cond (stands acts number) (Some (TookBack number)) None))
    (if_accepted {X = Unit {0}} (cond b (Ok tt) (Err (fault.NotStanding number))) (search_without search number) search).book.entries)
    alike (taken acts search number (stands acts number) refl before)
follow_command acts search TakeBackLast before =
    let last : Option ℕ = last_where (stands acts) (numbers_below (number_made acts + 1)) in
    let alike : last ≡ last_standing search.book.entries =
    sym (ap (λ (l : List Entry). last_standing l) before.entries_are ∙ last_alike acts before.numbered) in
    subst (λ (o : Option ℕ). Follow (and_then acts (option_map TookBack last)) (search_taken_back (number_or_fault o) search).book.entries)
    alike (last_taken acts search last refl before)

-- and all of them
pub follow_commands : {calls routines : ℕ} (acts : List CommandAct) (search : Search) (commands : List Command)
    → length search.book.routine ≡ calls → search.book.routines ≡ routines → Follow acts search.book.entries
    → Follow (acts_after calls routines acts commands) (after_commands search commands).book.entries
follow_commands acts search [] of_calls of_routines before = before
follow_commands {calls = calls} {routines = routines} acts search (command ∷ commands) of_calls of_routines before =
    let same = same_after_command search command in
    let after : Search = after_command search command in
    let step : Follow (and_then acts (act_of calls routines acts command)) after.book.entries =
    subst (λ (n : ℕ). Follow (and_then acts (act_of n routines acts command)) after.book.entries) of_calls
    (subst (λ (n : ℕ). Follow (and_then acts (act_of (length search.book.routine) n acts command)) after.book.entries) of_routines
    (follow_command acts search command before)) in
    follow_commands (and_then acts (act_of calls routines acts command)) after commands
    (ap (λ (l : List ℕ). length l) same.routine ∙ of_calls) (same.routines ∙ of_routines) step

said_if : (b : Bool) (what : What) → cond (not b) (Some what) None ≡ cond b None (Some what)
said_if true what = refl
said_if false what = refl

pub said_alike : (t : ℕ → Bool) (acts : List CommandAct) → filter_map said_by (entries_by t acts) ≡ filter_map (said_unless t) acts
said_alike t [] = refl
said_alike t (TookBack m ∷ acts) = said_alike t acts
said_alike t (Made m what ∷ acts) =
    ap (λ (o : Option What). cons_option o (filter_map said_by (entries_by t acts))) (said_if (t m) what)
    ∙ ap (cons_option (said_unless t (Made m what))) (said_alike t acts)

pub stand_unless_taken_back : EntriesStandUnlessTakenBack
stand_unless_taken_back run commands =
    let first : List CommandAct = Made 1 (Judged 0 Wrong) ∷ [] in
    let start : Follow first first_entries = record { entries_are = refl; numbered = (refl, tt); none_later = λ number later. refl } in
    let long : length (routines_of run.calls) ≡ length run.calls = length-map run.calls (λ (call : Call). call.routine) in
    let all = follow_commands first (new_search run) commands long refl start in
    record {
      entries = all.entries_are;
      answers = ap (λ (l : List Entry). filter_map said_by l) all.entries_are ∙ said_alike (is_taken_back (acts_in run commands)) (acts_in run commands);
    }
