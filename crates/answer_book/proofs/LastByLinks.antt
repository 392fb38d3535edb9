-- The last entry on a chain that stands is the first one along the links that does, and what follows from it: the last
-- judgement on a call, whether a routine is trusted, and the last entry that stands.
use Rattle.std.proofs.Common.{◌+◌, ◌-◌, ◌<◌, ◌==◌, ◌||◌, ◌∙◌, ◌∷◌, ◌≡◌, ◌≤◌, [], ℕ, Bool, List, None, Option, Some, ap, arith, cond, false, get_or, inl, inr}
use Rattle.std.proofs.Common.{length, nat_lt, not, refl, slice_get, slice_index, subst, suc, sym, take, true, zero}
use Rattle.std.proofs.lemmas.{Grind.get_or_default_zero, List.take_all, Option.same_Some, Option.slice_get-get_or, Option.slice_get_within}
use Rattle.std.proofs.lemmas.Bool.{cases_eq, cases_order, cond-true, eq-eqb, lt-ltb, true≢false}
use Rattle.std.specs.{List.filter_map, List.list_any, Option.option_and_then}
use Rattle.answer_book.proofs.{FilterMaps.last_given, FilterMaps.last_kept, LastWhere.last_where_from, LastWhere.no_last_where, NumberedEntries.at_place}
use Rattle.answer_book.specs.{Numbers.last_of, Spoken.entry_judgement, Spoken.entry_trusts}
use Rattle.answer_book.specs.Entries.{entry_at, is_standing, is_standing_entry, last_standing}
use Rattle.answer_book.specs.Links.{AreLinked, IsLastOn, LeadsBack, Links, is_taken_back_entry, judgement_at, place_of, said_at, said_on, was_taken_back}
use Rattle.answer_book.specs.declared.entries.{Entry.Entry, Judgement.Judgement, What.What, What.TheVariants.Judged, What.TheVariants.Trusted}
use Rattle.answer_book.specs.declared.entry_links.Subject.{Subject, TheVariants.Any, TheVariants.Call, TheVariants.Routine}

-- an entry that was taken back says nothing
silent_by : (subject : Subject) (place : ℕ) (what : What) (stands : Bool) → not stands ≡ true
    → said_on subject place (record { what = what; standing = stands }) ≡ None
silent_by subject place what true off = absurd (let l : ⊥ = cc in l)
silent_by subject place what false off = refl

silent : (subject : Subject) (place : ℕ) (o : Option Entry) → is_taken_back_entry o ≡ true → option_and_then (said_on subject place) o ≡ None
silent subject place None off = refl
silent subject place (Some entry) off = silent_by subject place entry.what entry.standing off

-- and has a number from 1
pub has_number : (entries : List Entry) (number : ℕ) → was_taken_back entries number ≡ true → 0 < number
has_number entries number off = elim (cases_eq number 0) [
  | inl same ↦ let l : ◌≡◌ {A = Bool} false true = sym (ap (was_taken_back entries) same) ∙ off in absurd (true≢false (sym l))
  | inr differs ↦ omega (arith, differs)
]

-- one link further, past an entry that does not stand
step_back : (entries : List Entry) (links : Links) (place from number : ℕ) → AreLinked entries links → LeadsBack links.subject entries place from number
    → 0 < number → was_taken_back entries number ≡ true → LeadsBack links.subject entries place from (slice_index links.before (number - 1))
step_back entries links place from number linked leads some off =
    let back = linked.before number place (leads.on_chain some) in
    record {
      earlier = let a = leads.earlier in let b = back.earlier in omega (arith, a, b);
      on_chain = back.on_chain;
      none_between = λ other later sooner. elim (cases_order other number) [
        | inl same ↦ ap (said_at links.subject entries place) same ∙ silent links.subject place (entry_at entries number) off
        | inr (inl less) ↦ back.none_between other later less
        | inr (inr more) ↦ leads.none_between other more sooner
      ];
    }

-- the place of a link that is followed
pub link_inside : (entries : List Entry) (links : Links) (place number : ℕ) → AreLinked entries links
    → LeadsBack links.subject entries place (length entries + 1) number → 0 < number → number - 1 < length links.before
link_inside entries links place number linked leads some = let e = leads.earlier in omega (arith, e, linked.each, some)

link_falls : (entries : List Entry) (links : Links) (place from number : ℕ) → AreLinked entries links → LeadsBack links.subject entries place from number
    → 0 < number → slice_index links.before (number - 1) < number
link_falls entries links place from number linked leads some = (linked.before number place (leads.on_chain some)).earlier

-- what was read at a place of a column
read_at : (xs : List ℕ) (i x : ℕ) → i < length xs → x ≡ get_or xs i x → slice_index xs i ≡ x
read_at xs i x inside is = sym (is ∙ get_or_default_zero xs i x inside)

-- the walk begins at the last number that is kept for the chain
pub walk_begins : (entries : List Entry) (links : Links) (place number : ℕ) → AreLinked entries links → place < length links.last
    → number ≡ get_or links.last place number → LeadsBack links.subject entries place (length entries + 1) number
walk_begins entries links place number linked inside is =
    subst (λ to. LeadsBack links.subject entries place (length entries + 1) to) (read_at links.last place number inside is) (linked.last place inside)

-- and goes on by one link
pub walk_goes_on : (entries : List Entry) (links : Links) (place number next : ℕ) → AreLinked entries links
    → LeadsBack links.subject entries place (length entries + 1) number → was_taken_back entries number ≡ true
    → next ≡ get_or links.before (number - 1) next → LeadsBack links.subject entries place (length entries + 1) next
walk_goes_on entries links place number next linked leads off is =
    let some = has_number entries number off in
    subst (λ to. LeadsBack links.subject entries place (length entries + 1) to)
    (read_at links.before (number - 1) next (link_inside entries links place number linked leads some) is)
    (step_back entries links place (length entries + 1) number linked leads some off)

pub walk_falls : (entries : List Entry) (links : Links) (place number next : ℕ) → AreLinked entries links
    → LeadsBack links.subject entries place (length entries + 1) number → was_taken_back entries number ≡ true
    → next ≡ get_or links.before (number - 1) next → next < number
walk_falls entries links place number next linked leads off is =
    let some = has_number entries number off in
    let falls = link_falls entries links place (length entries + 1) number linked leads some in
    subst (λ to. to < number) (read_at links.before (number - 1) next (link_inside entries links place number linked leads some) is) falls

some_same : (a b : ℕ) → Some a ≡ Some b → a ≡ b
some_same a b h = cc

-- the entry of the last number, if there is one, stands and is on the chain
record Stands (subject : Subject) (entries : List Entry) (place number : ℕ) : Type 0 where
  entry : Entry
  at : entry_at entries number ≡ Some entry
  on : place_of subject entry.what ≡ Some place
  stands : entry.standing ≡ true

not_off : (b : Bool) → not b ≡ false → b ≡ true
not_off true h = refl
not_off false h = absurd (let l : ⊥ = cc in l)

stands_by : (subject : Subject) (entries : List Entry) (place number : ℕ) (o : Option Entry) → entry_at entries number ≡ o
    → is_taken_back_entry o ≡ false → option_and_then (λ (e : Entry). place_of subject e.what) o ≡ Some place → Stands subject entries place number
stands_by subject entries place number None at stands on = absurd (let l : ⊥ = cc in l)
stands_by subject entries place number (Some entry) at stands on =
    record { entry = entry; at = at; on = on; stands = not_off entry.standing stands }

last_stands : (subject : Subject) (entries : List Entry) (place number : ℕ) → IsLastOn subject entries place number → 0 < number
    → Stands subject entries place number
last_stands subject entries place number last some =
    stands_by subject entries place number (entry_at entries number) refl last.stands (last.leads.on_chain some)

-- what a judgement on the call says while it stands
record Says (o : Option Judgement) : Type 0 where
  judgement : Judgement
  is : o ≡ Some judgement

says_by : (call : ℕ) (what : What) (stands : Bool) → stands ≡ true → place_of Call what ≡ Some call
    → Says (entry_judgement call (record { what = what; standing = stands }))
says_by call what false on named = absurd (let l : ⊥ = cc in l)
says_by call (Trusted routine) true on named = absurd (let l : ⊥ = cc in l)
says_by call (Judged other judgement) true on named =
    let e : other ≡ call = some_same other call named in
    record { judgement = judgement; is = cond-true _ _ _ (eq-eqb other call e) }

says : (entries : List Entry) (call number : ℕ) → IsLastOn Call entries call number → 0 < number → Says (judgement_at entries call number)
says entries call number last some =
    let s = last_stands Call entries call number last some in
    let said = says_by call s.entry.what s.entry.standing s.stands s.on in
    record { judgement = said.judgement; is = ap (option_and_then (entry_judgement call)) s.at ∙ said.is }

-- where nothing is said on the chain of a call, there is no judgement on it
none_then : (b : Bool) (what : What) (judgement : Judgement) → ◌≡◌ {A = Option What} (cond b (Some what) None) None
    → ◌≡◌ {A = Option Judgement} (cond b (Some judgement) None) None
none_then true what judgement h = absurd (let l : ⊥ = cc in l)
none_then false what judgement h = refl

no_judgement_by : (call : ℕ) (what : What) (stands : Bool) → said_on Call call (record { what = what; standing = stands }) ≡ None
    → entry_judgement call (record { what = what; standing = stands }) ≡ None
no_judgement_by call what false h = refl
no_judgement_by call (Trusted routine) true h = refl
no_judgement_by call (Judged other judgement) true h = none_then (other == call) (Judged other judgement) judgement h

no_judgement : (call : ℕ) (o : Option Entry) → option_and_then (said_on Call call) o ≡ None → option_and_then (entry_judgement call) o ≡ None
no_judgement call None h = refl
no_judgement call (Some entry) h = no_judgement_by call entry.what entry.standing h

-- the judgement of the entry at a place
at_number : (entries : List Entry) (call number place : ℕ) (d : Entry) → number ≡ place + 1 → place < length entries
    → judgement_at entries call number ≡ entry_judgement call (get_or entries place d)
at_number entries call number place d is inside =
    let e : number - 1 ≡ place = omega (arith, is) in
    ap (option_and_then (entry_judgement call)) (at_place entries number (omega (arith, is)) ∙ ap (slice_get entries) e
    ∙ slice_get-get_or entries place d inside)

anything : Entry
anything = record { what = Trusted 0; standing = false }

-- the last judgement on the call among the first entries
last_upto : (entries : List Entry) (call to : ℕ) → IsLastOn Call entries call to → (more : ℕ) → to + more ≤ length entries
    → judgement_at entries call to ≡ last_of (filter_map (entry_judgement call) (take (to + more) entries))
last_upto entries call to last zero within = elim (cases_eq to 0) [
  | inl same ↦
      let none : to + 0 ≡ 0 = omega (arith, same) in
      ap (judgement_at entries call) same ∙ ap (λ n. last_of (filter_map (entry_judgement call) (take n entries))) (sym none)
  | inr some ↦
      let said = says entries call to last (omega (arith, some)) in
      let inside : to - 1 < length entries = omega (arith, within, some) in
      let here = sym (at_number entries call to (to - 1) anything (omega (arith, some)) inside) ∙ said.is in
      let all : to - 1 + 1 ≡ to + 0 = omega (arith, some) in
      said.is ∙ last_given (entry_judgement call) entries (to - 1) anything said.judgement inside here
      ∙ ap (λ n. last_of (filter_map (entry_judgement call) (take n entries))) all
]
last_upto entries call to last (suc more) within =
    let inside : to + more < length entries = omega (arith, within) in
    let nothing = last.leads.none_between (to + more + 1) (omega arith) (omega (arith, within)) in
    let none = no_judgement call (entry_at entries (to + more + 1)) nothing in
    let here = sym (at_number entries call (to + more + 1) (to + more) anything refl inside) ∙ none in
    let all : to + more + 1 ≡ to + suc more = omega arith in
    last_kept (entry_judgement call) entries (to + more) anything (judgement_at entries call to) inside here
    (last_upto entries call to last more (omega (arith, within)))
    ∙ ap (λ n. last_of (filter_map (entry_judgement call) (take n entries))) all

-- the last judgement on a call, by the chain of the call
pub judgement_by_links : (entries : List Entry) (call to : ℕ) → IsLastOn Call entries call to
    → judgement_at entries call to ≡ last_of (filter_map (entry_judgement call) entries)
judgement_by_links entries call to last =
    let e = last.leads.earlier in
    let all : to + (length entries - to) ≡ length entries = omega (arith, e) in
    last_upto entries call to last (length entries - to) (omega (arith, all))
    ∙ ap (λ n. last_of (filter_map (entry_judgement call) (take n entries))) all
    ∙ ap (λ l. last_of (filter_map (entry_judgement call) l)) (take_all (length entries) entries (omega arith))

-- whether a routine is trusted, by its chain
or_true : (b : Bool) → (b || true) ≡ true
or_true true = refl
or_true false = refl

any_at : (f : Entry → Bool) (xs : List Entry) (i : ℕ) (x : Entry) → slice_get xs i ≡ Some x → f x ≡ true → list_any f xs ≡ true
any_at f [] i x at passes = absurd (let l : ⊥ = cc in l)
any_at f (y ∷ xs) zero x at passes =
    let e : y ≡ x = same_Some y x at in
    ap (λ b. b || list_any f xs) (ap f e ∙ passes)
any_at f (y ∷ xs) (suc i) x at passes = ap (λ b. f y || b) (any_at f xs i x at passes) ∙ or_true (f y)

any_nowhere : (f : Entry → Bool) (xs : List Entry) → ((i : ℕ) (x : Entry) → slice_get xs i ≡ Some x → f x ≡ false) → list_any f xs ≡ false
any_nowhere f [] none = refl
any_nowhere f (y ∷ xs) none =
    ap (λ b. b || list_any f xs) (none 0 y refl) ∙ any_nowhere f xs (λ i x at. none (suc i) x at)

trusts_by : (routine : ℕ) (what : What) (stands : Bool) → stands ≡ true → place_of Routine what ≡ Some routine
    → entry_trusts routine (record { what = what; standing = stands }) ≡ true
trusts_by routine what false on named = absurd (let l : ⊥ = cc in l)
trusts_by routine (Judged call judgement) true on named = absurd (let l : ⊥ = cc in l)
trusts_by routine (Trusted other) true on named = let e : other ≡ routine = some_same other routine named in eq-eqb other routine e

none_false : (b : Bool) (what : What) → ◌≡◌ {A = Option What} (cond b (Some what) None) None → b ≡ false
none_false true what h = absurd (let l : ⊥ = cc in l)
none_false false what h = refl

no_trust_by : (routine : ℕ) (what : What) (stands : Bool) → said_on Routine routine (record { what = what; standing = stands }) ≡ None
    → entry_trusts routine (record { what = what; standing = stands }) ≡ false
no_trust_by routine what false h = refl
no_trust_by routine (Judged call judgement) true h = refl
no_trust_by routine (Trusted other) true h = none_false (other == routine) (Trusted other) h

trusted_by_links : (entries : List Entry) (routine number : ℕ) → IsLastOn Routine entries routine number → 0 < number
    → list_any (entry_trusts routine) entries ≡ true
trusted_by_links entries routine number last some =
    let s = last_stands Routine entries routine number last some in
    any_at (entry_trusts routine) entries (number - 1) s.entry (sym (at_place entries number some) ∙ s.at)
    (trusts_by routine s.entry.what s.entry.standing s.stands s.on)

not_trusted_by_links : (entries : List Entry) (routine number : ℕ) → IsLastOn Routine entries routine number → number ≡ 0
    → list_any (entry_trusts routine) entries ≡ false
not_trusted_by_links entries routine number last none =
    any_nowhere (entry_trusts routine) entries
    (λ i entry at.
    let inside = slice_get_within entries i entry at in
    let place : i + 1 - 1 ≡ i = omega arith in
    let here : entry_at entries (i + 1) ≡ Some entry = at_place entries (i + 1) (omega arith) ∙ ap (slice_get entries) place ∙ at in
    let nothing = last.leads.none_between (i + 1) (omega (arith, none)) (omega (arith, inside)) in
    no_trust_by routine entry.what entry.standing (sym (ap (option_and_then (said_on Routine routine)) here) ∙ nothing))

pub trust_by_links : (entries : List Entry) (routine number : ℕ) → IsLastOn Routine entries routine number
    → nat_lt 0 number ≡ list_any (entry_trusts routine) entries
trust_by_links entries routine number last = elim (cases_eq number 0) [
  | inl same ↦ ap (nat_lt 0) same ∙ sym (not_trusted_by_links entries routine number last same)
  | inr differs ↦ lt-ltb 0 number (omega (arith, differs)) ∙ sym (trusted_by_links entries routine number last (omega (arith, differs)))
]

-- the last entry that stands, by the one chain of all entries
stands_not_by : (what : What) (stands : Bool) → said_on Any 0 (record { what = what; standing = stands }) ≡ None → stands ≡ false
stands_not_by what true h = absurd (let l : ⊥ = cc in l)
stands_not_by what false h = refl

stands_not : (o : Option Entry) → option_and_then (said_on Any 0) o ≡ None → is_standing_entry o ≡ false
stands_not None h = refl
stands_not (Some entry) h = stands_not_by entry.what entry.standing h

pub last_number_stands : (entries : List Entry) (number : ℕ) → IsLastOn Any entries 0 number → 0 < number → is_standing entries number ≡ true
last_number_stands entries number last some =
    let s = last_stands Any entries 0 number last some in
    ap is_standing_entry s.at ∙ s.stands

pub last_by_links : (entries : List Entry) (number : ℕ) → IsLastOn Any entries 0 number → 0 < number → last_standing entries ≡ Some number
last_by_links entries number last some =
    last_where_from (is_standing entries) (length entries + 1) number
    (record {
      inside = last.leads.earlier;
      passes = last_number_stands entries number last some;
      none_later = λ other later inside. stands_not (entry_at entries other) (last.leads.none_between other later inside);
    })

pub none_by_links : (entries : List Entry) (number : ℕ) → IsLastOn Any entries 0 number → number ≡ 0 → last_standing entries ≡ None
none_by_links entries number last none =
    no_last_where (is_standing entries) (length entries + 1)
    (λ other inside. elim (cases_eq other 0) [
      | inl same ↦ ap (is_standing entries) same
      | inr differs ↦ stands_not (entry_at entries other) (last.leads.none_between other (omega (arith, none, differs)) inside)
    ])
