-- The marks and the state that judgements on classes leave, command by command.
use Rattle.std.proofs.Common.{if◌then◌else◌, ◌++◌, ◌+◌, ◌-◌, ◌<◌, ◌==◌, ◌||◌, ◌∙◌, ◌∷◌, ◌≡◌, ◌≢◌, ◌≤◌, ◌⊎◌, [], ℕ, Bool, List, None, Option, Some, ap}
use Rattle.std.proofs.Common.{append-nil, arith, false, filter, fold, inl, inr, length, map, refl, slice_get, slice_index, slice_index_or, slice_set, suc, sym}
use Rattle.std.{proofs.Common.true, proofs.Common.zero, specs.List.cons_option, specs.List.filter_map, specs.List.list_any, specs.List.range_with_len}
use Rattle.std.proofs.lemmas.{Bool.eq-eqb, Bool.ne_eqb, Bool.Decides.eqb_tells, List.FromFn.get_or-map-range_with_len, List.FromFn.length-range_with_len}
use Rattle.std.proofs.lemmas.List.{append_assoc, length-append, length-map, Elements.filter_map-append}
use Rattle.call_tree.specs.{Recording.Recording, Recording.lasts_of, Recording.routines_of, declared.records.Mark.Mark}
use Rattle.answer_book.proofs.{EntryLemmas.last_by_entries, FilterMaps.filter_map-set, KeptLemmas.column_same, LastWhere.last_where_same}
use Rattle.answer_book.specs.{Accused.accused_of, Accused.is_wrong, Numbers.last_of, Numbers.last_where, Numbers.numbers_below, Spoken.entry_judgement}
use Rattle.answer_book.specs.Entries.{entries_without, entry_at, entry_saying, with_taken_back}
use Rattle.answer_book.specs.Marks.{is_trusted, judgement_on, last_judgement, mark_given, mark_of, marks_of}
use Rattle.answer_book.specs.declared.entries.{Entry.Entry, Judgement.Judgement, Judgement.TheVariants.Wrong}
use Rattle.answer_book.specs.declared.entries.What.{What, TheVariants.Judged, TheVariants.Trusted}
use Rattle.optimal_query.specs.Search.{Search, answers_in, marks_now, new_search, search_with, search_without, state_now}
use Rattle.optimal_query.specs.State.{state_of, state_with}
use Rattle.answer_reuse.proofs.NumbersPassing.{one_if, passing_more}
use Rattle.answer_reuse.specs.{Classes.IsAlone, Classes.class_of, Laws.MarksAreShared}
use Rattle.answer_reuse.specs.Shared.{JudgeAlike, SharedCommand, TakeBackAlike, TakeBackTrust, TrustRoutine, accepted_of, accepts, accused_by, after_accepted}
use Rattle.answer_reuse.specs.Shared.{after_shared, is_trust, judged_each, judgements_left, judges_alike, judges_in, judges_of, search_with_each}
use Rattle.answer_reuse.specs.Shared.{search_without_each, shared_judgement, shared_mark, standing_alike, standing_of, takes_back_alike}

-- ---- one command more, by the definition

-- what its own judgement adds, unless such judgements are taken back
abbrev with_command : Bool → Option Judgement → List Judgement → List Judgement
with_command true given left = []
with_command false given left = left ++ cons_option given []

module _ (classes : List ℕ) (call : ℕ) where
  abbrev takes : SharedCommand → Bool
  takes = takes_back_alike classes call

  abbrev gives : SharedCommand → Option Judgement
  gives = judges_alike classes call

  takes_none : (c : SharedCommand) → takes c ≡ true → gives c ≡ None
  takes_none (JudgeAlike other judgement) e = absurd (let z : false ≡ true = e in cc)
  takes_none (TakeBackAlike other) e = refl
  takes_none (TrustRoutine routine) e = refl
  takes_none (TakeBackTrust number) e = refl

  one_of_nothing : (c : SharedCommand) → (b : Bool) → takes c ≡ b → cons_option (gives c) [] ≡ with_command b (gives c) []
  one_of_nothing c true e = ap (λ (o : Option Judgement). cons_option o []) (takes_none c e)
  one_of_nothing c false e = refl

  one_more : (a b : Bool) (given own : Option Judgement) (left : List Judgement)
      → cons_option (if a || (b || false) then None else given) (with_command b own left)
      ≡ with_command b own (cons_option (if a then None else given) left)
  one_more true true given own left = refl
  one_more false true given own left = refl
  one_more true false given own left = refl
  one_more false false None own left = refl
  one_more false false (Some judgement) own left = refl

  any_more : (c : SharedCommand) (cs : List SharedCommand) → list_any takes (cs ++ c ∷ []) ≡ (list_any takes cs || (takes c || false))
  any_more c [] = refl
  any_more c (d ∷ cs) = ap (λ b. takes d || b) (any_more c cs) ∙ by (takes d)
    where
      by : (b : Bool) → (b || (list_any takes cs || (takes c || false))) ≡ ((b || list_any takes cs) || (takes c || false))
      by true = refl
      by false = refl

  pub left_more : (c : SharedCommand) (cs : List SharedCommand)
      → judgements_left classes call (cs ++ c ∷ []) ≡ with_command (takes c) (gives c) (judgements_left classes call cs)
  left_more c [] = one_of_nothing c (takes c) refl
  left_more c (d ∷ cs) =
      ap (λ (l : List Judgement). cons_option (if list_any takes (cs ++ c ∷ []) then None else gives d) l) (left_more c cs)
      ∙ ap (λ (b : Bool). cons_option (if b then None else gives d) (with_command (takes c) (gives c) (judgements_left classes call cs))) (any_more c cs)
      ∙ one_more (list_any takes cs) (takes c) (gives d) (gives c) (judgements_left classes call cs)

-- ---- the judgements on a call that entries give

abbrev pub given_on : (call : ℕ) → List Entry → List Judgement
given_on call entries = filter_map (entry_judgement call) entries

given_more : (call : ℕ) (es fs : List Entry) → given_on call (es ++ fs) ≡ given_on call es ++ given_on call fs
given_more call es fs = filter_map-append (entry_judgement call) es fs

-- entries with one more for each of these calls
with_each_entries : (s : Search) (ws : List What) → (search_with_each s ws).book.entries ≡ s.book.entries ++ map entry_saying ws
with_each_entries s [] = sym (append-nil s.book.entries)
with_each_entries s (w ∷ ws) = with_each_entries (search_with s w) ws ∙ append_assoc s.book.entries (entry_saying w ∷ []) (map entry_saying ws)

module _ (call : ℕ) (judgement : Judgement) where
  abbrev said : List ℕ → List Judgement
  said calls = given_on call (map entry_saying (judged_each judgement calls))

  said_append : (xs ys : List ℕ) → said (xs ++ ys) ≡ said xs ++ said ys
  said_append [] ys = refl
  said_append (x ∷ xs) ys = ap (cons_option (judgement_on call (Judged x judgement))) (said_append xs ys)
      ∙ by (judgement_on call (Judged x judgement))
    where
      by : (o : Option Judgement) → cons_option o (said xs ++ said ys) ≡ cons_option o (said xs) ++ said ys
      by None = refl
      by (Some j) = refl

  said_one : (n : ℕ) (b : Bool) → (n ≡ call → b ≡ false) → said (one_if b n) ≡ []
  said_one n false h = refl
  said_one n true h = elim (eqb_tells n call) [
    | inl q ↦ absurd (let z : true ≡ false = h q.1 in cc)
    | inr q ↦ ap (λ (b : Bool). cons_option (if b then Some judgement else None) []) q.0
  ]

  said_own : (b : Bool) → said (one_if b call) ≡ cons_option (if b then Some judgement else None) []
  said_own false = refl
  said_own true = ap (λ (b : Bool). cons_option (if b then Some judgement else None) []) (eq-eqb call call refl)

  module _ (p : ℕ → Bool) where
    said_more : (n : ℕ) → said (filter p (numbers_below (n + 1))) ≡ said (filter p (numbers_below n)) ++ said (one_if (p n) n)
    said_more n = ap said (passing_more p n) ∙ said_append (filter p (numbers_below n)) (one_if (p n) n)

    said_before : (n : ℕ) → n ≤ call → said (filter p (numbers_below n)) ≡ []
    said_before zero l = refl
    said_before (suc n) l =
        let one : suc n ≡ n + 1 = omega arith in
        ap (λ m. said (filter p (numbers_below m))) one ∙ said_more n
        ∙ (λ i. said_before n (omega arith) i ++ said_one n (p n) (λ e. absurd (omega (arith, e, l))) i)

    -- a judgement on each of these calls gives one on the call, if it is among them
    pub said_once : (n : ℕ) → call < n → said (filter p (numbers_below n)) ≡ cons_option (if p call then Some judgement else None) []
    said_once zero l = absurd (omega arith)
    said_once (suc n) l = ap (λ m. said (filter p (numbers_below m))) one ∙ said_more n ∙ by (eqb_tells n call) (λ l. said_once n l)
      where
        one : suc n ≡ n + 1
        one = omega arith

        by : (((n == call) ≡ true) × (n ≡ call)) ⊎ (((n == call) ≡ false) × (n ≢ call))
            → (call < n → said (filter p (numbers_below n)) ≡ cons_option (if p call then Some judgement else None) [])
            → said (filter p (numbers_below n)) ++ said (one_if (p n) n) ≡ cons_option (if p call then Some judgement else None) []
        by (inl q) before =
            ap (λ (l : List Judgement). l ++ said (one_if (p n) n)) (said_before n (let e = q.1 in omega arith))
            ∙ ap (λ m. said (one_if (p m) m)) q.1 ∙ said_own (p call)
        by (inr q) before =
            ap (λ (l : List Judgement). said (filter p (numbers_below n)) ++ l) (said_one n (p n) (λ e. absurd (q.1 e)))
            ∙ append-nil (said (filter p (numbers_below n))) ∙ before (let e = q.1 in omega arith)

-- ---- the entries on a class, taken back

abbrev pub struck : (classes : List ℕ) → (least : ℕ) → Entry → Entry
struck classes least entry = if judges_of classes least entry then record entry { standing = false } else entry

got_between : (xs ys : List Entry) (x : Entry) → slice_get (xs ++ x ∷ ys) (length xs) ≡ Some x
got_between [] ys x = refl
got_between (z ∷ xs) ys x = got_between xs ys x

set_between : (xs ys : List Entry) (x y : Entry) → slice_set (xs ++ x ∷ ys) (length xs) y ≡ xs ++ y ∷ ys
set_between [] ys x y = refl
set_between (z ∷ xs) ys x y = ap (λ (l : List Entry). z ∷ l) (set_between xs ys x y)

between : (xs ys : List Entry) (x : Entry) → xs ++ x ∷ ys ≡ (xs ++ x ∷ []) ++ ys
between xs ys x = sym (append_assoc xs (x ∷ []) ys)

long_between : (xs : List Entry) (x : Entry) → length (xs ++ x ∷ []) ≡ length xs + 1
long_between xs x = length-append xs (x ∷ [])

-- the entry of a number is the one after as many as come before it
at_between : (xs ys : List Entry) (x : Entry) (number : ℕ) → number ≡ length xs + 1 → entry_at (xs ++ x ∷ ys) number ≡ Some x
at_between xs ys x number e =
    ap (λ (b : Bool). if b then None else slice_get (xs ++ x ∷ ys) (number - 1)) (ne_eqb number 0 (λ z. omega (arith, e, z)))
    ∙ ap (slice_get (xs ++ x ∷ ys)) (let z : number - 1 ≡ length xs = omega (arith, e) in z) ∙ got_between xs ys x

without_between : (xs ys : List Entry) (x : Entry) (number : ℕ) → number ≡ length xs + 1
    → entries_without (xs ++ x ∷ ys) number ≡ (xs ++ record x { standing = false } ∷ []) ++ ys
without_between xs ys x number e =
    ap (with_taken_back (xs ++ x ∷ ys) (number - 1)) (at_between xs ys x number e)
    ∙ ap (λ n. slice_set (xs ++ x ∷ ys) n (record x { standing = false })) (let z : number - 1 ≡ length xs = omega (arith, e) in z)
    ∙ set_between xs ys x (record x { standing = false }) ∙ between xs ys (record x { standing = false })

module _ (classes : List ℕ) (least : ℕ) where
  abbrev strike : Entry → Entry
  strike = struck classes least

  -- these numbers, of those from one on, are of entries to be taken back
  abbrev Tells : (ℕ → Bool) → ℕ → List Entry → Type 0
  Tells p number [] = Unit {0}
  Tells p number (e ∷ es) = (p number ≡ judges_of classes least e) × Tells p (number + 1) es

  taken_each : (p : ℕ → Bool) (number : ℕ) (xs es : List Entry) → number ≡ length xs + 1 → Tells p number es
      → fold entries_without (xs ++ es) (filter p (range_with_len number (length es))) ≡ xs ++ map strike es
  taken_each p number xs [] n h = refl
  taken_each p number xs (e ∷ es) n h =
      by (p number) (judges_of classes least e) refl refl
      (λ x. taken_each p (number + 1) (xs ++ x ∷ []) es (let l = long_between xs x in omega (arith, l, n)) h.1)
    where
      by : (a b : Bool) → p number ≡ a → judges_of classes least e ≡ b
          → ((x : Entry) → fold entries_without ((xs ++ x ∷ []) ++ es) (filter p (range_with_len (number + 1) (length es))) ≡ (xs ++ x ∷ []) ++ map strike es)
          → fold entries_without (xs ++ e ∷ es) (if a then number ∷ filter p (range_with_len (number + 1) (length es))
          else filter p (range_with_len (number + 1) (length es)))
          ≡ xs ++ (if b then record e { standing = false } else e) ∷ map strike es
      by true true f g rest =
          ap (λ (l : List Entry). fold entries_without l (filter p (range_with_len (number + 1) (length es)))) (without_between xs es e number n)
          ∙ rest (record e { standing = false }) ∙ sym (between xs (map strike es) (record e { standing = false }))
      by false false f g rest =
          ap (λ (l : List Entry). fold entries_without l (filter p (range_with_len (number + 1) (length es)))) (between xs es e)
          ∙ rest e ∙ sym (between xs (map strike es) e)
      by true false f g rest = absurd (let z : true ≡ false = sym f ∙ h.0 ∙ g in cc)
      by false true f g rest = absurd (let z : false ≡ true = sym f ∙ h.0 ∙ g in cc)

  tells : (all xs es : List Entry) (number : ℕ) → number ≡ length xs + 1 → all ≡ xs ++ es
      → Tells (λ number. judges_in classes least (entry_at all number)) number es
  tells all xs [] number n e = tt
  tells all xs (x ∷ es) number n e = (
    ap (judges_in classes least) (ap (λ (l : List Entry). entry_at l number) e ∙ at_between xs es x number n),
    tells all (xs ++ x ∷ []) es (number + 1) (let l = long_between xs x in omega (arith, l, n)) (e ∙ between xs es x),
  )

  -- with each of these taken back, each entry that judges a call of the class no longer stands
  pub all_struck : (es : List Entry) → fold entries_without es (standing_of es classes least) ≡ map strike es
  all_struck es =
      ap (λ n. fold entries_without es (filter (λ number. judges_in classes least (entry_at es number)) (numbers_below n)))
      (let z : length es + 1 ≡ suc (length es) = omega arith in z)
      ∙ taken_each (λ number. judges_in classes least (entry_at es number)) 1 [] es refl (tells es [] es 1 refl refl)

  struck_own : (call : ℕ) → slice_index classes call ≡ least → (e : Entry) → entry_judgement call (strike e) ≡ None
  struck_own call own e = by e.what e.standing
    where
      by : (what : What) (b : Bool) → entry_judgement call (strike (record { what = what; standing = b })) ≡ None
      by (Trusted routine) true = refl
      by (Trusted routine) false = refl
      by (Judged other judgement) false = refl
      by (Judged other judgement) true = elim (eqb_tells (slice_index classes other) least) [
        | inl q ↦ ap (λ (b : Bool). entry_judgement call (if b then record { what = Judged other judgement; standing = false }
            else record { what = Judged other judgement; standing = true })) q.0
        | inr q ↦ ap (λ (b : Bool). entry_judgement call (if b then record { what = Judged other judgement; standing = false }
            else record { what = Judged other judgement; standing = true })) q.0
            ∙ ap (λ (b : Bool). if b then Some judgement else None) (ne_eqb other call (λ z. q.1 (ap (slice_index classes) z ∙ own)))
      ]

  struck_other : (call : ℕ) → (slice_index classes call ≡ least → ⊥) → (e : Entry) → entry_judgement call (strike e) ≡ entry_judgement call e
  struck_other call apart e = by e.what e.standing
    where
      by : (what : What) (b : Bool)
          → entry_judgement call (strike (record { what = what; standing = b })) ≡ entry_judgement call (record { what = what; standing = b })
      by (Trusted routine) true = refl
      by (Trusted routine) false = refl
      by (Judged other judgement) false = refl
      by (Judged other judgement) true = elim (eqb_tells (slice_index classes other) least) [
        | inl q ↦ ap (λ (b : Bool). entry_judgement call (if b then record { what = Judged other judgement; standing = false }
            else record { what = Judged other judgement; standing = true })) q.0
            ∙ sym (ap (λ (b : Bool). if b then Some judgement else None) (ne_eqb other call (λ z. apart (ap (slice_index classes) (sym z) ∙ q.1))))
        | inr q ↦ ap (λ (b : Bool). entry_judgement call (if b then record { what = Judged other judgement; standing = false }
            else record { what = Judged other judgement; standing = true })) q.0
      ]

  pub none_left : (call : ℕ) → slice_index classes call ≡ least → (es : List Entry) → given_on call (map strike es) ≡ []
  none_left call own [] = refl
  none_left call own (e ∷ es) = (λ i. cons_option (struck_own call own e i) (none_left call own es i))

  pub all_left : (call : ℕ) → (slice_index classes call ≡ least → ⊥) → (es : List Entry) → given_on call (map strike es) ≡ given_on call es
  all_left call apart [] = refl
  all_left call apart (e ∷ es) = (λ i. cons_option (struck_other call apart e i) (all_left call apart es i))

without_each_entries : (s : Search) (ms : List ℕ) → (search_without_each s ms).book.entries ≡ fold entries_without s.book.entries ms
without_each_entries s [] = refl
without_each_entries s (m ∷ ms) = without_each_entries (search_without s m) ms

-- ---- what no command changes

pub record Same (s t : Search) : Type 0 where
  pub last : t.last ≡ s.last
  pub routine : t.book.routine ≡ s.book.routine

same_itself : (s : Search) → Same s s
same_itself s = record { last = refl; routine = refl }

same_with_each : (s : Search) (ws : List What) → Same s (search_with_each s ws)
same_with_each s [] = same_itself s
same_with_each s (w ∷ ws) = let r = same_with_each (search_with s w) ws in record { last = r.last; routine = r.routine }

same_without_each : (s : Search) (ms : List ℕ) → Same s (search_without_each s ms)
same_without_each s [] = same_itself s
same_without_each s (m ∷ ms) = let r = same_without_each (search_without s m) ms in record { last = r.last; routine = r.routine }

same_after : (classes : List ℕ) (s : Search) (c : SharedCommand) → Same s (after_accepted classes s c)
same_after classes s (JudgeAlike call judgement) = same_with_each s (judged_each judgement (class_of classes call))
same_after classes s (TakeBackAlike call) = same_without_each s (standing_alike s.book.entries classes call)
same_after classes s (TrustRoutine routine) = record { last = refl; routine = refl }
same_after classes s (TakeBackTrust number) = record { last = refl; routine = refl }

-- ---- one command more, by the entries

module _ (classes : List ℕ) (call : ℕ) (is_call : call < length classes) where
  -- taking back an entry that trusts leaves all judgements
  trust_back : (es : List Entry) (place : ℕ) (o : Option Entry) → slice_get es place ≡ o → is_trust o ≡ true
      → given_on call (with_taken_back es place o) ≡ given_on call es
  trust_back es place None at e = refl
  trust_back es place (Some entry) at e =
      filter_map-set (entry_judgement call) es place entry (record entry { standing = false }) at (by entry.what entry.standing e)
    where
      by : (what : What) (b : Bool) → is_trust (Some (record { what = what; standing = b })) ≡ true
          → entry_judgement call (record { what = what; standing = false }) ≡ entry_judgement call (record { what = what; standing = b })
      by (Trusted routine) true e = refl
      by (Trusted routine) false e = refl
      by (Judged other judgement) true e = absurd (let z : false ≡ true = e in cc)
      by (Judged other judgement) false e = refl

  trust_back_at : (es : List Entry) (number : ℕ) (b : Bool) → is_trust (if b then None else slice_get es (number - 1)) ≡ true
      → given_on call (with_taken_back es (number - 1) (if b then None else slice_get es (number - 1))) ≡ given_on call es
  trust_back_at es number true e = refl
  trust_back_at es number false e = trust_back es (number - 1) (slice_get es (number - 1)) refl e

  pub entries_more : (s : Search) (c : SharedCommand) → accepts classes s c ≡ true
      → given_on call (after_accepted classes s c).book.entries
      ≡ with_command (takes_back_alike classes call c) (judges_alike classes call c) (given_on call s.book.entries)
  entries_more s (JudgeAlike other judgement) e =
      ap (given_on call) (with_each_entries s (judged_each judgement (class_of classes other)))
      ∙ given_more call s.book.entries (map entry_saying (judged_each judgement (class_of classes other)))
      ∙ ap (λ (l : List Judgement). given_on call s.book.entries ++ l)
      (said_once call judgement (λ n. slice_index classes n == slice_index classes other) (length classes) is_call
      ∙ ap (λ (b : Bool). cons_option (if b then Some judgement else None) []) (turned (slice_index classes call) (slice_index classes other)))
    where
      turned : (m n : ℕ) → (m == n) ≡ (n == m)
      turned m n = elim (eqb_tells m n) [
        | inl q ↦ q.0 ∙ sym (eq-eqb n m (sym q.1))
        | inr q ↦ q.0 ∙ sym (ne_eqb n m (λ z. q.1 (sym z)))
      ]
  entries_more s (TakeBackAlike other) e =
      ap (given_on call) (without_each_entries s (standing_alike s.book.entries classes other) ∙ all_struck classes (slice_index classes other) s.book.entries)
      ∙ elim (eqb_tells (slice_index classes other) (slice_index classes call)) [
        | inl q ↦ none_left classes (slice_index classes other) call (sym q.1) s.book.entries
            ∙ sym (ap (λ (b : Bool). with_command b None (given_on call s.book.entries)) q.0)
        | inr q ↦ all_left classes (slice_index classes other) call (λ z. q.1 (sym z)) s.book.entries
            ∙ sym (append-nil (given_on call s.book.entries))
            ∙ sym (ap (λ (b : Bool). with_command b None (given_on call s.book.entries)) q.0)
      ]
  entries_more s (TrustRoutine routine) e = given_more call s.book.entries (entry_saying (Trusted routine) ∷ [])
  entries_more s (TakeBackTrust number) e =
      trust_back_at s.book.entries number (number == 0) e ∙ sym (append-nil (given_on call s.book.entries))

  -- the judgements on a call that the entries give are those that the commands left
  abbrev IsLeft : Search → List SharedCommand → Type 0
  IsLeft s commands = given_on call s.book.entries ≡ judgements_left classes call commands

  left_after : (s : Search) (before commands : List SharedCommand) → IsLeft s before
      → IsLeft (after_shared classes s commands) (before ++ accepted_of classes s commands)
  left_after s before [] h = h ∙ sym (ap (judgements_left classes call) (append-nil before))
  left_after s before (c ∷ commands) h = by (accepts classes s c) refl
      (λ l. left_after (after_accepted classes s c) (before ++ c ∷ []) commands l) (left_after s before commands h)
    where
      by : (b : Bool) → accepts classes s c ≡ b
          → (IsLeft (after_accepted classes s c) (before ++ c ∷ []) → IsLeft (after_shared classes (after_accepted classes s c) commands)
          ((before ++ c ∷ []) ++ accepted_of classes (after_accepted classes s c) commands))
          → IsLeft (after_shared classes s commands) (before ++ accepted_of classes s commands)
          → IsLeft (after_shared classes (if b then after_accepted classes s c else s) commands)
          (before ++ (if b then c ∷ accepted_of classes (after_accepted classes s c) commands else accepted_of classes s commands))
      by true e with_it without =
          with_it (entries_more s c e ∙ ap (with_command (takes_back_alike classes call c) (judges_alike classes call c)) h
          ∙ sym (left_more classes call c before))
          ∙ ap (judgements_left classes call) (append_assoc before (c ∷ []) (accepted_of classes (after_accepted classes s c) commands))
      by false e with_it without = without

  first_left : IsAlone classes → (run : Recording) → IsLeft (new_search run) (JudgeAlike 0 Wrong ∷ [])
  first_left alone run = ap (λ (b : Bool). cons_option (if b then Some Wrong else None) []) (elim (eqb_tells 0 call) [
    | inl q ↦ q.0 ∙ sym (eq-eqb (slice_index classes 0) (slice_index classes call) (ap (slice_index classes) q.1))
    | inr q ↦ q.0 ∙ sym (ne_eqb (slice_index classes 0) (slice_index classes call) (λ z. q.1 (sym (alone call is_call (sym z)))))
  ])

  pub judgement_is : IsAlone classes → (run : Recording) (commands : List SharedCommand)
      → last_judgement (answers_in (after_shared classes (new_search run) commands)) call
      ≡ shared_judgement classes (accepted_of classes (new_search run) commands) call
  judgement_is alone run commands =
      last_by_entries (after_shared classes (new_search run) commands).book.entries call
      ∙ ap last_of (left_after (new_search run) (JudgeAlike 0 Wrong ∷ []) commands (first_left alone run))

same_all : (classes : List ℕ) (s : Search) (commands : List SharedCommand) → Same s (after_shared classes s commands)
same_all classes s [] = same_itself s
same_all classes s (c ∷ commands) =
    by (accepts classes s c) (same_all classes (after_accepted classes s c) commands) (same_all classes s commands)
  where
    by : (b : Bool) → Same (after_accepted classes s c) (after_shared classes (after_accepted classes s c) commands)
        → Same s (after_shared classes s commands) → Same s (after_shared classes (if b then after_accepted classes s c else s) commands)
    by true r without =
        let f = same_after classes s c in record { last = r.last ∙ f.last; routine = r.routine ∙ f.routine }
    by false r without = without

-- ---- the marks and the state

accused_is : (routine : List ℕ) (answers : List What) → accused_of routine answers ≡ accused_by (marks_of routine answers)
unfolding accused_of
accused_is routine answers =
    let long : length (marks_of routine answers) ≡ length routine =
    length-map (numbers_below (length routine)) (mark_of routine answers) ∙ length-range_with_len 0 (length routine) in
    last_where_same (λ call. is_wrong (mark_of routine answers call)) (λ call. is_wrong (slice_index_or (marks_of routine answers) call Mark.Unjudged))
    (length routine)
    (λ call l. ap is_wrong (sym (get_or-map-range_with_len (mark_of routine answers) 0 (length routine) call call Mark.Unjudged l (omega arith))))
    ∙ ap (λ n. last_where (λ call. is_wrong (slice_index_or (marks_of routine answers) call Mark.Unjudged)) (numbers_below n)) (sym long)

module _ (run : Recording) (classes : List ℕ) (commands : List SharedCommand) (many : length classes ≡ length run.calls) (alone : IsAlone classes) where
  abbrev after : Search
  after = after_shared classes (new_search run) commands

  abbrev by_definition : ℕ → Mark
  by_definition = shared_mark classes (new_search run) commands

  same : Same (new_search run) after
  same = same_all classes (new_search run) commands

  mark_is : (call : ℕ) → call < length classes → mark_of (routines_of run.calls) (answers_in after) call ≡ by_definition call
  unfolding mark_of
  mark_is call l =
      ap (λ o. mark_given o (is_trusted (answers_in after) (slice_index (routines_of run.calls) call))) (judgement_is classes call l alone run commands)

  marks_are : marks_of (routines_of run.calls) (answers_in after) ≡ map by_definition (numbers_below (length run.calls))
  marks_are =
      let long : length (routines_of run.calls) ≡ length run.calls = length-map run.calls (λ call. call.routine) in
      ap (λ n. map (mark_of (routines_of run.calls) (answers_in after)) (numbers_below n)) long
      ∙ column_same (mark_of (routines_of run.calls) (answers_in after)) by_definition (length run.calls) Mark.Unjudged
      (λ call l. mark_is call (omega (arith, l, many)))

  abbrev state_by : List ℕ → List ℕ → Type 0
  state_by last routine =
      state_of last routine (answers_in after) ≡ state_with last (marks_of routine (answers_in after)) (accused_by (marks_of routine (answers_in after)))

  state_is : (last routine : List ℕ) → state_by last routine
  state_is last routine = ap (state_with last (marks_of routine (answers_in after))) (accused_is routine (answers_in after))

  pub both : (marks_now after ≡ map by_definition (numbers_below (length run.calls)))
      × (state_now after ≡ state_with (lasts_of run.calls) (map by_definition (numbers_below (length run.calls)))
      (accused_by (map by_definition (numbers_below (length run.calls)))))
  both = (
    ap (λ (routine : List ℕ). marks_of routine (answers_in after)) same.routine ∙ marks_are,
    (λ i. state_of (same.last i) (same.routine i) (answers_in after)) ∙ state_is (lasts_of run.calls) (routines_of run.calls)
        ∙ ap (λ (marks : List Mark). state_with (lasts_of run.calls) marks (accused_by marks)) marks_are,
  )

pub marks_are_shared : MarksAreShared
marks_are_shared run classes commands many alone = both run classes commands many alone
