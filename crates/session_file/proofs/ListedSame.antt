-- Entries, notes and replies that are listed item after item are those of the whole list.
use Rattle.std.proofs.Common.{if◌then◌else◌, ◌&&◌, ◌++◌, ◌+◌, ◌==◌, ◌∙◌, ◌∷◌, ◌≡◌, ◌≤◌, [], ℕ, Bool, Err, List, None, Option, Result, Some, ap, append-nil}
use Rattle.std.proofs.Common.{append_assoc, arith, false, le-leb, length, nat_le, nat_lt, option_and_then, option_map, refl, suc, sym, true}
use Rattle.std.proofs.lemmas.{Bool.Decides.nat_tests, List.length-append}
use Rattle.serde_json.specs.{Data.Data, Data.Items, Data.item, Data.no_items, Events.items_len}
use Rattle.answer_book.specs.declared.entries.{Entry.Entry, Judgement.Judgement}
use Rattle.session_file.proofs.NotesInOrder.{notes_after, notes_after_none}
use Rattle.session_file.specs.{Limits.most_replies, Parts.begun_wrong, Parts.notes_by, Reading.with_kept, Text.first_version}
use Rattle.session_file.specs.Listed.{all_answered, all_listed, noted_on, nothing_answered, nothing_listed, with_one}
use Rattle.session_file.specs.Reading.{begins_wrong, entries_in, entry_in, has_allowed_length, is_short, notes_in, only_if, replies_in, reply_in, with_field}
use Rattle.session_file.specs.declared.{listed.Listed.Listed, replied.Answered.Answered}
use Rattle.session_file.specs.declared.session.{LoadFault.LoadFault, LoadFault.TheVariants.BadShape, Session.Session, SessionField.TheVariants.Entries}

too_many : (a b most : ℕ) → nat_lt a most ≡ false → nat_le (a + suc b) most ≡ false
too_many a b most e = grind (arith, nat_tests)

-- ---- entries

none_left : (ds : Items) → all_listed None ds ≡ None
none_left no_items = refl
none_left (item d ds) = none_left ds

-- these entries, of which there are so many with those before, with the notes of the values after those before
abbrev listed_if : (total : ℕ) → List Entry → Option (List (ℕ × List ℕ)) → (number : ℕ) → Items → Option Listed
listed_if total entries notes number ds =
    if nat_le total 100000 then Some (record { entries = entries; notes = notes_after notes number ds }) else None

abbrev listed_after : Listed → Items → Option (List Entry) → Option Listed
listed_after l ds None = None
listed_after l ds (Some entries) = listed_if (length l.entries + length entries) (l.entries ++ entries) l.notes (length l.entries + 1) ds

abbrev with_one_more : Listed → Data → Entry → Listed
with_one_more l d entry = record { entries = l.entries ++ entry ∷ []; notes = noted_on l.notes (length l.entries + 1) d }

one_more : (l : Listed) (d : Data) (ds : Items) (entry : Entry) (o : Option (List Entry))
    → listed_after (with_one_more l d entry) ds o ≡ listed_after l (item d ds) (option_map (λ entries. entry ∷ entries) o)
one_more l d ds entry None = refl
one_more l d ds entry (Some entries) =
    let count : length (l.entries ++ entry ∷ []) ≡ length l.entries + 1 = length-append l.entries (entry ∷ []) in
    let total : length (l.entries ++ entry ∷ []) + length entries ≡ length l.entries + suc (length entries) = omega (arith, count) in
    let notes = noted_on l.notes (length l.entries + 1) d in
    ap (λ n. listed_if n ((l.entries ++ entry ∷ []) ++ entries) notes (length (l.entries ++ entry ∷ []) + 1) ds) total
    ∙ ap (λ (es : List Entry). listed_if (length l.entries + suc (length entries)) es notes (length (l.entries ++ entry ∷ []) + 1) ds)
    (append_assoc l.entries (entry ∷ []) entries)
    ∙ ap (λ n. listed_if (length l.entries + suc (length entries)) (l.entries ++ entry ∷ entries) notes (n + 1) ds) count

no_room : (l : Listed) (d : Data) (ds : Items) (entry : Entry) (o : Option (List Entry)) → nat_lt (length l.entries) 100000 ≡ false
    → listed_after l (item d ds) (option_map (λ entries. entry ∷ entries) o) ≡ None
no_room l d ds entry None e = refl
no_room l d ds entry (Some entries) e =
    let notes = notes_after l.notes (length l.entries + 1) (item d ds) in
    ap (λ (b : Bool). if b then Some (record { entries = l.entries ++ entry ∷ entries; notes = notes }) else None)
    (too_many (length l.entries) (length entries) 100000 e)

-- by what the first value is, where it is so of the others
listed_by : (d : Data) (ds : Items) → ((l : Listed) → length l.entries ≤ 100000 → all_listed (Some l) ds ≡ listed_after l ds (entries_in ds))
    → (l : Listed) (b : Bool) → nat_lt (length l.entries) 100000 ≡ b → (o : Option Entry) → length l.entries ≤ 100000
    → all_listed (if b then option_map (with_one_more l d) o else None) ds
    ≡ listed_after l (item d ds) (option_and_then (λ entry. option_map (λ entries. entry ∷ entries) (entries_in ds)) o)
listed_by d ds others l true e None few = none_left ds
listed_by d ds others l false e None few = none_left ds
listed_by d ds others l false e (Some entry) few = none_left ds ∙ sym (no_room l d ds entry (entries_in ds) e)
listed_by d ds others l true e (Some entry) few =
    let count : length (l.entries ++ entry ∷ []) ≡ length l.entries + 1 = length-append l.entries (entry ∷ []) in
    let fewer : length (l.entries ++ entry ∷ []) ≤ 100000 = grind (arith, nat_tests) in
    others (with_one_more l d entry) fewer ∙ one_more l d ds entry (entries_in ds)

listed_all : (ds : Items) (l : Listed) → length l.entries ≤ 100000 → all_listed (Some l) ds ≡ listed_after l ds (entries_in ds)
listed_all no_items l few =
    let total : length l.entries + 0 ≡ length l.entries = omega arith in
    sym (ap (λ n. listed_if n (l.entries ++ []) l.notes (length l.entries + 1) no_items) total
    ∙ ap (λ (b : Bool). if b then Some (record { entries = l.entries ++ []; notes = l.notes }) else None) (le-leb (length l.entries) 100000 few)
    ∙ ap (λ (es : List Entry). Some (record { entries = es; notes = l.notes })) (append-nil l.entries))
listed_all (item d ds) l few =
    listed_by d ds (λ more fewer. listed_all ds more fewer) l (nat_lt (length l.entries) 100000) refl (entry_in d) few

as_many_by : (ds : Items) (entries : List Entry) (o : Option Entry) (x : Option (List Entry)) → ((es : List Entry) → x ≡ Some es → items_len ds ≡ length es)
    → option_and_then (λ entry. option_map (λ rest. entry ∷ rest) x) o ≡ Some entries → suc (items_len ds) ≡ length entries
as_many_by ds entries None x h e = absurd cc
as_many_by ds entries (Some entry) None h e = absurd cc
as_many_by ds entries (Some entry) (Some es) h e = let same : entry ∷ es ≡ entries = cc in ap suc (h es refl) ∙ ap length same

as_many : (ds : Items) (entries : List Entry) → entries_in ds ≡ Some entries → items_len ds ≡ length entries
as_many no_items [] e = refl
as_many no_items (entry ∷ entries) e = absurd cc
as_many (item d ds) entries e = as_many_by ds entries (entry_in d) (entries_in ds) (as_many ds) e

-- ---- the entries of a session, and what follows

module _ (s : Session) (rest : Session → Result Session LoadFault) where
  abbrev noted_rest : List Entry → Option (List (ℕ × List ℕ)) → Result Session LoadFault
  noted_rest entries notes = with_field Entries notes (λ n. rest (record s { entries = entries; notes = n }))

  abbrev listed_rest : Option Listed → Result Session LoadFault
  listed_rest listed = with_field Entries (begun_wrong listed) (λ l. noted_rest l.entries (notes_by s.version l.notes))

  abbrev read_rest : Option Items → Result Session LoadFault
  read_rest values =
      with_field Entries (only_if begins_wrong (option_and_then entries_in values))
      (λ entries. noted_rest entries (if s.version == first_version then Some [] else option_and_then (notes_in 1) values))

  same_notes : (ds : Items) (es : List Entry) (bw : Bool)
      → with_field Entries (if bw then Some (record { entries = es; notes = notes_after (Some []) 1 ds }) else None)
      (λ (l : Listed). noted_rest l.entries (notes_by s.version l.notes))
      ≡ with_field Entries (if bw then Some es else None)
      (λ entries. noted_rest entries (if s.version == first_version then Some [] else notes_in 1 ds))
  same_notes ds es true = ap (λ o. noted_rest es (if s.version == first_version then Some [] else o)) (notes_after_none ds)
  same_notes ds es false = refl

  few_by : (ds : Items) (es : List Entry) (few : Bool) → entries_in ds ≡ Some es
      → listed_rest (if few then Some (record { entries = es; notes = notes_after (Some []) 1 ds }) else None)
      ≡ read_rest (if few then Some ds else None)
  few_by ds es false e = refl
  few_by ds es true e =
      same_notes ds es (begins_wrong es)
      ∙ ap (λ (x : Option (List Entry)). with_field Entries (only_if begins_wrong x)
      (λ entries. noted_rest entries (if s.version == first_version then Some [] else notes_in 1 ds))) (sym e)

  none_by : (ds : Items) (allowed : Bool) → entries_in ds ≡ None → read_rest (if allowed then Some ds else None) ≡ Err (BadShape Entries)
  none_by ds false e = refl
  none_by ds true e =
      ap (λ (x : Option (List Entry)). with_field Entries (only_if begins_wrong x)
      (λ entries. noted_rest entries (if s.version == first_version then Some [] else notes_in 1 ds))) e

  then_by : (ds : Items) (x : Option (List Entry)) → entries_in ds ≡ x
      → listed_rest (listed_after nothing_listed ds x) ≡ read_rest (if has_allowed_length ds then Some ds else None)
  then_by ds None e = sym (none_by ds (has_allowed_length ds) e)
  then_by ds (Some []) e = sym (ap (λ n. read_rest (if nat_le 1 n && nat_le n 100000 then Some ds else None)) (as_many ds [] e))
  then_by ds (Some (entry ∷ entries)) e =
      let k = suc (length entries) in
      let some : nat_le 1 k ≡ true = le-leb 1 k (omega arith) in
      let total : 0 + k ≡ k = omega arith in
      ap (λ n. listed_rest (listed_if n (entry ∷ entries) (Some []) 1 ds)) total
      ∙ few_by ds (entry ∷ entries) (nat_le k 100000) e
      ∙ sym (ap (λ n. read_rest (if nat_le 1 n && nat_le n 100000 then Some ds else None)) (as_many ds (entry ∷ entries) e)
      ∙ ap (λ (b : Bool). read_rest (if b && nat_le k 100000 then Some ds else None)) some)

  -- the session with the entries, notes and what follows
  pub listed_then : (values : Option Items)
      → listed_rest (option_and_then (all_listed (Some nothing_listed)) values) ≡ read_rest (only_if has_allowed_length values)
  listed_then None = refl
  listed_then (Some ds) = ap listed_rest (listed_all ds nothing_listed (omega arith)) ∙ then_by ds (entries_in ds) refl

-- ---- replies

none_answered : (ds : Items) → all_answered None ds ≡ None
none_answered no_items = refl
none_answered (item d ds) = none_answered ds

abbrev replies_of : Option Answered → Option (List (List ℕ × Judgement))
replies_of o = option_map (λ a. a.replies) o

either_none : (b : Bool) → ◌≡◌ {A = Option (List (List ℕ × Judgement))} (if b then None else None) None
either_none true = refl
either_none false = refl

-- by what the first value is, where it is so of the others
answered_by : (d : Data) (ds : Items)
    → ((a : Answered) → a.count ≤ most_replies
    → replies_of (all_answered (Some a) ds) ≡ (if nat_le (a.count + items_len ds) most_replies then replies_in a.replies ds else None))
    → (a : Answered) (b : Bool) → nat_lt a.count most_replies ≡ b → (o : Option (List ℕ × Judgement)) → a.count ≤ most_replies
    → replies_of (all_answered (if b then option_map (with_one a) o else None) ds)
    ≡ (if nat_le (a.count + suc (items_len ds)) most_replies then option_and_then (λ kept. replies_in (with_kept a.replies kept) ds) o else None)
answered_by d ds others a true e None few = ap replies_of (none_answered ds) ∙ sym (either_none (nat_le (a.count + suc (items_len ds)) most_replies))
answered_by d ds others a false e o few =
    ap replies_of (none_answered ds)
    ∙ sym (ap (λ (b : Bool). if b then option_and_then (λ kept. replies_in (with_kept a.replies kept) ds) o else None)
    (too_many a.count (items_len ds) most_replies e))
answered_by d ds others a true e (Some kept) few =
    let total : a.count + 1 + items_len ds ≡ a.count + suc (items_len ds) = omega arith in
    let fewer : a.count + 1 ≤ most_replies = grind (arith, nat_tests) in
    others (with_one a kept) fewer
    ∙ ap (λ n. if nat_le n most_replies then replies_in (with_kept a.replies kept) ds else None) total

answered_all : (ds : Items) (a : Answered) → a.count ≤ most_replies
    → replies_of (all_answered (Some a) ds) ≡ (if nat_le (a.count + items_len ds) most_replies then replies_in a.replies ds else None)
answered_all no_items a few =
    let total : a.count + 0 ≡ a.count = omega arith in
    sym (ap (λ n. if nat_le n most_replies then Some a.replies else None) total
    ∙ ap (λ (b : Bool). if b then Some a.replies else None) (le-leb a.count most_replies few))
answered_all (item d ds) a few =
    answered_by d ds (λ more fewer. answered_all ds more fewer) a (nat_lt a.count most_replies) refl (reply_in d) few

short_by : (ds : Items) (b : Bool) → (if b then replies_in [] ds else None) ≡ option_and_then (replies_in []) (if b then Some ds else None)
short_by ds true = refl
short_by ds false = refl

-- the replies of a session
pub answered_same : (values : Option Items)
    → replies_of (option_and_then (all_answered (Some nothing_answered)) values) ≡ option_and_then (replies_in []) (only_if is_short values)
answered_same None = refl
answered_same (Some ds) =
    let total : 0 + items_len ds ≡ items_len ds = omega arith in
    answered_all ds nothing_answered (omega arith)
    ∙ ap (λ n. if nat_le n most_replies then replies_in [] ds else None) total
    ∙ short_by ds (is_short ds)
