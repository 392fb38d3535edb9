-- A session that was loaded is within its limits.
use Rattle.std.proofs.Common.{if◌then◌else◌, ◌+◌, ◌<◌, ◌==◌, ◌^◌, ◌∙◌, ◌∷◌, ◌≡◌, ◌≤◌, ◌⊎◌, [], ℕ, All, Bool, Err, IfOk, IfSome, IsTrue, List, None, Ok, Option}
use Rattle.std.proofs.Common.{Result, Some, ap, arith, codes, false, inl, inr, leb-true, length, ltb-true, nat_lt, option_and_then, option_map, refl, subst}
use Rattle.std.{proofs.Common.suc, proofs.Common.sym, proofs.Common.true, specs.List.IsDistinct, specs.List.Sorted.IsStrictlySortedBy}
use Rattle.std.proofs.lemmas.{Bool.and_parts, Bool.Decides.nat_tests, List.Elements.All-cons, List.Elements.All-nil, List.Elements.recursion_from_All}
use Rattle.std.specs.{Map.keys_of, Map.values_of, Ordering.nat_cmp, Result.result_ok, Str.bytes_eq, declared.cmp.Ordering.TheVariants.Less}
use Rattle.hex.proofs.HexLemmas.{decode_of-ok, decode_sized-ok, decode_sized-twice}
use Rattle.hex.specs.{Hex.decode_sized, declared.error.FromHexError.FromHexError}
use Rattle.serde_json.specs.{Data.Data, Data.Items, Data.item, Data.no_items, Events.items_len, Find.as_array, Find.as_bool, Find.as_str, Find.get}
use Rattle.answer_book.specs.declared.entries.{Entry.Entry, What.What, What.TheVariants.Judged, What.TheVariants.Trusted}
use Rattle.answer_book.specs.declared.entries.Judgement.{Judgement, TheVariants.Right, TheVariants.Unknown, TheVariants.Wrong}
use Rattle.session_file.proofs.RepliesInOrder.{AreSuch, set_such}
use Rattle.session_file.specs.{Notes.AreNotes, Notes.is_note, Text.first_version, Text.judgement_word, Whole.IsDigest, Whole.IsWhole, Whole.NumberFits}
use Rattle.session_file.specs.Reading.{begins_wrong, budget_at, digest_at, entries_at, entries_in, entry_in, fields_read, has_allowed_length, if_there}
use Rattle.session_file.specs.Reading.{is_budget, is_version, json_of, judgement_of, note_by, note_in, noted, notes_at, notes_in, only_if, replies_at}
use Rattle.session_file.specs.Reading.{replies_in, reply_in, reply_values_at, said_as, session_in, session_of, session_or_fault, text_under, values_at}
use Rattle.session_file.specs.Reading.{whole_under, with_field, with_kept, word_under}
use Rattle.session_file.specs.declared.session.{Session.Session, SessionField.SessionField}
use Rattle.session_file.specs.declared.session.LoadFault.{LoadFault, TheVariants.BadVersion, TheVariants.Memory}
use Rattle.session_file.specs.declared.session.SessionField.TheVariants.{Budget, Entries, Input, Replies, Source, Version}

-- ---- what was found passed each test

passed_by : {A : Type 0} (passes : A → Bool) (b a : A) (t : Bool) → passes b ≡ t → (if t then Some b else None) ≡ Some a
    → (Some b ≡ Some a) × (passes a ≡ true)
passed_by passes b a true test e = (e, cc)
passed_by passes b a false test e = absurd cc

passed : {A : Type 0} (passes : A → Bool) (o : Option A) (a : A) → only_if passes o ≡ Some a → (o ≡ Some a) × (passes a ≡ true)
passed passes None a e = absurd cc
passed passes (Some b) a e = passed_by passes b a (passes b) refl e

mapped : {A B : Type 0} (f : A → B) (o : Option A) (b : B) → option_map f o ≡ Some b → (a : A) × (o ≡ Some a) × (f a ≡ b)
mapped f None b e = absurd cc
mapped f (Some a) b e = (a, refl, cc)

followed : {A B : Type 0} (f : A → Option B) (o : Option A) (b : B) → option_and_then f o ≡ Some b → (a : A) × (o ≡ Some a) × (f a ≡ Some b)
followed f None b e = absurd cc
followed f (Some a) b e = (a, refl, e)

stood : {A : Type 0} (field : SessionField) (o : Option A) (rest : A → Result Session LoadFault) (s : Session) → with_field field o rest ≡ Ok s
    → (a : A) × (o ≡ Some a) × (rest a ≡ Ok s)
stood field None rest s e = absurd cc
stood field (Some a) rest s e = (a, refl, e)

-- ---- entries

word_small : (key : List ℕ) (d : Data) (n : ℕ) → word_under key d ≡ Some n → n < 2 ^ 32
word_small key d n e = ltb-true n (2 ^ 32) (passed (λ n. nat_lt n (2 ^ 32)) (whole_under key d) n e).1

-- what holds of either branch's value holds of the one that is taken
either : {A : Type 0} (b : Bool) (x y : Option A) (a : A) (P : A → Type 0) → (x ≡ Some a → P a) → (y ≡ Some a → P a)
    → (if b then x else y) ≡ Some a → P a
either true x y a P first second e = first e
either false x y a P first second e = second e

none_said : (what : What) → None ≡ Some what → NumberFits what
none_said what e = absurd cc

judged_small : (judgement : Judgement) (d : Data) (what : What)
    → option_map (λ call. Judged call judgement) (word_under (codes "call") d) ≡ Some what → NumberFits what
judged_small judgement d what e =
    let m = mapped (λ call. Judged call judgement) (word_under (codes "call") d) what e in
    subst NumberFits m.2 (word_small (codes "call") d m.0 m.1)

trusted_small : (d : Data) (what : What) → option_map Trusted (word_under (codes "routine") d) ≡ Some what → NumberFits what
trusted_small d what e =
    let m = mapped Trusted (word_under (codes "routine") d) what e in
    subst NumberFits m.2 (word_small (codes "routine") d m.0 m.1)

said_small : (kind : List ℕ) (d : Data) (what : What) → said_as kind d ≡ Some what → NumberFits what
said_small kind d what e =
    either (bytes_eq kind (judgement_word Right)) _ _ what NumberFits (judged_small Right d what)
    (either (bytes_eq kind (judgement_word Wrong)) _ _ what NumberFits (judged_small Wrong d what)
    (either (bytes_eq kind (judgement_word Unknown)) _ _ what NumberFits (judged_small Unknown d what)
    (either (bytes_eq kind (codes "trust")) _ _ what NumberFits (trusted_small d what) (none_said what)))) e

entry_small : (d : Data) (entry : Entry) → entry_in d ≡ Some entry → NumberFits entry.what
entry_small d entry e =
    let a = followed _ (option_and_then (λ kind. said_as kind d) (text_under (codes "kind") d)) entry e in
    let b = followed (λ kind. said_as kind d) (text_under (codes "kind") d) a.0 a.1 in
    let c = mapped _ (option_and_then as_bool (get (codes "standing") d)) entry a.2 in
    subst NumberFits (ap (λ (x : Entry). x.what) c.2) (said_small b.0 d a.0 b.2)

-- entries that are as many as their values, and numbered
abbrev AreOf : Items → List Entry → Type 0
AreOf ds entries = All (λ entry. NumberFits entry.what) entries × (length entries ≡ items_len ds)

entries_small : (ds : Items) (entries : List Entry) → entries_in ds ≡ Some entries → AreOf ds entries
entries_small no_items [] e = (All-nil (λ entry. NumberFits entry.what), refl)
entries_small no_items (entry ∷ entries) e = absurd cc
entries_small (item d ds) entries e =
    let a = followed (λ entry. option_map (λ rest. entry ∷ rest) (entries_in ds)) (entry_in d) entries e in
    let b = mapped (λ rest. a.0 ∷ rest) (entries_in ds) entries a.2 in
    let rest = entries_small ds b.0 b.1 in
    subst (AreOf (item d ds)) b.2 (All-cons (λ entry. NumberFits entry.what) a.0 b.0 (entry_small d a.0 a.1) rest.0, ap suc rest.1)

-- ---- the session

decoded : (r : Result (List ℕ) FromHexError) (bytes : List ℕ) → result_ok r ≡ Some bytes → r ≡ Ok bytes
decoded (Ok found) bytes e = cc
decoded (Err fault) bytes e = absurd cc

digest_whole : (key : List ℕ) (d : Data) (bytes : List ℕ) → digest_at key d ≡ Some bytes → IsDigest bytes
digest_whole key d bytes e =
    let a = followed (λ text. result_ok (decode_sized text 32)) (text_under key d) bytes e in
    let sized = decoded (decode_sized a.0 32) bytes a.2 in
    let size = decode_sized-ok a.0 32 bytes sized in
    let all = decode_of-ok a.0 bytes (sym (decode_sized-twice a.0 32 size) ∙ sized) in
    record { size = omega (arith, size, all.2); each = all.3 }

same_session : (a b : Session) → ◌≡◌ {A = Result Session LoadFault} (Ok a) (Ok b) → a ≡ b
same_session a b e = cc

-- ---- notes

note_good : (o : Option Data) (note : List ℕ) → if_there o ≡ Some (Some note) → IsTrue (is_note note)
note_good None note e = absurd cc
note_good (Some d) note e =
    let m = mapped Some (note_by d) (Some note) e in
    let same : m.0 ≡ note = cc in
    subst (λ n. IsTrue (is_note n)) same (passed is_note (as_str d) m.0 m.1).1

-- notes on entries from a number to before another
record AreBetween (from to : ℕ) (notes : List (ℕ × List ℕ)) : Type 0 where
  least : All (λ e. from ≤ e) (keys_of notes)
  most : All (λ e. e < to) (keys_of notes)
  each : All (λ note. IsTrue (is_note note)) (values_of notes)
  rising : IsStrictlySortedBy nat_cmp (keys_of notes)

less : (a b : ℕ) → a < b → nat_cmp a b ≡ Less
less a b h = grind (arith, nat_tests)

first_rises : (number : ℕ) (ks : List ℕ) → All (λ e. number + 1 ≤ e) ks → IsStrictlySortedBy nat_cmp ks → IsStrictlySortedBy nat_cmp (number ∷ ks)
unfolding IsStrictlySortedBy
first_rises number ks above rising =
    (recursion_from_All (λ y. nat_cmp number y ≡ Less) ks (λ i d h. less number _ (let a = above i d h in omega (arith, a))), rising)

noted_between : (number to : ℕ) (note : Option (List ℕ)) (others : List (ℕ × List ℕ)) → IfSome note (λ n. IsTrue (is_note n)) → number < to
    → AreBetween (number + 1) to others → AreBetween number to (noted number note others)
noted_between number to None others good within b = record {
  least = λ i d h. let l = b.least i d h in omega (arith, l);
  most = b.most;
  each = b.each;
  rising = b.rising;
}
noted_between number to (Some note) others good within b = record {
  least = All-cons (λ e. number ≤ e) number (keys_of others) (omega arith) (λ i d h. let l = b.least i d h in omega (arith, l));
  most = All-cons (λ e. e < to) number (keys_of others) within b.most;
  each = All-cons (λ n. IsTrue (is_note n)) note (values_of others) good b.each;
  rising = first_rises number (keys_of others) b.least b.rising;
}

some_good : (o : Option Data) (note : Option (List ℕ)) → if_there o ≡ Some note → IfSome note (λ n. IsTrue (is_note n))
some_good o None e = tt
some_good o (Some note) e = note_good o note e

none_between : (number to : ℕ) → AreBetween number to []
unfolding IsStrictlySortedBy
none_between number to = record {
  least = λ i d h. absurd (omega (arith, h));
  most = λ i d h. absurd (omega (arith, h));
  each = λ i d h. absurd (omega (arith, h));
  rising = tt;
}

notes_between : (number : ℕ) (ds : Items) (notes : List (ℕ × List ℕ)) → notes_in number ds ≡ Some notes → AreBetween number (number + items_len ds) notes
notes_between number no_items [] e = none_between number (number + 0)
notes_between number no_items (n ∷ notes) e = absurd cc
notes_between number (item d ds) notes e =
    let a = followed (λ note. option_map (noted number note) (notes_in (number + 1) ds)) (note_in d) notes e in
    let b = mapped (noted number a.0) (notes_in (number + 1) ds) notes a.2 in
    let to : number + 1 + items_len ds ≡ number + items_len (item d ds) = omega arith in
    let rest = subst (λ n. AreBetween (number + 1) n b.0) to (notes_between (number + 1) ds b.0 b.1) in
    subst (AreBetween number (number + items_len (item d ds))) b.2
    (noted_between number (number + items_len (item d ds)) a.0 b.0 (some_good (get (codes "note") d) a.0 a.1) (omega arith) rest)

-- notes on the entries that are there
record AreOn (count : ℕ) (notes : List (ℕ × List ℕ)) : Type 0 where
  whole : AreNotes notes
  on_entries : All (λ e. e ≤ count) (keys_of notes)

notes_on : (count : ℕ) (notes : List (ℕ × List ℕ)) → count ≤ 100000 → AreBetween 1 (1 + count) notes → AreOn count notes
notes_on count notes few b = record {
  whole = record {
    first = b.least;
    last = λ i d h. let m = b.most i d h in omega (arith, m, few);
    each = b.each;
    rising = b.rising;
  };
  on_entries = λ i d h. let m = b.most i d h in omega (arith, m);
}

values_noted : (d : Data) (ds : Items) (notes : List (ℕ × List ℕ)) → values_at d ≡ Some ds → items_len ds ≤ 100000
    → option_and_then (notes_in 1) (values_at d) ≡ Some notes → AreOn (items_len ds) notes
values_noted d ds notes is few e =
    notes_on (items_len ds) notes few (notes_between 1 ds notes (ap (option_and_then (notes_in 1)) (sym is) ∙ e))

no_notes_on : (count : ℕ) (notes : List (ℕ × List ℕ)) → count ≤ 100000 → ◌≡◌ {A = Option (List (ℕ × List ℕ))} (Some []) (Some notes) → AreOn count notes
no_notes_on count notes few e = let same : [] ≡ notes = cc in subst (AreOn count) same (notes_on count [] few (none_between 1 (1 + count)))

-- ---- replies

no_replies : AreSuch IsDigest []
unfolding IsDistinct
no_replies = record { whole = record { few = omega arith; different = tt }; each = λ i d h. absurd (omega (arith, h)) }

reply_whole : (d : Data) (kept : List ℕ × Judgement) → reply_in d ≡ Some kept → IsDigest kept.0
reply_whole d kept e =
    let a = followed (λ digest. option_map (λ reply. (digest, reply)) (option_and_then judgement_of (text_under (codes "reply") d)))
    (digest_at (codes "question") d) kept e in
    let b = mapped (λ reply. (a.0, reply)) (option_and_then judgement_of (text_under (codes "reply") d)) kept a.2 in
    subst IsDigest (ap (λ (k : List ℕ × Judgement). k.0) b.2) (digest_whole (codes "question") d a.0 a.1)

replies_such : (done : List (List ℕ × Judgement)) (ds : Items) (replies : List (List ℕ × Judgement)) → replies_in done ds ≡ Some replies
    → AreSuch IsDigest done → AreSuch IsDigest replies
replies_such done no_items replies e are = let same : done ≡ replies = cc in subst (AreSuch IsDigest) same are
replies_such done (item d ds) replies e are =
    let a = followed (λ (kept : List ℕ × Judgement). replies_in (with_kept done kept) ds) (reply_in d) replies e in
    replies_such (with_kept done a.0) ds replies a.2 (set_such IsDigest a.0.0 a.0.1 done (reply_whole d a.0 a.1) are)

values_replied : (d : Data) (replies : List (List ℕ × Judgement)) → option_and_then (replies_in []) (reply_values_at d) ≡ Some replies
    → AreSuch IsDigest replies
values_replied d replies e =
    let a = followed (replies_in []) (reply_values_at d) replies e in
    replies_such [] a.0 replies a.2 no_replies

none_replied : (replies : List (List ℕ × Judgement)) → ◌≡◌ {A = Option (List (List ℕ × Judgement))} (Some []) (Some replies) → AreSuch IsDigest replies
none_replied replies e = let same : [] ≡ replies = cc in subst (AreSuch IsDigest) same no_replies

-- ---- all fields

fields_whole : (version : ℕ) (d : Data) (s : Session) → fields_read version d ≡ Ok s → IsWhole s
fields_whole version d s e =
    let a = stood Source (digest_at (codes "source") d) _ s e in
    let b = stood Input (digest_at (codes "input") d) _ s a.2 in
    let c = stood Budget (budget_at d) _ s b.2 in
    let f = stood Entries (entries_at d) _ s c.2 in
    let g = stood Entries (notes_at version d) _ s f.2 in
    let h = stood Replies (replies_at version d) _ s g.2 in
    let steps = and_parts _ _ (passed is_budget (whole_under (codes "budget") d) c.0 c.1).1 in
    let begins = passed begins_wrong (option_and_then entries_in (values_at d)) f.0 f.1 in
    let values = followed entries_in (values_at d) f.0 begins.0 in
    let allowed = and_parts _ _ (passed has_allowed_length (option_and_then as_array (get (codes "entries") d)) values.0 values.1).1 in
    let entries = entries_small values.0 f.0 values.2 in
    let few = leb-true _ 100000 allowed.1 in
    let notes = either (version == first_version) (Some []) (option_and_then (notes_in 1) (values_at d)) g.0 (AreOn (items_len values.0))
    (no_notes_on (items_len values.0) g.0 few) (values_noted d values.0 g.0 values.1 few) g.1 in
    let replies = either (version == first_version) (Some []) (option_and_then (replies_in []) (reply_values_at d)) h.0 (AreSuch IsDigest)
    (none_replied h.0) (values_replied d h.0) h.1 in
    subst IsWhole (same_session _ s h.2) (record {
      source = digest_whole (codes "source") d a.0 a.1;
      input = digest_whole (codes "input") d b.0 b.1;
      steps = leb-true 1 c.0 steps.0;
      budget = leb-true c.0 4000000 steps.1;
      some = subst (λ n. 1 ≤ n) (sym entries.1) (leb-true 1 _ allowed.0);
      few = subst (λ n. n ≤ 100000) (sym entries.1) few;
      first = begins.1;
      numbered = entries.0;
      noted = notes.whole;
      on_entries = subst (λ n. All (λ entry. entry ≤ n) (keys_of g.0)) (sym entries.1) notes.on_entries;
      replied = replies.whole;
      questions = replies.each;
    })

versioned : (b : Bool) (r : Result Session LoadFault) (n : ℕ) (s : Session) → (if b then r else Err (BadVersion n)) ≡ Ok s → r ≡ Ok s
versioned true r n s e = e
versioned false r n s e = absurd cc

session_whole : (d : Data) (s : Session) → session_in d ≡ Ok s → IsWhole s
session_whole d s e =
    let v = stood Version (whole_under (codes "version") d) _ s e in
    fields_whole v.0 d s (versioned (is_version v.0) (fields_read v.0 d) v.0 s v.2)

read_whole : (found : Option Data) (s : Session) → session_or_fault found ≡ Ok s → IsWhole s
read_whole (Some d) s e = session_whole d s e
read_whole None s e = absurd cc

-- what was loaded, if it was
pub loaded_whole : (bytes : List ℕ) (r : Result Session LoadFault) → (r ≡ Err Memory) ⊎ (r ≡ session_of bytes) → IfOk r IsWhole
unfolding session_of
loaded_whole bytes (Err fault) h = tt
loaded_whole bytes (Ok s) (inl e) = absurd cc
loaded_whole bytes (Ok s) (inr e) = read_whole (json_of bytes) s (sym e)
