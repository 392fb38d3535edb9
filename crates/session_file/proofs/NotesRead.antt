-- The notes that are read of what is saved are those that were saved.
use Rattle.std.proofs.Common.{◌+◌, ◌<◌, ◌∙◌, ◌∷◌, ◌≡◌, ◌≤◌, [], ℕ, All, Bool, IfSome, IsTrue, List, None, Option, Some, ap, arith, false, length, nat_eq}
use Rattle.std.proofs.Common.{option_and_then, option_map, refl, subst, sym, true}
use Rattle.std.proofs.lemmas.{Bool.Decides.nat_tests, List.Elements.All-cons, List.Elements.All-tail}
use Rattle.std.proofs.lemmas.Map.{lookup-none, Entries.lookup_head, Entries.lookup_tail, Entries.none_below_head, Views.All-after_first}
use Rattle.std.specs.{BTreeMap.is_at, Cmp.nat_cmp_total, List.Sorted.IsStrictlySortedBy, Map.keys_of, Ordering.nat_cmp, declared.cmp.Ordering.TheVariants.Less}
use Rattle.serde_json.specs.View.{items_of}
use Rattle.answer_book.specs.declared.entries.{Entry.Entry, What.What, What.TheVariants.Judged, What.TheVariants.Trusted}
use Rattle.session_file.proofs.SavedIsUtf8.{AreNoted}
use Rattle.session_file.specs.{Notes.AreNotes, Notes.is_note, Notes.note_on, Text.entries_data, Text.said_data}
use Rattle.session_file.specs.Reading.{note_in, noted, notes_in}

-- ---- numbers in order

is_less : (a b : ℕ) → nat_cmp a b ≡ Less → a < b
is_less a b h = grind (arith, nat_tests, h)

less : (a b : ℕ) → a < b → nat_cmp a b ≡ Less
less a b h = grind (arith, nat_tests)

at_itself : (a : ℕ) → is_at (nat_cmp a) a ≡ true
at_itself a = grind (arith, nat_tests)

at_no_other : (a b : ℕ) → b < a → is_at (nat_cmp a) b ≡ false
at_no_other a b h = grind (arith, nat_tests)

rising_tail : (k : ℕ) (ks : List ℕ) → IsStrictlySortedBy nat_cmp (k ∷ ks) → IsStrictlySortedBy nat_cmp ks
unfolding IsStrictlySortedBy
rising_tail k ks h = h.1

above_first : (k number : ℕ) (ks : List ℕ) → number ≤ k → IsStrictlySortedBy nat_cmp (k ∷ ks) → All (λ e. number + 1 ≤ e) ks
above_first k number ks h rising i d l = let a = is_less k _ (All-after_first nat_cmp k ks rising i d l) in omega (arith, a, h)

-- ---- the notes that are left

-- these are the notes on entries from a number on
pub record AreLeft (notes : List (ℕ × List ℕ)) (number : ℕ) (left : List (ℕ × List ℕ)) : Type 0 where
  pub least : All (λ e. number ≤ e) (keys_of left)
  pub rising : IsStrictlySortedBy nat_cmp (keys_of left)
  pub same : (e : ℕ) → number ≤ e → note_on notes e ≡ note_on left e

-- what is left after the entry of a number
record IsSplit (notes : List (ℕ × List ℕ)) (number : ℕ) (left others : List (ℕ × List ℕ)) : Type 0 where
  whole : noted number (note_on notes number) others ≡ left
  rest : AreLeft notes (number + 1) others
  within : (most : ℕ) → All (λ e. e < most) (keys_of left) → All (λ e. e < most) (keys_of others)

split_none : (notes : List (ℕ × List ℕ)) (number : ℕ) → AreLeft notes number [] → IsSplit notes number [] []
split_none notes number l = record {
  whole = ap (λ o. noted number o []) (l.same number (omega arith));
  rest = record { least = λ i d h. absurd (omega (arith, h)); rising = l.rising; same = λ e h. l.same e (omega (arith, h)) };
  within = λ most below. below;
}

split_here : (notes left : List (ℕ × List ℕ)) (entry : ℕ) (note : List ℕ) → AreLeft notes entry ((entry, note) ∷ left)
    → IsSplit notes entry ((entry, note) ∷ left) left
split_here notes left entry note l = record {
  whole = ap (λ o. noted entry o left) (l.same entry (omega arith) ∙ lookup_head (is_at (nat_cmp entry)) (entry, note) left (at_itself entry));
  rest = record {
    least = above_first entry entry (keys_of left) (omega arith) l.rising;
    rising = rising_tail entry (keys_of left) l.rising;
    same = λ e h. l.same e (omega (arith, h)) ∙ lookup_tail (is_at (nat_cmp e)) (entry, note) left (at_no_other e entry (omega (arith, h)));
  };
  within = λ most below. All-tail (λ e. e < most) entry (keys_of left) below;
}

split_later : (notes left : List (ℕ × List ℕ)) (number entry : ℕ) (note : List ℕ) → number < entry → AreLeft notes number ((entry, note) ∷ left)
    → IsSplit notes number ((entry, note) ∷ left) ((entry, note) ∷ left)
split_later notes left number entry note h l =
    let none = lookup-none (is_at (nat_cmp number)) ((entry, note) ∷ left)
    (none_below_head nat_cmp_total number (entry, note) left l.rising (less number entry h)) in
    record {
      whole = ap (λ o. noted number o ((entry, note) ∷ left)) (l.same number (omega arith) ∙ none);
      rest = record {
        least = All-cons (λ e. number + 1 ≤ e) entry (keys_of left) (omega (arith, h)) (above_first entry number (keys_of left) (omega (arith, h)) l.rising);
        rising = l.rising;
        same = λ e g. l.same e (omega (arith, g));
      };
      within = λ most below. below;
    }

split_by : (there : Bool) (notes left : List (ℕ × List ℕ)) (number entry : ℕ) (note : List ℕ) → nat_eq number entry ≡ there
    → AreLeft notes number ((entry, note) ∷ left) → (others : List (ℕ × List ℕ)) × IsSplit notes number ((entry, note) ∷ left) others
split_by true notes left number entry note is l =
    let e : number ≡ entry = grind (arith, nat_tests, is) in (
      left,
      subst (λ n. IsSplit notes n ((entry, note) ∷ left) left) (sym e)
          (split_here notes left entry note (subst (λ n. AreLeft notes n ((entry, note) ∷ left)) e l)),
    )
split_by false notes left number entry note is l =
    let a = l.least 0 entry (omega arith) in
    let h : number < entry = grind (arith, nat_tests, is, a) in
    ((entry, note) ∷ left, split_later notes left number entry note h l)

split : (notes left : List (ℕ × List ℕ)) (number : ℕ) → AreLeft notes number left → (others : List (ℕ × List ℕ)) × IsSplit notes number left others
split notes [] number l = ([], split_none notes number l)
split notes (n ∷ left) number l = split_by (nat_eq number n.0) notes left number n.0 n.1 refl l

-- ---- they are read

said_note : (what : What) (note : Option (List ℕ)) (standing : Bool) → IfSome note (λ n. IsTrue (is_note n))
    → note_in (said_data what note standing) ≡ Some note
said_note (Judged call judgement) None standing good = refl
said_note (Judged call judgement) (Some note) standing good = rw good
said_note (Trusted routine) None standing good = refl
said_note (Trusted routine) (Some note) standing good = rw good

none_left : (notes left : List (ℕ × List ℕ)) (number : ℕ) → AreLeft notes number left → All (λ e. e < number + 0) (keys_of left)
    → notes_in number (items_of (entries_data notes number [])) ≡ Some left
none_left notes [] number l below = refl
none_left notes (n ∷ left) number l below = let a = l.least 0 n.0 (omega arith) in let b = below 0 n.0 (omega arith) in absurd (omega (arith, a, b))

pub notes_left : (notes left : List (ℕ × List ℕ)) (number : ℕ) (entries : List Entry) → AreNoted notes → AreLeft notes number left
    → All (λ e. e < number + length entries) (keys_of left) → notes_in number (items_of (entries_data notes number entries)) ≡ Some left
notes_left notes left number [] good l below = none_left notes left number l below
notes_left notes left number (entry ∷ entries) good l below =
    let s = split notes left number l in
    let fewer : All (λ e. e < number + 1 + length entries) (keys_of s.0) =
    λ i d h. let b = s.1.within (number + length (entry ∷ entries)) below i d h in omega (arith, b) in
    let note = note_on notes number in
    ap (option_and_then (λ o. option_map (noted number o) (notes_in (number + 1) (items_of (entries_data notes (number + 1) entries)))))
    (said_note entry.what note entry.standing (good number))
    ∙ ap (option_map (noted number note)) (notes_left notes s.0 (number + 1) entries good s.1.rest fewer) ∙ ap Some s.1.whole

pub notes_read : (notes : List (ℕ × List ℕ)) (entries : List Entry) → AreNotes notes → AreNoted notes → All (λ e. e ≤ length entries) (keys_of notes)
    → notes_in 1 (items_of (entries_data notes 1 entries)) ≡ Some notes
notes_read notes entries a good within =
    notes_left notes notes 1 entries good (record { least = a.first; rising = a.rising; same = λ e h. refl })
    (λ i d h. let w = within i d h in omega (arith, w))
