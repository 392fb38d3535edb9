-- Notes on entries, one after another by rising number.
use Rattle.std.proofs.Common.{◌++◌, ◌+◌, ◌<◌, ◌∙◌, ◌∷◌, ◌≡◌, [], ℕ, All, List, None, Option, Some, ap, append-nil, append_assoc, arith, option_and_then}
use Rattle.std.{proofs.Common.option_map, proofs.Common.refl, proofs.Common.sym, proofs.lemmas.Bool.Decides.nat_tests, proofs.lemmas.List.Elements.All-tail}
use Rattle.std.{proofs.lemmas.Map.Views.All-keys-insert_entry, specs.Map.keys_of, specs.Ordering.nat_cmp, specs.declared.cmp.Ordering.TheVariants.Greater}
use Rattle.serde_json.specs.Data.{Data, Items, item, no_items}
use Rattle.session_file.specs.{Listed.noted_on, Notes.with_note, Reading.note_in, Reading.noted, Reading.notes_in, Reading.with_next}

later : (a b : ℕ) → a < b → nat_cmp b a ≡ Greater
later a b h = grind (arith, nat_tests)

-- a note on an entry after all others goes last
put_last : (notes : List (ℕ × List ℕ)) (number : ℕ) (note : List ℕ) → All (λ entry. entry < number) (keys_of notes)
    → with_note notes number note ≡ notes ++ (number, note) ∷ []
put_last [] number note below = refl
put_last (n ∷ notes) number note below =
    rw (later n.0 number (below 0 n.0 (omega arith)), put_last notes number note (All-tail (λ entry. entry < number) n.0 (keys_of notes) below))

-- the notes of these values, of which the first has this number, after others
abbrev pub notes_after : Option (List (ℕ × List ℕ)) → (number : ℕ) → Items → Option (List (ℕ × List ℕ))
notes_after notes number no_items = notes
notes_after notes number (item d ds) = notes_after (noted_on notes number d) (number + 1) ds

none_after : (number : ℕ) (ds : Items) → notes_after None number ds ≡ None
none_after number no_items = refl
none_after number (item d ds) = none_after (number + 1) ds

unnoted : (number : ℕ) (notes : List (ℕ × List ℕ)) (o : Option (List (ℕ × List ℕ)))
    → option_map (λ others. notes ++ others) o ≡ option_map (λ others. notes ++ others) (option_map (noted number None) o)
unnoted number notes None = refl
unnoted number notes (Some others) = refl

one_noted : (number : ℕ) (note : List ℕ) (notes : List (ℕ × List ℕ)) (o : Option (List (ℕ × List ℕ)))
    → option_map (λ others. (notes ++ (number, note) ∷ []) ++ others) o ≡ option_map (λ others. notes ++ others) (option_map (noted number (Some note)) o)
one_noted number note notes None = refl
one_noted number note notes (Some others) = ap Some (append_assoc notes ((number, note) ∷ []) others)

wider : (number : ℕ) (entries : List ℕ) → All (λ entry. entry < number) entries → All (λ entry. entry < number + 1) entries
wider number entries below i d h = let b = below i d h in omega (arith, b)

-- by what the first of them is, where it is so of the others
after_by : (number : ℕ) (d : Data) (ds : Items)
    → ((notes : List (ℕ × List ℕ)) → All (λ entry. entry < number + 1) (keys_of notes)
    → notes_after (Some notes) (number + 1) ds ≡ option_map (λ others. notes ++ others) (notes_in (number + 1) ds))
    → (notes : List (ℕ × List ℕ)) (o : Option (Option (List ℕ))) → All (λ entry. entry < number) (keys_of notes)
    → notes_after (option_map (with_next notes number) o) (number + 1) ds
    ≡ option_map (λ others. notes ++ others) (option_and_then (λ note. option_map (noted number note) (notes_in (number + 1) ds)) o)
after_by number d ds others notes None below = none_after (number + 1) ds
after_by number d ds others notes (Some None) below =
    others notes (wider number (keys_of notes) below) ∙ unnoted number notes (notes_in (number + 1) ds)
after_by number d ds others notes (Some (Some note)) below =
    others (with_note notes number note)
    (All-keys-insert_entry nat_cmp number note (λ entry. entry < number + 1) notes (wider number (keys_of notes) below) (omega arith))
    ∙ ap (λ (l : List (ℕ × List ℕ)). option_map (λ others. l ++ others) (notes_in (number + 1) ds)) (put_last notes number note below)
    ∙ one_noted number note notes (notes_in (number + 1) ds)

after_others : (notes : List (ℕ × List ℕ)) (number : ℕ) (ds : Items) → All (λ entry. entry < number) (keys_of notes)
    → notes_after (Some notes) number ds ≡ option_map (λ others. notes ++ others) (notes_in number ds)
after_others notes number no_items below = ap Some (sym (append-nil notes))
after_others notes number (item d ds) below =
    after_by number d ds (λ others few. after_others others (number + 1) ds few) notes (note_in d) below

none_first : (o : Option (List (ℕ × List ℕ))) → option_map (λ others. [] ++ others) o ≡ o
none_first None = refl
none_first (Some notes) = refl

pub notes_after_none : (ds : Items) → notes_after (Some []) 1 ds ≡ notes_in 1 ds
notes_after_none ds = after_others [] 1 ds (λ i d h. absurd (omega (arith, h))) ∙ none_first (notes_in 1 ds)
