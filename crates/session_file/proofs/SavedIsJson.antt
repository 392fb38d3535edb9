-- What is saved is JSON: it reads back as the value that was written.
use Rattle.std.proofs.Common.{◌+◌, ◌∙◌, ◌∷◌, ◌≡◌, ◌≤◌, [], ℕ, All, Bool, List, None, Option, Some, ap, append-nil, arith, map, option_and_then, refl, sym}
use Rattle.std.proofs.lemmas.List.Elements.{All-tail}
use Rattle.json.proofs.Printed.{Decimals.IsNumber-decimal, Tokens.tokens-print, Trees.ArePrintable-json_tokens, Trees.value-json_tokens}
use Rattle.json.specs.Json as json
use Rattle.json.specs.Token.{Token}
use Rattle.json.specs.Tree as tree
use Rattle.serde_json.proofs.{Numbers.number_of-decimal, Texts.print-outline}
use Rattle.serde_json.specs.{Data.Data, Read.of_items, Read.of_json, Read.read, View.items_of, Written.compact_text, Written.items_outline, Written.outline}
use Rattle.answer_book.specs.declared.entries.{Entry.Entry, Judgement.Judgement, What.What, What.TheVariants.Judged, What.TheVariants.Trusted}
use Rattle.session_file.specs.{Notes.note_on, Whole.IsWhole, Whole.NumberFits, declared.session.Session.Session}
use Rattle.session_file.specs.Text.{entries_data, first_data, first_text, reply_data, said_data, session_data, session_text}

abbrev AreNumbered : List Entry → Type 0
AreNumbered entries = All (λ entry. NumberFits entry.what) entries

-- ---- how deep it is

said_depth : (what : What) (note : Option (List ℕ)) (standing : Bool) → tree.depth (outline (said_data what note standing)) ≡ 1
said_depth (Judged call judgement) None standing = refl
said_depth (Judged call judgement) (Some note) standing = refl
said_depth (Trusted routine) None standing = refl
said_depth (Trusted routine) (Some note) standing = refl

entries_depth : (notes : List (ℕ × List ℕ)) (number : ℕ) (entries : List Entry)
    → tree.items_depth (items_outline (items_of (entries_data notes number entries))) ≤ 1
entries_depth notes number [] = omega arith
entries_depth notes number (entry ∷ entries) =
    omega (arith, said_depth entry.what (note_on notes number) entry.standing, entries_depth notes (number + 1) entries)

reply_depth : (kept : List ℕ × Judgement) → tree.depth (outline (reply_data kept)) ≡ 1
reply_depth kept = refl

replies_depth : (replies : List (List ℕ × Judgement)) → tree.items_depth (items_outline (items_of (map reply_data replies))) ≤ 1
replies_depth [] = omega arith
replies_depth (kept ∷ replies) = omega (arith, reply_depth kept, replies_depth replies)

session_depth : (s : Session) → tree.depth (outline (session_data s)) ≤ 127
session_depth s = omega (arith, entries_depth s.notes 1 s.entries, replies_depth s.replies)

first_depth : (s : Session) → tree.depth (outline (first_data s)) ≤ 127
first_depth s = omega (arith, entries_depth [] 1 s.entries)

-- ---- its numbers

said_numbers : (what : What) (note : Option (List ℕ)) (standing : Bool) → NumberFits what → tree.HasNumbers (outline (said_data what note standing))
said_numbers (Judged call judgement) None standing small = (IsNumber-decimal call (omega (arith, small)), (tt, (tt, tt)))
said_numbers (Judged call judgement) (Some note) standing small = (IsNumber-decimal call (omega (arith, small)), (tt, (tt, (tt, tt))))
said_numbers (Trusted routine) None standing small = (tt, (IsNumber-decimal routine (omega (arith, small)), (tt, tt)))
said_numbers (Trusted routine) (Some note) standing small = (tt, (tt, (IsNumber-decimal routine (omega (arith, small)), (tt, tt))))

entries_numbers : (notes : List (ℕ × List ℕ)) (number : ℕ) (entries : List Entry) → AreNumbered entries
    → tree.ItemsHaveNumbers (items_outline (items_of (entries_data notes number entries)))
entries_numbers notes number [] small = tt
entries_numbers notes number (entry ∷ entries) small = (
  said_numbers entry.what (note_on notes number) entry.standing (small 0 entry (omega arith)),
  entries_numbers notes (number + 1) entries (All-tail (λ e. NumberFits e.what) entry entries small),
)

replies_numbers : (replies : List (List ℕ × Judgement)) → tree.ItemsHaveNumbers (items_outline (items_of (map reply_data replies)))
replies_numbers [] = tt
replies_numbers (kept ∷ replies) = ((tt, (tt, tt)), replies_numbers replies)

session_numbers : (s : Session) → IsWhole s → tree.HasNumbers (outline (session_data s))
session_numbers s w = (
  IsNumber-decimal s.budget (omega (arith, w.budget)),
  (
    entries_numbers s.notes 1 s.entries w.numbered,
    (tt, (replies_numbers s.replies, (tt, (IsNumber-decimal 2 (omega arith), tt)))),
  ),
)

first_numbers : (s : Session) → IsWhole s → tree.HasNumbers (outline (first_data s))
first_numbers s w =
    (IsNumber-decimal s.budget (omega (arith, w.budget)), (entries_numbers [] 1 s.entries w.numbered, (tt, (tt, (IsNumber-decimal 1 (omega arith), tt)))))

-- ---- it comes back

said_back : (what : What) (note : Option (List ℕ)) (standing : Bool) → NumberFits what
    → of_json (outline (said_data what note standing)) ≡ Some (said_data what note standing)
said_back (Judged call judgement) None standing small = rw (number_of-decimal call (omega (arith, small)))
said_back (Judged call judgement) (Some note) standing small = rw (number_of-decimal call (omega (arith, small)))
said_back (Trusted routine) None standing small = rw (number_of-decimal routine (omega (arith, small)))
said_back (Trusted routine) (Some note) standing small = rw (number_of-decimal routine (omega (arith, small)))

entries_back : (notes : List (ℕ × List ℕ)) (number : ℕ) (entries : List Entry) → AreNumbered entries
    → of_items (items_outline (items_of (entries_data notes number entries))) ≡ Some (items_of (entries_data notes number entries))
entries_back notes number [] small = refl
entries_back notes number (entry ∷ entries) small = rw (
  said_back entry.what (note_on notes number) entry.standing (small 0 entry (omega arith)),
  entries_back notes (number + 1) entries (All-tail (λ e. NumberFits e.what) entry entries small),
)

replies_back : (replies : List (List ℕ × Judgement))
    → of_items (items_outline (items_of (map reply_data replies))) ≡ Some (items_of (map reply_data replies))
replies_back [] = refl
replies_back (kept ∷ replies) = rw (replies_back replies)

session_back : (s : Session) → IsWhole s → of_json (outline (session_data s)) ≡ Some (session_data s)
session_back s w = rw (
  number_of-decimal s.budget (omega (arith, w.budget)),
  entries_back s.notes 1 s.entries w.numbered,
  replies_back s.replies,
  number_of-decimal 2 (omega arith),
)

first_back : (s : Session) → IsWhole s → of_json (outline (first_data s)) ≡ Some (first_data s)
first_back s w = rw (number_of-decimal s.budget (omega (arith, w.budget)), entries_back [] 1 s.entries w.numbered, number_of-decimal 1 (omega arith))

-- the value that was read, if nothing comes after it
abbrev value_of : Option (json.Json × List Token) → Option Data
value_of found = option_and_then of_json (option_and_then (λ p. json.if_last p.0 p.1) found)

text_read : (d : Data) → tree.depth (outline d) ≤ 127 → tree.HasNumbers (outline d) → of_json (outline d) ≡ Some d → read (compact_text d) ≡ Some d
text_read d shallow numbers back =
    let j = outline d in
    let same = tokens-print (tree.json_tokens j) (ArePrintable-json_tokens j numbers) ∙ sym (append-nil (tree.json_tokens j)) in
    ap read (sym (print-outline d)) ∙ ap value_of (ap (json.value 127) same ∙ value-json_tokens j 127 [] shallow) ∙ back

pub saved_json : (s : Session) → IsWhole s → read (session_text s) ≡ Some (session_data s)
unfolding session_text
saved_json s w = text_read (session_data s) (session_depth s) (session_numbers s w) (session_back s w)

pub first_json : (s : Session) → IsWhole s → read (first_text s) ≡ Some (first_data s)
unfolding first_text
first_json s w = text_read (first_data s) (first_depth s) (first_numbers s w) (first_back s w)
