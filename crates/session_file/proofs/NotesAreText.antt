-- A note is a text.
use Rattle.std.proofs.Common.{◌∷◌, ◌≡◌, [], ℕ, IsTrue, IsUtf8, List, arith, leb-true, nat_le, true}
use Rattle.std.proofs.lemmas.{Bool.and_parts, Str.IsUtf8-from_ascii, Str.Ascii.IsAscii-cons, Str.Ascii.IsAscii-nil}
use Rattle.std.specs.{List.list_all, Str.IsAscii}
use Rattle.session_file.specs.{Limits.first_printed, Limits.last_printed, Notes.is_note, Notes.is_printed}

-- a text of bytes that are printed
printed_ascii : (text : List ℕ) → list_all is_printed text ≡ true → IsAscii text
printed_ascii [] e = IsAscii-nil
printed_ascii (b ∷ bs) e =
    let p = and_parts (is_printed b) (list_all is_printed bs) e in
    let q = and_parts (nat_le first_printed b) (nat_le b last_printed) p.0 in
    IsAscii-cons b bs (let l = leb-true b last_printed q.1 in omega (arith, l)) (printed_ascii bs p.1)

pub note_utf8 : (note : List ℕ) → IsTrue (is_note note) → IsUtf8 note
note_utf8 note is = IsUtf8-from_ascii note (printed_ascii note (and_parts _ _ is).1)
