-- The lines handed out are the first of those heard.
use Rattle.std.proofs.Common.{◌++◌, ◌+◌, ◌-◌, ◌<◌, ◌∙◌, ◌∷◌, ◌≡◌, ◌≤◌, ◌⊎◌, [], ℕ, Bool, IsTrue, List, None, Some, ap, arith, cond, drop, false, inl, inr}
use Rattle.std.proofs.Common.{length, map, refl, suc, sym, take, true}
use Rattle.std.proofs.{Math.Dec.leb, Math.Seq.take-add, lemmas.Bool.leb-false, lemmas.Bool.leb-true}
use Rattle.std.proofs.lemmas.List.{append-nil, append_cancel_right, drop-drop, drop_all, get_or-take, length-drop, length-take-le, take-append-drop}
use Rattle.std.specs.{List.onto_first, List.slice_index, List.slice_split, Str.Lines.lines, Str.Lines.lines_of_parts, Str.Lines.strip_carriage_return}
use Rattle.edge_ports.proofs.NextLineIsFirst.{lines_of-next, no_split, some_part}
use Rattle.edge_ports.specs.Lines.{EndsWhole, IsCutAtLines, IsUsed, LinesState, handed_bytes, handed_lines, is_line_end, line_end_of, lines_heard, lines_of}
use Rattle.edge_ports.specs.Lines.{next_line, unread, whole_lines, whole_parts}

-- The parts of bytes that end whole, whatever comes after them.
record Parts (bytes : List ℕ) : Type 0 where
  head : List ℕ
  tail : List (List ℕ)
  splits : (more : List ℕ) → slice_split is_line_end (bytes ++ more) ≡ (head ∷ tail) ++ slice_split is_line_end more

-- one more byte in front
longer : (byte : ℕ) (bytes : List ℕ) → Parts bytes → Parts (byte ∷ bytes)
longer byte bytes p =
    elim (is_line_end byte) as (λ b. ((more : List ℕ)
    → slice_split is_line_end ((byte ∷ bytes) ++ more) ≡ cond b ([] ∷ slice_split is_line_end (bytes ++ more))
    (onto_first byte (slice_split is_line_end (bytes ++ more)))) → Parts (byte ∷ bytes)) [
      | true ↦ λ e. record { head = []; tail = p.head ∷ p.tail; splits = λ more. e more ∙ ap (λ l. [] ∷ l) (p.splits more) }
      | false ↦ λ e. record { head = byte ∷ p.head; tail = p.tail; splits = λ more. e more ∙ ap (onto_first byte) (p.splits more) }
    ] (λ more. refl)

parts_of : (byte : ℕ) (bytes : List ℕ) → EndsWhole (byte ∷ bytes) → Parts (byte ∷ bytes)
parts_of byte [] whole =
    let is : byte ≡ 10 = whole (omega arith) in
    let test : is_line_end byte ≡ true = ap is_line_end is in
    record { head = []; tail = []; splits = λ more. ap (λ b. cond b ([] ∷ slice_split is_line_end more) (onto_first byte (slice_split is_line_end more))) test }
parts_of byte (next ∷ bytes) whole =
    let here : suc (suc (length bytes)) - 1 ≡ suc (length bytes) = omega arith in
    let below : suc (length bytes) - 1 ≡ length bytes = omega arith in
    let last : slice_index (byte ∷ next ∷ bytes) (suc (suc (length bytes)) - 1) ≡ 10 = whole (omega arith) in
    longer byte (next ∷ bytes) (parts_of next bytes
    (λ some. ap (slice_index (next ∷ bytes)) below ∙ ap (slice_index (byte ∷ next ∷ bytes)) (sym here) ∙ last))

-- all parts but those of the last bytes are lines
lines_of_parts-append : (parts : List (List ℕ)) (part : List ℕ) (more : List (List ℕ))
    → lines_of_parts (parts ++ part ∷ more) ≡ map strip_carriage_return parts ++ lines_of_parts (part ∷ more)
lines_of_parts-append [] part more = refl
lines_of_parts-append (x ∷ []) part more = refl
lines_of_parts-append (x ∷ y ∷ parts) part more = ap (λ l. strip_carriage_return x ∷ l) (lines_of_parts-append (y ∷ parts) part more)

whole_parts-append : (parts : List (List ℕ)) (part : List ℕ) → whole_parts (parts ++ part ∷ []) ≡ map strip_carriage_return parts
whole_parts-append [] part = refl
whole_parts-append (x ∷ []) part = refl
whole_parts-append (x ∷ y ∷ parts) part = ap (λ l. strip_carriage_return x ∷ l) (whole_parts-append (y ∷ parts) part)

-- the parts of bytes that end whole, or none
whole_front : (front : List ℕ) → EndsWhole front
    → (parts : List (List ℕ)) × ((more : List ℕ) → slice_split is_line_end (front ++ more) ≡ parts ++ slice_split is_line_end more)
whole_front [] whole = ([], λ more. refl)
whole_front (byte ∷ bytes) whole = let p = parts_of byte bytes whole in (p.head ∷ p.tail, p.splits)

lines_of-parts : (front more : List ℕ) (parts : List (List ℕ)) → slice_split is_line_end (front ++ more) ≡ parts ++ slice_split is_line_end more
    → lines_of (front ++ more) ≡ map strip_carriage_return parts ++ lines_of more
lines_of-parts front more parts splits =
    let some = some_part is_line_end more in
    ap lines_of_parts (splits ∙ ap (λ l. parts ++ l) some.2)
    ∙ lines_of_parts-append parts some.0 some.1
    ∙ ap (λ l. map strip_carriage_return parts ++ lines_of_parts l) (sym some.2)

lines_of-whole_parts : (front : List ℕ) (parts : List (List ℕ))
    → ((more : List ℕ) → slice_split is_line_end (front ++ more) ≡ parts ++ slice_split is_line_end more) → lines_of front ≡ map strip_carriage_return parts
lines_of-whole_parts front parts splits =
    ap lines_of (sym (append-nil front))
    ∙ lines_of-parts front [] parts (splits []) ∙ append-nil (map strip_carriage_return parts)

-- the lines of whole lines, and of what comes after them
pub lines_of-append : (front more : List ℕ) → EndsWhole front → lines_of (front ++ more) ≡ lines_of front ++ lines_of more
lines_of-append front more whole =
    let p = whole_front front whole in
    lines_of-parts front more p.0 (p.1 more) ∙ ap (λ l. l ++ lines_of more) (sym (lines_of-whole_parts front p.0 p.1))

-- what comes after the last LF is no whole line
pub whole_lines-append : (front more : List ℕ) → EndsWhole front → line_end_of more ≡ None → whole_lines (front ++ more) ≡ lines_of front
whole_lines-append front more whole none =
    let p = whole_front front whole in
    ap whole_parts (p.1 more ∙ ap (λ l. p.0 ++ l) (no_split more none))
    ∙ whole_parts-append p.0 more
    ∙ sym (lines_of-whole_parts front p.0 p.1)

-- the one line in the bytes that were used for it
pub one_line : (used rest line : List ℕ) → EndsWhole used ⊎ (rest ≡ []) → lines_of (used ++ rest) ≡ line ∷ lines_of rest → lines_of used ≡ line ∷ []
one_line used rest line (inl whole) e = append_cancel_right (lines_of used) (line ∷ []) (lines_of rest) (sym (lines_of-append used rest whole) ∙ e)
one_line used rest line (inr none) e = ap lines_of (sym (append-nil used)) ∙ ap (λ l. lines_of (used ++ l)) (sym none) ∙ e ∙ ap (λ l. line ∷ lines_of l) none

used_whole : (lines : LinesState) (used : ℕ) → IsUsed lines used → EndsWhole (take used (unread lines)) ⊎ (drop used (unread lines) ≡ [])
used_whole lines used is =
    let below : used - 1 < used = omega (arith, is.some) in
    elim is.end [
      | inl at ↦ inl (λ some.
          ap (λ k. slice_index (take used (unread lines)) (k - 1)) (length-take-le used (unread lines) is.within)
          ∙ get_or-take used (unread lines) (used - 1) 0 below ∙ at)
      | inr all ↦ inr (drop_all used (unread lines) (omega (arith, all.1)))
    ]

reaches : (lines : LinesState) (used : ℕ) → IsUsed lines used → lines.handed + used ≤ length lines.taken
reaches lines used is = omega (arith, is.some, is.within, length-drop lines.handed lines.taken)

-- One more line was handed out.
pub record HandsOutNext (old new : LinesState) (line : List ℕ) : Type 0 where
  pub used : ℕ
  pub is : IsUsed old used
  pub next : next_line old.ended (unread old) ≡ Some (line, drop used (unread old))
  pub handed : new.handed ≡ old.handed + used
  pub taken : new.taken ≡ old.taken

-- what is unread then
unread_after : {old new : LinesState} {line : List ℕ} (h : HandsOutNext old new line) → drop h.used (unread old) ≡ unread new
unread_after {old} {new} h = drop-drop h.used old.handed old.taken ∙ ap (λ k. drop k old.taken) (sym h.handed) ∙ ap (drop new.handed) (sym h.taken)

-- it was the first of the lines still to come
pub lines_of-handed : {old new : LinesState} {line : List ℕ} → HandsOutNext old new line → (more : List ℕ) → (IsTrue old.ended → more ≡ [])
    → lines_of (unread old ++ more) ≡ line ∷ lines_of (unread new ++ more)
lines_of-handed {old} {new} {line} h more end =
    lines_of-next old.ended (unread old) more (line, drop h.used (unread old)) h.next end ∙ ap (λ l. line ∷ lines_of (l ++ more)) (unread_after h)

-- it is the last of the lines handed out
pub handed_lines-handed : {old new : LinesState} {line : List ℕ} → HandsOutNext old new line → IsCutAtLines old
    → handed_lines new ≡ handed_lines old ++ line ∷ []
handed_lines-handed {old} {new} {line} h cut =
    let reach = reaches old h.used h.is in
    let front : EndsWhole (handed_bytes old) = cut (λ ended. omega (arith, reach, h.is.some)) in
    let parts = ap (λ k. take k new.taken) h.handed ∙ ap (take (old.handed + h.used)) h.taken ∙ take-add old.handed h.used old.taken in
    let split = ap lines_of (take-append-drop h.used (unread old) ∙ sym (append-nil (unread old)))
    ∙ lines_of-handed h [] (λ _. refl)
    ∙ ap (λ l. line ∷ lines_of l) (append-nil (unread new) ∙ sym (unread_after h)) in
    let one = one_line (take h.used (unread old)) (drop h.used (unread old)) line (used_whole old h.used h.is) split in
    ap lines_of parts ∙ lines_of-append (handed_bytes old) (take h.used (unread old)) front ∙ ap (λ l. handed_lines old ++ l) one

-- where no whole line is unread, all whole lines were handed out
pub all_handed : (lines : LinesState) → IsCutAtLines lines → line_end_of (unread lines) ≡ None → lines.ended ≡ false
    → handed_lines lines ≡ whole_lines lines.taken
all_handed lines cut none not_ended =
    let whole : EndsWhole (handed_bytes lines) = cut (λ ended. let both : true ≡ false = sym ended ∙ not_ended in cc) in
    sym (ap whole_lines (sym (take-append-drop lines.handed lines.taken)) ∙ whole_lines-append (handed_bytes lines) (unread lines) whole none)

-- ---- the lines that were heard

whole_parts-more : (parts : List (List ℕ)) (part : List ℕ) (more : List (List ℕ))
    → whole_parts (parts ++ part ∷ more) ≡ map strip_carriage_return parts ++ whole_parts (part ∷ more)
whole_parts-more [] part more = refl
whole_parts-more (x ∷ []) part more = refl
whole_parts-more (x ∷ y ∷ parts) part more = ap (λ l. strip_carriage_return x ∷ l) (whole_parts-more (y ∷ parts) part more)

whole_lines-parts : (front more : List ℕ) (parts : List (List ℕ)) → slice_split is_line_end (front ++ more) ≡ parts ++ slice_split is_line_end more
    → whole_lines (front ++ more) ≡ map strip_carriage_return parts ++ whole_lines more
whole_lines-parts front more parts splits =
    let some = some_part is_line_end more in
    ap whole_parts (splits ∙ ap (λ l. parts ++ l) some.2)
    ∙ whole_parts-more parts some.0 some.1
    ∙ ap (λ l. map strip_carriage_return parts ++ whole_parts l) (sym some.2)

-- the whole lines of whole lines, and of what comes after them
whole_lines-whole : (front more : List ℕ) → EndsWhole front → whole_lines (front ++ more) ≡ lines_of front ++ whole_lines more
whole_lines-whole front more whole =
    let p = whole_front front whole in
    whole_lines-parts front more p.0 (p.1 more) ∙ ap (λ l. l ++ whole_lines more) (sym (lines_of-whole_parts front p.0 p.1))

-- The lines handed out are the first of those heard.
pub heard_in_order : (lines : LinesState) → lines.handed ≤ length lines.taken → IsCutAtLines lines
    → lines_heard lines.ended lines.taken ≡ handed_lines lines ++ lines_heard lines.ended (unread lines)
heard_in_order lines within cut =
    let parts : lines.taken ≡ handed_bytes lines ++ unread lines = sym (take-append-drop lines.handed lines.taken) in
    ap (lines_heard lines.ended) parts
    ∙ elim lines.ended as (λ b. ((IsTrue b → lines.handed < length lines.taken) → EndsWhole (handed_bytes lines))
    → lines_heard b (handed_bytes lines ++ unread lines) ≡ handed_lines lines ++ lines_heard b (unread lines)) [
      | true ↦ λ whole. ended (leb (length lines.taken) lines.handed) refl whole
      | false ↦ λ whole. whole_lines-whole (handed_bytes lines) (unread lines) (whole (λ e. absurd (let x : ⊥ = cc in x)))
    ] cut
  where
    ended : (b : Bool) → leb (length lines.taken) lines.handed ≡ b
        → ((IsTrue true → lines.handed < length lines.taken) → EndsWhole (handed_bytes lines))
        → lines_of (handed_bytes lines ++ unread lines) ≡ handed_lines lines ++ lines_of (unread lines)
    ended true e whole =
        let all : length lines.taken ≤ lines.handed = leb-true _ _ e in
        let none : unread lines ≡ [] = drop_all lines.handed lines.taken all in
        ap (λ l. lines_of (handed_bytes lines ++ l)) none
        ∙ ap lines_of (append-nil (handed_bytes lines))
        ∙ sym (append-nil (handed_lines lines))
        ∙ ap (λ l. handed_lines lines ++ lines_of l) (sym none)
    ended false e whole = lines_of-append (handed_bytes lines) (unread lines) (whole (λ _. leb-false _ _ e))

-- The parts of some bytes, all but the last of which stay whatever comes after them.
record Kept (bytes : List ℕ) : Type 0 where
  parts : List (List ℕ)
  last : List ℕ
  splits : slice_split is_line_end bytes ≡ parts ++ last ∷ []
  longer : (more : List ℕ) → (part : List ℕ) × (others : List (List ℕ)) × (slice_split is_line_end (bytes ++ more) ≡ parts ++ part ∷ others)

kept_first : (byte : ℕ) (bytes : List ℕ) (parts : List (List ℕ)) (last : List ℕ) → slice_split is_line_end bytes ≡ parts ++ last ∷ []
    → ((more : List ℕ) → (part : List ℕ) × (others : List (List ℕ)) × (slice_split is_line_end (bytes ++ more) ≡ parts ++ part ∷ others))
    → (b : Bool) → ((l : List ℕ) → slice_split is_line_end (byte ∷ l) ≡ cond b ([] ∷ slice_split is_line_end l) (onto_first byte (slice_split is_line_end l)))
    → Kept (byte ∷ bytes)
kept_first byte bytes parts last splits more true step = record {
  parts = [] ∷ parts;
  last = last;
  splits = step bytes ∙ ap (λ l. [] ∷ l) splits;
  longer = λ m. let x = more m in (x.0, x.1, step (bytes ++ m) ∙ ap (λ l. [] ∷ l) x.2);
}
kept_first byte bytes [] last splits more false step = record {
  parts = [];
  last = byte ∷ last;
  splits = step bytes ∙ ap (onto_first byte) splits;
  longer = λ m. let x = more m in (byte ∷ x.0, x.1, step (bytes ++ m) ∙ ap (onto_first byte) x.2);
}
kept_first byte bytes (part ∷ parts) last splits more false step = record {
  parts = (byte ∷ part) ∷ parts;
  last = last;
  splits = step bytes ∙ ap (onto_first byte) splits;
  longer = λ m. let x = more m in (x.0, x.1, step (bytes ++ m) ∙ ap (onto_first byte) x.2);
}

kept : (bytes : List ℕ) → Kept bytes
kept [] = record { parts = []; last = []; splits = refl; longer = some_part is_line_end }
kept (byte ∷ bytes) =
    let k = kept bytes in
    kept_first byte bytes k.parts k.last k.splits k.longer (is_line_end byte) (λ l. refl)

-- The whole lines of some bytes are the first lines of those and more.
pub heard_longer : (ended : Bool) (bytes more : List ℕ) → (rest : List (List ℕ)) × (lines_heard ended (bytes ++ more) ≡ whole_lines bytes ++ rest)
heard_longer ended bytes more =
    let k = kept bytes in
    let x = k.longer more in
    let whole : whole_lines bytes ≡ map strip_carriage_return k.parts = ap whole_parts k.splits ∙ whole_parts-append k.parts k.last in
    elim ended as (λ b. (rest : List (List ℕ)) × (lines_heard b (bytes ++ more) ≡ whole_lines bytes ++ rest)) [
      | true ↦ (
        lines_of_parts (x.0 ∷ x.1),
        ap lines_of_parts x.2
            ∙ lines_of_parts-append k.parts x.0 x.1 ∙ ap (λ l. l ++ lines_of_parts (x.0 ∷ x.1)) (sym whole),
      )
      | false ↦ (whole_parts (x.0 ∷ x.1), ap whole_parts x.2 ∙ whole_parts-more k.parts x.0 x.1 ∙ ap (λ l. l ++ whole_parts (x.0 ∷ x.1)) (sym whole))
    ]
