-- The next line is the first of the lines still to come.
use Rattle.std.proofs.Common.{◌++◌, ◌+◌, ◌<◌, ◌∙◌, ◌∷◌, ◌≡◌, ◌≤◌, [], ℕ, Bool, IsTrue, List, None, Some, ap, arith, cond, drop, false, length, ltb, not, refl}
use Rattle.std.proofs.{Common.suc, Common.sym, Common.take, Common.true, lemmas.Bool.Decides.nat_tests}
use Rattle.std.proofs.lemmas.List.{append-nil, drop-append-le, length-append, length-take-le, take-append-drop, take-append-le, Splits.slice_split_first}
use Rattle.std.proofs.lemmas.List.{Splits.slice_split_none, Sums.fails_before_first, Sums.prefix_len-le-length}
use Rattle.std.specs.{Option.option_map, Str.Lines.lines_of_parts, Str.Lines.strip_carriage_return}
use Rattle.std.specs.List.{after_first, onto_first, position, position_or_len, slice_split}
use Rattle.edge_ports.specs.Lines.{is_line_end, line_end_of, line_up_to, lines_of, next_line}

-- the place of the first that passes, after some that all fail
pub position_or_len-append : {X : Type 0} (p : X → Bool) (xs ys : List X) → position_or_len p xs ≡ length xs
    → position_or_len p (xs ++ ys) ≡ length xs + position_or_len p ys
position_or_len-append p [] ys e = grind arith
position_or_len-append p (x ∷ xs) ys e =
    elim (p x) as (λ b. cond (not b) (1 + position_or_len p xs) 0 ≡ suc (length xs)
    → cond (not b) (1 + position_or_len p (xs ++ ys)) 0 ≡ suc (length xs) + position_or_len p ys) [
      | true ↦ λ h. absurd (omega arith)
      | false ↦ λ h. let same : position_or_len p xs ≡ length xs = omega arith in
          let more = position_or_len-append p xs ys same in omega arith
    ] e

-- the place of the first that passes, if one does, whatever comes after
pub position_or_len-append_left : {X : Type 0} (p : X → Bool) (xs ys : List X) → position_or_len p xs < length xs
    → position_or_len p (xs ++ ys) ≡ position_or_len p xs
position_or_len-append_left p [] ys lt = absurd (omega arith)
position_or_len-append_left p (x ∷ xs) ys lt =
    elim (p x) as (λ b. cond (not b) (1 + position_or_len p xs) 0 < suc (length xs)
    → cond (not b) (1 + position_or_len p (xs ++ ys)) 0 ≡ cond (not b) (1 + position_or_len p xs) 0) [
      | true ↦ λ h. refl
      | false ↦ λ h. let less : position_or_len p xs < length xs = omega arith in ap (λ n. 1 + n) (position_or_len-append_left p xs ys less)
    ] lt

pub position-None : {X : Type 0} (p : X → Bool) (xs : List X) → position p xs ≡ None → position_or_len p xs ≡ length xs
position-None p xs e = grind (arith, prefix_len-le-length)

pub position-Some_place : {X : Type 0} (p : X → Bool) (xs : List X) (n : ℕ) → position p xs ≡ Some n → (position_or_len p xs ≡ n) × (n < length xs)
position-Some_place p xs n e = grind arith

-- a test that is shifted with its numbers
shifted : (a b c q n : ℕ) → q ≡ a + b → n ≡ a + c → cond (ltb q n) (Some q) None ≡ option_map (λ k. a + k) (cond (ltb b c) (Some b) None)
shifted a b c q n e f = grind (arith, nat_tests)

pub position-append : {X : Type 0} (p : X → Bool) (xs ys : List X) → position p xs ≡ None
    → position p (xs ++ ys) ≡ option_map (λ n. length xs + n) (position p ys)
position-append p xs ys e =
    shifted (length xs) (position_or_len p ys) (length ys) (position_or_len p (xs ++ ys)) (length (xs ++ ys))
    (position_or_len-append p xs ys (position-None p xs e))
    (length-append xs ys)

-- a split gives one part at least
pub some_part : {X : Type 0} (p : X → Bool) (xs : List X) → (part : List X) × (parts : List (List X)) × (slice_split p xs ≡ part ∷ parts)
some_part p [] = ([], [], refl)
some_part {X} p (x ∷ xs) =
    let more = some_part p xs in
    elim (p x) as (λ b. (part : List X) × (parts : List (List X)) × (cond b ([] ∷ slice_split p xs) (onto_first x (slice_split p xs)) ≡ part ∷ parts)) [
      | true ↦ ([], slice_split p xs, refl)
      | false ↦ (x ∷ more.0, more.1, ap (onto_first x) more.2)
    ]

-- the first of several parts is a line
first_part : (part : List ℕ) (bytes : List ℕ) → lines_of_parts (part ∷ slice_split is_line_end bytes) ≡ strip_carriage_return part ∷ lines_of bytes
first_part part bytes =
    let some = some_part is_line_end bytes in
    rw (some.2) refl

-- the first line, where its LF is there
pub lines_of-whole : (bytes more : List ℕ) (n : ℕ) → line_end_of bytes ≡ Some n
    → lines_of (bytes ++ more) ≡ strip_carriage_return (take n bytes) ∷ lines_of (drop (n + 1) bytes ++ more)
lines_of-whole bytes more n e =
    let place = position-Some_place is_line_end bytes n e in
    let inside : position_or_len is_line_end bytes < length bytes = omega (arith, place.0, place.1) in
    let at = position_or_len-append_left is_line_end bytes more inside ∙ place.0 in
    let inside_both : position_or_len is_line_end (bytes ++ more) < length (bytes ++ more) = omega (arith, at, place.1, length-append bytes more) in
    let le : n ≤ length bytes = omega (arith, place.1) in
    let le_next : n + 1 ≤ length bytes = omega (arith, place.1) in
    let front = ap (λ k. take k (bytes ++ more)) at ∙ take-append-le n bytes more le in
    let back = ap (λ k. drop (k + 1) (bytes ++ more)) at ∙ drop-append-le (n + 1) bytes more le_next in
    ap lines_of_parts (slice_split_first is_line_end (bytes ++ more) 0 inside_both)
    ∙ ap (λ l. lines_of_parts (l ∷ slice_split is_line_end (after_first is_line_end (bytes ++ more)))) front
    ∙ ap (λ l. lines_of_parts (take n bytes ∷ slice_split is_line_end l)) back
    ∙ first_part (take n bytes) (drop (n + 1) bytes ++ more)

-- with no LF there is one part
pub no_split : (bytes : List ℕ) → line_end_of bytes ≡ None → slice_split is_line_end bytes ≡ bytes ∷ []
no_split bytes e =
    let none = position-None is_line_end bytes e in
    slice_split_none is_line_end bytes
    (λ k d lt. let below : k < position_or_len is_line_end bytes = omega (arith, none, lt) in fails_before_first is_line_end bytes k d below)

not_empty : (byte : ℕ) (bytes : List ℕ) → lines_of_parts ((byte ∷ bytes) ∷ []) ≡ (byte ∷ bytes) ∷ []
not_empty byte bytes = grind arith

-- the last part, where it is not empty
pub lines_of-last : (byte : ℕ) (bytes : List ℕ) → line_end_of (byte ∷ bytes) ≡ None → lines_of (byte ∷ bytes) ≡ (byte ∷ bytes) ∷ []
lines_of-last byte bytes e = ap lines_of_parts (no_split (byte ∷ bytes) e) ∙ not_empty byte bytes

-- the place of the first LF, where the first bytes have none
pub line_end_of-from : (bytes : List ℕ) (start : ℕ) → start ≤ length bytes → line_end_of (take start bytes) ≡ None
    → line_end_of bytes ≡ option_map (λ n. start + n) (line_end_of (drop start bytes))
line_end_of-from bytes start le none =
    ap line_end_of (sym (take-append-drop start bytes))
    ∙ position-append is_line_end (take start bytes) (drop start bytes) none
    ∙ ap (λ k. option_map (λ n. k + n) (line_end_of (drop start bytes))) (length-take-le start bytes le)

same_next : (one other : List ℕ × List ℕ) (more : List ℕ) → Some one ≡ Some other → one.0 ∷ lines_of (one.1 ++ more) ≡ other.0 ∷ lines_of (other.1 ++ more)
same_next one other more e = let same : one ≡ other = cc in ap (λ next. next.0 ∷ lines_of (next.1 ++ more)) same

lines_of-next_last : {next : List ℕ × List ℕ} (ended : Bool) (bytes more : List ℕ) → line_end_of bytes ≡ None → line_up_to None ended bytes ≡ Some next
    → (IsTrue ended → more ≡ [])
    → lines_of (bytes ++ more) ≡ next.0 ∷ lines_of (next.1 ++ more)
lines_of-next_last true [] more none e end = cc
lines_of-next_last {next} true (byte ∷ bytes) more none e end =
    let no_more : more ≡ [] = end refl in
    let last : lines_of ((byte ∷ bytes) ++ []) ≡ (byte ∷ bytes) ∷ lines_of ([] ++ []) =
    ap lines_of (append-nil (byte ∷ bytes)) ∙ lines_of-last byte bytes none in
    rw no_more (last ∙ same_next (byte ∷ bytes, []) next [] e)
lines_of-next_last false bytes more none e end = cc

-- the next line is the first of the lines still to come
pub lines_of-next : (ended : Bool) (bytes more : List ℕ) (next : List ℕ × List ℕ) → next_line ended bytes ≡ Some next → (IsTrue ended → more ≡ [])
    → lines_of (bytes ++ more) ≡ next.0 ∷ lines_of (next.1 ++ more)
lines_of-next ended bytes more next is end =
    elim (line_end_of bytes) as (λ o. line_end_of bytes ≡ o → line_up_to o ended bytes ≡ Some next
    → lines_of (bytes ++ more) ≡ next.0 ∷ lines_of (next.1 ++ more)) [
      | Some n ↦ λ at e. lines_of-whole bytes more n at ∙ same_next (strip_carriage_return (take n bytes), drop (n + 1) bytes) next more e
      | None ↦ λ at e. lines_of-next_last ended bytes more at e end
    ] refl is
