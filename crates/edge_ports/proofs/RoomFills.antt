-- A text that is printed into a room.
use Rattle.std.proofs.Common.{◌++◌, ◌+◌, ◌-◌, ◌∙◌, ◌≡◌, ◌≤◌, [], ℕ, Bool, List, Some, ap, append_assoc, arith, drop, false, length, refl, sym, take, take-take}
use Rattle.std.proofs.Common.{true}
use Rattle.std.proofs.lemmas.List.{append-nil, drop-append-le, length-take, take-append-drop, take-append-le}
use Rattle.edge_ports.specs.Printouts.{Beginning, Prints}

-- what was given before the text, and what found room of it
front_in_two : (from len : ℕ) (room : List ℕ) → from ≤ len → take from room ++ drop from (take len room) ≡ take len room
front_in_two from len room le = ap (λ t. t ++ drop from (take len room)) (sym (take-take from len room le)) ∙ take-append-drop from (take len room)

-- all of the text found room
pub all_fits : (from len : ℕ) (room lost : List ℕ) → from ≤ len → lost ≡ [] → take len room ≡ take from room ++ (drop from (take len room) ++ lost)
all_fits from len room lost le none =
    let whole : drop from (take len room) ++ lost ≡ drop from (take len room) =
    ap (λ t. drop from (take len room) ++ t) none ∙ append-nil (drop from (take len room)) in
    sym (ap (λ t. take from room ++ t) whole ∙ front_in_two from len room le)

-- the room is full
pub part_fits : (from len : ℕ) (room lost : List ℕ) → from ≤ len → len ≡ length room
    → take len room ≡ take (length room) (take from room ++ (drop from (take len room) ++ lost))
part_fits from len room lost le full =
    let all : take from room ++ (drop from (take len room) ++ lost) ≡ take len room ++ lost =
    sym (append_assoc (take from room) (drop from (take len room)) lost) ∙ ap (λ t. t ++ lost) (front_in_two from len room le) in
    sym (ap (take (length room)) all ∙ take-append-le (length room) (take len room) lost (omega (arith, length-take {A = ℕ}, full))
    ∙ take-take (length room) len room (omega (arith, full)) ∙ ap (λ n. take n room) (sym full))

-- of a piece what found no room comes after what found none before: nothing was let go yet, or there is no room
lets_go : (whole : Bool) (count : ℕ) (lost piece : List ℕ) → (whole ≡ true → lost ≡ []) → (whole ≡ false → count ≡ 0)
    → lost ++ piece ≡ take count piece ++ (lost ++ drop count piece)
lets_go true count lost piece all part = rw (all refl) (sym (take-append-drop count piece))
lets_go false count lost piece all part = rw (part refl) refl

-- what is told of a text's beginning is that of the same bytes
pub same_beginning : (old new : List ℕ) (faults loan : ℕ) → new ≡ old
    → ◌≡◌ {A = Beginning} (record { given = Some new; faults = faults; loan = loan }) (record { given = Some old; faults = faults; loan = loan })
same_beginning old new faults loan e = ap (λ t. record { given = Some t; faults = faults; loan = loan }) e

-- a piece is printed
pub fills : (from len count faults loan : ℕ) (whole : Bool) (old new lost lost' piece : List ℕ) → from ≤ len → len ≤ length old
    → count ≤ length old - len → take (len + count) new ≡ take len old ++ take count piece → lost' ≡ lost ++ drop count piece
    → (whole ≡ true → lost ≡ []) → (whole ≡ false → len ≡ length old)
    → Prints (record { began = record { given = Some (take from old); faults = faults; loan = loan }; text = drop from (take len old) ++ lost })
    (record { began = record { given = Some (take from new); faults = faults; loan = loan }; text = drop from (take (len + count) new) ++ lost' })
    piece
fills from len count faults loan whole old new lost lost' piece begun within some front more all part =
    let short : from ≤ length (take len old) = omega (arith, length-take {A = ℕ}) in (
      ap (λ t. drop from t ++ lost') front
          ∙ ap (λ t. t ++ lost') (drop-append-le from (take len old) (take count piece) short)
          ∙ append_assoc (drop from (take len old)) (take count piece) lost'
          ∙ ap (λ t. drop from (take len old) ++ (take count piece ++ t)) more
          ∙ ap (λ t. drop from (take len old) ++ t) (sym (lets_go whole count lost piece all (λ w. omega (arith, part w))))
          ∙ sym (append_assoc (drop from (take len old)) lost piece),
      same_beginning (take from old) (take from new) faults loan
          (sym (take-take from (len + count) new (omega arith)) ∙ ap (take from) front ∙ take-append-le from (take len old) (take count piece) short
          ∙ take-take from len old begun),
    )
