-- The fields and tags of records, as one token after another is gone over.
use Rattle.std.proofs.Common.{if◌then◌else◌, ◌&&◌, ◌++◌, ◌+◌, ◌-◌, ◌<◌, ◌==◌, ◌∙◌, ◌∷◌, ◌≡◌, ◌≤◌, [], ℕ, Bool, List, None, Option, Some, ap, append-nil, arith}
use Rattle.std.proofs.Common.{false, flat_map, length, nat_lt, refl, slice_index_or, slice_set, suc, sym, true, zero}
use Rattle.std.proofs.lemmas.{Bool.Decides.nat_tests, List.get_or-set_other, List.get_or-set_same, List.length-set}
use Rattle.std.specs.List.{range_with_len}
use Rattle.core_program.specs.ProgramRows.{ProgramRows, row_at}
use Rattle.cell_names.proofs.{PartsInTurn.finds_all, PartsInTurn.finds_on, PartsSplit.get_or_any}
use Rattle.cell_names.specs.{Finding.Adds, Finding.list_at, Places.finds, declared.places.PlacedPart.PlacedPart, declared.records.Placed.Placed}
use Rattle.cell_names.specs.Records.{further_holder, holder_around, holding_record, is_record, most_nesting, placed_at, record_parts_from, within}

deeper : (counter : ℕ) → counter < 200 → most_nesting - counter ≡ suc (most_nesting - (counter + 1))
unfolding most_nesting
deeper counter below = omega (arith, below)

-- the record is here
pub record_here : (p : ProgramRows) (counter at : ℕ) (b : Bool) → counter < 200 → b ≡ is_record (row_at p at) → b ≡ true
    → holding_record p (most_nesting - counter) at ≡ Some at
record_here p counter at b below is e =
    ap (λ n. holding_record p n at) (deeper counter below)
    ∙ ap (λ t. if t then Some at else further_holder (holding_record p (most_nesting - (counter + 1))) (holder_around p (row_at p at))) (sym is ∙ e)

-- it is further out
pub record_further : (p : ProgramRows) (counter at : ℕ) (b : Bool) (o : Option ℕ) → counter < 200 → b ≡ is_record (row_at p at) → b ≡ false
    → o ≡ holder_around p (row_at p at) → holding_record p (most_nesting - counter) at ≡ further_holder (holding_record p (most_nesting - (counter + 1))) o
record_further p counter at b o below is e around =
    ap (λ n. holding_record p n at) (deeper counter below)
    ∙ ap (λ t. if t then Some at else further_holder (holding_record p (most_nesting - (counter + 1))) (holder_around p (row_at p at))) (sym is ∙ e)
    ∙ ap (further_holder (holding_record p (most_nesting - (counter + 1)))) (sym around)

pub record_nowhere : (p : ProgramRows) (counter at : ℕ) → 200 ≤ counter → holding_record p (most_nesting - counter) at ≡ None
unfolding most_nesting
record_nowhere p counter at past = ap (λ n. holding_record p n at) (let e : 200 - counter ≡ zero = omega (arith, past) in e)

adds_by : (lists : List (List PlacedPart)) (placed : Placed) (old new : List PlacedPart) → placed.owner < length lists → old ≡ list_at lists placed.owner
    → finds new ≡ finds (old ++ placed.part ∷ []) → (n : ℕ) (b : Bool) → (placed.owner == n) ≡ b
    → finds (list_at (slice_set lists placed.owner new) n) ≡ finds (list_at lists n ++ (if b && nat_lt n (length lists) then placed.part ∷ [] else []))
adds_by lists placed old new inside was added n true e =
    let same : placed.owner ≡ n = grind (arith, nat_tests, e) in
    let t : nat_lt n (length lists) ≡ true = grind (arith, nat_tests, same, inside) in
    ap finds (ap (λ m. list_at (slice_set lists placed.owner new) m) (sym same) ∙ get_or-set_same lists placed.owner new [] inside)
    ∙ added ∙ ap (λ l. finds (l ++ placed.part ∷ [])) (was ∙ ap (list_at lists) same)
    ∙ ap (λ u. finds (list_at lists n ++ (if u then placed.part ∷ [] else []))) (sym t)
adds_by lists placed old new inside was added n false e =
    ap finds (get_or-set_other lists placed.owner n new [] (λ q. let z : ⊥ = grind (arith, nat_tests, e, q) in z))
    ∙ ap finds (sym (append-nil (list_at lists n)))

-- a part is put at the end of the list of its record
pub placed_adds : (lists : List (List PlacedPart)) (placed : Placed) (old new d : List PlacedPart) → placed.owner < length lists
    → old ≡ slice_index_or lists placed.owner d → finds new ≡ finds (old ++ placed.part ∷ [])
    → Adds (λ owner. within (length lists) owner (Some placed)) lists (slice_set lists placed.owner new)
placed_adds lists placed old new d inside was added = record {
  as_many = length-set lists placed.owner new;
  finds_more = λ n. adds_by lists placed old new inside (was ∙ get_or_any lists placed.owner d [] inside) added n (placed.owner == n) refl;
}

part_first : (p : ProgramRows) (tokens owner token : ℕ) → token < tokens
    → record_parts_from p tokens owner token ≡ within tokens owner (placed_at p token) ++ record_parts_from p tokens owner (token + 1)
unfolding record_parts_from
part_first p tokens owner token below =
    ap (λ n. flat_map (λ t. within tokens owner (placed_at p t)) (range_with_len token n))
    (let e : tokens - token ≡ suc (tokens - (token + 1)) = omega (arith, below) in e)

part_none : (p : ProgramRows) (tokens owner token : ℕ) → tokens ≤ token → record_parts_from p tokens owner token ≡ []
unfolding record_parts_from
part_none p tokens owner token past =
    ap (λ n. flat_map (λ t. within tokens owner (placed_at p t)) (range_with_len token n)) (let e : tokens - token ≡ zero = omega (arith, past) in e)

-- one more token is gone over
pub record_parts_on : (p : ProgramRows) (old new all : List PlacedPart) (tokens many owner token : ℕ) (one : Option Placed) → token < tokens → many ≡ tokens
    → one ≡ placed_at p token → finds new ≡ finds (old ++ within many owner one) → finds (old ++ record_parts_from p tokens owner token) ≡ finds all
    → finds (new ++ record_parts_from p tokens owner (token + 1)) ≡ finds all
record_parts_on p old new all tokens many owner token one below same is added so_far =
    let rest = record_parts_from p tokens owner (token + 1) in
    finds_on old new (within many owner one) rest all added
    (ap (λ m. finds (old ++ (within m owner one ++ rest))) same ∙ ap (λ o. finds (old ++ (within tokens owner o ++ rest))) is
    ∙ ap (λ l. finds (old ++ l)) (sym (part_first p tokens owner token below)) ∙ so_far)

pub record_parts_end : (p : ProgramRows) (old all : List PlacedPart) (tokens owner token : ℕ) → tokens ≤ token
    → finds (old ++ record_parts_from p tokens owner token) ≡ finds all → finds old ≡ finds all
record_parts_end p old all tokens owner token past so_far =
    finds_all old all (ap (λ l. finds (old ++ l)) (sym (part_none p tokens owner token past)) ∙ so_far)
