-- What is found by its place is made once, list by list.
use Rattle.std.proofs.Common.{◌++◌, ◌+◌, ◌<◌, ◌∙◌, ◌∷◌, ◌≡◌, ◌≤◌, [], ℕ, Bool, List, Some, add-one, ap, arith, drop, false, length, length-append, nat_lt, refl}
use Rattle.std.{proofs.Common.slice_get, proofs.Common.suc, proofs.Common.sym, proofs.Common.true, specs.Prelude.unwrap_or}
use Rattle.std.proofs.lemmas.{Bool.Decides.nat_tests, List.get_or_append_left, Option.slice_get_past, Option.unwrap_or-slice_get}
use Rattle.cell_value.specs.declared.entries.Touch.{Touch}
use Rattle.core_program.specs.ProgramRows.{ProgramRows}
use Rattle.cell_names.proofs.{PartsInTurn.finds_on, WrittenInTurn.drop_get}
use Rattle.cell_names.specs.{Layouts.frame_parts, Layouts.frame_parts_in, Places.finds, Records.record_parts, declared.places.PlacedPart.PlacedPart}
use Rattle.cell_names.specs.Finding.{NameLists, block_by, blocks_of, finding_in, finding_of, list_at}

-- one more touch is gone over
pub blocks_on : (old new all : List PlacedPart) (log : List Touch) (at : ℕ) (touch : Touch) → slice_get log at ≡ Some touch
    → finds new ≡ finds (old ++ block_by touch) → finds (old ++ blocks_of (drop at log)) ≡ finds all
    → finds (new ++ blocks_of (drop (at + 1) log)) ≡ finds all
blocks_on old new all log at touch found added so_far =
    rw add-one (finds_on old new (block_by touch) (blocks_of (drop (suc at) log)) all added
    (ap (λ l. finds (old ++ blocks_of l)) (sym (drop_get log at touch found)) ∙ so_far))

-- there is a list for each of the first routines
pub record IsFramed (p : ProgramRows) (lists : List (List PlacedPart)) (routine : ℕ) : Type 0 where
  pub as_many : length lists ≡ routine
  pub so_far : (n : ℕ) → n < routine → finds (list_at lists n) ≡ finds (frame_parts p n)

last_list : (lists : List (List PlacedPart)) (x : List PlacedPart) → list_at (lists ++ x ∷ []) (length lists) ≡ x
last_list [] x = refl
last_list (y ∷ ys) x = last_list ys x

frame_by : (p : ProgramRows) (old : List (List PlacedPart)) (frame : List PlacedPart) (routine : ℕ) → IsFramed p old routine
    → finds frame ≡ finds (frame_parts p routine)
    → (n : ℕ) → n < routine + 1 → (b : Bool) → nat_lt n routine ≡ b → finds (list_at (old ++ frame ∷ []) n) ≡ finds (frame_parts p n)
frame_by p old frame routine so_far is n below true e =
    let h : n < routine = grind (arith, nat_tests, e) in
    let i : n < length old = let m = so_far.as_many in omega (arith, h, m) in
    ap finds (get_or_append_left old (frame ∷ []) [] n i) ∙ so_far.so_far n h
frame_by p old frame routine so_far is n below false e =
    let s : n ≡ routine = grind (arith, nat_tests, e, below) in
    ap (λ k. finds (list_at (old ++ frame ∷ []) k)) (s ∙ sym so_far.as_many) ∙ ap finds (last_list old frame) ∙ is
    ∙ ap (λ k. finds (frame_parts p k)) (sym s)

pub frames_on : (p : ProgramRows) (old new : List (List PlacedPart)) (frame : List PlacedPart) (routine : ℕ) → new ≡ old ++ frame ∷ [] → IsFramed p old routine
    → finds frame ≡ finds (frame_parts p routine) → IsFramed p new (routine + 1)
frames_on p old new frame routine pushed so_far is = rw pushed (record {
  as_many = length-append old (frame ∷ []) ∙ ap (λ n. n + 1) so_far.as_many;
  so_far = λ n below. frame_by p old frame routine so_far is n below (nat_lt n routine) refl;
})

frames_by : (p : ProgramRows) (lists : List (List PlacedPart)) (routine : ℕ) → IsFramed p lists routine → length p.routines ≤ routine → (n : ℕ) (b : Bool)
    → nat_lt n routine ≡ b → finds (list_at lists n) ≡ finds (frame_parts p n)
frames_by p lists routine so_far all n true e = so_far.so_far n (let h : n < routine = grind (arith, nat_tests, e) in h)
frames_by p lists routine so_far all n false e =
    let h : routine ≤ n = grind (arith, nat_tests, e) in
    let i : length lists ≤ n = let m = so_far.as_many in omega (arith, h, m) in
    let j : length p.routines ≤ n = omega (arith, h, all) in
    ap finds (sym (unwrap_or-slice_get lists n []) ∙ ap (λ o. unwrap_or o []) (slice_get_past lists n i))
    ∙ ap (λ r. finds (frame_parts_in p n r)) (sym (slice_get_past p.routines n j))

-- there is one for each routine
pub frames_end : (p : ProgramRows) (lists : List (List PlacedPart)) (routine : ℕ) → IsFramed p lists routine → length p.routines ≤ routine → (n : ℕ)
    → finds (list_at lists n) ≡ finds (frame_parts p n)
frames_end p lists routine so_far all n = frames_by p lists routine so_far all n (nat_lt n routine) refl

pub names_are : (p : ProgramRows) (tokens : ℕ) (log : List Touch) (lists : NameLists)
    → ((routine : ℕ) → finds (list_at lists.frames routine) ≡ finds (frame_parts p routine))
    → ((owner : ℕ) → finds (list_at lists.records owner) ≡ finds (record_parts p tokens owner)) → finds lists.blocks ≡ finds (blocks_of log)
    → finding_in lists ≡ finding_of p tokens log
names_are p tokens log lists frames records blocks = λ i. record {
  frame = λ routine. frames routine i;
  component = λ owner. records owner i;
  block = blocks i;
}
