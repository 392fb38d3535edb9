-- Lines of a card, one after another.
use Rattle.std.proofs.Common.{◌++◌, ◌+◌, ◌-◌, ◌<◌, ◌∙◌, ◌∷◌, ◌≡◌, ◌≤◌, [], ℕ, Bool, List, Some, add-one, ap, append-nil, append_assoc, arith, drop, false}
use Rattle.std.proofs.Common.{flat_map, length, min, nat_le, refl, slice_get, slice_index_or, slice_range, suc, sym, take, true, zero}
use Rattle.std.proofs.{Math.Seq.drop-cons, lemmas.Bool.Decides.nat_tests, lemmas.List.drop_all}
use Rattle.cell_value.specs.declared.values.Value.{Value}
use Rattle.core_program.specs.{ProgramRows.ProgramRows, declared.program.Routine.Routine}
use Rattle.call_tree.specs.declared.records.{Call.Call, Mark.Mark}
use Rattle.cell_names.proofs.WrittenInTurn.{drop_get, range_front}
use Rattle.cell_names.specs.{Conformant.next_place, Names.Scene, Names.copy_cells, declared.names.Frame.Frame}
use Rattle.question_text.specs.{Cells.argument_text, Cells.cells_text, Cells.parameter_line, Cells.parameters_text, Trees.tree_from, Trees.tree_line}

-- one more line
pub line_on : {X : Type 0} (f : X → List ℕ) (xs : List X) (i : ℕ) (x : X) (before after all : List ℕ) → slice_get xs i ≡ Some x
    → after ≡ before ++ f x → before ++ flat_map f (drop i xs) ≡ all → after ++ flat_map f (drop (i + 1) xs) ≡ all
line_on f xs i x before after all found written so_far =
    let rest = flat_map f (drop (suc i) xs) in
    rw add-one (ap (λ t. t ++ rest) written ∙ append_assoc before (f x) rest ∙ ap (λ l. before ++ flat_map f l) (sym (drop_get xs i x found)) ∙ so_far)

-- what is left of a part of a list, with its first element
first_left : (args : List Value) (at to : ℕ) (v : Value) → slice_get args at ≡ Some v → at < to
    → slice_range args at to ≡ v ∷ slice_range args (at + 1) to
first_left args at to v found below =
    range_front args at to v found below ∙ ap (λ n. v ∷ slice_range args n to) (let e : suc at ≡ at + 1 = omega arith in e)

take_none : (n : ℕ) → ◌≡◌ {A = List Value} (take n []) []
take_none zero = refl
take_none (suc n) = refl

-- nothing is left of it
pub none_left : (args : List Value) (at to : ℕ) → min to (length args) ≤ at → slice_range args at to ≡ []
none_left args at to past = by (nat_le to at) refl
  where
    by : (b : Bool) → nat_le to at ≡ b → slice_range args at to ≡ []
    by true e = ap (λ n. take n (drop at args)) (let z : to - at ≡ zero = grind (arith, nat_tests, e) in z)
    by false e =
        ap (take (to - at)) (drop_all at args (let z : length args ≤ at = grind (arith, nat_tests, e, past) in z)) ∙ take_none (to - at)

-- one more cell
pub cell_on : (s : Scene) (f : Frame) (place next at to : ℕ) (args : List Value) (v : Value) (before after all : List ℕ) → slice_get args at ≡ Some v
    → at < to → next ≡ next_place place → after ≡ before ++ parameter_line s f place v
    → before ++ cells_text s f place (slice_range args at to) ≡ all → after ++ cells_text s f next (slice_range args (at + 1) to) ≡ all
cell_on s f place next at to args v before after all found below is written so_far =
    let rest = cells_text s f (next_place place) (slice_range args (at + 1) to) in
    ap (λ n. after ++ cells_text s f n (slice_range args (at + 1) to)) is ∙ ap (λ t. t ++ rest) written
    ∙ append_assoc before (parameter_line s f place v) rest
    ∙ ap (λ l. before ++ cells_text s f place l) (sym (first_left args at to v found below)) ∙ so_far

pub cells_end : (s : Scene) (f : Frame) (place at to : ℕ) (args : List Value) (out all : List ℕ) → min to (length args) ≤ at
    → out ++ cells_text s f place (slice_range args at to) ≡ all → out ≡ all
cells_end s f place at to args out all past so_far =
    sym (append-nil out) ∙ ap (λ l. out ++ cells_text s f place l) (sym (none_left args at to past)) ∙ so_far

-- one more parameter
pub parameter_on : (s : Scene) (f : Frame) (r : Routine) (place to : ℕ) (args : List Value) (v : Value) (before after all : List ℕ)
    → slice_get args place ≡ Some v → place < to → after ≡ before ++ argument_text s f r args place v (copy_cells s f place)
    → before ++ parameters_text s f r args place (slice_range args place to) ≡ all
    → after ++ parameters_text s f r args (place + 1) (slice_range args (place + 1) to) ≡ all
parameter_on s f r place to args v before after all found below written so_far =
    let rest = parameters_text s f r args (place + 1) (slice_range args (place + 1) to) in
    ap (λ t. t ++ rest) written ∙ append_assoc before (argument_text s f r args place v (copy_cells s f place)) rest
    ∙ ap (λ l. before ++ parameters_text s f r args place l) (sym (first_left args place to v found below)) ∙ so_far

pub parameters_end : (s : Scene) (f : Frame) (r : Routine) (place to : ℕ) (args : List Value) (out all : List ℕ) → min to (length args) ≤ place
    → out ++ parameters_text s f r args place (slice_range args place to) ≡ all → out ≡ all
parameters_end s f r place to args out all past so_far =
    sym (append-nil out) ∙ ap (λ l. out ++ parameters_text s f r args place l) (sym (none_left args place to past)) ∙ so_far

-- one more line of a tree
pub tree_on : (p : ProgramRows) (k : ℕ) (calls : List Call) (marks : List Mark) (call : Call) (d : Mark) (before after all : List ℕ)
    → slice_get calls k ≡ Some call
    → k < length marks → after ≡ before ++ tree_line p k call (slice_index_or marks k d) → before ++ tree_from p k (drop k calls) (drop k marks) ≡ all
    → after ++ tree_from p (k + 1) (drop (k + 1) calls) (drop (k + 1) marks) ≡ all
tree_on p k calls marks call d before after all found below written so_far =
    let line = tree_line p k call (slice_index_or marks k d) in
    let rest = tree_from p (k + 1) (drop (suc k) calls) (drop (suc k) marks) in
    ap (λ n. after ++ tree_from p (k + 1) (drop n calls) (drop n marks)) (let e : k + 1 ≡ suc k = omega arith in e)
    ∙ ap (λ t. t ++ rest) written ∙ append_assoc before line rest
    ∙ sym (ap (λ l. before ++ tree_from p k l (drop k marks)) (drop_get calls k call found)
    ∙ ap (λ l. before ++ tree_from p k (call ∷ drop (suc k) calls) l) (drop-cons marks k d below)) ∙ so_far

pub tree_end : (p : ProgramRows) (k : ℕ) (calls : List Call) (marks : List Mark) (out all : List ℕ) → length calls ≤ k
    → out ++ tree_from p k (drop k calls) (drop k marks) ≡ all → out ≡ all
tree_end p k calls marks out all past so_far =
    sym (append-nil out) ∙ ap (λ l. out ++ tree_from p k l (drop k marks)) (sym (drop_all k calls past)) ∙ so_far
