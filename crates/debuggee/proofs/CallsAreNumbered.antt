-- The columns of a numbered list of calls: where the subtree of each call is the interval from it to its
-- last call, their parents and their last calls are those of numbered calls.
use Rattle.std.proofs.Common.{◌+◌, ◌<◌, ◌↔◌, ◌∙◌, ◌∷◌, ◌≡◌, ◌≤◌, [], ℕ, Bool, IsSome, List, None, Option, Some, ap, arith, cond, false, length, map, refl}
use Rattle.std.proofs.Common.{slice_get, slice_index, suc, sym, true, zero}
use Rattle.std.{proofs.lemmas.Option.get_or_from_slice_get, proofs.lemmas.Option.slice_get-map, proofs.lemmas.Option.slice_get_within, specs.Option.option_map}
use Rattle.std.proofs.{Math.Dec.leb, lemmas.Bool.leb-false, lemmas.Bool.leb-true, lemmas.List.get_or_past, lemmas.List.length-map}
use Rattle.core_program.specs.{ProgramRows.ProgramRows, Run.Call, Run.Marked, Run.Outcome, Run.run, WholeTables.WholeTables}
use Rattle.core_program.specs.Laws.{EveryProgramRuns, EveryRunHasACall, LastIsACall, SubtreeIsInterval}
use Rattle.core_program.specs.Numbering.{Child, InSubtree, Root, belows, calls_of, each_from, greatest, is_below, last_below, parent_of}
use Rattle.call_tree.specs.{Numbering.IsNumbered, Numbering.IsParent, Recording.Recording, Recording.lasts_of, Recording.parents_of, Recording.routines_of}
use Rattle.call_tree.specs.declared.records.Call as table
use Rattle.program_run.specs.{History.recording_of, Table.table_of, Table.table_row}
use Rattle.debuggee.specs.Execution.{Supply, calls_with}

-- the subtree of each call is the interval from it to its last call, which is a call
pub record IsTree (bs : List ℕ) : Type 0 where
  pub subtree : (k j : ℕ) → k < length bs → (InSubtree bs k j ↔ (k ≤ j) × (j ≤ last_below bs k))
  pub last : (k : ℕ) → k < length bs → last_below bs k < length bs

module _ {A B : Type 0} where
  each_length : (f : ℕ → A → B) (k : ℕ) (xs : List A) → length (each_from f k xs) ≡ length xs
  each_length f k [] = refl
  each_length f k (x ∷ xs) = ap suc (each_length f (suc k) xs)

  -- element i of a list that is numbered from start has the number start + i
  each_at : (f : ℕ → A → B) (start i : ℕ) (xs : List A) (x : A) → slice_get xs i ≡ Some x → slice_get (each_from f start xs) i ≡ Some (f (start + i) x)
  each_at f start i [] x e = absurd (let l : ⊥ = cc in l)
  each_at f start zero (y ∷ ys) x e = let same : y ≡ x = cc in let n : start ≡ start + 0 = omega arith in λ t. Some (f (n t) (same t))
  each_at f start (suc i) (y ∷ ys) x e = each_at f (suc start) i ys x e ∙ (let n : suc start + i ≡ start + suc i = omega arith in ap (λ m. Some (f m x)) n)

-- an element that is within a list
get_within : {A : Type 0} (xs : List A) (i : ℕ) → i < length xs → (x : A) × (slice_get xs i ≡ Some x)
get_within [] i h = absurd (omega arith)
get_within (x ∷ xs) zero h = (x, refl)
get_within (x ∷ xs) (suc i) h = get_within xs i (omega arith)

pub rows_length : (cs : List (Marked Call)) → length (table_of cs) ≡ length cs
rows_length cs = each_length (table_row (belows cs)) 0 cs

-- the row of a call
pub row_of_call : (cs : List (Marked Call)) (k : ℕ) (c : Marked Call) → slice_get cs k ≡ Some c → slice_get (table_of cs) k ≡ Some (table_row (belows cs) k c)
row_of_call cs k c e = each_at (table_row (belows cs)) 0 k cs c e ∙ (let n : 0 + k ≡ k = omega arith in ap (λ m. Some (table_row (belows cs) m c)) n)

pub row_at : (cs : List (Marked Call)) (k : ℕ) → k < length cs → (c : Marked Call) × (slice_get (table_of cs) k ≡ Some (table_row (belows cs) k c))
    × (slice_get cs k ≡ Some c)
row_at cs k h = let here = get_within cs k h in (here.0, row_of_call cs k here.0 here.1, here.1)

-- a column of the row of a call
column_at : {A : Type 0} (v : table.Call → A) (cs : List (Marked Call)) (k : ℕ) (h : k < length cs)
    → slice_get (map v (table_of cs)) k ≡ Some (v (table_row (belows cs) k (row_at cs k h).0))
column_at v cs k h = slice_get-map v (table_of cs) k ∙ ap (option_map v) (row_at cs k h).1

pub parent_at : (cs : List (Marked Call)) (k : ℕ) → k < length cs → slice_get (parents_of (table_of cs)) k ≡ Some (parent_of (belows cs) k)
parent_at cs k h = column_at (λ r. r.parent) cs k h

pub last_at : (cs : List (Marked Call)) (k : ℕ) → k < length cs → slice_index (lasts_of (table_of cs)) k ≡ last_below (belows cs) k
last_at cs k h = get_or_from_slice_get (lasts_of (table_of cs)) k (last_below (belows cs) k) 0 (column_at (λ r. r.last) cs k h)

-- the greatest number that passes is below the bound
greatest_below : (p : ℕ → Bool) (n m : ℕ) → greatest p n ≡ Some m → m < n
greatest_below p zero m e = absurd (let l : ⊥ = cc in l)
greatest_below p (suc n) m e = by (λ q. greatest_below p n m q) (p n) e
  where
    by : (greatest p n ≡ Some m → m < n) → (b : Bool) → cond b (Some n) (greatest p n) ≡ Some m → m < suc n
    by below true q = let same : n ≡ m = cc in omega arith
    by below false q = let less = below q in omega (arith, less)

parents_length : (cs : List (Marked Call)) → length (parents_of (table_of cs)) ≡ length cs
parents_length cs = length-map (table_of cs) (λ r. r.parent) ∙ rows_length cs

lasts_length : (cs : List (Marked Call)) → length (lasts_of (table_of cs)) ≡ length cs
lasts_length cs = length-map (table_of cs) (λ r. r.last) ∙ rows_length cs

belows_length : (cs : List (Marked Call)) → length (belows cs) ≡ length cs
belows_length cs = length-map cs (λ c. c.event.below)

-- a call of which there is a parent is a call, and that is its parent
parent_is : (cs : List (Marked Call)) (above call : ℕ) → IsParent (parents_of (table_of cs)) above call → (call < length cs)
    × (parent_of (belows cs) call ≡ Some above)
parent_is cs above call e =
    let inside : call < length cs = let l = slice_get_within (parents_of (table_of cs)) call (Some above) e in omega (arith, l, parents_length cs) in
    (inside, inner (parent_of (belows cs) call) (sym (parent_at cs call inside) ∙ e))
  where
    inner : (o : Option ℕ) → Some o ≡ Some (Some above) → o ≡ Some above
    inner o q = cc

-- what is in the subtree of a child is in the subtree of its parent
through_child : (bs : List ℕ) (above call j : ℕ) → parent_of bs call ≡ Some above → InSubtree bs call j → InSubtree bs above j
through_child bs above call _ e Root = Child call above e Root
through_child bs above call _ e (Child j p q s) = Child j p q (through_child bs above call p e s)

module _ (bs : List ℕ) (tree : IsTree bs) where
  child_ends : (above call : ℕ) → call < length bs → parent_of bs call ≡ Some above → last_below bs call ≤ last_below bs above
  child_ends above call h e =
      let earlier : above < call = greatest_below (is_below bs call) call above e in
      let last : InSubtree bs call (last_below bs call) = (tree.subtree call (last_below bs call) h).1 (omega arith, omega arith) in
      ((tree.subtree above (last_below bs call) (omega (arith, earlier))).0 (through_child bs above call (last_below bs call) e last)).1

  parent_within : (top call : ℕ) → top < length bs → top < call → InSubtree bs top call → (above : ℕ) × (top ≤ above) × (parent_of bs call ≡ Some above)
  parent_within top _ h later Root = absurd (omega arith)
  parent_within top _ h later (Child call above e s) = (above, ((tree.subtree top above h).0 s).0, e)

pub rows_numbered : (cs : List (Marked Call)) → IsTree (belows cs) → IsNumbered (parents_of (table_of cs)) (lasts_of (table_of cs))
rows_numbered cs tree = record {
  same_length = parents_length cs ∙ sym (lasts_length cs);
  intervals = record { from_itself = itself; to_a_call = a_call };
  child_is_later = λ above call e. greatest_below (is_below (belows cs) call) call above (parent_is cs above call e).1;
  child_ends_within = ends;
  parent_is_within = within;
}
  where
    size : length (belows cs) ≡ length cs
    size = belows_length cs

    itself : (call : ℕ) → call < length (lasts_of (table_of cs)) → call ≤ slice_index (lasts_of (table_of cs)) call
    itself call h = let l = last_at cs call (omega (arith, lasts_length cs)) in omega (arith, l)

    a_call : (call : ℕ) → call < length (lasts_of (table_of cs)) → slice_index (lasts_of (table_of cs)) call < length (lasts_of (table_of cs))
    a_call call h =
        let l = last_at cs call (omega (arith, lasts_length cs)) in
        let x = tree.last call (omega (arith, lasts_length cs, size)) in
        omega (arith, l, x, lasts_length cs, size)

    ends : (above call : ℕ) → IsParent (parents_of (table_of cs)) above call
        → slice_index (lasts_of (table_of cs)) call ≤ slice_index (lasts_of (table_of cs)) above
    ends above call e =
        let is = parent_is cs above call e in
        let inside : call < length cs = is.0 in
        let earlier : above < call = greatest_below (is_below (belows cs) call) call above is.1 in
        let x = child_ends (belows cs) tree above call (omega (arith, size)) is.1 in
        omega (arith, last_at cs call inside, last_at cs above (omega arith), x)

    -- only a call has a last call after it
    top_inside : (top call : ℕ) → top < call → call ≤ slice_index (lasts_of (table_of cs)) top → (b : Bool) → leb (length cs) top ≡ b → top < length cs
    top_inside top call later h true t =
        let past = leb-true _ _ t in let none = get_or_past (lasts_of (table_of cs)) top 0 (omega (arith, lasts_length cs)) in absurd (omega (arith, none))
    top_inside top call later h false t = leb-false _ _ t

    within : (top call : ℕ) → top < call → call ≤ slice_index (lasts_of (table_of cs)) top
        → (above : ℕ) × (top ≤ above) × IsParent (parents_of (table_of cs)) above call
    within top call later h =
        let inside : top < length cs = top_inside top call later h (leb (length cs) top) refl in
        let l = last_at cs top inside in
        let x = tree.last top (omega (arith, size)) in
        let found =
        parent_within (belows cs) tree top call (omega (arith, size)) later
        ((tree.subtree top call (omega (arith, size))).1 (omega (arith, later), omega (arith, l, h))) in
        (found.0, found.1, parent_at cs call (omega (arith, l, x, h, size)) ∙ ap Some found.2)

-- ---- the calls of a run

no_calls : IsTree (belows [])
no_calls = record { subtree = λ k j h. absurd (let f : k < 0 = h in omega (arith, f)); last = λ k h. absurd (let f : k < 0 = h in omega (arith, f)) }

module _ (subtree : SubtreeIsInterval) (last : LastIsACall) where
  tree_of : (p : ProgramRows) (s : Supply) (o : Outcome) → run p s.input s.budget ≡ o → IsTree (belows (calls_of o))
  tree_of p s None e = no_calls
  tree_of p s (Some r) e = record { subtree = subtree p s.input s.budget r e; last = last p s.input s.budget r e }

  -- the columns of the calls of a run
  pub run_numbered : (p : ProgramRows) (s : Supply) → IsNumbered (parents_of (calls_with s p)) (lasts_of (calls_with s p))
  unfolding calls_with
  run_numbered p s = rows_numbered (calls_of (run p s.input s.budget)) (tree_of p s (run p s.input s.budget) refl)

-- a run has a call
some_in : EveryRunHasACall → (p : ProgramRows) (s : Supply) (o : Outcome) → run p s.input s.budget ≡ o → IsSome o → 0 < length (calls_of o)
some_in has p s None e is = let x : ⊥ = cc in absurd x
some_in has p s (Some r) e is = let some = has p s.input s.budget r e in omega (arith, belows_length r.events, some)

pub some_call : EveryRunHasACall → EveryProgramRuns → (p : ProgramRows) → WholeTables p → (s : Supply) (calls : Recording)
    → calls ≡ recording_of p (run p s.input s.budget) → 0 < length calls.calls
some_call has runs p whole s calls e =
    let cs = calls_of (run p s.input s.budget) in
    let some = some_in has p s (run p s.input s.budget) refl (runs p whole s.input s.budget) in
    omega (arith, ap (λ (c : Recording). length c.calls) e, each_length (table_row (belows cs)) 0 cs, some)

-- the calls that are kept of a run are those of the run
pub calls_kept : (p : ProgramRows) (s : Supply) (calls : Recording) → calls ≡ recording_of p (run p s.input s.budget)
    → calls.calls ≡ calls_with s p
unfolding calls_with
calls_kept p s calls e = ap (λ (c : Recording). c.calls) e

-- the column of routines is as long as that of the last calls
pub columns_of_routines : (rows : List table.Call) → length (routines_of rows) ≡ length (lasts_of rows)
columns_of_routines rows = length-map rows (λ r. r.routine) ∙ sym (length-map rows (λ r. r.last))
