-- The open calls, and what is left of them.
use Rattle.std.proofs.Common.{◌++◌, ◌+◌, ◌-◌, ◌∙◌, ◌∷◌, ◌≡◌, [], ℕ, List, None, Some, ap, append-nil, append_assoc, arith, length, length-append, refl}
use Rattle.std.proofs.Common.{slice_get, slice_set, subst, suc, sym, zero}
use Rattle.std.proofs.{Math.Seq.get_or-append_seam, Math.Seq.set-append_seam, lemmas.List.length-map, lemmas.List.map-append, lemmas.Option.slice_get_read}
use Rattle.cell_value.specs.declared.entries.Touch.{Touch}
use Rattle.core_program.proofs.{CallsOfRunsNest.belows_later, NestedCallsAreIntervals.within_append, NestedCallsAreIntervals.within_call}
use Rattle.core_program.proofs.MoreDepthSameResult.{Less, after_less, in_front_less, joined_less, less_same, plain_grows, recorded_less, run_less}
use Rattle.core_program.proofs.OutcomesCompose.{front_twice, less_then, none_some}
use Rattle.core_program.specs.{Numbering.Inside, Numbering.belows, ProgramRows.ProgramRows, State.State, Tree.ActTree}
use Rattle.core_program.specs.Run.{Call, End, Ended, Halted, Marked, Outcome, Result, call_closed, ends, in_front, later_by, on_end, plain, record_of}
use Rattle.core_program.specs.Run.{result_in, run_of, way_out, without_frame}
use Rattle.call_tree.specs.Recording.{leaving, left}
use Rattle.program_run.proofs.RowsInParts.{further, length_each, rows_append, rows_call, rows_moved}
use Rattle.program_run.specs.{Table.side_of, Tower.whole_from}
use Rattle.program_run.specs.Tower.{Bottom, LevelsFit, Open, OpenLevel, OpenLevels, Own, Push, below, call_row_at, called, calls_so_far, first_spot, followed}
use Rattle.program_run.specs.Tower.{left_inside, logs_of, numbers_of, open_of, opened_row, opens_of, recording_at, rows_at, rows_of, spot_of, stage_after}

-- ---- what is left

called_less : (l : OpenLevel) (x y : Outcome) → Less x y → Less (called l x) (called l y)
called_less l x y h = recorded_less l.routine l.args l.entry _ _
    (after_less (call_closed l.entry.depth) _ _ (after_less (without_frame l.entry.top l.cells) _ _ h))

whole_same : (p : ProgramRows) (n : ℕ) (ls : OpenLevels) (x y : Outcome) → Less x y → Less (whole_from p n ls x) (whole_from p n ls y)
whole_same p n (Bottom own) x y h = in_front_less own.log own.events _ _ h
whole_same p n (Push under l own) x y h =
    whole_same p n under _ _ (joined_less _ _ _ _ (called_less l _ _ (in_front_less own.log own.events _ _ h)) (λ out τ. less_same _))

whole_less : (p : ProgramRows) (n : ℕ) (ls : OpenLevels) (x y : Outcome) → Less x y → Less (whole_from p n ls x) (whole_from p (suc n) ls y)
whole_less p n (Bottom own) x y h = in_front_less own.log own.events _ _ h
whole_less p n (Push under l own) x y h =
    whole_less p n under _ _ (joined_less _ _ _ _ (called_less l _ _ (in_front_less own.log own.events _ _ h))
    (λ out τ. run_less (plain p) (plain_grows p) p n (l.rest out) τ))

-- this many more levels
abbrev pub more : ℕ → ℕ → ℕ
more zero n = n
more (suc k) n = suc (more k n)

more_swap : (k n : ℕ) → more k (suc n) ≡ suc (more k n)
more_swap zero n = refl
more_swap (suc k) n = ap suc (more_swap k n)

pub more_comm : (k n : ℕ) → more k n ≡ more n k
more_comm zero zero = refl
more_comm zero (suc n) = ap suc (more_comm zero n)
more_comm (suc k) n = ap suc (more_comm k n) ∙ sym (more_swap n k)

pub run_more : (p : ProgramRows) (k n : ℕ) (t : ActTree) (σ : State) → Less (run_of p n t σ) (run_of p (more k n) t σ)
run_more p zero n t σ = less_same _
run_more p (suc k) n t σ = less_then (run_more p k n t σ) (run_less (plain p) (plain_grows p) p (more k n) t σ)

pub whole_more : (p : ProgramRows) (k n : ℕ) (ls : OpenLevels) (x y : Outcome) → Less x y → Less (whole_from p n ls x) (whole_from p (more k n) ls y)
whole_more p zero n ls x y h = whole_same p n ls x y h
whole_more p (suc k) n ls x y h = less_then (whole_more p k n ls x x (less_same x)) (whole_less p (more k n) ls x y h)

-- where nothing is known of what is left, nothing is known of the run
whole_none : (p : ProgramRows) (n : ℕ) (ls : OpenLevels) → whole_from p n ls None ≡ None
whole_none p n (Bottom own) = refl
whole_none p n (Push under l own) = whole_none p n under

pub whole_some : (p : ProgramRows) (n : ℕ) (ls : OpenLevels) (x : Outcome) (r : Result State Call) → whole_from p n ls x ≡ Some r → (q : Result State Call)
    × (x ≡ Some q)
whole_some p n ls None r e = absurd (none_some (sym (whole_none p n ls) ∙ e))
whole_some p n ls (Some q) r e = (q, refl)

pub front_some : (w : List Touch) (es : List (Marked Call)) (x : Outcome) (r : Result State Call) → in_front w es x ≡ Some r
    → (q : Result State Call) × (x ≡ Some q)
front_some w es None r e = absurd (none_some e)
front_some w es (Some q) r e = (q, refl)

-- ---- the innermost body goes on

abbrev pub on_own : Own → List Touch → List (Marked Call) → Own
on_own own w es = record { log = own.log ++ w; events = own.events ++ later_by (length own.log) es }

-- the same levels where the innermost body has done more
abbrev pub done : OpenLevels → List Touch → List (Marked Call) → OpenLevels
done (Bottom own) w es = Bottom (on_own own w es)
done (Push under l own) w es = Push under l (on_own own w es)

pub whole_done : (p : ProgramRows) (n : ℕ) (ls : OpenLevels) (w : List Touch) (es : List (Marked Call)) (x : Outcome)
    → whole_from p n (done ls w es) x ≡ whole_from p n ls (in_front w es x)
whole_done p n (Bottom own) w es x = front_twice own.log w own.events es x
whole_done p n (Push under l own) w es x = ap (λ y. whole_from p n under (followed p n l.rest (called l y))) (front_twice own.log w own.events es x)

pub logs_done : (ls : OpenLevels) (w : List Touch) (es : List (Marked Call)) → logs_of (done ls w es) ≡ logs_of ls ++ w
logs_done (Bottom own) w es = refl
logs_done (Push under l own) w es = sym (append_assoc (logs_of under) own.log w)

pub numbers_done : (ls : OpenLevels) (w : List Touch) (es : List (Marked Call)) → numbers_of (done ls w es) ≡ numbers_of ls
numbers_done (Bottom own) w es = refl
numbers_done (Push under l own) w es = refl

pub opens_done : (ls : OpenLevels) (w : List Touch) (es : List (Marked Call)) → opens_of (done ls w es) ≡ opens_of ls
opens_done (Bottom own) w es = refl
opens_done (Push under l own) w es = refl

length_later : (n : ℕ) (ds es : List (Marked Call)) → length (ds ++ later_by n es) ≡ length ds + length es
length_later n ds es = length-append ds (later_by n es) ∙ ap (λ k. length ds + k) (length-map es (λ e. record { mark = n + e.mark; event = e.event }))

pub size_done : (ls : OpenLevels) (w : List Touch) (es : List (Marked Call)) → calls_so_far (done ls w es) ≡ calls_so_far ls + length es
size_done (Bottom own) w es = length_later (length own.log) own.events es
size_done (Push under l own) w es = let e = length_later (length own.log) own.events es in omega (arith, e)

inside_none : Inside (belows [])
inside_none = record { inside = λ k h. absurd (omega arith) }

inside_later : (n : ℕ) (ds es : List (Marked Call)) → Inside (belows ds) → Inside (belows es) → Inside (belows (ds ++ later_by n es))
inside_later n ds es f g =
    subst (λ bs. Inside bs) (sym (map-append (λ c. c.event.below) ds (later_by n es) ∙ ap (λ bs. belows ds ++ bs) (belows_later n es)))
    (within_append (belows ds) (belows es) f g)

pub fits_done : (before : ℕ) (ls : OpenLevels) (w : List Touch) (es : List (Marked Call)) → LevelsFit before ls → Inside (belows es)
    → LevelsFit before (done ls w es)
fits_done before (Bottom own) w es f h = inside_later (length own.log) own.events es f h
fits_done before (Push under l own) w es f h = (inside_later (length own.log) own.events es f.0 h, f.1, f.2)

pub fits_more : (before : ℕ) (ls : OpenLevels) (w : List Touch) → LevelsFit before ls → LevelsFit before (done ls w [])
fits_more before ls w f = fits_done before ls w [] f inside_none

inside_call : (c : Call) (es : List (Marked Call)) → c.below ≡ length es → Inside (belows es) → Inside (belows ((record { mark = 0; event = c }) ∷ es))
inside_call c es e f = within_call c.below (belows es) (e ∙ sym (length-map es (λ c. c.event.below))) f

-- ---- the rows

pub rows_length : (ls : OpenLevels) → length (rows_of ls) ≡ calls_so_far ls
rows_length (Bottom own) = length_each (call_row_at first_spot (belows own.events)) 0 own.events
rows_length (Push under l own) =
    let a = rows_length under in
    let b = length_each (call_row_at (below (spot_of under)) (belows own.events)) 0 own.events in
    let c = length-append (rows_of under) (opened_row under l ∷ rows_at (below (spot_of under)) own.events) in
    omega (arith, a, b, c)

-- the rows that calls of the innermost body add
pub rows_done : (before : ℕ) (ls : OpenLevels) (w : List Touch) (es : List (Marked Call)) → LevelsFit before ls
    → rows_of (done ls w es) ≡ rows_of ls ++ rows_at (spot_of ls) es
rows_done before (Bottom own) w es f =
    rows_append first_spot own.events (later_by (length own.log) es) f
    ∙ ap (λ rs. rows_at first_spot own.events ++ rs)
    (rows_moved (further first_spot (length own.events)) (length own.log) es ∙ (λ i. rows_at (record {
      number = (let x : 0 + length own.events ≡ length own.events = omega arith in x) i;
      parent = None;
      depth = 0;
      mark = (let x : 0 + length own.log ≡ length own.log = omega arith in x) i;
    }) es))
rows_done before (Push under l own) w es f =
    let s = below (spot_of under) in
    ap (λ rs. rows_of under ++ opened_row under l ∷ rs)
    (rows_append s own.events (later_by (length own.log) es) f.0
    ∙ ap (λ rs. rows_at s own.events ++ rs)
    (rows_moved (further s (length own.events)) (length own.log) es ∙ (λ i. rows_at (record {
      number = (let x : s.number + length own.events ≡ calls_so_far (Push under l own) = omega arith in x) i;
      parent = s.parent;
      depth = (let x : s.depth ≡ length (numbers_of (Push under l own)) = omega arith in x) i;
      mark = (sym (length-append (logs_of under) own.log)) i;
    }) es)))
    ∙ sym (append_assoc (rows_of under) (opened_row under l ∷ rows_at s own.events) (rows_at (spot_of (Push under l own)) es))

-- ---- a call ends

-- its record
abbrev pub ended_call : OpenLevel → Own → End → State → Call
ended_call l own e τ = record_of l.routine l.args l.entry (record { end = e; after = τ; log = own.log; events = own.events })

-- the calls that its caller has made with it
abbrev pub ended : OpenLevel → Own → End → State → List (Marked Call)
ended l own e τ = (record { mark = 0; event = ended_call l own e τ }) ∷ own.events

front_ends : (own : Own) (e : End) (σ : State)
    → ◌≡◌ {A = Outcome} (in_front own.log own.events (ends e σ)) (Some (record { end = e; after = σ; log = own.log; events = own.events }))
front_ends own e σ = λ i. Some (record { end = e; after = σ; log = append-nil own.log i; events = append-nil own.events i })

pub call_ends : (p : ProgramRows) (n : ℕ) (l : OpenLevel) (own : Own) (e : End) (σ τ : State)
    → τ ≡ call_closed l.entry.depth (without_frame l.entry.top l.cells σ)
    → followed p n l.rest (called l (in_front own.log own.events (ends e σ)))
    ≡ in_front own.log (ended l own e τ) (left_inside p n (stage_after l.rest e) τ)
call_ends p n l own e σ τ h = ap (λ x. followed p n l.rest (called l x)) (front_ends own e σ) ∙ go e
  where
    go : (e : End) → on_end e (record {
      end = e;
      after = call_closed l.entry.depth (without_frame l.entry.top l.cells σ);
      log = own.log;
      events = ended l own e (call_closed l.entry.depth (without_frame l.entry.top l.cells σ));
    }) (λ out υ. run_of p n (l.rest out) υ) ≡ in_front own.log (ended l own e τ) (left_inside p n (stage_after l.rest e) τ)
    go (Ended out) = λ i. in_front own.log (ended l own (Ended out) (sym h i)) (run_of p n (l.rest out) (sym h i))
    go (Halted way) = λ i. Some (record {
      end = Halted way;
      after = sym h i;
      log = sym (append-nil own.log) i;
      events = sym (append-nil (ended l own (Halted way) (sym h i))) i;
    })

seam : {A : Type 0} (xs : List A) (y : A) (ys : List A) → slice_get (xs ++ y ∷ ys) (length xs) ≡ Some y
seam xs y ys =
    slice_get_read (xs ++ y ∷ ys) (length (xs ++ y ∷ ys)) (length xs) y refl (let s = length-append xs (y ∷ ys) in
    omega (arith, s)) (sym (get_or-append_seam xs y ys y))

-- the rows once it has ended
rows_left : (before : ℕ) (under : OpenLevels) (l : OpenLevel) (own : Own) (e : End) (τ : State) (w : List Touch) → LevelsFit before under
    → w ≡ logs_of (Push under l own)
    → leaving (rows_of (Push under l own)) (calls_so_far under) (slice_get (rows_of (Push under l own)) (calls_so_far under)) (side_of (length w) τ)
    (way_out e) (result_in e)
    ≡ rows_of (done under own.log (ended l own e τ))
rows_left before under l own e τ w f h =
    let row = opened_row under l in
    let rest = rows_at (below (spot_of under)) own.events in
    let at : calls_so_far under ≡ length (rows_of under) = sym (rows_length under) in
    let all = rows_length (Push under l own) in
    let last : length (rows_of (Push under l own)) - 1 ≡ calls_so_far under + length own.events = omega (arith, all) in
    let mark : length w ≡ length (logs_of under) + length own.log = ap length h ∙ length-append (logs_of under) own.log in
    ap (λ o. leaving (rows_of (Push under l own)) (calls_so_far under) o (side_of (length w) τ) (way_out e) (result_in e))
    (ap (slice_get (rows_of (Push under l own))) at ∙ seam (rows_of under) row rest)
    ∙ (λ i. slice_set (rows_of (Push under l own)) (at i) (record row {
      last = last i;
      exit = side_of (mark i) τ;
      way = way_out e;
      result = result_in e;
    }))
    ∙ set-append_seam (rows_of under) row rest (record row {
      last = calls_so_far under + length own.events;
      exit = side_of (length (logs_of under) + length own.log) τ;
      way = way_out e;
      result = result_in e;
    })
    ∙ sym (rows_done before under own.log (ended l own e τ) f
    ∙ ap (λ rs. rows_of under ++ rs) (rows_call (spot_of under) (ended_call l own e τ) own.events refl))

-- what is recorded once it has ended
pub recording_left : (before routines : ℕ) (under : OpenLevels) (l : OpenLevel) (own : Own) (e : End) (τ : State) (w : List Touch) → LevelsFit before under
    → w ≡ logs_of (Push under l own)
    → left (recording_at routines (Push under l own)) (side_of (length w) τ) (way_out e) (result_in e)
    ≡ recording_at routines (done under own.log (ended l own e τ))
recording_left before routines under l own e τ w f h = λ i. record {
  calls = rows_left before under l own e τ w f h i;
  open_calls = sym (numbers_done under own.log (ended l own e τ)) i;
  routines = routines;
}

pub fits_ended : (before : ℕ) (under : OpenLevels) (l : OpenLevel) (own : Own) (e : End) (τ : State) → LevelsFit before (Push under l own)
    → LevelsFit before (done under own.log (ended l own e τ))
fits_ended before under l own e τ f = fits_done before under own.log (ended l own e τ) f.2 (inside_call (ended_call l own e τ) own.events refl f.0)

-- ---- the innermost open call

pub record Top (outer : List Open) (o : Open) (ls : OpenLevels) : Type 0 where
  pub under : OpenLevels
  pub l : OpenLevel
  pub own : Own
  pub is : ls ≡ Push under l own
  pub opens : outer ≡ opens_of under
  pub one : o ≡ open_of l

pub top_of : (outer : List Open) (o : Open) (ls : OpenLevels) → o ∷ outer ≡ opens_of ls → Top outer o ls
top_of outer o (Bottom own) e = absurd (let z : ⊥ = cc in z)
top_of outer o (Push under l own) e = record {
  under = under;
  l = l;
  own = own;
  is = refl;
  opens = let x : outer ≡ opens_of under = cc in x;
  one = let x : o ≡ open_of l = cc in x;
}

pub lengths_same : (ls : OpenLevels) → length (numbers_of ls) ≡ length (opens_of ls)
lengths_same (Bottom own) = refl
lengths_same (Push under l own) = ap suc (lengths_same under)
