-- The work of a call done again from altered records of the calls that it makes, which differ from those of the run in
-- nothing that is needed: it goes on as in the run.
use Rattle.std.proofs.Common.{if◌then◌else◌, ◌&&◌, ◌++◌, ◌+◌, ◌-◌, ◌∙◌, ◌∷◌, ◌≡◌, [], ℕ, Bool, List, None, Option, Some, ap, append_assoc, arith, drop, false}
use Rattle.std.proofs.Common.{is_some, length, map, nat_eq, nat_lt, refl, subst, suc, sym, true}
use Rattle.std.proofs.{Math.Seq.drop-append_seam, lemmas.Bool.Decides.nat_tests, lemmas.List.length-map, lemmas.List.map-append}
use Rattle.std.specs.FinMap.{get}
use Rattle.cell_value.specs.Effects.{change_at, changed_block, changes_of, given_of, is_shared, made_of, taken_of}
use Rattle.cell_value.specs.declared.{values.Value.Value, ways_out.WayOut.WayOut, ways_out.Which.Which, ways_out.Which.TheVariants.Stack}
use Rattle.cell_value.specs.declared.entries.{Change.Change, Change.TheVariants.Gone, Change.TheVariants.Set, Touch.Touch}
use Rattle.cell_value.specs.declared.ways_out.WayOut.TheVariants as way
use Rattle.core_program.proofs.{ActsLeave.MayEnter, ActsLeave.limits_hold, Cells.Map, Cells.block_dropped, Cells.changed_other, Cells.changed_shared}
use Rattle.core_program.proofs.{Effects.effect_is, Events.events_append, Events.events_length, Events.later_events, Events.unmarked, Touches.left_with}
use Rattle.core_program.proofs.BodiesRepeat.{IsCallEnd, args_self, call_returns, end_told, nat_self}
use Rattle.core_program.proofs.RunsLeave.{Inner, act_left, call_leaves, ran_leaves, sound_framed, sound_opened}
use Rattle.core_program.proofs.Ways.{Ran, RanCall, RanFrame, changed, ending, front, of_call}
use Rattle.core_program.proofs.Ways as ways
use Rattle.core_program.specs.{Blocks.cleared, Layer.layer, Numbering.each_from, Passed.args_at, Passed.cells_entered, ProgramRows.ProgramRows}
use Rattle.core_program.specs.{ProgramRows.routine_at, State.IsSound, State.State, Tree.ActTree, Tree.Out, Tree.way_of, declared.program.Routine.Routine}
use Rattle.core_program.specs.Acts.{Act, ActResult, Answer, Limited, OutOfSteps, Spend, limit_passed, perform, spent}
use Rattle.core_program.specs.Apply.{apply, changed_cells, steps_taken}
use Rattle.core_program.specs.Replay.{ChildOf, Event, LineOf, Replayed, Replaying, end_of, in_replaying, next_call, on_state, replay_of, replaying, same_args}
use Rattle.core_program.specs.Run.{Call, End, Ended, Halted, Marked, Result, after_all, at_work, call_closed, ends, frame_size, framed_run, if_allowed}
use Rattle.core_program.specs.Run.{in_front, joined, later_by, on_done, on_end, opened, record_of, way_out, whole, with_frame, without_frame}
use Rattle.output_slice.proofs.ActsAlike.{Alike, DoneSame, IsNeed, act_same, other}
use Rattle.output_slice.specs.{Outputs.changed_by, Pieces.OfChild, Pieces.Own, Pieces.Piece, Pieces.own}
use Rattle.output_slice.specs.Kept.{ACall, ALine, LikeChange, Told, told}

-- ---- the pieces and the events of a run

module _ {p : ProgramRows} where
  -- the pieces of a run, of which the first call has the number k
  abbrev pub pieces_in : {n : ℕ} {t : ActTree} {σ : State} {r : Result State Call} → Ran p n t σ r → (k : ℕ) → List Piece
  pieces_in ways.Returned k = []
  pieces_in ways.Stopped k = []
  pieces_in (ways.Refused {w = w} q) k = own w
  pieces_in (ways.Acted {w = w} q h) k = own w ++ pieces_in h k
  pieces_in (ways.PartStopped h e) k = pieces_in h k
  pieces_in (ways.PartEnded {r = y} h e g) k = pieces_in h k ++ pieces_in g (k + length y.events)
  pieces_in (ways.AtLimit q) k = []
  pieces_in (ways.CallStopped {e = e} {σ = σ} {y = y} q h d) k = OfChild k (record_of e.routine (args_at e σ.top) σ y) ∷ []
  pieces_in (ways.CallEnded {e = e} {σ = σ} {y = y} q h d g) k =
      OfChild k (record_of e.routine (args_at e σ.top) σ y) ∷ pieces_in g (k + length (of_call e.routine (args_at e σ.top) σ y).events)
  pieces_in (ways.NotBegun {w = w} q) k = own w
  pieces_in (ways.Began {w = w} q h) k = own w ++ pieces_in h k

  abbrev pub tells_in : {n : ℕ} {t : ActTree} {σ : State} {r : Result State Call} → Ran p n t σ r → (k : ℕ) → List Told
  tells_in ways.Returned k = []
  tells_in ways.Stopped k = []
  tells_in (ways.Refused q) k = []
  tells_in (ways.Acted q h) k = tells_in h k
  tells_in (ways.PartStopped h e) k = tells_in h k
  tells_in (ways.PartEnded {r = y} h e g) k = tells_in h k ++ tells_in g (k + length y.events)
  tells_in (ways.AtLimit q) k = []
  tells_in (ways.CallStopped q h e) k = ACall k ∷ []
  tells_in (ways.CallEnded {e = e} {σ = σ} {y = y} q h d g) k = ACall k ∷ tells_in g (k + length (of_call e.routine (args_at e σ.top) σ y).events)
  tells_in (ways.NotBegun q) k = []
  tells_in (ways.Began {line = line} q h) k = ALine line ∷ tells_in h k

  abbrev pub pieces_framed : {n f : ℕ} {args : List Value} {σ : State} {r : Result State Call} → RanFrame p n f args σ r → (k : ℕ) → List Piece
  pieces_framed (ways.Worked e t u h) k = pieces_in h k
  pieces_framed h k = []

  abbrev pub tells_framed : {n f : ℕ} {args : List Value} {σ : State} {r : Result State Call} → RanFrame p n f args σ r → (k : ℕ) → List Told
  tells_framed (ways.Worked e t u h) k = tells_in h k
  tells_framed h k = []

  abbrev pub pieces_called : {n f : ℕ} {args : List Value} {σ : State} {r : Result State Call} → RanCall p n f args σ r → (k : ℕ) → List Piece
  pieces_called (ways.Closed c h) k = pieces_framed h k

  abbrev pub tells_called : {n f : ℕ} {args : List Value} {σ : State} {r : Result State Call} → RanCall p n f args σ r → (k : ℕ) → List Told
  tells_called (ways.Closed c h) k = tells_framed h k

-- ---- lists

each_append : {A B : Type 0} (f : ℕ → A → B) (k : ℕ) (xs ys : List A) → each_from f k (xs ++ ys) ≡ each_from f k xs ++ each_from f (k + length xs) ys
each_append f k [] ys = ap (λ n. each_from f n ys) (let e : k ≡ k + 0 = omega arith in e)
each_append f k (x ∷ xs) ys = ap (λ l. f k x ∷ l) (each_append f (suc k) xs ys
    ∙ ap (λ n. each_from f (suc k) xs ++ each_from f n ys) (let e : suc k + length xs ≡ k + suc (length xs) = omega arith in e))

pub each_length : {A B : Type 0} (f : ℕ → A → B) (k : ℕ) (xs : List A) → length (each_from f k xs) ≡ length xs
each_length f k [] = refl
each_length f k (x ∷ xs) = ap suc (each_length f (suc k) xs)

abbrev pub tell : List (Marked Event) → List Told
tell es = map (λ e. told e.event) es

tell_later : (n : ℕ) (es : List (Marked Event)) → tell (later_by n es) ≡ tell es
tell_later n [] = refl
tell_later n (e ∷ es) = ap (λ l. told e.event ∷ l) (tell_later n es)

tell_append : (n : ℕ) (ds es : List (Marked Event)) → tell (ds ++ later_by n es) ≡ tell ds ++ tell es
tell_append n ds es = map-append (λ e. told e.event) ds (later_by n es) ∙ ap (λ l. tell ds ++ l) (tell_later n es)

abbrev pub at : State → ℕ → List Call → Replaying
at σ n cs = record { state = σ; number = n; calls = cs }

-- this holds of each event
abbrev pub Each : (Event → Type 0) → List (Marked Event) → Type 0
Each P [] = Unit {0}
Each P (e ∷ es) = P e.event × Each P es

each_later : (P : Event → Type 0) (n : ℕ) (ds es : List (Marked Event)) → Each P ds → Each P es → Each P (ds ++ later_by n es)
each_later P n [] [] h g = tt
each_later P n [] (e ∷ es) h g = (g.0, each_later P n [] es tt g.1)
each_later P n (d ∷ ds) es h g = (h.0, each_later P n ds es h.1 g)

module _ (needed : ℕ → List Piece → Bool) (is_need : IsNeed needed) (all : Bool) (alter : ℕ → Call → Call) (P : Event → Type 0)
    (lines : (line : ℕ) → P (LineOf line)) where
  -- the record of a call is altered in nothing that is needed of the pieces after it
  pub record Fits (n : ℕ) (c : Call) (u : List Piece) : Type 0 where
    pub routine : (alter n c).routine ≡ c.routine
    pub args : (alter n c).args ≡ c.args
    pub base : (alter n c).base ≡ c.base
    pub way : (alter n c).way ≡ c.way
    pub result : (alter n c).result ≡ c.result
    pub below : (alter n c).below ≡ c.below
    pub steps : steps_taken (alter n c) ≡ steps_taken c
    pub made : made_of (alter n c).log ≡ made_of c.log
    pub taken : taken_of (alter n c).log ≡ taken_of c.log
    pub cells : (a : ℕ) → LikeChange (changed_by c a) (changed_by (alter n c) a)
    pub needed_cells : (a : ℕ) → needed a u ≡ true → changed_by (alter n c) a ≡ changed_by c a
    pub bytes : all ≡ true → given_of (alter n c).log ≡ given_of c.log
    -- what holds of the call where it is met
    pub event : (m : Map) (o : List ℕ) → Alike needed (OfChild n c ∷ u) c.entry.cells m → P (ChildOf n (other m o c.entry))

  abbrev pub Fit : List Piece → List Piece → Type 0
  Fit [] u = Unit {0}
  Fit (Own t ∷ ps) u = Fit ps u
  Fit (OfChild n c ∷ ps) u = Fits n c (ps ++ u) × Fit ps u

  fit_own : (w : List Touch) (ps u : List Piece) → Fit (own w ++ ps) u → Fit ps u
  fit_own [] ps u h = h
  fit_own (t ∷ w) ps u h = fit_own w ps u h

  fit_left : (ps qs u : List Piece) → Fit (ps ++ qs) u → Fit ps (qs ++ u)
  fit_left [] qs u h = tt
  fit_left (Own t ∷ ps) qs u h = fit_left ps qs u h
  fit_left (OfChild n c ∷ ps) qs u h = (subst (Fits n c) (append_assoc ps qs u) h.0, fit_left ps qs u h.1)

  fit_right : (ps qs u : List Piece) → Fit (ps ++ qs) u → Fit qs u
  fit_right [] qs u h = h
  fit_right (Own t ∷ ps) qs u h = fit_right ps qs u h
  fit_right (OfChild n c ∷ ps) qs u h = fit_right ps qs u h.1

  -- ---- a call's effect

  pub cell_after : (c : Call) (m : Map) (a : ℕ) → get (changed_cells (changes_of c.base c.log) m) a ≡ left_with (changed_by c a) (get m a)
  cell_after c m a = by (is_shared c.base a) refl
    where
      by : (b : Bool) → is_shared c.base a ≡ b → get (changed_cells (changes_of c.base c.log) m) a
          ≡ left_with (if is_shared c.base a then change_at a c.log else None) (get m a)
      by true e = changed_shared c.base c.log m a e ∙ ap (λ b. left_with (if b then change_at a c.log else None) (get m a)) (sym e)
      by false e = changed_other c.base c.log m a e ∙ ap (λ b. left_with (if b then change_at a c.log else None) (get m a)) (sym e)

  like_there : (x y : Option Change) (v w : Option Value) → LikeChange x y → is_some v ≡ is_some w → is_some (left_with x v) ≡ is_some (left_with y w)
  like_there None None v w l e = e
  like_there (Some (Set a)) (Some (Set b)) v w l e = refl
  like_there (Some Gone) (Some Gone) v w l e = refl
  like_there None (Some d) v w l e = absurd l
  like_there (Some (Set a)) None v w l e = absurd l
  like_there (Some (Set a)) (Some Gone) v w l e = absurd l
  like_there (Some Gone) None v w l e = absurd l
  like_there (Some Gone) (Some (Set b)) v w l e = absurd l

  some_left : (c : Change) (x y : Option Value) → left_with (Some c) x ≡ left_with (Some c) y
  some_left (Set v) x y = refl
  some_left Gone x y = refl

  after_child : (n : ℕ) (c : Call) (u : List Piece) (m k : Map) → Fits n c u → Alike needed (OfChild n c ∷ u) m k
      → Alike needed u (changed_cells (changes_of c.base c.log) m) (changed_cells (changes_of (alter n c).base (alter n c).log) k)
  after_child n c u m k f h = record {
    there = λ a. ap is_some (cell_after c m a) ∙ like_there (changed_by c a) (changed_by (alter n c) a) (get m a) (get k a) (f.cells a) (h.there a)
        ∙ ap is_some (sym (cell_after (alter n c) k a));
    same = λ a e. cell_after c m a ∙ by a e (changed_by c a) refl ∙ ap (λ x. left_with x (get k a)) (sym (f.needed_cells a e))
        ∙ sym (cell_after (alter n c) k a);
  }
    where
      by : (a : ℕ) → needed a u ≡ true → (x : Option Change) → changed_by c a ≡ x
          → left_with (changed_by c a) (get m a) ≡ left_with (changed_by c a) (get k a)
      by a e None q = ap (λ x. left_with x (get m a)) q ∙ h.same a (is_need.child a n c u (ap is_some q) e)
          ∙ ap (λ x. left_with x (get k a)) (sym q)
      by a e (Some d) q = ap (λ x. left_with x (get m a)) q ∙ some_left d (get m a) (get k a) ∙ ap (λ x. left_with x (get k a)) (sym q)

  applied_is : (n : ℕ) (c : Call) (u : List Piece) (m : Map) (o : List ℕ) (σ : State) → Fits n c u
      → apply (alter n c) (other m o σ)
      ≡ other (changed_cells (changes_of (alter n c).base (alter n c).log) m) (o ++ given_of (alter n c).log) (apply c σ)
  applied_is n c u m o σ f = λ i. record {
    cells = changed_cells (changes_of (alter n c).base (alter n c).log) m;
    top = σ.top;
    fresh = σ.fresh + f.made i;
    items = σ.items;
    place = σ.place + f.taken i;
    output = o ++ given_of (alter n c).log;
    steps = σ.steps - f.steps i;
    calls = σ.calls + (f.below i + 1);
    depth = σ.depth;
  }

  -- ---- the work again

  -- The work again ends as the run did, and leaves what the run left, but for cells that are not needed in what is to
  -- come, and the output.
  pub record Redone (k : ℕ) (r : Result State Call) (u : List Piece) (ts : List Told) (out o : List ℕ) (cs : List Call) (x : Replayed) : Type 0 where
    pub run : Result Replaying Event
    pub is : x ≡ Some run
    pub end : run.end ≡ r.end
    pub cells : Map
    pub output : List ℕ
    pub after : run.after ≡ at (other cells output r.after) (k + length r.events) cs
    pub alike : Alike needed u r.after.cells cells
    pub bytes : all ≡ true → out ≡ o → r.after.output ≡ output
    pub events : tell run.events ≡ ts
    pub each : Each P run.events

  same_number : {σ : State} {n k : ℕ} {cs : List Call} → n ≡ k → at σ n cs ≡ at σ k cs
  same_number {σ = σ} {cs = cs} e = ap (λ n. at σ n cs) e

  redone_at : {k : ℕ} {r : Result State Call} {u : List Piece} {ts : List Told} {out o : List ℕ} {cs : List Call} {x y : Replayed} → x ≡ y
      → Redone k r u ts out o cs y → Redone k r u ts out o cs x
  redone_at e b = record {
    run = b.run;
    is = e ∙ b.is;
    end = b.end;
    cells = b.cells;
    output = b.output;
    after = b.after;
    alike = b.alike;
    bytes = b.bytes;
    events = b.events;
    each = b.each;
  }

  ends_redone : (e : End) (σ : State) (m : Map) (o : List ℕ) (k : ℕ) (cs : List Call) (u : List Piece) → Alike needed u σ.cells m
      → Redone k (ending e σ) u [] σ.output o cs (ends e (at (other m o σ) k cs))
  ends_redone e σ m o k cs u h = record {
    run = record { end = e; after = at (other m o σ) k cs; log = []; events = [] };
    is = refl;
    end = refl;
    cells = m;
    output = o;
    after = same_number (omega arith);
    alike = h;
    bytes = λ a q. q;
    events = refl;
    each = tt;
  }

  -- what was before, and what followed
  front_redone : (w : List Touch) (es : List (Marked Call)) (w' : List Touch) (ds : List (Marked Event)) (ss : List Told) (n : ℕ) {r : Result State Call}
      {k : ℕ}
      {u : List Piece} {ts : List Told} {out o out' o' : List ℕ} {cs : List Call} {x y : Replayed} → n ≡ k + length es → tell ds ≡ ss → Each P ds
      → (all ≡ true → out ≡ o → out' ≡ o') → Redone n r u ts out' o' cs y → x ≡ in_front w' ds y
      → Redone k (front w es r) u (ss ++ ts) out o cs x
  front_redone w es w' ds ss n {r = r} {ts = ts} j s d l b q = record {
    run = front w' ds b.run;
    is = q ∙ ap (in_front w' ds) b.is;
    end = b.end;
    cells = b.cells;
    output = b.output;
    after = b.after ∙ same_number (omega (arith, j, events_length (length w) es r.events));
    alike = b.alike;
    bytes = λ a e. b.bytes a (l a e);
    events = tell_append (length w') ds b.run.events ∙ ap (λ l. l ++ tell b.run.events) s ∙ ap (λ l. ss ++ l) b.events;
    each = each_later P (length w') ds b.run.events d b.each;
  }

  stopped_redone : {y : Result State Call} {k : ℕ} {u : List Piece} {ts : List Told} {out o : List ℕ} {cs : List Call} {x : Replayed} {way : WayOut}
      (g : Out → Replaying → Replayed) → Redone k y u ts out o cs x → y.end ≡ Halted way → Redone k y u ts out o cs (joined x g)
  stopped_redone g a e = record {
    run = a.run;
    is = ap (λ x. joined x g) a.is ∙ ap (λ d. on_end d a.run g) (a.end ∙ e);
    end = a.end;
    cells = a.cells;
    output = a.output;
    after = a.after;
    alike = a.alike;
    bytes = a.bytes;
    events = a.events;
    each = a.each;
  }

  ended_redone : {y z : Result State Call} {k : ℕ} {v u : List Piece} {ts ss : List Told} {out o : List ℕ} {cs ds : List Call} {x : Replayed} {end : Out}
      (g : Out → Replaying → Replayed) (a : Redone k y v ts out o ds x) → y.end ≡ Ended end
      → Redone (k + length y.events) z u ss y.after.output a.output cs (g end (at (other a.cells a.output y.after) (k + length y.events) ds))
      → Redone k (front y.log y.events z) u (ts ++ ss) out o cs (joined x g)
  ended_redone {y = y} {k = k} {ts = ts} {end = end} g a e b = front_redone y.log y.events a.run.log a.run.events ts (k + length y.events) refl a.events a.each
      a.bytes b
      (ap (λ x. joined x g) a.is ∙ ap (λ d. on_end d a.run g) (a.end ∙ e) ∙ ap (λ s. in_front a.run.log a.run.events (g end s)) a.after)

  -- the altered record is met in place of the call
  met_redone : (f : ℕ) (args : List Value) (σ : State) (y : Result State Call) (k : ℕ) (m : Map) (o : List ℕ) (cs : List Call) (u : List Piece)
      → IsSound σ → Inner σ y → IsCallEnd y.end → Fits k (record_of f args σ y) u → Alike needed (OfChild k (record_of f args σ y) ∷ u) σ.cells m
      → Redone k (of_call f args σ y) u (ACall k ∷ []) σ.output o cs
      (next_call f args (other m o σ) k (each_from alter k (unmarked (of_call f args σ y).events) ++ cs))
  met_redone f args σ y k m o cs u s h l fit g = record {
    run = met;
    is = ap (λ b. if b && same_args d.args args then Some met else None) (ap (λ q. nat_eq q f) fit.routine ∙ nat_self f)
        ∙ ap (λ b. if b then Some met else None) (ap (λ q. same_args q args) fit.args ∙ args_self args);
    end = ap (λ w. end_of w d.result) fit.way ∙ ap (end_of (way_out y.end)) fit.result ∙ end_told y.end l h.proper;
    cells = changed_cells (changes_of d.base d.log) m;
    output = o ++ given_of d.log;
    after = λ i. record { state = state i; number = number i; calls = rest i };
    alike = subst (λ τ. Alike needed u τ.cells (changed_cells (changes_of d.base d.log) m)) effect (after_child k c u σ.cells m fit g);
    bytes = λ a e. sym (ap (λ τ. τ.output) effect) ∙ ap (λ l. l ++ given_of y.log) e ∙ ap (λ l. o ++ l) (sym (fit.bytes a));
    events = refl;
    each = (fit.event m o g, tt);
  }
    where
      c : Call
      c = record_of f args σ y

      d : Call
      d = alter k c

      met : Result Replaying Event
      met = record {
        end = end_of d.way d.result;
        after = at (apply d (other m o σ)) (k + (d.below + 1)) (drop d.below (each_from alter (suc k) (unmarked y.events) ++ cs));
        log = [];
        events = (record { mark = 0; event = ChildOf k (other m o σ) }) ∷ [];
      }

      effect : apply c σ ≡ y.after
      effect = effect_is c σ y.after y.log (suc (length y.events)) s h.leaves (record {
        base = refl;
        from = 0;
        to = 0;
        log = refl;
        steps = omega (arith, h.leaves.steps);
        calls = omega arith;
      })

      state : apply d (other m o σ) ≡ other (changed_cells (changes_of d.base d.log) m) (o ++ given_of d.log) y.after
      state = applied_is k c u m o σ fit ∙ ap (other (changed_cells (changes_of d.base d.log) m) (o ++ given_of d.log)) effect

      number : k + (d.below + 1) ≡ k + suc (length y.events)
      number = omega (arith, fit.below)

      rest : drop d.below (each_from alter (suc k) (unmarked y.events) ++ cs) ≡ cs
      rest = ap (λ n. drop n (each_from alter (suc k) (unmarked y.events) ++ cs))
          (fit.below ∙ sym (length-map y.events (λ e. e.event)) ∙ sym (each_length alter (suc k) (unmarked y.events)))
          ∙ drop-append_seam (each_from alter (suc k) (unmarked y.events)) cs

  -- the calls of a part, and those of what follows it
  calls_after : (w : List Touch) (es : List (Marked Call)) (r : Result State Call) (k : ℕ) (cs : List Call)
      → each_from alter k (unmarked (front w es r).events) ++ cs
      ≡ each_from alter k (unmarked es) ++ (each_from alter (k + length es) (unmarked r.events) ++ cs)
  calls_after w es r k cs = ap (λ l. each_from alter k l ++ cs) (events_append (length w) es r.events)
      ∙ ap (λ l. l ++ cs) (each_append alter k (unmarked es) (unmarked r.events)
      ∙ ap (λ n. each_from alter k (unmarked es) ++ each_from alter (k + n) (unmarked r.events)) (length-map es (λ e. e.event)))
      ∙ append_assoc (each_from alter k (unmarked es)) (each_from alter (k + length es) (unmarked r.events)) cs

  calls_front : (w : List Touch) (r : Result State Call) (k : ℕ) (cs : List Call)
      → each_from alter k (unmarked (front w [] r).events) ++ cs ≡ each_from alter k (unmarked r.events) ++ cs
  calls_front w r k cs = ap (λ l. each_from alter k l ++ cs) (later_events (length w) r.events)

  -- what an act did is done again
  act_done : (act : Act) (σ : State) {d : ActResult (Answer act)} (m : Map) (o : List ℕ) (u : List Piece) → perform act σ ≡ d
      → DoneSame needed d (perform act (other m o σ)) σ m o u
  act_done act σ m o u q = subst (λ d. DoneSame needed d (perform act (other m o σ)) σ m o u) q (act_same needed is_need act σ m o u)

  module _ (p : ProgramRows) where
    abbrev next_of : ℕ → (Out → ActTree) → Out → Replaying → Replayed
    next_of n next out s = replay_of p (suc n) (next out) s

    abbrev entered : ℕ → ℕ → List Value → (Out → ActTree) → Option Which → Replaying → Replayed
    entered n f args next o s = if_allowed o s (joined (next_call f args s.state s.number s.calls) (next_of n next))

    pub ran_redone : {n : ℕ} {t : ActTree} {σ : State} {r : Result State Call} → (h : Ran p n t σ r) → IsSound σ
        → (k : ℕ) (m : Map) (o : List ℕ) (cs : List Call)
        (u : List Piece) → Alike needed (pieces_in h k ++ u) σ.cells m → Fit (pieces_in h k) u
        → Redone k r u (tells_in h k) σ.output o cs (replay_of p n t (at (other m o σ) k (each_from alter k (unmarked r.events) ++ cs)))
    ran_redone (ways.Returned {out = out} {σ = σ}) s k m o cs u g f = ends_redone (Ended out) σ m o k cs u g
    ran_redone (ways.Stopped {line = line} {why = why} {σ = σ}) s k m o cs u g f = ends_redone (Halted (way_of line why)) σ m o k cs u g
    ran_redone (ways.Refused {n = n} {line = line} {act = act} {next = next} {σ = σ} {why = why} {w = w} {τ = τ} q) s k m o cs u g f =
        let a = act_done act σ m o u q g in
        front_redone w [] w [] [] k (omega arith) refl tt (λ _ e. a.bytes e)
        (ends_redone (Halted (way_of line why)) τ a.cells a.output k cs u a.alike)
        (ap (λ d. on_done replaying line (at (other m o σ) k cs) d (λ x τ. replay_of p (suc n) (next x) τ)) a.is)
    ran_redone (ways.Acted {n = n} {line = line} {act = act} {next = next} {σ = σ} {x = x} {w = w} {τ = τ} {r = y} q h) s k m o cs u g f =
        let a = act_done act σ m o (pieces_in h k ++ u) q (subst (λ l. Alike needed l σ.cells m) (append_assoc (own w) (pieces_in h k) u) g) in
        front_redone w [] w [] [] k {ts = tells_in h k} (omega arith) refl tt (λ _ e. a.bytes e)
        (ran_redone h (act_left act s q).sound k a.cells a.output cs u a.alike (fit_own w (pieces_in h k) u f))
        (ap (λ d. on_done replaying line (at (other m o σ) k (each_from alter k (unmarked (front w [] y).events) ++ cs)) d
        (λ x τ. replay_of p (suc n) (next x) τ)) a.is
        ∙ ap (λ l. in_front w [] (replay_of p (suc n) (next x) (at (other a.cells a.output τ) k l))) (calls_front w y k cs))
    ran_redone (ways.PartStopped {n = n} {next = next} h e) s k m o cs u g f = stopped_redone (next_of n next) (ran_redone h s k m o cs u g f) e
    ran_redone (ways.PartEnded {n = n} {part = part} {next = next} {σ = σ} {r = y} {s = z} h e i) s k m o cs u g f =
        let ps = pieces_in h k in
        let qs = pieces_in i (k + length y.events) in
        let a = ran_redone h s k m o (each_from alter (k + length y.events) (unmarked z.events) ++ cs) (qs ++ u)
        (subst (λ l. Alike needed l σ.cells m) (append_assoc ps qs u) g) (fit_left ps qs u f) in
        redone_at (ap (λ l. joined (replay_of p n (layer p part) (at (other m o σ) k l)) (next_of n next)) (calls_after y.log y.events z k cs))
        (ended_redone (next_of n next) a e
        (ran_redone i (ran_leaves p h s).leaves.sound (k + length y.events) a.cells a.output cs u a.alike (fit_right ps qs u f)))
    ran_redone (ways.AtLimit {n = n} {e = c} {next = next} {σ = σ} {which = which} e) s k m o cs u g f =
        redone_at (ap (λ b. entered n c.routine (args_at c σ.top) next b (at (other m o σ) k cs)) e) (ends_redone (Halted (way.Limited which)) σ m o k cs u g)
    ran_redone (ways.CallStopped {n = n} {e = c} {next = next} {σ = σ} {y = y} l h e) s k m o cs u g f =
        let q = c.routine in
        let args = args_at c σ.top in
        redone_at (ap (λ b. entered n q args next b (at (other m o σ) k (each_from alter k (unmarked (of_call q args σ y).events) ++ cs))) l)
        (stopped_redone (next_of n next)
        (met_redone q args σ y k m o cs u s (call_leaves p h s (limits_hold σ (cells_entered c) l)) (call_returns p h) f.0 g) e)
    ran_redone (ways.CallEnded {n = n} {e = c} {next = next} {σ = σ} {y = y} {s = z} l h e i) s k m o cs u g f =
        let q = c.routine in
        let args = args_at c σ.top in
        let inner = call_leaves p h s (limits_hold σ (cells_entered c) l) in
        let number = k + length (of_call q args σ y).events in
        let qs = pieces_in i number in
        let ds = each_from alter number (unmarked z.events) ++ cs in
        let a = met_redone q args σ y k m o ds (qs ++ u) s inner (call_returns p h) f.0 g in
        redone_at (ap (λ l. entered n q args next (limit_passed σ (cells_entered c)) (at (other m o σ) k l))
        (calls_after y.log (of_call q args σ y).events z k cs)
        ∙ ap (λ b. entered n q args next b (at (other m o σ) k (each_from alter k (unmarked (of_call q args σ y).events) ++ ds))) l)
        (ended_redone (next_of n next) a e (ran_redone i inner.leaves.sound number a.cells a.output cs u a.alike f.1))
    ran_redone (ways.NotBegun {n = n} {line = line} {next = next} {σ = σ} {why = why} {w = w} {τ = τ} q) s k m o cs u g f =
        let a = act_done (Spend 1) σ m o u q g in
        front_redone w [] w [] [] k (omega arith) refl tt (λ _ e. a.bytes e)
        (ends_redone (Halted (way_of line why)) τ a.cells a.output k cs u a.alike)
        (ap (λ d. on_done replaying line (at (other m o σ) k cs) d (λ x τ. in_front [] (replaying.line line) (replay_of p (suc n) next τ))) a.is)
    ran_redone (ways.Began {n = n} {line = line} {next = next} {σ = σ} {w = w} {τ = τ} {r = y} q h) s k m o cs u g f =
        let a = act_done (Spend 1) σ m o (pieces_in h k ++ u) q (subst (λ l. Alike needed l σ.cells m) (append_assoc (own w) (pieces_in h k) u) g) in
        front_redone w [] w [] [] k {ts = ALine line ∷ tells_in h k} (omega arith) refl tt (λ _ e. a.bytes e)
        (front_redone [] [] [] (replaying.line line) (ALine line ∷ []) k {ts = tells_in h k} (omega arith) refl (lines line, tt) (λ _ e. e)
        (ran_redone h (act_left (Spend 1) s q).sound k a.cells a.output cs u a.alike (fit_own w (pieces_in h k) u f))
        (ap (λ l. in_front [] (replaying.line line) (replay_of p (suc n) next (at (other a.cells a.output τ) k l))) (calls_front [] y k cs)))
        (ap (λ d. on_done replaying line (at (other m o σ) k (each_from alter k (unmarked (front w [] (front [] [] y)).events) ++ cs)) d
        (λ x τ. in_front [] (replaying.line line) (replay_of p (suc n) next τ))) a.is
        ∙ ap (λ l. in_front w [] (in_front [] (replaying.line line) (replay_of p (suc n) next (at (other a.cells a.output τ) k l))))
        (calls_front w (front [] [] y) k cs))

    -- ---- a whole call

    -- The work comes to the run's end, with these events; and leaves the cells and the output that are wanted.
    pub record Finished (r : Result State Call) (ts : List Told) (x : Replayed) : Type 0 where
      pub run : Result Replaying Event
      pub is : x ≡ Some run
      pub end : run.end ≡ r.end
      pub cell : (a : ℕ) → needed a [] ≡ true → get run.after.state.cells a ≡ get r.after.cells a
      pub bytes : all ≡ true → run.after.state.output ≡ r.after.output
      pub events : tell run.events ≡ ts
      pub each : Each P run.events

    finished_ending : (e : End) (σ : State) (k : ℕ) (cs : List Call) → Finished (ending e σ) [] (ends e (at σ k cs))
    finished_ending e σ k cs = record {
      run = record { end = e; after = at σ k cs; log = []; events = [] };
      is = refl;
      end = refl;
      cell = λ a g. refl;
      bytes = λ a. refl;
      events = refl;
      each = tt;
    }

    finished_at : {r : Result State Call} {ts : List Told} {x y : Replayed} → x ≡ y → Finished r ts y → Finished r ts x
    finished_at e b = record { run = b.run; is = e ∙ b.is; end = b.end; cell = b.cell; bytes = b.bytes; events = b.events; each = b.each }

    abbrev framed_again : ℕ → ℕ → List Value → Replaying → Option Routine → Replayed
    framed_again n f args s o = framed_run in_replaying (at_work p (replay_of p n) f) args s o

    abbrev choice : ℕ → ℕ → List Value → Routine → Replaying → Bool → Bool → Replayed
    choice n f args q s a b =
        if a then ends (Halted (way_of 0 (Limited Stack))) s
        else if b then ends (Halted (way_of 0 OutOfSteps)) (on_state spent s)
        else after_all (on_state (without_frame s.state.top (frame_size q args))) (replay_of p n (whole p f s.state.top q) (on_state (with_frame q args) s))

    abbrev chosen : ℕ → ℕ → List Value → Routine → Replaying → Bool → Replayed
    chosen n f args q s a = choice n f args q s a (nat_lt s.state.steps (frame_size q args))

    unframed : {y : Result State Call} {k : ℕ} {ts : List Told} {x : Replayed} (base : ℕ) (n : ℕ) (cs : List Call) (out : List ℕ)
        → Redone k y [] ts out out cs x
        → Finished (changed (without_frame base n) y) ts (after_all (on_state (without_frame base n)) x)
    unframed {y = y} base n cs out a = record {
      run = changed (on_state (without_frame base n)) a.run;
      is = ap (after_all (on_state (without_frame base n))) a.is;
      end = a.end;
      cell = λ x g. ap (λ s. get (cleared base n s.state.cells) x) a.after ∙ block_dropped base n a.cells x
          ∙ ap (left_with (changed_block base (base + n) Gone x)) (sym (a.alike.same x g)) ∙ sym (block_dropped base n y.after.cells x);
      bytes = λ e. ap (λ s. s.state.output) a.after ∙ sym (a.bytes e refl);
      events = a.events;
      each = a.each;
    }

    frame_finished : {n f : ℕ} {args : List Value} {σ : State} {r : Result State Call} → (h : RanFrame p n f args σ r) → IsSound σ → (k : ℕ) (cs : List Call)
        → Fit (pieces_framed h k) []
        → Finished r (tells_framed h k) (framed_again n f args (at σ k (each_from alter k (unmarked r.events) ++ cs)) (routine_at p f))
    frame_finished (ways.NoRoom {n = n} {f = f} {args = args} {σ = σ} {q = q} e t) s k cs i =
        finished_at (ap (framed_again n f args (at σ k cs)) e ∙ ap (chosen n f args q (at σ k cs)) t)
        (finished_ending (Halted (way_of 0 (Limited Stack))) σ k cs)
    frame_finished (ways.NoSteps {n = n} {f = f} {args = args} {σ = σ} {q = q} e t u) s k cs i =
        finished_at (ap (framed_again n f args (at σ k cs)) e ∙ ap (chosen n f args q (at σ k cs)) t ∙ ap (choice n f args q (at σ k cs) false) u)
        (finished_ending (Halted (way_of 0 OutOfSteps)) (spent σ) k cs)
    frame_finished (ways.Worked {n = n} {f = f} {args = args} {σ = σ} {q = q} {y = y} e t u h) s k cs i =
        let framed = with_frame q args σ in
        let calls = each_from alter k (unmarked y.events) ++ cs in
        finished_at (ap (framed_again n f args (at σ k calls)) e ∙ ap (chosen n f args q (at σ k calls)) t ∙ ap (choice n f args q (at σ k calls) false) u)
        (unframed σ.top (frame_size q args) cs σ.output (ran_redone h (sound_framed q args σ s (grind (arith, nat_tests))) k framed.cells framed.output cs []
        (record { there = λ a. refl; same = λ a g. refl }) i))

    pub call_finished : {n f : ℕ} {args : List Value} {σ : State} {r : Result State Call} → (h : RanCall p n f args σ r) → IsSound σ → MayEnter σ → (k : ℕ)
        (cs : List Call) → Fit (pieces_called h k) []
        → Finished r (tells_called h k)
        (after_all (on_state (call_closed σ.depth)) (framed_again n f args (at (opened σ) k (each_from alter k (unmarked r.events) ++ cs)) (routine_at p f)))
    call_finished (ways.Closed {σ = σ} c h) s l k cs i =
        let a = frame_finished h (sound_opened σ s l) k cs i in
        record {
          run = changed (on_state (call_closed σ.depth)) a.run;
          is = ap (after_all (on_state (call_closed σ.depth))) a.is;
          end = a.end;
          cell = a.cell;
          bytes = a.bytes;
          events = a.events;
          each = a.each;
        }
