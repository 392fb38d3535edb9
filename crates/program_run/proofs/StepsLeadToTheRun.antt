-- How the open calls change, from stop to stop.
use Rattle.std.proofs.Common.{◌++◌, ◌+◌, ◌-◌, ◌∙◌, ◌∷◌, ◌≡◌, [], ℕ, List, None, Some, ap, append-nil, arith, length, refl, subst, suc, sym}
use Rattle.cell_value.specs.declared.{entries.Touch.Touch, values.Value.Value}
use Rattle.core_program.proofs.MoreDepthSameResult.{Less, joined_less, less_same, plain_grows, run_less}
use Rattle.core_program.proofs.OutcomesCompose.{front_nothing, less_is, less_then}
use Rattle.core_program.specs.{ProgramRows.ProgramRows, Run.way_out, Run.without_frame, State.State, Tree.ActTree, Tree.Out, Tree.Ret}
use Rattle.core_program.specs.Run.{Call, End, Outcome, Result, after_all, call_closed, call_of, ends, in_front, joined, plain, recorded, result_in, run_of}
use Rattle.call_tree.specs.Recording.{Recording, entered, left, new_call, nothing_entered}
use Rattle.eval_ops.specs.Machines.{Moment}
use Rattle.evaluator.specs.Stops.{AtCall, AtEnd, AtLine, NextStopIs, Stop}
use Rattle.program_run.proofs.{ActsKeepCalls.onward, RowsInParts.rows_whole, StopsLeadOn.IsLens, StopsLeadOn.finish, StopsLeadOn.runs}
use Rattle.program_run.proofs.OpenCalls.{Top, call_ends, done, ended, fits_ended, fits_more, front_some, lengths_same, logs_done, more, more_comm, numbers_done}
use Rattle.program_run.proofs.OpenCalls.{opens_done, recording_left, rows_done, rows_length, run_more, size_done, top_of, whole_done, whole_more, whole_some}
use Rattle.program_run.specs.Table.{side_of}
use Rattle.program_run.specs.Tower.{Activation, Bottom, CallBegins, Calls, Ends, First, IsOver, Leads, LevelsFit, Open, OpenLevel, OpenLevels, Push, Rests}
use Rattle.program_run.specs.Tower.{Stage, TowerAt, View, called, calls_so_far, first_call, followed, left_inside, logs_of, numbers_of, open_of, opens_of}
use Rattle.program_run.specs.Tower.{recording_at, rows_of, stage_after, stage_of, whole_from}

plain_lens : (p : ProgramRows) → IsLens (plain p)
plain_lens p = record { set_get = λ σ τ. refl; get_set = λ σ. refl; set_set = λ σ τ υ. refl }

same_end : (l w v : List Touch) → l ++ w ≡ l ++ v → w ≡ v
same_end [] w v e = e
same_end (x ∷ l) w v e = same_end l w v cc

leads_from : {p : ProgramRows} {first : First} {a b : ℕ → Outcome} → Leads p first a
    → ((n : ℕ) (r : Result State Call) → b n ≡ Some r → (k : ℕ) × (a k ≡ Some r)) → Leads p first b
leads_from f h = record { leads = λ n r e. let x = h n r e in f.leads x.0 r x.1 }

-- what is left at a stage, one level deeper
left_finish : (p : ProgramRows) (n : ℕ) (stop : Stop) (σ : State) → Less (left_inside p n (stage_of stop) σ) (finish (plain p) p (suc n) stop σ)
left_finish p n (AtLine line rest) σ = less_then (run_less (plain p) (plain_grows p) p n rest σ) (less_is (sym (front_nothing _)))
left_finish p n (AtCall f args rest) σ =
    joined_less _ _ _ _ (less_same (call_of p (run_of p n) f args σ)) (λ out τ. run_less (plain p) (plain_grows p) p n (rest out) τ)
left_finish p n (AtEnd end) σ = less_same _

same_rows : (before : ℕ) (ls : OpenLevels) (w : List Touch) → LevelsFit before ls → rows_of (done ls w []) ≡ rows_of ls
same_rows before ls w f = rows_done before ls w [] f ∙ append-nil (rows_of ls)

module _ {p : ProgramRows} {first : First} where
  -- on to the innermost body's next stop
  pub climb : (v : View) (t : ActTree) (stop : Stop) (m' : Moment) → TowerAt p first (Rests t) v → NextStopIs p t v.moment stop m'
      → TowerAt p first (stage_of stop) (record { opens = v.opens; moment = m'; recording = v.recording })
  climb v t stop m' h s =
      let ls = h.levels in
      let o = onward p s.moves t v.moment stop m' s.is in
      let w = o.log in
      record {
        levels = done ls w [];
        opens = h.opens ∙ sym (opens_done ls w []);
        fits = fits_more first.state.depth ls w h.fits;
        recording = h.recording ∙ (λ i. record {
          calls = sym (same_rows first.state.depth ls w h.fits) i;
          open_calls = sym (numbers_done ls w []) i;
          routines = length p.routines;
        });
        log = o.grown ∙ ap (λ l. l ++ w) h.log ∙ sym (logs_done ls w []);
        calls = let a = o.same.calls in let b = h.calls in let c = size_done ls w [] in omega (arith, a, b, c);
        depth = o.same.depth ∙ h.depth ∙ ap (λ ns. first.state.depth + length ns) (sym (numbers_done ls w []));
        items = o.same.items ∙ h.items;
        leads = leads_from h.leads (go ls w o.grown);
      }
    where
      go : (ls : OpenLevels) (w : List Touch) → m'.log ≡ v.moment.log ++ w → (n : ℕ) (r : Result State Call)
          → whole_from p n (done ls w []) (left_inside p n (stage_of stop) m'.state) ≡ Some r
          → (k : ℕ) × (whole_from p k ls (run_of p k t v.moment.state) ≡ Some r)
      go ls w grown n r e =
          let e1 = sym (whole_done p n ls w [] (left_inside p n (stage_of stop) m'.state)) ∙ e in
          let a = whole_some p n ls (in_front w [] (left_inside p n (stage_of stop) m'.state)) r e1 in
          let b = front_some w [] (left_inside p n (stage_of stop) m'.state) a.0 a.1 in
          let y = runs (plain p) (plain_grows p) (plain_lens p) p s.moves t v.moment.state v.moment.state v.moment.log (suc n) stop m' b.0 refl s.is
          ((left_finish p n stop m'.state).gives b.0 b.1) in
          let same : y.log ≡ w = same_end v.moment.log _ _ (sym y.grown ∙ grown) in (
            more (suc y.depth) n,
            (whole_more p (suc y.depth) n ls (in_front w [] (left_inside p n (stage_of stop) m'.state)) (run_of p (more (suc y.depth) n) t v.moment.state)
                (record {
                  gives = λ q c.
                      (subst (λ j. Less (run_of p (suc y.depth) t v.moment.state) (run_of p j t v.moment.state)) (more_comm n (suc y.depth))
                      (run_more p n (suc y.depth) t v.moment.state)).gives _ y.is
                      ∙ ap (λ u. in_front u [] (Some b.0)) same
                      ∙ ap (in_front w []) (sym b.1)
                      ∙ c;
                })).gives r e1,
          )

  -- a call is entered
  pub climb_enter : (v : View) (m' : Moment) (rest : Out → ActTree) (e : Activation)
      → TowerAt p first (Calls e.routine e.args rest) v → CallBegins p e v.moment m'
      → TowerAt p first e.stage (record {
        opens = (record { base = v.moment.state.top; cells = e.cells; rest = rest }) ∷ v.opens;
        moment = m';
        recording = entered v.recording e.routine e.args (side_of (length v.moment.log) v.moment.state);
      })
  climb_enter v m' rest e h b =
      let ls = h.levels in
      let σ = v.moment.state in
      let l : OpenLevel = record { routine = e.routine; args = e.args; entry = σ; cells = e.cells; rest = rest } in
      record {
        levels = Push ls l (record { log = []; events = [] });
        opens = ap (λ os. open_of l ∷ os) h.opens;
        fits = (record { inside = λ k x. absurd (omega arith) }, h.depth, h.fits);
        recording = ap (λ (r : Recording). entered r e.routine e.args (side_of (length v.moment.log) σ)) h.recording ∙ (λ i. record {
          calls = rows_of ls ++ new_call (rows_length ls i) (numbers_of ls) e.routine e.args (side_of (length (h.log i)) σ) ∷ [];
          open_calls = rows_length ls i ∷ numbers_of ls;
          routines = length p.routines;
        });
        log = b.log ∙ h.log ∙ sym (append-nil (logs_of ls));
        calls = let a = b.calls in let c = h.calls in omega (arith, a, c);
        depth = let a = b.depth in let c = h.depth in omega (arith, a, c);
        items = b.items ∙ h.items;
        leads = leads_from h.leads (λ n r is. (n, ap (whole_from p n ls) (enters n) ∙ is));
      }
    where
      enters : (n : ℕ) → followed p n rest (call_of p (run_of p n) e.routine e.args v.moment.state)
          ≡ followed p n rest (called (record { routine = e.routine; args = e.args; entry = v.moment.state; cells = e.cells; rest = rest })
          (in_front [] [] (left_inside p n e.stage m'.state)))
      enters n = ap (λ x. followed p n rest (recorded e.routine e.args v.moment.state (after_all (call_closed v.moment.state.depth) x)))
          (b.is n ∙ ap (after_all (without_frame v.moment.state.top e.cells)) (sym (front_nothing (left_inside p n e.stage m'.state))))

  -- a call ends
  pub climb_leave : (v : View) (m' : Moment) (outer : List Open) (o : Open) (depth : ℕ) (e : End) → TowerAt p first (Ends e) v
      → v.opens ≡ o ∷ outer
      → m'.state ≡ call_closed depth (without_frame o.base o.cells v.moment.state) → m'.log ≡ v.moment.log → depth ≡ v.moment.state.depth - 1
      → TowerAt p first (stage_after o.rest e) (record {
        opens = outer;
        moment = m';
        recording = left v.recording (side_of (length v.moment.log) m'.state) (way_out e) (result_in e);
      })
  climb_leave v m' outer o depth e h eo es el ed = go (top_of outer o h.levels (sym eo ∙ h.opens))
    where
      go : Top outer o h.levels → TowerAt p first (stage_after o.rest e) (record {
        opens = outer;
        moment = m';
        recording = left v.recording (side_of (length v.moment.log) m'.state) (way_out e) (result_in e);
      })
      go y =
          let under = y.under in
          let l = y.l in
          let own = y.own in
          let fits : LevelsFit first.state.depth (Push under l own) = subst (LevelsFit first.state.depth) y.is h.fits in
          let log : v.moment.log ≡ logs_of (Push under l own) = h.log ∙ ap logs_of y.is in
          let count : v.moment.state.calls ≡ first.state.calls + calls_so_far (Push under l own) =
          h.calls ∙ ap (λ ls. first.state.calls + calls_so_far ls) y.is in
          let high : v.moment.state.depth ≡ first.state.depth + length (numbers_of (Push under l own)) =
          h.depth ∙ ap (λ ls. first.state.depth + length (numbers_of ls)) y.is in
          let at : depth ≡ l.entry.depth = let f = fits.1 in omega (arith, ed, high, f) in
          let one = y.one in
          let σ : m'.state ≡ call_closed l.entry.depth (without_frame l.entry.top l.cells v.moment.state) = es
          ∙ (λ i. call_closed (at i) (without_frame (one i).base (one i).cells v.moment.state)) in
          let es' = ended l own e m'.state in
          record {
            levels = done under own.log es';
            opens = y.opens ∙ sym (opens_done under own.log es');
            fits = fits_ended first.state.depth under l own e m'.state fits;
            recording = ap (λ (r : Recording). left r (side_of (length v.moment.log) m'.state) (way_out e) (result_in e))
                (h.recording ∙ ap (recording_at (length p.routines)) y.is)
                ∙ recording_left first.state.depth (length p.routines) under l own e m'.state v.moment.log fits.2 log;
            log = el ∙ log ∙ sym (logs_done under own.log es');
            calls = ap (λ (τ : State). τ.calls) es ∙ (let c = size_done under own.log es' in omega (arith, count, c));
            depth = ap (λ (τ : State). τ.depth) es ∙ at ∙ fits.1
                ∙ ap (λ ns. first.state.depth + length ns) (sym (numbers_done under own.log es'));
            items = ap (λ (τ : State). τ.items) es ∙ h.items;
            leads = leads_from (subst (λ ls. Leads p first (λ n. whole_from p n ls (ends e v.moment.state))) y.is h.leads) (λ n r c. (
              n,
              ap (whole_from p n under) (call_ends p n l own e v.moment.state m'.state σ)
                  ∙ sym (whole_done p n under own.log es' (left_inside p n (stage_after l.rest e) m'.state))
                  ∙ ap (λ (q : Open). whole_from p n (done under own.log es') (left_inside p n (stage_after q.rest e) m'.state)) (sym one)
                  ∙ c,
            ));
          }

  -- no call is open
  pub over : (v : View) (stage : Stage) (e : End) → TowerAt p first stage v → v.opens ≡ []
      → ((n : ℕ) → left_inside p (suc n) stage v.moment.state ≡ ends e v.moment.state) → IsOver p first v.moment v.recording
  over v stage e h eo is = go h.levels h.opens h.recording h.log h.leads
    where
      go : (ls : OpenLevels) → v.opens ≡ opens_of ls → v.recording ≡ recording_at (length p.routines) ls → v.moment.log ≡ logs_of ls
          → Leads p first (λ n. whole_from p n ls (left_inside p n stage v.moment.state)) → IsOver p first v.moment v.recording
      go (Push under l own) x rec log f = absurd (let e : [] ≡ open_of l ∷ opens_of under = sym eo ∙ x in let z : ⊥ = cc in z)
      go (Bottom own) x rec log f =
          let r : Result State Call = record { end = e; after = v.moment.state; log = own.log; events = own.events } in
          let y = f.leads 1 r (ap (in_front own.log own.events) (is 0) ∙ (λ i. Some (record {
            end = e;
            after = v.moment.state;
            log = append-nil own.log i;
            events = append-nil own.events i;
          }))) in
          record {
            result = r;
            depth = y.0;
            is = y.1;
            after = refl;
            items = h.items;
            log = log;
            recording = rec ∙ (λ i. record { calls = rows_whole own.events i; open_calls = []; routines = length p.routines });
          }

-- no call is entered yet
pub at_first : (p : ProgramRows) (f : ℕ) (args : List Value) (σ : State) (m : Moment) → m.state ≡ σ → m.log ≡ []
    → TowerAt p (first_call f args σ) (Calls f args Ret) (record { opens = []; moment = m; recording = nothing_entered (length p.routines) })
at_first p f args σ m es el = record {
  levels = Bottom (record { log = []; events = [] });
  opens = refl;
  fits = record { inside = λ k x. absurd (omega arith) };
  recording = refl;
  log = el;
  calls = let e = ap (λ (τ : State). τ.calls) es in omega (arith, e);
  depth = let e = ap (λ (τ : State). τ.depth) es in omega (arith, e);
  items = ap (λ (τ : State). τ.items) es;
  leads = record {
    leads = λ n r e. (n, ap (left_inside p n (Calls f args Ret)) (sym es) ∙ sym (front_nothing _) ∙ e);
  };
}

-- what a tower says of what is recorded
module _ {p : ProgramRows} {first : First} {stage : Stage} {v : View} where
  pub open_same : TowerAt p first stage v → length v.recording.open_calls ≡ length v.opens
  open_same h = ap (λ (r : Recording). length r.open_calls) h.recording ∙ lengths_same h.levels ∙ ap length (sym h.opens)

  pub calls_same : TowerAt p first stage v → v.moment.state.calls ≡ first.state.calls + length v.recording.calls
  calls_same h = h.calls ∙ ap (λ n. first.state.calls + n) (sym (rows_length h.levels) ∙ sym (ap (λ (r : Recording). length r.calls) h.recording))

  pub routines_same : TowerAt p first stage v → v.recording.routines ≡ length p.routines
  routines_same h = ap (λ (r : Recording). r.routines) h.recording
