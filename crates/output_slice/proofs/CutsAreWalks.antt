-- A call's part of the log, cut where it made calls, has the pieces of its walk.
use Rattle.std.proofs.Common.{◌++◌, ◌+◌, ◌-◌, ◌∙◌, ◌∷◌, ◌≡◌, [], ℕ, List, ap, append-nil, append_assoc, arith, drop, length, length-append, refl, subst, suc}
use Rattle.std.proofs.{Common.sym, Common.take, Common.zero, Math.Seq.drop-append_seam, lemmas.List.length-map, lemmas.List.map-append}
use Rattle.cell_value.specs.declared.{entries.Touch.Touch, values.Value.Value}
use Rattle.core_program.proofs.{Events.events_length, OutcomesCompose.later_append, OutcomesCompose.later_none, OutcomesCompose.later_twice}
use Rattle.core_program.proofs.Ways.{Ran, RanCall, RanFrame, changed, ending, front, of_call}
use Rattle.core_program.proofs.Ways as ways
use Rattle.core_program.specs.{Passed.args_at, ProgramRows.ProgramRows, State.State, Tree.ActTree}
use Rattle.core_program.specs.Run.{Call, End, Marked, Result, later_by, record_of}
use Rattle.output_slice.proofs.WalksAlike.{pieces_called, pieces_framed, pieces_in}
use Rattle.output_slice.specs.Pieces.{OfChild, Own, Piece, cut, own}

-- the same marks, all later by as much
pub cut_later : (n at k s : ℕ) (log : List Touch) (es : List (Marked Call)) → cut (n + at) k s log (later_by n es) ≡ cut at k s log es
cut_later n at k s log [] = refl
cut_later n at k zero log (e ∷ es) =
    ap (λ d. own (take d log) ++ (OfChild k e.event ∷ cut ((n + e.mark) + length e.event.log) (suc k) e.event.below (drop (d + length e.event.log) log)
    (later_by n es))) (let q : (n + e.mark) - (n + at) ≡ e.mark - at = omega arith in q)
    ∙ ap (λ l. own (take (e.mark - at) log) ++ (OfChild k e.event ∷ l))
    (ap (λ m. cut m (suc k) e.event.below (drop ((e.mark - at) + length e.event.log) log) (later_by n es))
    (let q : (n + e.mark) + length e.event.log ≡ n + (e.mark + length e.event.log) = omega arith in q)
    ∙ cut_later n (e.mark + length e.event.log) (suc k) e.event.below (drop ((e.mark - at) + length e.event.log) log) es)
cut_later n at k (suc s) log (e ∷ es) = cut_later n at (suc k) s log es

take_past : {A : Type 0} (w l : List A) (n : ℕ) → take (length w + n) (w ++ l) ≡ w ++ take n l
take_past [] l n = ap (λ k. take k l) (let e : 0 + n ≡ n = omega arith in e)
take_past (x ∷ w) l n = ap (λ k. take k (x ∷ (w ++ l))) (let e : suc (length w) + n ≡ suc (length w + n) = omega arith in e)
    ∙ ap (λ r. x ∷ r) (take_past w l n)

drop_past : {A : Type 0} (w l : List A) (n : ℕ) → drop (length w + n) (w ++ l) ≡ drop n l
drop_past [] l n = ap (λ k. drop k l) (let e : 0 + n ≡ n = omega arith in e)
drop_past (x ∷ w) l n = ap (λ k. drop k (x ∷ (w ++ l))) (let e : suc (length w) + n ≡ suc (length w + n) = omega arith in e)
    ∙ drop_past w l n

own_append : (v w : List Touch) → own (v ++ w) ≡ own v ++ own w
own_append v w = map-append Own v w

-- touches before all calls
cut_front : (k : ℕ) (w log : List Touch) (es : List (Marked Call)) → cut 0 k 0 (w ++ log) (later_by (length w) es) ≡ own w ++ cut 0 k 0 log es
cut_front k w log [] = own_append w log
cut_front k w log (e ∷ es) =
    ap (λ d. own (take d (w ++ log)) ++ (OfChild k e.event ∷ cut ((n + e.mark) + long) (suc k) e.event.below (drop (d + long) (w ++ log)) (later_by n es)))
    (let q : (n + e.mark) - 0 ≡ n + e.mark = omega arith in q)
    ∙ ap (λ l. own l ++ rest (drop ((n + e.mark) + long) (w ++ log)) ((n + e.mark) + long)) (take_past w log e.mark)
    ∙ ap (λ d. own (w ++ take e.mark log) ++ rest (drop d (w ++ log)) d) (let q : (n + e.mark) + long ≡ n + (e.mark + long) = omega arith in q)
    ∙ ap (λ l. own (w ++ take e.mark log) ++ rest l (n + (e.mark + long))) (drop_past w log (e.mark + long))
    ∙ ap (λ l. l ++ rest (drop (e.mark + long) log) (n + (e.mark + long))) (own_append w (take e.mark log))
    ∙ append_assoc (own w) (own (take e.mark log)) (rest (drop (e.mark + long) log) (n + (e.mark + long)))
    ∙ ap (λ l. own w ++ (own (take e.mark log) ++ (OfChild k e.event ∷ l)))
    (cut_later n (e.mark + long) (suc k) e.event.below (drop (e.mark + long) log) es)
    ∙ ap (λ d. own w ++ (own (take d log) ++ (OfChild k e.event ∷ cut (e.mark + long) (suc k) e.event.below (drop (d + long) log) es)))
    (let q : e.mark ≡ e.mark - 0 = omega arith in q)
  where
    n : ℕ
    n = length w

    long : ℕ
    long = length e.event.log

    rest : List Touch → ℕ → List Piece
    rest l m = OfChild k e.event ∷ cut m (suc k) e.event.below l (later_by n es)

-- calls that are below one that was met
cut_skip : (at k : ℕ) (log : List Touch) (es fs : List (Marked Call)) → cut at k (length es) log (es ++ fs) ≡ cut at (k + length es) 0 log fs
cut_skip at k log [] fs = ap (λ n. cut at n 0 log fs) (let e : k ≡ k + 0 = omega arith in e)
cut_skip at k log (e ∷ es) fs = cut_skip at (suc k) log es fs
    ∙ ap (λ n. cut at n 0 log fs) (let e : suc k + length es ≡ k + suc (length es) = omega arith in e)

-- the log and the calls of a run have these pieces, whatever comes after them
pub record Cuts (k : ℕ) (r : Result State Call) (ps : List Piece) : Type 0 where
  pub at : (log : List Touch) (es : List (Marked Call))
      → cut 0 k 0 (r.log ++ log) (r.events ++ later_by (length r.log) es) ≡ ps ++ cut 0 (k + length r.events) 0 log es

cuts_ending : (k : ℕ) (e : End) (σ : State) → Cuts k (ending e σ) []
cuts_ending k e σ = record {
  at = λ log es. ap (cut 0 k 0 log) (later_none es) ∙ ap (λ n. cut 0 n 0 log es) (let e : k ≡ k + 0 = omega arith in e);
}

-- what follows what follows
pub after_front : (w : List Touch) (ds : List (Marked Call)) (r : Result State Call) (es : List (Marked Call))
    → (front w ds r).events ++ later_by (length (w ++ r.log)) es ≡ ds ++ later_by (length w) (r.events ++ later_by (length r.log) es)
after_front w ds r es = append_assoc ds (later_by (length w) r.events) (later_by (length (w ++ r.log)) es)
    ∙ ap (λ l. ds ++ (later_by (length w) r.events ++ l)) (sym (later_twice (length w) (length r.log) (length (w ++ r.log)) es (length-append w r.log)))
    ∙ ap (λ l. ds ++ l) (sym (later_append (length w) r.events (later_by (length r.log) es)))

cuts_front : (k : ℕ) (w : List Touch) (r : Result State Call) (ps : List Piece) → Cuts k r ps → Cuts k (front w [] r) (own w ++ ps)
cuts_front k w r ps h = record {
  at = λ log es.
      ap (λ l. cut 0 k 0 l ((front w [] r).events ++ later_by (length (w ++ r.log)) es)) (append_assoc w r.log log)
      ∙ ap (cut 0 k 0 (w ++ (r.log ++ log))) (after_front w [] r es)
      ∙ cut_front k w (r.log ++ log) (r.events ++ later_by (length r.log) es)
      ∙ ap (λ l. own w ++ l) (h.at log es)
      ∙ sym (append_assoc (own w) ps (cut 0 (k + length r.events) 0 log es))
      ∙ ap (λ n. (own w ++ ps) ++ cut 0 (k + n) 0 log es) (sym (length-map r.events (λ e. record { mark = length w + e.mark; event = e.event })));
}

cuts_then : (k : ℕ) (y z : Result State Call) (ps qs : List Piece) → Cuts k y ps → Cuts (k + length y.events) z qs
    → Cuts k (front y.log y.events z) (ps ++ qs)
cuts_then k y z ps qs f g = record {
  at = λ log es.
      ap (λ l. cut 0 k 0 l ((front y.log y.events z).events ++ later_by (length (y.log ++ z.log)) es)) (append_assoc y.log z.log log)
      ∙ ap (cut 0 k 0 (y.log ++ (z.log ++ log))) (after_front y.log y.events z es)
      ∙ f.at (z.log ++ log) (z.events ++ later_by (length z.log) es)
      ∙ ap (λ l. ps ++ l) (g.at log es)
      ∙ sym (append_assoc ps qs (cut 0 ((k + length y.events) + length z.events) 0 log es))
      ∙ ap (λ n. (ps ++ qs) ++ cut 0 n 0 log es) (omega (arith, events_length (length y.log) y.events z.events));
}

cuts_call : (k f : ℕ) (args : List Value) (σ : State) (y : Result State Call) → Cuts k (of_call f args σ y) (OfChild k (record_of f args σ y) ∷ [])
cuts_call k f args σ y = record {
  at = λ log es.
      ap (λ m. OfChild k (record_of f args σ y) ∷ cut m (suc k) (length y.events) (drop m (y.log ++ log)) (y.events ++ later_by (length y.log) es))
      (let e : 0 + length y.log ≡ length y.log = omega arith in e)
      ∙ ap (λ l. OfChild k (record_of f args σ y) ∷ l)
      (ap (λ l. cut (length y.log) (suc k) (length y.events) l (y.events ++ later_by (length y.log) es)) (drop-append_seam y.log log)
      ∙ cut_skip (length y.log) (suc k) log y.events (later_by (length y.log) es)
      ∙ ap (λ m. cut m (suc k + length y.events) 0 log (later_by (length y.log) es)) (let e : length y.log ≡ length y.log + 0 = omega arith in e)
      ∙ cut_later (length y.log) 0 (suc k + length y.events) 0 log es
      ∙ ap (λ n. cut 0 n 0 log es) (let e : suc k + length y.events ≡ k + suc (length y.events) = omega arith in e));
}

module _ (p : ProgramRows) where
  cuts_in : {n : ℕ} {t : ActTree} {σ : State} {r : Result State Call} → (h : Ran p n t σ r) → (k : ℕ) → Cuts k r (pieces_in h k)
  cuts_in (ways.Returned {out = out} {σ = σ}) k = cuts_ending k _ σ
  cuts_in (ways.Stopped {σ = σ}) k = cuts_ending k _ σ
  cuts_in (ways.Refused {w = w} {τ = τ} q) k = subst (Cuts k (front w [] (ending _ τ))) (append-nil (own w))
      (cuts_front k w (ending _ τ) [] (cuts_ending k _ τ))
  cuts_in (ways.Acted {w = w} {r = y} q h) k = cuts_front k w y (pieces_in h k) (cuts_in h k)
  cuts_in (ways.PartStopped h e) k = cuts_in h k
  cuts_in (ways.PartEnded {r = y} {s = z} h e g) k =
      cuts_then k y z (pieces_in h k) (pieces_in g (k + length y.events)) (cuts_in h k) (cuts_in g (k + length y.events))
  cuts_in (ways.AtLimit {σ = σ} q) k = cuts_ending k _ σ
  cuts_in (ways.CallStopped {e = e} {σ = σ} {y = y} q h d) k = cuts_call k e.routine (args_at e σ.top) σ y
  cuts_in (ways.CallEnded {e = e} {σ = σ} {y = y} {s = z} q h d g) k =
      let args = args_at e σ.top in
      let number = k + length (of_call e.routine args σ y).events in
      cuts_then k (of_call e.routine args σ y) z (OfChild k (record_of e.routine args σ y) ∷ []) (pieces_in g number) (cuts_call k e.routine args σ y)
      (cuts_in g number)
  cuts_in (ways.NotBegun {w = w} {τ = τ} q) k = subst (Cuts k (front w [] (ending _ τ))) (append-nil (own w))
      (cuts_front k w (ending _ τ) [] (cuts_ending k _ τ))
  cuts_in (ways.Began {w = w} {r = y} q h) k = cuts_front k w (front [] [] y) (pieces_in h k) (cuts_front k [] y (pieces_in h k) (cuts_in h k))

  cut_whole : (k : ℕ) (r : Result State Call) (ps : List Piece) → Cuts k r ps → cut 0 k 0 r.log r.events ≡ ps
  cut_whole k r ps h = ap (λ l. cut 0 k 0 l r.events) (sym (append-nil r.log)) ∙ ap (cut 0 k 0 (r.log ++ [])) (sym (append-nil r.events))
      ∙ h.at [] [] ∙ append-nil ps

  cut_framed : {n f : ℕ} {args : List Value} {σ : State} {r : Result State Call} → (h : RanFrame p n f args σ r) → (k : ℕ)
      → cut 0 k 0 r.log r.events ≡ pieces_framed h k
  cut_framed (ways.NoRoom e t) k = refl
  cut_framed (ways.NoSteps e t u) k = refl
  cut_framed (ways.Worked {y = y} e t u h) k = cut_whole k y (pieces_in h k) (cuts_in h k)

  pub cut_called : {n f : ℕ} {args : List Value} {σ : State} {r : Result State Call} → (h : RanCall p n f args σ r) → (k : ℕ)
      → cut 0 k 0 r.log r.events ≡ pieces_called h k
  cut_called (ways.Closed c h) k = cut_framed h k
