-- What the pass from the last piece to the first wants is what is needed: records that are altered in nothing that is
-- used are altered in nothing that is needed, and a call of which something is used is met alike.
use Rattle.std.proofs.Common.{if◌then◌else◌, ◌++◌, ◌∙◌, ◌∷◌, ◌≡◌, [], ℕ, Bool, List, None, Option, Some, ap, append-nil, append_assoc, arith, false, inl, inr}
use Rattle.std.proofs.Common.{is_some, length, nat_lt, refl, subst, suc, sym, true}
use Rattle.std.{proofs.lemmas.Bool.Decides.nat_tests, specs.FinMap.get, specs.List.slice_get}
use Rattle.cell_value.specs.Effects.{change_by, given_of}
use Rattle.cell_value.specs.declared.entries.Change.{Change, TheVariants.Gone, TheVariants.Set}
use Rattle.core_program.{proofs.Cells.Map, specs.Replay.ChildOf, specs.Replay.Event, specs.Replay.LineOf, specs.Run.Call, specs.Run.Marked, specs.State.State}
use Rattle.core_program.specs.Run as meaning
use Rattle.output_slice.proofs.{AmongLists.Among, AmongLists.among_either, WalksAlike.Fit, WalksAlike.Fits}
use Rattle.output_slice.proofs.ActsAlike.{Alike, IsNeed, false_true, other}
use Rattle.output_slice.proofs.BackwardIsWhole.{Rising, child_cell, child_need, own_cell, pairs_apart, pairs_past, part_in, split_apart, used_met}
use Rattle.output_slice.proofs.UsedBackward.{numbered_of, only_is, only_self, pairs_used}
use Rattle.output_slice.specs.{Backward.back, Backward.only, Backward.used_of, Backward.with_number, Kept.Alters, Kept.IsAltered, Kept.IsMetAlike}
use Rattle.output_slice.specs.{Kept.LikeChange, Pieces.OfChild, Pieces.Own, Pieces.Piece, Pieces.Stands, declared.outputs.Output.Output}
use Rattle.output_slice.specs.Outputs.{Gathered, IsGathered, Met, TheCell, Used, changed_by, has_output}
use Rattle.output_slice.specs.declared.outputs.Output.TheVariants.{Cell, Gives, Makes, Takes, Way}
use Rattle.output_slice.specs.declared.outputs.Output.TheVariants as outputs

-- whether the output is the bytes given
abbrev pub is_bytes : Output → Bool
is_bytes Gives = true
is_bytes o = false

bytes_is : (o : Output) → is_bytes o ≡ true → o ≡ Gives
bytes_is Gives e = refl
bytes_is (Cell x) e = absurd (false_true e)
bytes_is outputs.Result e = absurd (false_true e)
bytes_is Takes e = absurd (false_true e)
bytes_is Makes e = absurd (false_true e)
bytes_is Way e = absurd (false_true e)

-- what the pass wants of a cell before these pieces
abbrev pub wanted_cell : Output → ℕ → List Piece → Bool
wanted_cell o a u = (back (only o) u).wanted.cells a

pub wanted_is_need : (o : Output) → IsNeed (wanted_cell o)
wanted_is_need o = record {
  looked = λ a t u e. ap (λ b. if b then true else if is_some (change_by a t) then false else wanted_cell o a u) e;
  own = λ a t u e h. own_cell (only o) t (back (only o) u).wanted a (ap is_some e) h;
  child = λ a n c u e h. child_cell (only o) c (used_of (only o) (back (only o) u).wanted c) (back (only o) u).wanted a e h;
}

like_none : (y : Option Change) → LikeChange None y → y ≡ None
like_none None h = refl
like_none (Some d) h = absurd h

like_self : (x : Option Change) → LikeChange x x
like_self None = tt
like_self (Some (Set v)) = tt
like_self (Some Gone) = tt

empty_of : (l : List ℕ) → nat_lt 0 (length l) ≡ false → l ≡ []
empty_of [] e = refl
empty_of (x ∷ l) e = absurd (let r : nat_lt 0 (suc (length l)) ≡ true = grind (arith, nat_tests) in false_true (sym e ∙ r))

-- what holds of the events
module _ (ps : List Piece) (o : Output) (P : Event → Type 0) where
  -- a cell that is needed after a call that changed it is used of that call
  needed_used : (a n : ℕ) (c : Call) (pre u : List Piece) → ps ≡ pre ++ (OfChild n c ∷ u) → is_some (changed_by c a) ≡ true
      → wanted_cell o a u ≡ true → Used ps o n (Cell a)
  needed_used a n c pre u e s h =
      let b = pairs_used ps (only o) (o, only_self o) n (Cell a)
      (subst (λ l. Among (n, Cell a) (back (only o) l).pairs) (sym e) (part_in (only o) n c pre u (Cell a) s h)) in
      subst (λ o. Used ps o n (Cell a)) (sym (only_is o b.by b.wanted)) b.used

  -- what is to hold of each call where it is met
  abbrev pub Holds : (ℕ → Call → Call) → Type 0
  Holds alter = (before : List Piece) (n : ℕ) (c : Call) (u : List Piece) → ps ≡ before ++ (OfChild n c ∷ u) → (m : Map) (out : List ℕ)
      → Alike (wanted_cell o) (OfChild n c ∷ u) c.entry.cells m → P (ChildOf n (other m out c.entry))

  fits_of : (alter : ℕ → Call → Call) → Holds alter → (n : ℕ) (c : Call) (pre u : List Piece) → ps ≡ pre ++ (OfChild n c ∷ u)
      → IsAltered ps o n c (alter n c)
      → (lines : (line : ℕ) → P (LineOf line)) → Fits (wanted_cell o) (wanted_is_need o) (is_bytes o) alter P lines n c u
  fits_of alter each n c pre u e h lines = record {
    routine = h.routine;
    args = h.args;
    base = h.base;
    way = h.way;
    result = h.result;
    below = h.below;
    steps = h.steps;
    made = h.made;
    taken = h.taken;
    cells = h.cells;
    needed_cells = λ a q. by a q (changed_by c a) refl;
    bytes = λ q. given (nat_lt 0 (length (given_of c.log))) refl (bytes_is o q);
    event = each pre n c u e;
  }
    where
      by : (a : ℕ) → wanted_cell o a u ≡ true → (x : Option Change) → changed_by c a ≡ x → changed_by (alter n c) a ≡ changed_by c a
      by a q None r = like_none (changed_by (alter n c) a) (subst (λ x. LikeChange x (changed_by (alter n c) a)) r (h.cells a)) ∙ sym r
      by a q (Some d) r = h.used_cells a (needed_used a n c pre u e (ap is_some r) q)

      given : (b : Bool) → nat_lt 0 (length (given_of c.log)) ≡ b → o ≡ Gives → given_of (alter n c).log ≡ given_of c.log
      given true q g = h.used_bytes (subst (λ o'. Used ps o n o') g
          (Gathered pre n c (record { after = u; is = e }) (subst IsGathered (sym g) tt) (ap (has_output c) g ∙ q)))
      given false q g = let z = empty_of (given_of c.log) q in h.no_bytes g z ∙ sym z

  fit_from : (alter : ℕ → Call → Call) → Holds alter → Alters ps o alter → (lines : (line : ℕ) → P (LineOf line)) → (pre qs : List Piece)
      → ps ≡ pre ++ qs → Fit (wanted_cell o) (wanted_is_need o) (is_bytes o) alter P lines qs []
  fit_from alter each h lines pre [] e = tt
  fit_from alter each h lines pre (Own t ∷ qs) e = fit_from alter each h lines (pre ++ Own t ∷ []) qs (e ∙ sym (append_assoc pre (Own t ∷ []) qs))
  fit_from alter each h lines pre (OfChild n c ∷ qs) e = (
    subst (Fits (wanted_cell o) (wanted_is_need o) (is_bytes o) alter P lines n c) (sym (append-nil qs))
        (fits_of alter each n c pre qs e (h pre n c (record { after = qs; is = e })) lines),
    fit_from alter each h lines (pre ++ OfChild n c ∷ []) qs (e ∙ sym (append_assoc pre (OfChild n c ∷ []) qs)),
  )

  pub fit_of : (alter : ℕ → Call → Call) → Holds alter → Alters ps o alter → (lines : (line : ℕ) → P (LineOf line))
      → Fit (wanted_cell o) (wanted_is_need o) (is_bytes o) alter P lines ps []
  fit_of alter each h lines = fit_from alter each h lines [] ps refl

-- records that are not altered
pub alters_same : (ps : List Piece) (o : Output) → Alters ps o (λ n c. c)
alters_same ps o before n c s = record {
  routine = refl;
  args = refl;
  base = refl;
  way = refl;
  result = refl;
  below = refl;
  steps = refl;
  made = refl;
  taken = refl;
  cells = λ a. like_self (changed_by c a);
  used_cells = λ a u. refl;
  used_bytes = λ u. refl;
  no_bytes = λ g e. e;
}

-- a call of which something is used is met where what it read is as it was
pub used_met_alike : (r : meaning.Result State Call) (k : ℕ) (ps : List Piece) (o : Output) → Rising k ps
    → ((n : ℕ) (c : Call) (before : List Piece) → Stands ps (OfChild n c) before → (e : Marked Call) → slice_get r.events n ≡ Some e → e.event ≡ c)
    → (before : List Piece) (n : ℕ) (c : Call) (u : List Piece) → ps ≡ before ++ (OfChild n c ∷ u) → (m : Map) (out : List ℕ)
    → Alike (wanted_cell o) (OfChild n c ∷ u) c.entry.cells m → IsMetAlike r ps o (ChildOf n (other m out c.entry))
used_met_alike r k ps o rises same before n c u e m out h = λ entry q part used a met.
    let is = same n c before (record { after = u; is = e }) entry q in
    let w = (back (only o) u).wanted in
    let apart = split_apart k before n c u (subst (Rising k) e rises) in
    let here = pairs_past (only o) n part before (OfChild n c ∷ u) apart.1
    (subst (λ l. Among (n, part) (back (only o) l).pairs) e (used_met (only o) k ps o n part rises (only_self o) used)) in
    let mine : Among part (used_of (only o) w c) =
    elim (among_either (back (only o) u).pairs (with_number n (used_of (only o) w c)) (n, part) here) [
      | inr g ↦ (numbered_of n n (used_of (only o) w c) part g).1
      | inl g ↦ absurd (pairs_apart (only o) n part u apart.2 g)
    ] in
    sym (h.same a (child_need (only o) c (used_of (only o) w c) part (TheCell a) w mine (subst (λ c. Met c (TheCell a)) is met)))
    ∙ ap (λ (c : Call). get c.entry.cells a) (sym is)
