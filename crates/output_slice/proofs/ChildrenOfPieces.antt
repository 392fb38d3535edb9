-- The calls in the pieces of a call of a run are its children.
use Rattle.std.proofs.Common.{◌++◌, ◌+◌, ◌-◌, ◌<◌, ◌∙◌, ◌∷◌, ◌≡◌, ◌≤◌, ◌⊎◌, [], ℕ, Bool, List, Some, ap, arith, drop, false, inl, inr, length, refl, subst, suc}
use Rattle.std.proofs.{Common.sym, Common.take, Common.true, Common.zero, Math.Dec.leb, lemmas.Bool.le-leb, lemmas.Bool.leb-false, lemmas.Bool.leb-true}
use Rattle.std.proofs.{lemmas.List.length-map, lemmas.Option.get_or_from_slice_get, lemmas.Option.slice_get-map, lemmas.Option.slice_get_within}
use Rattle.std.specs.{List.slice_get, Option.option_map}
use Rattle.cell_value.specs.declared.entries.Touch.{Touch}
use Rattle.core_program.proofs.NestedCallsAreIntervals.{Forest, greatest_from, greatest_is}
use Rattle.core_program.proofs.OutcomesCompose.{none_some}
use Rattle.core_program.specs.{Numbering.belows, Numbering.is_below, Numbering.last_below, Numbering.parent_of, Run.Call, Run.Marked, Run.Result, State.State}
use Rattle.output_slice.specs.Pieces.{OfChild, Own, Piece, Stands, cut, own}

-- the call is one of the pieces
abbrev pub Holds : ℕ → Call → List Piece → Type 0
Holds n c [] = ⊥
Holds n c (Own t ∷ ps) = Holds n c ps
Holds n c (OfChild m d ∷ ps) = ((m ≡ n) × (d ≡ c)) ⊎ Holds n c ps

holds_after : (n : ℕ) (c : Call) (before after : List Piece) → Holds n c (before ++ (OfChild n c ∷ after))
holds_after n c [] after = inl (refl, refl)
holds_after n c (Own t ∷ before) after = holds_after n c before after
holds_after n c (OfChild m d ∷ before) after = inr (holds_after n c before after)

pub holds : (ps : List Piece) (n : ℕ) (c : Call) (before : List Piece) → Stands ps (OfChild n c) before → Holds n c ps
holds ps n c before s = subst (Holds n c) (sym s.is) (holds_after n c before s.after)

holds_past : (n : ℕ) (c : Call) (w : List Touch) (ps : List Piece) → Holds n c (own w ++ ps) → Holds n c ps
holds_past n c [] ps h = h
holds_past n c (t ∷ w) ps h = holds_past n c w ps h

holds_none : (n : ℕ) (c : Call) (w : List Touch) → Holds n c (own w) → ⊥
holds_none n c [] h = h
holds_none n c (t ∷ w) h = holds_none n c w h

-- a call's interval has this place, and ends before the other
pub record Covered (es : List (Marked Call)) (j i : ℕ) : Type 0 where
  pub place : ℕ
  pub entry : Marked Call
  pub is : slice_get es place ≡ Some entry
  pub from : place ≤ j
  pub to : j ≤ place + entry.event.below
  pub ends : place + entry.event.below < i

pub record ChildAt (number skip : ℕ) (es : List (Marked Call)) (n : ℕ) (c : Call) : Type 0 where
  pub place : ℕ
  pub entry : Marked Call
  pub number_is : n ≡ number + place
  pub is : slice_get es place ≡ Some entry
  pub event : entry.event ≡ c
  pub later : skip ≤ place
  pub covered : (j : ℕ) → j < place → (j < skip) ⊎ Covered es j place

cover_later : (e : Marked Call) (es : List (Marked Call)) (j i : ℕ) → Covered es j i → Covered (e ∷ es) (suc j) (suc i)
cover_later e es j i h = record {
  place = suc h.place;
  entry = h.entry;
  is = h.is;
  from = omega (arith, h.from);
  to = omega (arith, h.to);
  ends = omega (arith, h.ends);
}

pub child_at : (at number skip : ℕ) (log : List Touch) (es : List (Marked Call)) (n : ℕ) (c : Call) → Holds n c (cut at number skip log es)
    → ChildAt number skip es n c
child_at at number skip log [] n c h = absurd (holds_none n c log h)
child_at at number zero log (e ∷ es) n c h =
    by (λ k. child_at (e.mark + length e.event.log) (suc number) e.event.below (drop ((e.mark - at) + length e.event.log) log) es n c k)
    (holds_past n c (take (e.mark - at) log)
    (OfChild number e.event ∷ cut (e.mark + length e.event.log) (suc number) e.event.below (drop ((e.mark - at) + length e.event.log) log) es) h)
  where
    first : (i : ℕ) → e.event.below ≤ i → (j : ℕ) → j ≤ e.event.below → Covered (e ∷ es) j (suc i)
    first i l j k = record { place = 0; entry = e; is = refl; from = omega arith; to = omega arith; ends = omega arith }

    each : (i : ℕ) → e.event.below ≤ i → ((j : ℕ) → j < i → (j < e.event.below) ⊎ Covered es j i) → (j : ℕ) → j < suc i
        → (j < 0) ⊎ Covered (e ∷ es) j (suc i)
    each i l f zero k = inr (first i l 0 (omega arith))
    each i l f (suc j) k = elim (f j (omega arith)) [
      | inl g ↦ inr (first i l (suc j) (omega arith))
      | inr g ↦ inr (cover_later e es j i g)
    ]

    by : (Holds n c (cut (e.mark + length e.event.log) (suc number) e.event.below (drop ((e.mark - at) + length e.event.log) log) es)
        → ChildAt (suc number) e.event.below es n c)
        → ((number ≡ n) × (e.event ≡ c))
        ⊎ Holds n c (cut (e.mark + length e.event.log) (suc number) e.event.below (drop ((e.mark - at) + length e.event.log) log) es)
        → ChildAt number 0 (e ∷ es) n c
    by go (inl g) = record {
      place = 0;
      entry = e;
      number_is = omega (arith, g.0);
      is = refl;
      event = g.1;
      later = omega arith;
      covered = λ j k. absurd (omega arith);
    }
    by go (inr g) =
        let r = go g in
        record {
          place = suc r.place;
          entry = r.entry;
          number_is = omega (arith, r.number_is);
          is = r.is;
          event = r.event;
          later = omega arith;
          covered = each r.place r.later r.covered;
        }
child_at at number (suc skip) log (e ∷ es) n c h =
    let r = child_at at (suc number) skip log es n c h in
    record {
      place = suc r.place;
      entry = r.entry;
      number_is = omega (arith, r.number_is);
      is = r.is;
      event = r.event;
      later = omega (arith, r.later);
      covered = each r.place r.covered;
    }
  where
    each : (i : ℕ) → ((j : ℕ) → j < i → (j < skip) ⊎ Covered es j i) → (j : ℕ) → j < suc i → (j < suc skip) ⊎ Covered (e ∷ es) j (suc i)
    each i f zero k = inl (omega arith)
    each i f (suc j) k = elim (f j (omega arith)) [
      | inl g ↦ inl (omega (arith, g))
      | inr g ↦ inr (cover_later e es j i g)
    ]

take_get : {A : Type 0} (n i : ℕ) (xs : List A) (x : A) → slice_get (take n xs) i ≡ Some x → (i < n) × (slice_get xs i ≡ Some x)
take_get zero i xs x e = absurd (none_some e)
take_get (suc n) i [] x e = absurd (none_some e)
take_get (suc n) zero (y ∷ xs) x e = (omega arith, e)
take_get (suc n) (suc i) (y ∷ xs) x e = let r = take_get n i xs x e in (omega (arith, r.0), r.1)

drop_get : {A : Type 0} (n i : ℕ) (xs : List A) → slice_get (drop n xs) i ≡ slice_get xs (n + i)
drop_get zero i xs = ap (slice_get xs) (let e : i ≡ 0 + i = omega arith in e)
drop_get (suc n) i [] = refl
drop_get (suc n) i (x ∷ xs) = drop_get n i xs ∙ ap (slice_get (x ∷ xs)) (let e : suc (n + i) ≡ suc n + i = omega arith in e)

-- how many calls are below a call
pub last_is : (es : List (Marked Call)) (k : ℕ) (e : Marked Call) → slice_get es k ≡ Some e → last_below (belows es) k ≡ k + e.event.below
last_is es k e q = ap (λ b. k + b) (get_or_from_slice_get (belows es) k e.event.below 0
    (slice_get-map (λ c. c.event.below) es k ∙ ap (option_map (λ (c : Marked Call). c.event.below)) q))

pub record IsChild (r : Result State Call) (k n : ℕ) (c : Call) : Type 0 where
  pub entry : Marked Call
  pub is : slice_get r.events n ≡ Some entry
  pub event : entry.event ≡ c
  pub parent : parent_of (belows r.events) n ≡ Some k
  pub inside : n < length r.events

-- a call in the pieces of call k is a child of call k
pub child_of : (r : Result State Call) (at k : ℕ) (log : List Touch) (e : Marked Call) (n : ℕ) (c : Call) → Forest (belows r.events)
    → slice_get r.events k ≡ Some e → Holds n c (cut at (k + 1) 0 log (take e.event.below (drop (k + 1) r.events)))
    → IsChild r k n c
child_of r at k log e n c forest q h =
    let es = r.events in
    let a = child_at at (k + 1) 0 log (take e.event.below (drop (k + 1) es)) n c h in
    let b = take_get e.event.below a.place (drop (k + 1) es) a.entry a.is in
    let there : slice_get es n ≡ Some a.entry = ap (slice_get es) a.number_is ∙ sym (drop_get (k + 1) a.place es) ∙ b.1 in
    let within : n < length es = slice_get_within es n a.entry there in
    let below : n ≤ last_below (belows es) k = omega (arith, last_is es k e q, a.number_is, b.0) in
    let up = greatest_from (is_below (belows es) n) n k (omega (arith, a.number_is)) (le-leb n (last_below (belows es) k) below) in
    let top = greatest_is (is_below (belows es) n) n up.0 up.1.0 in
    record {
      entry = a.entry;
      is = there;
      event = a.event;
      parent = up.1.0 ∙ ap Some (same n a.place a.number_is a.covered within up.0 up.1.1 top.0 (leb-true n (last_below (belows es) up.0) top.1)
          (leb up.0 k) refl);
      inside = within;
    }
  where
    same : (n i : ℕ) → n ≡ (k + 1) + i → ((j : ℕ) → j < i → (j < 0) ⊎ Covered (take e.event.below (drop (k + 1) r.events)) j i) → n < length r.events
        → (m : ℕ) → k ≤ m → m < n → n ≤ last_below (belows r.events) m → (b : Bool) → leb m k ≡ b → m ≡ k
    same n i number cover inside m from less to true q = let l = leb-true m k q in omega (arith, l)
    same n i number cover inside m from less to false q =
        let l : k < m = leb-false m k q in
        absurd (elim (cover (m - (k + 1)) (omega (arith, number))) [
          | inl g ↦ omega arith
          | inr g ↦ (
              let t = take_get e.event.below g.place (drop (k + 1) r.events) g.entry g.is in
              let there : slice_get r.events ((k + 1) + g.place) ≡ Some g.entry = sym (drop_get (k + 1) g.place r.events) ∙ t.1 in
              let last = last_is r.events ((k + 1) + g.place) g.entry there in
              let size = length-map r.events (λ c. c.event.below) in
              let nested = forest.nested ((k + 1) + g.place) m (omega (arith, size)) (omega (arith, g.from)) (omega (arith, g.to, last)) in
              omega (arith, nested, last, g.ends, number)
              )
        ])
