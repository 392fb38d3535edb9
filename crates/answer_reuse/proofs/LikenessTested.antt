-- The test of likeness tells what likeness is.
use Rattle.std.proofs.Common.{◌&&◌, ◌+◌, ◌||◌, ◌∷◌, ◌≡◌, [], ℕ, Bool, List, ap, false, nat_eq, refl, subst, true}
use Rattle.cell_value.specs.{Effects.looked_of, Effects.made_of, Effects.reads_of, declared.values.Value.Value}
use Rattle.cell_value.specs.declared.entries.Seen.{Seen, TheVariants.Absent, TheVariants.Held, TheVariants.There}
use Rattle.core_program.specs.{Replay.same_args, Replay.same_value, Run.Call}
use Rattle.body_replay.proofs.AgreementIsTested.{and_both, both, ended_tells, ended_told, fresh_tells, fresh_told, items_tell, items_told, number_self}
use Rattle.body_replay.proofs.AgreementIsTested.{numbered_same, same_numbered, value_tells, value_told}
use Rattle.body_replay.specs.Agreement.{are_same_items, ended_by_itself}
use Rattle.answer_reuse.specs.Alike.{Alike, are_alike, are_same_reads, is_same_seen}
use Rattle.answer_reuse.specs.Laws as law

-- ---- values

args_tell : (vs ws : List Value) → same_args vs ws ≡ true → vs ≡ ws
args_tell [] [] h = refl
args_tell (v ∷ vs) (w ∷ ws) h =
    let b = both (same_value v w) (same_args vs ws) h in
    let first : v ≡ w = value_tells v w b.0 in
    λ i. first i ∷ args_tell vs ws b.1 i
args_tell [] (w ∷ ws) h = absurd (let z : false ≡ true = h in cc)
args_tell (v ∷ vs) [] h = absurd (let z : false ≡ true = h in cc)

args_told : (vs : List Value) → same_args vs vs ≡ true
args_told [] = refl
args_told (v ∷ vs) = and_both (same_value v v) (same_args vs vs) (value_told v) (args_told vs)

-- ---- what was read

seen_tells : (s t : Seen) → is_same_seen s t ≡ true → s ≡ t
seen_tells (Held v) (Held w) h = ap Held (value_tells v w h)
seen_tells There There h = refl
seen_tells Absent Absent h = refl
seen_tells s t h = absurd (let z : false ≡ true = h in cc)

seen_told : (s : Seen) → is_same_seen s s ≡ true
seen_told (Held v) = value_told v
seen_told There = refl
seen_told Absent = refl

reads_tell : (rs ss : List (ℕ × Seen)) → are_same_reads rs ss ≡ true → rs ≡ ss
reads_tell [] [] h = refl
reads_tell ((a, s) ∷ rs) ((b, t) ∷ ss) h =
    let x = both (nat_eq a b) (is_same_seen s t && are_same_reads rs ss) h in
    let y = both (is_same_seen s t) (are_same_reads rs ss) x.1 in
    let addr : a ≡ b = same_numbered x.0 in
    let seen : s ≡ t = seen_tells s t y.0 in
    λ i. (addr i, seen i) ∷ reads_tell rs ss y.1 i
reads_tell [] ((b, t) ∷ ss) h = absurd (let z : false ≡ true = h in cc)
reads_tell ((a, s) ∷ rs) [] h = absurd (let z : false ≡ true = h in cc)

reads_told : (rs : List (ℕ × Seen)) → are_same_reads rs rs ≡ true
reads_told [] = refl
reads_told ((a, s) ∷ rs) = and_both (nat_eq a a) (is_same_seen s s && are_same_reads rs rs) (number_self a)
    (and_both (is_same_seen s s) (are_same_reads rs rs) (seen_told s) (reads_told rs))

-- ---- all of it

module _ (c d : Call) where
  abbrev ways : Bool
  ways = ended_by_itself c.way && ended_by_itself d.way

  abbrev heap : Bool
  heap = nat_eq (made_of c.log + made_of d.log) 0 || nat_eq c.entry.fresh d.entry.fresh

  abbrev reads : Bool
  reads = are_same_reads (reads_of c.base c.log) (reads_of d.base d.log)

  abbrev looked : Bool
  looked = nat_eq (looked_of c.entry.place c.log) (looked_of d.entry.place d.log)

  abbrev items : Bool
  items = are_same_items c.entry.items c.entry.place d.entry.items d.entry.place (looked_of c.entry.place c.log)

  abbrev after_heap : Bool
  after_heap = reads && (looked && items)

  abbrev after_args : Bool
  after_args = nat_eq c.entry.top d.entry.top && (heap && after_heap)

  abbrev after_ways : Bool
  after_ways = nat_eq c.routine d.routine && (same_args c.args d.args && after_args)

  pub test_tells : are_alike c d ≡ true → Alike c d
  unfolding are_alike
  test_tells h =
      let e = both ways after_ways h in
      let w = both (ended_by_itself c.way) (ended_by_itself d.way) e.0 in
      let f = both (nat_eq c.routine d.routine) (same_args c.args d.args && after_args) e.1 in
      let a = both (same_args c.args d.args) after_args f.1 in
      let t = both (nat_eq c.entry.top d.entry.top) (heap && after_heap) a.1 in
      let m = both heap after_heap t.1 in
      let r = both reads (looked && items) m.1 in
      let l = both looked items r.1 in
      record {
        way = (ended_tells c.way w.0, ended_tells d.way w.1);
        routine = same_numbered f.0;
        args = args_tell c.args d.args a.0;
        top = same_numbered t.0;
        fresh = fresh_tells (made_of c.log + made_of d.log) c.entry.fresh d.entry.fresh m.0;
        reads = reads_tell (reads_of c.base c.log) (reads_of d.base d.log) r.0;
        looked = same_numbered l.0;
        items = items_tell c.entry.items c.entry.place d.entry.items d.entry.place (looked_of c.entry.place c.log) l.1;
      }

  pub test_told : Alike c d → are_alike c d ≡ true
  unfolding are_alike
  test_told a =
      and_both ways after_ways
      (and_both (ended_by_itself c.way) (ended_by_itself d.way) (ended_told c.way a.way.0) (ended_told d.way a.way.1))
      (and_both (nat_eq c.routine d.routine) (same_args c.args d.args && after_args) (numbered_same a.routine)
      (and_both (same_args c.args d.args) after_args (subst (λ vs. same_args c.args vs ≡ true) a.args (args_told c.args))
      (and_both (nat_eq c.entry.top d.entry.top) (heap && after_heap) (numbered_same a.top)
      (and_both heap after_heap (fresh_told (made_of c.log + made_of d.log) c.entry.fresh d.entry.fresh a.fresh)
      (and_both reads (looked && items) (subst (λ rs. are_same_reads (reads_of c.base c.log) rs ≡ true) a.reads (reads_told (reads_of c.base c.log)))
      (and_both looked items (numbered_same a.looked)
      (items_told c.entry.items c.entry.place d.entry.items d.entry.place (looked_of c.entry.place c.log) a.items)))))))

pub is_tested : law.LikenessIsTested
is_tested c d = (test_tells c d, test_told c d)
