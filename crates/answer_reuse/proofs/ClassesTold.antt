-- The classes that joining leaves are those of the calls of the run.
use Rattle.std.proofs.Common.{◌+◌, ◌-◌, ◌<◌, ◌||◌, ◌∙◌, ◌∷◌, ◌≡◌, ◌≤◌, ◌⊎◌, [], ℕ, Bool, Contains, List, None, Option, Some, ap, arith, false, get_or, inl, inr}
use Rattle.std.proofs.Common.{length, map, nat_eq, refl, slice_get, slice_index, subst, suc, sum_by, sym, true}
use Rattle.std.proofs.lemmas.{Bool.Decides.eqb_tells, Bool.Decides.nat_tests, List.length-map, List.FromFn.fill_by_all, List.Sums.sum_by-cons}
use Rattle.std.proofs.lemmas.Option.{slice_get_cases, slice_get_read, slice_get_within}
use Rattle.core_program.proofs.OutcomesCompose.{none_some, some_same}
use Rattle.core_program.specs.{Agree.EndedByItself, Numbering.belows, Numbering.each_from, ProgramRows.ProgramRows, Run.Call, Run.Marked, RunLaws.calls_in}
use Rattle.call_tree.specs.declared.records.Call as table
use Rattle.program_run.{proofs.RowsInParts.length_each, specs.Table.table_row, specs.declared.history.History.History}
use Rattle.body_replay.{proofs.RecordsOfRuns.RunOf, proofs.RecordsOfRuns.row_of_run, specs.Laws.CallsCarryToThemselves}
use Rattle.answer_book.specs.Numbers.{numbers_below}
use Rattle.answer_reuse.proofs.{KeysInOrder.key_is, LikenessTested.test_tells, LikenessTested.test_told, NumbersPassing.found_first}
use Rattle.answer_reuse.proofs.KeysTell.{alike_of_same_key, call_of_key, same_key_of_alike}
use Rattle.answer_reuse.specs.{Alike.Alike, Alike.are_alike, Alike.are_alike_at, Alike.is_alike, Kept.HasLesser, Kept.IsJoined, Keys.touches_made}
use Rattle.answer_reuse.specs.{Laws.AlikeDidTheSame, Sorting.AreSorted, Sorting.SameKey, declared.keys.Keyed.Keyed}
use Rattle.answer_reuse.specs.Classes.{classes_of, least_alike, or_itself, rows_between, touches_between}

-- ---- how much there is to compare

sums : {X Y : Type 0} (f : X → ℕ) (e : Y → ℕ) (x : X) (y : Y) (xs : List X) (ys : List Y) → f x ≡ e y → sum_by f xs ≡ sum_by e ys
    → sum_by f (x ∷ xs) ≡ sum_by e (y ∷ ys)
sums f e x y xs ys one rest = sum_by-cons f x xs ∙ (λ i. one i + rest i) ∙ sym (sum_by-cons e y ys)

rows_sum : (bs : List ℕ) (k : ℕ) (cs : List (Marked Call))
    → sum_by touches_made (each_from (table_row bs) k cs) ≡ sum_by (λ (c : Call). length c.log) (map (λ (e : Marked Call). e.event) cs)
rows_sum bs k [] = refl
rows_sum bs k (c ∷ cs) =
    let rest = rows_sum bs (suc k) cs in
    let one : c.mark + length c.event.log - c.mark ≡ length c.event.log = omega arith in
    sums touches_made (λ (c : Call). length c.log) (table_row bs k c) c.event (each_from (table_row bs) (suc k) cs)
    (map (λ (e : Marked Call). e.event) cs) one rest

or_true : (a b : Bool) → b ≡ true → (a || b) ≡ true
or_true true b e = refl
or_true false b e = e

which : (a b : Bool) → (a || b) ≡ true → (a ≡ true) ⊎ (b ≡ true)
which true b e = inl refl
which false b e = inr e

module _ {p : ProgramRows} {input : List ℕ} {h : History} (g : RunOf p input h) where
  pub rows_many : length h.calls.calls ≡ length (calls_in g.result)
  rows_many = ap length g.calls ∙ length_each (table_row (belows g.result.events)) 0 g.result.events
      ∙ sym (length-map g.result.events (λ (e : Marked Call). e.event))

  pub touches_are : rows_between h.calls.calls ≡ touches_between (calls_in g.result)
  touches_are = ap rows_between g.calls ∙ rows_sum (belows g.result.events) 0 g.result.events

  module _ (carry : CallsCarryToThemselves) (did : AlikeDidTheSame) (keys : List Keyed) (s : AreSorted h keys) (classes : List ℕ)
      (joined : IsJoined h keys classes)
    where
      abbrev calls : List Call
      calls = calls_in g.result

      -- the key of a call that ended by itself
      record KeyOf (call : ℕ) : Type 0 where
        at : ℕ
        key : Keyed
        stands : slice_get keys at ≡ Some key
        is : key.call ≡ call

      key_of_row : (call : ℕ) (row : table.Call) → slice_get h.calls.calls call ≡ Some row → EndedByItself row.way → KeyOf call
      key_of_row call row e ended =
          let z = s.keys'.all call row (slice_get_within h.calls.calls call row e) e ended in
          record {
            at = z.1.0;
            key = z.0;
            stands = slice_get_read keys (length keys) z.1.0 z.0 refl z.1.1 (sym z.1.2);
            is = z.2;
          }

      key_of_call : (call : ℕ) (c : Call) → slice_get calls call ≡ Some c → EndedByItself c.way → KeyOf call
      key_of_call call c at ended = elim (slice_get_cases h.calls.calls call).1 [
        | inl q ↦ let row = q.0 in
            let r = row_of_run g call row q.2 in
            let same : r.call ≡ c = some_same (sym r.stands ∙ at) in
            key_of_row call row q.2 (subst EndedByItself (sym (ap (λ (q : table.Call). q.way) r.recorded.is ∙ ap (λ (c : Call). c.way) same)) ended)
        | inr q ↦ let inside = slice_get_within calls call c at in absurd (let l = q.0 in omega (arith, l, inside, rows_many))
      ]

      call_is : (call : ℕ) (c : Call) (k : KeyOf call) → slice_get calls call ≡ Some c
          → (call_of_key g carry did k.key (key_is h keys s k.at k.key k.stands)).call ≡ c
      call_is call c k at = some_same (sym (call_of_key g carry did k.key (key_is h keys s k.at k.key k.stands)).stands ∙ ap (slice_get calls) k.is ∙ at)

      pub same_class : (x y : ℕ) (c d : Call) → slice_get calls x ≡ Some c → slice_get calls y ≡ Some d → Alike c d
          → slice_index classes x ≡ slice_index classes y
      same_class x y c d at to a =
          let k = key_of_call x c at a.way.0 in
          let l = key_of_call y d to a.way.1 in
          let k_is = key_is h keys s k.at k.key k.stands in
          let l_is = key_is h keys s l.at l.key l.stands in
          let alike = subst (λ c. Alike c (call_of_key g carry did l.key l_is).call) (sym (call_is x c k at)) (subst (Alike c) (sym (call_is y d l to)) a) in
          let same = same_key_of_alike g carry did k.key l.key k_is l_is alike in
          ap (slice_index classes) (sym k.is)
          ∙ joined.same k.at l.at k.key l.key (slice_get_within keys k.at k.key k.stands) (slice_get_within keys l.at l.key l.stands) k.stands l.stands same
          ∙ ap (slice_index classes) l.is

      least_at_most : (call : ℕ) → call < length calls → slice_index classes call ≤ call
      least_at_most call l = elim (joined.least call (omega (arith, l, rows_many))) [
        | inl e ↦ omega (arith, e)
        | inr f ↦ let z = f.less in omega arith
      ]

      least_is_alike : (call : ℕ) → call < length calls → is_alike calls (slice_index classes call) call ≡ true
      least_is_alike call l = elim (joined.least call (omega (arith, l, rows_many))) [
        | inl e ↦ itself (slice_index classes call) e
        | inr f ↦ lesser (slice_index classes call) f
      ]
        where
          itself : (least : ℕ) → least ≡ call → is_alike calls least call ≡ true
          itself least e = ap (λ b. b || are_alike_at (slice_get calls least) (slice_get calls call))
              (let z : nat_eq least call ≡ true = grind (arith, nat_tests) in z)

          lesser : (least : ℕ) → HasLesser h keys call least → is_alike calls least call ≡ true
          lesser least f =
              let k = key_is h keys s f.at f.key f.stands in
              let l = key_is h keys s f.lesser f.other f.other_stands in
              let r = call_of_key g carry did f.key k in
              let t = call_of_key g carry did f.other l in
              let told = test_told t.call r.call (alike_of_same_key g carry did f.other f.key l k (sym f.same)) in
              or_true (nat_eq least call) (are_alike_at (slice_get calls least) (slice_get calls call))
              (ap (λ o. are_alike_at o (slice_get calls call)) (ap (slice_get calls) (sym f.other_is) ∙ t.stands)
              ∙ ap (are_alike_at (Some t.call)) (ap (slice_get calls) (sym f.is) ∙ r.stands) ∙ told)

      none_before : (call : ℕ) → call < length calls → (other : ℕ) → other < slice_index classes call → is_alike calls other call ≡ false
      none_before call l other below = by (is_alike calls other call) refl
        where
          tied : (x y : Option Call) → slice_get calls other ≡ x → slice_get calls call ≡ y → are_alike_at x y ≡ true → ⊥
          tied (Some c) (Some d) at to e =
              let same = same_class other call c d at to (test_tells c d e) in
              let most = least_at_most other (slice_get_within calls other c at) in
              omega (arith, same, most, below)
          tied None y at to e = absurd (let z : false ≡ true = e in cc)
          tied (Some c) None at to e = absurd (let z : false ≡ true = e in cc)

          by : (b : Bool) → is_alike calls other call ≡ b → is_alike calls other call ≡ false
          by false e = e
          by true e = elim (which (nat_eq other call) (are_alike_at (slice_get calls other) (slice_get calls call)) e) [
            | inl q ↦ absurd (let z : other ≡ call = grind (arith, nat_tests) in let most = least_at_most call l in omega (arith, z, most, below))
            | inr q ↦ absurd (tied (slice_get calls other) (slice_get calls call) refl refl q)
          ]

      least_is : (call : ℕ) → call < length calls → least_alike calls call ≡ slice_index classes call
      unfolding least_alike
      least_is call l = ap (or_itself call) (found_first (λ other. is_alike calls other call) (length calls) (slice_index classes call)
          (let z = least_at_most call l in omega arith) (none_before call l) (least_is_alike call l))

      pub classes_are : classes ≡ classes_of calls
      classes_are = fill_by_all (least_alike calls) classes (length calls) 0 (joined.each ∙ rows_many) (λ k l. sym (least_is k l))
