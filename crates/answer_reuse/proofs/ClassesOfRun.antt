-- What the calls of a kept run give to the making of classes, and what holds of classes that are made.
use Rattle.std.proofs.Common.{◌+◌, ◌-◌, ◌<◌, ◌∙◌, ◌∷◌, ◌≡◌, ◌≤◌, ◌⊎◌, [], ℕ, All, Err, List, Ok, Some, ap, arith, get_or, inl, inr, length, map, refl}
use Rattle.std.proofs.Common.{slice_get, slice_index, subst, suc, sym, zero}
use Rattle.std.proofs.lemmas.{Bool.Decides.eqb_tells, List.length-map, Option.slice_get-get_or, Option.slice_get_cases, Option.slice_get_within}
use Rattle.core_program.proofs.OutcomesCompose.{none_some, some_same}
use Rattle.core_program.specs.{ProgramRows.ProgramRows, Run.Call, Run.Marked, Run.run, RunLaws.calls_in, RunLaws.most_bytes, WholeTables.WholeTables}
use Rattle.core_program.specs.Laws.{LastIsACall, OthersHaveAParent, SubtreeIsInterval}
use Rattle.core_program.specs.Numbering.{Child, InSubtree, Root, belows, depth_of, parent_of}
use Rattle.call_tree.specs.Told.{IsTold}
use Rattle.program_run.specs.{History.IsOfRun, declared.history.History.History}
use Rattle.body_replay.proofs.{RecordsOfRuns.RunOf, RecordsOfRuns.kept, RecordsOfRuns.run_of_history, WorkBegins.few_calls}
use Rattle.body_replay.specs.{Laws.CallsCarryToThemselves, Replays.records_of}
use Rattle.answer_reuse.proofs.{CallsJoined.same_call, KeysInOrder.key_is, KeysTell.alike_of_same_key, KeysTell.call_of_key}
use Rattle.answer_reuse.proofs.ClassesTold.{classes_are, rows_many, touches_are}
use Rattle.answer_reuse.specs.{Alike.DidTheSame, Kept.HasLesser, Kept.IsJoined, Sorting.AreSorted, Sorting.IsKeyOf, Sorting.SameKey, declared.keys.Keyed.Keyed}
use Rattle.answer_reuse.specs.Classes.{AreClasses, IsAlone, IsClassed, most_touches, rows_between}
use Rattle.answer_reuse.specs.Laws.{AlikeAreAsLarge, AlikeDidTheSame, OfAlikeCalls}
use Rattle.answer_reuse.specs.declared.faults.ClassFault.TheVariants as fault

-- the run of which all is kept, for whatever input it is that of
pub run_kept : {p : ProgramRows} {input : List ℕ} {h : History} → WholeTables p
    → (first : List ℕ) × (length first ≤ most_bytes) × IsOfRun p first h.budget h → h.budget ≤ 4000000 → IsOfRun p input h.budget h → RunOf p input h
run_kept whole r budget g = run_of_history (kept whole r.1 r.2 budget) g

below_of : (ms : List (Marked Call)) (k : ℕ) (c : Call) → slice_get (map (λ (e : Marked Call). e.event) ms) k ≡ Some c → slice_index (belows ms) k ≡ c.below
below_of [] k c e = absurd (none_some e)
below_of (m ∷ ms) zero c e = ap (λ (c : Call). c.below) (some_same e)
below_of (m ∷ ms) (suc k) c e = below_of ms k c e

-- each call is in the subtree of the first one
reach : (bs : List ℕ) → ((k : ℕ) → 0 < k → k < length bs → (j : ℕ) × ((parent_of bs k ≡ Some j) × (j < k) × (depth_of bs k ≡ depth_of bs j + 1)))
    → (m j : ℕ) → j < m → j < length bs → InSubtree bs 0 j
reach bs others zero j l inside = absurd (omega arith)
reach bs others (suc m) j l inside = elim (eqb_tells j 0) [
  | inl q ↦ subst (InSubtree bs 0) (sym q.1) Root
  | inr q ↦ let z = others j (let d = q.1 in omega arith) inside in
      let before = z.1.1 in
      Child j z.0 z.1.0 (reach bs others m z.0 (omega arith) (omega arith))
]

module _ {p : ProgramRows} {input : List ℕ} {h : History} (g : RunOf p input h) where
  pub few_rows : length h.calls.calls ≤ 500000
  few_rows = let many = rows_many g in let few = few_calls g in omega (arith, many, few)

  pub all_told : All (IsTold h.log h.input) h.calls.calls
  all_told = λ i d l. g.kept.told i (get_or h.calls.calls i d) (slice_get-get_or h.calls.calls i d l)

  pub too_many : (touches : ℕ) → touches ≡ rows_between h.calls.calls → most_touches < touches
      → IsClassed (records_of (run p input h.budget)) (Err (fault.TooMany touches))
  too_many touches is many = subst (λ x. IsClassed (records_of x) (Err (fault.TooMany touches))) (sym g.is) (is ∙ touches_are g, many)

  pub is_classed : CallsCarryToThemselves → AlikeDidTheSame → (keys : List Keyed) → AreSorted h keys → (classes : List ℕ) → IsJoined h keys classes
      → rows_between h.calls.calls ≤ most_touches → IsClassed (records_of (run p input h.budget)) (Ok classes)
  is_classed carry did keys s classes joined few = subst (λ x. IsClassed (records_of x) (Ok classes)) (sym g.is)
      (subst (λ n. n ≤ most_touches) (touches_are g) few, classes_are g carry did keys s classes joined)

  -- ---- what holds of alike calls holds in classes

  module _ (carry : CallsCarryToThemselves) (did : AlikeDidTheSame) (keys : List Keyed) (s : AreSorted h keys) (classes : List ℕ)
      (joined : IsJoined h keys classes) (P : Call → Call → Type 0) (law : OfAlikeCalls P) (itself : (c : Call) → P c c)
    where
      abbrev calls : List Call
      calls = calls_in g.result

      module _ (j k : ℕ) (c d : Call) (at : slice_get calls j ≡ Some c) (to : slice_get calls k ≡ Some d) where
        by_keys : (a b : Keyed) → IsKeyOf h a → IsKeyOf h b → a.call ≡ j → b.call ≡ k → SameKey h a b → P c d
        by_keys a b ka kb aj bk same =
            let r = call_of_key g carry did a ka in
            let t = call_of_key g carry did b kb in
            let one : r.call ≡ c = some_same (sym r.stands ∙ ap (slice_get calls) aj ∙ at) in
            let other : t.call ≡ d = some_same (sym t.stands ∙ ap (slice_get calls) bk ∙ to) in
            let alike = alike_of_same_key g carry did a b ka kb same in
            let both = law p g.kept.whole input h.budget g.result g.is a.call b.call r.call t.call r.stands t.stands alike in
            subst (λ c. P c d) one (subst (P r.call) other both)

        in_class : (least : ℕ) → (least ≡ j) ⊎ HasLesser h keys j least → (least ≡ k) ⊎ HasLesser h keys k least → P c d
        in_class least (inl e) (inl f) = subst (P c) (some_same (sym at ∙ ap (slice_get calls) (sym e ∙ f) ∙ to)) (itself c)
        in_class least (inl e) (inr f) = by_keys f.other f.key (key_is h keys s f.lesser f.other f.other_stands) (key_is h keys s f.at f.key f.stands)
            (f.other_is ∙ e) f.is (sym f.same)
        in_class least (inr e) (inl f) = by_keys e.key e.other (key_is h keys s e.at e.key e.stands) (key_is h keys s e.lesser e.other e.other_stands)
            e.is (e.other_is ∙ f) e.same
        in_class least (inr e) (inr f) =
            let one = key_is h keys s e.lesser e.other e.other_stands in
            let other = key_is h keys s f.lesser f.other f.other_stands in
            by_keys e.key f.key (key_is h keys s e.at e.key e.stands) (key_is h keys s f.at f.key f.stands) e.is f.is
            (e.same ∙ same_call h e.other f.other one other (e.other_is ∙ sym f.other_is) ∙ sym f.same)

      pub in_classes : AreClasses P calls classes
      in_classes j k c d at to e =
          let many = rows_many g in
          in_class j k c d at to (slice_index classes k)
          (subst (λ least. (least ≡ j) ⊎ HasLesser h keys j least) e (joined.least j (let z = slice_get_within calls j c at in omega arith)))
          (joined.least k (let z = slice_get_within calls k d to in omega arith))

  -- ---- calls of one class did the same, and call 0 is alone

  module _ (carry : CallsCarryToThemselves) (did : AlikeDidTheSame) (keys : List Keyed) (s : AreSorted h keys) (classes : List ℕ)
      (joined : IsJoined h keys classes)
    where
      pub are_same : AreClasses DidTheSame (records_of (run p input h.budget)) classes
      are_same = subst (λ x. AreClasses DidTheSame (records_of x) classes) (sym g.is)
          (in_classes carry did keys s classes joined DidTheSame did
          (λ c. record { way = refl; result = refl; changes = refl; made = refl; taken = refl; given = refl }))

      pub first_alone : AlikeAreAsLarge → SubtreeIsInterval → LastIsACall → OthersHaveAParent → IsAlone classes
      first_alone large subtree last others call l e = elim (eqb_tells call 0) [
        | inl q ↦ q.1
        | inr q ↦ elim (slice_get_cases (calls_in g.result) call).1 [
          | inl c ↦ elim (slice_get_cases (calls_in g.result) 0).1 [
            | inl d ↦ absurd (
                let bs = belows g.result.events in
                let many : length bs ≡ length (calls_in g.result) = length-map g.result.events (λ (e : Marked Call). e.event.below)
                ∙ sym (length-map g.result.events (λ (e : Marked Call). e.event)) in
                let same = in_classes carry did keys s classes joined (λ c d. c.below ≡ d.below) large (λ c. refl) call 0 c.0 d.0 c.2 d.2 e in
                let own = below_of g.result.events call c.0 c.2 in
                let first = below_of g.result.events 0 d.0 d.2 in
                let inside = c.1 in
                let within = last p input h.budget g.result g.is call (omega arith) in
                let all = reach bs (others p input h.budget g.result g.is) (length bs) (length bs - 1) (omega arith) (omega arith) in
                let whole = ((subtree p input h.budget g.result g.is 0 (length bs - 1) (omega arith)).0 all).1 in
                let apart = q.1 in
                omega (arith, many, same, own, first, inside, within, whole, apart))
            | inr d ↦ let past = d.0 in let inside = c.1 in absurd (omega arith)
          ]
          | inr c ↦ let past = c.0 in let many = rows_many g in let each = joined.each in absurd (omega arith)
        ]
      ]
