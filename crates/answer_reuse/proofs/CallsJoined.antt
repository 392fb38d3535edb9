-- Calls with the same key are joined into one class, one after the other.
use Rattle.std.proofs.Common.{◌+◌, ◌-◌, ◌<◌, ◌↔◌, ◌∙◌, ◌≡◌, ◌≤◌, ◌⊎◌, ℕ, Bool, IsTrue, List, Some, ap, arith, false, get_or-set_other, get_or-set_same, inl}
use Rattle.std.proofs.Common.{inr, length, refl, slice_get, slice_index, slice_set, subst, sym, true}
use Rattle.std.proofs.lemmas.{Bool.Decides.eqb_tells, Option.slice_get_within}
use Rattle.std.proofs.lemmas.List.{length-set, FromFn.get_or-range_with_len, FromFn.length-range_with_len}
use Rattle.cell_value.specs.Effects.{looked_of}
use Rattle.core_program.proofs.OutcomesCompose.{some_same}
use Rattle.call_tree.specs.Told.{part_of}
use Rattle.call_tree.specs.declared.records.Call as table
use Rattle.program_run.specs.declared.history.History.{History}
use Rattle.answer_book.specs.Numbers.{numbers_below}
use Rattle.answer_reuse.proofs.KeysInOrder.{calls_rise, key_is, keyed_of, same_between}
use Rattle.answer_reuse.specs.{Kept.AreJoined, Kept.HasLesser, Kept.joined_one, declared.keys.Keyed.Keyed}
use Rattle.answer_reuse.specs.Keys.{args_key, items_key, key_head, key_of, touches_key}
use Rattle.answer_reuse.specs.Sorting.{AreKeys, AreSorted, IsKeyOf, SameKey}

module _ (h : History) where
  -- a call has one key
  pub same_call : (k l : Keyed) → IsKeyOf h k → IsKeyOf h l → k.call ≡ l.call → SameKey h k l
  same_call k l a b e =
      let row : k.row.now ≡ l.row.now = some_same (sym a.row ∙ ap (slice_get h.calls.calls) e ∙ b.row) in
      let looked : k.looked ≡ l.looked = a.keyed.looked ∙ ap (λ (q : table.Call). looked_of q.entry.place (part_of h.log q)) row ∙ sym b.keyed.looked in
      λ i. record {
        head = key_head (row i) (looked i);
        args = args_key (row i).args;
        touches = touches_key h.log (row i);
        items = items_key h.input (row i).entry.place (looked i);
      }

  pub joined_first : (keys : List Keyed) → AreJoined h keys 1 (numbers_below (length h.calls.calls))
  joined_first keys = record {
    each = length-range_with_len 0 (length h.calls.calls);
    same = λ i j k l a b ik jl e.
        let here : i ≡ j = omega arith in
        let key : k ≡ l = some_same (sym ik ∙ ap (slice_get keys) here ∙ jl) in
        ap (λ (k : Keyed). slice_index (numbers_below (length h.calls.calls)) k.call) key;
    least = λ call l. inl (get_or-range_with_len 0 (length h.calls.calls) call 0 l ∙ (let z : 0 + call ≡ call = omega arith in z));
  }

  pub joined_fewer : (keys : List Keyed) (many few : ℕ) (classes : List ℕ) → few ≤ many → AreJoined h keys many classes → AreJoined h keys few classes
  joined_fewer keys many few classes l g = record {
    each = g.each;
    same = λ i j k m a b. g.same i j k m (omega arith) (omega arith);
    least = g.least;
  }

  module _ (keys : List Keyed) (s : AreSorted h keys) (classes : List ℕ) (m : ℕ) (b c : Keyed) (at : slice_get keys m ≡ Some b)
      (next : slice_get keys (m + 1) ≡ Some c) (g : AreJoined h keys (m + 1) classes)
    where
      last_is : (j : ℕ) (k : Keyed) → slice_get keys j ≡ Some k → j ≡ m + 1 → k ≡ c
      last_is j k e q = some_same (sym e ∙ ap (slice_get keys) q ∙ next)

      pub joined_apart : (SameKey h b c → ⊥) → AreJoined h keys (m + 2) classes
      joined_apart other = record {
        each = g.each;
        same = λ i j k l a d ik jl e. elim (eqb_tells i (m + 1)) [
          | inl p ↦ elim (eqb_tells j (m + 1)) [
            | inl q ↦ ap (λ (k : Keyed). slice_index classes k.call) (last_is i k ik p.1 ∙ sym (last_is j l jl q.1))
            | inr q ↦ absurd (other (same_between h keys s j m (m + 1) l b c (let z = q.1 in omega arith) (omega arith) jl at next
                (sym e ∙ ap (λ (k : Keyed). key_of h k) (last_is i k ik p.1))))
          ]
          | inr p ↦ elim (eqb_tells j (m + 1)) [
            | inl q ↦ absurd (other (same_between h keys s i m (m + 1) k b c (let z = p.1 in omega arith) (omega arith) ik at next
                (e ∙ ap (λ (k : Keyed). key_of h k) (last_is j l jl q.1))))
            | inr q ↦ g.same i j k l (let z = p.1 in omega arith) (let z = q.1 in omega arith) ik jl e
          ]
        ];
        least = g.least;
      }

      module _ (same : SameKey h b c) (inside : c.call < length classes) where
        abbrev value : ℕ
        value = slice_index classes b.call

        abbrev after : List ℕ
        after = slice_set classes c.call value

        at_last : slice_index after c.call ≡ value
        at_last = get_or-set_same classes c.call value 0 inside

        at_other : (call : ℕ) → (call ≡ c.call → ⊥) → slice_index after call ≡ slice_index classes call
        at_other call h = get_or-set_other classes c.call call value 0 h

        stays : (j : ℕ) (k : Keyed) → j ≤ m → slice_get keys j ≡ Some k → slice_index after k.call ≡ slice_index classes k.call
        stays j k l e = elim (eqb_tells k.call c.call) [
          | inl q ↦ ap (slice_index after) q.1 ∙ at_last ∙ g.same m j b k (omega arith) (omega arith) at e
              (same ∙ sym (same_call k c (key_is h keys s j k e) (key_is h keys s (m + 1) c next) q.1))
          | inr q ↦ at_other k.call q.1
        ]

        with_last : (j : ℕ) (k : Keyed) → j ≤ m → slice_get keys j ≡ Some k → SameKey h k c → slice_index after k.call ≡ slice_index after c.call
        with_last j k l e q = stays j k l e ∙ g.same j m k b (omega arith) (omega arith) e at (q ∙ sym same) ∙ sym at_last

        least_of : (call : ℕ) → call ≡ c.call → (slice_index classes b.call ≡ b.call) ⊎ HasLesser h keys b.call value
            → (slice_index after call ≡ call) ⊎ HasLesser h keys call (slice_index after call)
        least_of call q o =
            let rises = calls_rise h keys s m (m + 1) b c (omega arith) at next same in
            let is : slice_index after call ≡ value = ap (slice_index after) q ∙ at_last in
            elim o [
              | inl e ↦ elim (eqb_tells b.call c.call) [
                | inl p ↦ inl (is ∙ e ∙ p.1 ∙ sym q)
                | inr p ↦ inr (record {
                  at = m + 1;
                  key = c;
                  stands = next;
                  is = sym q;
                  lesser = m;
                  other = b;
                  other_stands = at;
                  other_is = sym (is ∙ e);
                  less = (let z = p.1 in omega (arith, rises, z, is, e, q));
                  same = sym same;
                })
              ]
              | inr f ↦ inr (record {
                at = m + 1;
                key = c;
                stands = next;
                is = sym q;
                lesser = f.lesser;
                other = f.other;
                other_stands = f.other_stands;
                other_is = f.other_is ∙ sym is;
                less = omega (arith, f.less, rises, is, q);
                same = sym same ∙ same_call b f.key (key_is h keys s m b at) (key_is h keys s f.at f.key f.stands) (sym f.is) ∙ f.same;
              })
            ]

        pub joined_same : b.call < length h.calls.calls → AreJoined h keys (m + 2) after
        joined_same within = record {
          each = length-set classes c.call value ∙ g.each;
          same = λ i j k l a d ik jl e. elim (eqb_tells i (m + 1)) [
            | inl p ↦ elim (eqb_tells j (m + 1)) [
              | inl q ↦ ap (λ (k : Keyed). slice_index after k.call) (last_is i k ik p.1 ∙ sym (last_is j l jl q.1))
              | inr q ↦ ap (λ (k : Keyed). slice_index after k.call) (last_is i k ik p.1)
                  ∙ sym (with_last j l (let z = q.1 in omega arith) jl (sym e ∙ ap (λ (k : Keyed). key_of h k) (last_is i k ik p.1)))
            ]
            | inr p ↦ elim (eqb_tells j (m + 1)) [
              | inl q ↦ with_last i k (let z = p.1 in omega arith) ik (e ∙ ap (λ (k : Keyed). key_of h k) (last_is j l jl q.1))
                  ∙ ap (λ (k : Keyed). slice_index after k.call) (sym (last_is j l jl q.1))
              | inr q ↦ stays i k (let z = p.1 in omega arith) ik
                  ∙ g.same i j k l (let z = p.1 in omega arith) (let z = q.1 in omega arith) ik jl e
                  ∙ sym (stays j l (let z = q.1 in omega arith) jl)
            ]
          ];
          least = λ call l. elim (eqb_tells call c.call) [
            | inl q ↦ least_of call q.1 (g.least b.call within)
            | inr q ↦ subst (λ v. (v ≡ call) ⊎ HasLesser h keys call v) (sym (at_other call q.1)) (g.least call l)
          ];
        }

  -- ---- a turn

  pub key_inside : (keys : List Keyed) → AreKeys h keys → (i : ℕ) (k : Keyed) → slice_get keys i ≡ Some k → k.call < length h.calls.calls
  key_inside keys g i k e = slice_get_within h.calls.calls k.call k.row.now (keyed_of h keys g i k e).row

  pub call_inside : (keys : List Keyed) → AreSorted h keys → (i : ℕ) (k : Keyed) → slice_get keys i ≡ Some k → k.call < length h.calls.calls
  call_inside keys s i k e = slice_get_within h.calls.calls k.call k.row.now (key_is h keys s i k e).row

  pub joined_turn : (keys : List Keyed) → AreSorted h keys → (classes : List ℕ) (i : ℕ) (b c : Keyed) → 1 ≤ i → slice_get keys (i - 1) ≡ Some b
      → slice_get keys i ≡ Some c → AreJoined h keys i classes → (t : Bool) → IsTrue t ↔ SameKey h b c → (new : List ℕ)
      → new ≡ joined_one classes t b.call c.call → AreJoined h keys (i + 1) new
  joined_turn keys s classes i b c first at next g t tells new e =
      let one : i - 1 + 1 ≡ i = omega arith in
      let two : i - 1 + 2 ≡ i + 1 = omega arith in
      let g' = subst (λ n. AreJoined h keys n classes) (sym one) g in
      let next' = ap (slice_get keys) one ∙ next in
      subst (AreJoined h keys (i + 1)) (sym e) (subst (λ n. AreJoined h keys n (joined_one classes t b.call c.call)) two (by t tells g' next'))
    where
      by : (t : Bool) → IsTrue t ↔ SameKey h b c → AreJoined h keys (i - 1 + 1) classes → slice_get keys (i - 1 + 1) ≡ Some c
          → AreJoined h keys (i - 1 + 2) (joined_one classes t b.call c.call)
      by true tells g next = joined_same keys s classes (i - 1) b c at next g (tells.0 refl)
          (let l = call_inside keys s i c (ap (slice_get keys) (let z : i ≡ i - 1 + 1 = omega arith in z) ∙ next) in omega (arith, l, g.each))
          (call_inside keys s (i - 1) b at)
      by false tells g next = joined_apart keys s classes (i - 1) b c at next g (λ q. absurd (let z : false ≡ true = tells.1 q in cc))

pub joined_as_many : (classes : List ℕ) (t : Bool) (lesser call : ℕ) (new : List ℕ) → new ≡ joined_one classes t lesser call → length new ≡ length classes
joined_as_many classes true lesser call new e = ap length e ∙ length-set classes call (slice_index classes lesser)
joined_as_many classes false lesser call new e = ap length e
