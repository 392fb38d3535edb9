-- The keys of the calls of a run: those of the first calls, with one more, and in another order.
use Rattle.std.proofs.Common.{◌++◌, ◌+◌, ◌<◌, ◌∙◌, ◌∷◌, ◌≡◌, [], ℕ, All, Contains, IsPermutation, List, Some, ap, arith, inl, inr, refl, slice_get, subst, sym}
use Rattle.std.proofs.lemmas.{Bool.Decides.eqb_tells, List.Sorted.All-permutation, List.Sorted.Contains-permutation}
use Rattle.std.proofs.lemmas.List.Elements.{All-nil, All-push, Contains-append_left, Contains-push}
use Rattle.core_program.{proofs.OutcomesCompose.some_same, specs.Agree.EndedByItself}
use Rattle.call_tree.specs.declared.records.Call.{Call}
use Rattle.program_run.specs.declared.history.History.{History}
use Rattle.answer_reuse.specs.{Keys.IsKeyed, Sorting.AreKeysTo, Sorting.IsKeyOf, declared.keys.Keyed.Keyed}

module _ (h : History) where
  pub keys_none : AreKeysTo h 0 []
  keys_none = record {
    each = All-nil (IsKeyOf h);
    within = All-nil (λ k. k.call < 0);
    all = λ call row l. absurd (omega arith);
  }

  module _ (call : ℕ) (row : Call) (keys : List Keyed) (at : slice_get h.calls.calls call ≡ Some row) (g : AreKeysTo h call keys) where
    within_more : All (λ k. k.call < call + 1) keys
    within_more = λ i d l. let z = g.within i d l in omega arith

    pub keys_more : (k : Keyed) → EndedByItself row.way → k.call ≡ call → k.row.now ≡ row → IsKeyed h k → AreKeysTo h (call + 1) (keys ++ k ∷ [])
    keys_more k ended is same keyed = record {
      each = All-push (IsKeyOf h) keys k g.each (record {
        row = ap (slice_get h.calls.calls) is ∙ at ∙ ap Some (sym same);
        ended = subst (λ (q : Call). EndedByItself q.way) (sym same) ended;
        keyed = keyed;
      });
      within = All-push (λ k. k.call < call + 1) keys k within_more (omega arith);
      all = λ other r l e t. elim (eqb_tells other call) [
        | inl q ↦ (k, Contains-push keys k, is ∙ sym q.1)
        | inr q ↦ let z = g.all other r (let d = q.1 in omega arith) e t in (z.0, Contains-append_left keys (k ∷ []) z.0 z.1, z.2)
      ];
    }

    pub keys_same : (EndedByItself row.way → ⊥) → AreKeysTo h (call + 1) keys
    keys_same other = record {
      each = g.each;
      within = within_more;
      all = λ n r l e t. elim (eqb_tells n call) [
        | inl q ↦ absurd (other (subst (λ (q : Call). EndedByItself q.way) (some_same (sym e ∙ ap (slice_get h.calls.calls) q.1 ∙ at)) t))
        | inr q ↦ g.all n r (let d = q.1 in omega arith) e t
      ];
    }

  pub keys_permuted : (many : ℕ) (keys ks : List Keyed) → IsPermutation keys ks → AreKeysTo h many keys → AreKeysTo h many ks
  keys_permuted many keys ks moved g = record {
    each = All-permutation (IsKeyOf h) keys ks moved g.each;
    within = All-permutation (λ k. k.call < many) keys ks moved g.within;
    all = λ call row l e t. let z = g.all call row l e t in (z.0, Contains-permutation keys ks z.0 moved z.1, z.2);
  }
