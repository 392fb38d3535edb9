-- The calls that are told of a slice are those with an output in it.
use Rattle.std.proofs.Common.{if◌then◌else◌, ◌∙◌, ◌≡◌, ℕ, Bool, List, None, Option, Some, ap, false, nat_le, refl, slice_get, sym, true}
use Rattle.core_program.specs.{Run.Call, Run.Marked, Run.Result as RunResult, Run.run, State.State}
use Rattle.output_slice.{proofs.SliceByOnePass.slice_list_is, specs.Backward.slice_list, specs.Backward.some_at}
use Rattle.output_slice.specs.{Outputs.has_output, Slices.most_touches, Touches.touches_below, declared.outputs.Output.Output}
use Rattle.dialog_replies.specs.declared.slices.SliceOf.{SliceOf}
use Rattle.dialog_replies.specs.declared.slices.SliceOf.TheVariants as slices
use Rattle.debuggee.proofs.SlicesOfRuns.{has_pair, pair_has}
use Rattle.debuggee.specs.Execution.{Execution}
use Rattle.debuggee.specs.Slicing.{SlicesAreTold, TellsSlice, output_named, slice_by, slice_if, slice_in, slice_named}

-- the calls that are told, none where there is no slice
abbrev calls_of : SliceOf (ℕ → Bool) → ℕ → Bool
calls_of (slices.Slice told) n = told n
calls_of slices.NoOutput n = false
calls_of slices.TooMany n = false

no_slice : {told : ℕ → Bool} → slices.NoOutput ≡ slices.Slice told → ⊥
no_slice e = cc

no_few : {told : ℕ → Bool} → slices.TooMany ≡ slices.Slice told → ⊥
no_few e = cc

module _ (h : Execution) (r : RunResult State Call) (is : run h.recorded.program h.supply.input h.supply.budget ≡ Some r) (k : ℕ) (name : List ℕ)
    (told : ℕ → Bool) where
  abbrev Tells : Type 0
  Tells = TellsSlice h r k name told

  module _ (o : Output) (named : output_named h.recorded k name ≡ Some o) where
    module _ (e : Marked Call) (at : slice_get r.events k ≡ Some e) where
      abbrev if_few : Bool → SliceOf (ℕ → Bool)
      if_few few = if few then slices.Slice (λ other. some_at other (slice_list r k o)) else slices.TooMany

      by_touches : has_output e.event o ≡ true → (few : Bool) → if_few few ≡ slices.Slice told → Tells
      by_touches has true same =
          let list = slice_list_is r k o in
          record {
            output = o;
            named = named;
            entry = e;
            of_call = at;
            is_output = has;
            each = λ other from is_in. sym (ap (λ s. calls_of s other) same) ∙ pair_has (slice_list r k o) list other from is_in;
            no_more = λ other f. has_pair (slice_list r k o) list other (ap (λ s. calls_of s other) same ∙ f);
          }
      by_touches has false same = absurd (no_few same)

      by_output : (has : Bool) → has_output e.event o ≡ has
          → (if has then if_few (nat_le (touches_below h.recorded.calls k e.event.below) most_touches) else slices.NoOutput) ≡ slices.Slice told → Tells
      by_output true f same = by_touches f (nat_le (touches_below h.recorded.calls k e.event.below) most_touches) same
      by_output false f same = absurd (no_slice same)

    by_entry : (x : Option (Marked Call)) → slice_get r.events k ≡ x → slice_by h.recorded.calls r k x o ≡ slices.Slice told → Tells
    by_entry (Some e) at same = by_output e at (has_output e.event o) refl same
    by_entry None at same = absurd (no_slice same)

  by_name : (x : Option Output) → output_named h.recorded k name ≡ x
      → slice_if h.recorded.calls (run h.recorded.program h.supply.input h.supply.budget) k x ≡ slices.Slice told → Tells
  by_name (Some o) named same =
      by_entry o named (slice_get r.events k) refl (sym (ap (λ x. slice_in h.recorded.calls x k o) is) ∙ same)
  by_name None named same = absurd (no_slice same)

pub slices_told : SlicesAreTold
unfolding slice_named
slices_told h r is k name told same = by_name h r is k name told (output_named h.recorded k name) refl same
