-- What a reference is asked with, by the columns of places, is what the definition says.
use Rattle.std.proofs.Common.{◌∙◌, ◌∷◌, ◌≡◌, [], ℕ, List, Option, ap, drop, map, refl, suc, unwrap_or, zero}
use Rattle.std.specs.{FinMap.FinMap, FinMap.empty, FinMap.get, List.range_with_len, Option.option_and_then, Ordering.nat_cmp}
use Rattle.cell_value.specs.declared.values.Value.{Value, TheVariants.Frame, TheVariants.Nil, TheVariants.Undefined}
use Rattle.core_program.specs.{Blocks.filled, ProgramRows.frame_of, State.State, State.stack_end}
use Rattle.call_tree.specs.declared.records.Call as table
use Rattle.call_tree.specs.declared.records.Side.{Side}
use Rattle.program_run.specs.{CalledFrom.state_from, declared.history.History.History}
use Rattle.reference_oracle.specs.{Fitting.Asked, Kept.IsKeptCall, Matches.matches, Matches.turned, Places.ArePlaces, declared.matches.Match.Match}
use Rattle.reference_oracle.specs.Answers.{block_frame, moved_value, reference_args, reference_entry}
use Rattle.reference_oracle.specs.Asking.{args_by, frame_by, moved_by, side_for}

frame_is : (ms : List Match) (σ : State) (store : FinMap nat_cmp Value) (back : List (Option ℕ)) → ArePlaces (map turned ms) back → store ≡ σ.cells
    → (cells : ℕ) → frame_by store back cells ≡ block_frame ms σ cells
frame_is ms σ store back h e zero = refl
frame_is ms σ store back h e (suc variables) =
    λ i. Nil ∷ map (λ address. unwrap_or (option_and_then (λ a. get (e i) a) (h address i)) Undefined) (range_with_len 1 variables)

moved_is : (ms : List Match) (places : List (Option ℕ)) → ArePlaces ms places → (v : Value) → moved_by places v ≡ moved_value ms v
moved_is ms places h (Value.Place address) = ap (λ o. Value.Place (unwrap_or o address)) (h address)
moved_is ms places h v = refl

module _ (a : Asked) {run : History} {row : table.Call} (k : IsKeptCall run row a.call) where
  pub entry_is : (back : List (Option ℕ)) → ArePlaces (map turned (matches a.programs)) back → (side : Side)
      → side ≡ side_for (filled 0 (frame_by row.entry.store back (frame_of a.programs.reference 0)) empty) (frame_of a.programs.reference 0) a.budget
      → (items : List ℕ) → items ≡ drop row.entry.place run.input → state_from side 1 items ≡ reference_entry a
  entry_is back h side s items e =
      let cells = frame_of a.programs.reference 0 in
      ap (λ (t : Side). state_from t 1 items) s
      ∙ (λ i. record {
        cells = filled 0 (frame_is (matches a.programs) a.call.entry row.entry.store back h k.cells cells i) empty;
        top = cells;
        fresh = stack_end;
        items = (e ∙ (λ j. drop (k.place j) (k.items j))) i;
        place = 0;
        output = [];
        steps = a.budget;
        calls = 1;
        depth = 1;
      })

  pub args_are : (places : List (Option ℕ)) → ArePlaces (matches a.programs) places → args_by places row.args ≡ reference_args a
  args_are places h = λ i. Frame 0 ∷ map (λ v. moved_is (matches a.programs) places h v i) (drop 1 (k.args i))
