-- Where a call fits, the reference can be asked.
use Rattle.std.proofs.Common.{◌∙◌, ◌≡◌, ◌≤◌, ℕ, List, ap, arith, length, refl, suc, zero}
use Rattle.std.proofs.lemmas.List.{length-map, FromFn.length-range_with_len}
use Rattle.std.specs.{FinMap.empty, FinMap.get-empty, List.range_with_len, Ordering.nat_cmp}
use Rattle.core_program.proofs.Cells.{filled_above, filled_there}
use Rattle.core_program.specs.{ProgramRows.frame_of, State.IsSound, State.State, State.stack_end}
use Rattle.reference_oracle.proofs.VerdictsTested.{is_there}
use Rattle.reference_oracle.specs.{Fitting.Asked, Matches.matches, declared.matches.Match.Match}
use Rattle.reference_oracle.specs.Answers.{block_frame, held_at_entry, reference_entry}
use Rattle.reference_oracle.specs.Laws as law

frame_length : (ms : List Match) (σ : State) (cells : ℕ) → length (block_frame ms σ cells) ≡ cells
frame_length ms σ zero = refl
frame_length ms σ (suc variables) =
    ap suc (length-map (range_with_len 1 variables) (held_at_entry ms σ) ∙ length-range_with_len 1 variables)

sound : (a : Asked) → frame_of a.programs.reference 0 ≤ stack_end → IsSound (reference_entry a)
sound a fits =
    let cells = frame_of a.programs.reference 0 in
    let vs = block_frame (matches a.programs) a.call.entry cells in
    let size : length vs ≡ cells = frame_length (matches a.programs) a.call.entry cells in
    record {
      stack = λ addr h. filled_there 0 vs empty addr (omega arith) (omega (arith, h, size));
      above_stack = λ addr h k. filled_above 0 vs empty addr (omega (arith, h, size)) ∙ get-empty nat_cmp addr;
      above_heap = λ addr h. filled_above 0 vs empty addr (omega (arith, h, size, fits)) ∙ get-empty nat_cmp addr;
      stack_fits = fits;
      heap_begins = omega arith;
      heap_fits = omega arith;
      input = omega arith;
      calls = omega arith;
      depth = omega arith;
    }

pub can_be_asked : law.ReferencesCanBeAsked
can_be_asked a routine f = record {
  there = is_there a routine f.answered_by;
  sound = sound a (let r = f.room in omega (arith, r));
  frame = f.room;
  calls = omega arith;
  depth = omega arith;
}
