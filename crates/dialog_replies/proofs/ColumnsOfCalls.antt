-- What the columns of a run have at a call.
use Rattle.std.proofs.Common.{◌∙◌, ◌∷◌, ◌≡◌, [], ℕ, List, ap, length, map, refl, slice_index, suc, sym}
use Rattle.call_tree.specs.{Recording.Recording, Recording.routines_of, declared.records.Call.Call}
use Rattle.optimal_query.specs.Search.{new_search}
use Rattle.dialog_replies.specs.{Kept.AreCallsOf, Kept.IsSearchOf, Subject.Subject, Subject.calls_recorded}

column_length : {X Y : Type 0} (f : X → Y) (xs : List X) → length (map f xs) ≡ length xs
column_length f [] = refl
column_length f (x ∷ xs) = ap suc (column_length f xs)

-- there are as many calls as the recording has
pub calls_counted : (s : Subject) (run : Recording) → AreCallsOf s run → calls_recorded s ≡ length run.calls
calls_counted s run h = ap (λ tree. length tree.last) h.tree ∙ column_length (λ (call : Call). call.last) run.calls

pub routines_counted : (s : Subject) (run : Recording) → AreCallsOf s run → length (routines_of run.calls) ≡ calls_recorded s
routines_counted s run h = column_length (λ (call : Call). call.routine) run.calls ∙ sym (calls_counted s run h)

pub routine_at : (s : Subject) (run : Recording) (call : ℕ) → AreCallsOf s run → slice_index (routines_of run.calls) call ≡ slice_index s.tree.routine call
routine_at s run call h = sym (ap (λ tree. slice_index tree.routine call) h.tree)

-- a new search over the calls of a run is one over them
pub new_is_search : (s : Subject) (run : Recording) → AreCallsOf s run → IsSearchOf s (new_search run)
new_is_search s run h = record {
  last = sym (ap (λ tree. tree.last) h.tree);
  routine = sym (ap (λ tree. tree.routine) h.tree);
  routines = sym h.routines;
  of_routines = column_length (λ (call : Call). call.routine) run.calls ∙ sym (column_length (λ (call : Call). call.last) run.calls);
  some = h.some;
}
