-- A card leaves out links alone.
use Rattle.std.proofs.Common.{if◌then◌else◌, ◌++◌, ◌∷◌, ◌≡◌, [], ℕ, All, Bool, List, Some, ap, codes, false, is_some, refl, subst, sym, true}
use Rattle.std.{proofs.lemmas.List.Elements.All-cons, proofs.lemmas.List.Elements.All-nil, specs.List.slice_get}
use Rattle.cell_value.specs.Effects.{changes_of, reads_of}
use Rattle.pas_lexer.specs.Lexed.{Lexed}
use Rattle.core_program.specs.{ProgramRows.ProgramRows, ProgramRows.routine_at, Run.run}
use Rattle.call_tree.specs.{Told.part_of, declared.records.Call.Call}
use Rattle.program_run.specs.History.{recording_of}
use Rattle.cell_names.specs.Names.{Scene, is_link, root_at}
use Rattle.question_text.specs.{Cells.change_text, Cells.seen_text, Lines.inner_line}
use Rattle.question_text.specs.Cards.{Recorded, result_text, result_type, result_value_text, scene_of}
use Rattle.debuggee.proofs.{CallsAreNumbered.calls_kept, FramesFollow.frames_of_run}
use Rattle.debuggee.specs.Execution.{Supply, execution_of}
use Rattle.debuggee.specs.LeftOut.{IsLine, LeavesOutLinks, LinkLeftOut, Shown, ShownAs}

line : (inner : List ℕ) → IsLine (inner_line inner)
line inner = record { inner = inner; is = refl }

all_of : {X : Type 0} (P : X → Type 0) → ((x : X) → P x) → (xs : List X) → All P xs
all_of P h [] = All-nil P
all_of P h (x ∷ xs) = All-cons P x xs (h x) (all_of P h xs)

shown_as : (s : Scene) (a : ℕ) (inner : List ℕ) → ShownAs s a (if is_link s a then [] else inner_line inner)
shown_as s a inner = by (is_link s a) refl
  where
    by : (b : Bool) → is_link s a ≡ b → ShownAs s a (if b then [] else inner_line inner)
    by true e = LinkLeftOut e refl
    by false e = Shown (line inner)

pub cards_leave_out : (p : ProgramRows) (t : Lexed) (s : Supply) (number : ℕ) (call : Call)
    → slice_get (execution_of t p s).recorded.calls number ≡ Some call → LeavesOutLinks (execution_of t p s).recorded number call
cards_leave_out p t s number call e = record {
  routine = ap is_some (frames_of_run p s.input s.budget number call (subst (λ calls. slice_get calls number ≡ Some call)
      (sym (calls_kept p s (recording_of p (run p s.input s.budget)) refl)) e)).has;
  parameters = λ place v. line _;
  reads = all_of _ (λ x. shown_as scene x.0 (seen_text scene x.0 (root_at scene x.0) x.1)) (reads_of call.entry.top (part_of r.log call));
  changes = all_of _ (λ x. shown_as scene x.0 (change_text scene x.0 (root_at scene x.0) x.1)) (changes_of call.entry.top (part_of r.log call));
  result = λ v h. subst (λ o. IsLine (result_text p call.routine o)) (sym h)
      (line (codes "result " ++ result_value_text p (result_type p (routine_at p call.routine)) v));
}
  where
    r : Recorded
    r = (execution_of t p s).recorded

    scene : Scene
    scene = scene_of r number
