-- A card from its first line and its other lines.
use Rattle.std.proofs.Common.{◌++◌, ◌∙◌, ◌≡◌, ◌≤◌, [], ℕ, List, Option, Some, ap, append_assoc, length, slice_get, sym}
use Rattle.std.proofs.lemmas.Option.{slice_get_past}
use Rattle.call_tree.specs.{Recording.routines_of, declared.records.Call.Call}
use Rattle.cell_names.specs.{Conformant.arguments_of, Finding.Finding, Finding.finding_of, Names.Scene, Places.finds, declared.places.PlacedPart.PlacedPart}
use Rattle.question_text.specs.{Frames.opened_from, Lines.call_line, Lines.routine_line}
use Rattle.question_text.specs.Cards.{Recorded, card, card_by, card_lines, question, question_by, scene_of}

-- what names stand on, by its parts
abbrev pub scene_by : Recorded → Finding → List ℕ → (ℕ → Option PlacedPart) → Scene
scene_by r finding routines opened = record {
  program = r.program;
  finding = finding;
  routines = routines;
  args = arguments_of r.calls;
  opened = opened;
}

pub no_card : (r : Recorded) (k : ℕ) → length r.calls ≤ k → card r k ≡ []
unfolding card
no_card r k past = ap (card_by r k) (slice_get_past r.calls k past)

pub no_question : (r : Recorded) (k : ℕ) → length r.calls ≤ k → question r k ≡ []
unfolding question
no_question r k past = ap (question_by r k) (slice_get_past r.calls k past)

pub lines_are : (r : Recorded) (k : ℕ) (call : Call) (finding : Finding) (routines : List ℕ) (opened : ℕ → Option PlacedPart) (out new : List ℕ)
    → finding ≡ finding_of r.program r.tokens r.log → routines ≡ routines_of r.calls
    → opened ≡ finds (opened_from r.calls (length r.calls) (Some k)) → new ≡ out ++ card_lines r k (scene_by r finding routines opened) call
    → new ≡ out ++ card_lines r k (scene_of r k) call
lines_are r k call finding routines opened out new f g h lines =
    let s : scene_by r finding routines opened ≡ scene_of r k = λ i. record {
      program = r.program;
      finding = f i;
      routines = g i;
      args = arguments_of r.calls;
      opened = h i;
    } in
    lines ∙ ap (λ t. out ++ card_lines r k t call) s

-- a first line and the lines after it
headed : (out mid new head rest : List ℕ) → mid ≡ out ++ head → new ≡ mid ++ rest → new ≡ out ++ (head ++ rest)
headed out mid new head rest first others = others ∙ ap (λ m. m ++ rest) first ∙ append_assoc out head rest

pub card_is : (r : Recorded) (k : ℕ) (call : Call) (out mid new : List ℕ) → slice_get r.calls k ≡ Some call
    → mid ≡ out ++ call_line r.program k call → new ≡ mid ++ card_lines r k (scene_of r k) call → new ≡ out ++ card r k
unfolding card
card_is r k call out mid new found first others =
    headed out mid new (call_line r.program k call) (card_lines r k (scene_of r k) call) first others ∙ ap (λ o. out ++ card_by r k o) (sym found)

pub question_is : (r : Recorded) (k : ℕ) (call : Call) (out mid new : List ℕ) → slice_get r.calls k ≡ Some call
    → mid ≡ out ++ routine_line r.program call → new ≡ mid ++ card_lines r k (scene_of r k) call → new ≡ out ++ question r k
unfolding question
question_is r k call out mid new found first others =
    headed out mid new (routine_line r.program call) (card_lines r k (scene_of r k) call) first others ∙ ap (λ o. out ++ question_by r k o) (sym found)
