-- The states of a call, by what names stand on.
use Rattle.std.proofs.Common.{◌++◌, ◌∙◌, ◌≡◌, ◌≤◌, [], ℕ, Bool, List, None, Option, Some, ap, false, length, refl, slice_get, sym}
use Rattle.std.proofs.lemmas.Option.{slice_get_past}
use Rattle.call_tree.specs.{Recording.routines_of, declared.records.Call.Call}
use Rattle.cell_names.specs.{Conformant.arguments_of, Finding.Finding, Finding.finding_of, Names.Scene, Names.root_at, Names.root_text, Places.finds}
use Rattle.cell_names.specs.declared.{names.Root.Root, places.PlacedPart.PlacedPart}
use Rattle.question_text.proofs.{CardsWhole.scene_by, CellsInTurn.no_cell_no_lines, CellsInTurn.none_of_two}
use Rattle.question_text.specs.{Cards.Recorded, Cards.scene_of, CellNames.cell_name, CellNames.name_in, Frames.opened_from}
use Rattle.question_text.specs.States.{has_cell, has_cell_by, is_between, lines_between, lines_by, state_text}

pub no_state : (r : Recorded) (k : ℕ) (name : List ℕ) → length r.calls ≤ k → state_text r k name ≡ []
unfolding state_text
no_state r k name past = ap (lines_by (scene_of r k) name) (slice_get_past r.calls k past)

pub no_cell_there : (r : Recorded) (k : ℕ) (name : List ℕ) → length r.calls ≤ k → has_cell r k name ≡ false
unfolding has_cell
no_cell_there r k name past = ap (has_cell_by (scene_of r k) name) (slice_get_past r.calls k past)

-- what names stand on is found as it is defined
pub record IsSceneOf (r : Recorded) (k : ℕ) (finding : Finding) (routines : List ℕ) (opened : ℕ → Option PlacedPart) : Type 0 where
  pub found : finding ≡ finding_of r.program r.tokens r.log
  pub column : routines ≡ routines_of r.calls
  pub frames : opened ≡ finds (opened_from r.calls (length r.calls) (Some k))

module _ (r : Recorded) (k : ℕ) (finding : Finding) (routines : List ℕ) (opened : ℕ → Option PlacedPart) where
  scene_is : IsSceneOf r k finding routines opened → scene_by r finding routines opened ≡ scene_of r k
  scene_is g = λ i. record {
    program = r.program;
    finding = g.found i;
    routines = g.column i;
    args = arguments_of r.calls;
    opened = g.frames i;
  }

  pub state_is : (call : Call) (name out new : List ℕ) → IsSceneOf r k finding routines opened → slice_get r.calls k ≡ Some call
      → new ≡ out ++ lines_by (scene_by r finding routines opened) name (Some call) → new ≡ out ++ state_text r k name
  unfolding state_text
  state_is call name out new g found written =
      written ∙ ap (λ s. out ++ lines_by s name (Some call)) (scene_is g) ∙ ap (λ c. out ++ lines_by (scene_of r k) name c) (sym found)

  pub name_is : (address : ℕ) (root : Option Root) (out new : List ℕ) → IsSceneOf r k finding routines opened
      → root ≡ root_at (scene_by r finding routines opened) address
      → new ≡ out ++ root_text (scene_by r finding routines opened) None address root → new ≡ out ++ cell_name r k address
  unfolding cell_name
  name_is address root out new g is written =
      written ∙ ap (λ o. out ++ root_text (scene_by r finding routines opened) None address o) is ∙ ap (λ s. out ++ name_in s address) (scene_is g)

  pub has_cell_is : (call : Call) (name : List ℕ) (some : Bool) → IsSceneOf r k finding routines opened → slice_get r.calls k ≡ Some call
      → some ≡ has_cell_by (scene_by r finding routines opened) name (Some call) → some ≡ has_cell r k name
  unfolding has_cell
  has_cell_is call name some g found is =
      is ∙ ap (λ s. has_cell_by s name (Some call)) (scene_is g) ∙ ap (λ c. has_cell_by (scene_of r k) name c) (sym found)

no_cell_no_text_by : (s : Scene) (name : List ℕ) (o : Option Call) → has_cell_by s name o ≡ false → lines_by s name o ≡ []
no_cell_no_text_by s name None e = refl
no_cell_no_text_by s name (Some call) e =
    let two = none_of_two (is_between s call name 0 call.entry.top) (is_between s call name 524288 call.exit.fresh) e in
    ap (λ l. l ++ lines_between s call name 524288 call.exit.fresh) (no_cell_no_lines s call name 0 call.entry.top two.0)
    ∙ no_cell_no_lines s call name 524288 call.exit.fresh two.1

-- where no cell has the name, the text is empty
pub no_cell_no_text : (r : Recorded) (k : ℕ) (name : List ℕ) → has_cell r k name ≡ false → state_text r k name ≡ []
unfolding has_cell state_text
no_cell_no_text r k name e = no_cell_no_text_by (scene_of r k) name (slice_get r.calls k) e
