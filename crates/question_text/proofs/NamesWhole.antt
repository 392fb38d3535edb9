-- The cell of a name, by what a call changed.
use Rattle.std.proofs.Common.{◌<◌, ◌∙◌, ◌≡◌, ℕ, List, None, Option, Some, ap, arith, inl, inr, length, option_map, refl, sym}
use Rattle.std.{proofs.lemmas.Option.slice_get_cases, specs.List.slice_get}
use Rattle.cell_value.specs.declared.entries.Change.{Change}
use Rattle.core_program.proofs.OutcomesCompose.{none_some}
use Rattle.call_tree.specs.declared.records.Call.{Call}
use Rattle.question_text.specs.{Cards.Recorded, Prepared.AreParts, declared.prepared.CardParts.CardParts}
use Rattle.question_text.specs.CellNames.{cell_named, cell_named_by, change_named}

module _ (r : Recorded) (k : ℕ) (parts : CardParts) (name : List ℕ) (found : Option ℕ) (are : AreParts r k parts)
    (is : found ≡ option_map (λ (x : ℕ × Change). x.0) (change_named r k name parts.done.changes)) where
  by_call : (o : Option Call) → slice_get r.calls k ≡ o → k < length r.calls → found ≡ cell_named_by r k name o
  by_call None e inside = elim (slice_get_cases r.calls k).1 [
    | inl x ↦ absurd (none_some (sym e ∙ x.2))
    | inr past ↦ let p = past.0 in absurd (omega (arith, inside, p))
  ]
  by_call (Some call) e inside =
      is ∙ ap (λ (changes : List (ℕ × Change)). option_map (λ (x : ℕ × Change). x.0) (change_named r k name changes)) (are.done call e).changes

  pub cell_is : k < length r.calls → found ≡ cell_named r k name
  unfolding cell_named
  cell_is inside = by_call (slice_get r.calls k) refl inside
