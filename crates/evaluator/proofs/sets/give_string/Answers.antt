use Rattle.std.proofs.Common.{◌==◌, ◌∙◌, ◌≡◌, [], ℕ, List, None, Option, Some, ap, false, length, slice_get, sym}
use Rattle.std.specs.Prelude.{unwrap_or}
use Rattle.core_program.specs.{Expressions.string_in, Tree.Cells, Tree.Ret, Tree.bind}
use Rattle.core_program.specs.Values as values
use Rattle.evaluator.proofs.sets.give_string.Goals as goal
use Rattle.evaluator.specs.Rest.{waiting}

-- a token with a text that is not empty has a text
text_there : (o : Option (List ℕ)) (text : List ℕ) → text ≡ unwrap_or o [] → (length text == 0) ≡ false
    → string_in o ≡ Ret (Cells (values.string_of text))
text_there (Some t) text e h = ap (λ l. Ret (Cells (values.string_of l))) (sym e)
text_there None text e h = absurd (let q : ⊥ = cc in q)

pub returns-clause-turns : goal.returns-clause-turns
returns-clause-turns c p m u same =
    c.give_cells.ensures.turns p m u (same ∙ ap (λ t. bind t (waiting p c.args.body.now)) (text_there (slice_get c.args.program.now.texts c.args.token) _
    c.text-text.ensures (sym c.is_empty.ensures ∙ c.if-is_empty.false)) ∙ ap (λ l. waiting p c.args.body.now (Cells l)) (sym c.in_ok-cells.ensures))
