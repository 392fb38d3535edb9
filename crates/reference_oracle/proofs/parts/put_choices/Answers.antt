use Rattle.std.proofs.Common.{◌++◌, ◌+◌, ◌-◌, ◌<◌, ◌∙◌, ◌∷◌, ◌≡◌, [], None, Some, ap, append-nil, append_assoc, arith, length, sym}
use Rattle.reference_oracle.proofs.RecordsCompared.{choices_end, choices_more}
use Rattle.reference_oracle.proofs.parts.put_choices.Goals as goal
use Rattle.reference_oracle.specs.Shapes.{choice_at, choices_from}

pub returns-in_default : goal.returns-in_default
returns-in_default c =
    let p = c.args.program.now in
    let xs = c.constants.parts.items in
    let most = length p.rows - c.constants.step in
    let none : choice_at p c.constants.at ≡ None = let e = c.in_default.is in let f = c.choice_at.ensures in cc in
    sym (append-nil xs) ∙ ap (λ l. xs ++ l) (sym (choices_end p most c.constants.at none)) ∙ c.constants.invariant

pub constants-preserved : goal.constants-preserved
constants-preserved c =
    let p = c.args.program.now in
    let xs = c.constants.parts.items in
    let n = length p.rows in
    let k = c.constants.step in
    let there : choice_at p c.constants.at ≡ Some (c.in-Some.part, c.in-Some.next) =
    let e = c.in-Some.is in let f = c.choice_at.ensures in cc in
    let within : k < n = let e = c.constants-test.true in let f = c.rows-step-end.ensures in omega (arith, e, f) in
    let rest = choices_from p (n - (k + 1)) c.in-Some.next in
    ap (λ l. l ++ rest) c.in_ok-push.ensures.items
    ∙ append_assoc xs (c.in-Some.part ∷ []) rest
    ∙ ap (λ l. xs ++ l) (sym (choices_more p n k c.constants.at c.in-Some.part c.in-Some.next within there))
    ∙ c.constants.invariant
