use Rattle.std.proofs.Common.{◌++◌, ◌∙◌, ◌∷◌, ◌≡◌, IfOk, ap, append-nil, arith, length, map, subst, sym}
use Rattle.std.proofs.lemmas.{Bool.Decides.nat_tests, List.nil_from_length}
use Rattle.cell_value.specs.declared.values.Value.{Value}
use Rattle.core_program.specs.Passed.{copied, placed}
use Rattle.evaluator.proofs.calls.arguments.Goals as goal
use Rattle.evaluator.specs.Rest.{copy_of}

pub returns-then-is_empty-clause-made : goal.returns-then-is_empty-clause-made
returns-then-is_empty-clause-made c =
    let t = c.is_empty.ensures in
    let u = c.if-is_empty.true in
    let none : length c.args.copies.now ≡ 0 = grind (arith, nat_tests, t, u) in
    subst (λ cs. IfOk c.with_link.result (λ args. args ≡ Value.Frame c.args.frame ∷ placed c.args.address (map copy_of cs) c.args.cells.now
    ++ copied (map copy_of cs))) (sym (nil_from_length c.args.copies.now none))
    (subst (λ l. IfOk c.with_link.result (λ args. args ≡ Value.Frame c.args.frame ∷ l)) (sym (append-nil c.args.cells.now)) c.with_link.ensures.made)

pub returns-clause-made : goal.returns-clause-made
returns-clause-made c = c.in_ok-append_copies.ensures.added ∙ ap (λ l. l ++ copied (map copy_of c.args.copies.now))
    (c.in_ok-args.ensures.made ∙ ap (λ l. Value.Frame c.args.frame ∷ l) c.in_ok-held.ensures.made)
