use Rattle.std.{proofs.Common.◌≡◌, proofs.Common.arith, proofs.Common.subst, specs.HashMap.get}
use Rattle.core_program.proofs.ListsClassed.{all_classed}
use Rattle.core_program.proofs.classes.classes_of.Goals as goal
use Rattle.core_program.specs.Classes.{Classed, same_form}

pub returns : goal.returns
returns c =
    let e : c.lists.at ≡ 0 = omega (arith, c.lists-test.false) in
    all_classed c.args.tables.now c.requires.whole c.in_ok-types.types.items c.in_ok-types.ensures (get same_form c.lists.known) c.lists.classes.items
    (subst (λ at. Classed c.args.tables.now c.in_ok-types.types.items (get same_form c.lists.known) at c.lists.classes.items) e c.lists.invariant.classed)
