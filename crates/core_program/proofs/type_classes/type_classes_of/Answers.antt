use Rattle.std.{proofs.Common.◌≡◌, proofs.Common.arith, proofs.Common.subst, specs.HashMap.get}
use Rattle.core_program.proofs.TypesClassed.{all_types_classed}
use Rattle.core_program.proofs.type_classes.type_classes_of.Goals as goal
use Rattle.core_program.specs.TypeClasses.{TypesClassed, same_type_form}

pub returns : goal.returns
returns c =
    let e : c.types.at ≡ 0 = omega (arith, c.types-test.false) in
    all_types_classed c.args.tables.now c.requires.whole (get same_type_form c.types.known) c.types.types.items
    (subst (λ at. TypesClassed c.args.tables.now (get same_type_form c.types.known) at c.types.types.items) e c.types.invariant.classed)
