use Rattle.std.proofs.Common.{◌∙◌, arith, sym}
use Rattle.cell_names.proofs.IndicesPassed.{none_indexed}
use Rattle.cell_names.proofs.walks.passed_component.Goals as goal

pub returns-else-is_indexed-clause-passed : goal.returns-else-is_indexed-clause-passed
returns-else-is_indexed-clause-passed c = λ k above below.
    let one = c.saturating_add.ensures in let all = c.saturating_add-else-is_indexed.ensures in
    none_indexed c.args.program.now c.args.array c.args.place c.args.more c.in-Some.next c.left_of_component.result _ c.args.name.now
    c.in-Some.ensures.is (sym c.is_indexed.ensures ∙ c.if-is_indexed.false) c.left_of_component.ensures (omega (arith, one, all)) k above below
