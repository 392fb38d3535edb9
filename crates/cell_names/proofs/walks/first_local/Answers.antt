use Rattle.std.proofs.Common.{◌∙◌, arith, sym}
use Rattle.cell_names.proofs.PartsPassed.{none_first, none_next}
use Rattle.cell_names.proofs.walks.first_local.Goals as goal
use Rattle.cell_names.specs.Walks.{is_of_local}

pub locals-init : goal.locals-init
locals-init c = record {
  inside = λ h. absurd (omega (arith, h));
  none = none_first (λ part. is_of_local c.args.program.now c.args.left.now part) c.args.locals.now c.args.from;
}

pub locals-preserved : goal.locals-preserved
locals-preserved c =
    let t = c.locals-test.true in
    record {
      inside = λ h. omega (arith, t);
      none = none_next (λ part. is_of_local c.args.program.now c.args.left.now part) c.args.locals.now
          c.args.from c.locals.at (record { place = 0; number = 0 }) c.locals.invariant.none
          (omega (arith, t)) (sym c.is_of_local.ensures ∙ c.if-is_of_local.false);
    }
