use Rattle.std.proofs.Common.{◌∙◌, arith, sym}
use Rattle.cell_names.proofs.PartsPassed.{none_first, none_next}
use Rattle.cell_names.proofs.walks.first_selected.Goals as goal
use Rattle.cell_names.specs.Walks.{is_selected}

pub fields-init : goal.fields-init
fields-init c = record {
  inside = λ h. absurd (omega (arith, h));
  none = none_first (λ part. is_selected c.args.program.now part c.args.name.now) c.args.fields.now c.args.from;
}

pub fields-preserved : goal.fields-preserved
fields-preserved c =
    let t = c.fields-test.true in
    record {
      inside = λ h. omega (arith, t);
      none = none_next (λ part. is_selected c.args.program.now part c.args.name.now) c.args.fields.now
          c.args.from c.fields.at (record { place = 0; number = 0 }) c.fields.invariant.none
          (omega (arith, t)) (sym c.is_selected.ensures ∙ c.if-is_selected.false);
    }
