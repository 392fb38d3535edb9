use Rattle.std.proofs.Common.{◌∙◌, arith, sym}
use Rattle.cell_names.proofs.PartsPassed.{none_first, none_next}
use Rattle.cell_names.proofs.walks.first_frame.Goals as goal
use Rattle.cell_names.specs.{Names.scene_in, Walks.is_of_frame}

pub frames-init : goal.frames-init
frames-init c = record {
  inside = λ h. absurd (omega (arith, h));
  none = none_first (λ part. is_of_frame (scene_in c.args.scene.now) part c.args.name.now) c.args.frames.now c.args.from;
}

pub frames-preserved : goal.frames-preserved
frames-preserved c =
    let t = c.frames-test.true in
    record {
      inside = λ h. omega (arith, t);
      none = none_next (λ part. is_of_frame (scene_in c.args.scene.now) part c.args.name.now) c.args.frames.now
          c.args.from c.frames.at (record { place = 0; number = 0 }) c.frames.invariant.none
          (omega (arith, t)) (sym c.is_of_frame.ensures ∙ c.if-is_of_frame.false);
    }
