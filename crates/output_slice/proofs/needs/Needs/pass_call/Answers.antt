use Rattle.std.proofs.Common.{◌∙◌, refl, sym}
use Rattle.output_slice.proofs.NeedsPassed.{met_before, unmet_before}
use Rattle.output_slice.proofs.needs.Needs.pass_call.Goals as goal

pub returns-then-is_used : goal.returns-then-is_used
returns-then-is_used c call us f e w h =
    met_before call c.args.effect.now c.args.self.now c.want_met.new.self c.remove_changed.new.cells us (sym e ∙ c.if-is_used.true) c.remove_changed.ensures
    c.want_met.ensures.cells c.want_met.ensures.input c.want_met.ensures.heap f w h

pub returns-else-is_used : goal.returns-else-is_used
returns-else-is_used c call us f e w h =
    unmet_before call c.args.effect.now c.args.self.now _ us (sym e ∙ c.if-is_used.false) c.remove_changed.ensures refl refl f w h
