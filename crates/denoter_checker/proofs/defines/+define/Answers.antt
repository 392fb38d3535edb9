use Rattle.std.proofs.Common.{◌≡◌, IfOk, subst, sym}
use Rattle.check_steps.specs.declared.work.Work.{Work}
use Rattle.denoter_checker.proofs.Walks.{fields_defined}
use Rattle.denoter_checker.proofs.defines.+define.Goals as goal

pub define_in_fields-returns-in_ok-define_fixed-in-Fixed : goal.define_in_fields-returns-in_ok-define_fixed-in-Fixed
define_in_fields-returns-in_ok-define_fixed-in-Fixed t c =
    let a = c.args in
    let done = fields_defined a.wanted a.region a.fields.now _ _ _ a.work.now _ c.in-Fixed.is c.in_ok-define_fixed-in-Fixed.ensures in
    subst (λ (p : Unit {0} × Work). IfOk c.define_part.result (λ x. p ≡ (tt, c.define_part.new.work))) (sym done) c.define_part.ensures
