use Rattle.std.proofs.Common.{◌≡◌, ℕ, IfOk, subst, sym}
use Rattle.check_steps.specs.declared.work.Work.{Work}
use Rattle.denoter_checker.proofs.Walks.{fields_placed}
use Rattle.denoter_checker.proofs.denoters.+denoters.Goals as goal

pub check_fields-returns-in_ok-next-in-Fixed : goal.check_fields-returns-in_ok-next-in-Fixed
check_fields-returns-in_ok-next-in-Fixed t c =
    let a = c.args in
    let done = fields_placed a.scope a.holder a.offset a.fields.now _ _ _ a.work.now _ _ c.in-Fixed.is c.in_ok-next-in-Fixed.ensures in
    subst (λ (p : ℕ × Work). IfOk c.check_part.result (λ x. p ≡ (x, c.check_part.new.work))) (sym done) c.check_part.ensures
