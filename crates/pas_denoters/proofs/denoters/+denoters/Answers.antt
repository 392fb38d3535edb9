use Rattle.std.proofs.Common.{arith, refl}
use Rattle.pas_tree.proofs.Parts.{parts}
use Rattle.pas_phrases.proofs.{Failures.handed_on, ReadLists.list_read}
use Rattle.pas_phrases.proofs.ReadSeries.{series_end_fails, series_pair_fails, series_pair_more, series_read}
use Rattle.pas_denoters.proofs.FieldSeries.{arms, sections}
use Rattle.pas_denoters.proofs.denoters.+denoters.Goals as goal

pub read_next_denoters-returns-clause-gives : goal.read_next_denoters-returns-clause-gives
read_next_denoters-returns-clause-gives t c = list_read parts.next_denoter c.denoters.invariant.so_far (cc)

pub read_sections-sections-preserved : goal.read_sections-sections-preserved
read_sections-sections-preserved t c = record {
  so_far = series_pair_more {q = sections} c.sections.invariant.so_far (cc) c.in_ok-semicolon.ensures.gives c.in_ok-section.ensures.gives
      c.in_ok-push.ensures.items refl;
  forward = omega (arith, c.in_ok-semicolon.ensures.forward, c.in_ok-section.ensures.forward);
}

pub read_sections-returns-in_err-section-clause-gives : goal.read_sections-returns-in_err-section-clause-gives
read_sections-returns-in_err-section-clause-gives t c =
    handed_on _ _ _ _ _ c.from_residual-in_err-section.ensures.1
    (series_pair_fails {q = sections} _ _ c.sections.invariant.so_far (cc) c.in_ok-semicolon.ensures.gives c.in_err-section.ensures.gives)

pub read_sections-returns-in_err-end-clause-gives : goal.read_sections-returns-in_err-end-clause-gives
read_sections-returns-in_err-end-clause-gives t c =
    handed_on _ _ _ _ _ c.from_residual-in_err-end.ensures.1
    (series_end_fails {q = sections} _ _ c.sections.invariant.so_far (cc) c.in_err-end.ensures.gives)

pub read_sections-returns-clause-gives : goal.read_sections-returns-clause-gives
read_sections-returns-clause-gives t c = series_read {q = sections} c.sections.invariant.so_far (cc) c.in_ok-end.ensures.gives

pub read_arms-arms-preserved : goal.read_arms-arms-preserved
read_arms-arms-preserved t c = record {
  so_far = series_pair_more {q = arms} c.arms.invariant.so_far (cc) c.in_ok-semicolon.ensures.gives c.in_ok-arm.ensures.gives c.in_ok-push.ensures.items refl;
  forward = omega (arith, c.in_ok-semicolon.ensures.forward, c.in_ok-arm.ensures.forward);
}

pub read_arms-returns-in_err-arm-clause-gives : goal.read_arms-returns-in_err-arm-clause-gives
read_arms-returns-in_err-arm-clause-gives t c =
    handed_on _ _ _ _ _ c.from_residual-in_err-arm.ensures.1
    (series_pair_fails {q = arms} _ _ c.arms.invariant.so_far (cc) c.in_ok-semicolon.ensures.gives c.in_err-arm.ensures.gives)

pub read_arms-returns-in_err-end-clause-gives : goal.read_arms-returns-in_err-end-clause-gives
read_arms-returns-in_err-end-clause-gives t c =
    handed_on _ _ _ _ _ c.from_residual-in_err-end.ensures.1
    (series_end_fails {q = arms} _ _ c.arms.invariant.so_far (cc) c.in_err-end.ensures.gives)

pub read_arms-returns-clause-gives : goal.read_arms-returns-clause-gives
read_arms-returns-clause-gives t c = series_read {q = arms} c.arms.invariant.so_far (cc) c.in_ok-end.ensures.gives
