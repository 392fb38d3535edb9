-- What the rows of a call and of its answer say is what verdicts are, and one call has one verdict.
use Rattle.std.proofs.Common.{◌∙◌, ◌≡◌, ap, refl, subst, sym}
use Rattle.std.specs.FinMap.{get}
use Rattle.core_program.{proofs.OutcomesCompose.some_same, specs.Agree.EndedByItself, specs.Run.Call}
use Rattle.reference_oracle.proofs.VerdictsTested.{same_routine}
use Rattle.reference_oracle.specs.{Answers.IsSameAnswer, Answers.SameWay, Answers.answer_of, Fitting.Asked, Verdicts.IsAnswered, Verdicts.Says}
use Rattle.reference_oracle.specs.Compared.{Compared, IsComparisonOf, IsSameByRows, SaysByRows}
use Rattle.reference_oracle.specs.declared.verdicts.Verdict.{Verdict, TheVariants.NoAnswer, TheVariants.Right, TheVariants.Unfit, TheVariants.Wrong}

-- ---- by rows

module _ {a : Asked} {d : Call} {x : Compared} (k : IsComparisonOf a d x) where
  same_by_rows : IsSameByRows x → IsSameAnswer a d
  same_by_rows s = record {
    way = subst (λ w. SameWay w d.way) k.way (subst (SameWay x.row.way) k.other_way s.way);
    result = sym k.other_result ∙ s.result ∙ k.result;
    cells = λ address there e.
        ap (λ m. get m there) (sym k.other_cells) ∙ s.cells address there (k.places address ∙ e) ∙ ap (λ m. get m address) k.cells;
    taken = sym k.other_taken ∙ s.taken ∙ k.taken;
    given = sym k.other_given ∙ s.given ∙ k.given;
  }

  rows_by_same : IsSameAnswer a d → IsSameByRows x
  rows_by_same s = record {
    way = subst (λ w. SameWay w x.first.way) (sym k.way) (subst (SameWay a.call.way) (sym k.other_way) s.way);
    result = k.other_result ∙ s.result ∙ sym k.result;
    cells = λ address there e.
        ap (λ m. get m there) k.other_cells ∙ s.cells address there (sym (k.places address) ∙ e) ∙ ap (λ m. get m address) (sym k.cells);
    taken = k.other_taken ∙ s.taken ∙ sym k.taken;
    given = k.other_given ∙ s.given ∙ sym k.given;
  }

  pub says_so : IsAnswered a d → (v : Verdict) → SaysByRows x v → Says a v
  says_so y Unfit h = absurd h
  says_so y (NoAnswer way) h = (d, y, λ e. h.0 (subst EndedByItself (sym k.other_way) e), sym k.other_way ∙ h.1)
  says_so y Right h = (d, y, subst EndedByItself k.other_way h.0, same_by_rows h.1)
  says_so y Wrong h = (d, y, subst EndedByItself k.other_way h.0, λ s. h.1 (rows_by_same s))

-- ---- one verdict

one_answer : {a : Asked} {d e : Call} → IsAnswered a d → IsAnswered a e → d ≡ e
one_answer {a = a} f g =
    some_same (sym f.answer ∙ ap (answer_of a) (same_routine a f.routine g.routine f.fits.answered_by g.fits.answered_by) ∙ g.answer)

-- at most one verdict can be said of a call
pub one_verdict : (a : Asked) (v w : Verdict) → Says a v → Says a w → v ≡ w
one_verdict a Unfit Unfit f g = refl
one_verdict a Unfit (NoAnswer way) f g = absurd (f g.1.routine g.1.fits)
one_verdict a Unfit Right f g = absurd (f g.1.routine g.1.fits)
one_verdict a Unfit Wrong f g = absurd (f g.1.routine g.1.fits)
one_verdict a (NoAnswer way) Unfit f g = absurd (g f.1.routine f.1.fits)
one_verdict a (NoAnswer way) (NoAnswer other) f g = ap NoAnswer (sym f.3 ∙ ap (λ (c : Call). c.way) (one_answer f.1 g.1) ∙ g.3)
one_verdict a (NoAnswer way) Right f g = absurd (f.2 (subst (λ (c : Call). EndedByItself c.way) (one_answer g.1 f.1) g.2))
one_verdict a (NoAnswer way) Wrong f g = absurd (f.2 (subst (λ (c : Call). EndedByItself c.way) (one_answer g.1 f.1) g.2))
one_verdict a Right Unfit f g = absurd (g f.1.routine f.1.fits)
one_verdict a Right (NoAnswer way) f g = absurd (g.2 (subst (λ (c : Call). EndedByItself c.way) (one_answer f.1 g.1) f.2))
one_verdict a Right Right f g = refl
one_verdict a Right Wrong f g = absurd (g.3 (subst (IsSameAnswer a) (one_answer f.1 g.1) f.3))
one_verdict a Wrong Unfit f g = absurd (g f.1.routine f.1.fits)
one_verdict a Wrong (NoAnswer way) f g = absurd (g.2 (subst (λ (c : Call). EndedByItself c.way) (one_answer f.1 g.1) f.2))
one_verdict a Wrong Right f g = absurd (f.3 (subst (IsSameAnswer a) (one_answer g.1 f.1) g.3))
one_verdict a Wrong Wrong f g = refl
