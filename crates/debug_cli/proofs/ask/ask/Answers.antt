use Rattle.std.proofs.Common.{◌∙◌, ℕ, Err, List, None, Some, ap, inl, refl, subst}
use Rattle.debug_cli.proofs.StatusTellsWhy.{made_gone, refusal_gone, session_gone, words_gone}
use Rattle.debug_cli.proofs.ask.ask.Goals as goal
use Rattle.debug_cli.specs.{Given.GivesText, Meaning.IsWithinLimits, Outside.outside, Reading.meant_of, Setting.NamesNoFile}
use Rattle.debug_cli.specs.declared.{request.Asked.Asked, status.Status.Status}

pub ask_about-requires-clause-budget : goal.ask_about-requires-clause-budget
ask_about-requires-clause-budget g c =
    subst (λ (a : Asked). IsWithinLimits (meant_of a)) c.in-Ok-Source.field-0-is c.in-Ok-Source.ensures.range

pub made_text-requires : goal.made_text-requires
made_text-requires g c = subst (λ (a : Asked). IsWithinLimits (meant_of a)) c.in-Ok-Made.field-0-is c.in-Ok-Made.ensures.range

pub returns-in-Ok-clause-gone : goal.returns-in-Ok-clause-gone
returns-in-Ok-clause-gone g c =
    session_gone (c.in-Ok-Source.ensures.meant ∙ ap (λ (a : Asked). Some (meant_of a)) c.in-Ok-Source.field-0-is) c.ask_about.ensures.gone
    c.in-Ok.ensures.refused refl

pub returns-in-Err-clause-gone : goal.returns-in-Err-clause-gone
returns-in-Err-clause-gone g c =
    refusal_gone (c.in-Ok-Source.ensures.meant ∙ ap (λ (a : Asked). Some (meant_of a)) c.in-Ok-Source.field-0-is) c.in-Err.refusal
    c.in-Err.ensures.refused refl c.refuse.ensures.says

pub returns-in-Ok-made_text-clause-gone : goal.returns-in-Ok-made_text-clause-gone
returns-in-Ok-made_text-clause-gone g c =
    let made = c.in-Ok-made_text.ensures.text in
    let given = subst
    (λ (b : List ℕ). GivesText c.give_text.result Status.Done b (g.O.Printer.given c.args.screen.now) (g.O.Printer.given c.give_text.new.screen))
    (c.as_slice.ensures ∙ made.1) c.give_text.ensures.gives in
    made_gone (c.in-Ok-Made.ensures.meant ∙ ap (λ (a : Asked). Some (meant_of a)) c.in-Ok-Made.field-0-is) (record { files = refl; left = refl }) refl
    made.0 given

pub returns-in-Err-made_text-clause-gone : goal.returns-in-Err-made_text-clause-gone
returns-in-Err-made_text-clause-gone g c =
    refusal_gone (c.in-Ok-Made.ensures.meant ∙ ap (λ (a : Asked). Some (meant_of a)) c.in-Ok-Made.field-0-is) c.in-Err-made_text.refusal
    (c.in-Err-made_text.ensures.refused (outside (g.K.Keeper.files c.args.keeper.now) (g.K.Keeper.counts c.args.keeper.now) None None)) refl
    c.refuse-in-Err-made_text.ensures.says

pub returns-in-Err-Refused-clause-gone : goal.returns-in-Err-Refused-clause-gone
returns-in-Err-Refused-clause-gone g c =
    words_gone (c.in-Err-Refused.ensures.refused (ap Err c.in-Err-Refused.field-0-is)) (record { files = refl; left = refl }) refl
    c.give_text-in-Err-Refused.ensures.gives

pub returns-in-Err-Memory-clause-gone : goal.returns-in-Err-Memory-clause-gone
returns-in-Err-Memory-clause-gone g c =
    record { goes = inl (record { given = refl; counts = inl refl; alone = record { files = refl; left = refl } }) }

pub returns-in-Ok-clause-untouched : goal.returns-in-Ok-clause-untouched
returns-in-Ok-clause-untouched g c = λ no.
    absurd (subst NamesNoFile (c.in-Ok-Source.ensures.meant ∙ ap (λ (a : Asked). Some (meant_of a)) c.in-Ok-Source.field-0-is) no)

pub returns-in-Err-clause-untouched : goal.returns-in-Err-clause-untouched
returns-in-Err-clause-untouched g c = λ no.
    absurd (subst NamesNoFile (c.in-Ok-Source.ensures.meant ∙ ap (λ (a : Asked). Some (meant_of a)) c.in-Ok-Source.field-0-is) no)
