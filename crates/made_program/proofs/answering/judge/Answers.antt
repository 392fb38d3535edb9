use Rattle.std.proofs.Common.{◌+◌, ◌∙◌, ◌≡◌, ℕ, Ok, Result, length, refl, subst, sym}
use Rattle.std.specs.Result.{IsOk}
use Rattle.answer_book.specs.declared.entries.BookFault.{BookFault}
use Rattle.made_program.proofs.Answered.{in_book, taken}
use Rattle.made_program.proofs.answering.judge.Goals as goal

pub unwrap-requires : goal.unwrap-requires
unwrap-requires g c =
    let s = g.D.Debugged.subject c.args.run.now in
    let book = c.args.debug.now.book in
    let inside = in_book s c.args.debug.now c.args.call c.requires.search c.requires.a_call in
    let fits : c.judge.result ≡ Ok (length book.entries + 1) = c.judge.ensures.answer ∙ taken book c.args.call inside c.requires.room in
    subst (λ (r : Result ℕ BookFault). IsOk r) (sym fits) refl
