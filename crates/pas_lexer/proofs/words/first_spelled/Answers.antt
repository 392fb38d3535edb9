use Rattle.std.proofs.Common.{◌≡◌, true}
use Rattle.pas_lexer.proofs.LongestInTable.{respelled, spelled, word_here, word_later}
use Rattle.pas_lexer.proofs.words.first_spelled.Goals as goal
use Rattle.pas_lexer.specs.{Lexis.lower_case, declared.kinds.Word.TheVariants.WAnd}

pub returns-then-eq_ignore_ascii_case : goal.returns-then-eq_ignore_ascii_case
returns-then-eq_ignore_ascii_case c =
    word_here c.args.words.now c.loop-word.word-index WAnd (lower_case c.args.text.now) c.loop-word-test.true
    (spelled c.args.text.now c.text.result.now _ c.text.ensures (c.eq_ignore_ascii_case.ensures.test.0 c.if-eq_ignore_ascii_case.true))
    c.loop-word.invariant

pub loop-word-preserved : goal.loop-word-preserved
loop-word-preserved c =
    word_later c.args.words.now c.loop-word.word-index WAnd (lower_case c.args.text.now) c.loop-word-test.true (λ e. let yes : c.eq_ignore_ascii_case.result
    ≡ true = c.eq_ignore_ascii_case.ensures.test.1 (respelled c.args.text.now c.text.result.now _ c.text.ensures e) in
    let no = c.if-eq_ignore_ascii_case.false in cc) c.loop-word.invariant
