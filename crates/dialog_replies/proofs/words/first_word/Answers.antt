use Rattle.std.proofs.Common.{◌∙◌, ◌∷◌, ℕ, List, ap, drop, not, sym, take}
use Rattle.dialog_replies.proofs.WordsInTurn.{no_words, rest_is, some_words}
use Rattle.dialog_replies.proofs.words.first_word.Goals as goal
use Rattle.dialog_replies.specs.Words.{count_while, is_space_or_tab, words}

pub returns-then-end-eq0-clause-first : goal.returns-then-end-eq0-clause-first
returns-then-end-eq0-clause-first c =
    no_words c.args.text.now c.after_blanks-from.result.now c.after_blanks-from.ensures (sym c.solid-end.ensures.counted ∙ c.if-end-eq0.true)

pub returns-clause-first : goal.returns-clause-first
returns-clause-first c =
    let from = c.after_blanks-from.result.now in
    some_words c.args.text.now from c.solid-end.result c.after_blanks-from.ensures c.solid-end.ensures.counted c.if-end-eq0.false
    ∙ ap (λ (rest : List ℕ). take c.solid-end.result from ∷ words rest) (sym (rest_is from c.solid-end.result))

pub returns-clause-rest : goal.returns-clause-rest
returns-clause-rest c =
    let from = c.after_blanks-from.result.now in
    rest_is from c.solid-end.result ∙ ap (λ (n : ℕ). drop n from) c.solid-end.ensures.counted
    ∙ ap (λ (l : List ℕ). drop (count_while (λ c. not (is_space_or_tab c)) l) l) c.after_blanks-from.ensures
