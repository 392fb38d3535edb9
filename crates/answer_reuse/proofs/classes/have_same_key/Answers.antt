use Rattle.std.proofs.Common.{◌∙◌, ◌≡◌, Bool, Equal, Greater, Less, Ordering, ap, false, refl, sym, true}
use Rattle.std.specs.Ordering.{is_eq}
use Rattle.answer_reuse.proofs.KeysInOrder.{same_from_tie, tie_from_same}
use Rattle.answer_reuse.proofs.classes.have_same_key.Goals as goal
use Rattle.answer_reuse.specs.Keys.{compare_keys}

equal_from : (o : Ordering) → is_eq o ≡ true → o ≡ Equal
equal_from Equal e = refl
equal_from Less e = absurd (let z : false ≡ true = e in cc)
equal_from Greater e = absurd (let z : false ≡ true = e in cc)

pub returns : goal.returns
returns c =
    let run = c.args.run.now in
    let one = c.args.one.now in
    let other = c.args.other.now in
    let tie = c.is_eq.ensures ∙ ap is_eq c.compare_keys.ensures in
    (λ t. same_from_tie run one other (equal_from (compare_keys run one other) (sym tie ∙ t)), λ e. tie ∙ ap is_eq (tie_from_same run one other e))
