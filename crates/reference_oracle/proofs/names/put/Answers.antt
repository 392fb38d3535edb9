use Rattle.std.proofs.{Common.◌∙◌, Common.Some, Common.ap, Common.cond, lemmas.Map.Text.is_eq-slice_cmp}
use Rattle.reference_oracle.proofs.NamesFound.{bytes_turned}
use Rattle.reference_oracle.proofs.names.put.Goals as goal
use Rattle.reference_oracle.specs.NamesKept.{named_at}

pub returns : goal.returns
returns c wanted =
    let name = c.args.name.items in
    c.in_ok-insert.ensures.updates.0 wanted
    ∙ ap (λ b. cond b (Some c.args.variable) (named_at c.args.named.now wanted)) (is_eq-slice_cmp name wanted.items ∙ bytes_turned name wanted.items)
