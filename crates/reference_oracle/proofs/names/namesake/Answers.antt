use Rattle.std.proofs.Common.{◌∙◌, ap, find}
use Rattle.reference_oracle.proofs.names.namesake.Goals as goal
use Rattle.reference_oracle.specs.{Matches.block_variables, NamesKept.is_named}

pub returns : goal.returns
returns c p named =
    c.copied.ensures ∙ c.get.ensures.value ∙ named c.in_ok-name.name
    ∙ ap (λ name. find (is_named p name) (block_variables p)) c.in_ok-name.ensures
