use Rattle.std.proofs.Common.{◌∙◌, ℕ, Option, ap, sym}
use Rattle.std.specs.Prelude.{unwrap_or}
use Rattle.check_steps.proofs.NameLists.{place_kept}
use Rattle.check_steps.proofs.words.number.Goals as goal

pub returns-in-Some : goal.returns-in-Some
returns-in-Some c =
    ap (λ (o : Option ℕ). unwrap_or o 0)
    (sym c.in-Some.is ∙ place_kept c.args.names.now.keys c.args.name.now c.get_index_of.result c.get_index_of.ensures.index)

pub returns-in-None : goal.returns-in-None
returns-in-None c =
    ap (λ (o : Option ℕ). unwrap_or o 0)
    (sym c.in-None.is ∙ place_kept c.args.names.now.keys c.args.name.now c.get_index_of.result c.get_index_of.ensures.index)
