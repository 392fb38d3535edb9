use Rattle.std.proofs.Common.{◌∙◌, ap, sym}
use Rattle.check_steps.proofs.NameLists.{place_kept}
use Rattle.check_steps.proofs.tables.Tables.number_of.Goals as goal
use Rattle.check_steps.specs.{Known.Known, Words.number_of_name}

pub returns-in-Some : goal.returns-in-Some
returns-in-Some c =
    sym c.in-Some.is ∙ place_kept c.self.inside.names.keys c.args.name.now c.get_index_of.result c.get_index_of.ensures.index
    ∙ ap (λ (k : Known). number_of_name k.names c.args.name.now) c.self.view_is

pub returns-in-None : goal.returns-in-None
returns-in-None c =
    sym c.in-None.is ∙ place_kept c.self.inside.names.keys c.args.name.now c.get_index_of.result c.get_index_of.ensures.index
    ∙ ap (λ (k : Known). number_of_name k.names c.args.name.now) c.self.view_is
