use Rattle.std.proofs.Common.{◌∙◌, rules, sym}
use Rattle.check_steps.proofs.NameLists.{with_kept, with_new}
use Rattle.check_steps.proofs.words.add_name.Goals as goal

pub returns-in_ok-insert : goal.returns-in_ok-insert
returns-in_ok-insert c =
    with_new c.args.names.now.keys c.insert.new.self.keys c.args.name.now c.in_ok-name.name (sym c.contains.ensures ∙ c.if-not-contains.true) (search rules)
    c.in_ok-insert.ensures.keys

pub returns-else-not-contains : goal.returns-else-not-contains
returns-else-not-contains c = with_kept c.args.names.now.keys c.args.name.now (sym c.contains.ensures ∙ c.if-not-contains.false)
