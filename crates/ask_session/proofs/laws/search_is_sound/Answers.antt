use Rattle.ask_session.proofs.ReportsAreSound.{tree_is}
use Rattle.ask_session.proofs.laws.search_is_sound.Goals as goal

pub returns-clause-asks : goal.returns-clause-asks
returns-clause-asks g c =
    let s = g.D.Debugged.subject c.args.run.now in
    c.reports_are_sound.ensures.asks s (tree_is s c.calls.result.now c.calls.ensures c.are_numbered.ensures.numbered)

pub returns-clause-narrows : goal.returns-clause-narrows
returns-clause-narrows g c =
    let s = g.D.Debugged.subject c.args.run.now in
    c.reports_are_sound.ensures.narrows s (tree_is s c.calls.result.now c.calls.ensures c.are_numbered.ensures.numbered)

pub returns-clause-names : goal.returns-clause-names
returns-clause-names g c =
    let s = g.D.Debugged.subject c.args.run.now in
    c.reports_are_sound.ensures.names s (tree_is s c.calls.result.now c.calls.ensures c.are_numbered.ensures.numbered)

pub returns-clause-finds : goal.returns-clause-finds
returns-clause-finds g c =
    let s = g.D.Debugged.subject c.args.run.now in
    c.reports_are_sound.ensures.finds s (tree_is s c.calls.result.now c.calls.ensures c.are_numbered.ensures.numbered)
