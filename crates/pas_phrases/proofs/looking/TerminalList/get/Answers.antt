use Rattle.std.proofs.Common.{◌∙◌, ap, arith, length, sym}
use Rattle.grammar.specs.Nodes.{next}
use Rattle.pas_phrases.proofs.NextToken.{token_nowhere, token_there}
use Rattle.pas_phrases.proofs.looking.TerminalList.get.Goals as goal

pub returns-in-Some-clause-next : goal.returns-in-Some-clause-next
returns-in-Some-clause-next c =
    sym (ap next (token_there _ _ c.args.at c.in-Some.found.now (c.deref.ensures.value ∙ c.self.view_is) c.in-Some.ensures.lookup.3.0
    c.in-Some.ensures.lookup.1))

pub returns-in-Some-clause-inside : goal.returns-in-Some-clause-inside
returns-in-Some-clause-inside c =
    let same = c.deref.ensures.value ∙ c.self.view_is in
    let long = ap length same in (
      omega (arith, long, c.in-Some.ensures.lookup.3.0),
      omega (arith, long, c.in-Some.ensures.lookup.3.0, c.self.invariant),
      token_there _ _ c.args.at c.in-Some.found.now same c.in-Some.ensures.lookup.3.0 c.in-Some.ensures.lookup.1,
    )

pub returns-in-None-clause-next : goal.returns-in-None-clause-next
returns-in-None-clause-next c = sym (ap next (token_nowhere _ _ c.args.at (c.deref.ensures.value ∙ c.self.view_is) c.in-None.ensures.lookup.3))

pub returns-in-None-clause-inside : goal.returns-in-None-clause-inside
returns-in-None-clause-inside c = token_nowhere _ _ c.args.at (c.deref.ensures.value ∙ c.self.view_is) c.in-None.ensures.lookup.3
