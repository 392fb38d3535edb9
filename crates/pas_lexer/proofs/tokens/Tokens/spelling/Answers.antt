use Rattle.std.proofs.Common.{ap, arith, length}
use Rattle.pas_lexer.proofs.SpellingsInOrder.{found, found_spelling}
use Rattle.pas_lexer.proofs.tokens.Tokens.spelling.Goals as goal

pub slice_bounds-result-count : goal.slice_bounds-result-count
slice_bounds-result-count c = (found c.args.self.now c.args.i c.index-place.result.now c.self.inside.tokens.items c.self.inside.source.items
    c.self.inside.spellings.items c.self.inside.places.items c.self.view_is c.self.invariant.spelled c.requires c.index-place.ensures).spelled.forward

pub slice_bounds-result-start : goal.slice_bounds-result-start
slice_bounds-result-start c = (found c.args.self.now c.args.i c.index-place.result.now c.self.inside.tokens.items c.self.inside.source.items
    c.self.inside.spellings.items c.self.inside.places.items c.self.view_is c.self.invariant.spelled c.requires c.index-place.ensures).spelled.forward

pub slice_bounds-result-end : goal.slice_bounds-result-end
slice_bounds-result-end c =
    let f = found c.args.self.now c.args.i c.index-place.result.now c.self.inside.tokens.items c.self.inside.source.items c.self.inside.spellings.items
    c.self.inside.places.items c.self.view_is c.self.invariant.spelled c.requires c.index-place.ensures in
    omega (arith, f.spelled.inside, ap length c.deref.ensures.value)

pub returns : goal.returns
returns c = λ t g.
    let f = found c.args.self.now c.args.i c.index-place.result.now c.self.inside.tokens.items c.self.inside.source.items c.self.inside.spellings.items
    c.self.inside.places.items c.self.view_is c.self.invariant.spelled c.requires c.index-place.ensures in
    found_spelling c.args.self.now c.args.i c.index-place.result.now c.self.inside.spellings.items c.deref.result.now t f c.deref.ensures.value g
