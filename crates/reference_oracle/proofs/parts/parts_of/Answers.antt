use Rattle.std.proofs.Common.{◌<◌, ◌≤◌, arith, length}
use Rattle.reference_oracle.proofs.PartsPut.{all_put, none_put, token_put}
use Rattle.reference_oracle.proofs.parts.parts_of.Goals as goal

pub tokens-init : goal.tokens-init
tokens-init c = none_put c.args.program.now c.in_ok-lists.lists.items c.in_ok-lists.ensures

pub tokens-preserved : goal.tokens-preserved
tokens-preserved c =
    let p = c.args.program.now in
    let within : c.tokens.token < length p.rows = let e = c.tokens-test.true in let f = c.in-Ok.ensures in let g = c.rows.ensures in omega (arith, e, f, g) in
    token_put p c.tokens.lists.items c.put_at.new.lists.items c.tokens.token within c.in_ok-put_at.ensures c.tokens.invariant

pub returns : goal.returns
returns c =
    let p = c.args.program.now in
    let done : length p.rows ≤ c.tokens.token = let e = c.tokens-test.false in let f = c.in-Ok.ensures in let g = c.rows.ensures in omega (arith, e, f, g) in
    all_put p c.tokens.lists.items c.tokens.token done c.tokens.invariant
