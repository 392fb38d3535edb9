use Rattle.std.proofs.{Common.◌<◌, Common.◌≡◌, Common.arith, Common.length, lemmas.Bool.Decides.nat_tests}
use Rattle.check_steps.specs.Regions.{region_at}
use Rattle.statement_checker.proofs.Inside.{around-inside}
use Rattle.statement_checker.proofs.assignments.is_region_around.Goals as goal

-- src/assignments.rt:153:1
pub returns-then-frame-tokens : goal.returns-then-frame-tokens
returns-then-frame-tokens c =
    let k = c.args.tables.now in
    let begins : (region_at k.regions c.args.region).token ≡ c.args.token = grind (arith, nat_tests, c.region_token.ensures, c.if-region_token-token.true) in
    let below : c.args.frame < length k.words = grind (arith, nat_tests, c.tokens.ensures.count, c.if-frame-tokens.true) in
    λ known. around-inside k c.args.frame c.args.region c.args.token begins below (c.is_around.ensures known)
