use Rattle.std.proofs.Common.{◌<◌, ◌≤◌, ap, arith, length}
use Rattle.std.proofs.lemmas.Result.{err_from_is_err_and}
use Rattle.pas_parser.proofs.FirstRefusedToken.{exactly_after, exactly_none, exactly_there}
use Rattle.pas_parser.proofs.WholePrograms.{failed_there, not_that, not_that_either, read_there, refused_there, that, too_long, whole}
use Rattle.pas_parser.proofs.parsing.parse.Goals as goal
use Rattle.pas_parser.specs.Kinds.{terminals_of}

pub returns-in_err-tree-clause-only : goal.returns-in_err-tree-clause-only
returns-in_err-tree-clause-only c =
    let p = err_from_is_err_and c.from_residual-in_err-tree.result c.from_residual-in_err-tree.ensures.1 in
    let g = failed_there _ _ c.in_err-tree.field-0.0 c.in_ok-terminals.ensures.all c.in_err-tree.ensures.gives in
    rw (p.1, p.2) (λ x formed same. not_that _ c.in_err-tree.field-0.0 x g formed same)

pub returns-in_err-tree-clause-refused : goal.returns-in_err-tree-clause-refused
returns-in_err-tree-clause-refused c =
    let p = err_from_is_err_and c.from_residual-in_err-tree.result c.from_residual-in_err-tree.ensures.1 in
    let g = failed_there _ _ c.in_err-tree.field-0.0 c.in_ok-terminals.ensures.all c.in_err-tree.ensures.gives in
    rw (p.1, p.2) (refused_there c.args.tokens.now.tokens c.in_err-tree.field-0.0 c.in_ok-terminals.ensures.ended g)

pub returns-in_err-tree-clause-exact : goal.returns-in_err-tree-clause-exact
returns-in_err-tree-clause-exact c =
    let p = err_from_is_err_and c.from_residual-in_err-tree.result c.from_residual-in_err-tree.ensures.1 in
    let g = failed_there _ _ c.in_err-tree.field-0.0 c.in_ok-terminals.ensures.all c.in_err-tree.ensures.gives in
    rw (p.1, p.2) (exactly_there c.args.tokens.now.tokens c.in_err-tree.field-0.0 c.in_ok-terminals.ensures.ended g)

pub returns-then-after-len-clause-only : goal.returns-then-after-len-clause-only
returns-then-after-len-clause-only c =
    let g = read_there _ _ _ c.in_ok-tree.after c.in_ok-terminals.ensures.all c.in_ok-tree.ensures.gives in
    let less : c.in_ok-tree.after < length (terminals_of c.args.tokens.now.tokens) =
    omega (arith, c.len.ensures, c.if-after-len.true, ap length c.in_ok-terminals.ensures.all) in
    λ x formed same. not_that_either _ _ x c.in_ok-tree.after g less formed same

pub returns-then-after-len-clause-refused : goal.returns-then-after-len-clause-refused
returns-then-after-len-clause-refused c =
    let g = read_there _ _ _ c.in_ok-tree.after c.in_ok-terminals.ensures.all c.in_ok-tree.ensures.gives in
    let less : c.in_ok-tree.after < length (terminals_of c.args.tokens.now.tokens) =
    omega (arith, c.len.ensures, c.if-after-len.true, ap length c.in_ok-terminals.ensures.all) in
    (less, too_long _ _ c.in_ok-tree.after g less)

pub returns-then-after-len-clause-exact : goal.returns-then-after-len-clause-exact
returns-then-after-len-clause-exact c =
    let g = read_there _ _ _ c.in_ok-tree.after c.in_ok-terminals.ensures.all c.in_ok-tree.ensures.gives in
    let less : c.in_ok-tree.after < length (terminals_of c.args.tokens.now.tokens) =
    omega (arith, c.len.ensures, c.if-after-len.true, ap length c.in_ok-terminals.ensures.all) in
    exactly_after c.args.tokens.now.tokens _ c.in_ok-tree.after g less

pub returns-clause-found : goal.returns-clause-found
returns-clause-found c =
    let g = read_there _ _ _ c.in_ok-tree.after c.in_ok-terminals.ensures.all c.in_ok-tree.ensures.gives in
    let most : length (terminals_of c.args.tokens.now.tokens) ≤ c.in_ok-tree.after =
    omega (arith, c.len.ensures, c.if-after-len.false, ap length c.in_ok-terminals.ensures.all) in
    whole _ _ c.in_ok-tree.after g most

pub returns-clause-only : goal.returns-clause-only
returns-clause-only c =
    let g = read_there _ _ _ c.in_ok-tree.after c.in_ok-terminals.ensures.all c.in_ok-tree.ensures.gives in
    λ x formed same. that _ _ x c.in_ok-tree.after g formed same

pub returns-clause-exact : goal.returns-clause-exact
returns-clause-exact c =
    let g = read_there _ _ _ c.in_ok-tree.after c.in_ok-terminals.ensures.all c.in_ok-tree.ensures.gives in
    let most : length (terminals_of c.args.tokens.now.tokens) ≤ c.in_ok-tree.after =
    omega (arith, c.len.ensures, c.if-after-len.false, ap length c.in_ok-terminals.ensures.all) in
    exactly_none _ _ c.in_ok-tree.after g most
