use Rattle.std.proofs.Common.{◌++◌, ◌+◌, ◌∙◌, ◌≤◌, ap, length, subst, sym}
use Rattle.pas_lexer.proofs.OneDivision.{SoFar, fails, fault_is, few_more, goes_on, line_more}
use Rattle.pas_lexer.proofs.lexing.scan.Goals as goal
use Rattle.pas_lexer.specs.Division.{IsFault, token_of}

pub returns-in-Err-clause-fault : goal.returns-in-Err-clause-fault
returns-in-Err-clause-fault c =
    subst (IsFault c.args.bytes.now) (sym c.fault.ensures)
    (fault_is c.args.bytes.now c.in-Err.reason c.pieces.at
    (fails c.args.bytes.now c.pieces.at c.pieces.tokens.items c.in-Err.reason c.pieces-test.true c.pieces.invariant.so_far (sym c.in-Err.ensures.gives)))

pub pieces-preserved : goal.pieces-preserved
pieces-preserved c =
    let pushed = c.in_ok-push_piece.ensures.pushed in
    record {
      so_far = subst (SoFar c.args.bytes.now (c.pieces.at + c.in-Ok.piece.1)) (ap
          (λ line. c.pieces.tokens.items ++ token_of c.pieces.at (c.pieces.at + c.in-Ok.piece.1) line c.in-Ok.piece.0) (sym c.pieces.invariant.line_is)
          ∙ sym pushed) (goes_on c.args.bytes.now c.pieces.at c.in-Ok.piece.1 c.pieces.tokens.items c.in-Ok.piece.0 c.pieces.invariant.so_far
          (sym c.in-Ok.ensures.gives));
      inside = c.in-Ok.ensures.inside.1;
      line_is = line_more c.args.bytes.now c.pieces.at c.in-Ok.piece.1 c.pieces.line c.line_feeds-line.result c.pieces.invariant.line_is
          c.line_feeds-line.ensures.count;
      few = subst (λ ts. length ts ≤ c.pieces.at + c.in-Ok.piece.1) (sym pushed)
          (few_more c.pieces.tokens.items c.pieces.at c.in-Ok.piece.1 c.pieces.line c.in-Ok.piece.0 c.pieces.invariant.few c.in-Ok.ensures.inside.0);
    }
