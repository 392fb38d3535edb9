use Rattle.std.proofs.Common.{Err, List, subst, sym}
use Rattle.pas_lexer.specs.{Division.IsLexed, declared.kinds.Token.Token}
use Rattle.code_checker.proofs.PiecesAreTold.{piece_only, piece_unlexed}
use Rattle.code_checker.proofs.pieces.read_tokens.Goals as goal
use Rattle.code_checker.specs.Pieces.{IsUnlexed, TokensAre}

pub returns-in-Err-clause-only : goal.returns-in-Err-clause-only
returns-in-Err-clause-only c =
    subst (λ e. (tokens : List Token) → IsLexed c.args.source.now tokens → TokensAre tokens (Err e)) (sym c.fault_of_piece.ensures)
    (piece_only c.args.source.now c.in-Err.fault c.in-Err.ensures.only)

pub returns-in-Err-clause-refused : goal.returns-in-Err-clause-refused
returns-in-Err-clause-refused c =
    subst (IsUnlexed c.args.source.now) (sym c.fault_of_piece.ensures)
    (piece_unlexed c.args.source.now c.in-Err.fault c.in-Err.ensures.fault c.in-Err.ensures.only)
