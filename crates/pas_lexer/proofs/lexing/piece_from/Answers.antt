use Rattle.std.proofs.Common.{◌∙◌, ap}
use Rattle.pas_lexer.proofs.{LongestRun.rest_is, OneDivision.inside}
use Rattle.pas_lexer.proofs.lexing.piece_from.Goals as goal
use Rattle.pas_lexer.specs.Reading.{piece_at}

pub returns-clause-gives : goal.returns-clause-gives
returns-clause-gives c = c.piece.ensures ∙ ap piece_at (rest_is c.args.bytes.now c.args.at)

pub returns-clause-inside : goal.returns-clause-inside
returns-clause-inside c = inside c.args.bytes.now c.args.at c.piece.result c.requires (c.piece.ensures ∙ ap piece_at (rest_is c.args.bytes.now c.args.at))
