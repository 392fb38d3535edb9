use Rattle.std.{proofs.Common.subst, proofs.Common.sym, proofs.Common.take, specs.List.AllPass}
use Rattle.pas_lexer.proofs.LongestRun.{run_passes}
use Rattle.pas_lexer.proofs.piece.number.Goals as goal
use Rattle.pas_lexer.specs.Lexis.{digit}

pub number_of-requires : goal.number_of-requires
number_of-requires c = subst (λ n. AllPass digit (take n c.args.bytes.now)) (sym c.digits_length-n.ensures.run) (run_passes digit c.args.bytes.now)
