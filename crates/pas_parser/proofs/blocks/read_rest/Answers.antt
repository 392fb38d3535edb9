use Rattle.grammar.specs.{Grammars.block, Grammars.level, Grammars.seq, Grammars.word, Reading.read, declared.terminals.Terminal.Terminal}
use Rattle.pas_phrases.proofs.Failures.{handed_on, second_fails}
use Rattle.pas_parser.proofs.blocks.read_rest.Goals as goal

pub returns-in_err-dot-clause-gives : goal.returns-in_err-dot-clause-gives
unfolding read
returns-in_err-dot-clause-gives c =
    handed_on _ _ _ _ _ c.from_residual-in_err-dot.ensures.1 (second_fails c.args.depth (level block) (seq (word Terminal.Dot) (word Terminal.End)) _ _ _
    c.in_ok-block.ensures.gives c.in_err-dot.ensures.gives)
