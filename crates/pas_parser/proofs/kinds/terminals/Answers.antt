use Rattle.std.proofs.Common.{◌++◌, ◌∙◌, ◌∷◌, [], List, ap, arith, sym, take}
use Rattle.grammar.specs.declared.terminals.Terminal.{Terminal}
use Rattle.pas_parser.proofs.TerminalsOfTokens.{one_more}
use Rattle.pas_parser.proofs.kinds.terminals.Goals as goal
use Rattle.pas_parser.specs.Kinds.{terminals_of}

pub tokens-preserved : goal.tokens-preserved
tokens-preserved c = record {
  so_far =
      c.in_ok-push.ensures.items ∙ ap (λ (l : List Terminal). l ++ c.terminal.result ∷ []) c.tokens.invariant.so_far
      ∙ ap (λ (j : Terminal). terminals_of (take c.tokens.next c.args.tokens.now.tokens) ++ j ∷ []) c.terminal.ensures
      ∙ sym (one_more c.args.tokens.now.tokens c.tokens.next c.at-token.result c.at-token.ensures.token);
  bound = omega arith;
  all = c.tokens.invariant.all;
}
