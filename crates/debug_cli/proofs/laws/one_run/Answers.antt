use Rattle.debuggee.proofs.SourceIsRun.{one_run}
use Rattle.debug_cli.proofs.laws.one_run.Goals as goal

pub returns : goal.returns
returns c = λ source t t' p p' a b s.
    one_run c.one_text_one_program.ensures.program source t t' p p' a b (c.division_laws.ensures.one_list source t.tokens t'.tokens a.lexed b.lexed) s
