use Rattle.output_slice.proofs.LeftOutStays.{no_fault, number_is}
use Rattle.output_slice.proofs.left_out.judge_call.Goals as goal

pub returns-clause-number : goal.returns-clause-number
returns-clause-number g c = number_is c.args.debug.now.book c.args.call c.in-Ok.number c.requires.a_call c.requires.room c.in-Ok.ensures.answer

pub unreachable-requires : goal.unreachable-requires
unreachable-requires g c = absurd (no_fault c.args.debug.now.book c.args.call _ c.requires.a_call c.requires.room c.in-Err.ensures.answer)

pub unreachable-unreachable : goal.unreachable-unreachable
unreachable-unreachable g c = no_fault c.args.debug.now.book c.args.call _ c.requires.a_call c.requires.room c.in-Err.ensures.answer
