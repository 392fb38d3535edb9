use Rattle.debug_cli.proofs.BytesAreReadOnce.{Known, one_reading}
use Rattle.debug_cli.proofs.laws.one_reading.Goals as goal

pub returns : goal.returns
returns c = λ bytes x y.
    let known : Known = record {
      one_list = c.division_laws.ensures.one_list;
      one_fault = c.division_laws.ensures.one_fault;
      one_reason = c.division_laws.ensures.one_reason;
      never_lexed = c.division_laws.ensures.never_both;
      one_program = c.one_text_one_program.ensures.program;
      never_both = c.one_text_one_program.ensures.refusal;
      refused_once = c.one_text_one_program.ensures.reason;
    } in
    one_reading known bytes x y
