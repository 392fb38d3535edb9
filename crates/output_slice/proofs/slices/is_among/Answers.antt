use Rattle.std.proofs.Common.{◌∙◌, ap, is_some, length, nat_lt, not}
use Rattle.output_slice.proofs.NeedsBefore.{changed_any}
use Rattle.output_slice.proofs.slices.is_among.Goals as goal
use Rattle.output_slice.specs.{Keys.has_key, Outputs.is_returned}

pub returns-in-Cell : goal.returns-in-Cell
returns-in-Cell c call f e = rw c.in-Cell.is (c.has_change.ensures ∙ ap (has_key c.in-Cell.addr) f.changes ∙ changed_any call c.in-Cell.addr)

pub returns-in-Result : goal.returns-in-Result
returns-in-Result c call f e = rw c.in-Result.is (c.is_some.ensures ∙ ap is_some e.result)

pub returns-in-Gives : goal.returns-in-Gives
returns-in-Gives c call f e = rw c.in-Gives.is (ap (nat_lt 0) (ap length (c.as_slice.ensures ∙ f.given)))

pub returns-in-Takes : goal.returns-in-Takes
returns-in-Takes c call f e = rw c.in-Takes.is (ap (nat_lt 0) f.taken)

pub returns-in-Makes : goal.returns-in-Makes
returns-in-Makes c call f e = rw c.in-Makes.is (ap (nat_lt 0) f.made)

pub returns-in-Way : goal.returns-in-Way
returns-in-Way c call f e = rw c.in-Way.is (c.is_output.ensures ∙ ap (λ w. not (is_returned w)) e.way)
