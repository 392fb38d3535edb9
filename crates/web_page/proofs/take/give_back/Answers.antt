use Rattle.std.proofs.Common.{◌∙◌, ℕ, List, Some, ap, length, refl, sym, take}
use Rattle.web_page.proofs.take.give_back.Goals as goal

pub returns-in-Ok : goal.returns-in-Ok
returns-in-Ok c =
    c.in-Ok.ensures.found
    ∙ ap Some (sym (ap (λ (bytes : List ℕ). take (length bytes) c.put_front.new.room) (c.as_slice-in-Ok.ensures ∙ sym c.as_slice.ensures)
    ∙ c.put_front.ensures.front ∙ c.as_slice.ensures))

pub returns-in-Err-Absent : goal.returns-in-Err-Absent
returns-in-Err-Absent c = (rw c.in-Err-Absent.field-0-is at c.in-Err-Absent.ensures.absent) refl
