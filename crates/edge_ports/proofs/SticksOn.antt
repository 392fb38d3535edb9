-- A sink that is called no more once a call failed, at one more page.
use Rattle.std.proofs.Common.{◌∙◌, ◌≡◌, ℕ, List, true}
use Rattle.edge_ports.proofs.PiecesAddUp.{gave_prefix_after}
use Rattle.edge_ports.specs.{Counts.Rose, Printouts.Printout, Sticking.GavePart, Sticking.GaveText, Sticking.Telling, Sticking.with_more, Told.GavePrefix}

-- a first part of the page was given, and then a call failed
pub gave_part : (p : Printout) (old new : Telling) (bytes : List ℕ) → GaveText p old → GavePrefix old.given new.given bytes
    → Rose old.faults new.faults → new.last_failed ≡ true → new.loan ≡ old.loan → GavePart (with_more p bytes) new
gave_part p old new bytes s gave cause last loan = record {
  gave = gave_prefix_after p.began.given p.text s.gave gave;
  cause = rw s.calm at cause;
  last = last;
  loan = loan ∙ s.loan;
}
