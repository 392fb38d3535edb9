-- The pieces of a call by the numbers of the calls that it made.
use Rattle.std.specs.Prelude.{◌++◌, ◌+◌, ◌∷◌, ◌≤◌, [], ℕ, List, None, Option, Some, length, slice_range, suc, zero}
use Rattle.std.specs.List.{slice_get}
use Rattle.core_program.specs.{Run.Call, Run.Marked, Run.Result, State.State}
use Rattle.output_slice.specs.Pieces.{OfChild, Piece, own}

-- Of the calls below a call, the first of which has this number, those that it made itself. The first `skip` are below
-- one that was met already.
abbrev pub children_in : (number skip : ℕ) → List (Marked Call) → List ℕ
children_in number skip [] = []
children_in number zero (e ∷ es) = number ∷ children_in (suc number) e.event.below es
children_in number (suc skip) (e ∷ es) = children_in (suc number) skip es

abbrev pub mark_or : ℕ → Option (Marked Call) → ℕ
mark_or end None = end
mark_or end (Some e) = e.mark

-- where in the log the first of these calls begins, or the end where there is none
abbrev pub begin_of : Result State Call → (end : ℕ) → List ℕ → ℕ
begin_of r end [] = end
begin_of r end (k ∷ ks) = mark_or end (slice_get r.events k)

-- a call, the touches of its caller after it up to a place of the log, and what follows
abbrev pub child_then : Result State Call → (number to : ℕ) → Option (Marked Call) → List Piece → List Piece
child_then r number to None ps = ps
child_then r number to (Some e) ps =
    OfChild number e.event ∷ (own (slice_range r.log (e.mark + length e.event.log) to) ++ ps)

-- the pieces from the first of these calls on
abbrev pub pieces_from : Result State Call → (end : ℕ) → List ℕ → List Piece
pieces_from r end [] = []
pieces_from r end (k ∷ ks) = child_then r k (begin_of r end ks) (slice_get r.events k) (pieces_from r end ks)

-- From this place of the log on, up to the other, the calls that are not below one that was met come one after another.
abbrev pub Ordered : (at skip end : ℕ) → List (Marked Call) → Type 0
Ordered at skip end [] = at ≤ end
Ordered at zero end (e ∷ es) = (at ≤ e.mark) × Ordered (e.mark + length e.event.log) e.event.below end es
Ordered at (suc skip) end (e ∷ es) = Ordered at skip end es
