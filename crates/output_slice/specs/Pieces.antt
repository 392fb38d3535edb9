-- What a call does itself and what the calls do that it makes, in order of time.
use Rattle.std.specs.Prelude.{◌++◌, ◌+◌, ◌-◌, ◌∷◌, ◌≡◌, [], ℕ, List, drop, length, map, suc, take, zero}
use Rattle.cell_value.specs.declared.entries.Touch.{Touch}
use Rattle.core_program.specs.{Run.Call, Run.Marked, Run.Result, State.State}

pub data Piece : Type 0 where
  -- a touch of the call's own
  Own : (touch : Touch) → Piece
  -- a call that it makes, by its number and its record
  OfChild : (number : ℕ) (call : Call) → Piece

abbrev pub own : List Touch → List Piece
own w = map Own w

-- The touches from a place of the log on, cut where calls were made. `number` is that of the first of these calls, the
-- first `skip` of which are below a call that was met already, and have no piece of their own.
abbrev pub cut : (at number skip : ℕ) → List Touch → List (Marked Call) → List Piece
cut at number skip log [] = own log
cut at number zero log (e ∷ es) = own (take (e.mark - at) log) ++ (OfChild number e.event
    ∷ cut (e.mark + length e.event.log) (suc number) e.event.below (drop ((e.mark - at) + length e.event.log) log) es)
cut at number (suc skip) log (e ∷ es) = cut at (suc number) skip log es

-- the pieces of a call of a run
abbrev pub pieces_of : Result State Call → (number : ℕ) → Marked Call → List Piece
pieces_of r number e =
    cut e.mark (number + 1) 0 e.event.log (take e.event.below (drop (number + 1) r.events))

-- the piece stands in a list of pieces, after these
pub record Stands (ps : List Piece) (q : Piece) (before : List Piece) : Type 0 where
  pub after : List Piece
  pub is : ps ≡ before ++ (q ∷ after)
