-- How a slice is found: for each call by one pass over its pieces, from the last to the first, and for the whole run by
-- one pass over the calls, by rising number.
use Rattle.std.specs.Prelude.{if◌then◌else◌, ◌&&◌, ◌++◌, ◌-◌, ◌==◌, ◌∷◌, [], ℕ, Bool, List, None, Option, Some, false}
use Rattle.std.specs.Prelude.{is_some, length, nat_lt, suc, true, zero}
use Rattle.std.specs.List.{slice_get}
use Rattle.cell_value.specs.Effects.{change_by, changes_of, looked_of, made_of, seen_at, shared}
use Rattle.cell_value.specs.declared.entries.{Change.Change, Touch.Touch}
use Rattle.cell_value.specs.declared.entries.Touch.TheVariants as touch
use Rattle.core_program.specs.{Run.Call, Run.Marked, State.State}
use Rattle.core_program.specs.Run as meaning
use Rattle.output_slice.specs.{Outputs.has_output, declared.outputs.Output.Output}
use Rattle.output_slice.specs.Pieces.{OfChild, Own, Piece, pieces_of}
use Rattle.output_slice.specs.declared.outputs.Output.TheVariants.{Cell, Gives, Makes, Takes, Way}
use Rattle.output_slice.specs.declared.outputs.Output.TheVariants as outputs

-- what is wanted of the state at a place of the log
pub record Wanted : Type 0 where
  pub cells : ℕ → Bool
  -- how far the input was taken
  pub input : Bool
  -- where the heap is free
  pub heap : Bool

-- ---- before a touch of the call's own

-- whether a touch shows what a cell holds, or whether it is there
abbrev pub looks : ℕ → Touch → Bool
looks a (touch.Read at v) = at == a
looks a (touch.Has at there) = at == a
looks a t = false

abbrev pub asks_input : Touch → Bool
asks_input (touch.Look at) = true
asks_input (touch.Take items) = true
asks_input t = false

abbrev pub asks_heap : Touch → Bool
asks_heap (touch.Make first cells kind) = true
asks_heap t = false

abbrev pub before_own : Touch → Wanted → Wanted
before_own t w = record {
  cells = λ a. if looks a t then true else if is_some (change_by a t) then false else w.cells a;
  input = if asks_input t then true else w.input;
  heap = if asks_heap t then true else w.heap;
}

-- what is wanted before these touches
abbrev pub before_touches : List Touch → Wanted → Wanted
before_touches [] w = w
before_touches (t ∷ ts) w = before_own t (before_touches ts w)

-- ---- before a call that was made

-- whether an output of a call that was made is used, where this is wanted after it and these outputs of the caller are
abbrev pub is_asked : (Output → Bool) → Wanted → Output → Bool
is_asked wants w (Cell a) = w.cells a
is_asked wants w outputs.Result = true
is_asked wants w Way = true
is_asked wants w Gives = wants Gives
is_asked wants w Takes = if wants Takes then true else w.input
is_asked wants w Makes = if wants Makes then true else w.heap

-- those of these changed cells that are wanted
abbrev pub used_cells : Wanted → List (ℕ × Change) → List Output
used_cells w [] = []
used_cells w (x ∷ xs) = if w.cells x.0 then Cell x.0 ∷ used_cells w xs else used_cells w xs

-- those of these outputs that a call has and that are used of it
abbrev pub used_among : (Output → Bool) → Wanted → Call → List Output → List Output
used_among wants w c [] = []
used_among wants w c (x ∷ xs) =
    if has_output c x && is_asked wants w x then x ∷ used_among wants w c xs else used_among wants w c xs

-- the outputs that are no cells
abbrev pub others : List Output
others = outputs.Result ∷ Gives ∷ Takes ∷ Makes ∷ Way ∷ []

-- the outputs of a call that are used
abbrev pub used_of : (Output → Bool) → Wanted → Call → List Output
used_of wants w c =
    used_cells w (changes_of c.base c.log) ++ used_among wants w c others

-- whether a call read a cell, or asked for it
abbrev pub met_cell : Call → ℕ → Bool
met_cell c a = is_some (shared c.base (λ a. seen_at a c.log) a)

abbrev pub before_child : Call → List Output → Wanted → Wanted
before_child c [] w =
    record { cells = λ a. if has_output c (Cell a) then false else w.cells a; input = w.input; heap = w.heap }
before_child c (u ∷ us) w = record {
  cells = λ a. if met_cell c a then true else if has_output c (Cell a) then false else w.cells a;
  input = if nat_lt 0 (looked_of c.entry.place c.log) then true else w.input;
  heap = if nat_lt 0 (made_of c.log) then true else w.heap;
}

-- whether there is one
abbrev pub is_some_of : List Output → Bool
is_some_of [] = false
is_some_of (x ∷ xs) = true

-- ---- over the pieces of a call

abbrev pub with_number : ℕ → List Output → List (ℕ × Output)
with_number n [] = []
with_number n (x ∷ xs) = (n, x) ∷ with_number n xs

pub record Back : Type 0 where
  pub wanted : Wanted
  pub pairs : List (ℕ × Output)

-- what is wanted before these pieces, and the pairs that were met, where these outputs of the caller are wanted
abbrev pub back : (Output → Bool) → List Piece → Back
back wants [] = record { wanted = record { cells = λ a. wants (Cell a); input = false; heap = false }; pairs = [] }
back wants (Own t ∷ ps) = record { wanted = before_own t (back wants ps).wanted; pairs = (back wants ps).pairs }
back wants (OfChild n c ∷ ps) = record {
  wanted = before_child c (used_of wants (back wants ps).wanted c) (back wants ps).wanted;
  pairs = (back wants ps).pairs ++ with_number n (used_of wants (back wants ps).wanted c);
}

-- ---- over the calls

-- whether two outputs are the same
abbrev pub only : Output → Output → Bool
only (Cell a) (Cell b) = a == b
only outputs.Result outputs.Result = true
only Gives Gives = true
only Takes Takes = true
only Makes Makes = true
only Way Way = true
only o x = false

abbrev pub is_pair : ℕ → Output → ℕ × Output → Bool
is_pair n x y = n == y.0 && only x y.1

-- whether an output of a call is among the pairs, and whether any is
abbrev pub wants_at : ℕ → List (ℕ × Output) → Output → Bool
wants_at n [] x = false
wants_at n (y ∷ ys) x = if is_pair n x y then true else wants_at n ys x

abbrev pub some_at : ℕ → List (ℕ × Output) → Bool
some_at n [] = false
some_at n (y ∷ ys) = if n == y.0 then true else some_at n ys

abbrev pub more_at : meaning.Result State Call → ℕ → List (ℕ × Output) → Option (Marked Call) → List (ℕ × Output)
more_at r n pairs None = []
more_at r n pairs (Some e) = (back (wants_at n pairs) (pieces_of r n e)).pairs

-- the pairs with those that the call's wanted outputs use
abbrev pub with_call : meaning.Result State Call → ℕ → List (ℕ × Output) → List (ℕ × Output)
with_call r n pairs = if some_at n pairs then pairs ++ more_at r n pairs (slice_get r.events n) else pairs

abbrev pub pass : meaning.Result State Call → (calls from : ℕ) → List (ℕ × Output) → List (ℕ × Output)
pass r zero n pairs = pairs
pass r (suc calls) n pairs = pass r calls (suc n) (with_call r n pairs)

-- the slice of an output of a call
abbrev pub slice_list : meaning.Result State Call → ℕ → Output → List (ℕ × Output)
slice_list r call o = pass r (length r.events - call) call ((call, o) ∷ [])
