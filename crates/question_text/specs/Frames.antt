-- The frames of the calls that are open while one runs.
use Rattle.std.specs.Prelude.{if◌then◌else◌, ◌++◌, ◌==◌, ◌∷◌, [], ℕ, List, None, Option, Some, slice_get, suc, zero}
use Rattle.call_tree.specs.declared.records.{Call.Call, FrameStart.FrameStart}
use Rattle.cell_names.specs.{Layouts.part, declared.places.PlacedPart.PlacedPart}
use Rattle.question_text.specs.declared.opened.OpenFrame.{OpenFrame}

abbrev pub frame_by : (call : ℕ) → Option Call → Option OpenFrame
frame_by call None = None
frame_by call (Some row) = Some (record { part = part row.entry.top call; outer = row.parent })

-- the same by where it begins, and the call that made that one
abbrev pub frame_from : (call : ℕ) → Option FrameStart → Option OpenFrame
frame_from call None = None
frame_from call (Some start) = Some (record { part = part start.top call; outer = start.parent })

-- the frame of a call, and the call that made that one
abbrev pub frame_of_call : List Call → (call : Option ℕ) → Option OpenFrame
frame_of_call calls None = None
frame_of_call calls (Some call) = frame_by call (slice_get calls call)

abbrev pub opened_by : Option OpenFrame → (go : Option ℕ → List PlacedPart) → List PlacedPart
opened_by None go = []
opened_by (Some f) go = go f.outer ++ f.part ∷ []

-- the calls that are open while one runs, from the outermost on, by where their frames begin; of at most this many
abbrev pub opened_from : List Call → (most : ℕ) → Option ℕ → List PlacedPart
opened_from calls zero call = []
opened_from calls (suc most) call = opened_by (frame_of_call calls call) (opened_from calls most)

abbrev pub framed_by : (base : ℕ) → Option OpenFrame → (Option ℕ → Option ℕ) → Option ℕ
framed_by base None go = None
framed_by base (Some f) go = if f.part.place == base then Some f.part.number else go f.outer

-- The first call outward, from one on, whose frame begins at a base: the innermost open call that has this frame. `n`
-- is how many are looked at.
abbrev pub call_of_frame : List Call → (n : ℕ) → (from : Option ℕ) → (base : ℕ) → Option ℕ
call_of_frame calls zero from base = None
call_of_frame calls (suc n) from base =
    framed_by base (frame_of_call calls from) (λ outer. call_of_frame calls n outer base)
