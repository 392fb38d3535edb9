-- How a touch is kept as an entry of the log.
use Rattle.std.specs.Prelude.{◌<◌, ◌≡◌, ℕ, List, slice_index_or}
use Rattle.cell_value.specs.declared.{entries.Touch.Touch, values.Value.Value}
use Rattle.effect_log.specs.declared.log.Entry.{Entry}
use Rattle.effect_log.specs.declared.log.Entry.TheVariants.{Aside, Drop, Give, Has, Look, Make, ReadFrame, ReadHeap}
use Rattle.effect_log.specs.declared.log.Entry.TheVariants.{ReadNil, ReadNumber, ReadPlace, ReadRoutine, ReadUndefined}
use Rattle.effect_log.specs.declared.log.Entry.TheVariants.{Take, WriteFrame, WriteHeap, WriteNil, WriteNumber}
use Rattle.effect_log.specs.declared.log.Entry.TheVariants.{WritePlace, WriteRoutine, WriteUndefined}

-- the touch of an entry, where these touches stand aside
abbrev pub touch_of : List Touch → Entry → Touch
touch_of aside (ReadUndefined addr) = Touch.Read addr Value.Undefined
touch_of aside (ReadNumber addr number) = Touch.Read addr (Value.Number number)
touch_of aside (ReadNil addr) = Touch.Read addr Value.Nil
touch_of aside (ReadHeap addr to) = Touch.Read addr (Value.Heap to)
touch_of aside (ReadPlace addr to) = Touch.Read addr (Value.Place to)
touch_of aside (ReadFrame addr to) = Touch.Read addr (Value.Frame to)
touch_of aside (ReadRoutine addr routine frame) = Touch.Read addr (Value.Routine routine frame)
touch_of aside (Has addr there) = Touch.Has addr there
touch_of aside (WriteUndefined addr) = Touch.Write addr Value.Undefined
touch_of aside (WriteNumber addr number) = Touch.Write addr (Value.Number number)
touch_of aside (WriteNil addr) = Touch.Write addr Value.Nil
touch_of aside (WriteHeap addr to) = Touch.Write addr (Value.Heap to)
touch_of aside (WritePlace addr to) = Touch.Write addr (Value.Place to)
touch_of aside (WriteFrame addr to) = Touch.Write addr (Value.Frame to)
touch_of aside (WriteRoutine addr routine frame) = Touch.Write addr (Value.Routine routine frame)
touch_of aside (Make first cells kind) = Touch.Make first cells kind
touch_of aside (Drop first cells) = Touch.Drop first cells
touch_of aside (Look at) = Touch.Look at
touch_of aside (Take items) = Touch.Take items
touch_of aside (Give byte) = Touch.Give byte
touch_of aside (Aside place) = slice_index_or aside place (Touch.Look 0)

-- where this many touches stand aside, the entry's is one of them if it stands there
abbrev pub IsWithin : ℕ → Entry → Type 0
IsWithin asides (Aside place) = place < asides
IsWithin asides _ = Unit {0}

-- the entry is that of the touch, whatever stands aside
pub record IsEntryOf (touch : Touch) (entry : Entry) : Type 0 where
  pub within : (asides : ℕ) → IsWithin asides entry
  pub same : (aside : List Touch) → touch_of aside entry ≡ touch
