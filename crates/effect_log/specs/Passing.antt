-- One pass over touches: what has been found after some of them, and how one more touch adds to it.
use Rattle.std.specs.Prelude.{if◌then◌else◌, ◌++◌, ◌+◌, ◌≡◌, ℕ, Bool, List, None, Option, Some, false, max}
use Rattle.std.specs.{Prelude.option_to_list, Prelude.true, BTreeMap.BTreeMap, BTreeMap.get, Ordering.nat_cmp}
use Rattle.cell_value.specs.Effects.{asked_by, byte_by, change_at, change_by, given_of, is_shared, looked_by, looked_of}
use Rattle.cell_value.specs.Effects.{made_by, made_of, read_by, seen_at, seen_by, shared, taken_by, taken_of}
use Rattle.cell_value.specs.declared.{entries.Change.Change, entries.Touch.Touch, values.Value.Value}
use Rattle.cell_value.specs.declared.entries.Seen.{Seen, TheVariants.Absent, TheVariants.Held, TheVariants.There}
use Rattle.effect_log.specs.declared.found.Found.{Found}

-- what a map has at each address
abbrev pub found_at : {X : Type 0} → BTreeMap ℕ X → ℕ → Option X
found_at m addr = get nat_cmp m addr

-- the later of two values, if there is a later one
abbrev pub later : {X : Type 0} → Option X → Option X → Option X
later (Some x) earlier = Some x
later None earlier = earlier

-- whether what is seen of an address is a value that was read
abbrev pub was_read_lem : Option Seen → Bool
was_read_lem (Some (Held value)) = true
was_read_lem _ = false

-- what is seen of an address after one more touch, by what it was changed to and what was seen before, and by what the
-- touch read there and was answered
abbrev pub seen_next : Option Change → Option Seen → Option Value → Option Bool → Option Seen
seen_next (Some change) seen read asked = seen
seen_next None (Some (Held value)) read asked = Some (Held value)
seen_next None seen (Some value) asked = Some (Held value)
seen_next None (Some There) None asked = Some There
seen_next None (Some Absent) None asked = Some Absent
seen_next None None None asked = seen_by None asked

-- the map of what is seen takes in a touch
pub record Sees (base : ℕ) (touch : Touch) (changes : BTreeMap ℕ Change) (old new : BTreeMap ℕ Seen) : Type 0 where
  pub at : (addr : ℕ) → found_at new addr ≡ (if is_shared base addr then seen_next (found_at changes addr)
      (found_at old addr) (read_by addr touch) (asked_by addr touch) else found_at old addr)

-- the map of what is changed takes in a touch that changes each address so
pub record ChangesBy (base : ℕ) (change : ℕ → Option Change) (old new : BTreeMap ℕ Change) : Type 0 where
  pub at : (addr : ℕ) → found_at new addr ≡ (if is_shared base addr then later (change addr) (found_at old addr) else
      found_at old addr)

-- one more touch is taken in
pub record TakesIn (base place : ℕ) (touch : Touch) (old new : Found) : Type 0 where
  pub reads : Sees base touch old.changes old.reads new.reads
  pub changes : ChangesBy base (λ addr. change_by addr touch) old.changes new.changes
  pub made : new.made ≡ old.made + made_by touch
  pub looked : new.looked ≡ max old.looked (looked_by place touch)
  pub taken : new.taken ≡ old.taken + taken_by touch
  pub given : new.given ≡ old.given ++ option_to_list (byte_by touch)

-- all that these touches have
pub record IsFound (base place : ℕ) (touches : List Touch) (found : Found) : Type 0 where
  pub reads : (addr : ℕ) → found_at found.reads addr ≡ shared base (λ a. seen_at a touches) addr
  pub changes : (addr : ℕ) → found_at found.changes addr ≡ shared base (λ a. change_at a touches) addr
  pub made : found.made ≡ made_of touches
  pub looked : found.looked ≡ looked_of place touches
  pub taken : found.taken ≡ taken_of touches
  pub given : found.given ≡ given_of touches
