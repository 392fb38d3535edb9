-- Definitions of names and labels, and uses of names.
use Rattle.std.specs.Prelude.{if◌then◌else◌, ℕ, Bool, None, Option, Some, false, is_none, nat_le}
use Rattle.check_steps.specs.{Known.find, Known.name_at, Regions.declared_in, Regions.defined_in}
use Rattle.check_steps.specs.Steps.{◌>>=◌, Step, add_definition, add_label, early, give, late, look, when}
use Rattle.check_steps.specs.declared.regions.{Definition.Definition, Found.Found}

-- rule 2: a region defines a name a second time
unfoldable pub define_in : ℕ → Definition → Step (Unit {0})
define_in region d = do
  name ← look (λ k. name_at k d.token)
  held ← look (λ k. defined_in k.regions region name)
  _ ← early 2 d.token (is_none held)
  when (is_none held) (add_definition region name d)

-- rule 2: a block declares a label value a second time
unfoldable pub declare_in : ℕ → ℕ → ℕ → Step (Unit {0})
declare_in region value token = do
  held ← look (λ k. declared_in k.regions region value)
  _ ← early 2 token (is_none held)
  when (is_none held) (add_label region value token)

-- a definition may be used from its end on
abbrev pub usable : ℕ → Option Found → Option Found
usable at None = None
usable at (Some f) = if nat_le f.definition.end at then Some f else None

abbrev pub is_usable : ℕ → Option Found → Bool
is_usable at None = false
is_usable at (Some f) = nat_le f.definition.end at

-- Rule 1: no enclosing region defines the name; or the closest region that does defines it at a later token; or the use
-- stands inside the name's own definition. The use counts as standing at the token `at`, which is the name's own but
-- for
-- a pointer's domain: its use counts as standing at the end of the part of type definitions.
unfoldable pub use_at : ℕ → ℕ → ℕ → Step (Option Found)
use_at frame at token = do
  found ← look (λ k. find k frame (name_at k token))
  _ ← early 1 token (is_usable at found)
  give (usable at found)

-- A use that is looked at once more, after rule 1 was told of it. Rule 3: a name that may not be used there is of no
-- kind that has a place there. At one token rule 1 comes first.
unfoldable pub use_again : ℕ → ℕ → Step (Option Found)
use_again frame token = do
  found ← look (λ k. find k frame (name_at k token))
  _ ← late 3 token (is_usable token found)
  give (usable token found)
