-- What is made of the items of an array, one after another.
use Rattle.serde_json.specs.Data.{Data, Items, item, no_items}

-- s is what was made before
abbrev pub all_made : {S : Type 0} → (next : S → Data → S) → S → Items → S
all_made next s no_items = s
all_made next s (item d ds) = all_made next (next s d) ds
