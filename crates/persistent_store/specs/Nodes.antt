-- A trie over addresses in base sixteen. A node of the lowest level, a leaf, has a value or none at
-- each of sixteen places. A node of a higher level has a node of the level below or none at each
-- place. The place at each level is a digit of the address, the highest digit at the root.
use Rattle.std.specs.Prelude.{if◌then◌else◌, ◌%◌, ◌/◌, ◌==◌, ◌≡◌, ℕ, Bool, List, None, Option, Some, false}
use Rattle.std.specs.{Prelude.slice_index_or, Prelude.true, Simd.Lanes.zip2, declared.rc.Rc.Rc}

-- the entries of a node, some of them with nothing
abbrev pub Entries : Type 0 → Type 0
Entries X = List (Option X)

-- what a shared pointer leads to, if there is one
abbrev pub pointee_of : {X Z : Type 0} → Option (Rc X Z) → Option X
pointee_of (Some pointer) = Some pointer.value
pointee_of None = None

-- what a pointer leads to, where a node is there; else nobody follows the pointer
abbrev pub node_of : {X Z : Type 0} → Bool → Rc X Z → Option X
node_of true pointer = Some pointer.value
node_of false pointer = None

-- the entries of a node, by the flags that say where a node is there, and its pointers
abbrev pub entries_of : {X Z : Type 0} → List Bool → List (Rc X Z) → Entries X
entries_of there pointers = zip2 node_of there pointers

-- what a node has at a place; a node that is not there has nothing anywhere
abbrev pub node_entry : {X : Type 0} → Option (Entries X) → ℕ → Option X
node_entry (Some entries) place = slice_index_or entries place None
node_entry None place = None

-- what is found at an address below a node, each of whose entries has this many addresses
abbrev pub found_below : {X V : Type 0} → ℕ → (Option X → ℕ → Option V) → Option (Entries X) → ℕ → Option V
found_below span find_below node addr = find_below (node_entry node (addr / span)) (addr % span)

-- what is found below a node of each level, the lowest level first; a leaf is at level 0
abbrev pub in_level1 : {V : Type 0} → Option (Entries (Entries V)) → ℕ → Option V
in_level1 = found_below 16 node_entry

abbrev pub in_level2 : {V : Type 0} → Option (Entries (Entries (Entries V))) → ℕ → Option V
in_level2 = found_below 256 in_level1

abbrev pub in_level3 : {V : Type 0} → Option (Entries (Entries (Entries (Entries V)))) → ℕ → Option V
in_level3 = found_below 4096 in_level2

-- what the trie under a root has at an address
abbrev pub cell_at : {V : Type 0} → Option (Entries (Entries (Entries (Entries (Entries V))))) → ℕ → Option V
cell_at = found_below 65536 in_level3

-- at one argument the new function has this answer, and elsewhere the old one's
pub record ChangesAt {X : Type 0} (old new : ℕ → Option X) (place : ℕ) (entry : Option X) : Type 0 where
  pub at : (k : ℕ) → new k ≡ (if k == place then entry else old k)
