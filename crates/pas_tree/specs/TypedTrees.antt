-- The typed trees that nodes of the grammar have.
use Rattle.std.specs.Prelude.{◌++◌, ◌<◌, ◌^◌, ◌↔◌, ◌≡◌, ℕ, List, length, take}
use Rattle.grammar.specs.{Loose.IsGrammatical, Nesting.BeginsDeep, Nesting.IsShaped, Nodes.Item, Nodes.Node}
use Rattle.grammar.specs.{Nodes.spell, Refusals.BeginsWith, Refusals.IsHopeless, Refusals.IsTooDeep}
use Rattle.pas_tree.specs.{Blocks.tree_node, FirstFollow.pascal, declared.blocks.Tree.Tree}
use Rattle.pas_tree.specs.Rules.{program_rule, rule}

-- It spells fewer tokens than a vector may hold elements, so each list in it fits one.
abbrev pub HasShortLists : Node → Type 0
HasShortLists x = length (spell x) < 2 ^ 63

-- it is the node of a typed tree
abbrev pub HasTree : Node → Type 0
HasTree x = (t : Tree) × (tree_node t ≡ x)

-- a tree of the grammar at some nesting, whichever `if` its else parts belong to
abbrev pub GrammaticalHaveTrees : Type 0
GrammaticalHaveTrees = (x : Node) → IsGrammatical rule program_rule x → HasShortLists x → HasTree x

-- a tree of the grammar at some nesting in which each else belongs to the nearest `if` that has none yet
abbrev pub ShapedHaveTrees : Type 0
ShapedHaveTrees = (x : Node) → IsShaped pascal program_rule x → HasShortLists x → HasTree x

-- ---- what is said of shaped nodes of any length, said of typed trees

-- the spelling of some shaped node begins with these tokens
abbrev pub NodeGoesOn : List Item → Type 0
NodeGoesOn text = (x : Node) × IsShaped pascal program_rule x × (more : List Item) × (spell x ≡ text ++ more)

-- so does that of a typed tree whose node is shaped
abbrev pub TreeGoesOn : List Item → Type 0
TreeGoesOn text =
    (t : Tree) × IsShaped pascal program_rule (tree_node t) × (more : List Item) × (spell (tree_node t) ≡ text ++ more)

-- no typed tree goes on with token i
abbrev pub NoTreeGoesOn : List Item → ℕ → Type 0
NoTreeGoesOn text i = (i < length text) ×
    ((t : Tree) → IsShaped pascal program_rule (tree_node t) → BeginsWith (spell (tree_node t)) text i → ⊥)

-- Token i is too deep in a typed tree: one goes on with it, and a node of nesting n + 1 begins at it.
abbrev pub TreeIsTooDeep : ℕ → List Item → ℕ → Type 0
TreeIsTooDeep n text i = (i < length text) ×
    ((t : Tree) × IsShaped pascal program_rule (tree_node t) × BeginsWith (spell (tree_node t)) text i ×
    BeginsDeep pascal n program_rule (tree_node t) (take i text))

-- where a node goes on, a typed tree does, and the other way round
abbrev pub TreesGoOn : Type 0
TreesGoOn = (text : List Item) → length text < 2 ^ 32 → NodeGoesOn text ↔ TreeGoesOn text

-- a token is hopeless exactly if no typed tree goes on with it
abbrev pub HopelessForTrees : Type 0
HopelessForTrees =
    (text : List Item) → length text < 2 ^ 32 → (i : ℕ) → IsHopeless pascal program_rule text i ↔ NoTreeGoesOn text i

-- it is too deep exactly if it is so in a typed tree
abbrev pub TooDeepForTrees : Type 0
TooDeepForTrees = (n : ℕ) (text : List Item) → length text < 2 ^ 32 → (i : ℕ)
    → IsTooDeep pascal n program_rule text i ↔ TreeIsTooDeep n text i
