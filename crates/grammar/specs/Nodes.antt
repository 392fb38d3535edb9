-- Concrete trees without types: what a tree says, and not where it lies in memory.
use Rattle.std.specs.Prelude.{◌++◌, ◌∷◌, [], ℕ, List, None, Option, Some}
use Rattle.grammar.specs.declared.terminals.Terminal.{Terminal}

-- a token: its terminal and its number in the source
pub record Item : Type 0 where
  pub kind : Terminal
  pub number : ℕ

pub data Node : Type 0 where
  Leaf : (item : Item) → Node
  Nothing : Node
  Pair : (first second : Node) → Node

-- the tokens of a tree
abbrev pub spell : Node → List Item
spell (Leaf item) = item ∷ []
spell Nothing = []
spell (Pair a b) = spell a ++ spell b

-- the terminal of the first token, or what comes after the list
abbrev pub ahead : List Item → Option Terminal → Option Terminal
ahead [] h = h
ahead (x ∷ l) h = Some x.kind

abbrev pub next : List Item → Option Terminal
next l = ahead l None

-- and of the second
abbrev pub second : List Item → Option Terminal
second [] = None
second (x ∷ l) = next l

-- a token of a terminal, by its number
abbrev pub leaf : Terminal → ℕ → Node
leaf kind n = Leaf (record { kind = kind; number = n })

-- parts one after the other
abbrev pub row : List Node → Node
row [] = Nothing
row (x ∷ xs) = Pair x (row xs)

-- a part of a series, after its separator
pub record SeriesPart : Type 0 where
  pub separator : Node
  pub part : Node

abbrev pub step_node : SeriesPart → Node
step_node s = Pair s.separator s.part

-- a series of them, and what stands at its end
abbrev pub chain : List SeriesPart → Node → Node
chain [] end = end
chain (s ∷ steps) end = Pair s.separator (Pair s.part (chain steps end))
