-- Which token of a text is too deep, and which is hopeless.
use Rattle.std.specs.Prelude.{◌++◌, ◌+◌, ◌<◌, ◌≡◌, ◌⊎◌, ℕ, Err, List, Ok, drop, length, take}
use Rattle.grammar.specs.{Deciding.LevelTables, Grammars.Grammar, Nesting.BeginsDeep, Nesting.IsShaped, Nodes.Item}
use Rattle.grammar.specs.{Nodes.Node, Nodes.spell, Reading.Unfit, Reading.read}

-- it begins with the tokens 0 to i of the text
abbrev pub BeginsWith : List Item → List Item → ℕ → Type 0
BeginsWith spelling text i = (more : List Item) × (spelling ≡ take (i + 1) text ++ more)

-- Token i is too deep: the spelling of some shaped tree begins with the tokens 0 to i, and a node of nesting n + 1
-- begins at its token i.
abbrev pub IsTooDeep : LevelTables → ℕ → Grammar → List Item → ℕ → Type 0
IsTooDeep t n g text i = (i < length text) ×
    ((x : Node) × IsShaped t g x × BeginsWith (spell x) text i × BeginsDeep t n g x (take i text))

-- Token i is hopeless: the spelling of no shaped tree begins with the tokens 0 to i.
abbrev pub IsHopeless : LevelTables → Grammar → List Item → ℕ → Type 0
IsHopeless t g text i = (i < length text) × ((x : Node) → IsShaped t g x → BeginsWith (spell x) text i → ⊥)

-- the least number of which that holds
abbrev pub IsLeast : (ℕ → Type 0) → ℕ → Type 0
IsLeast P i = P i × ((j : ℕ) → j < i → P j → ⊥)

abbrev pub IsFirstTooDeepBy : LevelTables → ℕ → Grammar → List Item → ℕ → Type 0
IsFirstTooDeepBy t n g text i = IsLeast (IsTooDeep t n g text) i

abbrev pub NoneTooDeep : LevelTables → ℕ → Grammar → List Item → Type 0
NoneTooDeep t n g text = (i : ℕ) → IsTooDeep t n g text i → ⊥

-- where no token is too deep
abbrev pub IsFirstHopelessBy : LevelTables → ℕ → Grammar → List Item → ℕ → Type 0
IsFirstHopelessBy t n g text i = NoneTooDeep t n g text × IsLeast (IsHopeless t g text) i

-- Reading stops at token i: it is unfit, or stands after a whole tree.
abbrev pub StopsAt : LevelTables → ℕ → Grammar → List Item → ℕ → Type 0
StopsAt t n g text i = (read t n g text ≡ Err (Unfit (drop i text))) ⊎
    ((x : Node) × (read t n g text ≡ Ok (x, drop i text)))
