-- What holds of reading by a grammar of which one token decides each choice.
use Rattle.std.specs.Prelude.{◌++◌, ◌∷◌, ◌≡◌, [], ℕ, Err, List, None, Ok, true}
use Rattle.grammar.specs.{Deciding.IsDecided, Deciding.LevelTables, Nodes.Item, Nodes.Node, Nodes.next, Nodes.spell}
use Rattle.grammar.specs.Grammars.{Free, FreeWithin, Grammar}
use Rattle.grammar.specs.Reading.{Refusal, read, unread_of}

-- a tree of a whole text, in which at most n levels are nested
abbrev pub IsFormedBy : LevelTables → ℕ → Grammar → Node → Type 0
IsFormedBy t n g x = Free (FreeWithin t.rule n) g x None

-- The list is `front` and then `left`, and no tree of these has a spelling that begins with `front` and goes on with
-- the terminal of `left`, or ends as `left` does.
abbrev pub NoneGoesOn : (Node → Type 0) → List Item → List Item → Type 0
NoneGoesOn P l left = (front : List Item) × (l ≡ front ++ left) ×
    ((x : Node) (more : List Item) → P x → spell x ≡ front ++ more → next more ≡ next left → ⊥)

-- what is read to the end is formed and spells the list
abbrev pub FoundIsFormed : Type 0
FoundIsFormed = (t : LevelTables) (g : Grammar) → IsDecided t g ≡ true → (n : ℕ) (l : List Item) (x : Node)
    → read t n g l ≡ Ok (x, []) → IsFormedBy t n g x × (spell x ≡ l)

-- each formed tree is read from its spelling
abbrev pub FormedIsFound : Type 0
FormedIsFound = (t : LevelTables) (g : Grammar) → IsDecided t g ≡ true → (n : ℕ) (x : Node) → IsFormedBy t n g x
    → read t n g (spell x) ≡ Ok (x, [])

-- two formed trees of one spelling are equal
abbrev pub OneTree : Type 0
OneTree = (t : LevelTables) (g : Grammar) → IsDecided t g ≡ true → (n : ℕ) (x y : Node) → IsFormedBy t n g x
    → IsFormedBy t n g y → spell x ≡ spell y → x ≡ y

-- with a refused token no formed tree goes on
abbrev pub RefusedIsWrong : Type 0
RefusedIsWrong = (t : LevelTables) (g : Grammar) → IsDecided t g ≡ true → (n : ℕ) (l : List Item) (r : Refusal)
    → read t n g l ≡ Err r → NoneGoesOn (IsFormedBy t n g) l (unread_of r)

-- nor with one that stands after a whole tree
abbrev pub SurplusIsWrong : Type 0
SurplusIsWrong =
    (t : LevelTables) (g : Grammar) → IsDecided t g ≡ true
    → (n : ℕ) (l : List Item) (x : Node) (z : Item) (rest : List Item)
    → read t n g l ≡ Ok (x, z ∷ rest) → NoneGoesOn (IsFormedBy t n g) l (z ∷ rest)
