-- What holds of refusals.
use Rattle.std.specs.Prelude.{◌++◌, ◌<◌, ◌∷◌, ◌≡◌, ◌⊎◌, [], ℕ, Bool, Err, List, Ok, drop, length, true}
use Rattle.grammar.specs.{Completing.IsCompleted, Deciding.IsDecided, Deciding.LevelTables, Grammars.Grammar}
use Rattle.grammar.specs.{Laws.IsFormedBy, Laws.NoneGoesOn, Nesting.BeginsDeep, Nesting.IsShaped, Nodes.Item}
use Rattle.grammar.specs.{Nodes.Node, Nodes.spell, Reaching.IsReaching, declared.terminals.Terminal.Terminal}
use Rattle.grammar.specs.Reading.{Deep, Refusal, Unfit, read, unread_of}
use Rattle.grammar.specs.Refusals.{IsFirstHopelessBy, IsFirstTooDeepBy, IsHopeless, NoneTooDeep, StopsAt}

-- The grammar passes the checks: one token decides each choice, short trees in which at most d levels are nested
-- complete
-- what was read, in front of a calm terminal, and each token in front of which a level is tried may stand there.
pub record Checks (calm : Terminal → Bool) (d : ℕ) (t : LevelTables) (g : Grammar) : Type 0 where
  pub decided : IsDecided t g ≡ true
  pub completed : IsCompleted calm d t g ≡ true
  pub reaching : IsReaching t d g ≡ true

-- ---- not too early

-- with an unfit token no tree goes on, at whatever nesting
abbrev pub UnfitIsHopeless : Type 0
UnfitIsHopeless = (t : LevelTables) (g : Grammar) → IsDecided t g ≡ true → (n : ℕ) (l left : List Item)
    → read t n g l ≡ Err (Unfit left) → NoneGoesOn (IsShaped t g) l left

-- nor with one that stands after a whole tree
abbrev pub SurplusIsHopeless : Type 0
SurplusIsHopeless =
    (t : LevelTables) (g : Grammar) → IsDecided t g ≡ true
    → (n : ℕ) (l : List Item) (x : Node) (z : Item) (rest : List Item) → read t n g l ≡ Ok (x, z ∷ rest)
    → NoneGoesOn (IsShaped t g) l (z ∷ rest)

-- ---- not too late

-- what stands before a refused token begins the spelling of a tree
abbrev pub RefusedIsBegun : Type 0
RefusedIsBegun =
    (calm : Terminal → Bool) (d : ℕ) (t : LevelTables) (g : Grammar) → IsDecided t g ≡ true
    → IsCompleted calm d t g ≡ true → (n : ℕ) (l : List Item) (r : Refusal) → read t n g l ≡ Err r
    → (front : List Item) × (l ≡ front ++ unread_of r) × (x : Node) × (more : List Item) × IsShaped t g x ×
    (spell x ≡ front ++ more)

-- with a token that is refused as too deep a tree goes on, and there begins a node of nesting n + 1
abbrev pub DeepIsBegun : Type 0
DeepIsBegun =
    (calm : Terminal → Bool) (d : ℕ) (t : LevelTables) (g : Grammar) → Checks calm d t g
    → (n : ℕ) (l : List Item) (z : Item) (rest : List Item) → read t n g l ≡ Err (Deep (z ∷ rest))
    → (front : List Item) × (l ≡ front ++ z ∷ rest) × (x : Node) × (more : List Item) × IsShaped t g x ×
    (spell x ≡ front ++ z ∷ more) × BeginsDeep t n g x front

-- ---- by the numbers of tokens

-- a token that is refused as too deep is the first that is
abbrev pub DeepIsFirst : Type 0
DeepIsFirst = (calm : Terminal → Bool) (d : ℕ) (t : LevelTables) (g : Grammar) → Checks calm d t g
    → (n : ℕ) (l : List Item) (i : ℕ) → i < length l → read t n g l ≡ Err (Deep (drop i l)) → IsFirstTooDeepBy t n g l i

-- and the first that is is refused so
abbrev pub FirstIsDeep : Type 0
FirstIsDeep = (calm : Terminal → Bool) (d : ℕ) (t : LevelTables) (g : Grammar) → Checks calm d t g
    → (n : ℕ) (l : List Item) (i : ℕ) → IsFirstTooDeepBy t n g l i → read t n g l ≡ Err (Deep (drop i l))

-- where reading stops, no token is too deep, and that one is the first that is hopeless
abbrev pub StopIsFirst : Type 0
StopIsFirst = (calm : Terminal → Bool) (d : ℕ) (t : LevelTables) (g : Grammar) → IsDecided t g ≡ true
    → IsCompleted calm d t g ≡ true → (n : ℕ) (l : List Item) (i : ℕ) → i < length l → StopsAt t n g l i
    → IsFirstHopelessBy t n g l i

-- and at the first hopeless token reading stops, if none is too deep
abbrev pub FirstIsStop : Type 0
FirstIsStop = (calm : Terminal → Bool) (d : ℕ) (t : LevelTables) (g : Grammar) → Checks calm d t g
    → (n : ℕ) (l : List Item) (i : ℕ) → IsFirstHopelessBy t n g l i → StopsAt t n g l i

-- in a text that is read no token is too deep and none is hopeless
abbrev pub ReadHasNeither : Type 0
ReadHasNeither =
    (calm : Terminal → Bool) (d : ℕ) (t : LevelTables) (g : Grammar) → IsDecided t g ≡ true
    → IsCompleted calm d t g ≡ true → (n : ℕ) (l : List Item) (x : Node) → read t n g l ≡ Ok (x, [])
    → NoneTooDeep t n g l × ((i : ℕ) → IsHopeless t g l i → ⊥)

-- ---- what nesting means

-- in a tree of at most n levels no node of nesting n + 1 begins
abbrev pub FormedIsNotDeep : Type 0
FormedIsNotDeep = (t : LevelTables) (g : Grammar) → IsDecided t g ≡ true → (n : ℕ) (x : Node) (f : List Item)
    → IsFormedBy t n g x → BeginsDeep t n g x f → ⊥

-- in each other tree one does
abbrev pub FormedOrDeep : Type 0
FormedOrDeep = (t : LevelTables) (g : Grammar) (n : ℕ) (x : Node) → IsShaped t g x
    → IsFormedBy t n g x ⊎ ((f : List Item) × BeginsDeep t n g x f)

-- and only in trees
abbrev pub DeepIsShaped : Type 0
DeepIsShaped = (t : LevelTables) (g : Grammar) (n : ℕ) (x : Node) (f : List Item) → BeginsDeep t n g x f
    → IsShaped t g x
