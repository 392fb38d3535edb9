-- A terminal that stands at the end of a text alone.
use Rattle.std.specs.Prelude.{◌∷◌, ◌≡◌, ◌⊎◌, [], ℕ, Bool, Err, List, false, not, true}
use Rattle.grammar.specs.{Nodes.Item, Terminals.every_of, Terminals.one_of, declared.terminals.Terminal.Terminal}
use Rattle.grammar.specs.Deciding.{LevelTables, all_levels, both}
use Rattle.grammar.specs.Grammars.{Grammar, again, choice, greedy, level, loop, nothing, seq, token}
use Rattle.grammar.specs.Reading.{Refusal, read, unread_of}

-- no token of the grammar's own is of that terminal
abbrev pub lacks : Terminal → Grammar → Bool
lacks k (token ks) = not (one_of ks k)
lacks k nothing = true
lacks k (seq a b) = both (lacks k a) (lacks k b)
lacks k (choice ks a b) = both (lacks k a) (lacks k b)
lacks k (greedy ks a) = lacks k a
lacks k (level l) = true
lacks k (loop a) = lacks k a
lacks k again = true

-- none but the last
abbrev pub ends_in : Terminal → Grammar → Bool
ends_in k (token ks) = true
ends_in k nothing = false
ends_in k (seq a b) = both (lacks k a) (ends_in k b)
ends_in k (choice ks a b) = false
ends_in k (greedy ks a) = false
ends_in k (level l) = false
ends_in k (loop a) = false
ends_in k again = false

-- the terminal stands at the end of a whole text alone
abbrev pub IsLast : Terminal → LevelTables → Grammar → Bool
IsLast k t g = both (every_of (λ l. lacks k (t.rule l)) all_levels) (ends_in k g)

-- a token of that terminal is in the list
abbrev pub Has : Terminal → List Item → Type 0
Has k [] = ⊥
Has k (x ∷ l) = (x.kind ≡ k) ⊎ Has k l

-- A list that has such a terminal is refused before its last token or at it.
abbrev pub RefusedIsInside : Type 0
RefusedIsInside = (k : Terminal) (t : LevelTables) (g : Grammar) → IsLast k t g ≡ true
    → (n : ℕ) (l : List Item) (r : Refusal) → Has k l → read t n g l ≡ Err r → Has k (unread_of r)
