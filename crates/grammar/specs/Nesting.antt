-- Trees in which a construct begins that is nested deeper than a reader goes.
use Rattle.std.specs.Prelude.{◌++◌, ◌≡◌, ◌⊎◌, [], ℕ, List, None, Option, suc, zero}
use Rattle.grammar.specs.{Deciding.LevelTables, Laws.IsFormedBy, declared.terminals.Terminal.Terminal}
use Rattle.grammar.specs.Grammars.{FreeIn, FreeWithin, Grammar, IsNone, Level, again, choice, greedy, level, loop}
use Rattle.grammar.specs.Grammars.{nothing, seq, token}
use Rattle.grammar.specs.Nodes.{Item, Leaf, Node, Nothing, Pair, ahead, spell}

-- some trees, each in front of a token or of the end
abbrev pub Trees : Type 1
Trees = Node → Option Terminal → Type 0

-- some trees with a place in each, which is told by the tokens of the tree that stand before it
abbrev pub Places : Type 1
Places = Node → Option Terminal → List Item → Type 0

-- a tree of a whole text, at whatever nesting
abbrev pub IsShaped : LevelTables → Grammar → Node → Type 0
IsShaped t g x = (m : ℕ) × IsFormedBy t m g x

-- a tree of a level, at whatever nesting
abbrev pub Nested : (Level → Grammar) → Level → Trees
Nested rule l x h = (m : ℕ) × FreeWithin rule m l x h

-- no place
abbrev pub nowhere : Places
nowhere x h f = ⊥

-- a pair with a place in one of its parts, the other part being a tree
abbrev pub InPair : Trees → Trees → Places → Places → Places
InPair p q m k (Leaf item) h f = ⊥
InPair p q m k Nothing h f = ⊥
InPair p q m k (Pair a b) h f = (m a (ahead (spell b) h) f × q b h) ⊎
    ((rest : List Item) × (f ≡ spell a ++ rest) × p a (ahead (spell b) h) × k b h rest)

-- a place in one of at most this many rounds of a loop
abbrev pub in_rounds : ℕ → (Places → Places) → Places
in_rounds zero f x h at = ⊥
in_rounds (suc k) f x h at = f (in_rounds k f) x h at

-- The trees of a grammar with a place in each where something begins: `env` has the trees of the levels, and `deep`
-- those with a place; `v` and `m` have the same of what `again` stands for.
abbrev pub BeginsIn : (Level → Trees) → (Level → Places) → Grammar → Trees → Places → Places
BeginsIn env deep (token ks) v m x h f = ⊥
BeginsIn env deep nothing v m x h f = ⊥
BeginsIn env deep (seq a b) v m x h f = InPair (FreeIn env a v) (FreeIn env b v) (BeginsIn env deep a v m)
    (BeginsIn env deep b v m) x h f
BeginsIn env deep (choice ks a b) v m x h f = BeginsIn env deep a v m x h f ⊎ BeginsIn env deep b v m x h f
BeginsIn env deep (greedy ks a) v m x h f = BeginsIn env deep a v m x h f
BeginsIn env deep (level l) v m x h f = deep l x h f
BeginsIn env deep (loop a) v m x h f = (k : ℕ) × in_rounds k (BeginsIn env deep a (FreeIn env (loop a) v)) x h f
BeginsIn env deep again v m x h f = m x h f

-- A tree of the level with a place in it where a node begins that is nested n levels deeper than its own: at 0 its own.
unfoldable pub BeginsAt : (Level → Grammar) → ℕ → Level → Places
BeginsAt rule zero l x h f = (f ≡ []) × Nested rule l x h
BeginsAt rule (suc n) l x h f = BeginsIn (Nested rule) (BeginsAt rule n) (rule l) IsNone nowhere x h f

-- A tree of a whole text in which, after these tokens, a node of nesting n + 1 begins.
abbrev pub BeginsDeep : LevelTables → ℕ → Grammar → Node → List Item → Type 0
BeginsDeep t n g x f = BeginsIn (Nested t.rule) (BeginsAt t.rule n) g IsNone nowhere x None f
