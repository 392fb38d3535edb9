-- Grammars as data, and their trees.
use Rattle.std.specs.Prelude.{◌∷◌, ◌≡◌, ◌⊎◌, [], ℕ, Bool, List, Option, false, suc, true, zero}
use Rattle.grammar.specs.{Terminals.one_of, Terminals.passes, declared.terminals.Terminal.Terminal}
use Rattle.grammar.specs.Nodes.{Leaf, Node, Nothing, Pair, ahead, spell}

-- what closes the list of statements that a statement stands in
pub data Closer : Type 0 where
  by_end : Closer
  by_until : Closer

-- The constructs of Pascal that count as one level of nesting. Of a statement also what may follow it: whether
-- an else may, for some if around it, and what closes its list.
pub data Level : Type 0 where
  block : Level
  heading : Level
  statement : (inner : Bool) (closer : Closer) → Level
  denoter : Level
  schema : Level
  variant_part : Level
  factor : Level

-- Extended Backus-Naur form. In `loop a` the word `again` stands for the whole loop once more. `choice ks a b`
-- is a or b, and ks are the terminals that lead a reader to a. `greedy ks a` is an optional a that is left out
-- only in front of a token that is none of ks.
pub data Grammar : Type 0 where
  token : (kinds : List Terminal) → Grammar
  nothing : Grammar
  seq : (a b : Grammar) → Grammar
  choice : (ks : List Terminal) (a b : Grammar) → Grammar
  greedy : (ks : List Terminal) (a : Grammar) → Grammar
  level : (l : Level) → Grammar
  loop : (a : Grammar) → Grammar
  again : Grammar

-- one terminal
abbrev pub word : Terminal → Grammar
word k = token (k ∷ [])

-- a, as often as a token of ks comes
abbrev pub many : List Terminal → Grammar → Grammar
many ks a = loop (choice ks (seq a again) nothing)

-- Parts after separators: after a separator stands an a, which begins with one of ks, and the series goes on,
-- or z, and it ends.
abbrev pub series : Terminal → List Terminal → Grammar → Grammar → Grammar
series separator ks a z = loop (choice (separator ∷ []) (seq (word separator) (choice ks (seq a again) z)) nothing)

-- ---- the trees of a grammar, each in front of a token or of the end

abbrev pub IsLeaf : List Terminal → Node → Type 0
IsLeaf ks (Leaf item) = one_of ks item.kind ≡ true
IsLeaf ks Nothing = ⊥
IsLeaf ks (Pair a b) = ⊥

abbrev pub IsNothing : Node → Type 0
IsNothing (Leaf item) = ⊥
IsNothing Nothing = Unit {0}
IsNothing (Pair a b) = ⊥

abbrev pub IsPair : (Node → Option Terminal → Type 0) → (Node → Option Terminal → Type 0) → Node → Option Terminal
    → Type 0
IsPair p q (Leaf item) h = ⊥
IsPair p q Nothing h = ⊥
IsPair p q (Pair a b) h = p a (ahead (spell b) h) × q b h

-- no tree
abbrev pub IsNone : Node → Option Terminal → Type 0
IsNone x h = ⊥

-- at most this many rounds of a loop
abbrev pub rounds : ℕ → ((Node → Option Terminal → Type 0) → Node → Option Terminal → Type 0) → Node → Option Terminal
    → Type 0
rounds zero f x h = ⊥
rounds (suc k) f x h = f (rounds k f) x h

-- the trees of a grammar, where `env` has those of the levels and `v` those that `again` stands for
abbrev pub FreeIn : (Level → Node → Option Terminal → Type 0) → Grammar → (Node → Option Terminal → Type 0) → Node
    → Option Terminal → Type 0
FreeIn env (token ks) v x h = IsLeaf ks x
FreeIn env nothing v x h = IsNothing x
FreeIn env (seq a b) v x h = IsPair (FreeIn env a v) (FreeIn env b v) x h
FreeIn env (choice ks a b) v x h = FreeIn env a v x h ⊎ FreeIn env b v x h
FreeIn env (greedy ks a) v x h = FreeIn env a v x h ⊎ (IsNothing x × (passes ks h ≡ false))
FreeIn env (level l) v x h = env l x h
FreeIn env (loop a) v x h = (k : ℕ) × rounds k (FreeIn env a) x h
FreeIn env again v x h = v x h

-- the trees of a whole grammar
abbrev pub Free : (Level → Node → Option Terminal → Type 0) → Grammar → Node → Option Terminal → Type 0
Free env g x h = FreeIn env g IsNone x h

-- the trees of a level in which at most n levels are nested, by the levels' rules
unfoldable pub FreeWithin : (Level → Grammar) → ℕ → Level → Node → Option Terminal → Type 0
FreeWithin rule zero l x h = ⊥
FreeWithin rule (suc n) l x h = Free (FreeWithin rule n) (rule l) x h
