-- Reading a list of tokens by a grammar: each choice is made by the next token.
use Rattle.std.specs.Prelude.{if◌then◌else◌, ◌∷◌, [], ℕ, Err, List, Ok, Result, length, suc, zero}
use Rattle.grammar.specs.{Terminals.one_of, Terminals.passes, declared.terminals.Terminal.Terminal}
use Rattle.grammar.specs.Deciding.{LevelTables, expects}
use Rattle.grammar.specs.Grammars.{Grammar, Level, again, choice, greedy, level, loop, nothing, seq, token}
use Rattle.grammar.specs.Nodes.{Item, Leaf, Node, Nothing, Pair, next}

-- A refusal, with the tokens from the refused one on: no tree goes on with it, or a level that would be nested
-- too deep begins there.
pub data Refusal : Type 0 where
  Unfit : (left : List Item) → Refusal
  Deep : (left : List Item) → Refusal

abbrev pub unread_of : Refusal → List Item
unread_of (Unfit left) = left
unread_of (Deep left) = left

-- the tree that was read and the tokens after it
abbrev pub Read : Type 0
Read = Result (Node × List Item) Refusal

infixl 10 ◌>>=◌
abbrev pub ◌>>=◌ : Read → (Node × List Item → Read) → Read
(Ok x) >>= f = f x
(Err e) >>= f = Err e

abbrev pub token_at : List Terminal → List Item → Read
token_at ks [] = Err (Unfit [])
token_at ks (x ∷ l) = if one_of ks x.kind then Ok (Leaf x, l) else Err (Unfit (x ∷ l))

abbrev pub then_pair : Read → (List Item → Read) → Read
then_pair r q = r >>= λ x. q x.1 >>= λ y. Ok (Pair x.0 y.0, y.1)

abbrev pub unfit_here : List Item → Read
unfit_here l = Err (Unfit l)

-- at most this many rounds of a loop
abbrev pub turns : ℕ → ((List Item → Read) → List Item → Read) → List Item → Read
turns zero f l = Err (Unfit l)
turns (suc k) f l = f (turns k f) l

-- as many rounds as there may be: each takes a token
unfoldable pub turning : ((List Item → Read) → List Item → Read) → List Item → Read
turning f l = turns (suc (length l)) f l

abbrev pub reads : (Level → List Item → Read) → Grammar → (List Item → Read) → List Item → Read
reads env (token ks) v l = token_at ks l
reads env nothing v l = Ok (Nothing, l)
reads env (seq a b) v l = then_pair (reads env a v l) (reads env b v)
reads env (choice ks a b) v l = if passes ks (next l) then reads env a v l else reads env b v l
reads env (greedy ks a) v l = if passes ks (next l) then reads env a v l else Ok (Nothing, l)
reads env (level w) v l = env w l
reads env (loop a) v l = turning (reads env a) l
reads env again v l = v l

-- what is read where n more levels may be nested
unfoldable pub levels : LevelTables → ℕ → Level → List Item → Read
levels tables zero l items = if expects tables l (next items) then Err (Deep items) else Err (Unfit items)
levels tables (suc n) l items = reads (levels tables n) (tables.rule l) unfit_here items

unfoldable pub read : LevelTables → ℕ → Grammar → List Item → Read
read tables n g items = reads (levels tables n) g unfit_here items
