-- The trees to which a reader that looks at the next token is led.
use Rattle.std.specs.Prelude.{◌≡◌, ◌⊎◌, ℕ, List, Option, false, suc, true, zero}
use Rattle.grammar.specs.{Nodes.Node, Nodes.ahead, Nodes.spell, Terminals.passes, declared.terminals.Terminal.Terminal}
use Rattle.grammar.specs.Grammars.{Grammar, IsLeaf, IsNone, IsNothing, IsPair, Level, again, choice, greedy, level}
use Rattle.grammar.specs.Grammars.{loop, nothing, rounds, seq, token}

-- the first where the next token passes, else the second
abbrev pub IsChoice : List Terminal → (Node → Option Terminal → Type 0) → (Node → Option Terminal → Type 0) → Node
    → Option Terminal → Type 0
IsChoice ks p q x h = ((passes ks (ahead (spell x) h) ≡ true) × p x h) ⊎
    ((passes ks (ahead (spell x) h) ≡ false) × q x h)

abbrev pub Is : (Level → Node → Option Terminal → Type 0) → Grammar → (Node → Option Terminal → Type 0) → Node
    → Option Terminal → Type 0
Is env (token ks) v x h = IsLeaf ks x
Is env nothing v x h = IsNothing x
Is env (seq a b) v x h = IsPair (Is env a v) (Is env b v) x h
Is env (choice ks a b) v x h = IsChoice ks (Is env a v) (Is env b v) x h
Is env (greedy ks a) v x h = IsChoice ks (Is env a v) (λ x h. IsNothing x) x h
Is env (level l) v x h = env l x h
Is env (loop a) v x h = (k : ℕ) × rounds k (Is env a) x h
Is env again v x h = v x h

-- the same of a level in which at most n levels are nested
unfoldable pub Within : (Level → Grammar) → ℕ → Level → Node → Option Terminal → Type 0
Within rule zero l x h = ⊥
Within rule (suc n) l x h = Is (Within rule n) (rule l) IsNone x h
