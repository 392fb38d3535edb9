-- The terminals of a source as items with their numbers, and what a reader made of them.
use Rattle.std.specs.Prelude.{if◌then◌else◌, ◌+◌, ◌<◌, ◌^◌, ◌∷◌, ◌≡◌, [], ℕ, Bool, Err, List, None, Ok, Option, Result}
use Rattle.std.specs.Prelude.{Some, drop, false, length, true}
use Rattle.grammar.specs.{Terminals.one_of, Terminals.passes, declared.terminals.Terminal.Terminal}
use Rattle.grammar.specs.Grammars.{Grammar, choice, nothing, seq, word}
use Rattle.grammar.specs.Nodes.{Item, Node, Nothing, Pair, leaf, next, second}
use Rattle.grammar.specs.Reading.{◌>>=◌, Deep, Read, Unfit, token_at}
use Rattle.pas_tree.specs.{Operators.sign_leaf, Rules.plain_constants, declared.operators.Sign.Sign}
use Rattle.pas_phrases.specs.declared.fault.ParseFault.{ParseFault}
use Rattle.pas_phrases.specs.declared.fault.ParseFault.TheVariants.{Memory, NotProgram, TooDeep}

-- items numbered from a number on
abbrev pub numbered : ℕ → List Terminal → List Item
numbered n [] = []
numbered n (k ∷ ks) = record { kind = k; number = n } ∷ numbered (n + 1) ks

-- the items from a place on
unfoldable pub items_from : List Terminal → ℕ → List Item
items_from ks n = numbered n (drop n ks)

abbrev pub Fails : List Terminal → ParseFault → Read → Type 0
Fails ks (NotProgram i) read = read ≡ Err (Unfit (items_from ks i))
Fails ks (TooDeep i) read = read ≡ Err (Deep (items_from ks i))
Fails ks Memory read = Unit {0}

-- What a function returned, seen as a node, is what reading gives, unless memory ran out.
abbrev pub ReadsAs : {X : Type 0} → List Terminal → (X → Node) → Result (X × ℕ) ParseFault → Read → Type 0
ReadsAs ks view (Ok x) read = read ≡ Ok (view x.0, items_from ks x.1)
ReadsAs ks view (Err e) read = Fails ks e read

-- a token that may be left out
abbrev pub optional_token : List Terminal → List Item → Read
optional_token ks l = if passes ks (next l) then token_at ks l else Ok (Nothing, l)

-- a semicolon after the last part of a series, or none
abbrev pub last_semicolon : Grammar
last_semicolon = choice (Terminal.Semicolon ∷ []) (seq (word Terminal.Semicolon) nothing) nothing

-- whether a separator is next, and after it what begins a part
abbrev pub goes_further : Terminal → List Terminal → List Item → Bool
goes_further separator ks l = if passes (separator ∷ []) (next l) then passes ks (second l) else false

-- A terminal is one of these exactly where it was seen as an operator, which then says that terminal.
abbrev pub IsSeen : {X : Type 0} → List Terminal → (X → Node) → Terminal → ℕ → Option X → Type 0
IsSeen ks view kind n None = one_of ks kind ≡ false
IsSeen ks view kind n (Some x) = (one_of ks kind ≡ true) × (view x ≡ leaf kind n)

-- what is known of a place where there is a terminal, and where there is none
abbrev pub IsInside : List Terminal → ℕ → Option Terminal → Type 0
IsInside ks at None = items_from ks at ≡ []
IsInside ks at (Some k) = (at < length ks) × (at + 1 < 2 ^ 32)
    × (items_from ks at ≡ record { kind = k; number = at } ∷ items_from ks (at + 1))

-- a number or a name, after a sign that was read
abbrev pub signed_plain : Option Sign → List Item → Read
signed_plain None l = token_at plain_constants l
signed_plain (Some s) l = token_at plain_constants l >>= λ x. Ok (Pair (sign_leaf s) x.0, x.1)
