-- What reading a program, with at most n levels nested, says of its tokens.
use Rattle.std.specs.Prelude.{◌<◌, ◌≡◌, [], ℕ, Err, List, Ok, drop, length}
use Rattle.grammar.specs.{Nodes.Item, Nodes.Node, Reading.Deep, Reading.read}
use Rattle.grammar.specs.Refusals.{IsFirstHopelessBy, IsFirstTooDeepBy, IsHopeless, NoneTooDeep, StopsAt}
use Rattle.pas_tree.specs.{FirstFollow.pascal, Rules.program_rule}

-- Token i is the first that is too deep: with it the spelling of some shaped tree goes on, and a node of nesting n + 1
-- begins there.
abbrev pub IsFirstTooDeep : ℕ → List Item → ℕ → Type 0
IsFirstTooDeep n text i = IsFirstTooDeepBy pascal n program_rule text i

-- None is too deep, and token i is the first with which the spelling of no shaped tree goes on.
abbrev pub IsFirstHopeless : ℕ → List Item → ℕ → Type 0
IsFirstHopeless n text i = IsFirstHopelessBy pascal n program_rule text i

-- none is too deep and none is hopeless
abbrev pub HasNeither : ℕ → List Item → Type 0
HasNeither n text =
    NoneTooDeep pascal n program_rule text × ((i : ℕ) → IsHopeless pascal program_rule text i → ⊥)

-- what a reader's answer says of the tokens
pub record IsExactWhereRead : Type 0 where
  pub deep : (n : ℕ) (text : List Item) (i : ℕ) → i < length text
      → read pascal n program_rule text ≡ Err (Deep (drop i text)) → IsFirstTooDeep n text i
  pub stops : (n : ℕ) (text : List Item) (i : ℕ) → i < length text → StopsAt pascal n program_rule text i
      → IsFirstHopeless n text i
  pub whole : (n : ℕ) (text : List Item) (x : Node) → read pascal n program_rule text ≡ Ok (x, []) → HasNeither n text

-- and back: how such a token is refused
pub record IsExactWhereFirst : Type 0 where
  pub deep : (n : ℕ) (text : List Item) (i : ℕ) → IsFirstTooDeep n text i
      → read pascal n program_rule text ≡ Err (Deep (drop i text))
  pub stops : (n : ℕ) (text : List Item) (i : ℕ) → IsFirstHopeless n text i → StopsAt pascal n program_rule text i
