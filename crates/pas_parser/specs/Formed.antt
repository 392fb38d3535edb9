-- Which trees are formed, and what they spell.
use Rattle.std.specs.Prelude.{◌++◌, ◌+◌, ◌<◌, ◌≡◌, ℕ, Err, List, Ok, Result, length, take}
use Rattle.pas_lexer.specs.declared.kinds.Token.{Token}
use Rattle.grammar.specs.{Laws.IsFormedBy, Nodes.Item, Nodes.Node, Nodes.spell, declared.terminals.Terminal.Terminal}
use Rattle.pas_tree.specs.{Blocks.tree_node, FirstFollow.pascal, Rules.program_rule, declared.blocks.Tree.Tree}
use Rattle.pas_phrases.specs.{Items.items_from, declared.fault.ParseFault.ParseFault}
use Rattle.pas_phrases.specs.declared.fault.ParseFault.TheVariants.{Memory, NotProgram, TooDeep}
use Rattle.pas_parser.specs.Kinds.{terminals_of}

-- A tree of the grammar of Pascal in which each else belongs to the nearest if that has none, and no node's
-- nesting is above 200.
abbrev pub IsFormed : Node → Type 0
IsFormed x = IsFormedBy pascal 200 program_rule x

-- the tokens, each a terminal with its number
abbrev pub items_of : List Token → List Item
items_of tokens = items_from (terminals_of tokens) 0

-- the tokens are the text of a program: a formed tree spells them
abbrev pub IsText : List Token → Type 0
IsText tokens = (x : Node) × IsFormed x × (spell x ≡ items_of tokens)

-- the spelling begins with the tokens 0 to i
abbrev pub Begins : List Item → List Item → ℕ → Type 0
Begins spelling items i = (more : List Item) × (spelling ≡ take (i + 1) items ++ more)

-- no formed tree's spelling begins with the tokens 0 to i
abbrev pub NoFormedGoesOn : List Terminal → ℕ → Type 0
NoFormedGoesOn ks i = (x : Node) → IsFormed x → Begins (spell x) (items_from ks 0) i → ⊥

-- a token of the source is refused, and rightly
abbrev pub IsRefusedAt : List Terminal → ℕ → Type 0
IsRefusedAt ks i = (i < length ks) × NoFormedGoesOn ks i

abbrev pub IsRefusal : List Token → Result Tree ParseFault → Type 0
IsRefusal tokens (Ok t) = Unit {0}
IsRefusal tokens (Err (NotProgram i)) = IsRefusedAt (terminals_of tokens) i
IsRefusal tokens (Err (TooDeep i)) = IsRefusedAt (terminals_of tokens) i
IsRefusal tokens (Err Memory) = Unit {0}

-- the answer is that tree, unless memory runs out
abbrev pub IsTheTree : Node → Result Tree ParseFault → Type 0
IsTheTree x (Ok t) = tree_node t ≡ x
IsTheTree x (Err (NotProgram i)) = ⊥
IsTheTree x (Err (TooDeep i)) = ⊥
IsTheTree x (Err Memory) = Unit {0}
