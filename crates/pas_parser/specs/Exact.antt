-- What an answer of the parser says of the tokens: exactly which one is refused, and why.
use Rattle.std.specs.Prelude.{◌<◌, Err, List, Ok, Result, length}
use Rattle.pas_lexer.specs.declared.kinds.Token.{Token}
use Rattle.pas_tree.specs.FirstRefused.{HasNeither, IsFirstHopeless, IsFirstTooDeep}
use Rattle.pas_tree.specs.declared.blocks.Tree.{Tree}
use Rattle.pas_phrases.specs.declared.fault.ParseFault.{ParseFault}
use Rattle.pas_phrases.specs.declared.fault.ParseFault.TheVariants.{Memory, NotProgram, TooDeep}
use Rattle.pas_parser.specs.Formed.{items_of}

-- `TooDeep(i)`: token i is the first that is too deep, at a nesting of 201. `NotProgram(i)`: none is too deep, and
-- token i is
-- the first with which no shaped tree goes on. A tree: none is too deep, and with each a shaped tree goes on.
abbrev pub IsExact : List Token → Result Tree ParseFault → Type 0
IsExact tokens (Ok t) = HasNeither 200 (items_of tokens)
IsExact tokens (Err (NotProgram i)) = (i < length tokens) × IsFirstHopeless 200 (items_of tokens) i
IsExact tokens (Err (TooDeep i)) = (i < length tokens) × IsFirstTooDeep 200 (items_of tokens) i
IsExact tokens (Err Memory) = Unit {0}
