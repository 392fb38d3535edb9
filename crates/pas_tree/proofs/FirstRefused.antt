-- The laws of refusals at the grammar of Pascal.
use Rattle.std.proofs.Common.{◌<◌, ◌≡◌, [], ℕ, Err, List, Ok, drop, length}
use Rattle.grammar.proofs.FirstRefusals.{deep_first, first_deep, first_stop, read_none_deep, read_none_hopeless, stop_first}
use Rattle.grammar.specs.{Nodes.Item, Nodes.Node, Reading.Deep, Reading.read, Refusals.StopsAt}
use Rattle.pas_tree.proofs.Decided.{calm, pascal_checks}
use Rattle.pas_tree.specs.{FirstFollow.pascal, Rules.program_rule}
use Rattle.pas_tree.specs.FirstRefused.{HasNeither, IsExactWhereFirst, IsExactWhereRead, IsFirstHopeless, IsFirstTooDeep}
open pascal_checks use {decided, completed, reaching}

pub deep_is_first : (n : ℕ) (text : List Item) (i : ℕ) → i < length text → read pascal n program_rule text ≡ Err (Deep (drop i text))
    → IsFirstTooDeep n text i
deep_is_first n = deep_first pascal program_rule decided n calm 2 completed reaching

pub stop_is_first : (n : ℕ) (text : List Item) (i : ℕ) → i < length text → StopsAt pascal n program_rule text i → IsFirstHopeless n text i
stop_is_first n = stop_first pascal program_rule decided n calm 2 completed

pub whole_has_neither : (n : ℕ) (text : List Item) (x : Node) → read pascal n program_rule text ≡ Ok (x, []) → HasNeither n text
whole_has_neither n text x e =
    (read_none_deep pascal program_rule decided n text (x, []) e, read_none_hopeless pascal program_rule decided n calm 2 completed text x e)

pub where_read : IsExactWhereRead
where_read = record { deep = deep_is_first; stops = stop_is_first; whole = whole_has_neither }

pub where_first : IsExactWhereFirst
where_first = record {
  deep = λ n. first_deep pascal program_rule decided n calm 2 completed reaching;
  stops = λ n. first_stop pascal program_rule decided n calm 2 completed reaching;
}
