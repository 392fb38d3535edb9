-- The terminals of tokens, one more at a time.
use Rattle.std.proofs.Common.{◌++◌, ◌+◌, ◌∙◌, ◌∷◌, ◌≡◌, [], ℕ, List, Some, ap, get_or, slice_get, take}
use Rattle.std.proofs.lemmas.{List.map_push, List.take_more, Option.get_or_from_slice_get, Option.slice_get_within}
use Rattle.pas_lexer.specs.declared.kinds.Token.{Token}
use Rattle.pas_parser.specs.Kinds.{terminal_of, terminals_of}

pub one_more : (ts : List Token) (n : ℕ) (x : Token) → slice_get ts n ≡ Some x
    → terminals_of (take (n + 1) ts) ≡ terminals_of (take n ts) ++ terminal_of x.kind ∷ []
one_more ts n x e =
    ap terminals_of (take_more ts n x (slice_get_within ts n x e)) ∙ map_push (λ (t : Token). terminal_of t.kind) (take n ts) (get_or ts n x)
    ∙ ap (λ (y : Token). terminals_of (take n ts) ++ terminal_of y.kind ∷ []) (get_or_from_slice_get ts n x x e)
