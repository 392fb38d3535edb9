-- The token that is refused is exactly the one that the answer tells of.
use Rattle.std.proofs.Common.{◌+◌, ◌<◌, ◌∙◌, ◌∷◌, ◌≡◌, ◌≤◌, [], ℕ, Err, List, Ok, ap, arith, drop, inl, inr, length, refl, suc, zero}
use Rattle.std.proofs.lemmas.List.{length-map}
use Rattle.pas_lexer.specs.{Lexed.EndsOnce, declared.kinds.Token.Token}
use Rattle.grammar.specs.{Nodes.Item, Nodes.Node, Reading.Deep, Reading.Unfit, declared.terminals.Terminal.Terminal}
use Rattle.pas_tree.{proofs.FirstRefused.deep_is_first, proofs.FirstRefused.stop_is_first, proofs.FirstRefused.whole_has_neither, specs.FirstRefused.HasNeither}
use Rattle.pas_phrases.{proofs.NextToken.items_end, specs.Items.Fails, specs.Items.items_from, specs.Items.numbered, specs.declared.fault.ParseFault.ParseFault}
use Rattle.pas_parser.proofs.WholePrograms.{IsRead, length-numbered, program_read, refused_there}
use Rattle.pas_parser.specs.{Exact.IsExact, Kinds.terminal_of, Kinds.terminals_of}

numbered_drop : (ks : List Terminal) (i m : ℕ) → numbered (m + i) (drop i ks) ≡ drop i (numbered m ks)
numbered_drop ks zero m = let e : m + 0 ≡ m = omega arith in ap (λ (n : ℕ). numbered n ks) e
numbered_drop [] (suc i) m = refl
numbered_drop (k ∷ ks) (suc i) m = let e : m + suc i ≡ (m + 1) + i = omega arith in ap (λ (n : ℕ). numbered n (drop i ks)) e ∙ numbered_drop ks i (m + 1)

-- the items from a place on are what is left of all
items_drop : (ks : List Terminal) (i : ℕ) → items_from ks i ≡ drop i (items_from ks 0)
unfolding items_from
items_drop ks i = let e : i ≡ 0 + i = omega arith in ap (λ (n : ℕ). numbered n (drop i ks)) e ∙ numbered_drop ks i 0

length-all : (ks : List Terminal) → length (items_from ks 0) ≡ length ks
unfolding items_from
length-all ks = length-numbered 0 ks

-- as many terminals as tokens
length-terminals : (tokens : List Token) → length (terminals_of tokens) ≡ length tokens
length-terminals tokens = length-map tokens (λ (t : Token). terminal_of t.kind)

inside_all : (ks : List Terminal) (i : ℕ) → i < length ks → i < length (items_from ks 0)
inside_all ks i h = omega (arith, length-all ks)

inside_tokens : (tokens : List Token) (i : ℕ) → i < length (terminals_of tokens) → i < length tokens
inside_tokens tokens i h = omega (arith, length-terminals tokens)

-- a token that is refused
pub exactly_there : (tokens : List Token) (e : ParseFault) → EndsOnce tokens → Fails (terminals_of tokens) e (program_read (terminals_of tokens))
    → IsExact tokens (Err e)
exactly_there tokens (ParseFault.NotProgram i) ended given =
    let ks = terminals_of tokens in
    let h = (refused_there tokens (ParseFault.NotProgram i) ended given).0 in (
      inside_tokens tokens i h,
      stop_is_first 200 (items_from ks 0) i (inside_all ks i h)
          (inl (given ∙ ap (λ (l : List Item). Err (Unfit l)) (items_drop ks i))),
    )
exactly_there tokens (ParseFault.TooDeep i) ended given =
    let ks = terminals_of tokens in
    let h = (refused_there tokens (ParseFault.TooDeep i) ended given).0 in
    (inside_tokens tokens i h, deep_is_first 200 (items_from ks 0) i (inside_all ks i h) (given ∙ ap (λ (l : List Item). Err (Deep l)) (items_drop ks i)))
exactly_there tokens ParseFault.Memory ended given = tt

-- one that stands after a whole program
pub exactly_after : (tokens : List Token) (y : Node) (after : ℕ) → IsRead (terminals_of tokens) y after → after < length (terminals_of tokens)
    → IsExact tokens (Err (ParseFault.NotProgram after))
exactly_after tokens y after given h =
    let ks = terminals_of tokens in (
      inside_tokens tokens after h,
      stop_is_first 200 (items_from ks 0) after (inside_all ks after h)
          (inr (y, given ∙ ap (λ (l : List Item). Ok (y, l)) (items_drop ks after))),
    )

-- none
pub exactly_none : (ks : List Terminal) (y : Node) (after : ℕ) → IsRead ks y after → length ks ≤ after → HasNeither 200 (items_from ks 0)
exactly_none ks y after given h = whole_has_neither 200 (items_from ks 0) y (given ∙ ap (λ (l : List Item). Ok (y, l)) (items_end ks after h))
