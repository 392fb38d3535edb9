-- The tokens of a text are counted, so none stands twice.
use Rattle.std.proofs.Common.{◌++◌, ◌+◌, ◌<◌, ◌∙◌, ◌∷◌, ◌≡◌, ◌≤◌, [], ℕ, List, ap, arith, inl, inr, length, refl, subst, suc, sym}
use Rattle.std.proofs.lemmas.List.{length-append, length-map}
use Rattle.pas_lexer.specs.{Lexed.Lexed, declared.kinds.Token.Token}
use Rattle.grammar.specs.Nodes.{Item, Leaf, Node, Nothing, Pair, leaf, spell}
use Rattle.grammar.specs.declared.terminals.Terminal.{Terminal}
use Rattle.grammar.specs.declared.terminals.Terminal.TheVariants as terminal
use Rattle.pas_tree.specs.{BlockTrees.ProgramTree, TreeNodes.block_node, TreeNodes.parameters_node, TreeNodes.tree_node}
use Rattle.pas_phrases.specs.Items.{items_from, numbered}
use Rattle.pas_parser.specs.{Formed.items_of, Kinds.terminal_of, Kinds.terminals_of}
use Rattle.check_steps.specs.Words.{known_at_start, names_of, word_of}
use Rattle.rule_laws.proofs.Every.{Every}
use Rattle.rule_laws.specs.{TextLaws.TokensDiffer, Tokens.Has, Tokens.IsDistinct}

-- their numbers count on from one
abbrev Counted : ℕ → List Item → Type 0
Counted n [] = Unit {0}
Counted n (i ∷ is) = (i.number ≡ n) × Counted (n + 1) is

counted : (n : ℕ) (ks : List Terminal) → Counted n (numbered n ks)
counted n [] = tt
counted n (k ∷ ks) = (refl, counted (n + 1) ks)

all_counted : (ks : List Terminal) → Counted 0 (items_from ks 0)
unfolding items_from
all_counted ks = counted 0 ks

on_from : (n m : ℕ) (is : List Item) → n ≡ m → Counted n is → Counted m is
on_from n m is e c = subst (λ a. Counted a is) e c

halves : (n : ℕ) (xs ys : List Item) → Counted n (xs ++ ys) → Counted n xs × Counted (n + length xs) ys
halves n [] ys c = (tt, on_from n (n + 0) ys (omega arith) c)
halves n (i ∷ xs) ys c =
    let h = halves (n + 1) xs ys c.1 in
    ((c.0, h.0), on_from (n + 1 + length xs) (n + suc (length xs)) ys (omega arith) h.1)

record Between (low high m : ℕ) : Type 0 where
  from : low ≤ m
  before : m < high

-- a token of a node that is counted from a number on
between : (x : Node) (n m : ℕ) → Counted n (spell x) → Has x m → Between n (n + length (spell x)) m
between (Leaf item) n m c h = let a = c.0 in record { from = omega (arith, a, h); before = omega (arith, a, h) }
between Nothing n m c h = absurd h
between (Pair a b) n m c (inl h) =
    let parts = halves n (spell a) (spell b) c in
    let i = between a n m parts.0 h in
    let f = i.from in
    let l = i.before in
    let all = length-append (spell a) (spell b) in
    record { from = f; before = omega (arith, l, all) }
between (Pair a b) n m c (inr h) =
    let parts = halves n (spell a) (spell b) c in
    let i = between b (n + length (spell a)) m parts.1 h in
    let f = i.from in
    let l = i.before in
    let all = length-append (spell a) (spell b) in
    record { from = omega (arith, f); before = omega (arith, l, all) }

differ : (x : Node) (n : ℕ) → Counted n (spell x) → IsDistinct x
differ (Leaf item) n c = tt
differ Nothing n c = tt
differ (Pair a b) n c =
    let parts = halves n (spell a) (spell b) c in (
      differ a n parts.0,
      differ b (n + length (spell a)) parts.1,
      λ m h i.
          let one = (between a n m parts.0 h).before in
          let two = (between b (n + length (spell a)) m parts.1 i).from in
          omega (arith, one, two),
    )

pub text_law : TokensDiffer
text_law tokens t e = differ (tree_node t) 0 (subst (Counted 0) (sym e) (all_counted (terminals_of tokens)))

-- ---- in the order of the text

-- each token stands after those on its left
abbrev pub IsOrdered : Node → Type 0
IsOrdered (Leaf item) = Unit {0}
IsOrdered Nothing = Unit {0}
IsOrdered (Pair a b) = IsOrdered a × IsOrdered b × ((m n : ℕ) → Has a m → Has b n → m < n)

ordered : (x : Node) (n : ℕ) → Counted n (spell x) → IsOrdered x
ordered (Leaf item) n c = tt
ordered Nothing n c = tt
ordered (Pair a b) n c =
    let parts = halves n (spell a) (spell b) c in (
      ordered a n parts.0,
      ordered b (n + length (spell a)) parts.1,
      λ m i h g.
          let one = (between a n m parts.0 h).before in
          let two = (between b (n + length (spell a)) i parts.1 g).from in
          omega (arith, one, two),
    )

pub text_ordered : (tokens : List Token) (t : ProgramTree) → spell (tree_node t) ≡ items_of tokens → IsOrdered (tree_node t)
text_ordered tokens t e = ordered (tree_node t) 0 (subst (Counted 0) (sym e) (all_counted (terminals_of tokens)))

-- a token of the program's block stands before the one after it
pub before_dot : (tokens : List Token) (t : ProgramTree) → spell (tree_node t) ≡ items_of tokens → (m : ℕ) → Has (block_node t.block) m → m < t.dot
before_dot tokens t e m h =
    let dot = leaf terminal.Dot t.dot in
    let last = leaf terminal.End t.last in
    let block = block_node t.block in
    let ends = Pair block (Pair dot last) in
    let word = leaf terminal.WProgram t.word in
    let name = leaf terminal.Name t.name in
    let formals = parameters_node t.parameters in
    let semicolon = leaf terminal.Semicolon t.semicolon in
    let n = 0 + length (spell word) + length (spell name) + length (spell formals) + length (spell semicolon) in
    let a = (halves 0 (spell word) (spell (Pair name (Pair formals (Pair semicolon ends))))
    (subst (Counted 0) (sym e) (all_counted (terminals_of tokens)))).1 in
    let b = (halves (0 + length (spell word)) (spell name) (spell (Pair formals (Pair semicolon ends))) a).1 in
    let c = (halves (0 + length (spell word) + length (spell name)) (spell formals) (spell (Pair semicolon ends)) b).1 in
    let d = (halves (0 + length (spell word) + length (spell name) + length (spell formals)) (spell semicolon) (spell ends) c).1 in
    let parts = halves n (spell block) (spell (Pair dot last)) d in
    let i = (between block n m parts.0 h).before in
    let at : t.dot ≡ n + length (spell block) = parts.1.0 in
    omega (arith, i, at)

-- ---- and they are among the first ones

below : (size : ℕ) (x : Node) (n : ℕ) → n + length (spell x) ≤ size → Counted n (spell x) → Every (λ m. m < size) x
below size (Leaf item) n fits c = let a = c.0 in record { is = omega (arith, fits, a) }
below size Nothing n fits c = tt
below size (Pair a b) n fits c =
    let parts = halves n (spell a) (spell b) c in
    let all = length-append (spell a) (spell b) in
    (below size a n (omega (arith, fits, all)) parts.0, below size b (n + length (spell a)) (omega (arith, fits, all)) parts.1)

length_numbered : (n : ℕ) (ks : List Terminal) → length (numbered n ks) ≡ length ks
length_numbered n [] = refl
length_numbered n (k ∷ ks) = ap suc (length_numbered (n + 1) ks)

length_items : (ks : List Terminal) → length (items_from ks 0) ≡ length ks
unfolding items_from
length_items ks = length_numbered 0 ks

pub text_length : (tokens : List Token) (t : ProgramTree) → spell (tree_node t) ≡ items_of tokens → length (spell (tree_node t)) ≡ length tokens
text_length tokens t spelled_as =
    let ks = terminals_of tokens in
    let kinds : length ks ≡ length tokens = length-map tokens (λ t. terminal_of t.kind) in
    ap (λ (is : List Item). length is) spelled_as ∙ length_items ks ∙ kinds

pub text_tokens : (l : Lexed) (t : ProgramTree) → spell (tree_node t) ≡ items_of l.tokens → Every (λ n. n < length (known_at_start l).words) (tree_node t)
text_tokens l t spelled_as =
    let ks = terminals_of l.tokens in
    let spelled = ap (λ (is : List Item). length is) spelled_as in
    let items = length_items ks in
    let kinds : length ks ≡ length l.tokens = length-map l.tokens (λ t. terminal_of t.kind) in
    let words : length (known_at_start l).words ≡ length l.tokens = length-map l.tokens (word_of (names_of l) l.source) in
    below (length (known_at_start l).words) (tree_node t) 0 (omega (arith, spelled, items, kinds, words))
    (subst (Counted 0) (sym spelled_as) (all_counted ks))
