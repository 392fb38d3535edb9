-- Two parts read in turn are read as one, and a failure of a part is one of the whole.
use Rattle.std.proofs.Common.{◌∙◌, ◌≡◌, ℕ, IsErrAnd, List, Ok, Result, ap}
use Rattle.std.proofs.lemmas.Result.{err_from_is_err_and}
use Rattle.grammar.specs.{Grammars.Grammar, Grammars.seq, Nodes.Item, Nodes.Node, Nodes.Pair, declared.terminals.Terminal.Terminal}
use Rattle.grammar.specs.Reading.{◌>>=◌, Read, read, then_pair}
use Rattle.pas_tree.specs.FirstFollow.{pascal}
use Rattle.pas_phrases.specs.Items.{Fails, ReadsAs}
use Rattle.pas_phrases.specs.declared.fault.ParseFault.{ParseFault, TheVariants.Memory, TheVariants.NotProgram, TheVariants.TooDeep}

-- where `?` hands it on
pub handed_on : {X : Type 0} (whole : Read) (kinds : List Terminal) (view : X → Node) (result : Result (X × ℕ) ParseFault) (e : ParseFault)
    → IsErrAnd result (λ y. y ≡ e) → Fails kinds e whole → ReadsAs kinds view result whole
handed_on whole kinds view result e exit f = let p = err_from_is_err_and result exit in rw (p.1, p.2) f

-- the pair of a tree and those of what is read after it
abbrev pub after_first : Node → Read → Read
after_first x r = r >>= λ y. Ok (Pair x y.0, y.1)

-- both parts are read
pub seq_read : (n : ℕ) (a b : Grammar) (l : List Item) {m rest : List Item} {x y : Node} → read pascal n a l ≡ Ok (x, m) → read pascal n b m ≡ Ok (y, rest)
    → read pascal n (seq a b) l ≡ Ok (Pair x y, rest)
unfolding read
seq_read n a b l {x = x} h e = ap (λ (z : Read). then_pair z (read pascal n b)) h ∙ ap (after_first x) e

-- a first part that fails
pub first_fails : (n : ℕ) (a b : Grammar) (l : List Item) (kinds : List Terminal) (e : ParseFault)
    → Fails kinds e (read pascal n a l) → Fails kinds e (read pascal n (seq a b) l)
unfolding read
first_fails n a b l kinds (NotProgram i) f = ap (λ (z : Read). then_pair z (read pascal n b)) f
first_fails n a b l kinds (TooDeep i) f = ap (λ (z : Read). then_pair z (read pascal n b)) f
first_fails n a b l kinds Memory f = tt

-- a second part that fails
pub second_fails : (n : ℕ) (a b : Grammar) (l : List Item) {m : List Item} {x : Node} (kinds : List Terminal) (e : ParseFault)
    → read pascal n a l ≡ Ok (x, m) → Fails kinds e (read pascal n b m)
    → Fails kinds e (read pascal n (seq a b) l)
unfolding read
second_fails n a b l {x = x} kinds (NotProgram i) h f = ap (λ (z : Read). then_pair z (read pascal n b)) h ∙ ap (after_first x) f
second_fails n a b l {x = x} kinds (TooDeep i) h f = ap (λ (z : Read). then_pair z (read pascal n b)) h ∙ ap (after_first x) f
second_fails n a b l kinds Memory h f = tt
