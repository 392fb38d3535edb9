-- A list that is read part by part in a loop is what the grammar reads as `many`.
use Rattle.std.proofs.Common.{if◌then◌else◌, ◌++◌, ◌∙◌, ◌∷◌, ◌≡◌, [], ℕ, Bool, Err, List, Ok, ap, false, map, refl, sym, true}
use Rattle.std.proofs.lemmas.List.{map_push}
use Rattle.grammar.proofs.Lists.{Repeats, goes_on, is_done, stops, with_front}
use Rattle.grammar.specs.{Terminals.one_of, Terminals.passes, declared.terminals.Terminal.Terminal}
use Rattle.grammar.specs.Grammars.{Grammar, Level, level, many, seq, token}
use Rattle.grammar.specs.Nodes.{Item, Leaf, Node, Pair, next, row}
use Rattle.grammar.specs.Reading.{Deep, Read, Refusal, Unfit, levels, read, token_at}
use Rattle.pas_tree.{proofs.Decided.pascal_sane, specs.FirstFollow.pascal}
use Rattle.pas_phrases.proofs.Failures.{first_fails, handed_on, second_fails, seq_read}
use Rattle.pas_phrases.specs.Items.{Fails}
use Rattle.pas_phrases.specs.declared.fault.ParseFault.{ParseFault, TheVariants.Memory, TheVariants.NotProgram, TheVariants.TooDeep}

-- the parts read so far, and what is still read from here, are the whole
pub record ListSoFar {X : Type 0} (view : X → Node) (n : ℕ) (ks : List Terminal) (g : Grammar) (xs : List X) (l : List Item) (whole : Read) : Type 0 where
  pub same : with_front (map view xs) (read pascal n (many ks g) l) ≡ whole

pub list_more : {X : Type 0} {view : X → Node} {n : ℕ} {ks : List Terminal} {g : Grammar} {xs : List X} {l rest : List Item} {whole : Read} {ys : List X}
    (x : X)
    → Repeats g → ListSoFar view n ks g xs l whole → passes ks (next l) ≡ true → read pascal n g l ≡ Ok (view x, rest) → ys ≡ xs ++ x ∷ []
    → ListSoFar view n ks g ys rest whole
list_more {X} {view} {n} {ks} {g} {xs} {l} {rest} {whole} x r s h e more = record {
  same = ap (λ (front : List Node). with_front front (read pascal n (many ks g) rest)) (ap (map view) more ∙ map_push view xs x)
      ∙ goes_on pascal pascal_sane n ks g r.is_closed r.is_solid (map view xs) l (view x) rest whole h e s.same;
}

-- a part that fails
pub list_fails : {X : Type 0} {view : X → Node} {n : ℕ} {ks : List Terminal} {g : Grammar} {xs : List X} {l : List Item} {whole : Read} (kinds : List Terminal)
    (e : ParseFault)
    → Repeats g → ListSoFar view n ks g xs l whole → passes ks (next l) ≡ true → Fails kinds e (read pascal n g l) → Fails kinds e whole
list_fails {X} {view} {n} {ks} {g} {xs} {l} {whole} kinds (NotProgram i) r s h f =
    stops pascal pascal_sane n ks g r.is_closed r.is_solid (map view xs) l (Unfit _) whole h f s.same
list_fails {X} {view} {n} {ks} {g} {xs} {l} {whole} kinds (TooDeep i) r s h f =
    stops pascal pascal_sane n ks g r.is_closed r.is_solid (map view xs) l (Deep _) whole h f s.same
list_fails kinds Memory r s h f = tt

pub list_read : {X : Type 0} {view : X → Node} {n : ℕ} {ks : List Terminal} {g : Grammar} {xs : List X} {l : List Item} {whole : Read}
    → Repeats g → ListSoFar view n ks g xs l whole → passes ks (next l) ≡ false → whole ≡ Ok (row (map view xs), l)
list_read {X} {view} {n} {ks} {g} {xs} {l} {whole} r s h = is_done pascal pascal_sane n ks g r.is_closed r.is_solid (map view xs) l whole h s.same

-- what a loop that reads a list is proved by
pub ruleset list_reading = (list_more, list_fails, list_read, handed_on)

-- ---- where a loop itself reads the token that leads to a part, and what stands after it

led_only : (b : Bool) (x y : Node × List Item) (r : Refusal) → (if b then Ok x else Err r) ≡ Ok y → b ≡ true
led_only true x y r e = refl
led_only false x y r e = absurd cc

-- what is read as a token leads there
token_leads : (ks : List Terminal) (l : List Item) {x : Node × List Item} → token_at ks l ≡ Ok x → passes ks (next l) ≡ true
token_leads ks [] e = absurd cc
token_leads ks (i ∷ l) {x} e = led_only (one_of ks i.kind) (Leaf i, l) x (Unfit (i ∷ l)) e

-- a token and the part after it
pub pair_more : {X : Type 0} {view : X → Node} {n : ℕ} {ks : List Terminal} {b : Grammar} {xs : List X} {l m rest : List Item} {whole : Read} {ys : List X}
    {x : X} {p q : Node}
    → Repeats (seq (token ks) b) → ListSoFar view n ks (seq (token ks) b) xs l whole → token_at ks l ≡ Ok (p, m) → read pascal n b m ≡ Ok (q, rest)
    → ys ≡ xs ++ x ∷ [] → view x ≡ Pair p q → ListSoFar view n ks (seq (token ks) b) ys rest whole
unfolding read
pair_more {n = n} {ks = ks} {b = b} {l = l} {rest = rest} {x = x} r s h e more same =
    list_more x r s (token_leads ks l h)
    (seq_read n (token ks) b l h e ∙ ap (λ (y : Node). Ok (y, rest)) (sym same)) more

-- the same where the part is a level
pub level_more : {X : Type 0} {view : X → Node} {n : ℕ} {ks : List Terminal} {w : Level} {xs : List X} {l m rest : List Item} {whole : Read} {ys : List X}
    {x : X} {p q : Node}
    → Repeats (seq (token ks) (level w)) → ListSoFar view n ks (seq (token ks) (level w)) xs l whole → token_at ks l ≡ Ok (p, m)
    → levels pascal n w m ≡ Ok (q, rest) → ys ≡ xs ++ x ∷ [] → view x ≡ Pair p q → ListSoFar view n ks (seq (token ks) (level w)) ys rest whole
unfolding read
level_more {w = w} r s h e more same = pair_more {b = level w} r s h e more same

-- a token that fails, and what stands after one
pub token_fails : {X : Type 0} {view : X → Node} {n : ℕ} {ks : List Terminal} {b : Grammar} {xs : List X} {l : List Item} {whole : Read} (kinds : List Terminal)
    (e : ParseFault)
    → Repeats (seq (token ks) b) → ListSoFar view n ks (seq (token ks) b) xs l whole → passes ks (next l) ≡ true → Fails kinds e (token_at ks l)
    → Fails kinds e whole
unfolding read
token_fails {n = n} {ks = ks} {b = b} {l = l} kinds e r s h f = list_fails kinds e r s h (first_fails n (token ks) b l kinds e f)

pub pair_fails : {X : Type 0} {view : X → Node} {n : ℕ} {ks : List Terminal} {b : Grammar} {xs : List X} {l m : List Item} {whole : Read} {p : Node}
    (kinds : List Terminal) (e : ParseFault)
    → Repeats (seq (token ks) b) → ListSoFar view n ks (seq (token ks) b) xs l whole → token_at ks l ≡ Ok (p, m) → Fails kinds e (read pascal n b m)
    → Fails kinds e whole
unfolding read
pair_fails {n = n} {ks = ks} {b = b} {l = l} kinds e r s h f = list_fails kinds e r s (token_leads ks l h) (second_fails n (token ks) b l kinds e h f)

pub level_fails : {X : Type 0} {view : X → Node} {n : ℕ} {ks : List Terminal} {w : Level} {xs : List X} {l m : List Item} {whole : Read} {p : Node}
    (kinds : List Terminal) (e : ParseFault)
    → Repeats (seq (token ks) (level w)) → ListSoFar view n ks (seq (token ks) (level w)) xs l whole → token_at ks l ≡ Ok (p, m)
    → Fails kinds e (levels pascal n w m) → Fails kinds e whole
unfolding read
level_fails {w = w} kinds e r s h f = pair_fails {b = level w} kinds e r s h f

-- what a loop that reads such parts is proved by
pub ruleset pair_list_reading = (pair_more, level_more, token_fails, pair_fails, level_fails, list_read, handed_on)
