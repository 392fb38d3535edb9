-- A series that is read part by part in a loop is what the grammar reads as `series`.
use Rattle.std.proofs.Common.{◌++◌, ◌∙◌, ◌∷◌, ◌≡◌, [], ℕ, List, Ok, ap, false, map, sym, true}
use Rattle.std.proofs.lemmas.List.{map_push}
use Rattle.grammar.proofs.Lists.{steps_break, steps_done, steps_on, steps_stop, with_steps}
use Rattle.grammar.specs.{Deciding.closed, declared.terminals.Terminal.Terminal}
use Rattle.grammar.specs.Grammars.{Grammar, choice, nothing, seq, series, word}
use Rattle.grammar.specs.Nodes.{Item, Node, SeriesPart, chain, step_node}
use Rattle.grammar.specs.Reading.{Deep, Read, Unfit, read, token_at}
use Rattle.pas_tree.{proofs.Decided.pascal_sane, specs.FirstFollow.pascal}
use Rattle.pas_phrases.proofs.Failures.{first_fails, handed_on, second_fails, seq_read}
use Rattle.pas_phrases.specs.Items.{Fails, goes_further}
use Rattle.pas_phrases.specs.declared.fault.ParseFault.{ParseFault, TheVariants.Memory, TheVariants.NotProgram, TheVariants.TooDeep}

-- parts g after separators that lead to one of ks, and an end z
pub record Series : Type 0 where
  pub separator : Terminal
  pub starts : List Terminal
  pub part : Grammar
  pub end : Grammar
  pub part_closed : closed part ≡ true
  pub end_closed : closed end ≡ true

abbrev pub series_of : Series → Grammar
series_of q = series q.separator q.starts q.part q.end

abbrev pub end_of : Series → Grammar
end_of q = choice (q.separator ∷ []) (seq (word q.separator) q.end) nothing

-- the parts read so far, and what is still read from here, are the whole
pub record SeriesSoFar {X : Type 0} (step : X → SeriesPart) (n : ℕ) (q : Series) (xs : List X) (l : List Item) (whole : Read) : Type 0 where
  pub same : with_steps (map step xs) (read pascal n (series_of q) l) ≡ whole

pub series_more : {X : Type 0} {step : X → SeriesPart} {n : ℕ} {q : Series} {xs : List X} {l rest : List Item} {whole : Read} {ys : List X} (x : X)
    → SeriesSoFar step n q xs l whole → goes_further q.separator q.starts l ≡ true
    → read pascal n (seq (word q.separator) q.part) l ≡ Ok (step_node (step x), rest)
    → ys ≡ xs ++ x ∷ [] → SeriesSoFar step n q ys rest whole
series_more {X} {step} {n} {q} {xs} {l} {rest} {whole} x s h e more = record {
  same = ap (λ (front : List SeriesPart). with_steps front (read pascal n (series_of q) rest)) (ap (map step) more ∙ map_push step xs x)
      ∙ steps_on pascal pascal_sane n q.separator q.starts q.part q.end q.part_closed q.end_closed (map step xs) l (step x) rest whole h e s.same;
}

-- a part, and the end, that fails
pub series_fails : {X : Type 0} {step : X → SeriesPart} {n : ℕ} {q : Series} {xs : List X} {l : List Item} {whole : Read} (kinds : List Terminal)
    (e : ParseFault)
    → SeriesSoFar step n q xs l whole → goes_further q.separator q.starts l ≡ true → Fails kinds e (read pascal n (seq (word q.separator) q.part) l)
    → Fails kinds e whole
series_fails {X} {step} {n} {q} {xs} {l} {whole} kinds (NotProgram i) s h f =
    steps_stop pascal pascal_sane n q.separator q.starts q.part q.end q.part_closed q.end_closed (map step xs) l (Unfit _) whole h f s.same
series_fails {X} {step} {n} {q} {xs} {l} {whole} kinds (TooDeep i) s h f =
    steps_stop pascal pascal_sane n q.separator q.starts q.part q.end q.part_closed q.end_closed (map step xs) l (Deep _) whole h f s.same
series_fails kinds Memory s h f = tt

pub series_end_fails : {X : Type 0} {step : X → SeriesPart} {n : ℕ} {q : Series} {xs : List X} {l : List Item} {whole : Read} (kinds : List Terminal)
    (e : ParseFault)
    → SeriesSoFar step n q xs l whole → goes_further q.separator q.starts l ≡ false → Fails kinds e (read pascal n (end_of q) l) → Fails kinds e whole
series_end_fails {X} {step} {n} {q} {xs} {l} {whole} kinds (NotProgram i) s h f =
    steps_break pascal pascal_sane n q.separator q.starts q.part q.end q.part_closed q.end_closed (map step xs) l (Unfit _) whole h f s.same
series_end_fails {X} {step} {n} {q} {xs} {l} {whole} kinds (TooDeep i) s h f =
    steps_break pascal pascal_sane n q.separator q.starts q.part q.end q.part_closed q.end_closed (map step xs) l (Deep _) whole h f s.same
series_end_fails kinds Memory s h f = tt

pub series_read : {X : Type 0} {step : X → SeriesPart} {n : ℕ} {q : Series} {xs : List X} {l rest : List Item} {whole : Read} {end : Node}
    → SeriesSoFar step n q xs l whole → goes_further q.separator q.starts l ≡ false → read pascal n (end_of q) l ≡ Ok (end, rest)
    → whole ≡ Ok (chain (map step xs) end, rest)
series_read {X} {step} {n} {q} {xs} {l} {rest} {whole} {end} s h e =
    steps_done pascal pascal_sane n q.separator q.starts q.part q.end q.part_closed q.end_closed (map step xs) l end rest whole h e s.same

-- ---- where a loop itself reads the separator, and the part after it

pub series_pair_more : {X : Type 0} {step : X → SeriesPart} {n : ℕ} {q : Series} {xs : List X} {l m rest : List Item} {whole : Read} {ys : List X}
    {x : X} {a b : Node}
    → SeriesSoFar step n q xs l whole → goes_further q.separator q.starts l ≡ true → token_at (q.separator ∷ []) l ≡ Ok (a, m)
    → read pascal n q.part m ≡ Ok (b, rest) → ys ≡ xs ++ x ∷ [] → step x ≡ record { separator = a; part = b } → SeriesSoFar step n q ys rest whole
unfolding read
series_pair_more {n = n} {q = q} {l = l} {rest = rest} {x = x} s h t e more same =
    series_more x s h
    (seq_read n (word q.separator) q.part l t e ∙ ap (λ (y : SeriesPart). Ok (step_node y, rest)) (sym same)) more

-- a separator that fails, and a part after one
pub series_token_fails : {X : Type 0} {step : X → SeriesPart} {n : ℕ} {q : Series} {xs : List X} {l : List Item} {whole : Read}
    (kinds : List Terminal) (e : ParseFault)
    → SeriesSoFar step n q xs l whole → goes_further q.separator q.starts l ≡ true → Fails kinds e (token_at (q.separator ∷ []) l) → Fails kinds e whole
unfolding read
series_token_fails {n = n} {q = q} {l = l} kinds e s h f = series_fails kinds e s h (first_fails n (word q.separator) q.part l kinds e f)

pub series_pair_fails : {X : Type 0} {step : X → SeriesPart} {n : ℕ} {q : Series} {xs : List X} {l m : List Item} {whole : Read} {a : Node}
    (kinds : List Terminal) (e : ParseFault)
    → SeriesSoFar step n q xs l whole → goes_further q.separator q.starts l ≡ true → token_at (q.separator ∷ []) l ≡ Ok (a, m)
    → Fails kinds e (read pascal n q.part m) → Fails kinds e whole
unfolding read
series_pair_fails {n = n} {q = q} {l = l} kinds e s h t f = series_fails kinds e s h (second_fails n (word q.separator) q.part l kinds e t f)

-- what a loop that reads such parts is proved by
pub ruleset pair_series_reading = (series_pair_more, series_token_fails, series_pair_fails, series_end_fails, series_read, handed_on)
