-- What is read as a piece fits, and what fits is read.
use Rattle.std.proofs.Common.{◌&&◌, ◌++◌, ◌+◌, ◌<◌, ◌∙◌, ◌∷◌, ◌≡◌, ◌≤◌, [], ℕ, Bool, Err, List, None, Ok, Option, Some, ap, append_assoc, arith, cond, drop}
use Rattle.std.proofs.Common.{false, inl, inr, length, length-append, length-take, nat_eq, nat_lt, refl, subst, suc, sym, take, true}
use Rattle.std.proofs.{Math.Seq.take-append_seam, lemmas.List.append-nil, lemmas.List.take-append-drop, lemmas.Option.same_Some}
use Rattle.std.proofs.lemmas.Bool.{and_parts, eq-eqb, eqb-true, lt-ltb, ltb-true, or_from, or_parts}
use Rattle.pas_lexer.proofs.{FirstClosingSymbol.closing_again, FirstClosingSymbol.closing_sound, LongestRun.stops, LongestRun.tail_is}
use Rattle.pas_lexer.proofs.AllDigitsFirst.{both_ways, digit_no_letter, digit_opens_none, digits_more, first_digits, letter_opens_none, letter_passes}
use Rattle.pas_lexer.proofs.AllDigitsFirst.{number_read, number_small, separator_no_digit, separator_no_letter, small_number, stops_first}
use Rattle.pas_lexer.proofs.LastApostrophe.{Ended, characters_are, characters_on_line, characters_some, ended_found, ended_sound}
use Rattle.pas_lexer.proofs.LongestInTable.{longest_symbol, one_symbol, opened, some_symbol, symbol_is}
use Rattle.pas_lexer.proofs.LongestRun.{Stops, chosen, fact_of, head_is, next_fails, pass_head, pass_rest, run_again, run_len, run_passes, run_stops, split}
use Rattle.pas_lexer.proofs.WordsBeforeNames.{identifier_all, identifier_more, identifier_spells, name_again, word_again, word_spelled}
use Rattle.pas_lexer.specs.{Lexis.separator, Reading.written_text}
use Rattle.pas_lexer.specs.Lexis.{Fits, IsAllowed, IsCharacters, IsClosed, IsDigitSequence, IsIdentifier, IsLongest, IsOpened, NothingFits, Spells, apostrophe}
use Rattle.pas_lexer.specs.Lexis.{decimal, digit, doubled, letter, letter_first, letter_or_digit, maxint, next_is, opens_comment, quoted, real_follows}
use Rattle.pas_lexer.specs.Reading.{Reading, all_symbols, closing, comment_piece, identifier_at, mark_piece, number_before, number_in, number_piece, piece_at}
use Rattle.pas_lexer.specs.Reading.{run_length, string_at, string_end, string_piece, symbol_among, symbol_in, symbol_of, symbol_piece, word_in, word_or_name}
use Rattle.pas_lexer.specs.declared.kinds.{LexReason.LexReason, Symbol.Symbol, TokenKind.TokenKind, Word.Word}
use Rattle.pas_lexer.specs.declared.kinds.LexReason.TheVariants.{BadByte, EmptyString, Joined, OpenComment, OpenString, RealWord, TooLarge}
use Rattle.pas_lexer.specs.declared.kinds.TokenKind.TheVariants.{End, Name, Number, Symbol as SymbolKind, Text, Word as WordKind}
use Rattle.pas_lexer.specs.declared.symbols.Written.{Written, TheVariants.Other, TheVariants.Usual}

abbrev read : Option TokenKind → ℕ → Reading
read k n = Ok (k, n)

abbrev pub found : Option TokenKind × ℕ → Reading
found x = Ok x

abbrev pub failed : LexReason → Reading
failed r = Err r

-- ---- identifiers

identifier_again : (t rest : List ℕ) → IsIdentifier t → IsLongest t rest → piece_at (t ++ rest) ≡ read (Some (word_or_name (word_in t))) (length t)
unfolding piece_at identifier_at
identifier_again [] rest h longest = absurd h
identifier_again (c ∷ cs) rest h longest =
    let s : Stops letter_or_digit rest = stops letter_or_digit rest (λ d more e p. longest d [] more (word_or_name (word_in ((c ∷ cs) ++ d ∷ []))) e
    (identifier_spells ((c ∷ cs) ++ d ∷ []) (identifier_more (c ∷ cs) d h p))) in
    let n : run_length letter_or_digit ((c ∷ cs) ++ rest) ≡ length (c ∷ cs) = run_again letter_or_digit (c ∷ cs) rest (identifier_all (c ∷ cs) h) s in
    let f : letter c ≡ true = h.0 in
    let at : piece_at ((c ∷ cs) ++ rest) ≡ identifier_at ((c ∷ cs) ++ rest) = rw f refl in
    at ∙ ap (λ (m : ℕ). read (Some (word_or_name (word_in (take m ((c ∷ cs) ++ rest))))) m) n
    ∙ ap (λ (t : List ℕ). read (Some (word_or_name (word_in t))) (length (c ∷ cs))) (take-append_seam (c ∷ cs) rest)

-- ---- numbers

number_again : (t rest : List ℕ) → IsDigitSequence t → IsLongest t rest → real_follows rest ≡ false → letter_first rest ≡ false → decimal t ≤ maxint
    → piece_at (t ++ rest) ≡ read (Some (Number (decimal t))) (length t)
number_again t rest h longest no_real no_letter small =
    let s : Stops digit rest = stops digit rest (λ d more e p. longest d [] more (Number (decimal (t ++ d ∷ []))) e (digits_more t d h p, refl)) in
    number_read (t ++ rest) t rest (refl, h, stops_first rest s) ∙ plain (length t) t rest no_real no_letter
    ∙ ap (number_piece (length t)) (small_number t small)
  where
    plain : (n : ℕ) (t rest : List ℕ) → real_follows rest ≡ false → letter_first rest ≡ false → number_before rest n t ≡ number_piece n (number_in t)
    plain n t rest e f = rw (e, f) refl

-- ---- marks

-- after the bytes that no name, number or separator begins with
pub mark_read : (c : ℕ) (l : List ℕ) → letter c ≡ false → digit c ≡ false → separator c ≡ false → piece_at (c ∷ l) ≡ mark_piece c l
unfolding piece_at
mark_read c l a b d = rw (a, b, d) refl

pub symbol_read : (c : ℕ) (l : List ℕ) → nat_eq c apostrophe ≡ false → nat_eq c 123 ≡ false → (nat_eq c 40 && next_is 42 l) ≡ false → nat_eq c 47 ≡ false
    → mark_piece c l ≡ symbol_piece (symbol_among all_symbols (c ∷ l))
unfolding mark_piece symbol_in
symbol_read c l a b d e = rw (a, b, d, e) refl

-- a text is one of its symbol's spellings
written_spells : (w : Written) (t : List ℕ) → t ≡ written_text w → Spells (SymbolKind (symbol_of w)) t
written_spells (Usual s) t e = inl e
written_spells (Other s) t e = inr e

-- the symbol of the longest text is found
symbol_again : (w : Written) (rest : List ℕ) → IsLongest (written_text w) rest → (v : Written) × (symbol_among all_symbols (written_text w ++ rest) ≡ Some v)
    × (written_text v ≡ written_text w)
symbol_again w rest longest =
    let whole : List ℕ = written_text w ++ rest in
    let found = some_symbol whole rest w refl in
    let v : Written = found.0 in
    let le : length (written_text w) ≤ length (written_text v) = longest_symbol whole rest w v refl found.1 in
    let front : whole ≡ written_text v ++ drop (length (written_text v)) whole = symbol_is all_symbols whole v found.1 in
    let more = split (written_text w) rest (written_text v) (drop (length (written_text v)) whole) front le in
    (v, found.1, same v more.0 more.1 (drop (length (written_text v)) whole) more.2)
  where
    same : (v : Written) (m : List ℕ) → written_text v ≡ written_text w ++ m → (q : List ℕ) → rest ≡ m ++ q → written_text v ≡ written_text w
    same v [] e q f = e ∙ append-nil (written_text w)
    same v (d ∷ ds) e q f = absurd (longest d ds q (SymbolKind (symbol_of v)) f (written_spells v (written_text w ++ (d ∷ ds)) (sym e)))

symbol_piece_again : (w : Written) (rest : List ℕ) → IsLongest (written_text w) rest → opens_comment (written_text w ++ rest) ≡ false
    → piece_at (written_text w ++ rest) ≡ read (Some (SymbolKind (symbol_of w))) (length (written_text w))
symbol_piece_again w rest longest none =
    let o = opened w in
    let e : written_text w ++ rest ≡ o.first ∷ (o.others ++ rest) = ap (λ (l : List ℕ). l ++ rest) o.text_is in
    let no_star = or_parts (nat_eq o.first 123) (nat_eq o.first 40 && next_is 42 (o.others ++ rest)) (sym (ap opens_comment e) ∙ none) in
    let found = symbol_again w rest longest in
    ap piece_at e
    ∙ mark_read o.first (o.others ++ rest) o.no_letter o.no_digit o.no_separator
    ∙ symbol_read o.first (o.others ++ rest) o.no_apostrophe o.no_brace no_star.1 o.no_slash
    ∙ ap (λ (l : List ℕ). symbol_piece (symbol_among all_symbols l)) (sym e)
    ∙ ap symbol_piece found.1
    ∙ ap (λ (s : Symbol). read (Some (SymbolKind s)) (length (written_text found.0))) (one_symbol found.0 w found.2)
    ∙ ap (λ (l : List ℕ). read (Some (SymbolKind (symbol_of w))) (length l)) found.2

-- ---- comments

brace_again : (after rest : List ℕ) → IsClosed after → piece_at (123 ∷ (after ++ rest)) ≡ read None (suc (length after))
unfolding piece_at mark_piece
brace_again after rest h = rw (closing_again after rest h) (ap (read None) (omega arith))

paren_again : (after rest : List ℕ) → IsClosed after → piece_at (40 ∷ (42 ∷ (after ++ rest))) ≡ read None (suc (suc (length after)))
unfolding piece_at mark_piece
paren_again after rest h = rw (closing_again after rest h) (ap (read None) (omega arith))

comment_again : (text after rest : List ℕ) → IsOpened text after → IsClosed after → piece_at (text ++ rest) ≡ read None (length text)
comment_again text after rest (inl e) h = subst (λ (t : List ℕ). piece_at (t ++ rest) ≡ read None (length t)) (sym e) (brace_again after rest h)
comment_again text after rest (inr e) h = subst (λ (t : List ℕ). piece_at (t ++ rest) ≡ read None (length t)) (sym e) (paren_again after rest h)

-- ---- strings

string_read : (l : List ℕ) → piece_at (apostrophe ∷ l) ≡ string_piece l (string_end false l)
unfolding piece_at mark_piece string_at
string_read l = refl

long_string : (l : List ℕ) (n : ℕ) → 1 < n → string_piece l (Some n) ≡ read (Some Text) (1 + n)
long_string l n lt = let e : nat_lt 1 n ≡ true = lt-ltb 1 n lt in rw e refl

whole_string : (text rest : List ℕ) → quoted text ++ rest ≡ apostrophe ∷ (doubled text ++ (apostrophe ∷ rest))
whole_string text rest = ap (λ (l : List ℕ). apostrophe ∷ l) (append_assoc (doubled text) (apostrophe ∷ []) rest)

quoted_length : (text : List ℕ) → length (quoted text) ≡ suc (suc (length (doubled text)))
quoted_length text = omega (arith, length-append (doubled text) (apostrophe ∷ []))

-- a string that is read is no longer than the longest text
string_again : (text rest : List ℕ) → IsCharacters text → IsLongest (quoted text) rest
    → piece_at (quoted text ++ rest) ≡ read (Some Text) (length (quoted text))
string_again text rest h longest =
    let l : List ℕ = doubled text ++ (apostrophe ∷ rest) in
    let found = ended_found text rest (characters_on_line text h) in
    let n : ℕ = found.0 in
    let e : Ended l n = ended_sound l n found.1 in
    let some : 0 < length (doubled text) = characters_some text h in
    let le : length (quoted text) ≤ length (quoted e.text) = omega (arith, quoted_length text, quoted_length e.text, e.len, found.2) in
    let whole : quoted text ++ rest ≡ quoted e.text ++ e.rest = whole_string text rest ∙ ap (λ (x : List ℕ). apostrophe ∷ x) e.whole
    ∙ sym (whole_string e.text e.rest) in
    let more = split (quoted text) rest (quoted e.text) e.rest whole le in
    let more_some : 0 < length (doubled e.text) = omega (arith, e.len, found.2, some) in
    let same : quoted e.text ≡ quoted text = alike e.text e.rest (characters_are e.text e.on_line more_some) more.0 more.1 more.2 in
    let count : 1 + n ≡ length (quoted text) = omega (arith, ap length same, quoted_length e.text, e.len) in
    ap piece_at (whole_string text rest) ∙ string_read l ∙ ap (string_piece l) found.1 ∙ long_string l n (omega (arith, found.2, some))
    ∙ ap (read (Some Text)) count
  where
    alike : (other others : List ℕ) → IsCharacters other → (m : List ℕ) → quoted other ≡ quoted text ++ m → rest ≡ m ++ others → quoted other ≡ quoted text
    alike other others is [] e f = e ∙ append-nil (quoted text)
    alike other others is (d ∷ ds) e f = absurd (longest d ds others Text f (other, is, sym e))

-- ---- what fits is read

separator_again : (c : ℕ) (rest : List ℕ) → separator c ≡ true → piece_at (c ∷ rest) ≡ read None 1
unfolding piece_at
separator_again c rest h =
    let a : letter c ≡ false = separator_no_letter c h in
    let b : digit c ≡ false = separator_no_digit c h in
    rw (a, b, h) refl

written_again : (w : Written) (text rest : List ℕ) → text ≡ written_text w → IsLongest text rest → opens_comment (text ++ rest) ≡ false
    → piece_at (text ++ rest) ≡ read (Some (SymbolKind (symbol_of w))) (length text)
written_again w text rest e longest none =
    subst (λ (t : List ℕ). piece_at (t ++ rest) ≡ read (Some (SymbolKind (symbol_of w))) (length t)) (sym e)
    (symbol_piece_again w rest (subst (λ (t : List ℕ). IsLongest t rest) e longest) (subst (λ (t : List ℕ). opens_comment (t ++ rest) ≡ false) e none))

pub piece_again : (k : Option TokenKind) (text rest : List ℕ) → Fits text rest k → piece_at (text ++ rest) ≡ Ok (k, length text)
piece_again None text rest (inl h) = subst (λ (t : List ℕ). piece_at (t ++ rest) ≡ read None (length t)) (sym h.1) (separator_again h.0 rest h.2)
piece_again None text rest (inr h) = comment_again text h.0 rest h.1 h.2
piece_again (Some (WordKind w)) text rest h = identifier_again text rest (word_spelled text w h.0) h.1
    ∙ ap (λ (o : Option Word). read (Some (word_or_name o)) (length text)) (word_again text w h.0)
piece_again (Some Name) text rest h = identifier_again text rest h.0.0 h.1 ∙ ap (λ (o : Option Word). read (Some (word_or_name o)) (length text))
    (name_again text h.0.1)
piece_again (Some (Number n)) text rest h = number_again text rest h.0.0 h.1 h.2.0 h.2.1 (omega (arith, h.0.1, h.2.2))
    ∙ ap (λ (m : ℕ). read (Some (Number m)) (length text)) h.0.1
piece_again (Some Text) text rest h =
    let e : text ≡ quoted h.0.0 = h.0.2 in
    subst (λ (t : List ℕ). piece_at (t ++ rest) ≡ read (Some Text) (length t)) (sym e)
    (string_again h.0.0 rest h.0.1 (subst (λ (t : List ℕ). IsLongest t rest) e h.1))
piece_again (Some (SymbolKind s)) text rest h =
    elim h.0 [
      | inl e ↦ written_again (Usual s) text rest e h.1 h.3
      | inr e ↦ written_again (Other s) text rest e h.1 h.3
    ]
piece_again (Some End) text rest h = absurd h.0

-- ---- what is read fits

-- a symbol begins with no letter, no digit and no apostrophe
symbol_first : (w : Written) (c : ℕ) (cs : List ℕ) → c ∷ cs ≡ written_text w → (letter c ≡ false) × (digit c ≡ false) × (nat_eq c apostrophe ≡ false)
symbol_first w c cs e =
    let o = opened w in
    let first : c ≡ o.first = head_is c o.first cs o.others (e ∙ o.text_is) in
    (ap letter first ∙ o.no_letter, ap digit first ∙ o.no_digit, ap (λ (x : ℕ). nat_eq x apostrophe) first ∙ o.no_apostrophe)

-- a symbol's text, as it is written
written_of : (s : Symbol) (t : List ℕ) → Spells (SymbolKind s) t → (w : Written) × (t ≡ written_text w)
written_of s t (inl e) = (Usual s, e)
written_of s t (inr e) = (Other s, e)

-- a string begins with an apostrophe
quoted_first : (text : List ℕ) (c : ℕ) (cs : List ℕ) → c ∷ cs ≡ quoted text → c ≡ apostrophe
quoted_first text c cs e = head_is c apostrophe cs (doubled text ++ apostrophe ∷ []) e

no_quote : (text : List ℕ) (c : ℕ) (cs : List ℕ) → letter c ≡ true → c ∷ cs ≡ quoted text → ⊥
no_quote text c cs h e = let f : letter apostrophe ≡ true = subst (λ (x : ℕ). letter x ≡ true) (quoted_first text c cs e) h in
    both_ways (letter apostrophe) f refl

no_quote_digit : (text : List ℕ) (c : ℕ) (cs : List ℕ) → digit c ≡ true → c ∷ cs ≡ quoted text → ⊥
no_quote_digit text c cs h e = let f : digit apostrophe ≡ true = subst (λ (x : ℕ). digit x ≡ true) (quoted_first text c cs e) h in
    both_ways (digit apostrophe) f refl

identifier_spelled : (k : TokenKind) (c : ℕ) (cs : List ℕ) → letter c ≡ true → Spells k (c ∷ cs) → IsIdentifier (c ∷ cs)
identifier_spelled (WordKind w) c cs h f = word_spelled (c ∷ cs) w f
identifier_spelled Name c cs h f = f.0
identifier_spelled (Number n) c cs h f = absurd (both_ways (letter c) h (digit_no_letter c f.0.0))
identifier_spelled Text c cs h f = absurd (no_quote f.0 c cs h f.2)
identifier_spelled (SymbolKind s) c cs h f = let w = written_of s (c ∷ cs) f in absurd (both_ways (letter c) h (symbol_first w.0 c cs w.1).0)
identifier_spelled End c cs h f = absurd f

digits_spelled : (k : TokenKind) (c : ℕ) (cs : List ℕ) → digit c ≡ true → Spells k (c ∷ cs) → IsDigitSequence (c ∷ cs)
digits_spelled (WordKind w) c cs h f = absurd (both_ways (letter c) (word_spelled (c ∷ cs) w f).0 (digit_no_letter c h))
digits_spelled Name c cs h f = absurd (both_ways (letter c) f.0.0 (digit_no_letter c h))
digits_spelled (Number n) c cs h f = f.0
digits_spelled Text c cs h f = absurd (no_quote_digit f.0 c cs h f.2)
digits_spelled (SymbolKind s) c cs h f = let w = written_of s (c ∷ cs) f in absurd (both_ways (digit c) h (symbol_first w.0 c cs w.1).1)
digits_spelled End c cs h f = absurd f

string_spelled : (k : TokenKind) (cs : List ℕ) → Spells k (apostrophe ∷ cs) → Spells Text (apostrophe ∷ cs)
string_spelled (WordKind w) cs f = absurd (both_ways (letter apostrophe) (word_spelled (apostrophe ∷ cs) w f).0 refl)
string_spelled Name cs f = absurd (both_ways (letter apostrophe) f.0.0 refl)
string_spelled (Number n) cs f = absurd (both_ways (digit apostrophe) f.0.0 refl)
string_spelled Text cs f = f
string_spelled (SymbolKind s) cs f = let w = written_of s (apostrophe ∷ cs) f in
    absurd (both_ways (nat_eq apostrophe apostrophe) refl (symbol_first w.0 apostrophe cs w.1).2)
string_spelled End cs f = absurd f

symbol_spelled : (k : TokenKind) (c : ℕ) (cs : List ℕ) → letter c ≡ false → digit c ≡ false → nat_eq c apostrophe ≡ false → Spells k (c ∷ cs)
    → (w : Written) × (c ∷ cs ≡ written_text w)
symbol_spelled (WordKind w) c cs a b d f = absurd (both_ways (letter c) (word_spelled (c ∷ cs) w f).0 a)
symbol_spelled Name c cs a b d f = absurd (both_ways (letter c) f.0.0 a)
symbol_spelled (Number n) c cs a b d f = absurd (both_ways (digit c) f.0.0 b)
symbol_spelled Text c cs a b d f = absurd (both_ways (nat_eq c apostrophe) (eq-eqb c apostrophe (quoted_first f.0 c cs f.2)) d)
symbol_spelled (SymbolKind s) c cs a b d f = written_of s (c ∷ cs) f
symbol_spelled End c cs a b d f = absurd f

identifier_longest : (c : ℕ) (t rest : List ℕ) → letter c ≡ true → Stops letter_or_digit rest → IsLongest (c ∷ t) rest
identifier_longest c t rest h s d ds more k e f = next_fails letter_or_digit rest d ds more s e
    (pass_head letter_or_digit d ds (pass_rest letter_or_digit t (d ∷ ds) (identifier_spelled k c (t ++ (d ∷ ds)) h f).1))

digits_longest : (c : ℕ) (t rest : List ℕ) → digit c ≡ true → Stops digit rest → IsLongest (c ∷ t) rest
digits_longest c t rest h s d ds more k e f = next_fails digit rest d ds more s e
    (pass_head digit d ds (pass_rest digit t (d ∷ ds) (digits_spelled k c (t ++ (d ∷ ds)) h f).1))

symbol_longest : (w : Written) (rest : List ℕ) → symbol_among all_symbols (written_text w ++ rest) ≡ Some w → IsLongest (written_text w) rest
symbol_longest w rest found d ds more k e f =
    let o = opened w in
    let spelled : Spells k (o.first ∷ (o.others ++ (d ∷ ds))) = subst (λ (l : List ℕ). Spells k (l ++ (d ∷ ds))) o.text_is f in
    let t = symbol_spelled k o.first (o.others ++ (d ∷ ds)) o.no_letter o.no_digit o.no_apostrophe spelled in
    let text : written_text w ++ (d ∷ ds) ≡ written_text t.0 = ap (λ (l : List ℕ). l ++ (d ∷ ds)) o.text_is ∙ t.1 in
    let front : written_text w ++ rest ≡ written_text t.0 ++ more = ap (λ (l : List ℕ). written_text w ++ l) e
    ∙ sym (append_assoc (written_text w) (d ∷ ds) more) ∙ ap (λ (l : List ℕ). l ++ more) text in
    omega (arith, longest_symbol (written_text w ++ rest) more t.0 w front found, ap length text, length-append (written_text w) (d ∷ ds))

-- no string is longer than to the end that is read
string_longest : (l : List ℕ) (n : ℕ) (e : Ended l n) → string_end false l ≡ Some n → IsLongest (quoted e.text) e.rest
string_longest l n e found d ds more k f spelled =
    let s = string_spelled k ((doubled e.text ++ apostrophe ∷ []) ++ (d ∷ ds)) spelled in
    let other : List ℕ = s.0 in
    let text : quoted e.text ++ (d ∷ ds) ≡ quoted other = s.2 in
    let whole : apostrophe ∷ l ≡ apostrophe ∷ (doubled other ++ (apostrophe ∷ more)) =
    ap (λ (x : List ℕ). apostrophe ∷ x) e.whole ∙ sym (whole_string e.text e.rest) ∙ ap (λ (x : List ℕ). quoted e.text ++ x) f
    ∙ sym (append_assoc (quoted e.text) (d ∷ ds) more) ∙ ap (λ (x : List ℕ). x ++ more) text ∙ whole_string other more in
    let longer = ended_found other more (characters_on_line other s.1) in
    let same : longer.0 ≡ n = same_Some longer.0 n (sym longer.1 ∙ ap (string_end false)
    (sym (tail_is apostrophe apostrophe l (doubled other ++ (apostrophe ∷ more)) whole)) ∙ found) in
    omega (arith, same, longer.2, e.len, quoted_length e.text, quoted_length other, ap length text, length-append (quoted e.text) (d ∷ ds))

-- a piece of a length in front
pub record Cut (l : List ℕ) (k : Option TokenKind) (n : ℕ) : Type 0 where
  pub text : List ℕ
  pub rest : List ℕ
  pub whole : l ≡ text ++ rest
  pub len : length text ≡ n
  pub some : 0 < n
  pub fits : Fits text rest k

pub pair_is : (x y : Option TokenKind × ℕ) → found x ≡ Ok y → x ≡ y
pair_is x y e = cc

cut_same : (l : List ℕ) (k j : Option TokenKind) (m n : ℕ) → read k m ≡ Ok (j, n) → Cut l k m → Cut l j n
cut_same l k j m n e c = subst (λ (x : Option TokenKind × ℕ). Cut l x.0 x.1) (pair_is (k, m) (j, n) e) c

pub nothing_read : (r : LexReason) (k : Option TokenKind) (n : ℕ) → failed r ≡ read k n → ⊥
nothing_read r k n e = cc

word_or_name_allowed : (o : Option Word) (rest : List ℕ) → IsAllowed (word_or_name o) rest
word_or_name_allowed None rest = tt
word_or_name_allowed (Some w) rest = tt

-- the run of bytes that pass, the first of which does
run_one : (p : ℕ → Bool) (c : ℕ) (l : List ℕ) → p c ≡ true → run_length p (c ∷ l) ≡ suc (run_length p l)
run_one p c l h = rw h refl

identifier_cut : (c : ℕ) (l : List ℕ) (k : Option TokenKind) (n : ℕ) → letter c ≡ true → identifier_at (c ∷ l) ≡ Ok (k, n) → Cut (c ∷ l) k n
unfolding identifier_at
identifier_cut c l k n h e =
    let one : run_length letter_or_digit (c ∷ l) ≡ suc (run_length letter_or_digit l) = run_one letter_or_digit c l (letter_passes c h) in
    let t : List ℕ = take (run_length letter_or_digit l) l in
    let is : IsIdentifier (c ∷ t) = (h, run_passes letter_or_digit l) in
    let e2 : read (Some (word_or_name (word_in (c ∷ t)))) (suc (run_length letter_or_digit l)) ≡ Ok (k, n) =
    sym (ap (λ (m : ℕ). read (Some (word_or_name (word_in (take m (c ∷ l))))) m) one) ∙ e in
    cut_same (c ∷ l) (Some (word_or_name (word_in (c ∷ t)))) k (suc (run_length letter_or_digit l)) n e2 (record {
      text = c ∷ t;
      rest = drop (run_length letter_or_digit l) l;
      whole = ap (λ (x : List ℕ). c ∷ x) (sym (take-append-drop (run_length letter_or_digit l) l));
      len = ap suc (run_len letter_or_digit l);
      some = omega arith;
      fits = (
        identifier_spells (c ∷ t) is,
        identifier_longest c t (drop (run_length letter_or_digit l) l) h (run_stops letter_or_digit l),
        word_or_name_allowed (word_in (c ∷ t)) (drop (run_length letter_or_digit l) l),
        letter_opens_none c (t ++ drop (run_length letter_or_digit l) l) h,
      );
    })

number_cut : (c : ℕ) (l : List ℕ) (k : Option TokenKind) (n : ℕ) → digit c ≡ true → piece_at (c ∷ l) ≡ Ok (k, n) → Cut (c ∷ l) k n
number_cut c l k n h e =
    let digits : List ℕ = c ∷ take (run_length digit l) l in
    let rest : List ℕ = drop (run_length digit l) l in
    let e2 : number_before rest (length digits) digits ≡ Ok (k, n) = sym (number_read (c ∷ l) digits rest (first_digits c l h)) ∙ e in
    elim (chosen (real_follows rest) (Err RealWord) (cond (letter_first rest) (Err Joined) (number_piece (length digits) (number_in digits))) (Ok (k, n)) e2) [
      | inl f ↦ absurd (nothing_read RealWord k n f.1)
      | inr f ↦ elim (chosen (letter_first rest) (Err Joined) (number_piece (length digits) (number_in digits)) (Ok (k, n)) f.1) [
        | inl g ↦ absurd (nothing_read Joined k n g.1)
        | inr g ↦ at (number_in digits) refl f.0 g.0 g.1
      ]
    ]
  where
    at : (o : Option ℕ) → number_in (c ∷ take (run_length digit l) l) ≡ o → real_follows (drop (run_length digit l) l) ≡ false
        → letter_first (drop (run_length digit l) l) ≡ false
        → number_piece (length (c ∷ take (run_length digit l) l)) o ≡ Ok (k, n) → Cut (c ∷ l) k n
    at None g no_real no_letter e = absurd (nothing_read TooLarge k n e)
    at (Some value) g no_real no_letter e =
        let v = number_small (c ∷ take (run_length digit l) l) value g in
        cut_same (c ∷ l) (Some (Number value)) k (length (c ∷ take (run_length digit l) l)) n e (record {
          text = c ∷ take (run_length digit l) l;
          rest = drop (run_length digit l) l;
          whole = ap (λ (x : List ℕ). c ∷ x) (sym (take-append-drop (run_length digit l) l));
          len = refl;
          some = omega arith;
          fits = (
            ((h, run_passes digit l), v.0),
            digits_longest c (take (run_length digit l) l) (drop (run_length digit l) l) h (run_stops digit l),
            (no_real, no_letter, v.1),
            digit_opens_none c (take (run_length digit l) l ++ drop (run_length digit l) l) h,
          );
        })

string_cut : (l : List ℕ) (k : Option TokenKind) (n : ℕ) → string_piece l (string_end false l) ≡ Ok (k, n) → Cut (apostrophe ∷ l) k n
string_cut l k n e = at (string_end false l) refl e
  where
    short : (l : List ℕ) (k : Option TokenKind) (n : ℕ) → cond (next_is apostrophe (drop 1 l)) (failed OpenString) (Err EmptyString) ≡ Ok (k, n) → ⊥
    short l k n e =
        elim (chosen (next_is apostrophe (drop 1 l)) (failed OpenString) (Err EmptyString) (Ok (k, n)) e) [
          | inl h ↦ nothing_read OpenString k n h.1
          | inr h ↦ nothing_read EmptyString k n h.1
        ]

    at : (o : Option ℕ) → string_end false l ≡ o → string_piece l o ≡ Ok (k, n) → Cut (apostrophe ∷ l) k n
    at None g e = absurd (nothing_read OpenString k n e)
    at (Some m) g e =
        elim (chosen (nat_lt 1 m) (read (Some Text) (1 + m)) (cond (next_is apostrophe (drop 1 l)) (failed OpenString) (Err EmptyString)) (Ok (k, n)) e) [
          | inl h ↦
              let s : Ended l m = ended_sound l m g in
              let lt : 1 < m = ltb-true 1 m h.0 in
              let some : 0 < length (doubled s.text) = omega (arith, s.len, lt) in
              cut_same (apostrophe ∷ l) (Some Text) k (1 + m) n h.1 (record {
                text = quoted s.text;
                rest = s.rest;
                whole = ap (λ (x : List ℕ). apostrophe ∷ x) s.whole ∙ sym (whole_string s.text s.rest);
                len = omega (arith, quoted_length s.text, s.len);
                some = omega arith;
                fits = ((s.text, characters_are s.text s.on_line some, refl), string_longest l m s g, tt, refl);
              })
          | inr h ↦ absurd (short l k n h.1)
        ]

comment_cut : (whole after : List ℕ) (opened : ℕ) (k : Option TokenKind) (n : ℕ) → IsOpened whole after
    → ((x : List ℕ) → (t : List ℕ) × IsOpened t x × (length t ≡ opened + length x) × ((y : List ℕ) → after ≡ x ++ y → whole ≡ t ++ y)) → 0 < opened
    → comment_piece opened (closing after) ≡ Ok (k, n) → Cut whole k n
comment_cut whole after opened k n is front some e = at (closing after) refl e
  where
    at : (o : Option ℕ) → closing after ≡ o → comment_piece opened o ≡ Ok (k, n) → Cut whole k n
    at None g e = absurd (nothing_read OpenComment k n e)
    at (Some m) g e =
        let s = closing_sound after m g in
        let t = front (take m after) in
        cut_same whole None k (opened + m) n e (record {
          text = t.0;
          rest = drop m after;
          whole = t.3 (drop m after) (sym (take-append-drop m after));
          len = omega (arith, t.2, length-take m after, s.1);
          some = omega (arith, some);
          fits = inr (take m after, t.1, s.0);
        })

brace_front : (after x : List ℕ) → (t : List ℕ) × IsOpened t x × (length t ≡ 1 + length x) × ((y : List ℕ) → after ≡ x ++ y → 123 ∷ after ≡ t ++ y)
brace_front after x = (123 ∷ x, inl refl, omega arith, λ y e. ap (λ (l : List ℕ). 123 ∷ l) e)

paren_front : (after x : List ℕ) → (t : List ℕ) × IsOpened t x × (length t ≡ 2 + length x) × ((y : List ℕ) → after ≡ x ++ y → 40 ∷ (42 ∷ after) ≡ t ++ y)
paren_front after x = (40 ∷ (42 ∷ x), inr refl, omega arith, λ y e. ap (λ (l : List ℕ). 40 ∷ (42 ∷ l)) e)

-- the second byte of an opening symbol
pub star_there : (c : ℕ) (l : List ℕ) → (nat_eq c 40 && next_is 42 l) ≡ true → (m : List ℕ) × (c ∷ l ≡ 40 ∷ (42 ∷ m)) × (drop 1 l ≡ m)
star_there c l e = let p = and_parts (nat_eq c 40) (next_is 42 l) e in at l p.1 (eqb-true c 40 p.0)
  where
    at : (l : List ℕ) → next_is 42 l ≡ true → c ≡ 40 → (m : List ℕ) × (c ∷ l ≡ 40 ∷ (42 ∷ m)) × (drop 1 l ≡ m)
    at [] e f = absurd cc
    at (d ∷ m) e f = (m, ap (λ (x : ℕ). x ∷ (d ∷ m)) f ∙ ap (λ (x : ℕ). 40 ∷ (x ∷ m)) (eqb-true d 42 e), refl)

symbol_cut : (c : ℕ) (l : List ℕ) (k : Option TokenKind) (n : ℕ) → opens_comment (c ∷ l) ≡ false → symbol_piece (symbol_among all_symbols (c ∷ l)) ≡ Ok (k, n)
    → Cut (c ∷ l) k n
symbol_cut c l k n none e = at (symbol_among all_symbols (c ∷ l)) refl e
  where
    at : (o : Option Written) → symbol_among all_symbols (c ∷ l) ≡ o → symbol_piece o ≡ Ok (k, n) → Cut (c ∷ l) k n
    at None g e = absurd (nothing_read BadByte k n e)
    at (Some w) g e =
        let rest : List ℕ = drop (length (written_text w)) (c ∷ l) in
        let whole : c ∷ l ≡ written_text w ++ rest = symbol_is all_symbols (c ∷ l) w g in
        cut_same (c ∷ l) (Some (SymbolKind (symbol_of w))) k (length (written_text w)) n e (record {
          text = written_text w;
          rest = rest;
          whole = whole;
          len = refl;
          some = omega (arith, ap length (opened w).text_is);
          fits = (
            written_spells w (written_text w) refl,
            symbol_longest w rest (ap (symbol_among all_symbols) (sym whole) ∙ g),
            tt,
            ap opens_comment (sym whole) ∙ none,
          );
        })

mark_cut : (c : ℕ) (l : List ℕ) (k : Option TokenKind) (n : ℕ) → mark_piece c l ≡ Ok (k, n) → Cut (c ∷ l) k n
unfolding mark_piece string_at symbol_in
mark_cut c l k n e =
    elim (chosen (nat_eq c apostrophe) _ _ (Ok (k, n)) e) [
      | inl h ↦ subst (λ (x : ℕ). Cut (x ∷ l) k n) (sym (eqb-true c apostrophe h.0)) (string_cut l k n h.1)
      | inr h ↦ elim (chosen (nat_eq c 123) _ _ (Ok (k, n)) h.1) [
        | inl g ↦ subst (λ (x : ℕ). Cut (x ∷ l) k n) (sym (eqb-true c 123 g.0)) (comment_cut (123 ∷ l) l 1 k n (inl refl) (brace_front l) (omega arith) g.1)
        | inr g ↦ elim (chosen (nat_eq c 40 && next_is 42 l) _ _ (Ok (k, n)) g.1) [
          | inl f ↦
              let m = star_there c l f.0 in
              let e2 : comment_piece 2 (closing m.0) ≡ Ok (k, n) = ap (λ (x : List ℕ). comment_piece 2 (closing x)) (sym m.2) ∙ f.1 in
              subst (λ (x : List ℕ). Cut x k n) (sym m.1) (comment_cut (40 ∷ (42 ∷ m.0)) m.0 2 k n (inr refl) (paren_front m.0) (omega arith) e2)
          | inr f ↦ elim (chosen (nat_eq c 47) (Err RealWord) (symbol_piece (symbol_among all_symbols (c ∷ l))) (Ok (k, n)) f.1) [
            | inl a ↦ absurd (nothing_read RealWord k n a.1)
            | inr a ↦ symbol_cut c l k n (or_from (nat_eq c 123) (nat_eq c 40 && next_is 42 l) g.0 f.0) a.1
          ]
        ]
      ]
    ]

pub piece_cut : (l : List ℕ) (k : Option TokenKind) (n : ℕ) → piece_at l ≡ Ok (k, n) → Cut l k n
unfolding piece_at
piece_cut [] k n e = absurd (nothing_read BadByte k n e)
piece_cut (c ∷ l) k n e =
    elim (fact_of (digit c)) [
      | inl d ↦ number_cut c l k n d e
      | inr d ↦ elim (chosen (letter c) (identifier_at (c ∷ l)) _ (Ok (k, n)) e) [
        | inl h ↦ identifier_cut c l k n h.0 h.1
        | inr h ↦ elim (fact_of (separator c)) [
          | inl f ↦ cut_same (c ∷ l) None k 1 n (sym (separator_again c l f) ∙ e)
              (record { text = c ∷ []; rest = l; whole = refl; len = refl; some = omega arith; fits = inl (c, refl, f) })
          | inr f ↦ mark_cut c l k n (sym (mark_read c l h.0 d f) ∙ e)
        ]
      ]
    ]

-- ---- what is not read does not fit

pub nothing_fits : (l : List ℕ) (r : LexReason) → piece_at l ≡ Err r → NothingFits l
nothing_fits l r e text rest k whole fits = nothing_read r k (length text) (sym e ∙ ap piece_at whole ∙ piece_again k text rest fits)
