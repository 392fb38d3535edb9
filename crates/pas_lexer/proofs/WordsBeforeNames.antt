-- Identifiers, and the words and names that they spell.
use Rattle.std.proofs.Common.{◌++◌, ◌∙◌, ◌∷◌, ◌≡◌, [], ℕ, List, None, Option, Some, ap, arith, refl, subst, sym, true}
use Rattle.std.proofs.lemmas.{Bool.and_parts, Bool.Decides.nat_tests, List.Sums.AllPass-from_list_all}
use Rattle.std.specs.{Char.to_ascii_lowercase, List.AllPass, List.list_all}
use Rattle.pas_lexer.proofs.AllDigitsFirst.{letter_passes}
use Rattle.pas_lexer.proofs.LongestInTable.{identifier, word_found, word_identifier, word_is}
use Rattle.pas_lexer.proofs.LongestRun.{pass_cons, pass_head, pass_more, pass_nil, pass_tail}
use Rattle.pas_lexer.specs.{Lexicon.word_text, Reading.all_words, Reading.word_among, Reading.word_in, Reading.word_or_name, declared.kinds.Word.Word}
use Rattle.pas_lexer.specs.Lexis.{IsIdentifier, Spells, letter, letter_or_digit, lower_case}

lower_letter : (c : ℕ) → letter (to_ascii_lowercase c) ≡ true → letter c ≡ true
lower_letter c h = grind (arith, nat_tests)

lower_letter_or_digit : (c : ℕ) → letter_or_digit (to_ascii_lowercase c) ≡ true → letter_or_digit c ≡ true
lower_letter_or_digit c h = grind (arith, nat_tests)

-- ---- identifiers

pub identifier_all : (t : List ℕ) → IsIdentifier t → AllPass letter_or_digit t
identifier_all [] h = absurd h
identifier_all (c ∷ cs) h = pass_cons letter_or_digit c cs (letter_passes c h.0) h.1

pub identifier_more : (t : List ℕ) (d : ℕ) → IsIdentifier t → letter_or_digit d ≡ true → IsIdentifier (t ++ d ∷ [])
identifier_more [] d h e = absurd h
identifier_more (c ∷ cs) d h e = (h.0, pass_more letter_or_digit cs d h.1 e)

identifier_true : (t : List ℕ) → identifier t ≡ true → IsIdentifier t
identifier_true [] e = absurd cc
identifier_true (c ∷ cs) e = let p = and_parts (letter c) (list_all letter_or_digit cs) e in (p.0, AllPass-from_list_all letter_or_digit cs p.1)

lower_passes : (cs : List ℕ) → AllPass letter_or_digit (lower_case cs) → AllPass letter_or_digit cs
lower_passes [] h = pass_nil letter_or_digit
lower_passes (c ∷ cs) h = pass_cons letter_or_digit c cs (lower_letter_or_digit c (pass_head letter_or_digit (to_ascii_lowercase c) (lower_case cs) h))
    (lower_passes cs (pass_tail letter_or_digit (to_ascii_lowercase c) (lower_case cs) h))

lower_identifier : (t : List ℕ) → IsIdentifier (lower_case t) → IsIdentifier t
lower_identifier [] h = absurd h
lower_identifier (c ∷ cs) h = (lower_letter c h.0, lower_passes cs h.1)

-- a word symbol is spelled as an identifier
pub word_spelled : (t : List ℕ) (w : Word) → lower_case t ≡ word_text w → IsIdentifier t
word_spelled t w e = lower_identifier t (subst IsIdentifier (sym e) (identifier_true (word_text w) (word_identifier w)))

-- an identifier spells the word that is found, or a name
pub identifier_spells : (t : List ℕ) → IsIdentifier t → Spells (word_or_name (word_in t)) t
unfolding word_in
identifier_spells t h = at (word_among all_words (lower_case t)) refl
  where
    at : (o : Option Word) → word_among all_words (lower_case t) ≡ o → Spells (word_or_name o) t
    at None e = (h, λ w same. let never : None ≡ Some w = sym e ∙ ap (word_among all_words) same ∙ word_found w in cc)
    at (Some w) e = word_is all_words (lower_case t) w e

pub word_again : (t : List ℕ) (w : Word) → lower_case t ≡ word_text w → word_in t ≡ Some w
unfolding word_in
word_again t w e = ap (word_among all_words) e ∙ word_found w

pub name_again : (t : List ℕ) → ((w : Word) → lower_case t ≡ word_text w → ⊥) → word_in t ≡ None
unfolding word_in
name_again t none = at (word_among all_words (lower_case t)) refl
  where
    at : (o : Option Word) → word_among all_words (lower_case t) ≡ o → o ≡ None
    at None e = refl
    at (Some w) e = absurd (none w (word_is all_words (lower_case t) w e))
