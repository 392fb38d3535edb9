-- Why nothing fits: the reason that is read is the one, and no other is.
use Rattle.std.proofs.Common.{◌&&◌, ◌++◌, ◌+◌, ◌<◌, ◌∙◌, ◌∷◌, ◌≡◌, ◌≤◌, [], ℕ, Bool, Err, List, None, Ok, Option, Some, ap, arith, cond, drop, false, inl, inr}
use Rattle.std.proofs.Common.{length, nat_eq, nat_lt, refl, subst, suc, sym, take, true}
use Rattle.std.proofs.lemmas.{Bool.eq-eqb, Bool.eqb-true, Bool.lt-ltb, Bool.Decides.nat_tests, List.take-append-drop, Option.none-some, Option.same_Some}
use Rattle.pas_lexer.proofs.{AllDigitsFirst.number_read, FirstClosingSymbol.closing_sound, FirstClosingSymbol.never_closed}
use Rattle.pas_lexer.proofs.AllDigitsFirst.{both_ways, digit_here, digit_opens_none, first_digits, large_number, not_joined, not_real, number_large}
use Rattle.pas_lexer.proofs.LastApostrophe.{Ended, doubled_apostrophe, doubled_other, ended_sound, open_found}
use Rattle.pas_lexer.proofs.LongestInTable.{opened, some_symbol, symbol_is}
use Rattle.pas_lexer.proofs.LongestRun.{chosen, fact_of, head_is, pass_cons, pass_nil, tail_is}
use Rattle.pas_lexer.proofs.ReadPieceFits.{failed, mark_read, piece_again, piece_cut, star_there, symbol_read}
use Rattle.pas_lexer.specs.Lexis.{BeginsJoined, BeginsReal, FirstDigits, Fits, IsClosed, IsLongest, IsOpened, IsReason, NothingFits, apostrophe, decimal, digit}
use Rattle.pas_lexer.specs.Lexis.{doubled, ends_first, ends_line, in_line, letter, letter_first, maxint, next_is, real_follows, separator}
use Rattle.pas_lexer.specs.Reading.{Reading, all_symbols, closing, comment_piece, identifier_at, mark_piece, more_by, number_before, number_in, number_piece}
use Rattle.pas_lexer.specs.Reading.{or_else, piece_at, run_length, string_at, string_end, string_piece, symbol_among, symbol_in, symbol_of, symbol_piece}
use Rattle.pas_lexer.specs.Reading.{written_text}
use Rattle.pas_lexer.specs.declared.{kinds.LexReason.LexReason, kinds.Symbol.TheVariants.LeftParen, symbols.Written.Written, symbols.Written.TheVariants.Usual}
use Rattle.pas_lexer.specs.declared.kinds.LexReason.TheVariants.{BadByte, EmptyString, Joined, OpenComment, OpenString, RealWord, TooLarge}
use Rattle.pas_lexer.specs.declared.kinds.TokenKind.{TokenKind, TheVariants.Number, TheVariants.Symbol as SymbolKind, TheVariants.Text}

abbrev read : Option TokenKind × ℕ → Reading
read x = Ok x

pub reason_is : (r q : LexReason) → failed r ≡ Err q → r ≡ q
reason_is r q e = cc

reason_same : (l : List ℕ) (r q : LexReason) → failed r ≡ Err q → IsReason r l → IsReason q l
reason_same l r q e h = subst (λ (x : LexReason). IsReason x l) (reason_is r q e) h

none_failed : (x : Option TokenKind × ℕ) (r : LexReason) → read x ≡ Err r → ⊥
none_failed x r e = cc

-- ---- what is read as a reason is one

number_fails : (c : ℕ) (l : List ℕ) (r : LexReason) → digit c ≡ true → piece_at (c ∷ l) ≡ Err r → IsReason r (c ∷ l)
number_fails c l r h e =
    let e2 : number_before rest (length digits) digits ≡ Err r = sym (number_read (c ∷ l) digits rest (first_digits c l h)) ∙ e in
    elim (chosen (real_follows rest) (failed RealWord) (cond (letter_first rest) (Err Joined) (number_piece (length digits) (number_in digits))) (Err r) e2) [
      | inl f ↦ reason_same (c ∷ l) RealWord r f.1 (inr (digits, rest, first_digits c l h, f.0))
      | inr f ↦ elim (chosen (letter_first rest) (failed Joined) (number_piece (length digits) (number_in digits)) (Err r) f.1) [
        | inl g ↦ reason_same (c ∷ l) Joined r g.1 ((digits, rest, first_digits c l h, g.0), not_real (c ∷ l) digits rest (first_digits c l h) f.0)
        | inr g ↦ at (number_in digits) refl g.1 (not_real (c ∷ l) digits rest (first_digits c l h) f.0)
            (not_joined (c ∷ l) digits rest (first_digits c l h) g.0)
      ]
    ]
  where
    digits : List ℕ
    digits = c ∷ take (run_length digit l) l

    rest : List ℕ
    rest = drop (run_length digit l) l

    at : (o : Option ℕ) → number_in (c ∷ take (run_length digit l) l) ≡ o → number_piece (length (c ∷ take (run_length digit l) l)) o ≡ Err r
        → (BeginsReal (c ∷ l) → ⊥)
        → (BeginsJoined (c ∷ l) → ⊥) → IsReason r (c ∷ l)
    at None g e a b = reason_same (c ∷ l) TooLarge r e (
      (
        c ∷ take (run_length digit l) l,
        drop (run_length digit l) l,
        first_digits c l h,
        number_large (c ∷ take (run_length digit l) l) g,
      ),
      a,
      b,
    )
    at (Some n) g e a b = absurd (none_failed (Some (Number n), length (c ∷ take (run_length digit l) l)) r e)

-- no end is read after another apostrophe
string_open : (l : List ℕ) → string_end false l ≡ None → IsReason OpenString (apostrophe ∷ l)
string_open l e = let o = open_found l e in (o.text, o.rest, ap (λ (x : List ℕ). apostrophe ∷ x) o.whole, o.on_line, o.ends)

-- an end at the first byte is an apostrophe
end_here : (l : List ℕ) (n : ℕ) → Ended l n → (1 < n → ⊥) → (rest : List ℕ) × (l ≡ apostrophe ∷ rest)
end_here l n e short = (e.rest, e.whole ∙ ap (λ (x : List ℕ). x ++ (apostrophe ∷ e.rest)) (none (doubled e.text) (omega (arith, e.len, short))))
  where
    none : (x : List ℕ) → length x ≡ 0 → x ≡ []
    none [] e = refl
    none (c ∷ x) e = absurd (omega (arith, e))

not_above : (a b : ℕ) → nat_lt a b ≡ false → a < b → ⊥
not_above a b h lt = both_ways (nat_lt a b) (lt-ltb a b lt) h

-- three apostrophes, and no end after them
third_open : (l : List ℕ) (n : ℕ) → string_end false (apostrophe ∷ (apostrophe ∷ l)) ≡ Some n → (1 < n → ⊥)
    → IsReason OpenString (apostrophe ∷ (apostrophe ∷ (apostrophe ∷ l)))
third_open l n e short = at (string_end false l) refl e
  where
    at : (o : Option ℕ) → string_end false l ≡ o → or_else (more_by 1 (more_by 1 o)) (Some 1) ≡ Some n
        → IsReason OpenString (apostrophe ∷ (apostrophe ∷ (apostrophe ∷ l)))
    at None g e =
        let o = open_found l g in (
          apostrophe ∷ o.text,
          o.rest,
          ap (λ (x : List ℕ). apostrophe ∷ (apostrophe ∷ (apostrophe ∷ x))) o.whole,
          pass_cons in_line apostrophe o.text refl o.on_line,
          o.ends,
        )
    at (Some m) g e = absurd (short (omega (arith, same_Some (1 + (1 + m)) n e)))

string_fails : (l : List ℕ) (r : LexReason) → string_piece l (string_end false l) ≡ Err r → IsReason r (apostrophe ∷ l)
string_fails l r e = at (string_end false l) refl e
  where
    after : (n : ℕ) (rest : List ℕ) → string_end false (apostrophe ∷ rest) ≡ Some n → (1 < n → ⊥) → (b : Bool) → next_is apostrophe rest ≡ b
        → cond b (failed OpenString) (Err EmptyString) ≡ Err r → IsReason r (apostrophe ∷ (apostrophe ∷ rest))
    after n [] g short true f e = absurd cc
    after n (d ∷ rest) g short true f e =
        let is : d ≡ apostrophe = eqb-true d apostrophe f in
        reason_same (apostrophe ∷ (apostrophe ∷ (d ∷ rest))) OpenString r e
        (subst (λ (x : ℕ). IsReason OpenString (apostrophe ∷ (apostrophe ∷ (x ∷ rest)))) (sym is)
        (third_open rest n (ap (λ (x : ℕ). string_end false (apostrophe ∷ (x ∷ rest))) (sym is) ∙ g) short))
    after n rest g short false f e = reason_same (apostrophe ∷ (apostrophe ∷ rest)) EmptyString r e (rest, refl, f)

    at : (o : Option ℕ) → string_end false l ≡ o → string_piece l o ≡ Err r → IsReason r (apostrophe ∷ l)
    at None g e = reason_same (apostrophe ∷ l) OpenString r e (string_open l g)
    at (Some n) g e =
        elim (chosen (nat_lt 1 n) (read (Some Text, 1 + n)) (cond (next_is apostrophe (drop 1 l)) (failed OpenString) (Err EmptyString)) (Err r) e) [
          | inl h ↦ absurd (none_failed (Some Text, 1 + n) r h.1)
          | inr h ↦
              let short : 1 < n → ⊥ = not_above 1 n h.0 in
              let m = end_here l n (ended_sound l n g) short in
              let f : cond (next_is apostrophe m.0) (failed OpenString) (Err EmptyString) ≡ Err r =
              ap (λ (x : List ℕ). cond (next_is apostrophe (drop 1 x)) (failed OpenString) (Err EmptyString)) (sym m.1) ∙ h.1 in
              subst (λ (x : List ℕ). IsReason r (apostrophe ∷ x)) (sym m.1) (after n m.0 (ap (string_end false) (sym m.1)
              ∙ g) short (next_is apostrophe m.0) refl f)
        ]

comment_fails : (whole after : List ℕ) (opened : ℕ) (r : LexReason) → IsOpened whole after → comment_piece opened (closing after) ≡ Err r → IsReason r whole
comment_fails whole after opened r is e = at (closing after) refl e
  where
    at : (o : Option ℕ) → closing after ≡ o → comment_piece opened o ≡ Err r → IsReason r whole
    at None g e = reason_same whole OpenComment r e (after, is, never_closed after g)
    at (Some n) g e = absurd (none_failed (None, opened + n) r e)

-- a byte with which no symbol begins, whatever follows
no_symbol : (c : ℕ) (l m : List ℕ) (w : Written) → symbol_among all_symbols (c ∷ l) ≡ None → symbol_among all_symbols (c ∷ m) ≡ Some w → ⊥
no_symbol c l m w e f =
    let o = opened w in
    let first : c ≡ o.first = head_is c o.first m (o.others ++ drop (length (written_text w)) (c ∷ m)) (symbol_is all_symbols (c ∷ m) w f
    ∙ ap (λ (x : List ℕ). x ++ drop (length (written_text w)) (c ∷ m)) o.text_is) in
    let alone : c ∷ l ≡ written_text o.alone ++ l = ap (λ (x : ℕ). x ∷ l) first ∙ sym (ap (λ (x : List ℕ). x ++ l) o.alone_is) in
    let s = some_symbol (c ∷ l) l o.alone alone in
    none-some s.0 (sym e ∙ s.1)

-- where no symbol begins, no parenthesis stands
no_paren : (c : ℕ) (l : List ℕ) → symbol_among all_symbols (c ∷ l) ≡ None → nat_eq c 40 ≡ false
no_paren c l e =
    elim (fact_of (nat_eq c 40)) [
      | inl h ↦ absurd (let s = some_symbol (c ∷ l) l (Usual LeftParen) (ap (λ (x : ℕ). x ∷ l) (eqb-true c 40 h)) in none-some s.0 (sym e ∙ s.1))
      | inr h ↦ h
    ]

no_star : (c : ℕ) (l : List ℕ) → nat_eq c 40 ≡ false → (nat_eq c 40 && next_is 42 l) ≡ false
no_star c l e = rw e refl

-- a byte that begins nothing, whatever follows
no_piece : (c : ℕ) (l : List ℕ) → letter c ≡ false → digit c ≡ false → separator c ≡ false → nat_eq c apostrophe ≡ false → nat_eq c 123 ≡ false
    → nat_eq c 47 ≡ false → symbol_among all_symbols (c ∷ l) ≡ None → (text rest : List ℕ) (k : Option TokenKind) → Fits (c ∷ text) rest k → ⊥
no_piece c l a b d f g h none text rest k fits =
    let paren : nat_eq c 40 ≡ false = no_paren c l none in
    let is : symbol_piece (symbol_among all_symbols (c ∷ (text ++ rest))) ≡ read (k, suc (length text)) =
    sym (symbol_read c (text ++ rest) f g (no_star c (text ++ rest) paren) h) ∙ sym (mark_read c (text ++ rest) a b d) ∙ piece_again k (c ∷ text) rest fits in
    at (symbol_among all_symbols (c ∷ (text ++ rest))) refl is
  where
    at : (o : Option Written) → symbol_among all_symbols (c ∷ (text ++ rest)) ≡ o → symbol_piece o ≡ read (k, suc (length text)) → ⊥
    at None e is = none_failed (k, suc (length text)) BadByte (sym is)
    at (Some w) e is = no_symbol c l (text ++ rest) w none e

no_digits : (c : ℕ) (l digits rest : List ℕ) → digit c ≡ false → FirstDigits (c ∷ l) digits rest → ⊥
no_digits c l digits rest h f = both_ways (digit c) (digit_here c l digits rest f) h

never_real : (c : ℕ) (l : List ℕ) → digit c ≡ false → nat_eq c 47 ≡ false → BeginsReal (c ∷ l) → ⊥
never_real c l a b (inl e) = both_ways (nat_eq c 47) e b
never_real c l a b (inr e) = no_digits c l e.0 e.1 a e.2

symbol_fails : (c : ℕ) (l : List ℕ) (r : LexReason) → letter c ≡ false → digit c ≡ false → separator c ≡ false → nat_eq c apostrophe ≡ false
    → nat_eq c 123 ≡ false → nat_eq c 47 ≡ false → symbol_piece (symbol_among all_symbols (c ∷ l)) ≡ Err r → IsReason r (c ∷ l)
symbol_fails c l r a b d f g h e = at (symbol_among all_symbols (c ∷ l)) refl e
  where
    at : (o : Option Written) → symbol_among all_symbols (c ∷ l) ≡ o → symbol_piece o ≡ Err r → IsReason r (c ∷ l)
    at None none e = reason_same (c ∷ l) BadByte r e ((c, l, refl, no_piece c l a b d f g h none), never_real c l b h)
    at (Some w) none e = absurd (none_failed (Some (SymbolKind (symbol_of w)), length (written_text w)) r e)

mark_fails : (c : ℕ) (l : List ℕ) (r : LexReason) → letter c ≡ false → digit c ≡ false → separator c ≡ false → mark_piece c l ≡ Err r → IsReason r (c ∷ l)
unfolding mark_piece string_at symbol_in
mark_fails c l r a b d e =
    elim (chosen (nat_eq c apostrophe) _ _ (Err r) e) [
      | inl h ↦ subst (λ (x : ℕ). IsReason r (x ∷ l)) (sym (eqb-true c apostrophe h.0)) (string_fails l r h.1)
      | inr h ↦ elim (chosen (nat_eq c 123) _ _ (Err r) h.1) [
        | inl g ↦ subst (λ (x : ℕ). IsReason r (x ∷ l)) (sym (eqb-true c 123 g.0)) (comment_fails (123 ∷ l) l 1 r (inl refl) g.1)
        | inr g ↦ elim (chosen (nat_eq c 40 && next_is 42 l) _ _ (Err r) g.1) [
          | inl f ↦
              let m = star_there c l f.0 in
              let e2 : comment_piece 2 (closing m.0) ≡ Err r = ap (λ (x : List ℕ). comment_piece 2 (closing x)) (sym m.2) ∙ f.1 in
              subst (IsReason r) (sym m.1) (comment_fails (40 ∷ (42 ∷ m.0)) m.0 2 r (inr refl) e2)
          | inr f ↦ elim (chosen (nat_eq c 47) (failed RealWord) (symbol_piece (symbol_among all_symbols (c ∷ l))) (Err r) f.1) [
            | inl z ↦ reason_same (c ∷ l) RealWord r z.1 (inl z.0)
            | inr z ↦ symbol_fails c l r a b d h.0 g.0 z.0 z.1
          ]
        ]
      ]
    ]

pub piece_fails : (c : ℕ) (l : List ℕ) (r : LexReason) → piece_at (c ∷ l) ≡ Err r → IsReason r (c ∷ l)
unfolding piece_at identifier_at
piece_fails c l r e =
    elim (fact_of (digit c)) [
      | inl d ↦ number_fails c l r d e
      | inr d ↦ elim (chosen (letter c) (identifier_at (c ∷ l)) _ (Err r) e) [
        | inl h ↦ absurd (none_failed _ r h.1)
        | inr h ↦ elim (fact_of (separator c)) [
          | inl f ↦ absurd (none_failed (None, 1) r (sym (piece_again None (c ∷ []) l (inl (c, refl, f))) ∙ e))
          | inr f ↦ mark_fails c l r h.0 d f (sym (mark_read c l h.0 d f) ∙ e)
        ]
      ]
    ]

-- ---- a reason is read

real_read : (rest : List ℕ) (n : ℕ) (digits : List ℕ) → real_follows rest ≡ true → number_before rest n digits ≡ Err RealWord
real_read rest n digits e = rw e refl

joined_read : (rest : List ℕ) (n : ℕ) (digits : List ℕ) → real_follows rest ≡ false → letter_first rest ≡ true → number_before rest n digits ≡ Err Joined
joined_read rest n digits e f = rw (e, f) refl

large_read : (rest : List ℕ) (n : ℕ) (digits : List ℕ) → real_follows rest ≡ false → letter_first rest ≡ false → number_in digits ≡ None
    → number_before rest n digits ≡ Err TooLarge
large_read rest n digits e f g = rw (e, f, g) refl

no_real : (l digits rest : List ℕ) → FirstDigits l digits rest → (BeginsReal l → ⊥) → real_follows rest ≡ false
no_real l digits rest f none =
    elim (fact_of (real_follows rest)) [
      | inl e ↦ absurd (none (inr (digits, rest, f, e)))
      | inr e ↦ e
    ]

no_joined : (l digits rest : List ℕ) → FirstDigits l digits rest → (BeginsJoined l → ⊥) → letter_first rest ≡ false
no_joined l digits rest f none =
    elim (fact_of (letter_first rest)) [
      | inl e ↦ absurd (none (digits, rest, f, e))
      | inr e ↦ e
    ]

slash_read : (l : List ℕ) → next_is 47 l ≡ true → piece_at l ≡ Err RealWord
unfolding piece_at mark_piece
slash_read [] e = absurd cc
slash_read (c ∷ l) e = subst (λ (x : ℕ). piece_at (x ∷ l) ≡ Err RealWord) (sym (eqb-true c 47 e)) refl

empty_read : (rest : List ℕ) → next_is apostrophe rest ≡ false → piece_at (apostrophe ∷ (apostrophe ∷ rest)) ≡ Err EmptyString
unfolding piece_at mark_piece string_at
empty_read [] e = refl
empty_read (d ∷ rest) e = let f : nat_eq d apostrophe ≡ false = e in rw (f, f) refl

-- the second byte of characters that begin with an apostrophe
second_is : (text rest more : List ℕ) → doubled text ++ rest ≡ apostrophe ∷ more → ends_first rest ≡ true → next_is apostrophe more ≡ true
second_is [] [] more e f = absurd (let never : [] ≡ apostrophe ∷ more = e in cc)
second_is [] (d ∷ rest) more e f = absurd (let is : d ≡ apostrophe = head_is d apostrophe rest more e in
    let g : ends_line apostrophe ≡ true = subst (λ (x : ℕ). ends_line x ≡ true) is f in both_ways (ends_line apostrophe) g refl)
second_is (c ∷ cs) rest more e f =
    elim (fact_of (nat_eq c apostrophe)) [
      | inl h ↦
          let d : c ∷ (c ∷ (doubled cs ++ rest)) ≡ apostrophe ∷ more = sym (ap (λ (x : List ℕ). x ++ rest) (doubled_apostrophe c cs h)) ∙ e in
          subst (λ (x : List ℕ). next_is apostrophe x ≡ true) (tail_is c apostrophe (c ∷ (doubled cs ++ rest)) more d) h
      | inr h ↦ absurd (let d : c ∷ (doubled cs ++ rest) ≡ apostrophe ∷ more = sym (ap (λ (x : List ℕ). x ++ rest) (doubled_other c cs h)) ∙ e in
          both_ways (nat_eq c apostrophe) (eq-eqb c apostrophe (head_is c apostrophe (doubled cs ++ rest) more d)) h)
    ]

-- what nothing fits is read as some reason
some_reason : (l : List ℕ) → NothingFits l → (r : LexReason) × (piece_at l ≡ Err r)
some_reason l none = at (piece_at l) refl
  where
    at : (o : Reading) → piece_at l ≡ o → (r : LexReason) × (piece_at l ≡ Err r)
    at (Ok x) e = absurd (let cut = piece_cut l x.0 x.1 e in none cut.text cut.rest x.0 cut.whole cut.fits)
    at (Err r) e = (r, e)

open_read : (l : List ℕ) → NothingFits (apostrophe ∷ l) → (text rest : List ℕ) → l ≡ doubled text ++ rest → ends_first rest ≡ true
    → piece_at (apostrophe ∷ l) ≡ Err OpenString
unfolding piece_at mark_piece string_at
open_read l none text rest whole ends =
    let r = some_reason (apostrophe ∷ l) none in
    r.1 ∙ at (string_end false l) refl r.0 r.1
  where
    at : (o : Option ℕ) → string_end false l ≡ o → (r : LexReason) → string_piece l (string_end false l) ≡ Err r → failed r ≡ Err OpenString
    at None g r e = sym e ∙ ap (string_piece l) g
    at (Some n) g r e =
        elim (chosen (nat_lt 1 n) (read (Some Text, 1 + n)) (cond (next_is apostrophe (drop 1 l)) (failed OpenString) (Err EmptyString)) (Err r)
        (sym (ap (string_piece l) g) ∙ e)) [
          | inl h ↦ absurd (none_failed (Some Text, 1 + n) r h.1)
          | inr h ↦
              let m = end_here l n (ended_sound l n g) (not_above 1 n h.0) in
              let third : next_is apostrophe m.0 ≡ true = second_is text rest m.0 (sym whole ∙ m.1) ends in
              sym h.1 ∙ ap (λ (x : List ℕ). cond (next_is apostrophe (drop 1 x)) (failed OpenString) (Err EmptyString)) m.1
              ∙ ap (λ (b : Bool). cond b (failed OpenString) (Err EmptyString)) third
        ]

comment_open : (after : List ℕ) (opened : ℕ) → ((front more : List ℕ) → after ≡ front ++ more → IsClosed front → ⊥)
    → comment_piece opened (closing after) ≡ Err OpenComment
comment_open after opened none = at (closing after) refl
  where
    at : (o : Option ℕ) → closing after ≡ o → comment_piece opened o ≡ Err OpenComment
    at None e = refl
    at (Some n) e = absurd (none (take n after) (drop n after) (sym (take-append-drop n after)) (closing_sound after n e).0)

open_comment_read : (l after : List ℕ) → IsOpened l after → ((front more : List ℕ) → after ≡ front ++ more → IsClosed front → ⊥) → piece_at l ≡ Err OpenComment
unfolding piece_at mark_piece
open_comment_read l after (inl e) none = subst (λ (x : List ℕ). piece_at x ≡ Err OpenComment) (sym e) (comment_open after 1 none)
open_comment_read l after (inr e) none = subst (λ (x : List ℕ). piece_at x ≡ Err OpenComment) (sym e) (comment_open after 2 none)

-- ---- bytes that begin a piece

longest_end : (text : List ℕ) → IsLongest text []
longest_end text d ds more k e f = let never : [] ≡ d ∷ (ds ++ more) = e in cc

digit_fits : (c : ℕ) → digit c ≡ true → Fits (c ∷ []) [] (Some (Number (decimal (c ∷ []))))
digit_fits c h = (((h, pass_nil digit), refl), longest_end (c ∷ []), (refl, refl, small c (below c h)), digit_opens_none c [] h)
  where
    below : (c : ℕ) → digit c ≡ true → c < 58
    below c h = grind (arith, nat_tests)

    small : (c : ℕ) → c < 58 → decimal (c ∷ []) ≤ maxint
    small c lt = omega (arith, lt)

-- `'a'`, `{}` and `(`
string_fits : Fits (apostrophe ∷ (97 ∷ (apostrophe ∷ []))) [] (Some Text)
string_fits = ((97 ∷ [], pass_cons in_line 97 [] refl (pass_nil in_line), refl), longest_end (apostrophe ∷ (97 ∷ (apostrophe ∷ []))), tt, refl)

brace_fits : Fits (123 ∷ (125 ∷ [])) [] None
brace_fits = inr (125 ∷ [], inl refl, inl refl)

paren_fits : Fits (40 ∷ []) [] (Some (SymbolKind LeftParen))
paren_fits = (inl refl, longest_end (40 ∷ []), tt, refl)

digits_begin : (c : ℕ) (l digits rest : List ℕ) → ((text rest : List ℕ) (k : Option TokenKind) → Fits (c ∷ text) rest k → ⊥) → FirstDigits (c ∷ l) digits rest
    → ⊥
digits_begin c l digits rest none f = none [] [] (Some (Number (decimal (c ∷ [])))) (digit_fits c (digit_here c l digits rest f))

begins_with : (c d : ℕ) (text rest : List ℕ) (k : Option TokenKind) → c ≡ d → ((text rest : List ℕ) (k : Option TokenKind) → Fits (c ∷ text) rest k → ⊥)
    → Fits (d ∷ text) rest k → ⊥
begins_with c d text rest k e none fits = none text rest k (subst (λ (x : ℕ). Fits (x ∷ text) rest k) (sym e) fits)

bad_only : (c : ℕ) (l : List ℕ) (r : LexReason) → ((text rest : List ℕ) (k : Option TokenKind) → Fits (c ∷ text) rest k → ⊥) → (BeginsReal (c ∷ l) → ⊥)
    → IsReason r (c ∷ l) → failed r ≡ Err BadByte
bad_only c l BadByte none no_real is = refl
bad_only c l RealWord none no_real is = absurd (no_real is)
bad_only c l Joined none no_real is = absurd (digits_begin c l is.0.0 is.0.1 none is.0.2)
bad_only c l TooLarge none no_real is = absurd (digits_begin c l is.0.0 is.0.1 none is.0.2)
bad_only c l EmptyString none no_real is = absurd (begins_with c apostrophe (97 ∷ (apostrophe ∷ [])) [] (Some Text)
    (head_is c apostrophe l (apostrophe ∷ is.0) is.1) none string_fits)
bad_only c l OpenString none no_real is = absurd (begins_with c apostrophe (97 ∷ (apostrophe ∷ [])) [] (Some Text)
    (head_is c apostrophe l (doubled is.0 ++ is.1) is.2) none string_fits)
bad_only c l OpenComment none no_real is =
    elim is.1 [
      | inl e ↦ absurd (begins_with c 123 (125 ∷ []) [] None (head_is c 123 l is.0 e) none brace_fits)
      | inr e ↦ absurd (begins_with c 40 [] [] (Some (SymbolKind LeftParen)) (head_is c 40 l (42 ∷ is.0) e) none paren_fits)
    ]

bad_read : (c : ℕ) (l : List ℕ) → NothingFits (c ∷ l) → ((text rest : List ℕ) (k : Option TokenKind) → Fits (c ∷ text) rest k → ⊥) → (BeginsReal (c ∷ l) → ⊥)
    → piece_at (c ∷ l) ≡ Err BadByte
bad_read c l nothing none no_real = let r = some_reason (c ∷ l) nothing in r.1 ∙ bad_only c l r.0 none no_real (piece_fails c l r.0 r.1)

pub reason_again : (r : LexReason) (l : List ℕ) → NothingFits l → IsReason r l → piece_at l ≡ Err r
reason_again RealWord l none (inl e) = slash_read l e
reason_again RealWord l none (inr e) = number_read l e.0 e.1 e.2 ∙ real_read e.1 (length e.0) e.0 e.3
reason_again Joined l none h = number_read l h.0.0 h.0.1 h.0.2 ∙ joined_read h.0.1 (length h.0.0) h.0.0 (no_real l h.0.0 h.0.1 h.0.2 h.1) h.0.3
reason_again TooLarge l none h = number_read l h.0.0 h.0.1 h.0.2 ∙ large_read h.0.1 (length h.0.0) h.0.0 (no_real l h.0.0 h.0.1 h.0.2 h.1)
    (no_joined l h.0.0 h.0.1 h.0.2 h.2) (large_number h.0.0 h.0.3)
reason_again EmptyString l none h = ap piece_at h.1 ∙ empty_read h.0 h.2
reason_again OpenString l none h = ap piece_at h.2 ∙ open_read (doubled h.0 ++ h.1) (subst NothingFits h.2 none) h.0 h.1 refl h.4
reason_again OpenComment l none h = open_comment_read l h.0 h.1 h.2
reason_again BadByte l none h = ap piece_at h.0.2 ∙ bad_read h.0.0 h.0.1 (subst NothingFits h.0.2 none) h.0.3 (λ real. h.1 (subst BeginsReal (sym h.0.2) real))
