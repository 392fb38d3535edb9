-- The words of a text, read from its front.
use Rattle.std.proofs.Common.{◌-◌, ◌∙◌, ◌∷◌, ◌≡◌, ◌⊎◌, [], ℕ, Bool, List, ap, arith, drop, false, filter, inl, inr, length, length-drop, not, refl, sym, take}
use Rattle.std.{proofs.Common.true, proofs.lemmas.List.take_all, specs.List.onto_first, specs.List.slice_split}
use Rattle.dialog_replies.specs.Words.{count_while, is_space_or_tab, is_word, words}

abbrev pub is_solid : ℕ → Bool
is_solid c = not (is_space_or_tab c)

skip_one : (c : ℕ) (cs : List ℕ) (b : Bool) → is_space_or_tab c ≡ b → words cs ≡ words (drop (count_while is_space_or_tab cs) cs)
    → words (c ∷ cs) ≡ words (drop (count_while is_space_or_tab (c ∷ cs)) (c ∷ cs))
skip_one c cs true e h = simp e h
skip_one c cs false e h = simp e refl

-- blanks before the first word
pub words_skip : (l : List ℕ) → words l ≡ words (drop (count_while is_space_or_tab l) l)
words_skip [] = refl
words_skip (c ∷ cs) = skip_one c cs (is_space_or_tab c) refl (words_skip cs)

-- what is left after them begins with no blank
record Front (l : List ℕ) : Type 0 where
  is : (l ≡ []) ⊎ ((c : ℕ) × (cs : List ℕ) × (l ≡ c ∷ cs) × (is_space_or_tab c ≡ false))

front_one : (c : ℕ) (cs : List ℕ) (b : Bool) → is_space_or_tab c ≡ b → Front (drop (count_while is_space_or_tab cs) cs)
    → Front (drop (count_while is_space_or_tab (c ∷ cs)) (c ∷ cs))
front_one c cs true e h = rw e h
front_one c cs false e h = rw e (record { is = inr (c, cs, refl, e) })

front : (l : List ℕ) → Front (drop (count_while is_space_or_tab l) l)
front [] = record { is = inl refl }
front (c ∷ cs) = front_one c cs (is_space_or_tab c) refl (front cs)

-- the parts after the first one
abbrev after_first : List ℕ → List (List ℕ)
after_first [] = []
after_first (c ∷ cs) = slice_split is_space_or_tab cs

part_one : (c : ℕ) (cs : List ℕ) (b : Bool) → is_space_or_tab c ≡ b
    → slice_split is_space_or_tab cs ≡ take (count_while is_solid cs) cs ∷ after_first (drop (count_while is_solid cs) cs)
    → slice_split is_space_or_tab (c ∷ cs)
    ≡ take (count_while is_solid (c ∷ cs)) (c ∷ cs) ∷ after_first (drop (count_while is_solid (c ∷ cs)) (c ∷ cs))
part_one c cs true e h = simp e refl
part_one c cs false e h = simp e (ap (onto_first c) h)

-- the first part, and those after it
first_part : (l : List ℕ) → slice_split is_space_or_tab l ≡ take (count_while is_solid l) l ∷ after_first (drop (count_while is_solid l) l)
first_part [] = refl
first_part (c ∷ cs) = part_one c cs (is_space_or_tab c) refl (first_part cs)

words_one : (c : ℕ) (cs : List ℕ) (b : Bool) → is_space_or_tab c ≡ b
    → filter is_word (after_first (drop (count_while is_solid cs) cs)) ≡ words (drop (count_while is_solid cs) cs)
    → filter is_word (after_first (drop (count_while is_solid (c ∷ cs)) (c ∷ cs))) ≡ words (drop (count_while is_solid (c ∷ cs)) (c ∷ cs))
words_one c cs true e h = simp e refl
words_one c cs false e h = simp e h

-- the words after the first part
words_after : (l : List ℕ) → filter is_word (after_first (drop (count_while is_solid l) l)) ≡ words (drop (count_while is_solid l) l)
words_after [] = refl
words_after (c ∷ cs) = words_one c cs (is_space_or_tab c) refl (words_after cs)

-- a text that begins with a byte of a word
words_first : (c : ℕ) (cs : List ℕ) → is_space_or_tab c ≡ false → words (c ∷ cs)
    ≡ take (count_while is_solid (c ∷ cs)) (c ∷ cs) ∷ words (drop (count_while is_solid (c ∷ cs)) (c ∷ cs))
words_first c cs e =
    let whole = ap (filter is_word) (first_part (c ∷ cs)) in
    let some : take (count_while is_solid (c ∷ cs)) (c ∷ cs) ≡ c ∷ take (count_while is_solid cs) cs = simp e refl in
    whole ∙ ap (λ (w : List ℕ). filter is_word (w ∷ after_first (drop (count_while is_solid (c ∷ cs)) (c ∷ cs)))) some
    ∙ ap (λ (w : List ℕ). w ∷ filter is_word (after_first (drop (count_while is_solid (c ∷ cs)) (c ∷ cs)))) (sym some)
    ∙ ap (λ (ws : List (List ℕ)). take (count_while is_solid (c ∷ cs)) (c ∷ cs) ∷ ws) (words_after (c ∷ cs))

none_solid : (c : ℕ) (cs : List ℕ) → is_space_or_tab c ≡ false → count_while is_solid (c ∷ cs) ≡ 0 → ⊥
none_solid c cs e h = let n = rw e at h in omega arith

-- a text without words
pub no_words : (text from : List ℕ) → from ≡ drop (count_while is_space_or_tab text) text → count_while is_solid from ≡ 0 → words text ≡ []
no_words text from e none = go (front text).is
  where
    go : (drop (count_while is_space_or_tab text) text ≡ []) ⊎ ((c : ℕ) × (cs : List ℕ) × (drop (count_while is_space_or_tab text) text ≡ c ∷ cs)
        × (is_space_or_tab c ≡ false))
        → words text ≡ []
    go (inl f) = words_skip text ∙ ap words f
    go (inr f) = absurd (none_solid f.0 f.1 f.3 (sym (ap (count_while is_solid) (e ∙ f.2)) ∙ none))

-- a text with words, by its first one and what follows
pub some_words : (text from : List ℕ) (n : ℕ) → from ≡ drop (count_while is_space_or_tab text) text → n ≡ count_while is_solid from
    → (n ≡ 0 → ⊥) → words text ≡ take n from ∷ words (drop n from)
some_words text from n e counted some = go (front text).is
  where
    go : (drop (count_while is_space_or_tab text) text ≡ []) ⊎ ((c : ℕ) × (cs : List ℕ) × (drop (count_while is_space_or_tab text) text ≡ c ∷ cs)
        × (is_space_or_tab c ≡ false))
        → words text ≡ take n from ∷ words (drop n from)
    go (inl f) = absurd (some (counted ∙ ap (count_while is_solid) (e ∙ f)))
    go (inr f) =
        words_skip text ∙ ap words f.2 ∙ words_first f.0 f.1 f.3
        ∙ ap (λ (x : List ℕ). take (count_while is_solid x) x ∷ words (drop (count_while is_solid x) x)) (sym (e ∙ f.2))
        ∙ ap (λ (k : ℕ). take k from ∷ words (drop k from)) (sym counted)

-- what a slice from a place on holds
pub rest_is : (l : List ℕ) (n : ℕ) → take (length l - n) (drop n l) ≡ drop n l
rest_is l n = take_all (length l - n) (drop n l) (omega (arith, length-drop n l))
