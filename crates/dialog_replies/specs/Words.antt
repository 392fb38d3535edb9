-- The words of a line of the console.
use Rattle.std.specs.Prelude.{if◌then◌else◌, ◌||◌, ◌∷◌, [], ℕ, Bool, List, drop, false, filter, length, nat_eq, not}
use Rattle.std.specs.Prelude.{slice_index, suc, take, true, zero}
use Rattle.std.specs.List.{slice_split}

-- a space or a tab
abbrev pub is_space_or_tab : ℕ → Bool
is_space_or_tab c = nat_eq c 32 || nat_eq c 9

abbrev pub is_word : List ℕ → Bool
is_word [] = false
is_word (c ∷ cs) = true

-- the words of a line: its parts between blanks, but for those that are empty
abbrev pub words : List ℕ → List (List ℕ)
words line = filter is_word (slice_split is_space_or_tab line)

-- how many of the first items pass
abbrev pub count_while : (ℕ → Bool) → List ℕ → ℕ
count_while p [] = 0
count_while p (c ∷ cs) = if p c then suc (count_while p cs) else 0

-- what follows the blanks that stand first
abbrev pub after_blanks : List ℕ → List ℕ
after_blanks text = drop (count_while is_space_or_tab text) text

-- what follows the first word
abbrev pub after_word : List ℕ → List ℕ
after_word text = drop (count_while (λ c. not (is_space_or_tab c)) (after_blanks text)) (after_blanks text)

-- where the last of the first n bytes that is no blank ends
abbrev pub solid_end : List ℕ → (n : ℕ) → ℕ
solid_end text zero = zero
solid_end text (suc n) = if is_space_or_tab (slice_index text n) then solid_end text n else suc n

-- a text without the blanks that stand last
abbrev pub before_blanks : List ℕ → List ℕ
before_blanks text = take (solid_end text (length text)) text
