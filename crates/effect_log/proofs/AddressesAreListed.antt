-- The lists of an effect grow by one address after another.
use Rattle.std.proofs.Common.{◌++◌, ◌+◌, ◌<◌, ◌∙◌, ◌∷◌, ◌≡◌, ◌≤◌, [], ℕ, None, Option, Some, ap, arith, length, length-append, option_to_list, refl, suc, sym}
use Rattle.std.proofs.{Common.zero, lemmas.List.append-nil, lemmas.List.Elements.filter_map-append}
use Rattle.std.specs.{List.cons_option, List.filter_map, List.range_with_len, Option.option_map}
use Rattle.cell_value.specs.Effects.{listed}
use Rattle.effect_log.specs.Lists.{listed_to}

range_more : (n a : ℕ) → range_with_len a (suc n) ≡ range_with_len a n ++ (a + n) ∷ []
range_more zero a = let same : a ≡ a + 0 = omega arith in ap (λ k. k ∷ []) same
range_more (suc n) a =
    let same : a + 1 + n ≡ a + suc n = omega arith in
    ap (λ xs. a ∷ xs) (range_more n (a + 1)) ∙ ap (λ k. a ∷ (range_with_len (a + 1) n ++ k ∷ [])) same

module _ {X : Type 0} (f : ℕ → Option X) where
  abbrev item : ℕ → Option (ℕ × X)
  item q = option_map (λ x. (q, x)) (f q)

  one : (o : Option (ℕ × X)) → cons_option o [] ≡ option_to_list o
  one (Some x) = refl
  one None = refl

  next : (n : ℕ) → listed_to f (suc n) ≡ listed_to f n ++ option_to_list (item n)
  unfolding listed_to
  next n =
      let place : 0 + n ≡ n = omega arith in
      ap (filter_map item) (range_more n 0) ∙ ap (λ k. filter_map item (range_with_len 0 n ++ k ∷ [])) place
      ∙ filter_map-append item (range_with_len 0 n) (n ∷ []) ∙ ap (λ xs. listed_to f n ++ xs) (one (item n))

  -- one more address
  pub listed_more : (n : ℕ) → listed_to f (n + 1) ≡ listed_to f n ++ option_to_list (item n)
  listed_more n = let more : n + 1 ≡ suc n = omega arith in ap (listed_to f) more ∙ next n

  -- addresses with nothing
  pub listed_skip : (k n : ℕ) → ((place : ℕ) → place < k → f (n + place) ≡ None) → listed_to f (n + k) ≡ listed_to f n
  listed_skip zero n none = let same : n + 0 ≡ n = omega arith in ap (listed_to f) same
  listed_skip (suc k) n none =
      let more : n + suc k ≡ suc (n + k) = omega arith in
      let last : f (n + k) ≡ None = none k (omega arith) in
      ap (listed_to f) more ∙ next (n + k) ∙ ap (λ o. listed_to f (n + k) ++ option_to_list (option_map (λ x. (n + k, x)) o)) last
      ∙ append-nil (listed_to f (n + k)) ∙ listed_skip k n (λ place l. none place (omega arith))

  pub length_listed_to : (n : ℕ) → length (listed_to f n) ≤ n
  unfolding listed_to
  length_listed_to zero = omega arith
  length_listed_to (suc n) =
      let rest = length_listed_to n in
      let all : length (listed_to f (suc n)) ≡ length (listed_to f n) + length (option_to_list (item n)) =
      ap length (next n) ∙ length-append (listed_to f n) (option_to_list (item n)) in
      let few : length (option_to_list (item n)) ≤ 1 = at_most (item n) in
      omega arith
    where
      at_most : (o : Option (ℕ × X)) → length (option_to_list o) ≤ 1
      at_most (Some x) = omega arith
      at_most None = omega arith

-- functions that give the same have the same list
pub listed_same : {X : Type 0} (f g : ℕ → Option X) (n : ℕ) → ((q : ℕ) → q < n → f q ≡ g q) → listed_to f n ≡ listed_to g n
unfolding listed_to
listed_same f g zero same = refl
listed_same f g (suc n) same =
    next f n ∙ ap (λ xs. xs ++ option_to_list (option_map (λ x. (n, x)) (f n))) (listed_same f g n (λ q l. same q (omega arith)))
    ∙ ap (λ o. listed_to g n ++ option_to_list (option_map (λ x. (n, x)) o)) (same n (omega arith)) ∙ sym (next g n)

pub none_listed : {X : Type 0} (f : ℕ → Option X) → [] ≡ listed_to f 0
unfolding listed_to
none_listed f = refl

pub all_listed : {X : Type 0} (f : ℕ → Option X) → listed_to f 1048576 ≡ listed f
unfolding listed listed_to
all_listed f = refl
