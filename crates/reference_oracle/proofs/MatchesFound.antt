-- The variables of program blocks are found row by row, and of each its match.
use Rattle.std.proofs.Common.{◌++◌, ◌+◌, ◌-◌, ◌<◌, ◌∙◌, ◌∷◌, ◌≡◌, [], ℕ, List, None, Option, Some, ap, append_assoc, arith, drop, filter_map, length}
use Rattle.std.{proofs.Common.option_to_list, proofs.Common.slice_get, proofs.Common.suc, proofs.Common.sym, specs.List.cons_option, specs.List.range_with_len}
use Rattle.core_program.specs.ProgramRows.{ProgramRows, row_at}
use Rattle.reference_oracle.proofs.RecordsCompared.{drop_at}
use Rattle.reference_oracle.specs.{Shapes.Programs, declared.matches.BlockVariable.BlockVariable, declared.matches.Match.Match}
use Rattle.reference_oracle.specs.Matches.{block_variable_in, block_variables, match_with, matches, namesake}

-- ---- variables

pub variables_start : (p : ProgramRows) (found : List BlockVariable) → found ≡ []
    → found ++ filter_map (λ token. block_variable_in token (row_at p token)) (range_with_len 0 (length p.rows - 0)) ≡ block_variables p
unfolding block_variables
variables_start p found none =
    let all : length p.rows - 0 ≡ length p.rows = omega arith in
    λ i. none i ++ filter_map (λ token. block_variable_in token (row_at p token)) (range_with_len 0 (all i))

put_in_front : {B : Type 0} (o : Option B) (xs ys : List B) → (xs ++ option_to_list o) ++ ys ≡ xs ++ cons_option o ys
put_in_front None xs ys = append_assoc xs [] ys
put_in_front (Some y) xs ys = append_assoc xs (y ∷ []) ys

-- what comes of one number is put down, if something does
pub one_found : {B : Type 0} (f : ℕ → Option B) (old new all : List B) (k n : ℕ) (o : Option B) → o ≡ f k → new ≡ old ++ option_to_list o → k < n
    → old ++ filter_map f (range_with_len k (n - k)) ≡ all → new ++ filter_map f (range_with_len (k + 1) (n - (k + 1))) ≡ all
one_found f old new all k n o here put less before =
    let rest = filter_map f (range_with_len (k + 1) (n - (k + 1))) in
    let one : n - k ≡ suc (n - (k + 1)) = omega arith in
    ap (λ xs. xs ++ rest) put ∙ put_in_front o old rest ∙ (λ i. old ++ cons_option (here i) rest)
    ∙ ap (λ m. old ++ filter_map f (range_with_len k m)) (sym one) ∙ before

-- ---- matches

pub matches_start : (ps : Programs) (found : List Match) (variables : List BlockVariable) → found ≡ [] → variables ≡ block_variables ps.subject
    → found ++ filter_map (λ v. match_with ps v (namesake ps v)) (drop 0 variables) ≡ matches ps
unfolding block_variables matches
matches_start ps found variables none all = λ i. none i ++ filter_map (λ v. match_with ps v (namesake ps v)) (all i)

-- a variable's match is put down, if it has one
pub one_match : (ps : Programs) (vs : List BlockVariable) (i : ℕ) (v : BlockVariable) (there : slice_get vs i ≡ Some v) (old new : List Match)
    (o : Option Match) → o ≡ match_with ps v (namesake ps v) → new ≡ old ++ option_to_list o
    → old ++ filter_map (λ w. match_with ps w (namesake ps w)) (drop i vs) ≡ matches ps
    → new ++ filter_map (λ w. match_with ps w (namesake ps w)) (drop (i + 1) vs) ≡ matches ps
one_match ps vs i v there old new o here put before =
    let found : BlockVariable → Option Match = λ w. match_with ps w (namesake ps w) in
    let rest = filter_map found (drop (i + 1) vs) in
    ap (λ xs. xs ++ rest) put ∙ put_in_front o old rest ∙ (λ j. old ++ cons_option (here j) rest)
    ∙ sym (ap (λ l. old ++ filter_map found l) (drop_at vs i v there)) ∙ before
