-- Which suspect to ask about: divide and query (Shapiro 1983), with this project's own measure, the number of suspects
-- that the worse of the answers `right` and `wrong` leaves.
use Rattle.std.specs.Prelude.{◌-◌, ℕ, Bool, List, Option, count_by, find, length, max, nat_le}
use Rattle.std.specs.List.{list_all}
use Rattle.subtree_weights.specs.Searched.{is_in}

-- how many of the suspects stand in the call's subtree
unfoldable pub weight_of : List ℕ → List ℕ → ℕ → ℕ
weight_of last suspects call = count_by (is_in last call) suspects

-- `wrong` on the call leaves the other suspects of its subtree, `right` leaves those outside it; the greater counts
abbrev pub left_of : List ℕ → List ℕ → ℕ → ℕ
left_of last suspects call = max (weight_of last suspects call - 1) (length suspects - weight_of last suspects call)

-- whether no suspect leaves fewer than the call
abbrev pub leaves_least : List ℕ → List ℕ → ℕ → Bool
leaves_least last suspects call =
    list_all (λ other. nat_le (left_of last suspects call) (left_of last suspects other)) suspects

-- the first suspect of which that holds
unfoldable pub question_of : List ℕ → List ℕ → Option ℕ
question_of last suspects = find (leaves_least last suspects) suspects
