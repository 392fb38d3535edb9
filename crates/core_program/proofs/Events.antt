-- The events of a run, without their marks.
use Rattle.std.proofs.Common.{◌++◌, ◌+◌, ◌∙◌, ◌∷◌, ◌≡◌, [], ℕ, List, ap, length, length-append, map, refl}
use Rattle.std.proofs.lemmas.List.{length-map, map-append}
use Rattle.core_program.specs.Run.{Marked, later_by}

abbrev pub unmarked : {E : Type 0} → List (Marked E) → List E
unmarked es = map (λ e. e.event) es

pub later_events : {E : Type 0} (n : ℕ) (es : List (Marked E)) → unmarked (later_by n es) ≡ unmarked es
later_events n [] = refl
later_events n (e ∷ es) = ap (λ l. e.event ∷ l) (later_events n es)

pub events_append : {E : Type 0} (n : ℕ) (ds es : List (Marked E)) → unmarked (ds ++ later_by n es) ≡ unmarked ds ++ unmarked es
events_append n ds es = map-append (λ e. e.event) ds (later_by n es) ∙ ap (λ l. unmarked ds ++ l) (later_events n es)

pub events_length : {E : Type 0} (n : ℕ) (ds es : List (Marked E)) → length (ds ++ later_by n es) ≡ length ds + length es
events_length n ds es = length-append ds (later_by n es) ∙ ap (λ k. length ds + k) (length-map es (λ e. record { mark = n + e.mark; event = e.event }))
