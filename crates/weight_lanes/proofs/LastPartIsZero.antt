-- Flags of which a last part has been found to be 0.
use Rattle.std.proofs.Common.{◌↔◌, ◌∙◌, ◌≡◌, ◌≢◌, ◌≤◌, ℕ, ⊎_elim, All, IfSome, IsNone, List, None, Option, Some, arith, get_or, length, refl, suc, sym, take}
use Rattle.std.proofs.Common.{zero}
use Rattle.std.proofs.lemmas.{Bool.cases_lt, List.get_or-take, List.get_or_default, List.length-take-le, List.Elements.All-take}
use Rattle.weight_lanes.specs.{Lanes.NoneIn, Places.IsSet}

zero_unless : (x : ℕ) → ¬ (x ≢ 0) → x ≡ 0
zero_unless zero h = refl
zero_unless (suc x) h = absurd (h (λ e. omega arith))

-- the flags from `end` on are 0
abbrev pub ClearFrom : List ℕ → ℕ → Type 0
ClearFrom flags end = NoneIn (λ place. get_or flags place 0 ≢ 0) end (length flags)

all_clear : (flags : List ℕ) (end : ℕ) → end ≤ length flags → ClearFrom flags end
    → All (λ flag. flag ≡ 0) (take end flags) → All (λ flag. flag ≡ 0) flags
all_clear flags end within clear front = λ place d inside.
    ⊎_elim (λ l. sym (get_or-take end flags place d l) ∙ front place d (omega (arith, length-take-le end flags within)))
    (λ ge. get_or_default flags place d 0 inside ∙ zero_unless _ (clear.none place ge inside)) (cases_lt place end)

pub none_set : (flags : List ℕ) (end : ℕ) (r : Option ℕ) → end ≤ length flags → ClearFrom flags end
    → (IsNone r ↔ All (λ flag. flag ≡ 0) (take end flags)) → (IsNone r ↔ All (λ flag. flag ≡ 0) flags)
none_set flags end r within clear front =
    (λ none. all_clear flags end within clear (front.0 none), λ all. front.1 (All-take (λ flag. flag ≡ 0) end flags all))

pub greatest_set : (flags : List ℕ) (end : ℕ) (r : Option ℕ) → end ≤ length flags → ClearFrom flags end
    → IfSome r (λ place. (other : ℕ) → IsSet (take end flags) other → other ≤ place)
    → IfSome r (λ place. (other : ℕ) → IsSet flags other → other ≤ place)
greatest_set flags end None within clear front = tt
greatest_set flags end (Some place) within clear front = λ other set.
    ⊎_elim (λ l. front other (record {
      inside = omega (arith, length-take-le end flags within);
      nonzero = λ e. set.nonzero (sym (get_or-take end flags other 0 l) ∙ e);
    })) (λ ge. absurd (clear.none other ge set.inside set.nonzero)) (cases_lt other end)
