-- One more touch aside leaves the touches of the entries as they are.
use Rattle.std.proofs.Common.{◌++◌, ◌∷◌, ◌≡◌, [], All, List, arith, length, map, refl, suc}
use Rattle.std.proofs.Math.ListN.{get_or-append}
use Rattle.cell_value.specs.declared.entries.Touch.{Touch}
use Rattle.effect_log.specs.{Entries.IsWithin, Entries.touch_of, declared.log.Entry.Entry, declared.log.Entry.TheVariants.Aside}

touch_stays : (aside : List Touch) (more : Touch) (entry : Entry) → IsWithin (length aside) entry → touch_of (aside ++ more ∷ []) entry ≡ touch_of aside entry
touch_stays aside more (Aside place) h = get_or-append aside (more ∷ []) (Touch.Look 0) place h
touch_stays aside more _ h = refl

pub touches_stay : (aside : List Touch) (more : Touch) (entries : List Entry) → All (IsWithin (length aside)) entries
    → map (touch_of (aside ++ more ∷ [])) entries ≡ map (touch_of aside) entries
touches_stay aside more [] h = refl
touches_stay aside more (entry ∷ entries) h =
    let first = touch_stays aside more entry (h 0 entry (omega arith)) in
    let others = touches_stay aside more entries (λ k d l. h (suc k) d (omega arith)) in
    cc
