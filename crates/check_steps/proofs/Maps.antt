-- Regions kept in maps.
use Rattle.std.proofs.Common.{◌++◌, ◌<◌, ◌∙◌, ◌∷◌, ◌≡◌, [], ℕ, List, None, ap, arith, get_or, length, map, nat_eq, set, suc, sym, zero}
use Rattle.std.{proofs.lemmas.List.map-set, specs.Map.lookup}
use Rattle.indexmap.{proofs.MapLemmas.absent_from_lookup, proofs.MapLemmas.insert_entry-absent, specs.IndexMap.insert_entry}
use Rattle.check_steps.specs.Regions.{RegionRows, region_at}

pub region_of : {M : Type 0} (e : M → RegionRows) (maps : List M) (r : ℕ) (m : M) → r < length maps → m ≡ get_or maps r m → region_at (map e maps) r ≡ e m
region_of e [] r m below is = absurd (omega arith)
region_of e (x ∷ xs) zero m below is = ap e (sym is)
region_of e (x ∷ xs) (suc r) m below is = region_of e xs r m (omega arith) is

-- what was not there is inserted at the end
pub inserted_last : {X : Type 0} (old new : List (ℕ × X)) (k : ℕ) (x : X) → new ≡ insert_entry nat_eq old k x → lookup (nat_eq k) old ≡ None
    → new ≡ old ++ (k, x) ∷ []
inserted_last old new k x made none = made ∙ insert_entry-absent nat_eq k x old (absent_from_lookup (nat_eq k) old none)

-- one region that was changed
pub regions-changed : {M : Type 0} (e : M → RegionRows) (maps : List M) (r : ℕ) (m n : M) (change : RegionRows → RegionRows)
    → r < length maps → m ≡ get_or maps r m → e n ≡ change (e m)
    → map e (set maps r n) ≡ set (map e maps) r (change (region_at (map e maps) r))
regions-changed e maps r m n change below is changed = map-set e maps r n
    ∙ ap (set (map e maps) r) (changed ∙ ap change (sym (region_of e maps r m below is)))
