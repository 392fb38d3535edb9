-- The regions that may define a name, or declare a label.
use Rattle.std.proofs.Common.{◌++◌, ◌<◌, ◌||◌, ◌∙◌, ◌∷◌, ◌≡◌, [], ℕ, Bool, List, None, Option, Some, ap, arith, cond, false, get_or, length, map, nat_eq, refl}
use Rattle.std.proofs.Common.{set, subst, suc, sym, true, zero}
use Rattle.std.{proofs.lemmas.Bool.Decides.nat_tests, proofs.lemmas.List.map-set, specs.Global.Vec, specs.Map.lookup}
use Rattle.check_steps.proofs.Maps.{region_of}
use Rattle.check_steps.specs.{Around.is_among, Regions.RegionRows, Regions.fresh_region, Regions.region_at, declared.regions.Region.Region}
use Rattle.check_steps.specs.Homes.{AreHomes, homes_of, regions_of, rows_of}

-- ---- the lists of regions

or-second : (a b : Bool) → b ≡ true → a || b ≡ true
or-second true b e = refl
or-second false b e = e

pub among-last : (rs : List ℕ) (r : ℕ) → is_among (rs ++ r ∷ []) r ≡ true
among-last [] r = let same : nat_eq r r ≡ true = grind (arith, nat_tests) in ap (λ b. b || false) same
among-last (x ∷ xs) r = or-second (nat_eq x r) (is_among (xs ++ r ∷ []) r) (among-last xs r)

or-on : (a b c : Bool) → (b ≡ true → c ≡ true) → a || b ≡ true → a || c ≡ true
or-on true b c on e = refl
or-on false b c on e = on e

pub among-more : (rs : List ℕ) (y r : ℕ) → is_among rs r ≡ true → is_among (rs ++ y ∷ []) r ≡ true
among-more [] y r e = cc
among-more (x ∷ xs) y r e = or-on (nat_eq x r) (is_among xs r) (is_among (xs ++ y ∷ []) r) (λ old. among-more xs y r old) e

-- a list that has what it had
pub homes-set : (old new : List (ℕ × Vec ℕ)) (k : ℕ) (w : Vec ℕ) → ((n : ℕ) → lookup (nat_eq n) new ≡ cond (nat_eq k n) (Some w) (lookup (nat_eq n) old))
    → ((r : ℕ) → is_among (homes_of old k) r ≡ true → is_among w.items r ≡ true)
    → (n r : ℕ) → is_among (homes_of old n) r ≡ true → is_among (homes_of new n) r ≡ true
homes-set old new k w written more n r e = by (nat_eq k n) refl
  where
    by : (b : Bool) → nat_eq k n ≡ b → is_among (homes_of new n) r ≡ true
    by false b =
        ap (λ (o : Option (Vec ℕ)). is_among (regions_of o) r) (written n ∙ ap (λ c. cond c (Some w) (lookup (nat_eq n) old)) b) ∙ e
    by true b =
        let same : n ≡ k = grind (arith, nat_tests, b) in
        ap (λ (o : Option (Vec ℕ)). is_among (regions_of o) r) (written n ∙ ap (λ c. cond c (Some w) (lookup (nat_eq n) old)) b)
        ∙ more r (ap (λ m. is_among (homes_of old m) r) (sym same) ∙ e)

-- ---- regions and their homes

fewer : (a b : Bool) → (a ≡ true → b ≡ true) → b ≡ false → a ≡ false
fewer false b more e = refl
fewer true b more e = let yes : b ≡ true = more refl in cc

pub homes-none : {X : Type 0} (rows : RegionRows → List (ℕ × X)) (homes : List (ℕ × Vec ℕ)) → rows (fresh_region 0 0) ≡ [] → AreHomes rows [] homes
unfolding AreHomes
homes-none rows homes e = λ n r none. ap (lookup (nat_eq n)) e

-- homes of more regions
pub homes-more : {X : Type 0} (rows : RegionRows → List (ℕ × X)) (regions : List RegionRows) (homes after : List (ℕ × Vec ℕ))
    → AreHomes rows regions homes → ((n r : ℕ) → is_among (homes_of homes n) r ≡ true → is_among (homes_of after n) r ≡ true) → AreHomes rows regions after
unfolding AreHomes
homes-more rows regions homes after are more = λ n r none. are n r (fewer (is_among (homes_of homes n) r) (is_among (homes_of after n) r) (more n r) none)

region-pushed : (regions : List RegionRows) (x : RegionRows) (r : ℕ) (P : RegionRows → Type 0) → P (region_at regions r) → P x
    → P (region_at (regions ++ x ∷ []) r)
region-pushed [] x zero P old new = new
region-pushed [] x (suc r) P old new = old
region-pushed (y ∷ ys) x zero P old new = old
region-pushed (y ∷ ys) x (suc r) P old new = region-pushed ys x r P old new

-- one more region that has no rows
pub homes-region : {X : Type 0} (rows : RegionRows → List (ℕ × X)) (regions : List RegionRows) (homes : List (ℕ × Vec ℕ)) (x : RegionRows) → rows x ≡ []
    → AreHomes rows regions homes → AreHomes rows (regions ++ x ∷ []) homes
unfolding AreHomes
homes-region rows regions homes x e are =
    λ n r none. region-pushed regions x r (λ y. lookup (nat_eq n) (rows y) ≡ None) (are n r none) (ap (lookup (nat_eq n)) e)

region-changed : (regions : List RegionRows) (i : ℕ) (x : RegionRows) (r : ℕ) (P : RegionRows → Type 0) → P (region_at regions r) → (r ≡ i → P x)
    → P (region_at (set regions i x) r)
region-changed [] zero x r P old new = old
region-changed [] (suc i) x r P old new = old
region-changed (y ∷ ys) zero x zero P old new = new refl
region-changed (y ∷ ys) zero x (suc r) P old new = old
region-changed (y ∷ ys) (suc i) x zero P old new = old
region-changed (y ∷ ys) (suc i) x (suc r) P old new = region-changed ys i x r P old (λ e. new (ap suc e))

-- a region that keeps its rows
pub homes-kept : {X : Type 0} (rows : RegionRows → List (ℕ × X)) (regions : List RegionRows) (homes : List (ℕ × Vec ℕ)) (i : ℕ) (x : RegionRows)
    → rows x ≡ rows (region_at regions i) → AreHomes rows regions homes → AreHomes rows (set regions i x) homes
unfolding AreHomes
homes-kept rows regions homes i x e are = λ n r none.
    region-changed regions i x r (λ y. lookup (nat_eq n) (rows y) ≡ None) (are n r none)
    (λ same. ap (lookup (nat_eq n)) e ∙ ap (λ j. lookup (nat_eq n) (rows (region_at regions j))) (sym same) ∙ are n r none)

lookup-last : {X : Type 0} (n m : ℕ) (es : List (ℕ × X)) (x : X) → nat_eq n m ≡ false → lookup (nat_eq n) es ≡ None
    → lookup (nat_eq n) (es ++ (m, x) ∷ []) ≡ None
lookup-last {X = X} n m [] x other none = ap (λ b. cond b (Some x) None) other
lookup-last {X = X} n m (e ∷ es) x other none = by (nat_eq n e.0) (lookup (nat_eq n) es) (lookup (nat_eq n) (es ++ (m, x) ∷ [])) e.1
    (λ old. lookup-last n m es x other old) none
  where
    by : (b : Bool) (o p : Option X) (y : X) → (o ≡ None → p ≡ None) → cond b (Some y) o ≡ None → cond b (Some y) p ≡ None
    by true o p y on old = old
    by false o p y on old = on old

-- one more row of a region that is among the homes of its number
pub homes-row : {X : Type 0} (rows : RegionRows → List (ℕ × X)) (regions : List RegionRows) (homes : List (ℕ × Vec ℕ)) (i m : ℕ) (d : X) (x : RegionRows)
    → rows x ≡ rows (region_at regions i) ++ (m, d) ∷ [] → is_among (homes_of homes m) i ≡ true → AreHomes rows regions homes
    → AreHomes rows (set regions i x) homes
unfolding AreHomes
homes-row rows regions homes i m d x e among are = λ n r none.
    region-changed regions i x r (λ y. lookup (nat_eq n) (rows y) ≡ None) (are n r none)
    (λ same.
    let at : is_among (homes_of homes n) i ≡ false = ap (λ j. is_among (homes_of homes n) j) (sym same) ∙ none in
    ap (lookup (nat_eq n)) e ∙ lookup-last n m (rows (region_at regions i)) d (apart n at (nat_eq n m) refl) (are n i at))
  where
    apart : (n : ℕ) → is_among (homes_of homes n) i ≡ false → (b : Bool) → nat_eq n m ≡ b → nat_eq n m ≡ false
    apart n at false is = is
    apart n at true is =
        let same : n ≡ m = grind (arith, nat_tests, is) in
        let yes : is_among (homes_of homes n) i ≡ true = ap (λ k. is_among (homes_of homes k) i) same ∙ among in cc

-- ---- the same of regions that are kept in maps

pub changed-row : {X : Type 0} (rows : RegionRows → List (ℕ × X)) (maps : List Region) (homes after : List (ℕ × Vec ℕ)) (i key : ℕ) (m n : Region) (d : X)
    → i < length maps → m ≡ get_or maps i m → rows (rows_of n) ≡ rows (rows_of m) ++ (key, d) ∷ []
    → ((k r : ℕ) → is_among (homes_of homes k) r ≡ true → is_among (homes_of after k) r ≡ true) → is_among (homes_of after key) i ≡ true
    → AreHomes rows (map rows_of maps) homes → AreHomes rows (map rows_of (set maps i n)) after
changed-row rows maps homes after i key m n d below is made more among are =
    subst (λ (rs : List RegionRows). AreHomes rows rs after) (sym (map-set rows_of maps i n))
    (homes-row rows (map rows_of maps) after i key d (rows_of n)
    (made ∙ ap (λ (r : RegionRows). rows r ++ (key, d) ∷ []) (sym (region_of rows_of maps i m below is))) among
    (homes-more rows (map rows_of maps) homes after are more))

pub changed-same : {X : Type 0} (rows : RegionRows → List (ℕ × X)) (maps : List Region) (homes after : List (ℕ × Vec ℕ)) (i : ℕ) (m n : Region)
    → i < length maps → m ≡ get_or maps i m → rows (rows_of n) ≡ rows (rows_of m)
    → ((k r : ℕ) → is_among (homes_of homes k) r ≡ true → is_among (homes_of after k) r ≡ true)
    → AreHomes rows (map rows_of maps) homes → AreHomes rows (map rows_of (set maps i n)) after
changed-same rows maps homes after i m n below is made more are =
    subst (λ (rs : List RegionRows). AreHomes rows rs after) (sym (map-set rows_of maps i n))
    (homes-kept rows (map rows_of maps) after i (rows_of n)
    (made ∙ ap (λ (r : RegionRows). rows r) (sym (region_of rows_of maps i m below is))) (homes-more rows (map rows_of maps) homes after are more))
