-- The first region that begins at a token.
use Rattle.std.proofs.Common.{if◌then◌else◌, ◌+◌, ◌<◌, ◌∙◌, ◌∷◌, ◌≡◌, ◌≤◌, [], ℕ, Bool, List, None, Option, Some, ap, arith, cond, false, get_or, is_some}
use Rattle.std.proofs.Common.{length, nat_eq, nat_lt, refl, subst, suc, sym, true, zero}
use Rattle.std.proofs.lemmas.{Bool.Decides.nat_tests, List.Sums.position_or_len_is, Option.unwrap_or-slice_get}
use Rattle.std.specs.List.{position_or_len}
use borrow.Author.Count.{below_more}
use Rattle.check_steps.specs.Regions.{RegionRows, fresh_region, region_at}
use Rattle.decl_checker.specs.Regions.{HasRegions, after_outermost, begins_at, region_beginning}

-- No region from 1 to the one before n begins there.
pub record NoneBefore (regions : List RegionRows) (token n : ℕ) : Type 0 where
  pub none : (k : ℕ) → k < n → 0 < k → nat_eq token (region_at regions k).token ≡ false

read : (x : RegionRows) (rs : List RegionRows) (k : ℕ) → region_at (x ∷ rs) (suc k) ≡ get_or rs k (fresh_region 0 0)
read x rs k = unwrap_or-slice_get (x ∷ rs) (suc k) (fresh_region 0 0)

place : (x : RegionRows) (rs : List RegionRows) (token m : ℕ) → m ≤ length rs → NoneBefore (x ∷ rs) token (suc m)
    → (m < length rs → nat_eq token (region_at (x ∷ rs) (suc m)).token ≡ true) → position_or_len (begins_at token) rs ≡ m
place x rs token m inside before at = position_or_len_is (begins_at token) rs m (fresh_region 0 0) inside
    (λ k h. ap (begins_at token) (sym (read x rs k)) ∙ before.none (suc k) (omega arith) (omega arith))
    (λ h. ap (begins_at token) (sym (read x rs m)) ∙ at h)

-- what the place of the first says of its number
number : Bool → ℕ → Option ℕ
number b m = after_outermost (if b then Some m else None)

is_below : (m n : ℕ) → m < n → nat_lt m n ≡ true
is_below m n h = grind (arith, nat_tests)

is_past : (n : ℕ) → nat_lt n n ≡ false
is_past n = grind (arith, nat_tests)

pub region_found : (regions : List RegionRows) (token n : ℕ) → 0 < n → n < length regions → NoneBefore regions token n
    → nat_eq token (region_at regions n).token ≡ true → region_beginning regions token ≡ Some n
unfolding number
region_found [] token n above below before at = absurd (omega arith)
region_found (x ∷ rs) token zero above below before at = absurd (omega arith)
region_found (x ∷ rs) token (suc m) above below before at =
    let e = place x rs token m (omega arith) before (λ h. at) in
    ap (λ (j : ℕ). number (nat_lt j (length rs)) j) e ∙ ap (λ (b : Bool). number b m) (is_below m (length rs) (omega arith))

pub region_missing : (regions : List RegionRows) (token n : ℕ) → length regions ≤ n → NoneBefore regions token n → region_beginning regions token ≡ None
unfolding number
region_missing [] token n past before = refl
region_missing (x ∷ rs) token n past before =
    let first : NoneBefore (x ∷ rs) token (suc (length rs)) = record { none = λ k h a. before.none k (omega arith) a } in
    let e = place x rs token (length rs) (omega arith) first (λ h. absurd (omega arith)) in
    ap (λ (j : ℕ). number (nat_lt j (length rs)) j) e ∙ ap (λ (b : Bool). number b (length rs)) (is_past (length rs))

pub none_first : (regions : List RegionRows) (token : ℕ) → NoneBefore regions token 1
none_first regions token = record { none = λ k h a. absurd (omega arith) }

pub none_more : (regions : List RegionRows) (token n : ℕ) → NoneBefore regions token n → nat_eq token (region_at regions n).token ≡ false
    → NoneBefore regions token (n + 1)
none_more regions token n before here = record {
  none = below_more (λ k. 0 < k → nat_eq token (region_at regions k).token ≡ false) n before.none (λ a. here);
}

-- what a function tells of the regions before number n: the first that begins at a token, or that none does
abbrev pub Told : List RegionRows → ℕ → ℕ → Option ℕ → Type 0
Told regions n token None = NoneBefore regions token n
Told regions n token (Some region) = region_beginning regions token ≡ Some region

pub record TellsBefore (regions : List RegionRows) (n : ℕ) (starts : ℕ → Option ℕ) : Type 0 where
  pub told : (token : ℕ) → Told regions n token (starts token)

sym_test : (a b : ℕ) (x : Bool) → nat_eq a b ≡ x → nat_eq b a ≡ x
sym_test a b true e = grind (arith, nat_tests)
sym_test a b false e = grind (arith, nat_tests)

same_number : (a b : ℕ) → nat_eq a b ≡ true → a ≡ b
same_number a b e = grind (arith, nat_tests)

pub tells_first : (regions : List RegionRows) (starts : ℕ → Option ℕ) → ((token : ℕ) → starts token ≡ None) → TellsBefore regions 1 starts
tells_first regions starts none = record { told = λ token. subst (Told regions 1 token) (sym (none token)) (none_first regions token) }

-- one region more, which begins at a token that one before it begins at
known : (regions : List RegionRows) (n : ℕ) (starts : ℕ → Option ℕ) → is_some (starts (region_at regions n).token) ≡ true
    → (token : ℕ) (o : Option ℕ) → starts token ≡ o → Told regions n token o → Told regions (n + 1) token o
known regions n starts is token (Some region) e told = told
known regions n starts is token None e told = none_more regions token n told (apart (nat_eq token (region_at regions n).token) refl)
  where
    apart : (b : Bool) → nat_eq token (region_at regions n).token ≡ b → b ≡ false
    apart false h = refl
    apart true h = sym is ∙ ap is_some (ap starts (sym (same_number token (region_at regions n).token h)) ∙ e)

pub tells_known : (regions : List RegionRows) (n : ℕ) (starts : ℕ → Option ℕ) → TellsBefore regions n starts
    → is_some (starts (region_at regions n).token) ≡ true → TellsBefore regions (n + 1) starts
tells_known regions n starts tells is = record { told = λ token. known regions n starts is token (starts token) refl (tells.told token) }

-- one region more, which begins at another token than those before it
added : (regions : List RegionRows) (n : ℕ) (starts later : ℕ → Option ℕ) → TellsBefore regions n starts → 0 < n → n < length regions
    → starts (region_at regions n).token ≡ None
    → (token : ℕ) (b : Bool) → nat_eq token (region_at regions n).token ≡ b → later token ≡ cond b (Some n) (starts token)
    → Told regions (n + 1) token (later token)
added regions n starts later tells above below none token true h e =
    let before : NoneBefore regions token n = subst (Told regions n token) (ap starts (same_number token (region_at regions n).token h) ∙ none)
    (tells.told token) in
    subst (Told regions (n + 1) token) (sym e) (region_found regions token n above below before h)
added regions n starts later tells above below none token false h e = subst (Told regions (n + 1) token) (sym e) (more (starts token) (tells.told token))
  where
    more : (o : Option ℕ) → Told regions n token o → Told regions (n + 1) token o
    more None told = none_more regions token n told h
    more (Some region) told = told

is_none : {X : Type 0} (o : Option X) → is_some o ≡ false → o ≡ None
is_none None e = refl
is_none (Some x) e = absurd (let y : ⊥ = cc in y)

pub tells_new : (regions : List RegionRows) (n : ℕ) (starts later : ℕ → Option ℕ) → TellsBefore regions n starts → 0 < n → n < length regions
    → is_some (starts (region_at regions n).token) ≡ false
    → ((token : ℕ) → later token ≡ cond (nat_eq (region_at regions n).token token) (Some n) (starts token)) → TellsBefore regions (n + 1) later
tells_new regions n starts later tells above below none updates = record {
  told = λ token. added regions n starts later tells above below (is_none (starts (region_at regions n).token) none) token
      (nat_eq (region_at regions n).token token) (sym_test (region_at regions n).token token (nat_eq (region_at regions n).token token) refl) (updates token);
}

pub tells_all : (regions : List RegionRows) (n : ℕ) (starts : ℕ → Option ℕ) → TellsBefore regions n starts → length regions ≤ n → HasRegions regions starts
tells_all regions n starts tells past = record { each = λ token. all token (starts token) refl (tells.told token) }
  where
    all : (token : ℕ) (o : Option ℕ) → starts token ≡ o → Told regions n token o → starts token ≡ region_beginning regions token
    all token None e told = e ∙ sym (region_missing regions token n past told)
    all token (Some region) e told = e ∙ sym told

-- the same, by the token at which the region begins
pub known_at : (regions : List RegionRows) (n begin : ℕ) (starts : ℕ → Option ℕ) → begin ≡ (region_at regions n).token → TellsBefore regions n starts
    → is_some (starts begin) ≡ true → TellsBefore regions (n + 1) starts
known_at regions n begin starts e tells is = tells_known regions n starts tells (subst (λ t. is_some (starts t) ≡ true) e is)

pub new_at : (regions : List RegionRows) (n begin : ℕ) (starts later : ℕ → Option ℕ) → begin ≡ (region_at regions n).token → TellsBefore regions n starts
    → 0 < n → n < length regions → is_some (starts begin) ≡ false → ((token : ℕ) → later token ≡ cond (nat_eq begin token) (Some n) (starts token))
    → TellsBefore regions (n + 1) later
new_at regions n begin starts later e tells above below none updates =
    tells_new regions n starts later tells above below (subst (λ t. is_some (starts t) ≡ false) e none)
    (subst (λ t. (token : ℕ) → later token ≡ cond (nat_eq t token) (Some n) (starts token)) e updates)
