-- Lemmas on the map of what a function gives at each address.
use Rattle.std.proofs.Common.{◌<◌, ◌==◌, ◌∙◌, ◌≡◌, ◌≢◌, ◌≤◌, ℕ, None, Option, Some, ap, arith, cond, false, inl, inr, is_some, refl, suc, sym, zero}
use Rattle.std.proofs.lemmas.Bool.{cases_lt, Decides.eqb_tells, Decides.nat_tests}
use Rattle.std.specs.{Cmp.nat_cmp_total, Cmp.unsigned_tied, Map.lookup, Ordering.nat_cmp}
use Rattle.std.specs.BTreeMap as tree
use Rattle.std.specs.FinMap.{FinMap, empty, get, get-empty, get-insert, get-remove, insert, nat_cmp-IsAntisymmetric, remove, same_map}
use Rattle.persistent_store.proofs.NodeLemmas.{chosen_false, chosen_true}
use Rattle.persistent_store.specs.{Addresses.map_below, Addresses.map_of, Addresses.with_cell, Addresses.with_value_at, Nodes.ChangesAt}

pub get-insert_nat : {V : Type 0} (m : FinMap nat_cmp V) (k q : ℕ) (v : V) → get (insert m k v) q ≡ cond (q == k) (Some v) (get m q)
get-insert_nat m k q v = get-insert nat_cmp_total m k v q ∙ ap (λ b. cond b (Some v) (get m q)) (unsigned_tied q k)

pub get-remove_nat : {V : Type 0} (m : FinMap nat_cmp V) (k q : ℕ) → get (remove m k) q ≡ cond (q == k) None (get m q)
get-remove_nat m k q = get-remove nat_cmp_total m k q ∙ ap (λ b. cond b None (get m q)) (unsigned_tied q k)

-- an entry at a key that the map lacks
get-with_entry_same : {V : Type 0} (m : FinMap nat_cmp V) (k q : ℕ) (o : Option V) → q ≡ k → get m k ≡ None → get (with_value_at m k o) q ≡ o
get-with_entry_same m k q (Some v) same none =
    get-insert_nat m k q v ∙ chosen_true (q == k) (Some v) (get m q) (grind (arith, nat_tests))
get-with_entry_same m k q None same none = ap (get m) same ∙ none

get-with_entry_other : {V : Type 0} (m : FinMap nat_cmp V) (k q : ℕ) (o : Option V) → q ≢ k → get (with_value_at m k o) q ≡ get m q
get-with_entry_other m k q (Some v) other =
    get-insert_nat m k q v ∙ chosen_false (q == k) (Some v) (get m q) (grind (arith, nat_tests))
get-with_entry_other m k q None other = refl

pub get-map_below_past : {V : Type 0} (n : ℕ) (f : ℕ → Option V) (q : ℕ) → n ≤ q → get (map_below n f) q ≡ None
unfolding map_below
get-map_below_past zero f q past = get-empty nat_cmp q
get-map_below_past (suc n) f q past =
    let other : q ≢ n = omega arith in
    let further : n ≤ q = omega arith in
    get-with_entry_other (map_below n f) n q (f n) other ∙ get-map_below_past n f q further

pub get-map_below : {V : Type 0} (n : ℕ) (f : ℕ → Option V) (q : ℕ) → q < n → get (map_below n f) q ≡ f q
unfolding map_below
get-map_below zero f q inside = absurd (omega arith)
get-map_below (suc n) f q inside = elim (cases_lt q n) [
  | inl h ↦
      let other : q ≢ n = omega arith in
      get-with_entry_other (map_below n f) n q (f n) other ∙ get-map_below n f q h
  | inr h ↦
      let same : q ≡ n = omega arith in
      let least : n ≤ n = omega arith in
      get-with_entry_same (map_below n f) n q (f n) same (get-map_below_past n f n least) ∙ ap f (sym same)
]

-- a map of all addresses, as the map of two functions that agree below a bound
inside_or_past : {V : Type 0} (n : ℕ) (f : ℕ → Option V) (m : FinMap nat_cmp V) → ((q : ℕ) → q < n → get m q ≡ f q) → ((q : ℕ) → n ≤ q → get m q ≡ None)
    → map_below n f ≡ m
inside_or_past n f m inside past = same_map nat_cmp_total nat_cmp-IsAntisymmetric (map_below n f) m (λ q. elim (cases_lt q n) [
  | inl h ↦ get-map_below n f q h ∙ sym (inside q h)
  | inr h ↦ get-map_below_past n f q h ∙ sym (past q h)
])

not_past : (n q addr : ℕ) → addr < n → n ≤ q → (q == addr) ≡ false
not_past n q addr inside past = grind (arith, nat_tests)

map_below-insert : {V : Type 0} (n : ℕ) (old new : ℕ → Option V) (addr : ℕ) (value : V) → addr < n → ChangesAt old new addr (Some value)
    → map_below n new ≡ insert (map_below n old) addr value
map_below-insert n old new addr value inside changes = inside_or_past n new (insert (map_below n old) addr value)
    (λ q h. get-insert_nat (map_below n old) addr q value ∙ ap (cond (q == addr) (Some value)) (get-map_below n old q h) ∙ sym (changes.at q))
    (λ q h. get-insert_nat (map_below n old) addr q value ∙ chosen_false (q == addr) _ _ (not_past n q addr inside h) ∙ get-map_below_past n old q h)

map_below-remove : {V : Type 0} (n : ℕ) (old new : ℕ → Option V) (addr : ℕ) → addr < n → ChangesAt old new addr None
    → map_below n new ≡ remove (map_below n old) addr
map_below-remove n old new addr inside changes = inside_or_past n new (remove (map_below n old) addr)
    (λ q h. get-remove_nat (map_below n old) addr q ∙ ap (cond (q == addr) None) (get-map_below n old q h) ∙ sym (changes.at q))
    (λ q h. get-remove_nat (map_below n old) addr q ∙ chosen_false (q == addr) _ _ (not_past n q addr inside h) ∙ get-map_below_past n old q h)

-- what is said above, of the addresses
pub get-map_of : {V : Type 0} (f : ℕ → Option V) (q : ℕ) → q < 1048576 → get (map_of f) q ≡ f q
unfolding map_of
get-map_of f q inside = get-map_below 1048576 f q inside

pub get-map_of_past : {V : Type 0} (f : ℕ → Option V) (q : ℕ) → 1048576 ≤ q → get (map_of f) q ≡ None
unfolding map_of
get-map_of_past f q past = get-map_below_past 1048576 f q past

pub map_of-insert : {V : Type 0} (old new : ℕ → Option V) (addr : ℕ) (value : V) → addr < 1048576 → ChangesAt old new addr (Some value)
    → map_of new ≡ insert (map_of old) addr value
unfolding map_of
map_of-insert old new addr value inside changes = map_below-insert 1048576 old new addr value inside changes

pub map_of-remove : {V : Type 0} (old new : ℕ → Option V) (addr : ℕ) → addr < 1048576 → ChangesAt old new addr None → map_of new ≡ remove (map_of old) addr
unfolding map_of
map_of-remove old new addr inside changes = map_below-remove 1048576 old new addr inside changes

pub map_of-with_cell : {V : Type 0} (old new : ℕ → Option V) (addr : ℕ) (cell : Option V) → addr < 1048576 → ChangesAt old new addr cell
    → map_of new ≡ with_cell (map_of old) addr cell
map_of-with_cell old new addr (Some value) inside changes = map_of-insert old new addr value inside changes
map_of-with_cell old new addr None inside changes = map_of-remove old new addr inside changes

pub map_of-empty : {V : Type 0} (f : ℕ → Option V) → ((q : ℕ) → f q ≡ None) → map_of f ≡ empty
unfolding map_of
map_of-empty f none = inside_or_past 1048576 f empty (λ q h. get-empty nat_cmp q ∙ sym (none q)) (λ q h. get-empty nat_cmp q)

-- to remove what is not there leaves the map as it is
pub remove_absent : {V : Type 0} (m : FinMap nat_cmp V) (addr : ℕ) → get m addr ≡ None → remove m addr ≡ m
remove_absent m addr none = same_map nat_cmp_total nat_cmp-IsAntisymmetric (remove m addr) m (λ q. elim (eqb_tells q addr) [
  | inl h ↦ get-remove_nat m addr q ∙ chosen_true (q == addr) _ _ h.0 ∙ sym (ap (get m) h.1 ∙ none)
  | inr h ↦ get-remove_nat m addr q ∙ chosen_false (q == addr) _ _ h.0
])

pub none_from_is_some : {V : Type 0} (o : Option V) → is_some o ≡ false → o ≡ None
none_from_is_some None e = refl
none_from_is_some (Some v) e = cc

-- ---- the whole map

pub tree_get-empty : {V : Type 0} (m : tree.BTreeMap ℕ V) (q : ℕ) → tree.IsEmpty m → tree.get nat_cmp m q ≡ None
tree_get-empty m q e = ap (lookup (tree.is_at (nat_cmp q))) e

tied : (k q : ℕ) → tree.is_at (nat_cmp k) q ≡ (q == k)
tied k q = unsigned_tied k q ∙ grind (arith, nat_tests)

-- one key of a tree is changed
pub tree_changes : {V : Type 0} (m n : tree.BTreeMap ℕ V) (k : ℕ) (w : Option V) → tree.Updates nat_cmp m n k w
    → ChangesAt (tree.get nat_cmp m) (tree.get nat_cmp n) k w
tree_changes m n k w updates = record { at = λ q. updates.0 q ∙ ap (λ b. cond b w (tree.get nat_cmp m q)) (tied k q) }
