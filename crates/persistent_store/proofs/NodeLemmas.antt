-- Lemmas on the nodes of the trie.
use Rattle.std.proofs.Common.{◌%◌, ◌/◌, ◌<◌, ◌==◌, ◌∙◌, ◌∷◌, ◌≡◌, [], ℕ, Bool, Err, IfSome, IsSome, List, None, Ok, OnErr, Option, Result, Some, ap, arith}
use Rattle.std.proofs.Common.{cond, false, get_or, inl, inr, length, refl, replicate, set, subst, suc, sym, true, zero}
use Rattle.std.proofs.lemmas.{Bool.Decides.eqb_tells, Bool.Decides.nat_tests, Nat.div-add-mod', Simd.get_or-zip2}
use Rattle.std.proofs.lemmas.List.{get_or-set_other, get_or-set_same, length-map, map-set, set-get_or}
use Rattle.std.specs.{List.AllZip, declared.rc.Rc.Rc}
use Rattle.cell_value.specs.declared.values.Value.{Value}
use Rattle.persistent_store.specs.{Cells.value_of, Cells.values_of, declared.cells.Cell.Cell}
use Rattle.persistent_store.specs.Nodes.{ChangesAt, Entries, entries_of, found_below, node_entry, node_of}

-- clones of pointers lead where the pointers lead
pub entries_alike : {X Z : Type 0} (there : List Bool) (ps qs : List (Rc X Z)) → AllZip (λ p q. q.value ≡ p.value) ps qs
    → entries_of there qs ≡ entries_of there ps
entries_alike [] ps qs h = refl
entries_alike (b ∷ bs) [] [] h = refl
entries_alike (b ∷ bs) [] (q ∷ qs) h = absurd h
entries_alike (b ∷ bs) (p ∷ ps) [] h = absurd h
entries_alike (true ∷ bs) (p ∷ ps) (q ∷ qs) h = let first = h.0 in let rest = entries_alike bs ps qs h.1 in cc
entries_alike (false ∷ bs) (p ∷ ps) (q ∷ qs) h = let rest = entries_alike bs ps qs h.1 in cc

-- where no flag says that a node is there, none is there
pub entries_none : {X Z : Type 0} (n : ℕ) (ps : List (Rc X Z)) (k : ℕ) → get_or (entries_of (replicate n false) ps) k None ≡ None
entries_none zero ps k = refl
entries_none (suc n) [] k = refl
entries_none (suc n) (p ∷ ps) zero = refl
entries_none (suc n) (p ∷ ps) (suc k) = entries_none n ps k

inside_both : {X Z : Type 0} (there : List Bool) (ps : List (Rc X Z)) (i : ℕ) → i < length there → i < length ps → i < length (entries_of there ps)
inside_both [] ps i flag inside = omega arith
inside_both (a ∷ bs) [] i flag inside = omega arith
inside_both (a ∷ bs) (p ∷ ps) zero flag inside = omega arith
inside_both (a ∷ bs) (p ∷ ps) (suc i) flag inside = let rest = inside_both bs ps i (omega arith) (omega arith) in omega arith

-- a flag and a pointer of a node are written over
pub entries-set : {X Z : Type 0} (there : List Bool) (ps : List (Rc X Z)) (i : ℕ) (b : Bool) (q : Rc X Z)
    → entries_of (set there i b) (set ps i q) ≡ set (entries_of there ps) i (node_of b q)
entries-set [] ps i b q = refl
entries-set (a ∷ bs) [] zero b q = refl
entries-set (a ∷ bs) [] (suc i) b q = refl
entries-set (a ∷ bs) (p ∷ ps) zero b q = refl
entries-set (a ∷ bs) (p ∷ ps) (suc i) b q = ap (λ xs. node_of a p ∷ xs) (entries-set bs ps i b q)

pub chosen_true : {A : Type 0} (b : Bool) (x y : A) → b ≡ true → cond b x y ≡ x
chosen_true b x y e = ap (λ t. cond t x y) e

pub chosen_false : {A : Type 0} (b : Bool) (x y : A) → b ≡ false → cond b x y ≡ y
chosen_false b x y e = ap (λ t. cond t x y) e

get_or-set : {X : Type 0} (xs : List X) (i k : ℕ) (x d : X) → i < length xs → get_or (set xs i x) k d ≡ cond (k == i) x (get_or xs k d)
get_or-set xs i k x d inside = elim (eqb_tells k i) [
  | inl h ↦ ap (λ j. get_or (set xs i x) j d) h.1 ∙ get_or-set_same xs i x d inside ∙ sym (chosen_true (k == i) x (get_or xs k d) h.0)
  | inr h ↦ get_or-set_other xs i k x d h.1 ∙ sym (chosen_false (k == i) x (get_or xs k d) h.0)
]

-- one entry of a node is written over
pub entry_at-set : {X : Type 0} (xs ys : Entries X) (old : Option (Entries X)) (place : ℕ) (entry : Option X) → place < length xs
    → ((k : ℕ) → get_or xs k None ≡ node_entry old k) → ys ≡ set xs place entry → ChangesAt (node_entry old) (node_entry (Some ys)) place entry
entry_at-set xs ys old place entry inside same is = record {
  at = λ k. ap (λ zs. get_or zs k None) is ∙ get_or-set xs place k entry None inside ∙ ap (cond (k == place) entry) (same k);
}

-- the same of a branch, which gets a node
pub node-set : {X Z : Type 0} {ys : Entries X} (there : List Bool) (ps : List (Rc X Z)) (old : Option (Entries X)) (place : ℕ) (pointer : Rc X Z)
    → (length there ≡ 16) × (length ps ≡ 16) → place < 16 → ((k : ℕ) → get_or (entries_of there ps) k None ≡ node_entry old k)
    → ys ≡ entries_of (set there place true) (set ps place pointer) → ChangesAt (node_entry old) (node_entry (Some ys)) place (Some pointer.value)
node-set {ys} there ps old place pointer sixteen inside same is =
    let room = inside_both there ps place (omega (arith, sixteen.0)) (omega (arith, sixteen.1)) in
    entry_at-set (entries_of there ps) ys old place (Some pointer.value) room same (is ∙ entries-set there ps place true pointer)

rest_tells : (q a span : ℕ) → q / span ≡ a / span → (q == a) ≡ (q % span == a % span)
rest_tells q a span e =
    let of_q = div-add-mod' q span in
    let of_a = div-add-mod' a span in
    elim (eqb_tells (q % span) (a % span)) [
      | inl h ↦ let same : q ≡ a = cc in grind (arith, nat_tests)
      | inr h ↦ elim (eqb_tells q a) [
        | inl s ↦ absurd (h.1 (ap (λ n. n % span) s.1))
        | inr s ↦ s.0 ∙ sym h.0
      ]
    ]

-- A node is changed at the place of an address, to a node below that is changed at the rest of the
-- address: what is found is changed at that address and at no other.
pub found_in-changed : {X V : Type 0} (span : ℕ) (find_below : Option X → ℕ → Option V) (old new : Option (Entries X)) (addr : ℕ) (below : Option X)
    (cell : Option V) → ChangesAt (node_entry old) (node_entry new) (addr / span) below
    → ChangesAt (find_below (node_entry old (addr / span))) (find_below below) (addr % span) cell
    → ChangesAt (found_below span find_below old) (found_below span find_below new) addr cell
found_in-changed span find_below old new addr below cell here there = record {
  at = λ q. elim (eqb_tells (q / span) (addr / span)) [
    | inl h ↦
        ap (λ node. find_below node (q % span)) (here.at (q / span) ∙ chosen_true _ _ _ h.0)
        ∙ there.at (q % span)
        ∙ ap (λ b. cond b cell (find_below (node_entry old (addr / span)) (q % span))) (sym (rest_tells q addr span h.1))
        ∙ ap (λ place. cond (q == addr) cell (find_below (node_entry old place) (q % span))) (sym h.1)
    | inr h ↦
        ap (λ node. find_below node (q % span)) (here.at (q / span) ∙ chosen_false _ _ _ h.0)
        ∙ sym (chosen_false (q == addr) cell (found_below span find_below old q) (elim (eqb_tells q addr) [
          | inl s ↦ absurd (h.1 (ap (λ n. n / span) s.1))
          | inr s ↦ s.0
        ]))
  ];
}

-- ---- nodes that are written to in place

-- the flags and pointers of a node that has something at a place
pub record IsThere {X Z : Type 0} (there : List Bool) (ps : List (Rc X Z)) (node : Entries X) (i : ℕ) : Type 0 where
  pub flag : i < length there
  pub pointer : i < length ps
  pub node_is : entries_of there ps ≡ node
  pub is_there : IsSome (get_or node i None)

pub there_at : {X Z : Type 0} {there : List Bool} {ps : List (Rc X Z)} {node : Entries X} (i : ℕ) → (length there ≡ 16) × (length ps ≡ 16) → i < 16
    → entries_of there ps ≡ node → IsSome (get_or node i None) → IsThere there ps node i
there_at i sixteen inside is some = record { flag = omega (arith, sixteen.0); pointer = omega (arith, sixteen.1); node_is = is; is_there = some }

flag_is : {X Z : Type 0} (node : Entries X) (i : ℕ) (b : Bool) (p : Rc X Z) → get_or node i None ≡ node_of b p → IsSome (get_or node i None) → b ≡ true
flag_is node i true p e some = refl
flag_is node i false p e some = cc

module _ {X Z : Type 0} {there : List Bool} {ps : List (Rc X Z)} {node : Entries X} {i : ℕ} where
  entry_is : (d : Rc X Z) → IsThere there ps node i → get_or node i None ≡ node_of (get_or there i false) (get_or ps i d)
  entry_is d h = ap (λ ys. get_or ys i None) (sym h.node_is) ∙ get_or-zip2 node_of there ps i false d None h.flag h.pointer

  flag-there : (d : Rc X Z) → IsThere there ps node i → get_or there i false ≡ true
  flag-there d h = flag_is node i (get_or there i false) (get_or ps i d) (entry_is d h) h.is_there

  entry-there : (d : Rc X Z) → IsThere there ps node i → get_or node i None ≡ Some (get_or ps i d).value
  entry-there d h = entry_is d h ∙ ap (λ b. node_of b (get_or ps i d)) (flag-there d h)

  -- another node there
  entries-set_there : (q : Rc X Z) → IsThere there ps node i → entries_of there (set ps i q) ≡ set node i (Some q.value)
  entries-set_there q h =
      let same : set there i true ≡ there = ap (set there i) (sym (flag-there q h)) ∙ set-get_or there i false in
      ap (λ bs. entries_of bs (set ps i q)) (sym same) ∙ entries-set there ps i true q ∙ ap (λ ys. set ys i (Some q.value)) h.node_is

  -- a node below that is as it was leaves the node as it was
  pub restored : (d q : Rc X Z) → IsThere there ps node i → q.value ≡ (get_or ps i d).value → entries_of there (set ps i q) ≡ node
  restored d q h same =
      entries-set_there q h
      ∙ ap (λ x. set node i (Some x)) same
      ∙ ap (set node i) (sym (entry-there d h))
      ∙ set-get_or node i None

-- a node below is written
pub written_below : {X Z V : Type 0} {there : List Bool} {ps : List (Rc X Z)} {node : Entries X} {cell : Option V} (span : ℕ)
    (find_below : Option X → ℕ → Option V) (addr : ℕ) (d q : Rc X Z) → IsThere there ps node (addr / span)
    → ChangesAt (find_below (Some (get_or ps (addr / span) d).value)) (find_below (Some q.value)) (addr % span) cell
    → ChangesAt (found_below span find_below (Some node)) (found_below span find_below (Some (entries_of there (set ps (addr / span) q)))) addr cell
written_below {there} {ps} {node} {cell} span find_below addr d q h changes =
    let place : ℕ = addr / span in
    let ys = entries_of there (set ps place q) in
    let was : node_entry (Some node) place ≡ Some (get_or ps place d).value = entry-there d h in
    let room : place < length node = subst (λ xs. place < length xs) h.node_is (inside_both there ps place h.flag h.pointer) in
    let here : ChangesAt (node_entry (Some node)) (node_entry (Some ys)) place (Some q.value) =
    entry_at-set node ys (Some node) place (Some q.value) room (λ k. refl) (entries-set_there q h) in
    let below : ChangesAt (find_below (node_entry (Some node) place)) (find_below (Some q.value)) (addr % span) cell = rw was changes in
    found_in-changed span find_below (Some node) (Some ys) addr (Some q.value) cell here below

-- a fact that does not speak of the value
pub if_some : {T : Type 0} {P : Type 0} (o : Option T) → P → IfSome o (λ x. P)
if_some (Some x) h = h
if_some None h = tt

some_inside : {X Z : Type 0} (there : List Bool) (ps : List (Rc X Z)) (i : ℕ) → i < length there → i < length ps → get_or there i false ≡ true
    → IsSome (get_or (entries_of there ps) i None)
some_inside [] ps i flag inside e = absurd (omega arith)
some_inside (b ∷ bs) [] i flag inside e = absurd (omega arith)
some_inside (true ∷ bs) (p ∷ ps) zero flag inside e = refl
some_inside (false ∷ bs) (p ∷ ps) zero flag inside e = cc
some_inside (b ∷ bs) (p ∷ ps) (suc i) flag inside e = some_inside bs ps i (omega arith) (omega arith) e

-- a node is there where the flag says so
pub some_there : {X Z : Type 0} {node : Entries X} (there : List Bool) (ps : List (Rc X Z)) (i : ℕ) → (length there ≡ 16) × (length ps ≡ 16) → i < 16
    → entries_of there ps ≡ node → get_or there i false ≡ true → IsSome (get_or node i None)
some_there there ps i sixteen inside is e =
    subst (λ ys. IsSome (get_or ys i None)) is (some_inside there ps i (omega (arith, sixteen.0)) (omega (arith, sixteen.1)) e)

pub on_err : {T E : Type 0} {P : Type 0} (r : Result T E) → P → OnErr r P
on_err (Ok x) h = tt
on_err (Err e) h = h

-- ---- the cells of a leaf

-- a cell of a leaf is written over
pub values-set : (cells : List Cell) (ys : Entries Value) (old : Option (Entries Value)) (place : ℕ) (cell : Cell) → place < length cells
    → ((k : ℕ) → get_or (values_of cells) k None ≡ node_entry old k) → ys ≡ values_of (set cells place cell)
    → ChangesAt (node_entry old) (node_entry (Some ys)) place (value_of cell)
values-set cells ys old place cell inside same is =
    let there : place < length (values_of cells) = simp length-map inside in
    entry_at-set (values_of cells) ys old place (value_of cell) there same (is ∙ map-set value_of cells place cell)

-- the same of a leaf that is written to in place
pub written_cell : (cells : List Cell) (leaf : Entries Value) (place : ℕ) (cell : Cell) → place < length cells → values_of cells ≡ leaf
    → ChangesAt (node_entry (Some leaf)) (node_entry (Some (values_of (set cells place cell)))) place (value_of cell)
written_cell cells leaf place cell inside is =
    values-set cells _ (Some leaf) place cell inside (λ k. ap (λ ys. get_or ys k None) is) refl

-- clones of cells have the values of the cells
pub values_alike : (cells copies : List Cell) → AllZip (λ cell copy. value_of copy ≡ value_of cell) cells copies → values_of copies ≡ values_of cells
values_alike [] [] h = refl
values_alike [] (d ∷ ds) h = absurd h
values_alike (c ∷ cs) [] h = absurd h
values_alike (c ∷ cs) (d ∷ ds) h = let first = h.0 in let rest = values_alike cs ds h.1 in cc
