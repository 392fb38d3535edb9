-- The rows of calls, in parts.
use Rattle.std.proofs.Common.{◌++◌, ◌+◌, ◌<◌, ◌∙◌, ◌∷◌, ◌≡◌, ◌≤◌, [], ℕ, Bool, List, None, Option, Some, ap, arith, cond, false, get_or, length, nat_le, refl}
use Rattle.std.proofs.{Common.suc, Common.sym, Common.true, Common.zero, Math.ListN.get_or-append}
use Rattle.std.proofs.lemmas.{Bool.le-leb, Bool.lt-leb, List.get_or-append-add, List.length-map, List.map-append}
use Rattle.core_program.proofs.{CallsOfRunsNest.belows_later, NestedCallsAreIntervals.count_same, NestedCallsAreIntervals.same_test}
use Rattle.core_program.specs.Numbering.{Inside, belows, count, each_from, greatest, is_below, parent_of}
use Rattle.core_program.specs.Run.{Call, Marked, later_by}
use Rattle.call_tree.specs.declared.records.Call as table
use Rattle.program_run.specs.Table.{row_with, table_of}
use Rattle.program_run.specs.Tower.{RowSpot, below, call_row_at, first_spot, parent_at, rows_at}

pub greatest_same : (p q : ℕ → Bool) (n : ℕ) → ((j : ℕ) → j < n → p j ≡ q j) → greatest p n ≡ greatest q n
greatest_same p q zero h = refl
greatest_same p q (suc n) h =
    ap (λ b. cond b (Some n) (greatest p n)) (h n (omega arith)) ∙ ap (cond (q n) (Some n)) (greatest_same p q n (λ j k. h j (omega arith)))

-- where nothing passes
greatest_none : (p : ℕ → Bool) (n : ℕ) → ((j : ℕ) → j < n → p j ≡ false) → greatest p n ≡ None
greatest_none p zero h = refl
greatest_none p (suc n) h = ap (λ b. cond b (Some n) (greatest p n)) (h n (omega arith)) ∙ greatest_none p n (λ j k. h j (omega arith))

count_none : (p : ℕ → Bool) (n : ℕ) → ((j : ℕ) → j < n → p j ≡ false) → count p n ≡ 0
count_none p zero h = refl
count_none p (suc n) h = ap (λ b. cond b 1 0 + count p n) (h n (omega arith)) ∙ (let e = count_none p n (λ j k. h j (omega arith)) in omega arith)

-- where nothing below m passes, and what is above it is moved by m
greatest_moved : (p q : ℕ → Bool) (a m n : ℕ) (outer : Option ℕ) → ((j : ℕ) → j < m → p j ≡ false) → ((j : ℕ) → j < n → p (m + j) ≡ q j)
    → (k : ℕ) → k ≡ m + n → parent_at a outer (greatest p k) ≡ parent_at (a + m) outer (greatest q n)
greatest_moved p q a m zero outer f g k e = ap (parent_at a outer) (ap (greatest p) (let x : k ≡ m = omega arith in x) ∙ greatest_none p m f)
greatest_moved p q a m (suc n) outer f g k e =
    ap (λ i. parent_at a outer (greatest p i)) (let x : k ≡ suc (m + n) = omega arith in x)
    ∙ ap (λ b. parent_at a outer (cond b (Some (m + n)) (greatest p (m + n)))) (g n (omega arith))
    ∙ pick (greatest_moved p q a m n outer f (λ j k. g j (omega arith)) (m + n) refl) (q n)
  where
    pick : parent_at a outer (greatest p (m + n)) ≡ parent_at (a + m) outer (greatest q n) → (b : Bool)
        → parent_at a outer (cond b (Some (m + n)) (greatest p (m + n))) ≡ parent_at (a + m) outer (cond b (Some n) (greatest q n))
    pick h true = ap (λ i. Some i) (let x : a + (m + n) ≡ (a + m) + n = omega arith in x)
    pick h false = h

count_moved : (p q : ℕ → Bool) (m n : ℕ) → ((j : ℕ) → j < m → p j ≡ false) → ((j : ℕ) → j < n → p (m + j) ≡ q j) → (k : ℕ) → k ≡ m + n → count p k ≡ count q n
count_moved p q m zero f g k e = ap (count p) (let x : k ≡ m = omega arith in x) ∙ count_none p m f
count_moved p q m (suc n) f g k e =
    ap (count p) (let x : k ≡ suc (m + n) = omega arith in x)
    ∙ ap (λ b. cond b 1 0 + count p (m + n)) (g n (omega arith))
    ∙ ap (λ c. cond (q n) 1 0 + c) (count_moved p q m n f (λ j k. g j (omega arith)) (m + n) refl)

-- where the first passes
greatest_first : (p q : ℕ → Bool) (a n : ℕ) (outer : Option ℕ) → p 0 ≡ true → ((j : ℕ) → j < n → p (suc j) ≡ q j)
    → parent_at a outer (greatest p (suc n)) ≡ parent_at (suc a) (Some a) (greatest q n)
greatest_first p q a zero outer f g = ap (λ b. parent_at a outer (cond b (Some 0) None)) f ∙ ap (λ i. Some i) (let x : a + 0 ≡ a = omega arith in x)
greatest_first p q a (suc n) outer f g =
    ap (λ b. parent_at a outer (cond b (Some (suc n)) (greatest p (suc n)))) (g n (omega arith))
    ∙ pick (greatest_first p q a n outer f (λ j k. g j (omega arith))) (q n)
  where
    pick : parent_at a outer (greatest p (suc n)) ≡ parent_at (suc a) (Some a) (greatest q n) → (b : Bool)
        → parent_at a outer (cond b (Some (suc n)) (greatest p (suc n))) ≡ parent_at (suc a) (Some a) (cond b (Some n) (greatest q n))
    pick h true = ap (λ i. Some i) (let x : a + suc n ≡ suc a + n = omega arith in x)
    pick h false = h

count_first : (p q : ℕ → Bool) (d n : ℕ) → p 0 ≡ true → ((j : ℕ) → j < n → p (suc j) ≡ q j) → d + count p (suc n) ≡ d + 1 + count q n
count_first p q d zero f g = ap (λ b. d + (cond b 1 0 + 0)) f ∙ (let x : d + (1 + 0) ≡ d + 1 + 0 = omega arith in x)
count_first p q d (suc n) f g =
    ap (λ b. d + (cond b 1 0 + count p (suc n))) (g n (omega arith))
    ∙ (let h : d + count p (suc n) ≡ d + 1 + count q n = count_first p q d n f (λ j k. g j (omega arith)) in
    let x : d + (cond (q n) 1 0 + count p (suc n)) ≡ d + 1 + (cond (q n) 1 0 + count q n) = omega arith in x)

module _ {A B : Type 0} where
  pub each_same : (f g : ℕ → A → B) (k : ℕ) (xs : List A) → ((i : ℕ) (x : A) → k ≤ i → i < k + length xs → f i x ≡ g i x) → each_from f k xs ≡ each_from g k xs
  each_same f g k [] h = refl
  each_same f g k (x ∷ xs) h = λ i. h k x (omega arith) (omega arith) i ∷ each_same f g (suc k) xs (λ j y a b. h j y (omega arith) (omega arith)) i

  pub each_append : (f : ℕ → A → B) (k : ℕ) (xs ys : List A) (j : ℕ) → j ≡ k + length xs → each_from f k (xs ++ ys) ≡ each_from f k xs ++ each_from f j ys
  each_append f k [] ys j e = ap (λ i. each_from f i ys) (let x : k ≡ j = omega arith in x)
  each_append f k (x ∷ xs) ys j e = ap (λ l. f k x ∷ l) (each_append f (suc k) xs ys j (omega arith))

  pub each_moved : (f g : ℕ → A → B) (m k n : ℕ) (xs : List A) → k ≡ m + n → ((i : ℕ) (x : A) → n ≤ i → i < n + length xs → f (m + i) x ≡ g i x)
      → each_from f k xs ≡ each_from g n xs
  each_moved f g m k n [] e h = refl
  each_moved f g m k n (x ∷ xs) e h =
      ap (λ i. f i x ∷ each_from f (suc k) xs) e
      ∙ (λ i. h n x (omega arith) (omega arith) i ∷ each_moved f g m (suc k) (suc n) xs (omega arith) (λ j y a b. h j y (omega arith) (omega arith)) i)

  pub each_next : (f g : ℕ → A → B) (n : ℕ) (xs : List A) → ((i : ℕ) (x : A) → n ≤ i → i < n + length xs → f (suc i) x ≡ g i x)
      → each_from f (suc n) xs ≡ each_from g n xs
  each_next f g n [] h = refl
  each_next f g n (x ∷ xs) h = λ i. h n x (omega arith) (omega arith) i ∷ each_next f g (suc n) xs (λ j y a b. h j y (omega arith) (omega arith)) i

  pub length_each : (f : ℕ → A → B) (k : ℕ) (xs : List A) → length (each_from f k xs) ≡ length xs
  length_each f k [] = refl
  length_each f k (x ∷ xs) = ap suc (length_each f (suc k) xs)

-- a row by its parts
row_is : (c : Call) (p q : Option ℕ) (d e l m u v : ℕ) → p ≡ q → d ≡ e → l ≡ m → u ≡ v → row_with c p d l u ≡ row_with c q e m v
row_is c p q d e l m u v f g h k = λ i. row_with c (f i) (g i) (h i) (k i)

belows_append : (es fs : List (Marked Call)) → belows (es ++ fs) ≡ belows es ++ belows fs
belows_append es fs = map-append (λ c. c.event.below) es fs

pub length_belows : (es : List (Marked Call)) → length (belows es) ≡ length es
length_belows es = length-map es (λ c. c.event.below)

-- where the rows go on after this many
abbrev pub further : RowSpot → ℕ → RowSpot
further s n = record s { number = s.number + n }

-- the same spot, this many entries later
abbrev pub later : RowSpot → ℕ → RowSpot
later s n = record s { mark = s.mark + n }

each_marked : (f g : ℕ → Marked Call → table.Call) (n k : ℕ) (ms : List (Marked Call))
    → ((i : ℕ) (m : Marked Call) → f i (record { mark = n + m.mark; event = m.event }) ≡ g i m)
    → each_from f k (later_by n ms) ≡ each_from g k ms
each_marked f g n k [] h = refl
each_marked f g n k (m ∷ ms) h = λ i. h k m i ∷ each_marked f g n (suc k) ms h i

module _ (s : RowSpot) where
  left_row : (bs cs : List ℕ) (i : ℕ) (c : Marked Call) → i < length bs → call_row_at s (bs ++ cs) i c ≡ call_row_at s bs i c
  left_row bs cs i c h =
      row_is c.event _ _ _ _ _ _ _ _
      (ap (parent_at s.number s.parent) (greatest_same _ _ i (λ j k. test j (omega arith))))
      (ap (λ n. s.depth + n) (count_same _ _ i (λ j k. test j (omega arith))))
      (ap (λ g. s.number + (i + g)) (get_or-append bs cs 0 i h)) refl
    where
      test : (j : ℕ) → j < length bs → is_below (bs ++ cs) i j ≡ is_below bs i j
      test j k = ap (λ g. nat_le i (j + g)) (get_or-append bs cs 0 j k)

  right_row : (bs cs : List ℕ) → Inside bs → (i : ℕ) (c : Marked Call) → call_row_at s (bs ++ cs) (length bs + i) c ≡ call_row_at (further s (length bs)) cs i c
  right_row bs cs h i c =
      row_is c.event _ _ _ _ _ _ _ _
      (greatest_moved _ _ s.number (length bs) i s.parent before above (length bs + i) refl)
      (ap (λ n. s.depth + n) (count_moved _ _ (length bs) i before above (length bs + i) refl))
      (ap (λ g. s.number + (length bs + i + g)) (get_or-append-add bs cs i 0) ∙ (let x : s.number + (length bs + i + get_or cs i 0)
      ≡ s.number + length bs + (i + get_or cs i 0) = omega arith in x)) refl
    where
      before : (j : ℕ) → j < length bs → is_below (bs ++ cs) (length bs + i) j ≡ false
      before j k = ap (λ g. nat_le (length bs + i) (j + g)) (get_or-append bs cs 0 j k)
          ∙ lt-leb (length bs + i) (j + get_or bs j 0) (let x = h.inside j k in omega (arith, x))

      above : (j : ℕ) → j < i → is_below (bs ++ cs) (length bs + i) (length bs + j) ≡ is_below cs i j
      above j k = ap (λ g. nat_le (length bs + i) (length bs + j + g)) (get_or-append-add bs cs j 0)
          ∙ same_test (length bs + i) (length bs + j + get_or cs j 0) i (j + get_or cs j 0) (λ x. omega arith) (λ x. omega arith)

  -- the rows of calls after others
  pub rows_append : (es fs : List (Marked Call)) → Inside (belows es) → rows_at s (es ++ fs) ≡ rows_at s es ++ rows_at (further s (length es)) fs
  rows_append es fs h =
      ap (λ bs. each_from (call_row_at s bs) 0 (es ++ fs)) (belows_append es fs)
      ∙ each_append _ 0 es fs (length (belows es)) (let x = length_belows es in omega (arith, x))
      ∙ (λ i. each_same (call_row_at s (belows es ++ belows fs)) (call_row_at s (belows es)) 0 es
      (λ j c a b. left_row (belows es) (belows fs) j c (let x = length_belows es in omega (arith, x))) i
      ++ each_moved (call_row_at s (belows es ++ belows fs)) (call_row_at (further s (length (belows es))) (belows fs))
      (length (belows es)) (length (belows es)) 0 fs (omega arith)
      (λ j c a b. right_row (belows es) (belows fs) h j c) i)
      ∙ ap (λ n. rows_at s es ++ rows_at (further s n) fs) (length_belows es)

  next_row : (b : ℕ) (bs : List ℕ) → b ≡ length bs → (i : ℕ) (c : Marked Call) → i < length bs → call_row_at s (b ∷ bs) (suc i) c ≡ call_row_at (below s) bs i c
  next_row b bs e i c h =
      row_is c.event _ _ _ _ _ _ _ _
      (greatest_first (is_below (b ∷ bs) (suc i)) (is_below bs i) s.number i s.parent first next)
      (count_first (is_below (b ∷ bs) (suc i)) (is_below bs i) s.depth i first next)
      (let x : s.number + (suc i + get_or bs i 0) ≡ suc s.number + (i + get_or bs i 0) = omega arith in x) refl
    where
      first : is_below (b ∷ bs) (suc i) 0 ≡ true
      first = le-leb (suc i) (0 + b) (omega arith)

      next : (j : ℕ) → j < i → is_below (b ∷ bs) (suc i) (suc j) ≡ is_below bs i j
      next j k = same_test (suc i) (suc j + get_or bs j 0) i (j + get_or bs j 0) (λ x. omega arith) (λ x. omega arith)

  -- the row of a call, and those below it
  pub rows_call : (c : Call) (es : List (Marked Call)) → c.below ≡ length es
      → rows_at s ((record { mark = 0; event = c }) ∷ es) ≡ row_with c s.parent s.depth (s.number + length es) s.mark ∷ rows_at (below s) es
  rows_call c es e =
      λ i. row_is c (parent_at s.number s.parent None) s.parent (s.depth + 0) s.depth (s.number + (0 + c.below)) (s.number + length es) (s.mark + 0) s.mark
      refl (omega arith) (omega arith) (omega arith) i
      ∷ each_next (call_row_at s (c.below ∷ belows es)) (call_row_at (below s) (belows es)) 0 es
      (λ j d a b. next_row c.below (belows es) (e ∙ sym (length_belows es)) j d (let x = length_belows es in omega (arith, x))) i

  -- the rows of calls whose marks are counted from an earlier entry
  pub rows_moved : (n : ℕ) (es : List (Marked Call)) → rows_at s (later_by n es) ≡ rows_at (later s n) es
  rows_moved n es =
      ap (λ bs. each_from (call_row_at s bs) 0 (later_by n es)) (belows_later n es)
      ∙ each_marked _ _ n 0 es (λ i m. row_is m.event _ _ _ _ _ _ _ _ refl refl refl (let x : s.mark + (n + m.mark) ≡ s.mark + n + m.mark = omega arith in x))

-- the rows of a whole run
pub rows_whole : (ms : List (Marked Call)) → rows_at first_spot ms ≡ table_of ms
rows_whole ms = each_same _ _ 0 ms (λ i m a b. row_is m.event _ _ _ _ _ _ _ _ (none (parent_of (belows ms) i)) (omega arith) (omega arith)
    (omega arith))
  where
    none : (o : Option ℕ) → parent_at 0 None o ≡ o
    none None = refl
    none (Some j) = ap (λ n. Some n) (let x : 0 + j ≡ j = omega arith in x)
