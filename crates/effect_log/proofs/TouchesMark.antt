-- What is found in touches, one more touch at a time.
use Rattle.std.proofs.Common.{◌&&◌, ◌++◌, ◌+◌, ◌==◌, ◌∙◌, ◌∷◌, ◌≡◌, [], ℕ, Bool, List, None, Option, Some, ap, cond, false, inl, inr, is_some, max, nat_le}
use Rattle.std.proofs.Common.{nat_lt, option_to_list, refl, slice_get, sym, true}
use Rattle.std.{proofs.lemmas.List.append-nil, proofs.lemmas.List.Elements.filter_map-append, specs.List.filter_map}
use Rattle.cell_value.specs.Effects.{asked_by, byte_by, change_at, change_by, given_of, head_of, looked_by, made_by, read_by, taken_by}
use Rattle.cell_value.specs.declared.entries.{Change.Change, Change.TheVariants.Gone, Change.TheVariants.Set, Touch.Touch}
use Rattle.cell_value.specs.declared.entries.Touch.TheVariants.{Drop, Give, Has, Look, Make, Read, Take, Write}
use Rattle.cell_value.specs.declared.values.Value.{Value}
use Rattle.effect_log.proofs.OneMoreTouch.{all_before, before_changing, before_none, before_other, before_some, change_more, first_more, looked_more}
use Rattle.effect_log.proofs.OneMoreTouch.{one_option, option_cases, sooner, sum_more}
use Rattle.effect_log.specs.{Marks.shown, Passing.later, declared.cells.Cell.Cell, declared.paged.Found.Found}
use Rattle.effect_log.specs.Marks.{HasCounts, IsMarked, IsNumberOf, PagesTakeIn, answer_mark, cell_after, change_mark, first_before, first_mark, read_mark}

-- ---- one address

module _ {X : Type 0} (f : Touch → Option X) (addr : ℕ) (ts : List Touch) (t : Touch) where
  -- what the first says, where nothing was changed yet and this touch does not change the address
  first_goes_on : change_at addr ts ≡ None → change_by addr t ≡ None → first_before f addr (ts ++ t ∷ []) ≡ sooner (first_before f addr ts) (f t)
  unfolding change_at
  first_goes_on none none_here =
      ap (λ xs. head_of (filter_map f xs)) (before_none (change_by addr) ts t none)
      ∙ ap (λ xs. head_of (filter_map f (ts ++ xs))) (before_other (change_by addr) t [] none_here)
      ∙ ap head_of (filter_map-append f ts (t ∷ [])) ∙ first_more (filter_map f ts) (f t)
      ∙ ap (λ xs. sooner (head_of (filter_map f xs)) (f t)) (sym (all_before (change_by addr) ts none))

  -- where it changes the address
  first_ends : change_at addr ts ≡ None → (c : Change) → change_by addr t ≡ Some c → first_before f addr (ts ++ t ∷ []) ≡ first_before f addr ts
  unfolding change_at
  first_ends none c here =
      ap (λ xs. head_of (filter_map f xs)) (before_none (change_by addr) ts t none)
      ∙ ap (λ xs. head_of (filter_map f (ts ++ xs))) (before_changing (change_by addr) t [] c here)
      ∙ ap (λ xs. head_of (filter_map f xs)) (append-nil ts)
      ∙ ap (λ xs. head_of (filter_map f xs)) (sym (all_before (change_by addr) ts none))

  -- where the address was changed before
  first_stays : (c : Change) → change_at addr ts ≡ Some c → first_before f addr (ts ++ t ∷ []) ≡ first_before f addr ts
  unfolding change_at
  first_stays c some = ap (λ xs. head_of (filter_map f xs)) (before_some (change_by addr) ts t c some)

  by_change : {P : Type 0} → ((c : Change) → change_at addr ts ≡ Some c → P) → (change_at addr ts ≡ None → P) → P
  by_change some none = elim (option_cases (change_by addr) (change_at addr ts)) [
    | inl w ↦ some w.0 w.1
    | inr e ↦ none e
  ]

  -- a touch that says nothing, or that changes the address, leaves what the first says
  first_same : f t ≡ None → first_before f addr (ts ++ t ∷ []) ≡ first_before f addr ts
  first_same silent = by_change (λ (c : Change) (some : change_at addr ts ≡ Some c). first_stays c some)
      (λ (none : change_at addr ts ≡ None). elim (option_cases (change_by addr) (change_by addr t)) [
        | inl w ↦ first_ends none w.0 w.1
        | inr here ↦ first_goes_on none here ∙ ap (sooner (first_before f addr ts)) silent ∙ sooner_none (first_before f addr ts)
      ])
    where
      sooner_none : (o : Option X) → sooner o None ≡ o
      sooner_none (Some x) = refl
      sooner_none None = refl

-- ---- what numbers stand for
module _ {X : Type 0} (log : List Touch) (f : Touch → Option X) where
  stays : (n : Option ℕ) (v w : Option X) → IsNumberOf log f n v → w ≡ v → IsNumberOf log f n w
  stays n v w stands e = record { there = stands.there ∙ ap is_some (sym e); says = stands.says ∙ sym e }

  now : (n : ℕ) (t : Touch) (x : X) → slice_get log n ≡ Some t → f t ≡ Some x → IsNumberOf log f (Some n) (Some x)
  now n t x is says = record { there = refl; says = ap (shown f) is ∙ says }

  -- the first number, where nothing was changed yet and where something was
  first_yet : (m : Option ℕ) (n : ℕ) (v : Option X) (t : Touch) (x : X) → slice_get log n ≡ Some t → f t ≡ Some x → IsNumberOf log f m v
      → IsNumberOf log f (first_mark None m n) (sooner v (Some x))
  first_yet (Some m) n (Some y) t x is says stands = stands
  first_yet (Some m) n None t x is says stands = absurd (let e = stands.there in cc)
  first_yet None n (Some y) t x is says stands = absurd (let e = stands.there in cc)
  first_yet None n None t x is says stands = now n t x is says

  first_marked : (c m : Option ℕ) (n addr : ℕ) (ts : List Touch) (t : Touch) (x : X) → slice_get log n ≡ Some t → f t ≡ Some x → change_by addr t ≡ None
      → is_some c ≡ is_some (change_at addr ts) → IsNumberOf log f m (first_before f addr ts)
      → IsNumberOf log f (first_mark c m n) (first_before f addr (ts ++ t ∷ []))
  first_marked (Some c) m n addr ts t x is says other there stands = by_change f addr ts t
      (λ (d : Change) (some : change_at addr ts ≡ Some d). stays m (first_before f addr ts) (first_before f addr (ts ++ t ∷ [])) stands
      (first_stays f addr ts t d some))
      (λ (none : change_at addr ts ≡ None). absurd (let e = ap is_some none in cc))
  first_marked None m n addr ts t x is says other there stands = by_change f addr ts t
      (λ (d : Change) (some : change_at addr ts ≡ Some d). absurd (let e = ap is_some some in cc))
      (λ (none : change_at addr ts ≡ None). stays (first_mark None m n) (sooner (first_before f addr ts) (Some x)) (first_before f addr (ts ++ t ∷ []))
      (first_yet m n (first_before f addr ts) t x is says stands)
      (first_goes_on f addr ts t none other ∙ ap (sooner (first_before f addr ts)) says))

-- ---- the cell of an address
module _ (log ts : List Touch) (addr number : ℕ) (t : Touch) (cell : Cell) (is : slice_get log number ≡ Some t) (marked : IsMarked log ts addr cell) where
  abbrev Next : Cell → Type 0
  Next = IsMarked log (ts ++ t ∷ []) addr

  read_stays : read_by addr t ≡ None → IsNumberOf log (read_by addr) cell.read (first_before (read_by addr) addr (ts ++ t ∷ []))
  read_stays none = stays log (read_by addr) cell.read (first_before (read_by addr) addr ts) (first_before (read_by addr) addr (ts ++ t ∷ [])) marked.read
      (first_same (read_by addr) addr ts t none)

  answer_stays : asked_by addr t ≡ None → IsNumberOf log (asked_by addr) cell.answer (first_before (asked_by addr) addr (ts ++ t ∷ []))
  answer_stays none = stays log (asked_by addr) cell.answer (first_before (asked_by addr) addr ts) (first_before (asked_by addr) addr (ts ++ t ∷ []))
      marked.answer
      (first_same (asked_by addr) addr ts t none)

  change_stays : change_by addr t ≡ None → IsNumberOf log (change_by addr) cell.change (change_at addr (ts ++ t ∷ []))
  change_stays none = stays log (change_by addr) cell.change (change_at addr ts) (change_at addr (ts ++ t ∷ [])) marked.change
      (change_more addr ts t ∙ ap (λ o. later o (change_at addr ts)) none)

  not_here : change_by addr t ≡ None → read_by addr t ≡ None → asked_by addr t ≡ None → Next cell
  not_here c r a = record { read = read_stays r; answer = answer_stays a; change = change_stays c }

  reads_here : change_by addr t ≡ None → (v : _) → read_by addr t ≡ Some v → asked_by addr t ≡ None → Next (read_mark number cell)
  reads_here c v r a = record {
    read = first_marked log (read_by addr) cell.change cell.read number addr ts t v is r c marked.change.there marked.read;
    answer = answer_stays a;
    change = change_stays c;
  }

  asks_here : change_by addr t ≡ None → read_by addr t ≡ None → (v : _) → asked_by addr t ≡ Some v → Next (answer_mark number cell)
  asks_here c r v a = record {
    read = read_stays r;
    answer = first_marked log (asked_by addr) cell.change cell.answer number addr ts t v is a c marked.change.there marked.answer;
    change = change_stays c;
  }

  changes_here : (c : Change) → change_by addr t ≡ Some c → read_by addr t ≡ None → asked_by addr t ≡ None → Next (change_mark number cell)
  changes_here c here r a = record {
    read = read_stays r;
    answer = answer_stays a;
    change = stays log (change_by addr) (Some number) (Some c) (change_at addr (ts ++ t ∷ [])) (now log (change_by addr) number t c is here)
        (change_more addr ts t ∙ ap (λ o. later o (change_at addr ts)) here);
  }

by_test : (P : Cell → Type 0) (b : Bool) (x y : Cell) → (b ≡ true → P x) → (b ≡ false → P y) → P (cond b x y)
by_test P true x y f g = f refl
by_test P false x y f g = g refl

pub cell_marked : (log ts : List Touch) (addr number : ℕ) (t : Touch) (cell : Cell) → slice_get log number ≡ Some t → IsMarked log ts addr cell
    → IsMarked log (ts ++ t ∷ []) addr (cell_after number t addr cell)
cell_marked log ts addr number (Read at value) cell is marked = by_test (IsMarked log (ts ++ Read at value ∷ []) addr) (at == addr) (read_mark number cell) cell
    (λ (e : (at == addr) ≡ true). reads_here log ts addr number (Read at value) cell is marked refl value (ap (λ b. cond b (Some value) None) e) refl)
    (λ (e : (at == addr) ≡ false). not_here log ts addr number (Read at value) cell is marked refl (ap (λ b. cond b (Some value) None) e) refl)
cell_marked log ts addr number (Has at there) cell is marked = by_test (IsMarked log (ts ++ Has at there ∷ []) addr) (at == addr) (answer_mark number cell) cell
    (λ (e : (at == addr) ≡ true). asks_here log ts addr number (Has at there) cell is marked refl refl there (ap (λ b. cond b (Some there) None) e))
    (λ (e : (at == addr) ≡ false). not_here log ts addr number (Has at there) cell is marked refl refl (ap (λ b. cond b (Some there) None) e))
cell_marked log ts addr number (Write at value) cell is marked =
    by_test (IsMarked log (ts ++ Write at value ∷ []) addr) (at == addr) (change_mark number cell) cell
    (λ (e : (at == addr) ≡ true). changes_here log ts addr number (Write at value) cell is marked (Set value) (ap (λ b. cond b (Some (Set value)) None) e) refl
    refl)
    (λ (e : (at == addr) ≡ false). not_here log ts addr number (Write at value) cell is marked (ap (λ b. cond b (Some (Set value)) None) e) refl refl)
cell_marked log ts addr number (Make first cells kind) cell is marked =
    let inside : Bool = nat_le first addr && nat_lt addr (first + cells) in
    by_test (IsMarked log (ts ++ Make first cells kind ∷ []) addr) inside (change_mark number cell) cell
    (λ (e : inside ≡ true). changes_here log ts addr number (Make first cells kind) cell is marked (Set Value.Undefined)
    (ap (λ b. cond b (Some (Set Value.Undefined)) None) e) refl refl)
    (λ (e : inside ≡ false). not_here log ts addr number (Make first cells kind) cell is marked (ap (λ b. cond b (Some (Set Value.Undefined)) None) e) refl
    refl)
cell_marked log ts addr number (Drop first cells) cell is marked =
    let inside : Bool = nat_le first addr && nat_lt addr (first + cells) in
    by_test (IsMarked log (ts ++ Drop first cells ∷ []) addr) inside (change_mark number cell) cell
    (λ (e : inside ≡ true). changes_here log ts addr number (Drop first cells) cell is marked Gone (ap (λ b. cond b (Some Gone) None) e) refl refl)
    (λ (e : inside ≡ false). not_here log ts addr number (Drop first cells) cell is marked (ap (λ b. cond b (Some Gone) None) e) refl refl)
cell_marked log ts addr number (Look at) cell is marked = not_here log ts addr number (Look at) cell is marked refl refl refl
cell_marked log ts addr number (Take items) cell is marked = not_here log ts addr number (Take items) cell is marked refl refl refl
cell_marked log ts addr number (Give byte) cell is marked = not_here log ts addr number (Give byte) cell is marked refl refl refl

-- ---- the counts

pub one_more_counted : (base place number : ℕ) (ts : List Touch) (t : Touch) (old new : Found) → HasCounts place ts old
    → PagesTakeIn base place (record { number = number; touch = t }) old new
    → HasCounts place (ts ++ t ∷ []) new
one_more_counted base place number ts t old new found takes = record {
  made = takes.made ∙ ap (λ n. n + made_by t) found.made ∙ sym (sum_more made_by ts t);
  looked = takes.looked ∙ ap (λ n. max n (looked_by place t)) found.looked ∙ sym (looked_more place ts t);
  taken = takes.taken ∙ ap (λ n. n + taken_by t) found.taken ∙ sym (sum_more taken_by ts t);
  given = takes.given ∙ ap (λ bs. bs ++ option_to_list (byte_by t)) found.given ∙ ap (λ bs. given_of ts ++ bs) (sym (one_option (byte_by t)))
      ∙ sym (filter_map-append byte_by ts (t ∷ []));
}
