-- The cells that a name names, one address after another.
use Rattle.std.proofs.Common.{if◌then◌else◌, ◌&&◌, ◌++◌, ◌+◌, ◌-◌, ◌<◌, ◌||◌, ◌∙◌, ◌∷◌, ◌≡◌, ◌≤◌, [], ℕ, Bool, List, None, Option, Some, ap, append-nil}
use Rattle.std.proofs.Common.{append_assoc, arith, false, flat_map, is_some, nat_lt, refl, suc, sym, true, zero}
use Rattle.std.{proofs.lemmas.Bool.Decides.nat_tests, specs.List.list_any, specs.List.range_with_len}
use Rattle.call_tree.specs.declared.records.Call.{Call}
use Rattle.cell_names.specs.{NamedBy.is_named_by, Names.Scene, Names.root_at, Walks.is_named_at, Walks.is_named_root, declared.names.Root.Root}
use Rattle.question_text.specs.States.{cell_at, if_cell, is_between, is_cell, line_at, line_by, lines_between, named_root, sides_at}
use Rattle.question_text.specs.declared.states.CellSides.{CellSides}

or_assoc : (a b c : Bool) → ((a || b) || c) ≡ (a || (b || c))
or_assoc true b c = refl
or_assoc false b c = refl

or_false : (a : Bool) → (a || false) ≡ a
or_false true = refl
or_false false = refl

-- one or the other, as a branch gives it
pub or_by_first : (some named next : Bool) → some ≡ true → next ≡ some → next ≡ (some || named)
or_by_first some named next e is = is ∙ e ∙ ap (λ b. b || named) (sym e)

pub or_by_second : (some named next : Bool) → some ≡ false → next ≡ named → next ≡ (some || named)
or_by_second some named next e is = is ∙ ap (λ b. b || named) (sym e)

and_true : (a : Bool) → (a && true) ≡ a
and_true true = refl
and_true false = refl

and_false : (a : Bool) → (a && false) ≡ false
and_false true = refl
and_false false = refl

unnamed_root : (s : Scene) (name : List ℕ) (sides : CellSides) (o : Option Root) → is_named_root s name o ≡ false → named_root s name sides o ≡ None
unnamed_root s name sides None e = refl
unnamed_root s name sides (Some r) e =
    ap (λ b. if is_cell sides && b then Some r else None) e ∙ ap (λ b. if b then Some r else None) (and_false (is_cell sides))

pub none_of_two : (a b : Bool) → (a || b) ≡ false → (a ≡ false) × (b ≡ false)
none_of_two true b e = absurd (let z : ⊥ = cc in z)
none_of_two false b e = (refl, e)

no_line : (s : Scene) (sides : CellSides) (o : Option Root) → is_some o ≡ false → line_by s sides o ≡ []
no_line s sides None e = refl
no_line s sides (Some r) e = absurd (let z : ⊥ = cc in z)

module _ (s : Scene) (call : Call) (name : List ℕ) where
  first_line : (at to : ℕ) → at < to → lines_between s call name at to ≡ line_at s call name at ++ lines_between s call name (at + 1) to
  unfolding lines_between
  first_line at to below =
      ap (λ n. flat_map (line_at s call name) (range_with_len at n)) (let e : to - at ≡ suc (to - (at + 1)) = omega (arith, below) in e)

  no_lines : (at to : ℕ) → to ≤ at → lines_between s call name at to ≡ []
  unfolding lines_between
  no_lines at to past = ap (λ n. flat_map (line_at s call name) (range_with_len at n)) (let e : to - at ≡ zero = omega (arith, past) in e)

  first_cell : (at to : ℕ) → at < to → is_between s call name at to ≡ (is_some (cell_at s call name at) || is_between s call name (at + 1) to)
  unfolding is_between
  first_cell at to below =
      ap (λ n. list_any (λ address. is_some (cell_at s call name address)) (range_with_len at n))
      (let e : to - at ≡ suc (to - (at + 1)) = omega (arith, below) in e)

  no_cells : (at to : ℕ) → to ≤ at → is_between s call name at to ≡ false
  unfolding is_between
  no_cells at to past =
      ap (λ n. list_any (λ address. is_some (cell_at s call name address)) (range_with_len at n))
      (let e : to - at ≡ zero = omega (arith, past) in e)

  no_cell_no_line : (xs : List ℕ) → list_any (λ address. is_some (cell_at s call name address)) xs ≡ false → flat_map (line_at s call name) xs ≡ []
  no_cell_no_line [] e = refl
  no_cell_no_line (x ∷ xs) e =
      let two = none_of_two (is_some (cell_at s call name x)) (list_any (λ address. is_some (cell_at s call name address)) xs) e in
      ap (λ l. l ++ flat_map (line_at s call name) xs) (no_line s (sides_at call x) (cell_at s call name x) two.0) ∙ no_cell_no_line xs two.1

  -- where there is no cell there is no line
  pub no_cell_no_lines : (at to : ℕ) → is_between s call name at to ≡ false → lines_between s call name at to ≡ []
  unfolding is_between lines_between
  no_cell_no_lines at to e = no_cell_no_line (range_with_len at (to - at)) e

  -- one more address
  pub line_written : (at to : ℕ) (before after all : List ℕ) → at < to → after ≡ before ++ line_at s call name at
      → before ++ lines_between s call name at to ≡ all → after ++ lines_between s call name (at + 1) to ≡ all
  line_written at to before after all below written so_far =
      let rest = lines_between s call name (at + 1) to in
      ap (λ t. t ++ rest) written ∙ append_assoc before (line_at s call name at) rest ∙ ap (λ l. before ++ l) (sym (first_line at to below)) ∙ so_far

  pub cell_counted : (at to : ℕ) (some named next all : Bool) → at < to → named ≡ is_some (cell_at s call name at) → next ≡ (some || named)
      → (some || is_between s call name at to) ≡ all → (next || is_between s call name (at + 1) to) ≡ all
  cell_counted at to some named next all below is now so_far =
      let rest = is_between s call name (at + 1) to in
      ap (λ b. b || rest) now ∙ or_assoc some named rest ∙ ap (λ b. some || (b || rest)) is ∙ ap (λ b. some || b) (sym (first_cell at to below)) ∙ so_far

  -- no more addresses
  pub lines_end : (at to : ℕ) (out all : List ℕ) → to ≤ at → out ++ lines_between s call name at to ≡ all → out ≡ all
  lines_end at to out all past so_far = sym (append-nil out) ∙ ap (λ l. out ++ l) (sym (no_lines at to past)) ∙ so_far

  pub cells_end : (at to : ℕ) (some all : Bool) → to ≤ at → (some || is_between s call name at to) ≡ all → some ≡ all
  cells_end at to some all past so_far = sym (or_false some) ∙ ap (λ b. some || b) (sym (no_cells at to past)) ∙ so_far

  -- a cell that is named
  pub named_cell : (at : ℕ) (r : Root) → root_at s at ≡ Some r → is_named_by s r name ≡ true
      → cell_at s call name at ≡ if_cell (sides_at call at) r
  named_cell at r found named =
      let sides = sides_at call at in
      ap (named_root s name sides) found ∙ ap (λ b. if is_cell sides && b then Some r else None) named
      ∙ ap (λ b. if b then Some r else None) (and_true (is_cell sides))

  -- one that is not
  unnamed_cell : (at : ℕ) → is_named_at s name at ≡ false → cell_at s call name at ≡ None
  unfolding is_named_at
  unnamed_cell at e = unnamed_root s name (sides_at call at) (root_at s at) e

  pub unnamed_here : (at more : ℕ) → ((k : ℕ) → k ≤ more → is_named_at s name (at + k) ≡ false) → cell_at s call name at ≡ None
  unnamed_here at more none =
      unnamed_cell at (ap (is_named_at s name) (let e : at ≡ at + 0 = omega arith in e) ∙ none 0 (omega arith))

  lines_on_by : (at to : ℕ) (b : Bool) → nat_lt at to ≡ b → is_named_at s name at ≡ false
      → lines_between s call name at to ≡ lines_between s call name (at + 1) to
  lines_on_by at to true e none =
      first_line at to (grind (arith, nat_tests, e))
      ∙ ap (λ o. line_by s (sides_at call at) o ++ lines_between s call name (at + 1) to) (unnamed_cell at none)
  lines_on_by at to false e none =
      no_lines at to (grind (arith, nat_tests, e)) ∙ sym (no_lines (at + 1) to (grind (arith, nat_tests, e)))

  cells_on_by : (at to : ℕ) (b : Bool) → nat_lt at to ≡ b → is_named_at s name at ≡ false
      → is_between s call name at to ≡ is_between s call name (at + 1) to
  cells_on_by at to true e none =
      first_cell at to (grind (arith, nat_tests, e))
      ∙ ap (λ o. is_some o || is_between s call name (at + 1) to) (unnamed_cell at none)
  cells_on_by at to false e none =
      no_cells at to (grind (arith, nat_tests, e)) ∙ sym (no_cells (at + 1) to (grind (arith, nat_tests, e)))

  lines_passed : (n at to : ℕ) → ((k : ℕ) → k < n → is_named_at s name (at + k) ≡ false)
      → lines_between s call name at to ≡ lines_between s call name (at + n) to
  lines_passed zero at to none = ap (λ a. lines_between s call name a to) (let e : at ≡ at + 0 = omega arith in e)
  lines_passed (suc n) at to none =
      lines_on_by at to (nat_lt at to) refl (ap (is_named_at s name) (let e : at ≡ at + 0 = omega arith in e) ∙ none 0 (omega arith))
      ∙ lines_passed n (at + 1) to (λ k h. ap (is_named_at s name) (let e : (at + 1) + k ≡ at + suc k = omega arith in e) ∙ none (suc k) (omega (arith, h)))
      ∙ ap (λ a. lines_between s call name a to) (let e : (at + 1) + n ≡ at + suc n = omega arith in e)

  cells_passed : (n at to : ℕ) → ((k : ℕ) → k < n → is_named_at s name (at + k) ≡ false)
      → is_between s call name at to ≡ is_between s call name (at + n) to
  cells_passed zero at to none = ap (λ a. is_between s call name a to) (let e : at ≡ at + 0 = omega arith in e)
  cells_passed (suc n) at to none =
      cells_on_by at to (nat_lt at to) refl (ap (is_named_at s name) (let e : at ≡ at + 0 = omega arith in e) ∙ none 0 (omega arith))
      ∙ cells_passed n (at + 1) to (λ k h. ap (is_named_at s name) (let e : (at + 1) + k ≡ at + suc k = omega arith in e) ∙ none (suc k) (omega (arith, h)))
      ∙ ap (λ a. is_between s call name a to) (let e : (at + 1) + n ≡ at + suc n = omega arith in e)

  -- after one address this many more are passed over
  pub after_passed : (at next to more : ℕ) (before all : List ℕ) → at + 1 ≤ next → next ≤ at + 1 + more
      → ((k : ℕ) → 0 < k → k ≤ more → is_named_at s name (at + k) ≡ false)
      → before ++ lines_between s call name (at + 1) to ≡ all → before ++ lines_between s call name next to ≡ all
  after_passed at next to more before all above below none so_far =
      let e : (at + 1) + (next - (at + 1)) ≡ next = omega (arith, above) in
      ap (λ l. before ++ l) (sym (lines_passed (next - (at + 1)) (at + 1) to
      (λ k h. ap (is_named_at s name) (let f : (at + 1) + k ≡ at + (1 + k) = omega arith in f) ∙ none (1 + k) (omega arith) (omega (arith, h, above, below)))
      ∙ ap (λ a. lines_between s call name a to) e)) ∙ so_far

  pub counted_passed : (at next to more : ℕ) (some all : Bool) → at + 1 ≤ next → next ≤ at + 1 + more
      → ((k : ℕ) → 0 < k → k ≤ more → is_named_at s name (at + k) ≡ false)
      → (some || is_between s call name (at + 1) to) ≡ all → (some || is_between s call name next to) ≡ all
  counted_passed at next to more some all above below none so_far =
      let e : (at + 1) + (next - (at + 1)) ≡ next = omega (arith, above) in
      ap (λ b. some || b) (sym (cells_passed (next - (at + 1)) (at + 1) to
      (λ k h. ap (is_named_at s name) (let f : (at + 1) + k ≡ at + (1 + k) = omega arith in f) ∙ none (1 + k) (omega arith) (omega (arith, h, above, below)))
      ∙ ap (λ a. is_between s call name a to) e)) ∙ so_far
