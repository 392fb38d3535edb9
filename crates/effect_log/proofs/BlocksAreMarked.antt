-- The cells of a block are marked one after another.
use Rattle.std.proofs.Common.{◌&&◌, ◌+◌, ◌==◌, ◌∙◌, ◌≡◌, ◌≢◌, ◌≤◌, ℕ, Bool, ap, arith, cond, false, inl, inr, nat_le, nat_lt, refl, sym, true}
use Rattle.std.proofs.lemmas.Bool.Decides.{eqb_tells, nat_tests}
use Rattle.cell_value.specs.Effects.{is_shared}
use Rattle.effect_log.specs.{Marks.MarksCells, Marks.block_mark, Marks.change_mark, Pages.cell_at, declared.cells.Cell.Cell, declared.cells.Pages.Pages}

either : {X : Type 0} (b : Bool) (x y : X) → x ≡ y → x ≡ cond b y x
either true x y e = e
either false x y e = refl

module _ (number first addr : ℕ) where
  pub block_begins : (base : ℕ) (pages : Pages) → MarksCells base (block_mark number first first) pages pages
  block_begins base pages = record {
    at = λ q.
        let out : (nat_le first q && nat_lt q first) ≡ false = grind (arith, nat_tests) in
        either (is_shared base q) (cell_at pages q) (block_mark number first first q (cell_at pages q))
        (ap (λ b. cond b (change_mark number (cell_at pages q)) (cell_at pages q)) (sym out));
  }

  one_more : (q : ℕ) (was mid next : Cell) → first ≤ addr → mid ≡ block_mark number first addr q was → next ≡ cond (addr == q) (change_mark number mid) mid
      → next ≡ block_mark number first (addr + 1) q was
  one_more q was mid next from so_far last = elim (eqb_tells addr q) [
    | inl h ↦
        let same : addr ≡ q = h.1 in
        let out : (nat_le first q && nat_lt q addr) ≡ false = grind (arith, nat_tests) in
        let inside : (nat_le first q && nat_lt q (addr + 1)) ≡ true = grind (arith, nat_tests) in
        let unchanged : mid ≡ was = so_far ∙ ap (λ b. cond b (change_mark number was) was) out in
        last ∙ ap (λ b. cond b (change_mark number mid) mid) h.0 ∙ ap (change_mark number) unchanged
        ∙ ap (λ b. cond b (change_mark number was) was) (sym inside)
    | inr h ↦
        let other : addr ≢ q = h.1 in
        let same : nat_lt q addr ≡ nat_lt q (addr + 1) = grind (arith, nat_tests) in
        last ∙ ap (λ b. cond b (change_mark number mid) mid) h.0 ∙ so_far
        ∙ ap (λ b. cond (nat_le first q && b) (change_mark number was) was) same
  ]

  on_shared : (b : Bool) (q : ℕ) (was mid next : Cell) → first ≤ addr → mid ≡ cond b (block_mark number first addr q was) was
      → next ≡ cond b (cond (addr == q) (change_mark number mid) mid) mid → next ≡ cond b (block_mark number first (addr + 1) q was) was
  on_shared true q was mid next from so_far last = one_more q was mid next from so_far last
  on_shared false q was mid next from so_far last = last ∙ so_far

  pub block_goes_on : (base : ℕ) (old mid new : Pages) → first ≤ addr → MarksCells base (block_mark number first addr) old mid
      → MarksCells base (λ q cell. cond (addr == q) (change_mark number cell) cell) mid new → MarksCells base (block_mark number first (addr + 1)) old new
  block_goes_on base old mid new from so_far last = record {
    at = λ q. on_shared (is_shared base q) q (cell_at old q) (cell_at mid q) (cell_at new q) from (so_far.at q) (last.at q);
  }
