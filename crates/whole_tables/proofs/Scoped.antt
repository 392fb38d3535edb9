-- The test of scopes says that the records are there which constructs need.
use Rattle.std.proofs.Common.{◌+◌, ◌<◌, ◌∷◌, ◌≡◌, ◌≤◌, [], ℕ, List, arith, inl, inr, length, nat_eq, nat_le, nat_lt, subst, suc, sym, true, zero}
use Rattle.std.proofs.lemmas.Bool.Decides.{nat_tests}
use Rattle.core_program.proofs.{ActionsMeant.no, WholeActions.below_length, WholeParts.and_both}
use Rattle.core_program.specs.ProgramRows.{ProgramRows, row_at}
use Rattle.core_program.specs.WholeTables.{Each, ScopedItem, ScopedRecords, ScopedRow, parts_of}
use Rattle.core_program.specs.declared.rows.{AccessRow.AccessRow, ItemRow.ItemRow, Row.Row, StatementRow.StatementRow}
use Rattle.whole_tables.proofs.RowsFit.{below}
use Rattle.whole_tables.specs.Fits.{all_below}
use Rattle.whole_tables.specs.Scopes.{each_of, element_of, needed, scoped_item, scoped_records, scoped_row}

less : (a b : ℕ) → nat_lt a b ≡ true → a < b
less a b h = grind (arith, nat_tests)

at_most : (a b : ℕ) → nat_le a b ≡ true → a ≤ b
at_most a b h = grind (arith, nat_tests)

pub same : (a b : ℕ) → nat_eq a b ≡ true → a ≡ b
same a b h = grind (arith, nat_tests)

module _ (p : ProgramRows) (column : List ℕ) where
  each_means : (w : ℕ) (ns : List ℕ) → each_of (λ n. nat_le (needed column n) w) ns ≡ true → Each (λ n. needed column n ≤ w) ns
  each_means w [] h = tt
  each_means w (n ∷ ns) h =
      let b = and_both (nat_le (needed column n) w) (each_of (λ m. nat_le (needed column m) w) ns) h in
      (at_most (needed column n) w b.0, each_means w ns b.1)

  item_means : (n w body : ℕ) → ((v next : ℕ) → scoped_records p column n v next body ≡ true → ScopedRecords p (needed column) n v next body)
      → (r : Row) → scoped_item column (λ v next. scoped_records p column n v next body) w body (element_of r) ≡ true
      → ScopedItem (needed column) (λ v next. ScopedRecords p (needed column) n v next body) w body r
  item_means n w body more (Row.Item (ItemRow.Element a next)) h =
      let b = and_both (nat_le (needed column a) w) (scoped_records p column n (w + 1) next body) h in
      (at_most (needed column a) w b.0, more (w + 1) next b.1)
  item_means n w body more r h = at_most (needed column body) w h

  records_mean : (n w at body : ℕ) → scoped_records p column n w at body ≡ true → ScopedRecords p (needed column) n w at body
  records_mean zero w at body h = no h
  records_mean (suc n) w at body h = item_means n w body (λ v next. records_mean n v next body) (row_at p at) h

  pub scope_means : (at : ℕ) (r : Row) → scoped_row p column (length p.rows) at r ≡ true → ScopedRow p (needed column) at r
  scope_means at (Row.Access (AccessRow.Within record' field of')) h = less record' (needed column at) h
  scope_means at (Row.Statement (StatementRow.With line records body)) h =
      records_mean (length p.rows) (needed column at) records body h
  scope_means at r h = each_means (needed column at) (parts_of r) h

  pub scopes_mean : all_below (length p.rows) (λ at. scoped_row p column (length p.rows) at (row_at p at)) ≡ true
      → (at : ℕ) → ScopedRow p (needed column) at (row_at p at)
  scopes_mean h at = elim (below_length p.rows at) [
    | inl e ↦ subst (λ r. ScopedRow p (needed column) at r) (sym e) tt
    | inr l ↦ scope_means at (row_at p at) (below (length p.rows) (λ n. scoped_row p column (length p.rows) n (row_at p n)) h at l)
  ]
