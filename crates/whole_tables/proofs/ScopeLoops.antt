-- One record further in the list of a with statement.
use Rattle.std.proofs.Common.{◌&&◌, ◌+◌, ◌-◌, ◌<◌, ◌∙◌, ◌≡◌, ℕ, List, None, Option, Some, ap, arith, false, nat_le, suc, true}
use Rattle.core_program.specs.ProgramRows.{ProgramRows, row_at}
use Rattle.whole_tables.specs.Scopes.{element_of, needed, scoped_item, scoped_records}

module _ (p : ProgramRows) (column : List ℕ) (n i w at body : ℕ) where
  further : i < n → scoped_records p column (n - i) (w + i) at body
      ≡ scoped_item column (λ v next. scoped_records p column (n - (i + 1)) v next body) (w + i) body (element_of (row_at p at))
  further below =
      let e : n - i ≡ suc (n - (i + 1)) = omega (arith, below) in
      ap (λ m. scoped_records p column m (w + i) at body) e

  at_element : (o : Option (ℕ × ℕ)) (e : ℕ × ℕ) → o ≡ Some e → scoped_item column (λ v next. scoped_records p column (n - (i + 1)) v next body) (w + i) body o
      ≡ (nat_le (needed column e.0) (w + i) && scoped_records p column (n - (i + 1)) ((w + i) + 1) e.1 body)
  at_element o e h = ap (λ x. scoped_item column (λ v next. scoped_records p column (n - (i + 1)) v next body) (w + i) body x) h

  pub records-onward : (e : ℕ × ℕ) → i < n → element_of (row_at p at) ≡ Some e → nat_le (needed column e.0) (w + i) ≡ true
      → scoped_records p column (n - i) (w + i) at body ≡ scoped_records p column (n - (i + 1)) (w + (i + 1)) e.1 body
  records-onward e below h fits =
      let q : (w + i) + 1 ≡ w + (i + 1) = omega arith in
      further below ∙ at_element (element_of (row_at p at)) e h
      ∙ ap (λ b. b && scoped_records p column (n - (i + 1)) ((w + i) + 1) e.1 body) fits
      ∙ ap (λ v. scoped_records p column (n - (i + 1)) v e.1 body) q

  pub records-short : (e : ℕ × ℕ) → i < n → element_of (row_at p at) ≡ Some e → nat_le (needed column e.0) (w + i) ≡ false
      → scoped_records p column (n - i) (w + i) at body ≡ false
  records-short e below h short =
      further below ∙ at_element (element_of (row_at p at)) e h
      ∙ ap (λ b. b && scoped_records p column (n - (i + 1)) ((w + i) + 1) e.1 body) short

  pub records-inside : i < n → element_of (row_at p at) ≡ None → scoped_records p column (n - i) (w + i) at body ≡ nat_le (needed column body) (w + i)
  records-inside below h =
      further below
      ∙ ap (λ x. scoped_item column (λ v next. scoped_records p column (n - (i + 1)) v next body) (w + i) body x) h

  pub records-nowhere : n - i ≡ 0 → scoped_records p column (n - i) (w + i) at body ≡ false
  records-nowhere over = ap (λ m. scoped_records p column m (w + i) at body) over

pub ruleset record_loops = (records-short, records-inside, records-nowhere)
