-- Items of lists, one after another: as many as there are rows are enough to look at.
use Rattle.std.proofs.Common.{if◌then◌else◌, ◌+◌, ◌<◌, ◌==◌, ◌∙◌, ◌≡◌, ◌≤◌, ℕ, ℤ, Bool, None, Option, Some, ap, arith, eqb-true, false, inl, inr, length}
use Rattle.std.proofs.Common.{ltb-true, nat_lt, pos, refl, suc, sym, true, unwrap_or, zero}
use Rattle.std.proofs.lemmas.{Bool.cases_Bool, Bool.Decides.Decides-eqb, Bool.Decides.Decides-int_eq, Bool.Decides.same_from_decides, Option.slice_get_past}
use Rattle.std.specs.Ordering.{int_eq}
use Rattle.core_program.specs.{ProgramRows.ProgramRows, ProgramRows.row_at, WholeTables.is_end}
use Rattle.core_program.specs.Choices.{Sought, along, choice_along, choice_of, choose_at, on_to}
use Rattle.core_program.specs.Lists.{constant_in, is_key, item_at, label_in, looked, sought_along, statement_in}
use Rattle.core_program.specs.Statements.{has_label, item_labelled, label_along, labelled_in}
use Rattle.core_program.specs.declared.{rows.ItemRow.ItemRow, rows.Row.Row, rows.StatementRow.StatementRow, search.ListItem.ListItem, search.ListKind.ListKind}

-- what is looked for goes on only with items that stand after, and finds nothing at what is no row
record LooksOn (rows : ℕ) (look : ℕ → (ℕ → Sought) → Sought) : Type 0 where
  same : (at : ℕ) (go go' : ℕ → Sought) → ((next : ℕ) → at < next → go next ≡ go' next) → look at go ≡ look at go'
  past : (at : ℕ) (go : ℕ → Sought) → rows ≤ at → look at go ≡ None

module _ {rows : ℕ} {look : ℕ → (ℕ → Sought) → Sought} (on : LooksOn rows look) where
  enough : (n m at : ℕ) → rows ≤ at + n → rows ≤ at + m → along look n at ≡ along look m at
  enough zero zero at h k = refl
  enough zero (suc m) at h k = sym (on.past at (along look m) (omega arith))
  enough (suc n) zero at h k = on.past at (along look n) (omega arith)
  enough (suc n) (suc m) at h k = on.same at _ _ (λ next l. enough n m next (omega arith) (omega arith))

  one_more : (at : ℕ) → along look rows at ≡ look at (along look rows)
  one_more at = enough rows (suc rows) at (omega arith) (omega arith)

-- what comes after an item counts only where it stands after it
by_tests : (a e b : Bool) (x y u v : Sought) → (b ≡ true → u ≡ v)
    → (if a then x else if e then y else if b then u else None) ≡ (if a then x else if e then y else if b then v else None)
by_tests true e b x y u v h = refl
by_tests false true b x y u v h = refl
by_tests false false true x y u v h = h refl
by_tests false false false x y u v h = refl

module _ (p : ProgramRows) (wanted : ℤ) where
  looked_same : (o : Option ListItem) (at : ℕ) (go go' : ℕ → Sought) → ((next : ℕ) → at < next → go next ≡ go' next)
      → looked at o wanted go ≡ looked at o wanted go'
  looked_same None at go go' h = refl
  looked_same (Some item) at go go' h =
      by_tests (is_key item.key wanted) (is_end item.next) (nat_lt at item.next) (Some (Some item.found)) (Some None) (go item.next) (go' item.next)
      (λ e. h item.next (ltb-true at item.next e))

  none_past : (kind : ListKind) (at : ℕ) → length p.rows ≤ at → item_at p kind at ≡ None
  none_past ListKind.Constants at h = ap (λ r. constant_in (unwrap_or r Row.Nothing)) (slice_get_past p.rows at h)
  none_past ListKind.Statements at h = ap (λ r. statement_in p at (unwrap_or r Row.Nothing)) (slice_get_past p.rows at h)

  pub one_item : (kind : ListKind) (at : ℕ) → sought_along p kind (length p.rows) at wanted
      ≡ looked at (item_at p kind at) wanted (λ next. sought_along p kind (length p.rows) next wanted)
  one_item kind at = one_more (record {
    same = λ at. looked_same (item_at p kind at) at;
    past = λ at go h. ap (λ o. looked at o wanted go) (none_past kind at h);
  }) at

-- ---- the search for a constant, and that for a label

choice_looked : (r : Row) (at : ℕ) (wanted : ℤ) (go : ℕ → Sought) → choose_at r at wanted go ≡ looked at (constant_in r) wanted go
choice_looked (Row.Item (ItemRow.Choice value chosen next)) at wanted go = refl
choice_looked r at wanted go = refl

pub constants_along : (p : ProgramRows) (n at : ℕ) (wanted : ℤ) → choice_along p n at wanted ≡ sought_along p ListKind.Constants n at wanted
constants_along p zero at wanted = refl
constants_along p (suc n) at wanted =
    choice_looked (row_at p at) at wanted (λ next. choice_along p n next wanted)
    ∙ ap (looked at (constant_in (row_at p at)) wanted) (λ i next. constants_along p n next wanted i)

pos_one : (a b : ℕ) → pos a ≡ pos b → a ≡ b
pos_one a b e = cc

same_label : (a b : ℕ) → (a == b) ≡ int_eq (pos a) (pos b)
same_label a b =
    let d = Decides-int_eq (pos a) (pos b) in
    same_from_decides {P = a ≡ b} (a == b) (int_eq (pos a) (pos b)) (Decides-eqb a b) (λ t. pos_one a b (d.0 t), λ e. d.1 (ap pos e))

label_key : (r : Row) (label : ℕ) → has_label r label ≡ is_key (label_in r) (pos label)
label_key (Row.Statement (StatementRow.Labelled own inner)) label = same_label own label
label_key r label = refl

label_looked : (p : ProgramRows) (r : Row) (at label : ℕ) (go : ℕ → Sought) → item_labelled p r at label go ≡ looked at (statement_in p at r) (pos label) go
label_looked p (Row.Item (ItemRow.Element s next)) at label go =
    ap (λ b. if b then Some (Some at) else on_to at next go) (label_key (row_at p s) label)
label_looked p r at label go = refl

pub labels_along : (p : ProgramRows) (n at label : ℕ) → label_along p n at label ≡ sought_along p ListKind.Statements n at (pos label)
labels_along p zero at label = refl
labels_along p (suc n) at label =
    label_looked p (row_at p at) at label (λ next. label_along p n next label)
    ∙ ap (looked at (statement_in p at (row_at p at)) (pos label)) (λ i next. labels_along p n next label i)

-- ---- what the code found

not_end : (at : ℕ) → (at ≡ 0 → ⊥) → is_end at ≡ false
not_end at ne = elim (cases_Bool (is_end at)) [ inl t ↦ absurd (ne (eqb-true at 0 t)) | inr f ↦ f ]

pub choice_found : (p : ProgramRows) (n at : ℕ) (wanted : ℤ) (o : Sought) → (at ≡ 0 → ⊥) → o ≡ sought_along p ListKind.Constants n at wanted
    → o ≡ choice_of p n at wanted
choice_found p n at wanted o ne e =
    e ∙ sym (ap (λ b. if b then Some None else choice_along p n at wanted) (not_end at ne) ∙ constants_along p n at wanted)

pub label_found : (p : ProgramRows) (n at label : ℕ) (o : Sought) → (at ≡ 0 → ⊥) → o ≡ sought_along p ListKind.Statements n at (pos label)
    → o ≡ labelled_in p n at label
label_found p n at label o ne e =
    e ∙ sym (ap (λ b. if b then Some None else label_along p n at label) (not_end at ne) ∙ labels_along p n at label)

pub ruleset found = (choice_found, label_found)
