-- The test of rows says what rows have to be.
use Rattle.std.proofs.Common.{◌&&◌, ◌<◌, ◌||◌, ◌∙◌, ◌≡◌, ◌⊎◌, ℕ, Bool, None, Option, Some, ap, arith, false, inl, inr, length, nat_lt, not, refl, subst, suc}
use Rattle.std.proofs.{Common.sym, Common.true, Common.zero, lemmas.Bool.cases_lt}
use Rattle.core_program.proofs.{ActionsMeant.no, WholeActions.below_length, WholeParts.and_both}
use Rattle.core_program.specs.{ProgramRows.ProgramRows, ProgramRows.row_at, ProgramRows.type_at, WholeTables.is_written_item}
use Rattle.core_program.specs.WholeTables.{AccessFits, ExpressionFits, Goes, ItemFits, NameFits, PartFits, RowFits, StatementFits, TypeFits, WrittenFits}
use Rattle.core_program.specs.WholeTables.{is_actual_item, is_cells, is_choice_of, is_conformant, is_element_of, is_list, is_member_item, is_read_access}
use Rattle.core_program.specs.WholeTables.{is_record_access, is_result_type, is_scalar, is_section_item, is_statement, is_type, is_variant, is_variants_row}
use Rattle.core_program.specs.declared.rows.{AccessRow.AccessRow, ExpressionRow.ExpressionRow, ItemRow.ItemRow, NameRow.NameRow, PartRow.PartRow, Row.Row}
use Rattle.core_program.specs.declared.rows.{StatementRow.StatementRow, TypeRow.TypeRow}
use Rattle.whole_tables.specs.Fits.{access_fits, all_below, choices_go, elements_go, expression_fits, for_some, goes, item_fits, name_fits, part_fits, row_fits}
use Rattle.whole_tables.specs.Fits.{statement_fits, type_fits, written_fits}

-- ---- tests taken apart

both : (a b : Bool) → (a && b) ≡ true → (a ≡ true) × (b ≡ true)
both = and_both

pub three : (a b c : Bool) → (a && b && c) ≡ true → (a ≡ true) × (b ≡ true) × (c ≡ true)
three true true true h = (refl, refl, refl)
three true true false h = no h
three true false c h = no h
three false b c h = no h

pub four : (a b c d : Bool) → (a && b && c && d) ≡ true → (a ≡ true) × (b ≡ true) × (c ≡ true) × (d ≡ true)
four true true true true h = (refl, refl, refl, refl)
four true true true false h = no h
four true true false d h = no h
four true false c d h = no h
four false b c d h = no h

five : (a b c d e : Bool) → (a && b && c && d && e) ≡ true → (a ≡ true) × (b ≡ true) × (c ≡ true) × (d ≡ true) × (e ≡ true)
five true true true true true h = (refl, refl, refl, refl, refl)
five true true true true false h = no h
five true true true false e h = no h
five true true false d e h = no h
five true false c d e h = no h
five false b c d e h = no h

-- where one holds, so does the other
onward : (a b : Bool) → (not a || b) ≡ true → a ≡ true → b ≡ true
onward true b h k = h
onward false b h k = no k

some_holds : (o : Option ℕ) (test : ℕ → Bool) → for_some o test ≡ true → (n : ℕ) → o ≡ Some n → test n ≡ true
some_holds None test h n e = absurd (let z : None ≡ Some n = e in cc)
some_holds (Some m) test h n e = let q : m ≡ n = (let z : Some m ≡ Some n = e in cc) in sym (ap test q) ∙ h

-- ---- rows

module _ (p : ProgramRows) (at : ℕ) where
  goes_on : (is_item : Row → Bool) (next : ℕ) → goes is_item p at next ≡ true → Goes is_item p at next
  goes_on is_item next h = both (is_list is_item p next) _ h

  elements_mean : (fits : ℕ → Bool) (x next : ℕ) → elements_go fits p at x next ≡ true → fits x ≡ true → Goes (is_element_of fits) p at next
  elements_mean fits x next h k = goes_on (is_element_of fits) next (onward (fits x) _ h k)

  choices_mean : (fits : ℕ → Bool) (x next : ℕ) → choices_go fits p at x next ≡ true → fits x ≡ true → Goes (is_choice_of fits) p at next
  choices_mean fits x next h k = goes_on (is_choice_of fits) next (onward (fits x) _ h k)

  type_means : (t : TypeRow) → type_fits p at t ≡ true → TypeFits p at t
  type_means (TypeRow.Ordinal least greatest) h = tt
  type_means (TypeRow.Subrange host least greatest) h = h
  type_means (TypeRow.Set packed base) h = h
  type_means (TypeRow.Pointer domain) h = h
  type_means (TypeRow.Array packed index component cells) h = both _ _ h
  type_means (TypeRow.Conformant packed index component place) h =
      let b = three _ (is_type p component) (not (is_conformant p component) || nat_lt at component) h in (b.0, b.1, onward (is_conformant p component) _ b.2)
  type_means (TypeRow.Record packed region cells variants) h = some_holds variants (λ v. is_variants_row (row_at p v)) h

  name_means : (n : NameRow) → name_fits p n ≡ true → NameFits p n
  name_means (NameRow.Constant of' value) h = h
  name_means (NameRow.Text token) h = h
  name_means (NameRow.TypeName of') h = h
  name_means (NameRow.Variable mode of' place level) h = h
  name_means (NameRow.Bound of' place level) h = h
  name_means (NameRow.RoutineFormal place level heading) h = h
  name_means (NameRow.Field of' offset holder) h = both _ _ h
  name_means (NameRow.Tag of' offset holder variants) h = three _ _ _ h
  name_means (NameRow.Routine assigned number region) h = h
  name_means (NameRow.Required routine) h = tt
  name_means (NameRow.TextFile file) h = tt
  name_means (NameRow.Label marked value level ways) h = tt

  part_means : (q : PartRow) → part_fits p at q ≡ true → PartFits p at q
  part_means (PartRow.Variants hidden offset cells values holder) h = three _ _ _ h
  part_means (PartRow.Variant variants position) h = both _ _ h
  part_means (PartRow.Heading name sections result) h =
      let b = both (goes is_section_item p at sections) (for_some result (λ t. is_result_type (type_at p t))) h in
      (goes_on is_section_item sections b.0, some_holds result (λ t. is_result_type (type_at p t)) b.1)
  part_means (PartRow.Forward function block) h = tt
  part_means (PartRow.Completing first) h = tt

  statement_means : (s : StatementRow) → statement_fits p at s ≡ true → StatementFits p at s
  statement_means StatementRow.Empty h = tt
  statement_means (StatementRow.Assign line target value of') h = both _ _ h
  statement_means (StatementRow.Call line routine levels actuals) h = both _ _ h
  statement_means (StatementRow.CallFormal line formal levels actuals) h = both _ _ h
  statement_means (StatementRow.Goto line label levels) h = tt
  statement_means (StatementRow.Labelled label s) h = both _ _ h
  statement_means (StatementRow.Compound statements) h = h
  statement_means (StatementRow.If line condition then') h = both _ _ h
  statement_means (StatementRow.IfElse line condition then' otherwise) h = three _ _ _ h
  statement_means (StatementRow.Case line selector choices) h = both _ _ h
  statement_means (StatementRow.Repeat line statements condition) h = both _ _ h
  statement_means (StatementRow.While line condition body) h = both _ _ h
  statement_means (StatementRow.For line initial turns) h = both _ _ h
  statement_means (StatementRow.Turns direction last place of' body) h = three _ _ _ h
  statement_means (StatementRow.With line records body) h = both _ _ h
  statement_means (StatementRow.Read ends_line line actuals) h = h
  statement_means (StatementRow.Write ends_line line actuals) h = h
  statement_means (StatementRow.Page line) h = tt
  statement_means (StatementRow.New line a of') h = both _ _ h
  statement_means (StatementRow.Dispose line v of') h = both _ _ h
  statement_means (StatementRow.Pack packing line unpacked index packed) h = three _ _ _ h

  expression_means : (e : ExpressionRow) → expression_fits p e ≡ true → ExpressionFits p e
  expression_means (ExpressionRow.Constant value) h = tt
  expression_means (ExpressionRow.Text token) h = h
  expression_means ExpressionRow.Nil h = tt
  expression_means (ExpressionRow.Sign minus operand) h = h
  expression_means (ExpressionRow.Not operand) h = h
  expression_means (ExpressionRow.Arithmetic operator left right) h = both _ _ h
  expression_means (ExpressionRow.Logic operator left right) h = both _ _ h
  expression_means (ExpressionRow.Sets operator left right) h = both _ _ h
  expression_means (ExpressionRow.Compare order left right) h = both _ _ h
  expression_means (ExpressionRow.CompareTexts order left right) h = both _ _ h
  expression_means (ExpressionRow.CompareSets order left right) h = both _ _ h
  expression_means (ExpressionRow.ComparePointers equal left right) h = both _ _ h
  expression_means (ExpressionRow.In left right) h = both _ _ h
  expression_means (ExpressionRow.Set members) h = h
  expression_means (ExpressionRow.Apply routine levels actuals) h = both _ _ h
  expression_means (ExpressionRow.ApplyFormal formal levels actuals) h = both _ _ h
  expression_means (ExpressionRow.Function function operand least greatest) h = h
  expression_means ExpressionRow.Eof h = tt
  expression_means ExpressionRow.Eoln h = tt

  access_means : (a : AccessRow) → access_fits p at a ≡ true → AccessFits p at a
  access_means (AccessRow.Variable place levels of') h = h
  access_means (AccessRow.Reference place levels of') h = h
  access_means (AccessRow.Conformant place levels of') h = h
  access_means (AccessRow.Component inner index array of') h = five _ _ _ _ _ h
  access_means (AccessRow.Within record' field of') h = both _ _ h
  access_means (AccessRow.Index inner index array of') h = five _ _ _ _ _ h
  access_means (AccessRow.Field inner field of') h = four _ _ _ _ h
  access_means (AccessRow.Dereference inner of') h = three _ _ _ h

  written_means : (value of' : ℕ) → written_fits p value of' ≡ true → WrittenFits p value of'
  written_means value of' h = let b = both (is_scalar p value || is_cells p value) _ h in (b.0, onward (is_scalar p value) _ b.1)

  item_means : (i : ItemRow) → item_fits p at i ≡ true → ItemFits p at i
  item_means (ItemRow.Element x next) h =
      let b = three (elements_go (is_statement p) p at x next) (elements_go (is_record_access p) p at x next)
      (elements_go (is_read_access p) p at x next) h in (
        elements_mean (is_statement p) x next b.0,
        elements_mean (is_record_access p) x next b.1,
        elements_mean (is_read_access p) x next b.2,
      )
  item_means (ItemRow.Value v of' next) h = let b = both _ (goes is_actual_item p at next) h in (b.0, goes_on is_actual_item next b.1)
  item_means (ItemRow.Place a next) h = let b = both _ (goes is_actual_item p at next) h in (b.0, goes_on is_actual_item next b.1)
  item_means (ItemRow.ArrayPlace first a of' next) h =
      let b = three _ _ (goes is_actual_item p at next) h in (b.0, b.1, goes_on is_actual_item next b.2)
  item_means (ItemRow.ArrayValue first v of' next) h =
      let b = three _ _ (goes is_actual_item p at next) h in (b.0, b.1, goes_on is_actual_item next b.2)
  item_means (ItemRow.Routine routine levels next) h = let b = both _ (goes is_actual_item p at next) h in (b.0, goes_on is_actual_item next b.1)
  item_means (ItemRow.RoutineFormal formal levels next) h = let b = both _ (goes is_actual_item p at next) h in (b.0, goes_on is_actual_item next b.1)
  item_means (ItemRow.Written v of' next) h =
      let b = both (written_fits p v of') (goes is_written_item p at next) h in (written_means v of' b.0, goes_on is_written_item next b.1)
  item_means (ItemRow.WrittenWide v of' width next) h =
      let b = three (written_fits p v of') _ (goes is_written_item p at next) h in (written_means v of' b.0, b.1, goes_on is_written_item next b.2)
  item_means (ItemRow.Member v next) h = let b = both _ (goes is_member_item p at next) h in (b.0, goes_on is_member_item next b.1)
  item_means (ItemRow.Members first last next) h = let b = three _ _ (goes is_member_item p at next) h in (b.0, b.1, goes_on is_member_item next b.2)
  item_means (ItemRow.Choice value chosen next) h =
      let b = both (choices_go (is_statement p) p at chosen next) (choices_go (is_variant p) p at chosen next) h in
      (choices_mean (is_statement p) chosen next b.0, choices_mean (is_variant p) chosen next b.1)
  item_means (ItemRow.Section mode first count next) h = let b = both _ (goes is_section_item p at next) h in (b.0, goes_on is_section_item next b.1)
  item_means (ItemRow.RoutineSection heading next) h =
      let b = three _ _ (goes is_section_item p at next) h in (b.0, b.1, goes_on is_section_item next b.2)

  pub row_means : (r : Row) → row_fits p at r ≡ true → RowFits p at r
  row_means Row.Nothing h = tt
  row_means (Row.Type t) h = type_means t h
  row_means (Row.Name n) h = name_means n h
  row_means (Row.Part q) h = part_means q h
  row_means (Row.Statement s) h = statement_means s h
  row_means (Row.Expression e) h = expression_means e h
  row_means (Row.Access a) h = access_means a h
  row_means (Row.Item i) h = item_means i h

-- ---- all rows

-- a number below the next one is that one or below it
pub last_or_below : (i n : ℕ) → i < suc n → (i ≡ n) ⊎ (i < n)
last_or_below i n l = elim (cases_lt i n) [ inl k ↦ inr k | inr k ↦ inl (omega (arith, l, k)) ]

pub below : (n : ℕ) (test : ℕ → Bool) → all_below n test ≡ true → (i : ℕ) → i < n → test i ≡ true
below zero test h i l = absurd (omega (arith, l))
below (suc n) test h i l =
    let b = both (test n) (all_below n test) h in
    elim (last_or_below i n l) [ inl e ↦ ap test e ∙ b.0 | inr k ↦ below n test b.1 i k ]

pub rows_mean : (p : ProgramRows) → all_below (length p.rows) (λ at. row_fits p at (row_at p at)) ≡ true
    → (at : ℕ) → RowFits p at (row_at p at)
rows_mean p h at = elim (below_length p.rows at) [
  | inl e ↦ subst (λ r. RowFits p at r) (sym e) tt
  | inr l ↦ row_means p at (row_at p at) (below (length p.rows) (λ n. row_fits p n (row_at p n)) h at l)
]
