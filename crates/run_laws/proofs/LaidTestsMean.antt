-- Whole tables that pass the test are laid out.
use Rattle.std.proofs.Common.{◌&&◌, ◌+◌, ◌<◌, ◌||◌, ◌∙◌, ◌∷◌, ◌≡◌, [], ℕ, Bool, List, None, Option, Some, ap, arith, eqb-true, false, inl, inr, is_none}
use Rattle.std.proofs.Common.{is_some, length, min, nat_eq, nat_le, nat_lt, refl, slice_get, subst, suc, sym, true, zero}
use Rattle.std.proofs.lemmas.Bool.Decides.{nat_tests}
use Rattle.core_program.proofs.{ActionsMeant.no, WholeActions.below_length, WholeParts.and_both, WholeParts.or_second}
use Rattle.core_program.proofs.OutcomesCompose.{none_some, some_same}
use Rattle.core_program.specs.{Headings.heading_in, Headings.signature_in, WholeTables.WholeTables, declared.program.Routine.Routine}
use Rattle.core_program.specs.ProgramRows.{ProgramRows, routine_at, row_at, size_of}
use Rattle.core_program.specs.declared.rows.{ExpressionRow.ExpressionRow, ItemRow.ItemRow, NameRow.NameRow, PartRow.PartRow, Row.Row, StatementRow.StatementRow}
use Rattle.whole_tables.{proofs.RowsFit.below, specs.Fits.all_below}
use Rattle.run_laws.proofs.{PlacesStand.heading_ends, PlacesStand.heading_stands, SchemasCounted.schema_means}
use Rattle.run_laws.proofs.PassedMeet.{heading_met, passed_all, unrolled}
use Rattle.run_laws.specs.LaidOut.{ActualPasses, AllStand, BlockStands, CallPasses, LaidOut, RoutineHolds, after_result, all_behind, cells_given, is_at_token}
use Rattle.run_laws.specs.LaidOut.{most_cells, most_tokens, some_has}
use Rattle.run_laws.specs.LaidTests.{are_laid, block_laid, ends_at, first_stands, formal_takes, given_is, has_no_heading, heading_end, is_next, item_laid}
use Rattle.run_laws.specs.LaidTests.{routine_laid, routine_takes, row_laid, sections_in}
use Rattle.run_laws.specs.ParameterPieces.{ParameterPiece, heading_pieces, pieces_cells, signature_pieces, signature_tokens}

given_means : (o : Option ℕ) (n : ℕ) → given_is o n ≡ true → o ≡ Some n
given_means None n h = no h
given_means (Some m) n h = ap Some (eqb-true m n h)

next_means : (o : Option ℕ) (parameters : ℕ) → is_next o parameters ≡ true → (place : ℕ) → o ≡ Some place → place ≡ parameters
next_means None parameters h place e = absurd (none_some e)
next_means (Some n) parameters h place e = sym (some_same e) ∙ eqb-true n parameters h

there : (o : Option ℕ) → is_some o ≡ true → (n : ℕ) × (o ≡ Some n)
there None h = no h
there (Some n) h = (n, refl)

inside : (rs : List Routine) (n : ℕ) (r : Routine) → slice_get rs n ≡ Some r → n < length rs
inside [] n r h = absurd (none_some h)
inside (x ∷ xs) zero r h = omega arith
inside (x ∷ xs) (suc n) r h = omega (arith, inside xs n r h)

end_told : (place : ℕ) (o : Option ℕ) → ends_at place o ≡ true → o ≡ Some place
end_told place None h = no h
end_told place (Some n) h = ap Some (sym (eqb-true place n h))

module _ (p : ProgramRows) (W : WholeTables p) where
  -- ---- rows

  actual_means : (at : ℕ) (r : Row) → row_at p at ≡ r → row_laid p at r ≡ true → ActualPasses p (passed_all p) at r
  actual_means at (Row.Item (ItemRow.Value v of' next)) e h = (
    unrolled p W at (Row.Item (ItemRow.Value v of' next)) e refl,
    given_means (cells_given p (row_at p v)) (size_of p of')
        (and_both (nat_lt at most_tokens) _ h).1,
  )
  actual_means at (Row.Item (ItemRow.Place a next)) e h = unrolled p W at (Row.Item (ItemRow.Place a next)) e refl
  actual_means at (Row.Item (ItemRow.ArrayPlace true a of' next)) e h =
      (unrolled p W at (Row.Item (ItemRow.ArrayPlace true a of' next)) e refl, λ _. schema_means p W of' (row_at p a) (and_both (nat_lt at most_tokens) _ h).1)
  actual_means at (Row.Item (ItemRow.ArrayPlace false a of' next)) e h =
      (unrolled p W at (Row.Item (ItemRow.ArrayPlace false a of' next)) e refl, λ f. no f)
  actual_means at (Row.Item (ItemRow.ArrayValue true v of' next)) e h =
      (unrolled p W at (Row.Item (ItemRow.ArrayValue true v of' next)) e refl, λ _. schema_means p W of' (row_at p v) (and_both (nat_lt at most_tokens) _ h).1)
  actual_means at (Row.Item (ItemRow.ArrayValue false v of' next)) e h =
      (unrolled p W at (Row.Item (ItemRow.ArrayValue false v of' next)) e refl, λ f. no f)
  actual_means at (Row.Item (ItemRow.Routine routine levels next)) e h = unrolled p W at (Row.Item (ItemRow.Routine routine levels next)) e refl
  actual_means at (Row.Item (ItemRow.RoutineFormal formal levels next)) e h = unrolled p W at (Row.Item (ItemRow.RoutineFormal formal levels next)) e refl
  actual_means at r e h = tt

  takes_mean : (actuals : ℕ) (o : Option Routine) → routine_takes p actuals o ≡ true → (r : Routine) → o ≡ Some r
      → passed_all p actuals ≡ heading_pieces p r.heading
  takes_mean actuals None h r e = absurd (none_some e)
  takes_mean actuals (Some q) h r e =
      subst (λ (q : Routine). passed_all p actuals ≡ heading_pieces p q.heading) (some_same e) (heading_met p W actuals (row_at p q.heading) h)

  formal_means : (actuals : ℕ) (o : Option ℕ) → formal_takes p actuals o ≡ true → (heading : ℕ) → o ≡ Some heading
      → passed_all p actuals ≡ heading_pieces p heading
  formal_means actuals None h heading e = absurd (none_some e)
  formal_means actuals (Some g) h heading e = subst (λ g. passed_all p actuals ≡ heading_pieces p g) (some_same e) (heading_met p W actuals (row_at p g) h)

  call_means : (at : ℕ) (r : Row) → row_laid p at r ≡ true → CallPasses p (passed_all p) r
  call_means at (Row.Statement (StatementRow.Call line routine levels actuals)) h = takes_mean actuals (routine_at p routine) h
  call_means at (Row.Statement (StatementRow.CallFormal line formal levels actuals)) h = formal_means actuals (heading_in (row_at p formal)) h
  call_means at (Row.Expression (ExpressionRow.Apply routine levels actuals)) h = takes_mean actuals (routine_at p routine) h
  call_means at (Row.Expression (ExpressionRow.ApplyFormal formal levels actuals)) h = formal_means actuals (heading_in (row_at p formal)) h
  call_means at r h = tt

  heading_means : (at : ℕ) (r : Row) → row_laid p at r ≡ true → AllStand p 1 (signature_tokens p (signature_in r)) (signature_pieces p (signature_in r))
  heading_means at (Row.Part (PartRow.Heading name sections result)) h =
      let e = there (heading_end p (Some sections)) h in
      heading_stands p W e.0 (Row.Part (PartRow.Heading name sections result)) e.1
  heading_means at r h = tt

  token_means : (at : ℕ) (r : Row) → row_laid p at r ≡ true → is_at_token r ≡ true → at < most_tokens
  token_means at (Row.Item i) h k = let l = (and_both (nat_lt at most_tokens) (item_laid p i) h).0 in grind (arith, nat_tests, l)
  token_means at (Row.Name (NameRow.Bound of' place level)) h k = grind (arith, nat_tests, h)
  token_means at r h k = no k

  routine_tests : (number : ℕ) (q : Routine) → routine_laid p number (Some q) ≡ true
      → (heading_end p (sections_in (row_at p q.heading)) ≡ Some q.parameters) × (nat_le q.parameters q.cells ≡ true) × (block_laid p number q ≡ true)
  routine_tests number q h =
      let a = and_both (ends_at q.parameters (heading_end p (sections_in (row_at p q.heading)))) (nat_le q.parameters q.cells && block_laid p number q) h in
      let b = and_both (nat_le q.parameters q.cells) (block_laid p number q) a.1 in
      (end_told q.parameters (heading_end p (sections_in (row_at p q.heading))) a.0, b.0, b.1)

  routine_means : (number : ℕ) (q : Routine) → routine_laid p number (Some q) ≡ true → RoutineHolds p q
  routine_means number q h = let t = routine_tests number q h in record {
    parameters = heading_ends p W q.parameters (row_at p q.heading) t.0;
    inside = let l = t.1 in grind (arith, nat_tests, l);
  }

  block_means : (number : ℕ) (q : Routine) → block_laid p number q ≡ true → BlockStands p number q
  block_means number q h =
      let place = after_result q.result q.parameters in
      let a = and_both (is_next q.result q.parameters) (all_behind p number q q.statements && first_stands p number q place) h in
      let b = and_both (all_behind p number q q.statements) (first_stands p number q place) a.1 in
      record {
        result = next_means q.result q.parameters a.0;
        behind = b.0;
        first = λ l. or_second (nat_le q.cells place) (some_has p number q place q.statements)
            (let z : nat_le q.cells place ≡ false = grind (arith, nat_tests, l) in z) b.1;
      }

nothing_taken : (p : ProgramRows) (r : Row) → is_none (sections_in r) ≡ true → signature_pieces p (signature_in r) ≡ []
nothing_taken p (Row.Part (PartRow.Heading name sections result)) h = no h
nothing_taken p r h = refl

main_means : (p : ProgramRows) (o : Option Routine) → has_no_heading p o ≡ true → (r : Routine) → o ≡ Some r → heading_pieces p r.heading ≡ []
main_means p None h r e = absurd (none_some e)
main_means p (Some q) h r e = subst (λ (q : Routine). heading_pieces p q.heading ≡ []) (some_same e) (nothing_taken p (row_at p q.heading) h)

-- ---- tables

module _ (p : ProgramRows) (W : WholeTables p) (h : are_laid p (length p.rows) ≡ true) where
  rows_pass : all_below (length p.rows) (λ at. row_laid p at (row_at p at)) ≡ true
  rows_pass = (and_both (all_below (length p.rows) (λ at. row_laid p at (row_at p at))) _ h).0

  routines_pass : (all_below (length p.routines) (λ n. routine_laid p n (routine_at p n)) && has_no_heading p (routine_at p 0)) ≡ true
  routines_pass = (and_both (all_below (length p.rows) (λ at. row_laid p at (row_at p at))) _ h).1

  all_routines : all_below (length p.routines) (λ n. routine_laid p n (routine_at p n)) ≡ true
  all_routines = (and_both (all_below (length p.routines) (λ n. routine_laid p n (routine_at p n))) (has_no_heading p (routine_at p 0)) routines_pass).0

  row_passes : (at : ℕ) → row_laid p at (row_at p at) ≡ true
  row_passes at = elim (below_length p.rows at) [
    | inl e ↦ ap (row_laid p at) e
    | inr l ↦ below (length p.rows) (λ at. row_laid p at (row_at p at)) rows_pass at l
  ]

  routine_passes : (number : ℕ) (r : Routine) → routine_at p number ≡ Some r → routine_laid p number (Some r) ≡ true
  routine_passes number r e = ap (routine_laid p number) (sym e)
      ∙ below (length p.routines) (λ n. routine_laid p n (routine_at p n)) all_routines number (inside p.routines number r e)

  laid_out : LaidOut p
  laid_out = record {
    passes = passed_all p;
    ends = refl;
    actuals = λ at. actual_means p W at (row_at p at) refl (row_passes at);
    calls = λ at. call_means p W at (row_at p at) (row_passes at);
    headings = λ at. heading_means p W at (row_at p at) (row_passes at);
    routines = λ number r e. routine_means p W number r (routine_passes number r e);
    blocks = λ number r e. block_means p W number r (routine_tests p W number r (routine_passes number r e)).2;
    tokens = λ at. token_means p W at (row_at p at) (row_passes at);
    main = main_means p (routine_at p 0)
        (and_both (all_below (length p.routines) (λ n. routine_laid p n (routine_at p n))) (has_no_heading p (routine_at p 0)) routines_pass).1;
  }

-- the same by a number of rows
pub tests_mean : (p : ProgramRows) (rows : ℕ) → rows ≡ length p.rows → are_laid p rows ≡ true → WholeTables p → LaidOut p
tests_mean p rows e h W = laid_out p W (ap (are_laid p) (sym e) ∙ h)
