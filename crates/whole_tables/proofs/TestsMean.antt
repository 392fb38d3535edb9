-- Tables that pass the tests are whole.
use Rattle.std.proofs.Common.{◌<◌, ◌||◌, ◌∙◌, ◌∷◌, ◌≡◌, [], ℕ, Bool, IsSome, List, None, Option, Some, ap, arith, false, is_some, length, nat_eq, nat_lt}
use Rattle.std.proofs.Common.{negsuc, pos, refl, slice_get, suc, sym, true, zero}
use Rattle.std.{proofs.lemmas.Bool.Decides.Decides-int_eq, proofs.lemmas.Bool.Decides.nat_tests, specs.Ordering.int_eq}
use Rattle.core_program.proofs.{ActionsMeant.no, WholeParts.and_both, WholeParts.or_second}
use Rattle.core_program.specs.{Headings.signature_at, declared.program.Routine.Routine, declared.rows.TypeRow.TypeRow}
use Rattle.core_program.specs.ProgramRows.{ProgramRows, routine_at, row_at, type_at}
use Rattle.core_program.specs.WholeTables.{RoutineFits, WholeTables, has_result, is_element_of, is_list, is_statement}
use Rattle.whole_tables.proofs.{RowsFit.below, RowsFit.four, RowsFit.rows_mean, RowsFit.three, Scoped.same, Scoped.scopes_mean}
use Rattle.whole_tables.specs.{Once.IsOnce, Scopes.are_all_scoped, Scopes.needed, Scopes.outermost, Scopes.scoped_row}
use Rattle.whole_tables.specs.Fits.{all_below, do_all_fit, is_integer, routine_fits, same_bool}

integer_means : (t : Option TypeRow) → is_integer t ≡ true → t ≡ Some (TypeRow.Ordinal (negsuc 2147483646) (pos 2147483647))
integer_means (Some (TypeRow.Ordinal least greatest)) h =
    let b = and_both (int_eq least (negsuc 2147483646)) (int_eq greatest (pos 2147483647)) h in
    let l = (Decides-int_eq least (negsuc 2147483646)).0 b.0 in
    let g = (Decides-int_eq greatest (pos 2147483647)).0 b.1 in
    λ i. Some (TypeRow.Ordinal (l i) (g i))
integer_means (Some (TypeRow.Subrange host least greatest)) h = no h
integer_means (Some (TypeRow.Set packed base)) h = no h
integer_means (Some (TypeRow.Pointer domain)) h = no h
integer_means (Some (TypeRow.Array packed index component cells)) h = no h
integer_means (Some (TypeRow.Conformant packed index component place)) h = no h
integer_means (Some (TypeRow.Record packed region cells variants)) h = no h
integer_means None h = no h

bools : (a b : Bool) → same_bool a b ≡ true → a ≡ b
bools true b h = sym h
bools false true h = no h
bools false false h = refl

inside : (rs : List Routine) (n : ℕ) (r : Routine) → slice_get rs n ≡ Some r → n < length rs
inside [] n r h = absurd (let z : None ≡ Some r = h in cc)
inside (x ∷ xs) zero r h = omega arith
inside (x ∷ xs) (suc n) r h = omega (arith, inside xs n r h)

module _ (p : ProgramRows) (fit : all_below (length p.routines) (λ n. routine_fits p n (routine_at p n)) ≡ true) where
  fits_at : (number : ℕ) (r : Routine) → routine_at p number ≡ Some r → routine_fits p number (Some r) ≡ true
  fits_at number r h = ap (λ o. routine_fits p number o) (sym h)
      ∙ below (length p.routines) (λ n. routine_fits p n (routine_at p n)) fit number (inside p.routines number r h)

  routine_means : (number : ℕ) (r : Routine) → routine_at p number ≡ Some r → RoutineFits p r
  routine_means number r h =
      let b = three (is_list (is_element_of (is_statement p)) p r.statements) (same_bool (is_some r.result) (has_result (signature_at p r.heading)))
      (nat_eq number 0 || is_some (signature_at p r.heading)) (fits_at number r h) in
      record { statements = b.0; result = bools (is_some r.result) (has_result (signature_at p r.heading)) b.1 }

  heading_means : (number : ℕ) (r : Routine) → routine_at p (suc number) ≡ Some r → is_some (signature_at p r.heading) ≡ true
  heading_means number r h =
      let b = three (is_list (is_element_of (is_statement p)) p r.statements) (same_bool (is_some r.result) (has_result (signature_at p r.heading)))
      (nat_eq (suc number) 0 || is_some (signature_at p r.heading)) (fits_at (suc number) r h) in
      let z : nat_eq (suc number) 0 ≡ false = grind (arith, nat_tests) in
      or_second (nat_eq (suc number) 0) (is_some (signature_at p r.heading)) z b.2

first_there : (rs : List Routine) → nat_lt 0 (length rs) ≡ true → IsSome (slice_get rs 0)
first_there [] h = no h
first_there (r ∷ rs) h = refl

outer_means : (p : ProgramRows) (column : List ℕ) → all_below (length p.routines) (λ n. outermost column (routine_at p n)) ≡ true
    → (number : ℕ) (r : Routine) → routine_at p number ≡ Some r → needed column r.statements ≡ 0
outer_means p column h number r e = same (needed column r.statements) 0 (ap (λ o. outermost column o) (sym e)
    ∙ below (length p.routines) (λ n. outermost column (routine_at p n)) h number (inside p.routines number r e))

pub tests_mean : (p : ProgramRows) (column : List ℕ) → do_all_fit p (length p.rows) ≡ true → are_all_scoped p column (length p.rows) ≡ true
    → IsOnce p → WholeTables p
tests_mean p column h k once =
    let a = four (is_integer (type_at p 0)) (nat_lt 0 (length p.routines)) _ _ h in
    let d = and_both (all_below (length p.rows) (λ at. scoped_row p column (length p.rows) at (row_at p at)))
    (all_below (length p.routines) (λ n. outermost column (routine_at p n))) k in
    record {
      integer = integer_means (type_at p 0) a.0;
      rows = rows_mean p a.2;
      routines = routine_means p a.3;
      headings = heading_means p a.3;
      main = first_there p.routines a.1;
      once = once;
      around = needed column;
      scoped = scopes_mean p column d.0;
      outermost = outer_means p column d.1;
    }

-- the same by a number of rows
pub tests-whole : (p : ProgramRows) (column : List ℕ) (rows : ℕ) → rows ≡ length p.rows → do_all_fit p rows ≡ true
    → are_all_scoped p column rows ≡ true → IsOnce p → WholeTables p
tests-whole p column rows e h k once = tests_mean p column (ap (λ n. do_all_fit p n) (sym e) ∙ h) (ap (λ n. are_all_scoped p column n) (sym e) ∙ k) once
