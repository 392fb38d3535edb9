-- The type of a selector is there, where its row in whole tables tells it.
use Rattle.std.proofs.Common.{◌≡◌, ℕ, None, Option, Some, ap, false, is_some, refl, subst, sym, true}
use Rattle.std.proofs.lemmas.Option.{none-some, same_Some}
use Rattle.core_program.specs.ProgramRows.{ProgramRows, row_at as row_in, type_at as type_of, type_in}
use Rattle.core_program.specs.WholeTables.{AccessFits, RowFits, TypeFits, WholeTables, is_conformant_type, is_host_type, is_result_type, type_accessed}
use Rattle.core_program.specs.declared.rows.{AccessRow.AccessRow, Row.Row, TypeRow.TypeRow}
use Rattle.check_steps.specs.Known.{Known, type_at}
use Rattle.kind_checker.specs.{Operators.is_ordinal, Sizes.host_in, declared.shapes.ExpressionType.ExpressionType}
use Rattle.kind_checker.specs.Shapes.{shape_in, shape_of, string_length, text_or}
use Rattle.statement_checker.specs.Choices.{host_or}

-- ---- the type that a row tells

conformant_some : (o : Option TypeRow) → is_conformant_type o ≡ true → is_some o ≡ true
conformant_some None e = absurd (let never : false ≡ true = e in cc)
conformant_some (Some t) e = refl

pub access_there : (p : ProgramRows) (at : ℕ) (a : AccessRow) → AccessFits p at a → is_some (type_of p (type_accessed a)) ≡ true
access_there p at (AccessRow.Variable place levels of') fits = fits
access_there p at (AccessRow.Reference place levels of') fits = fits
access_there p at (AccessRow.Conformant place levels of') fits = conformant_some (type_of p of') fits
access_there p at (AccessRow.Component inner index array of') fits = fits.4
access_there p at (AccessRow.Within record' field of') fits = fits.1
access_there p at (AccessRow.Index inner index array of') fits = fits.4
access_there p at (AccessRow.Field inner field of') fits = fits.3
access_there p at (AccessRow.Dereference inner of') fits = fits.2

pub result_some : (o : Option TypeRow) → is_result_type o ≡ true → is_some o ≡ true
result_some None e = absurd (let never : false ≡ true = e in cc)
result_some (Some t) e = refl

-- ---- the host type of a selector

pub host_some : (o : Option TypeRow) → is_host_type o ≡ true → is_some o ≡ true
host_some None e = absurd (let never : false ≡ true = e in cc)
host_some (Some t) e = refl

pub no_string : (t : ℕ) (o : Option ℕ) → is_ordinal (text_or t o) ≡ true → ⊥
no_string t (Some n) e = let never : false ≡ true = e in cc
no_string t None e = let never : false ≡ true = e in cc

-- the host of a type is there, and is this
pub record IsHost (p : ProgramRows) (t host : ℕ) : Type 0 where
  pub ordinal : is_host_type (type_of p host) ≡ true
  pub is : host ≡ host_in (type_of p t) t

-- by the row of the type
host_by : (p : ProgramRows) (j : Known) (t of' : ℕ) (u : TypeRow) → type_of p t ≡ Some u → TypeFits p t u → is_ordinal (shape_in j t (Some u)) ≡ true
    → IsHost p t (host_or (shape_in j t (Some u)) of')
host_by p j t of' (TypeRow.Ordinal least greatest) there fits e =
    record { ordinal = ap is_host_type there; is = sym (ap (λ o. host_in o t) there) }
host_by p j t of' (TypeRow.Subrange host least greatest) there fits e =
    record { ordinal = fits; is = sym (ap (λ o. host_in o t) there) }
host_by p j t of' (TypeRow.Set packed base) there fits e = absurd (let never : false ≡ true = e in cc)
host_by p j t of' (TypeRow.Pointer domain) there fits e = absurd (let never : false ≡ true = e in cc)
host_by p j t of' (TypeRow.Array packed index component cells) there fits e = absurd (no_string t (string_length j packed index component) e)
host_by p j t of' (TypeRow.Conformant packed index component place) there fits e = absurd (let never : false ≡ true = e in cc)
host_by p j t of' (TypeRow.Record packed region cells variants) there fits e = absurd (let never : false ≡ true = e in cc)

record IsTypeRow (r : Row) (u : TypeRow) : Type 0 where
  is : r ≡ Row.Type u

type_row : (r : Row) (u : TypeRow) → type_in r ≡ Some u → IsTypeRow r u
type_row (Row.Type t) u e = record { is = ap (λ x. Row.Type x) (same_Some t u e) }
type_row r u e = absurd (none-some u e)

pub type_fits : (p : ProgramRows) → WholeTables p → (t : ℕ) (u : TypeRow) → type_of p t ≡ Some u → TypeFits p t u
type_fits p whole t u e = subst (λ r. RowFits p t r) (type_row (row_in p t) u e).is (whole.rows t)

host_of_type : (p : ProgramRows) → WholeTables p → (j : Known) (t of' : ℕ) (o : Option TypeRow) → type_of p t ≡ o → is_some o ≡ true
    → is_ordinal (shape_in j t o) ≡ true → IsHost p t (host_or (shape_in j t o) of')
host_of_type p whole j t of' None there some e = absurd (let never : false ≡ true = some in cc)
host_of_type p whole j t of' (Some u) there some e = host_by p j t of' u there (type_fits p whole t u there) e

-- Where tables are whole, the host of an ordinal type that is as it was is there.
pub host_there : (p : ProgramRows) → WholeTables p → (j : Known) (t of' : ℕ) → is_some (type_of p t) ≡ true → type_at j t ≡ type_of p t
    → is_ordinal (shape_of j (ExpressionType.Of t)) ≡ true → IsHost p t (host_or (shape_of j (ExpressionType.Of t)) of')
host_there p whole j t of' some same e =
    subst (λ x. IsHost p t (host_or (shape_in j t x) of')) (sym same)
    (host_of_type p whole j t of' (type_of p t) refl some (subst (λ x. is_ordinal (shape_in j t x) ≡ true) same e))
