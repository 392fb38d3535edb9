-- Where tables are whole, the lists inside of a section and after it stand after it, or are empty.
use Rattle.std.proofs.Common.{◌<◌, ◌||◌, ◌≡◌, ◌⊎◌, ℕ, None, Option, Some, ap, arith, eqb-true, inl, inr, is_some, length, ltb-true, nat_lt, refl, true}
use Rattle.core_program.proofs.{ActionsMeant.no, WholeActions.below_length, WholeActions.there, WholeParts.or_cases}
use Rattle.core_program.specs.{ProgramRows.ProgramRows, ProgramRows.row_at, ProgramRows.type_in, WholeTables.RowFits, WholeTables.WholeTables}
use Rattle.core_program.specs.{WholeTables.is_end, declared.rows.ItemRow.ItemRow, declared.rows.PartRow.PartRow, declared.rows.Row.Row}
use Rattle.core_program.specs.Headings.{section_at, section_in, signature_at, signature_in}
use Rattle.core_program.specs.declared.headings.{FormalSection.FormalSection, Signature.Signature}

abbrev pub Follows : (at next : ℕ) → Type 0
Follows at next = (next ≡ 0) ⊎ (at < next)

follows : (at next : ℕ) → (is_end next || nat_lt at next) ≡ true → Follows at next
follows at next h = elim (or_cases (is_end next) (nat_lt at next) h) [ inl e ↦ inl (eqb-true next 0 e) | inr l ↦ inr (ltb-true at next l) ]

abbrev pub InHeading : (ℕ → Type 0) → Option Signature → Type 0
InHeading P None = ⊥
InHeading P (Some g) = P g.sections

-- This holds of the lists inside of a section, and of the one after it.
abbrev pub InSection : ProgramRows → (ℕ → Type 0) → Option (FormalSection × ℕ) → Type 0
InSection p P None = Unit {0}
InSection p P (Some (FormalSection.Names m of' count, next)) = P next
InSection p P (Some (FormalSection.Heading heading, next)) = InHeading P (signature_at p heading) × P next

in_heading_too : (P Q : ℕ → Type 0) → ((list : ℕ) → P list → Q list) → (g : Option Signature) → InHeading P g → InHeading Q g
in_heading_too P Q f None h = absurd h
in_heading_too P Q f (Some g) h = f g.sections h

pub in_section_too : (p : ProgramRows) (P Q : ℕ → Type 0) → ((list : ℕ) → P list → Q list) → (s : Option (FormalSection × ℕ)) → InSection p P s
    → InSection p Q s
in_section_too p P Q f None h = tt
in_section_too p P Q f (Some (FormalSection.Names m of' count, next)) h = f next h
in_section_too p P Q f (Some (FormalSection.Heading heading, next)) h = (in_heading_too P Q f (signature_at p heading) h.0, f next h.1)

module _ (p : ProgramRows) (w : WholeTables p) where
  in_heading : (at heading : ℕ) (r : Row) → RowFits p heading r → is_some (signature_in r) ≡ true → at < heading
      → InHeading (Follows at) (signature_in r)
  in_heading at heading (Row.Part (PartRow.Heading name sections result)) f s l =
      elim (follows heading sections f.0.1) [ inl e ↦ inl e | inr k ↦ inr (omega (arith, l, k)) ]
  in_heading at heading (Row.Part (PartRow.Variants hidden offset cells values holder)) f s l = no s
  in_heading at heading (Row.Part (PartRow.Variant variants position)) f s l = no s
  in_heading at heading (Row.Part (PartRow.Forward function block)) f s l = no s
  in_heading at heading (Row.Part (PartRow.Completing first)) f s l = no s
  in_heading at heading Row.Nothing f s l = no s
  in_heading at heading (Row.Type t) f s l = no s
  in_heading at heading (Row.Name n) f s l = no s
  in_heading at heading (Row.Statement x) f s l = no s
  in_heading at heading (Row.Expression x) f s l = no s
  in_heading at heading (Row.Access x) f s l = no s
  in_heading at heading (Row.Item i) f s l = no s

  in_row : (at : ℕ) (r : Row) → RowFits p at r → InSection p (Follows at) (section_in p r)
  in_row at (Row.Item (ItemRow.Section m first count next)) f = follows at next f.1.1
  in_row at (Row.Item (ItemRow.RoutineSection heading next)) f =
      (in_heading at heading (row_at p heading) (w.rows heading) f.0 (ltb-true at heading f.1), follows at next f.2.1)
  in_row at (Row.Item (ItemRow.Element x next)) f = tt
  in_row at (Row.Item (ItemRow.Value v of' next)) f = tt
  in_row at (Row.Item (ItemRow.Place a next)) f = tt
  in_row at (Row.Item (ItemRow.ArrayPlace first a of' next)) f = tt
  in_row at (Row.Item (ItemRow.ArrayValue first v of' next)) f = tt
  in_row at (Row.Item (ItemRow.Routine routine levels next)) f = tt
  in_row at (Row.Item (ItemRow.RoutineFormal formal levels next)) f = tt
  in_row at (Row.Item (ItemRow.Written v of' next)) f = tt
  in_row at (Row.Item (ItemRow.WrittenWide v of' width next)) f = tt
  in_row at (Row.Item (ItemRow.Member v next)) f = tt
  in_row at (Row.Item (ItemRow.Members first last next)) f = tt
  in_row at (Row.Item (ItemRow.Choice value chosen next)) f = tt
  in_row at Row.Nothing f = tt
  in_row at (Row.Type t) f = tt
  in_row at (Row.Name n) f = tt
  in_row at (Row.Part q) f = tt
  in_row at (Row.Statement x) f = tt
  in_row at (Row.Expression x) f = tt
  in_row at (Row.Access x) f = tt

  pub sections_follow : (at : ℕ) → InSection p (Follows at) (section_at p at)
  sections_follow at = in_row at (row_at p at) (w.rows at)

  no_section : (r : Row) → is_some (type_in r) ≡ true → section_in p r ≡ None
  no_section (Row.Type t) h = refl
  no_section Row.Nothing h = no h
  no_section (Row.Name n) h = no h
  no_section (Row.Part q) h = no h
  no_section (Row.Statement x) h = no h
  no_section (Row.Expression x) h = no h
  no_section (Row.Access x) h = no h
  no_section (Row.Item i) h = no h

  typed : is_some (type_in (row_at p 0)) ≡ true
  typed = ap (λ t. is_some t) w.integer

  -- lists end at 0
  pub list_end : section_at p 0 ≡ None
  list_end = no_section (row_at p 0) typed

  pub some_rows : 0 < length p.rows
  some_rows = there p (λ r. is_some (type_in r)) 0 refl typed

pub section_inside : (p : ProgramRows) (at : ℕ) → (section_at p at ≡ None) ⊎ (at < length p.rows)
section_inside p at = elim (below_length p.rows at) [ inl e ↦ inl (ap (section_in p) e) | inr l ↦ inr l ]
