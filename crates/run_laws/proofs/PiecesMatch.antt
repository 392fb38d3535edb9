-- Congruous headings take the same.
use Rattle.std.proofs.Common.{if◌then◌else◌, ◌&&◌, ◌++◌, ◌∙◌, ◌≡◌, ◌⊎◌, [], ℕ, Bool, List, None, Option, Some, ap, eqb-true, false, inl, inr, length, nat_eq}
use Rattle.std.proofs.Common.{refl, replicate, subst, suc, sym, true, zero}
use Rattle.core_program.{proofs.ActionsMeant.no, proofs.WholeParts.and_both, proofs.WholeParts.or_cases, specs.WholeTables.is_conformant}
use Rattle.core_program.{specs.WholeTables.is_conformant_type, specs.declared.headings.FormalSection.FormalSection, specs.declared.headings.Signature.Signature}
use Rattle.core_program.specs.Conformant.{Dimensions, and_spec, dimensions_in, dimensions_of, dimensions_within, extent_in}
use Rattle.core_program.specs.Headings.{both_match, components_alike, congruous, is_congruous, lists_match, may_stand_for, pair_fits, pair_if, same_mode}
use Rattle.core_program.specs.Headings.{same_packing, same_result, section_at, sections_match, signature_at, signatures_match, types_match}
use Rattle.core_program.specs.ProgramRows.{ProgramRows, cells_in, routine_at, size_of, type_at}
use Rattle.core_program.specs.declared.{components.Extent.Extent, program.Routine.Routine, rows.Mode.Mode, rows.TypeRow.TypeRow}
use Rattle.run_laws.specs.ParameterPieces.{ParameterPiece, and_further, bounds_before, heading_pieces, name_piece, section_pieces, sections_pieces}
use Rattle.run_laws.specs.ParameterPieces.{signature_pieces, specs_in, specs_of}

-- ---- types

-- how many specs there are, if that is known
abbrev counted : Option Dimensions → Option ℕ
counted None = None
counted (Some d) = Some (length d.specs)

abbrev count_in : Option ℕ → ℕ
count_in None = 0
count_in (Some n) = n

specs_counted : (o : Option Dimensions) → specs_in o ≡ count_in (counted o)
specs_counted None = refl
specs_counted (Some d) = refl

abbrev one_more : Option ℕ → Option ℕ
one_more None = None
one_more (Some n) = Some (suc n)

abbrev if_extent : Option Extent → Option ℕ → Option ℕ
if_extent None o = None
if_extent (Some e) o = one_more o

spec_counted : (place : ℕ) (e : Option Extent) (o : Option Dimensions) → counted (and_spec place e o) ≡ if_extent e (counted o)
spec_counted place None None = refl
spec_counted place None (Some d) = refl
spec_counted place (Some e) None = refl
spec_counted place (Some e) (Some d) = refl

module _ (p : ProgramRows) where
  -- what counts of two types, one of which may stand for the other
  record AreAlike (n a b : ℕ) : Type 0 where
    conformant : is_conformant p a ≡ is_conformant p b
    cells : size_of p a ≡ size_of p b
    specs : counted (dimensions_within n p a) ≡ counted (dimensions_within n p b)

  record RowsAlike (n a b : ℕ) (s t : Option TypeRow) : Type 0 where
    conformant : is_conformant_type s ≡ is_conformant_type t
    cells : cells_in s ≡ cells_in t
    specs : counted (dimensions_in (dimensions_within n p) p a s) ≡ counted (dimensions_in (dimensions_within n p) p b t)

  itself : (n a b : ℕ) → a ≡ b → AreAlike n a b
  itself n a b e = subst (AreAlike n a) e (record { conformant = refl; cells = refl; specs = refl })

  rows_alike : (n a b : ℕ) → ((c d : ℕ) → types_match n p c d ≡ true → AreAlike n c d) → (s t : Option TypeRow)
      → pair_fits (types_match n p) (components_alike s t) ≡ true → RowsAlike n a b s t
  rows_alike n a b inner (Some (TypeRow.Conformant packed index c place)) (Some (TypeRow.Conformant other i d at)) h =
      by (same_packing packed other && nat_eq index i) refl h
    where
      by : (fits : Bool) → (same_packing packed other && nat_eq index i) ≡ fits → pair_fits (types_match n p) (pair_if fits c d) ≡ true
          → RowsAlike n a b (Some (TypeRow.Conformant packed index c place)) (Some (TypeRow.Conformant other i d at))
      by false e f = no f
      by true e f =
          let k = inner c d f in
          let same : index ≡ i = eqb-true index i (and_both (same_packing packed other) (nat_eq index i) e).1 in
          record {
            conformant = refl;
            cells = refl;
            specs = spec_counted place (extent_in (type_at p index)) (dimensions_within n p c)
                ∙ ap (if_extent (extent_in (type_at p index))) k.specs
                ∙ ap (λ x. if_extent (extent_in (type_at p x)) (counted (dimensions_within n p d))) same
                ∙ sym (spec_counted at (extent_in (type_at p i)) (dimensions_within n p d));
          }
  rows_alike n a b inner s t h = no h

  types_alike : (n a b : ℕ) → types_match n p a b ≡ true → AreAlike n a b
  types_alike zero a b h = itself zero a b (eqb-true a b h)
  types_alike (suc n) a b h = elim (or_cases (nat_eq a b) _ h) [
    | inl e ↦ itself (suc n) a b (eqb-true a b e)
    | inr f ↦ let r = rows_alike n a b (types_alike n) (type_at p a) (type_at p b) f in
        record { conformant = r.conformant; cells = r.cells; specs = r.specs }
  ]

  -- ---- sections and lists of them

  modes_alike : (m n : Mode) → same_mode m n ≡ true → m ≡ n
  modes_alike Mode.Own Mode.Own h = refl
  modes_alike Mode.Value Mode.Value h = refl
  modes_alike Mode.Place Mode.Place h = refl
  modes_alike Mode.Copy Mode.Copy h = refl
  modes_alike m n h = no h

  names_alike : (m n : Mode) (count other a b : ℕ) → m ≡ n → count ≡ other → AreAlike (length p.rows) a b
      → section_pieces p (FormalSection.Names m a count) ≡ section_pieces p (FormalSection.Names n b other)
  names_alike m n count other a b e f k =
      ap (λ c. bounds_before c (specs_of p a) (replicate count (name_piece m c (size_of p a)))) k.conformant
      ∙ ap (λ s. bounds_before (is_conformant p b) s (replicate count (name_piece m (is_conformant p b) (size_of p a)))) specs
      ∙ ap (λ s. bounds_before (is_conformant p b) (specs_of p b) (replicate count (name_piece m (is_conformant p b) s))) k.cells
      ∙ ap (λ x. bounds_before (is_conformant p b) (specs_of p b) (replicate count (name_piece x (is_conformant p b) (size_of p b)))) e
      ∙ ap (λ x. bounds_before (is_conformant p b) (specs_of p b) (replicate x (name_piece n (is_conformant p b) (size_of p b)))) f
    where
      specs : specs_of p a ≡ specs_of p b
      specs = specs_counted (dimensions_of p a) ∙ ap count_in k.specs ∙ sym (specs_counted (dimensions_of p b))

  sections_alike : (lists : ℕ → ℕ → Bool) (s t : FormalSection) → sections_match p lists s t ≡ true → section_pieces p s ≡ section_pieces p t
  sections_alike lists (FormalSection.Names m a count) (FormalSection.Names n b other) h =
      let k = and_both (same_mode m n && nat_eq count other) (types_match (length p.rows) p a b) h in
      let l = and_both (same_mode m n) (nat_eq count other) k.0 in
      names_alike m n count other a b (modes_alike m n l.0) (eqb-true count other l.1) (types_alike (length p.rows) a b k.1)
  sections_alike lists (FormalSection.Heading g) (FormalSection.Heading h) e = refl
  sections_alike lists s t h = no h

  further_alike : (n : ℕ) → ((a b : ℕ) → lists_match n p a b ≡ true → sections_pieces n p a ≡ sections_pieces n p b)
      → (s t : Option (FormalSection × ℕ)) → both_match s t (sections_match p (lists_match n p)) (lists_match n p) ≡ true
      → and_further p (sections_pieces n p) s ≡ and_further p (sections_pieces n p) t
  further_alike n rest None None h = refl
  further_alike n rest (Some s) (Some t) h =
      let k = and_both (sections_match p (lists_match n p) s.0 t.0) (lists_match n p s.1 t.1) h in
      ap (λ qs. qs ++ sections_pieces n p s.1) (sections_alike (lists_match n p) s.0 t.0 k.0)
      ∙ ap (λ qs. section_pieces p t.0 ++ qs) (rest s.1 t.1 k.1)
  further_alike n rest s t h = no h

  lists_alike : (n a b : ℕ) → lists_match n p a b ≡ true → sections_pieces n p a ≡ sections_pieces n p b
  lists_alike zero a b h = no h
  lists_alike (suc n) a b h = further_alike n (lists_alike n) (section_at p a) (section_at p b) h

  signatures_alike : (g h : Option Signature) → signatures_match (lists_match (length p.rows) p) g h ≡ true → signature_pieces p g ≡ signature_pieces p h
  signatures_alike (Some g) (Some h) e =
      lists_alike (length p.rows) g.sections h.sections (and_both (same_result g.result h.result) _ e).1
  signatures_alike g h e = no e

  -- a routine that stands for a parameter takes what the heading of that says
  pub stands_for : (heading routine : ℕ) (r : Routine) → routine_at p routine ≡ Some r → may_stand_for p heading routine ≡ true
      → heading_pieces p heading ≡ heading_pieces p r.heading
  stands_for heading routine r e h = signatures_alike (signature_at p heading) (signature_at p r.heading)
      (subst (λ o. is_congruous p heading o ≡ true) e h)
