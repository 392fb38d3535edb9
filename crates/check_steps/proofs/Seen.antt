-- Which headings are congruous hangs on what is seen of a program alone.
use Rattle.std.proofs.Common.{◌&&◌, ◌||◌, ◌∙◌, ◌∷◌, ◌≡◌, [], ℕ, Bool, List, None, Option, Some, ap, length, map, nat_eq, option_map, refl, slice_get, slice_set}
use Rattle.std.proofs.{Common.suc, Common.sym, Common.unwrap_or, Common.zero, lemmas.List.length-map, lemmas.Option.slice_get-map}
use Rattle.core_program.specs.Headings.{pair_fits, pair_if, same_packing}
use Rattle.core_program.specs.ProgramRows.{ProgramRows, row_at, type_at, type_in, with_row}
use Rattle.core_program.specs.declared.rows.{ItemRow.ItemRow, NameRow.NameRow, PartRow.PartRow, Row.Row, TypeRow.TypeRow}
use Rattle.check_steps.specs.{Compared.seen, Compared.seen_of, declared.headings.FormalSection.FormalSection, declared.headings.Signature.Signature}
use Rattle.check_steps.specs.Headings.{both_match, components_alike, congruous, is_same_type, lists_match, results_match, same_mode, section_at, section_in}
use Rattle.check_steps.specs.Headings.{sections_match, signature_at, signature_in, signatures_match, types_match, variable_type}

-- ---- what is seen of a row

signature_seen : (r : Row) → signature_in (seen r) ≡ signature_in r
signature_seen Row.Nothing = refl
signature_seen (Row.Type t) = refl
signature_seen (Row.Name n) = by n
  where
    by : (n : NameRow) → signature_in (seen (Row.Name n)) ≡ signature_in (Row.Name n)
    by (NameRow.Variable m of' place level) = refl
    by n = refl
signature_seen (Row.Part q) = by q
  where
    by : (q : PartRow) → signature_in (seen (Row.Part q)) ≡ signature_in (Row.Part q)
    by (PartRow.Heading name sections result) = refl
    by q = refl
signature_seen (Row.Statement s) = refl
signature_seen (Row.Expression e) = refl
signature_seen (Row.Access a) = refl
signature_seen (Row.Item i) = by i
  where
    by : (i : ItemRow) → signature_in (seen (Row.Item i)) ≡ signature_in (Row.Item i)
    by (ItemRow.Section m first count next) = refl
    by (ItemRow.RoutineSection heading next) = refl
    by i = refl

variable_seen : (r : Row) (otherwise : ℕ) → variable_type (seen r) otherwise ≡ variable_type r otherwise
variable_seen Row.Nothing o = refl
variable_seen (Row.Type t) o = refl
variable_seen (Row.Name n) o = by n
  where
    by : (n : NameRow) → variable_type (seen (Row.Name n)) o ≡ variable_type (Row.Name n) o
    by (NameRow.Variable m of' place level) = refl
    by n = refl
variable_seen (Row.Part q) o = by q
  where
    by : (q : PartRow) → variable_type (seen (Row.Part q)) o ≡ variable_type (Row.Part q) o
    by (PartRow.Heading name sections result) = refl
    by q = refl
variable_seen (Row.Statement s) o = refl
variable_seen (Row.Expression e) o = refl
variable_seen (Row.Access a) o = refl
variable_seen (Row.Item i) o = by i
  where
    by : (i : ItemRow) → variable_type (seen (Row.Item i)) o ≡ variable_type (Row.Item i) o
    by (ItemRow.Section m first count next) = refl
    by (ItemRow.RoutineSection heading next) = refl
    by i = refl

type_seen : (r : Row) → type_in (seen r) ≡ type_in r
type_seen Row.Nothing = refl
type_seen (Row.Type t) = refl
type_seen (Row.Name n) = by n
  where
    by : (n : NameRow) → type_in (seen (Row.Name n)) ≡ type_in (Row.Name n)
    by (NameRow.Variable m of' place level) = refl
    by n = refl
type_seen (Row.Part q) = by q
  where
    by : (q : PartRow) → type_in (seen (Row.Part q)) ≡ type_in (Row.Part q)
    by (PartRow.Heading name sections result) = refl
    by q = refl
type_seen (Row.Statement s) = refl
type_seen (Row.Expression e) = refl
type_seen (Row.Access a) = refl
type_seen (Row.Item i) = by i
  where
    by : (i : ItemRow) → type_in (seen (Row.Item i)) ≡ type_in (Row.Item i)
    by (ItemRow.Section m first count next) = refl
    by (ItemRow.RoutineSection heading next) = refl
    by i = refl

-- ---- what is seen of a program

module _ (p : ProgramRows) where
  row_seen : (n : ℕ) → row_at (seen_of p) n ≡ seen (row_at p n)
  row_seen n = ap (λ o. unwrap_or o Row.Nothing) (slice_get-map seen p.rows n) ∙ by (slice_get p.rows n)
    where
      by : (o : Option Row) → unwrap_or (option_map seen o) Row.Nothing ≡ seen (unwrap_or o Row.Nothing)
      by None = refl
      by (Some r) = refl

  same_type_seen : (a b : ℕ) → is_same_type (seen_of p) a b ≡ is_same_type p a b
  same_type_seen a b =
      let x : type_at (seen_of p) a ≡ type_at p a = ap type_in (row_seen a) ∙ type_seen (row_at p a) in
      let y : type_at (seen_of p) b ≡ type_at p b = ap type_in (row_seen b) ∙ type_seen (row_at p b) in
      rw (x, y) refl

  typed_seen : (n : ℕ) → type_at (seen_of p) n ≡ type_at p n
  typed_seen n = ap type_in (row_seen n) ∙ type_seen (row_at p n)

  pairs_seen : (x y : ℕ → ℕ → Bool) → ((a b : ℕ) → x a b ≡ y a b) → (o : Option (ℕ × ℕ)) → pair_fits x o ≡ pair_fits y o
  pairs_seen x y same None = refl
  pairs_seen x y same (Some q) = same q.0 q.1

  alike_seen : (s t : Option TypeRow) → components_alike (seen_of p) s t ≡ components_alike p s t
  alike_seen (Some (TypeRow.Conformant packed index c place)) (Some (TypeRow.Conformant other i d at)) =
      ap (λ b. pair_if (same_packing packed other && b) c d) (same_type_seen index i)
  alike_seen (Some (TypeRow.Conformant packed index c place)) t = refl
  alike_seen s t = refl

  types_seen : (n a b : ℕ) → types_match n (seen_of p) a b ≡ types_match n p a b
  types_seen zero a b = same_type_seen a b
  types_seen (suc n) a b =
      ap (λ u. u || pair_fits (types_match n (seen_of p)) (components_alike (seen_of p) (type_at (seen_of p) a) (type_at (seen_of p) b))) (same_type_seen a b)
      ∙ ap (λ o. is_same_type p a b || pair_fits (types_match n (seen_of p)) (components_alike (seen_of p) o (type_at (seen_of p) b))) (typed_seen a)
      ∙ ap (λ o. is_same_type p a b || pair_fits (types_match n (seen_of p)) (components_alike (seen_of p) (type_at p a) o)) (typed_seen b)
      ∙ ap (λ o. is_same_type p a b || pair_fits (types_match n (seen_of p)) o) (alike_seen (type_at p a) (type_at p b))
      ∙ ap (λ c. is_same_type p a b || c)
      (pairs_seen (types_match n (seen_of p)) (types_match n p) (types_seen n) (components_alike p (type_at p a) (type_at p b)))

  matched_seen : (a b : ℕ) → types_match (length (map seen p.rows)) (seen_of p) a b ≡ types_match (length p.rows) p a b
  matched_seen a b = ap (λ n. types_match n (seen_of p) a b) (length-map p.rows seen) ∙ types_seen (length p.rows) a b

  heading_seen : (n : ℕ) → signature_at (seen_of p) n ≡ signature_at p n
  heading_seen n = ap signature_in (row_seen n) ∙ signature_seen (row_at p n)

  section_seen : (r : Row) → section_in (seen_of p) (seen r) ≡ section_in p r
  section_seen Row.Nothing = refl
  section_seen (Row.Type t) = refl
  section_seen (Row.Name n) = by n
    where
      by : (n : NameRow) → section_in (seen_of p) (seen (Row.Name n)) ≡ section_in p (Row.Name n)
      by (NameRow.Variable m of' place level) = refl
      by n = refl
  section_seen (Row.Part q) = by q
    where
      by : (q : PartRow) → section_in (seen_of p) (seen (Row.Part q)) ≡ section_in p (Row.Part q)
      by (PartRow.Heading name sections result) = refl
      by q = refl
  section_seen (Row.Statement s) = refl
  section_seen (Row.Expression e) = refl
  section_seen (Row.Access a) = refl
  section_seen (Row.Item i) = by i
    where
      by : (i : ItemRow) → section_in (seen_of p) (seen (Row.Item i)) ≡ section_in p (Row.Item i)
      by (ItemRow.Section m first count next) =
          ap (λ t. Some (FormalSection.Names m t count, next)) (ap (λ r. variable_type r first) (row_seen first) ∙ variable_seen (row_at p first) first)
      by (ItemRow.RoutineSection heading next) = refl
      by i = refl

  sections_seen : (a : ℕ) → section_at (seen_of p) a ≡ section_at p a
  sections_seen a = ap (section_in (seen_of p)) (row_seen a) ∙ section_seen (row_at p a)

  results_seen : (a b : Option ℕ) → results_match (seen_of p) a b ≡ results_match p a b
  results_seen None None = refl
  results_seen None (Some b) = refl
  results_seen (Some a) None = refl
  results_seen (Some a) (Some b) = same_type_seen a b

  signatures_seen : (x y : ℕ → ℕ → Bool) → ((a b : ℕ) → x a b ≡ y a b) → (g h : Signature)
      → signatures_match (seen_of p) x g h ≡ signatures_match p y g h
  signatures_seen x y same g h =
      ap (λ b. b && x g.sections h.sections) (results_seen g.result h.result)
      ∙ ap (λ b. results_match p g.result h.result && b) (same g.sections h.sections)

  matches_seen : (x y : ℕ → ℕ → Bool) → ((a b : ℕ) → x a b ≡ y a b) → (s t : FormalSection)
      → sections_match (seen_of p) x s t ≡ sections_match p y s t
  matches_seen x y same (FormalSection.Names m a count) (FormalSection.Names n b other) =
      ap (λ z. same_mode m n && nat_eq count other && z) (matched_seen a b)
  matches_seen x y same (FormalSection.Names m a count) (FormalSection.Heading h) = refl
  matches_seen x y same (FormalSection.Heading g) (FormalSection.Names n b other) = refl
  matches_seen x y same (FormalSection.Heading g) (FormalSection.Heading h) =
      ap (λ u. signatures_match (seen_of p) x u (signature_at (seen_of p) h)) (heading_seen g)
      ∙ ap (λ u. signatures_match (seen_of p) x (signature_at p g) u) (heading_seen h)
      ∙ signatures_seen x y same (signature_at p g) (signature_at p h)

  both_seen : (a b : Option (FormalSection × ℕ)) (x y : ℕ → ℕ → Bool) → ((a b : ℕ) → x a b ≡ y a b)
      → both_match a b (sections_match (seen_of p) x) x ≡ both_match a b (sections_match p y) y
  both_seen None None x y same = refl
  both_seen None (Some b) x y same = refl
  both_seen (Some a) None x y same = refl
  both_seen (Some a) (Some b) x y same =
      ap (λ c. c && x a.1 b.1) (matches_seen x y same a.0 b.0) ∙ ap (λ c. sections_match p y a.0 b.0 && c) (same a.1 b.1)

  lists_seen : (n a b : ℕ) → lists_match n (seen_of p) a b ≡ lists_match n p a b
  lists_seen zero a b = refl
  lists_seen (suc n) a b =
      ap (λ s. both_match s (section_at (seen_of p) b) (sections_match (seen_of p) (lists_match n (seen_of p))) (lists_match n (seen_of p)))
      (sections_seen a)
      ∙ ap (λ s. both_match (section_at p a) s (sections_match (seen_of p) (lists_match n (seen_of p))) (lists_match n (seen_of p)))
      (sections_seen b)
      ∙ both_seen (section_at p a) (section_at p b) (lists_match n (seen_of p)) (lists_match n p) (lists_seen n)

  pub congruous_seen : (most g h : ℕ) → congruous most (seen_of p) g h ≡ congruous most p g h
  congruous_seen most g h =
      ap (λ u. signatures_match (seen_of p) (lists_match most (seen_of p)) u (signature_at (seen_of p) h)) (heading_seen g)
      ∙ ap (λ u. signatures_match (seen_of p) (lists_match most (seen_of p)) (signature_at p g) u) (heading_seen h)
      ∙ signatures_seen (lists_match most (seen_of p)) (lists_match most p) (lists_seen most) (signature_at p g) (signature_at p h)

-- ---- a row that is not seen, in the place of another such

unseen_set : (rows : List Row) (n : ℕ) (r : Row) → seen (unwrap_or (slice_get rows n) Row.Nothing) ≡ Row.Nothing → seen r ≡ Row.Nothing
    → map seen (slice_set rows n r) ≡ map seen rows
unseen_set [] n r old new = refl
unseen_set (x ∷ xs) zero r old new = ap (λ y. y ∷ map seen xs) (new ∙ sym old)
unseen_set (x ∷ xs) (suc n) r old new = ap (λ ys. seen x ∷ ys) (unseen_set xs n r old new)

pub unseen_row : (p : ProgramRows) (n : ℕ) (r : Row) → seen (row_at p n) ≡ Row.Nothing → seen r ≡ Row.Nothing
    → seen_of (with_row p n r) ≡ seen_of p
unseen_row p n r old new = ap (λ rows. record { rows = rows; routines = []; texts = [] }) (unseen_set p.rows n r old new)
