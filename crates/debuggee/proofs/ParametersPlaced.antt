-- Where tables are laid out, the parts of a frame that are its parameters have the places of the heading's pieces.
use Rattle.std.proofs.Common.{◌++◌, ◌+◌, ◌<◌, ◌||◌, ◌∙◌, ◌∷◌, ◌≡◌, ◌≤◌, ◌⊎◌, [], ℕ, Bool, List, None, Option, Some, ap, append_assoc, arith, eqb-true, false}
use Rattle.std.proofs.Common.{inl, inr, is_some, length, ltb-true, min, nat_lt, option_to_list, refl, replicate, subst, suc, sym, true, zero}
use Rattle.core_program.proofs.{ActionsMeant.no, OutcomesCompose.none_some, OutcomesCompose.some_same, SectionsFollow.Follows, SectionsFollow.list_end}
use Rattle.core_program.proofs.{WholeActions.there, WholeArrays.dimensions_there, WholeParts.or_cases}
use Rattle.core_program.specs.Conformant.{Dimensions, and_spec, dimensions_in, dimensions_of, dimensions_within, extent_in}
use Rattle.core_program.specs.Headings.{section_at, section_in, signature_in, variable_type}
use Rattle.core_program.specs.ProgramRows.{ProgramRows, row_at, size_of, type_at}
use Rattle.core_program.specs.WholeTables.{RowFits, WholeTables, is_conformant, is_conformant_type, is_end, is_section_item, is_variable_row}
use Rattle.core_program.specs.declared.{components.Extent.Extent, headings.FormalSection.FormalSection}
use Rattle.core_program.specs.declared.rows.{ItemRow.ItemRow, Mode.Mode, NameRow.NameRow, PartRow.PartRow, Row.Row, TypeRow.TypeRow}
use Rattle.run_laws.specs.{LaidOut.most_tokens, ParameterLaws.CopyBegins}
use Rattle.run_laws.specs.LaidOut.{AllStand, IsBoundAt, IsRoutineAt, IsVariableAt, LaidOut, SpecStands, SpecsStand, StandsAt, is_at_token, most_cells}
use Rattle.run_laws.specs.ParameterPieces.{OfArray, OfBounds, OfCopy, OfRoutine, OfValue, OfVariable, ParameterPiece, and_further, and_more, heading_name}
use Rattle.run_laws.specs.ParameterPieces.{heading_pieces, heading_tokens, name_piece, names_from, piece_cells, pieces_cells, schema_before, section_tokens}
use Rattle.run_laws.specs.ParameterPieces.{sections_pieces, sections_tokens, signature_pieces, signature_tokens, specs_in, specs_of}
use Rattle.run_laws.specs.ParameterPieces as pieces
use Rattle.cell_names.specs.Layouts.{bounds_before, bounds_by, bounds_parts, component_in, heading_part, most_sections, named_part, next_name, parameters_in}
use Rattle.cell_names.specs.Layouts.{part, parts_after, parts_at, section_after, section_of, section_parts, sections_parts, spec_parts, token_after}
use Rattle.cell_names.specs.declared.places.PlacedPart.{PlacedPart}

-- ---- parts by their places

-- each part begins at a place or behind it
abbrev pub AllFrom : (place : ℕ) → List PlacedPart → Type 0
AllFrom place [] = Unit {0}
AllFrom place (x ∷ xs) = (place ≤ x.place) × AllFrom place xs

-- a part begins at a place or before it
abbrev pub SomeBegun : (place : ℕ) → List PlacedPart → Type 0
SomeBegun place [] = ⊥
SomeBegun place (x ∷ xs) = (x.place ≤ place) ⊎ SomeBegun place xs

pub from_less : (a b : ℕ) → a ≤ b → (xs : List PlacedPart) → AllFrom b xs → AllFrom a xs
from_less a b l [] h = tt
from_less a b l (x ∷ xs) h = (let k = h.0 in omega (arith, l, k), from_less a b l xs h.1)

pub from_append : (a : ℕ) (xs ys : List PlacedPart) → AllFrom a xs → AllFrom a ys → AllFrom a (xs ++ ys)
from_append a [] ys h g = g
from_append a (x ∷ xs) ys h g = (h.0, from_append a xs ys h.1 g)

pub begun_left : (a : ℕ) (xs ys : List PlacedPart) → SomeBegun a xs → SomeBegun a (xs ++ ys)
begun_left a [] ys h = absurd h
begun_left a (x ∷ xs) ys (inl h) = inl h
begun_left a (x ∷ xs) ys (inr h) = inr (begun_left a xs ys h)

pub begun_right : (a : ℕ) (xs ys : List PlacedPart) → SomeBegun a ys → SomeBegun a (xs ++ ys)
begun_right a [] ys h = h
begun_right a (x ∷ xs) ys h = inr (begun_right a xs ys h)

pub begun_later : (a b : ℕ) → a ≤ b → (xs : List PlacedPart) → SomeBegun a xs → SomeBegun b xs
begun_later a b l [] h = absurd h
begun_later a b l (x ∷ xs) (inl h) = inl (omega (arith, l, h))
begun_later a b l (x ∷ xs) (inr h) = inr (begun_later a b l xs h)

-- ---- parts of pieces

-- the parts of a piece that begins at a place and has a token
abbrev PieceParts : (place token : ℕ) → ParameterPiece → List PlacedPart → Type 0
PieceParts place token (OfBounds n) xs = AllFrom (min place most_cells) xs × (0 < n → SomeBegun place xs)
PieceParts place token q xs = xs ≡ part (min place most_cells) token ∷ []

-- the parts of pieces, of which the first begins at a place
pub data Placed : (from : ℕ) → List ℕ → List ParameterPiece → List PlacedPart → Type 0 where
  NoPieces : {from : ℕ} → Placed from [] [] []
  OnePiece : {from t : ℕ} {ts : List ℕ} {q : ParameterPiece} {qs : List ParameterPiece} {xs : List PlacedPart} → (ys : List PlacedPart)
      → PieceParts from t q ys → Placed (from + piece_cells q) ts qs xs → Placed from (t ∷ ts) (q ∷ qs) (ys ++ xs)

module _ (p : ProgramRows) where
  variable_part : (m : Mode) (place token : ℕ) (r : Row) → IsVariableAt m place r
      → option_to_list (named_part token r) ≡ part (min place most_cells) token ∷ []
  variable_part m place token (Row.Name (NameRow.Variable mode of' at level)) h = ap (λ a. part a token ∷ []) h.1
  variable_part m place token r h = absurd h

  routine_part : (place token : ℕ) (r : Row) → IsRoutineAt place r → option_to_list (named_part token r) ≡ part (min place most_cells) token ∷ []
  routine_part place token (Row.Name (NameRow.RoutineFormal at level heading)) h = ap (λ a. part a token ∷ []) h
  routine_part place token r h = absurd h

  name_part : (m : Mode) (conformant : Bool) (cells place token : ℕ) → StandsAt p token place (name_piece m conformant cells)
      → PieceParts place token (name_piece m conformant cells) (parts_at p token)
  name_part Mode.Own conformant cells place token h = variable_part Mode.Value place token (row_at p token) h
  name_part Mode.Value conformant cells place token h = variable_part Mode.Value place token (row_at p token) h
  name_part Mode.Place true cells place token h = variable_part Mode.Place place token (row_at p token) h
  name_part Mode.Place false cells place token h = variable_part Mode.Place place token (row_at p token) h
  name_part Mode.Copy conformant cells place token h = variable_part Mode.Copy place token (row_at p token) h

  -- these pieces, wherever they stand
  abbrev Rest : List ℕ → List ParameterPiece → List PlacedPart → Type 0
  Rest ts qs xs = (from : ℕ) → AllStand p from ts qs → Placed from ts qs xs

  names_placed : (m : Mode) (conformant : Bool) (cells count token : ℕ) (ts : List ℕ) (qs : List ParameterPiece) (xs : List PlacedPart) → Rest ts qs xs
      → Rest (names_from count token ++ ts) (replicate count (name_piece m conformant cells) ++ qs) (section_parts p count token ++ xs)
  names_placed m conformant cells zero token ts qs xs rest from s = rest from s
  names_placed m conformant cells (suc n) token ts qs xs rest from s =
      subst (Placed from (names_from (suc n) token ++ ts) (replicate (suc n) (name_piece m conformant cells) ++ qs))
      (sym (append_assoc (parts_at p token) (section_parts p n (next_name token)) xs))
      (OnePiece (parts_at p token) (name_part m conformant cells from token s.0)
      (names_placed m conformant cells n (next_name token) ts qs xs rest (from + piece_cells (name_piece m conformant cells)) s.1))

  -- ---- specs

  -- the schema of a type has this many specs
  abbrev Chain : (specs t : ℕ) → Type 0
  Chain zero t = component_in (type_at p t) ≡ None
  Chain (suc n) t = (c : ℕ) × (component_in (type_at p t) ≡ Some c) × Chain n c

  spec_known : (place : ℕ) (e : Option Extent) (d : Option Dimensions) (x : Dimensions) → and_spec place e d ≡ Some x
      → (y : Dimensions) × (d ≡ Some y) × (length x.specs ≡ suc (length y.specs))
  spec_known place (Some e) (Some y) x h = (y, refl, ap (λ (z : Dimensions). length z.specs) (sym (some_same h)))
  spec_known place (Some e) None x h = absurd (none_some h)
  spec_known place None None x h = absurd (none_some h)
  spec_known place None (Some y) x h = absurd (none_some h)

  chain_in : (k t : ℕ) (o : Option TypeRow) (d : Dimensions) → ((c : ℕ) (y : Dimensions) → dimensions_within k p c ≡ Some y → Chain (length y.specs) c)
      → type_at p t ≡ o → dimensions_in (dimensions_within k p) p t o ≡ Some d → Chain (length d.specs) t
  chain_in k t (Some (TypeRow.Conformant packed index component place)) d inner e h =
      let x = spec_known place (extent_in (type_at p index)) (dimensions_within k p component) d h in
      subst (λ n. Chain n t) (sym x.2) (component, ap component_in e, inner component x.0 x.1)
  chain_in k t None d inner e h = absurd (none_some h)
  chain_in k t (Some row) d inner e h = subst (λ n. Chain n t) (ap (λ (z : Dimensions). length z.specs) (some_same h)) (ap component_in e)

  chain_within : (k t : ℕ) (d : Dimensions) → dimensions_within k p t ≡ Some d → Chain (length d.specs) t
  chain_within zero t d h = absurd (none_some h)
  chain_within (suc k) t d h = chain_in k t (type_at p t) d (chain_within k) refl h

  no_component : (o : Option TypeRow) → is_conformant_type o ≡ false → component_in o ≡ None
  no_component (Some (TypeRow.Conformant packed index component place)) h = no (sym h)
  no_component o h = refl

  module _ (W : WholeTables p) (L : LaidOut p) where
    chain_known : (t : ℕ) (o : Option Dimensions) → dimensions_of p t ≡ o → is_some o ≡ true → Chain (specs_in o) t
    chain_known t None e h = no h
    chain_known t (Some d) e h = chain_within (length p.rows) t d e

    chain : (t : ℕ) → is_conformant p t ≡ true → Chain (specs_of p t) t
    chain t h = chain_known t (dimensions_of p t) refl (dimensions_there p W t h)

    is_bound : (place : ℕ) (r : Row) → IsBoundAt place r → is_at_token r ≡ true
    is_bound place (Row.Name (NameRow.Bound of' at level)) h = refl
    is_bound place r h = absurd h

    bound_named : (place token : ℕ) (r : Row) → IsBoundAt place r → option_to_list (named_part token r) ≡ part (min place most_cells) token ∷ []
    bound_named place token (Row.Name (NameRow.Bound of' at level)) h = ap (λ a. part a token ∷ []) h
    bound_named place token r h = absurd h

    bound_part : (place token more : ℕ) → IsBoundAt place (row_at p (token + more))
        → parts_at p (token_after token more) ≡ part (min place most_cells) (token + more) ∷ []
    bound_part place token more h =
        let l : token + more < most_tokens = L.tokens (token + more) (is_bound place (row_at p (token + more)) h) in
        let e : token_after token more ≡ token + more = omega (arith, l) in
        ap (parts_at p) e ∙ bound_named place (token + more) (row_at p (token + more)) h

    abbrev BoundsPlaced : (n t place : ℕ) → List PlacedPart → Type 0
    BoundsPlaced n t place xs = AllFrom (min place most_cells) xs × (0 < n → SomeBegun place xs)

    spec_placed : (n m t place c : ℕ) (o : Option TypeRow) → component_in o ≡ Some c
        → ((at : ℕ) → SpecsStand p n c at → AllFrom (min at most_cells) (bounds_parts p m c)) → SpecStands p (SpecsStand p n) t place o
        → BoundsPlaced (suc n) t place (bounds_by p (bounds_parts p m) t (component_in o))
    spec_placed n m t place c (Some (TypeRow.Conformant packed index component at)) e inner s =
        let first = bound_part place t 1 s.1 in
        let second = bound_part (place + 1) t 3 s.2 in
        let both : spec_parts p t ≡ part (min place most_cells) (t + 1) ∷ part (min (place + 1) most_cells) (t + 3) ∷ [] =
        ap (λ ys. ys ++ parts_at p (token_after t 3)) first ∙ ap (λ ys. part (min place most_cells) (t + 1) ∷ ys) second in
        let same : component ≡ c = some_same e in
        let rest : AllFrom (min (place + 2) most_cells) (bounds_parts p m component) =
        subst (λ d. SpecsStand p n d (place + 2) → AllFrom (min (place + 2) most_cells) (bounds_parts p m d)) (sym same) (inner (place + 2)) s.3 in
        subst (λ ys. BoundsPlaced (suc n) t place (ys ++ bounds_parts p m component)) (sym both) (
          (omega arith, (omega arith, from_less (min place most_cells) (min (place + 2) most_cells) (omega arith) (bounds_parts p m component) rest)),
          λ _. inl (omega arith),
        )
    spec_placed n m t place c o e inner s = absurd s

    bounds_low : (n m t place : ℕ) → Chain n t → SpecsStand p n t place → AllFrom (min place most_cells) (bounds_parts p m t)
    bounds_low n zero t place c s = tt
    bounds_low zero (suc m) t place c s = subst (λ o. AllFrom (min place most_cells) (bounds_by p (bounds_parts p m) t o)) (sym c) tt
    bounds_low (suc n) (suc m) t place c s =
        (spec_placed n m t place c.0 (type_at p t) c.1 (λ at. bounds_low n m c.0 at c.2) s).0

    bounds_placed : (n m t place : ℕ) → Chain n t → SpecsStand p n t place → BoundsPlaced n t place (bounds_parts p (suc m) t)
    bounds_placed zero m t place c s = (bounds_low zero (suc m) t place c s, λ l. absurd (omega (arith, l)))
    bounds_placed (suc n) m t place c s = spec_placed n m t place c.0 (type_at p t) c.1 (λ at. bounds_low n m c.0 at c.2) s

    some_sections : most_sections ≡ suc 1048575
    unfolding most_sections
    some_sections = omega arith

    -- ---- sections

    section_named : (m : Mode) (first count of' : ℕ) (ts : List ℕ) (qs : List ParameterPiece) (xs : List PlacedPart) → Rest ts qs xs
        → (b : Bool) → is_conformant p of' ≡ b
        → Rest (schema_before b of' (names_from count first) ++ ts)
        (pieces.bounds_before b (specs_of p of') (replicate count (name_piece m (is_conformant p of') (size_of p of'))) ++ qs)
        ((bounds_parts p most_sections of' ++ section_parts p count first) ++ xs)
    section_named m first count of' ts qs xs rest false e from s =
        let none : bounds_parts p most_sections of' ≡ [] = ap (λ k. bounds_parts p k of') some_sections
        ∙ ap (bounds_by p (bounds_parts p 1048575) of') (no_component (type_at p of') e) in
        subst (λ ys. Placed from (names_from count first ++ ts) (replicate count (name_piece m (is_conformant p of') (size_of p of')) ++ qs)
        ((ys ++ section_parts p count first) ++ xs)) (sym none)
        (names_placed m (is_conformant p of') (size_of p of') count first ts qs xs rest from s)
    section_named m first count of' ts qs xs rest true e from s =
        subst (Placed from (of' ∷ names_from count first ++ ts)
        (OfBounds (specs_of p of') ∷ replicate count (name_piece m (is_conformant p of') (size_of p of')) ++ qs))
        (sym (append_assoc (bounds_parts p most_sections of') (section_parts p count first) xs))
        (OnePiece (bounds_parts p most_sections of')
        (subst (λ k. BoundsPlaced (specs_of p of') of' from (bounds_parts p k of')) (sym some_sections)
        (bounds_placed (specs_of p of') 1048575 of' from (chain of' e) s.0))
        (names_placed m (is_conformant p of') (size_of p of') count first ts qs xs rest (from + (specs_of p of' + specs_of p of')) s.1))

    -- by the row of its first name
    section_by : (m : Mode) (first count : ℕ) (r : Row) → is_variable_row r ≡ true → (ts : List ℕ) (qs : List ParameterPiece) (xs : List PlacedPart)
        → Rest ts qs xs
        → Rest (pieces.names_in p first count (variable_type r first) ++ ts)
        (pieces.section_pieces p (FormalSection.Names m (variable_type r first) count) ++ qs)
        ((bounds_before p r ++ section_parts p count first) ++ xs)
    section_by m first count (Row.Name (NameRow.Variable mode of' at level)) h ts qs xs rest =
        section_named m first count of' ts qs xs rest (is_conformant p of') refl
    section_by m first count r h ts qs xs rest = no h

    heading_by : (r : Row) → is_some (signature_in r) ≡ true → (ts : List ℕ) (qs : List ParameterPiece) (xs : List PlacedPart) → Rest ts qs xs
        → Rest (heading_name r ++ ts) (OfRoutine ∷ qs) (heading_part p r ++ xs)
    heading_by (Row.Part (PartRow.Heading name sections result)) h ts qs xs rest from s =
        OnePiece (parts_at p name) (routine_part from name (row_at p name) s.0) (rest (from + 1) s.1)
    heading_by r h ts qs xs rest from s = no h

    -- the sections from one on, of which so many rows and tokens are left
    abbrev SectionsPlaced : (n m slot : ℕ) → Type 0
    SectionsPlaced n m slot = Rest (sections_tokens n p slot) (sections_pieces n p slot) (sections_parts p m slot)

    none_after : (r : Row) → section_in p r ≡ None → (rest : ℕ → List PlacedPart) → section_of p r ++ parts_after rest (section_after r) ≡ []
    none_after (Row.Item (ItemRow.Section m first count next)) h rest = absurd (none_some (sym h))
    none_after (Row.Item (ItemRow.RoutineSection heading next)) h rest = absurd (none_some (sym h))
    none_after r h rest = refl

    no_parts : (m slot : ℕ) → section_at p slot ≡ None → sections_parts p m slot ≡ []
    no_parts zero slot h = refl
    no_parts (suc m) slot h = none_after (row_at p slot) h (sections_parts p m)

    no_sections : (n m slot : ℕ) → section_at p slot ≡ None → SectionsPlaced n m slot
    no_sections zero m slot h from s = subst (Placed from [] []) (sym (no_parts m slot h)) NoPieces
    no_sections (suc n) m slot h from s =
        subst (λ o. Placed from (and_more p slot (sections_tokens n p) o) (and_further p (sections_pieces n p) o) (sections_parts p m slot)) (sym h)
        (subst (Placed from [] []) (sym (no_parts m slot h)) NoPieces)

    -- a section, and those after it
    one_section : (n m slot : ℕ) (r : Row) → row_at p slot ≡ r → RowFits p slot r → is_section_item r ≡ true
        → ((next : ℕ) → section_after r ≡ Some next → SectionsPlaced n m next)
        → Rest (and_more p slot (sections_tokens n p) (section_in p r)) (and_further p (sections_pieces n p) (section_in p r))
        (section_of p r ++ parts_after (sections_parts p m) (section_after r))
    one_section n m slot (Row.Item (ItemRow.Section mode first count next)) e f h rest from s =
        subst (λ ts. Placed from (ts ++ sections_tokens n p next)
        (pieces.section_pieces p (FormalSection.Names mode (variable_type (row_at p first) first) count) ++ sections_pieces n p next)
        ((bounds_before p (row_at p first) ++ section_parts p count first) ++ sections_parts p m next)) (ap (section_tokens p) (sym e))
        (section_by mode first count (row_at p first) f.0 (sections_tokens n p next) (sections_pieces n p next) (sections_parts p m next) (rest next refl) from
        (subst (λ ts. AllStand p from (ts ++ sections_tokens n p next)
        (pieces.section_pieces p (FormalSection.Names mode (variable_type (row_at p first) first) count) ++ sections_pieces n p next))
        (ap (section_tokens p) e) s))
    one_section n m slot (Row.Item (ItemRow.RoutineSection heading next)) e f h rest from s =
        subst (λ ts. Placed from (ts ++ sections_tokens n p next) (OfRoutine ∷ sections_pieces n p next)
        (heading_part p (row_at p heading) ++ sections_parts p m next)) (ap (section_tokens p) (sym e))
        (heading_by (row_at p heading) f.0 (sections_tokens n p next) (sections_pieces n p next) (sections_parts p m next) (rest next refl) from
        (subst (λ ts. AllStand p from (ts ++ sections_tokens n p next) (OfRoutine ∷ sections_pieces n p next)) (ap (section_tokens p) e) s))
    one_section n m slot r e f h rest from s = no h

    -- whether there is a section
    section_there : (r : Row) → (section_in p r ≡ None) ⊎ (is_section_item r ≡ true)
    section_there (Row.Item (ItemRow.Section m first count next)) = inr refl
    section_there (Row.Item (ItemRow.RoutineSection heading next)) = inr refl
    section_there r = inl refl

    is_item : (r : Row) → is_section_item r ≡ true → is_at_token r ≡ true
    is_item (Row.Item i) h = refl
    is_item r h = no h

    goes : (at next : ℕ) → (is_end next || nat_lt at next) ≡ true → Follows at next
    goes at next h = elim (or_cases (is_end next) (nat_lt at next) h) [ inl e ↦ inl (eqb-true next 0 e) | inr l ↦ inr (ltb-true at next l) ]

    after_follows : (slot : ℕ) (r : Row) → RowFits p slot r → is_section_item r ≡ true → (next : ℕ) → section_after r ≡ Some next → Follows slot next
    after_follows slot (Row.Item (ItemRow.Section m first count n)) f h next e = subst (Follows slot) (some_same e) (goes slot n f.1.1)
    after_follows slot (Row.Item (ItemRow.RoutineSection heading n)) f h next e = subst (Follows slot) (some_same e) (goes slot n f.2.1)
    after_follows slot r f h next e = no h

    sections_placed : (n m slot : ℕ) → length p.rows ≤ slot + n → most_tokens ≤ slot + m → SectionsPlaced n m slot
    sections_placed zero m slot rows tokens = elim (section_there (row_at p slot)) [
      | inl none ↦ no_sections zero m slot none
      | inr h ↦ absurd (let l : slot < length p.rows = there p is_section_item slot refl h in omega (arith, l, rows))
    ]
    sections_placed (suc n) zero slot rows tokens = elim (section_there (row_at p slot)) [
      | inl none ↦ no_sections (suc n) zero slot none
      | inr h ↦ absurd (let l : slot < most_tokens = L.tokens slot (is_item (row_at p slot) h) in omega (arith, l, tokens))
    ]
    sections_placed (suc n) (suc m) slot rows tokens = elim (section_there (row_at p slot)) [
      | inl none ↦ no_sections (suc n) (suc m) slot none
      | inr h ↦ one_section n m slot (row_at p slot) refl (W.rows slot) h (λ next e. further next (after_follows slot (row_at p slot) (W.rows slot) h next e)
          (λ l. sections_placed n m next (omega (arith, l, rows)) (omega (arith, l, tokens))))
    ]
      where
        further : (next : ℕ) → Follows slot next → (slot < next → SectionsPlaced n m next) → SectionsPlaced n m next
        further next (inl e) go = no_sections n m next (ap (section_at p) e ∙ list_end p W)
        further next (inr l) go = go l

    parameters_by : (r : Row) → AllStand p 1 (signature_tokens p (signature_in r)) (signature_pieces p (signature_in r))
        → Placed 1 (signature_tokens p (signature_in r)) (signature_pieces p (signature_in r)) (parameters_in p r)
    unfolding most_sections
    parameters_by (Row.Part (PartRow.Heading name sections result)) s =
        sections_placed (length p.rows) most_sections sections (omega arith) (omega arith) 1 s
    parameters_by r s = NoPieces

    pub parameters_placed : (heading : ℕ) → Placed 1 (heading_tokens p heading) (heading_pieces p heading) (parameters_in p (row_at p heading))
    parameters_placed heading = parameters_by (row_at p heading) (L.headings heading)

-- ---- what follows of their places

piece_low : (q : ParameterPiece) (from t : ℕ) (ys : List PlacedPart) → PieceParts from t q ys → AllFrom (min from most_cells) ys
piece_low (OfBounds n) from t ys h = h.0
piece_low (OfValue n) from t ys h = subst (AllFrom (min from most_cells)) (sym h) (omega arith, tt)
piece_low (OfVariable n) from t ys h = subst (AllFrom (min from most_cells)) (sym h) (omega arith, tt)
piece_low OfArray from t ys h = subst (AllFrom (min from most_cells)) (sym h) (omega arith, tt)
piece_low OfCopy from t ys h = subst (AllFrom (min from most_cells)) (sym h) (omega arith, tt)
piece_low OfRoutine from t ys h = subst (AllFrom (min from most_cells)) (sym h) (omega arith, tt)

-- all begin where the first piece begins, or behind it
pub placed_low : {from : ℕ} {ts : List ℕ} {qs : List ParameterPiece} {xs : List PlacedPart} → Placed from ts qs xs → AllFrom (min from most_cells) xs
placed_low NoPieces = tt
placed_low (OnePiece {from = from} {t = t} {q = q} {xs = xs} ys h g) = from_append (min from most_cells) ys xs (piece_low q from t ys h)
    (from_less (min from most_cells) (min (from + piece_cells q) most_cells) (omega arith) xs (placed_low g))

-- a piece without cells has no parts, or one that begins where it does
piece_begun : (q : ParameterPiece) (from t : ℕ) (ys : List PlacedPart) → PieceParts from t q ys → (piece_cells q ≡ 0) ⊎ SomeBegun from ys
piece_begun (OfBounds zero) from t ys h = inl refl
piece_begun (OfBounds (suc n)) from t ys h = inr (h.1 (omega arith))
piece_begun (OfValue n) from t ys h = inr (subst (SomeBegun from) (sym h) (inl (omega arith)))
piece_begun (OfVariable n) from t ys h = inr (subst (SomeBegun from) (sym h) (inl (omega arith)))
piece_begun OfArray from t ys h = inr (subst (SomeBegun from) (sym h) (inl (omega arith)))
piece_begun OfCopy from t ys h = inr (subst (SomeBegun from) (sym h) (inl (omega arith)))
piece_begun OfRoutine from t ys h = inr (subst (SomeBegun from) (sym h) (inl (omega arith)))

-- where the pieces have cells, a part begins where the first of them begins
pub placed_begun : {from : ℕ} {ts : List ℕ} {qs : List ParameterPiece} {xs : List PlacedPart} → Placed from ts qs xs → 0 < pieces_cells qs
    → SomeBegun from xs
placed_begun NoPieces l = absurd (omega (arith, l))
placed_begun (OnePiece {from = from} {t = t} {q = q} {qs = qs} {xs = xs} ys h g) l = elim (piece_begun q from t ys h) [
  | inl e ↦ begun_right from ys xs
      (begun_later (from + piece_cells q) from (omega (arith, e)) xs (placed_begun g (omega (arith, e, l))))
  | inr k ↦ begun_left from ys xs k
]

-- a copy's parameter is a part that begins at a place, and all after it begin behind that
pub record StandsAlone (place token : ℕ) (xs : List PlacedPart) : Type 0 where
  pub before : List PlacedPart
  pub after : List PlacedPart
  pub is : xs ≡ before ++ part (min place most_cells) token ∷ after
  pub later : AllFrom (min (place + 1) most_cells) after

copy_here : {t place token : ℕ} {q : ParameterPiece} (ys xs : List PlacedPart) (from : ℕ) → PieceParts from t q ys
    → AllFrom (min (from + piece_cells q) most_cells) xs → place ≡ from → token ≡ t → q ≡ OfCopy → StandsAlone place token (ys ++ xs)
copy_here {t} {place} {token} {q} ys xs from h g e f k = record {
  before = [];
  after = xs;
  is = ap (λ zs. zs ++ xs) (subst (λ r. PieceParts from t r ys) k h) ∙ ap (λ n. part (min n most_cells) t ∷ xs) (sym e)
      ∙ ap (λ n. part (min place most_cells) n ∷ xs) (sym f);
  later = subst (λ n. AllFrom (min (n + 1) most_cells) xs) (sym e) (subst (λ r. AllFrom (min (from + piece_cells r) most_cells) xs) k g);
}

copy_later : {place token : ℕ} (ys xs : List PlacedPart) → StandsAlone place token xs → StandsAlone place token (ys ++ xs)
copy_later {place} {token} ys xs s = record {
  before = ys ++ s.before;
  after = s.after;
  is = ap (λ zs. ys ++ zs) s.is ∙ sym (append_assoc ys s.before (part (min place most_cells) token ∷ s.after));
  later = s.later;
}

pub placed_copy : {from : ℕ} {ts : List ℕ} {qs : List ParameterPiece} {xs : List PlacedPart} {place token : ℕ} → Placed from ts qs xs
    → CopyBegins from ts qs place token → StandsAlone place token xs
placed_copy NoPieces c = absurd c
placed_copy (OnePiece {from = from} {xs = xs} ys h g) (inl c) = copy_here ys xs from h (placed_low g) c.0 c.1 c.2
placed_copy (OnePiece {xs = xs} ys h g) (inr c) = copy_later ys xs (placed_copy g c)
