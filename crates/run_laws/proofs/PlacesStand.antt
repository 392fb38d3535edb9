-- Where the parameters of a heading have an end, each stands where the one before it ends.
use Rattle.std.proofs.Common.{◌&&◌, ◌++◌, ◌+◌, ◌∙◌, ◌∷◌, ◌≡◌, [], ℕ, Bool, List, None, Option, Some, ap, arith, eqb-true, false, is_some, length, min, nat_eq}
use Rattle.std.proofs.Common.{nat_le, refl, replicate, subst, suc, sym, true, zero}
use Rattle.core_program.proofs.{ActionsMeant.no, OutcomesCompose.none_some, OutcomesCompose.some_same, WholeParts.and_both}
use Rattle.core_program.specs.{Conformant.Dimensions, Conformant.dimensions_of, ProgramRows.ProgramRows, ProgramRows.row_at, ProgramRows.size_of}
use Rattle.core_program.specs.{ProgramRows.type_at, WholeTables.WholeTables, WholeTables.is_conformant, declared.headings.FormalSection.FormalSection}
use Rattle.core_program.specs.Headings.{section_at, section_in, signature_in, variable_type}
use Rattle.core_program.specs.declared.rows.{ItemRow.ItemRow, Mode.Mode, NameRow.NameRow, PartRow.PartRow, Row.Row, TypeRow.TypeRow}
use Rattle.run_laws.proofs.{PassedMeet.if_some, SchemasCounted.dimensions, SchemasCounted.no_specs}
use Rattle.run_laws.specs.LaidOut.{AllStand, IsBoundAt, IsRoutineAt, IsVariableAt, SpecStands, SpecsStand, StandsAt, most_cells}
use Rattle.run_laws.specs.LaidTests.{and_further_end, and_inside, and_names_end, and_specs_inside, heading_end, is_bound_at, is_routine_at, is_variable_at}
use Rattle.run_laws.specs.LaidTests.{name_cells, names_end, next_section, on_if, place_after, routine_end, same_parameter, schema_of, schema_within}
use Rattle.run_laws.specs.LaidTests.{section_end, sections_end, sections_in, spec_component, spec_stands, specs_before, specs_end}
use Rattle.run_laws.specs.ParameterPieces.{OfBounds, OfRoutine, ParameterPiece, and_further, and_more, bounds_before, heading_name, name_after, name_piece}
use Rattle.run_laws.specs.ParameterPieces.{names_from, names_in, piece_cells, pieces_cells, schema_before, section_pieces, section_tokens, sections_pieces}
use Rattle.run_laws.specs.ParameterPieces.{sections_tokens, signature_pieces, signature_tokens, specs_in, specs_of}

-- ---- places

-- a place, as it is counted
abbrev counted : ℕ → ℕ
counted place = min place most_cells

after : (place cells c : ℕ) → c ≡ counted place → place_after c cells ≡ counted (place + cells)
after place cells c e = omega (arith, e)

-- these parameters stand from a place on, and this is where they end
record Stood (p : ProgramRows) (place end : ℕ) (ts : List ℕ) (qs : List ParameterPiece) : Type 0 where
  stands : AllStand p place ts qs
  ends : end ≡ counted (place + pieces_cells qs)

cells_then : (qs rs : List ParameterPiece) → pieces_cells (qs ++ rs) ≡ pieces_cells qs + pieces_cells rs
cells_then [] rs = let z : pieces_cells rs ≡ 0 + pieces_cells rs = omega arith in z
cells_then (q ∷ qs) rs = let k = cells_then qs rs in omega (arith, k)

stand_then : (p : ProgramRows) (place from : ℕ) (ts us : List ℕ) (qs rs : List ParameterPiece) → from ≡ place + pieces_cells qs → AllStand p place ts qs
    → AllStand p from us rs → AllStand p place (ts ++ us) (qs ++ rs)
stand_then p place from [] us [] rs e s t = subst (λ n. AllStand p n us rs) (let z : from ≡ place = omega (arith, e) in z) t
stand_then p place from [] us (q ∷ qs) rs e s t = absurd s
stand_then p place from (t' ∷ ts) us [] rs e s t = absurd s
stand_then p place from (t' ∷ ts) us (q ∷ qs) rs e s t =
    (s.0, stand_then p (place + piece_cells q) from ts us qs rs (let z : from ≡ (place + piece_cells q) + pieces_cells qs = omega (arith, e) in z) s.1 t)

both_stood : (p : ProgramRows) (place mid end : ℕ) (ts us : List ℕ) (qs rs : List ParameterPiece) → Stood p place mid ts qs
    → Stood p (place + pieces_cells qs) end us rs → Stood p place end (ts ++ us) (qs ++ rs)
both_stood p place mid end ts us qs rs s t = record {
  stands = stand_then p place (place + pieces_cells qs) ts us qs rs refl s.stands t.stands;
  ends = t.ends ∙ ap counted (let k = cells_then qs rs in let z : (place + pieces_cells qs) + pieces_cells rs
      ≡ place + pieces_cells (qs ++ rs) = omega (arith, k) in z);
}

none_stood : (p : ProgramRows) (place end c : ℕ) → c ≡ counted place → c ≡ end → Stood p place end [] []
none_stood p place end c e f = record { stands = tt; ends = sym f ∙ e ∙ ap counted (let z : place ≡ place + 0 = omega arith in z) }

-- ---- bounds

bound_means : (place c : ℕ) (r : Row) → c ≡ counted place → is_bound_at c r ≡ true → IsBoundAt place r
bound_means place c (Row.Name (NameRow.Bound of' at level)) e h = eqb-true at c h ∙ e
bound_means place c r e h = no h

module _ (p : ProgramRows) where
  -- these specs stand from a place on, and this is where they end
  record SpecsStood (n of' place end : ℕ) : Type 0 where
    specs : ℕ
    inside : ℕ
    found : schema_within n p of' ≡ Some (specs, inside)
    stand : SpecsStand p specs of' place
    ends : end ≡ counted (place + (specs + specs))

  -- one spec more, in front of those inside
  with_spec : (n of' place c end index component at : ℕ) (packed : Bool) → type_at p of' ≡ Some (TypeRow.Conformant packed index component at)
      → c ≡ counted place → spec_stands p of' c (Some (TypeRow.Conformant packed index component at)) ≡ true
      → SpecsStood n component (place + 2) end → SpecsStood (suc n) of' place end
  with_spec n of' place c end index component at packed t e h s =
      let a = and_both (nat_le of' 4294967292) _ h in
      let b = and_both (nat_eq at c) _ a.1 in
      let d = and_both (is_bound_at c (row_at p (of' + 1))) (is_bound_at (place_after c 1) (row_at p (of' + 3))) b.1 in
      record {
        specs = suc s.specs;
        inside = s.inside;
        found = ap (λ (o : Option TypeRow). and_inside (schema_within n p) of' (is_some o) (spec_component o)) t ∙ ap (specs_before 1) s.found
            ∙ ap (λ k. Some (k, s.inside)) (let z : 1 + s.specs ≡ suc s.specs = omega arith in z);
        stand = subst (λ o. SpecStands p (SpecsStand p s.specs) of' place o) (sym t) (
          eqb-true at c b.0 ∙ e,
          bound_means place c (row_at p (of' + 1)) e d.0,
          bound_means (place + 1) (place_after c 1) (row_at p (of' + 3)) (after place 1 c e) d.1,
          s.stand,
        );
        ends = s.ends ∙ ap counted (let z : (place + 2) + (s.specs + s.specs) ≡ place + (suc s.specs + suc s.specs) = omega arith in z);
      }

  no_spec : (n of' place c end : ℕ) → schema_within (suc n) p of' ≡ Some (0, of') → c ≡ counted place → Some c ≡ Some end → SpecsStood (suc n) of' place end
  no_spec n of' place c end f e h = record {
    specs = 0;
    inside = of';
    found = f;
    stand = tt;
    ends = sym (some_same h) ∙ e ∙ ap counted (let z : place ≡ place + (0 + 0) = omega arith in z);
  }

  by_type : (n of' place c end : ℕ) (t : Option TypeRow)
      → ((of' place c end : ℕ) → c ≡ counted place → specs_end n p of' c ≡ Some end → SpecsStood n of' place end) → type_at p of' ≡ t → c ≡ counted place
      → and_specs_inside (specs_end n p) c (is_some t) (spec_component t) (spec_stands p of' c t) ≡ Some end → SpecsStood (suc n) of' place end
  by_type n of' place c end (Some (TypeRow.Conformant packed index component at)) rest t e h =
      let k = if_some (spec_stands p of' c (Some (TypeRow.Conformant packed index component at))) (specs_end n p component (place_after c 2)) end h in
      with_spec n of' place c end index component at packed t e k.0 (rest component (place + 2) (place_after c 2) end (after place 2 c e) k.1)
  by_type n of' place c end None rest t e h = absurd (none_some h)
  by_type n of' place c end (Some row) rest t e h =
      no_spec n of' place c end (ap (λ (o : Option TypeRow). and_inside (schema_within n p) of' (is_some o) (spec_component o)) t) e h

  specs_mean : (n of' place c end : ℕ) → c ≡ counted place → specs_end n p of' c ≡ Some end → SpecsStood n of' place end
  specs_mean zero of' place c end e h = absurd (none_some h)
  specs_mean (suc n) of' place c end e h = by_type n of' place c end (type_at p of') (specs_mean n) refl e h

-- ---- names

modes_told : (m n : Mode) → same_parameter m n ≡ true → m ≡ n
modes_told Mode.Value Mode.Value h = refl
modes_told Mode.Place Mode.Place h = refl
modes_told Mode.Copy Mode.Copy h = refl
modes_told m n h = no h

no_variable : {A : Type 0} (m : Mode) → same_parameter m Mode.Own ≡ true → A
no_variable Mode.Own h = no h
no_variable Mode.Value h = no h
no_variable Mode.Place h = no h
no_variable Mode.Copy h = no h

variable_means : (m : Mode) (place c : ℕ) (r : Row) → c ≡ counted place → is_variable_at m c r ≡ true → IsVariableAt m place r
variable_means m place c (Row.Name (NameRow.Variable mode of' at level)) e h =
    let k = and_both (same_parameter mode m) (nat_eq at c) h in
    (modes_told mode m k.0, eqb-true at c k.1 ∙ e)
variable_means m place c r e h = no h

own_nowhere : {A : Type 0} (c : ℕ) (r : Row) → is_variable_at Mode.Own c r ≡ true → A
own_nowhere c (Row.Name (NameRow.Variable mode of' at level)) h = no_variable mode (and_both (same_parameter mode Mode.Own) (nat_eq at c) h).0
own_nowhere c r h = no h

name_stands : (p : ProgramRows) (m : Mode) (conformant : Bool) (size token place c : ℕ) → c ≡ counted place → is_variable_at m c (row_at p token) ≡ true
    → StandsAt p token place (name_piece m conformant size)
name_stands p Mode.Value conformant size token place c e h = variable_means Mode.Value place c (row_at p token) e h
name_stands p Mode.Place true size token place c e h = variable_means Mode.Place place c (row_at p token) e h
name_stands p Mode.Place false size token place c e h = variable_means Mode.Place place c (row_at p token) e h
name_stands p Mode.Copy conformant size token place c e h = variable_means Mode.Copy place c (row_at p token) e h
name_stands p Mode.Own conformant size token place c e h = own_nowhere c (row_at p token) h

name_size : (m : Mode) (conformant : Bool) (size : ℕ) → piece_cells (name_piece m conformant size) ≡ name_cells m size
name_size Mode.Value conformant size = refl
name_size Mode.Place true size = refl
name_size Mode.Place false size = refl
name_size Mode.Copy conformant size = refl
name_size Mode.Own conformant size = refl

module _ (p : ProgramRows) (m : Mode) (conformant : Bool) (size : ℕ) where
  names_mean : (n token place c end : ℕ) → c ≡ counted place → names_end n p m (name_cells m size) token c ≡ Some end
      → Stood p place end (names_from n token) (replicate n (name_piece m conformant size))
  names_mean zero token place c end e h = none_stood p place end c e (some_same h)
  names_mean (suc n) token place c end e h =
      let k = if_some (is_variable_at m c (row_at p token)) (names_end n p m (name_cells m size) (name_after token) (place_after c (name_cells m size))) end
      h in
      let q = name_piece m conformant size in
      let f = after place (name_cells m size) c e ∙ ap (λ x. counted (place + x)) (sym (name_size m conformant size)) in
      let s = names_mean n (name_after token) (place + piece_cells q) (place_after c (name_cells m size)) end f k.1 in
      let rs = replicate n q in
      record {
        stands = (name_stands p m conformant size token place c e k.0, s.stands);
        ends = s.ends ∙ ap counted (let z : (place + piece_cells q) + pieces_cells rs ≡ place + (piece_cells q + pieces_cells rs) = omega arith in z);
      }

-- ---- sections

and_names : (p : ProgramRows) (m : Mode) (count cells first end : ℕ) (o : Option ℕ) → and_names_end count p m cells first o ≡ Some end
    → (mid : ℕ) × (o ≡ Some mid) × (names_end count p m cells first mid ≡ Some end)
and_names p m count cells first end None h = absurd (none_some h)
and_names p m count cells first end (Some mid) h = (mid, refl, h)

ends_further : (f : (section place : ℕ) → Option ℕ) (place next end : ℕ) (o : Option ℕ) → and_further_end f place (Some next) o ≡ Some end
    → (after : ℕ) × (o ≡ Some after) × (f next after ≡ Some end)
ends_further f place next end None h = absurd (none_some h)
ends_further f place next end (Some after) h = (after, refl, h)

module _ (p : ProgramRows) (W : WholeTables p) where
  count_of : (of' specs inside : ℕ) → schema_of p of' ≡ Some (specs, inside) → specs_of p of' ≡ specs
  count_of of' specs inside f = let d = dimensions p W of' (specs, inside) f in ap specs_in d.1 ∙ d.2

  names_stood : (m : Mode) (of' count first place mid end : ℕ) → SpecsStood p (length p.rows) of' place mid
      → names_end count p m (name_cells m (size_of p of')) first mid ≡ Some end → (b : Bool) → is_conformant p of' ≡ b
      → Stood p place end (schema_before b of' (names_from count first))
      (bounds_before b (specs_of p of') (replicate count (name_piece m b (size_of p of'))))
  names_stood m of' count first place mid end s h true c =
      let n = count_of of' s.specs s.inside s.found in
      let e : mid ≡ counted (place + (specs_of p of' + specs_of p of')) = s.ends ∙ ap (λ k. counted (place + (k + k))) (sym n) in
      let t = names_mean p m true (size_of p of') count first (place + (specs_of p of' + specs_of p of')) mid end e h in
      let qs = replicate count (name_piece m true (size_of p of')) in
      let k = specs_of p of' in
      record {
        stands = (subst (λ n. SpecsStand p n of' place) (sym n) s.stand, t.stands);
        ends = t.ends ∙ ap counted (let z : (place + (k + k)) + pieces_cells qs ≡ place + ((k + k) + pieces_cells qs) = omega arith in z);
      }
  names_stood m of' count first place mid end s h false c =
      let z : s.specs ≡ 0 = ap (λ (x : ℕ × ℕ). x.0) (no_specs p (length p.rows) of' (s.specs, s.inside) c s.found) in
      names_mean p m false (size_of p of') count first place mid end
      (s.ends ∙ ap counted (let y : place + (s.specs + s.specs) ≡ place = omega (arith, z) in y)) h

  routine_means : (place c : ℕ) (r : Row) → c ≡ counted place → is_routine_at c r ≡ true → IsRoutineAt place r
  routine_means place c (Row.Name (NameRow.RoutineFormal at level heading)) e h = eqb-true at c h ∙ e
  routine_means place c r e h = no h

  routine_stood : (place c end : ℕ) (r : Row) → c ≡ counted place → routine_end p r c ≡ Some end → Stood p place end (heading_name r) (OfRoutine ∷ [])
  routine_stood place c end (Row.Part (PartRow.Heading name sections result)) e h =
      let k = if_some (is_routine_at c (row_at p name)) (Some (place_after c 1)) end h in
      record {
        stands = (routine_means place c (row_at p name) e k.0, tt);
        ends = sym (some_same k.1) ∙ after place 1 c e;
      }
  routine_stood place c end r e h = absurd (none_some h)

  abbrev FurtherStand : ℕ → Type 0
  FurtherStand n = (section place c end : ℕ) → c ≡ counted place → sections_end n p section c ≡ Some end
      → Stood p place end (sections_tokens n p section) (sections_pieces n p section)

  in_section : (n section place c end : ℕ) (r : Row) → row_at p section ≡ r → FurtherStand n → c ≡ counted place
      → and_further_end (sections_end n p) c (next_section r) (section_end p r c) ≡ Some end
      → Stood p place end (and_more p section (sections_tokens n p) (section_in p r)) (and_further p (sections_pieces n p) (section_in p r))
  in_section n section place c end (Row.Item (ItemRow.Section m first count next)) q rest e h =
      let of' = variable_type (row_at p first) first in
      let k = ends_further (sections_end n p) c next end (section_end p (Row.Item (ItemRow.Section m first count next)) c) h in
      let j = and_names p m count (name_cells m (size_of p of')) first k.0 (specs_end (length p.rows) p of' c) k.1 in
      let s = names_stood m of' count first place j.0 k.0 (specs_mean p (length p.rows) of' place c j.0 e j.1) j.2 (is_conformant p of') refl in
      let qs = section_pieces p (FormalSection.Names m of' count) in
      subst (λ r. Stood p place end (section_tokens p r ++ sections_tokens n p next) (qs ++ sections_pieces n p next)) (sym q)
      (both_stood p place k.0 end (names_in p first count of') (sections_tokens n p next) qs (sections_pieces n p next) s
      (rest next (place + pieces_cells qs) k.0 end s.ends k.2))
  in_section n section place c end (Row.Item (ItemRow.RoutineSection heading next)) q rest e h =
      let k = ends_further (sections_end n p) c next end (routine_end p (row_at p heading) c) h in
      let s = routine_stood place c k.0 (row_at p heading) e k.1 in
      subst (λ r. Stood p place end (section_tokens p r ++ sections_tokens n p next) (OfRoutine ∷ sections_pieces n p next)) (sym q)
      (both_stood p place k.0 end (heading_name (row_at p heading)) (sections_tokens n p next) (OfRoutine ∷ []) (sections_pieces n p next) s
      (rest next (place + pieces_cells (OfRoutine ∷ [])) k.0 end s.ends k.2))
  in_section n section place c end r q rest e h = none_stood p place end c e (some_same h)

  sections_mean : (n : ℕ) → FurtherStand n
  sections_mean zero section place c end e h = absurd (none_some h)
  sections_mean (suc n) section place c end e h = in_section n section place c end (row_at p section) refl (sections_mean n) e h

  one_counted : 1 ≡ counted 1
  one_counted = omega arith

  heading_stood : (end : ℕ) (r : Row) → heading_end p (sections_in r) ≡ Some end
      → Stood p 1 end (signature_tokens p (signature_in r)) (signature_pieces p (signature_in r))
  heading_stood end (Row.Part (PartRow.Heading name sections result)) h = sections_mean (length p.rows) sections 1 1 end one_counted h
  heading_stood end r h = none_stood p 1 end 1 one_counted (some_same h)

  pub heading_stands : (end : ℕ) (r : Row) → heading_end p (sections_in r) ≡ Some end
      → AllStand p 1 (signature_tokens p (signature_in r)) (signature_pieces p (signature_in r))
  heading_stands end r h = (heading_stood end r h).stands

  pub heading_ends : (end : ℕ) (r : Row) → heading_end p (sections_in r) ≡ Some end
      → end ≡ min (1 + pieces_cells (signature_pieces p (signature_in r))) most_cells
  heading_ends end r h = (heading_stood end r h).ends
