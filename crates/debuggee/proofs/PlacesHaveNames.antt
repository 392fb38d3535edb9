-- A place of a frame that is filled has a name.
use Rattle.std.proofs.Common.{if◌then◌else◌, ◌++◌, ◌-◌, ◌<◌, ◌==◌, ◌||◌, ◌∙◌, ◌∷◌, ◌≡◌, ◌≤◌, ◌⊎◌, [], ℕ, Bool, List, None, Option, Some, arith, cond, false}
use Rattle.std.proofs.Common.{filter, filter_map, inl, inr, is_some, nat_le, option_to_list, refl, subst, suc, sym, true, zero}
use Rattle.std.{proofs.lemmas.Bool.Decides.nat_tests, specs.List.cons_option, specs.Option.IsSome}
use Rattle.cell_value.specs.{Effects.last_of, declared.values.Value.Value}
use Rattle.core_program.proofs.OutcomesCompose.{none_some, some_same}
use Rattle.core_program.specs.{Headings.signature_in, WholeTables.WholeTables, WholeTables.has_result}
use Rattle.core_program.specs.ProgramRows.{ProgramRows, routine_at, row_at, type_at}
use Rattle.core_program.specs.declared.{program.Routine.Routine, rows.ItemRow.ItemRow, rows.Mode.Mode, rows.NameRow.NameRow, rows.PartRow.PartRow, rows.Row.Row}
use Rattle.cell_names.specs.{Layouts.sections_parts, Layouts.spec_parts, Layouts.token_after, Places.finds, Places.is_begun, Places.last_at}
use Rattle.cell_names.specs.Layouts.{bounds_before, bounds_by, bounds_parts, component_in, frame_parts, frame_parts_in, heading_part, most_sections, named_part}
use Rattle.cell_names.specs.Layouts.{next_name, own_between, own_in, parameters_in, part, parts_after, parts_at, section_after, section_of, section_parts}
use Rattle.cell_names.specs.Names.{Scene, address_held, array_local, begun_or, copied_local, copy_address, copy_before, copy_by, copy_from, copy_local, copy_of}
use Rattle.cell_names.specs.Names.{is_result, local_at, local_in, named_local, part_local, result_local, result_of}
use Rattle.cell_names.specs.declared.{names.Frame.Frame, places.PlacedPart.PlacedPart}
use Rattle.question_text.specs.Cards.{Recorded, scene_of}
use Rattle.debuggee.proofs.CopiesFound.{no_copy_from}

-- whether a place of a routine's frame is that of its result, or a parameter or a variable begins there or before
abbrev pub is_filled : ProgramRows → (routine place : ℕ) → Routine → Bool
is_filled p routine place r = is_result r.result place || is_some (finds (frame_parts p routine) place)

-- no parameter has a copy that begins at a place of a call's frame or before it
abbrev pub NoCopies : Scene → Frame → (place : ℕ) → Routine → Type 0
NoCopies s f place r = (at : ℕ) (x copy : PlacedPart) → at < r.parameters → s.finding.frame f.routine at ≡ Some x → copy_of s f x ≡ Some copy
    → place < copy.place

abbrev Every : (PlacedPart → Type 0) → List PlacedPart → Type 0
Every P [] = Unit {0}
Every P (x ∷ xs) = P x × Every P xs

every_append : (P : PlacedPart → Type 0) (xs ys : List PlacedPart) → Every P xs → Every P ys → Every P (xs ++ ys)
every_append P [] ys h g = g
every_append P (x ∷ xs) ys h g = (h.0, every_append P xs ys h.1 g)

every_kept : (P : PlacedPart → Type 0) (test : PlacedPart → Bool) (xs : List PlacedPart) → Every P xs → Every P (filter test xs)
every_kept P test [] h = tt
every_kept P test (x ∷ xs) h = by (test x) (every_kept P test xs h.1)
  where
    by : (b : Bool) → Every P (filter test xs) → Every P (cond b (x ∷ filter test xs) (filter test xs))
    by true g = (h.0, g)
    by false g = g

last_kept : (P : PlacedPart → Type 0) (xs : List PlacedPart) (x : PlacedPart) → Every P xs → last_of xs ≡ Some x → P x
last_kept P [] x h e = absurd (none_some e)
last_kept P (y ∷ []) x h e = subst P (some_same e) h.0
last_kept P (y ∷ z ∷ zs) x h e = last_kept P (z ∷ zs) x h.1 e

found_kept : (P : PlacedPart → Type 0) (at : ℕ) (parts : List PlacedPart) (x : PlacedPart) → Every P parts → last_at at parts ≡ Some x → P x
unfolding last_at
found_kept P at parts x h e = last_kept P (filter (is_begun at) parts) x (every_kept P (is_begun at) parts h) e

module _ (p : ProgramRows) where
  -- the part has a name, at whatever place of it
  abbrev HasName : PlacedPart → Type 0
  HasName part = (call place : ℕ) → IsSome (named_local p call part.number place (row_at p part.number))

  name_by : (call token place : ℕ) (mode : Mode) (of' at level : ℕ)
      → IsSome (named_local p call token place (Row.Name (NameRow.Variable mode of' at level)))
  name_by call token place Mode.Own of' at level = refl
  name_by call token place Mode.Value of' at level = refl
  name_by call token place Mode.Place of' at level = refl
  name_by call token place Mode.Copy of' at level = refl

  at_row : (token : ℕ) (r : Row) → row_at p token ≡ r → Every HasName (option_to_list (named_part token r))
  at_row token (Row.Name (NameRow.Variable mode of' at level)) e =
      (λ call place. subst (λ r. IsSome (named_local p call token place r)) (sym e) (name_by call token place mode of' at level), tt)
  at_row token (Row.Name (NameRow.Bound of' at level)) e =
      (λ call place. subst (λ r. IsSome (named_local p call token place r)) (sym e) refl, tt)
  at_row token (Row.Name (NameRow.RoutineFormal at level heading)) e =
      (λ call place. subst (λ r. IsSome (named_local p call token place r)) (sym e) refl, tt)
  at_row token r e = tt

  at_token : (token : ℕ) → Every HasName (parts_at p token)
  at_token token = at_row token (row_at p token) refl

  in_section : (count token : ℕ) → Every HasName (section_parts p count token)
  in_section zero token = tt
  in_section (suc count) token =
      every_append HasName (parts_at p token) (section_parts p count (next_name token)) (at_token token) (in_section count (next_name token))

  of_heading : (r : Row) → Every HasName (heading_part p r)
  of_heading (Row.Part (PartRow.Heading name sections result)) = at_token name
  of_heading r = tt

  of_spec : (spec : ℕ) → Every HasName (spec_parts p spec)
  of_spec spec =
      every_append HasName (parts_at p (token_after spec 1)) (parts_at p (token_after spec 3)) (at_token (token_after spec 1)) (at_token (token_after spec 3))

  bounds_row : (go : (spec : ℕ) → List PlacedPart) → ((spec : ℕ) → Every HasName (go spec)) → (spec : ℕ) (o : Option ℕ)
      → Every HasName (bounds_by p go spec o)
  bounds_row go h spec None = tt
  bounds_row go h spec (Some component) = every_append HasName (spec_parts p spec) (go component) (of_spec spec) (h component)

  in_bounds : (most spec : ℕ) → Every HasName (bounds_parts p most spec)
  in_bounds zero spec = tt
  in_bounds (suc most) spec = bounds_row (bounds_parts p most) (in_bounds most) spec (component_in (type_at p spec))

  of_bounds : (r : Row) → Every HasName (bounds_before p r)
  of_bounds (Row.Name (NameRow.Variable mode of' at level)) = in_bounds most_sections of'
  of_bounds r = tt

  of_section : (r : Row) → Every HasName (section_of p r)
  of_section (Row.Item (ItemRow.Section mode first count next)) =
      every_append HasName (bounds_before p (row_at p first)) (section_parts p count first) (of_bounds (row_at p first)) (in_section count first)
  of_section (Row.Item (ItemRow.RoutineSection heading next)) = of_heading (row_at p heading)
  of_section r = tt

  in_sections : (most slot : ℕ) → Every HasName (sections_parts p most slot)
  in_sections zero slot = tt
  in_sections (suc most) slot =
      every_append HasName (section_of p (row_at p slot)) (parts_after (sections_parts p most) (section_after (row_at p slot)))
      (of_section (row_at p slot)) (by (in_sections most) (section_after (row_at p slot)))
    where
      by : ((next : ℕ) → Every HasName (sections_parts p most next)) → (o : Option ℕ) → Every HasName (parts_after (sections_parts p most) o)
      by go None = tt
      by go (Some next) = go next

  of_parameters : (r : Row) → Every HasName (parameters_in p r)
  of_parameters (Row.Part (PartRow.Heading name sections result)) = in_sections most_sections sections
  of_parameters r = tt

  own_row : (level token : ℕ) (r : Row) → row_at p token ≡ r → (xs : List PlacedPart) → Every HasName xs → Every HasName (cons_option (own_in level token r) xs)
  own_row level token (Row.Name (NameRow.Variable Mode.Own of' place l)) e xs h = by (l == level)
    where
      by : (b : Bool) → Every HasName (cons_option (if b then Some (record { place = place; number = token }) else None) xs)
      by true = (λ call at. subst (λ r. IsSome (named_local p call token at r)) (sym e) refl, h)
      by false = h
  own_row level token r e xs h = h

  own_tokens : (level : ℕ) (tokens : List ℕ) → Every HasName (filter_map (λ token. own_in level token (row_at p token)) tokens)
  own_tokens level [] = tt
  own_tokens level (token ∷ tokens) = own_row level token (row_at p token) refl _ (own_tokens level tokens)

  own_variables : (level from to : ℕ) → Every HasName (own_between p level from to)
  unfolding own_between
  own_variables level from to = own_tokens level _

  in_frame : (number : ℕ) (o : Option Routine) → Every HasName (frame_parts_in p number o)
  in_frame number None = tt
  in_frame number (Some r) = every_append HasName _ _ (of_parameters (row_at p r.heading)) (own_variables r.level _ r.statements)

  found_named : (call number place : ℕ) (o : Option PlacedPart) → finds (frame_parts p number) place ≡ o → is_some o ≡ true
      → IsSome (part_local p call place o)
  found_named call number place None e h = absurd (let z : false ≡ true = h in cc)
  found_named call number place (Some part) e h =
      found_kept HasName place (frame_parts p number) part (in_frame number (routine_at p number)) e call _

  result_named : (r : Routine) (o : Option ℕ) → is_some o ≡ true → IsSome (result_local r o)
  result_named r None h = absurd (let z : false ≡ true = h in cc)
  result_named r (Some of') h = refl

  heading_result : (r : Row) → has_result (signature_in r) ≡ true → is_some (result_of r) ≡ true
  heading_result (Row.Part (PartRow.Heading name sections result)) h = h
  heading_result r h = absurd (let z : false ≡ true = h in cc)

  result_place : (o : Option ℕ) (place : ℕ) → is_result o place ≡ true → is_some o ≡ true
  result_place None place h = absurd (let z : false ≡ true = h in cc)
  result_place (Some at) place h = refl

  -- the heading of a function has the type of its result
  pub function_result : WholeTables p → (number : ℕ) (r : Routine) → routine_at p number ≡ Some r → is_some r.result ≡ true
      → is_some (result_of (row_at p r.heading)) ≡ true
  function_result whole number r e h = heading_result (row_at p r.heading) (sym (whole.routines number r e).result ∙ h)

module _ (k : Recorded) (number : ℕ) where
  -- a place before the copies that is filled
  pub local_there : WholeTables k.program → (f : Frame) (place : ℕ) (r : Routine) → routine_at k.program f.routine ≡ Some r → 0 < place → place < r.cells
      → is_filled k.program f.routine place r ≡ true → IsSome (local_at (scene_of k number) f place)
  unfolding local_at
  local_there whole f place r e some inside h =
      subst (λ o. IsSome (local_in (scene_of k number) f place o)) (sym e)
      (by (place == 0) refl (nat_le r.cells place) refl (is_result r.result place) refl)
    where
      p : ProgramRows
      p = k.program

      by : (a : Bool) → (place == 0) ≡ a → (c : Bool) → nat_le r.cells place ≡ c → (b : Bool) → is_result r.result place ≡ b
          → IsSome (if a then None else if c then copy_local (scene_of k number) f place r else if b then result_local r (result_of (row_at p r.heading))
          else part_local p f.call place (finds (frame_parts p f.routine) place))
      by true q c w b s = absurd (let z : place ≡ 0 = grind (arith, nat_tests) in omega (arith, z, some))
      by false q true w b s = absurd (let z : ⊥ = grind (arith, nat_tests, w, inside) in z)
      by false q false w true s = result_named p r (result_of (row_at p r.heading))
          (function_result p whole f.routine r e (result_place p r.result place s))
      by false q false w false s = found_named p f.call f.routine place (finds (frame_parts p f.routine) place) refl
          (let g : (is_result r.result place || is_some (finds (frame_parts p f.routine) place)) ≡ true = h in
          subst (λ b. (b || is_some (finds (frame_parts p f.routine) place)) ≡ true) s g)

  -- there is such a copy, and then its parameter has a name, or there is none
  abbrev Copied : Frame → (place : ℕ) → Option PlacedPart → Type 0
  Copied f place o = IsSome (copied_local k.program f.call place o) ⊎ (o ≡ None)

  of_address : (f : Frame) (place token of' at level : ℕ) → row_at k.program token ≡ Row.Name (NameRow.Variable Mode.Copy of' at level) → (o : Option ℕ)
      → (rest : Option PlacedPart) → Copied f place rest → Copied f place (begun_or place rest (copy_from f.top token o))
  of_address f place token of' at level e None rest h = h
  of_address f place token of' at level e (Some address) rest h = by (is_begun place (part (address - f.top) token))
    where
      by : (b : Bool) → Copied f place (if b then Some (part (address - f.top) token) else rest)
      by true = inl (subst (λ r. IsSome (array_local f.call token (place - (address - f.top)) r)) (sym e) refl)
      by false = h

  of_copy : (f : Frame) (place token : ℕ) (r : Row) → row_at k.program token ≡ r → (v : Option Value) → (rest : Option PlacedPart) → Copied f place rest
      → Copied f place (begun_or place rest (copy_from f.top token (copy_address r v)))
  of_copy f place token (Row.Name (NameRow.Variable Mode.Copy of' at level)) e v rest h =
      of_address f place token of' at level e (address_held v) rest h
  of_copy f place token r e v rest h = h

  copied_before : (f : Frame) (place most from : ℕ) → Copied f place (copy_before (scene_of k number) f place most from)
  copied_before f place zero from = inr refl
  copied_before f place (suc most) from = by (copied_before f place most) ((scene_of k number).finding.frame f.routine from)
    where
      by : ((from : ℕ) → Copied f place (copy_before (scene_of k number) f place most from)) → (o : Option PlacedPart)
          → Copied f place (copy_by (scene_of k number) f place (copy_before (scene_of k number) f place most) o)
      by go None = inr refl
      by go (Some x) =
          of_copy f place x.number (row_at k.program x.number) refl ((scene_of k number).args f.call x.place)
          (copy_before (scene_of k number) f place most (x.place - 1)) (go (x.place - 1))

  -- a place of a frame behind its own cells has a name, if a copy begins there or before
  pub copy_there : (f : Frame) (place : ℕ) (r : Routine) → routine_at k.program f.routine ≡ Some r → 0 < place → r.cells ≤ place
      → (NoCopies (scene_of k number) f place r → ⊥) → IsSome (local_at (scene_of k number) f place)
  unfolding local_at
  copy_there f place r e some after copies =
      subst (λ o. IsSome (local_in (scene_of k number) f place o)) (sym e) (by (place == 0) refl (nat_le r.cells place) refl)
    where
      found : Option PlacedPart
      found = copy_before (scene_of k number) f place r.parameters (r.parameters - 1)

      later : found ≡ None → NoCopies (scene_of k number) f place r
      later n at x copy less q c =
          no_copy_from k number f place r.parameters (r.parameters - 1) (omega (arith, less)) n at x copy (omega (arith, less)) q c

      has : Copied f place found → IsSome (copy_local (scene_of k number) f place r)
      has (inl h) = h
      has (inr n) = absurd (copies (later n))

      by : (a : Bool) → (place == 0) ≡ a → (c : Bool) → nat_le r.cells place ≡ c
          → IsSome (if a then None else if c then copy_local (scene_of k number) f place r
          else if is_result r.result place then result_local r (result_of (row_at k.program r.heading))
          else part_local k.program f.call place (finds (frame_parts k.program f.routine) place))
      by true q c w = absurd (let z : place ≡ 0 = grind (arith, nat_tests) in omega (arith, z, some))
      by false q true w = has (copied_before f place r.parameters (r.parameters - 1))
      by false q false w = absurd (let z : ⊥ = grind (arith, nat_tests, w, after) in z)
