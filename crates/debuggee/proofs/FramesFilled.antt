-- Where tables are laid out, each place of a frame behind its link is one of a parameter, of the result, of a variable or
-- of a copy.
use Rattle.std.proofs.Common.{◌++◌, ◌+◌, ◌-◌, ◌<◌, ◌||◌, ◌∙◌, ◌∷◌, ◌≡◌, ◌≤◌, [], ℕ, Bool, List, None, Option, Some, ap, append_assoc, arith, cond, false}
use Rattle.std.proofs.Common.{filter, inl, inr, is_some, length, min, refl, subst, suc, sym, true, zero}
use Rattle.std.proofs.lemmas.{Bool.Decides.nat_tests, List.Elements.filter-append, Option.slice_get-map}
use Rattle.std.specs.{List.slice_get, Option.IsSome, Option.option_map}
use Rattle.cell_value.specs.{Effects.last_of, declared.values.Value.Value}
use Rattle.core_program.specs.{ProgramRows.ProgramRows, ProgramRows.routine_at, ProgramRows.row_at, Run.copies_in, Run.frame_size, WholeTables.WholeTables}
use Rattle.core_program.specs.declared.{program.Routine.Routine, rows.Mode.Mode, rows.NameRow.NameRow, rows.Row.Row}
use Rattle.run_laws.specs.{LaidOut.IsVariableAt, LaidOut.LaidOut, LaidOut.after_result, LaidOut.most_cells, ParameterLaws.CopyBegins}
use Rattle.run_laws.specs.{ParameterLaws.HasFirstCopy, ParameterPieces.heading_pieces, ParameterPieces.heading_tokens, ParameterPieces.pieces_cells}
use Rattle.call_tree.specs.declared.records.Call.{Call}
use Rattle.cell_names.specs.{Conformant.argument_by, Conformant.arguments_of, Places.finds, Places.is_begun, Places.last_at}
use Rattle.cell_names.specs.Layouts.{frame_parts, frame_parts_in, parameters_of, part, variables_of}
use Rattle.cell_names.specs.Names.{Scene, copy_address, copy_from, copy_of, frame, is_result, local_at}
use Rattle.cell_names.specs.declared.{names.Frame.Frame, places.PlacedPart.PlacedPart}
use Rattle.question_text.specs.Cards.{Recorded, scene_of}
use Rattle.debuggee.proofs.{BlocksPlaced.variables_begun, BlocksPlaced.variables_behind, ParametersPlaced.placed_begun, ParametersPlaced.placed_copy}
use Rattle.debuggee.proofs.ParametersPlaced.{AllFrom, SomeBegun, StandsAlone, begun_later, begun_left, begun_right, from_append, from_less, parameters_placed}
use Rattle.debuggee.proofs.PlacesHaveNames.{copy_there, is_filled, local_there}

-- ---- the last of some parts

last_some : (x : PlacedPart) (xs : List PlacedPart) → is_some (last_of (x ∷ xs)) ≡ true
last_some x [] = refl
last_some x (y ∷ ys) = last_some y ys

some_last : (place : ℕ) (xs : List PlacedPart) → SomeBegun place xs → is_some (last_of (filter (is_begun place) xs)) ≡ true
some_last place [] h = absurd h
some_last place (x ∷ xs) h = by (is_begun place x) refl h (some_last place xs)
  where
    by : (b : Bool) → is_begun place x ≡ b → SomeBegun place (x ∷ xs) → (SomeBegun place xs → is_some (last_of (filter (is_begun place) xs)) ≡ true)
        → is_some (last_of (cond b (x ∷ filter (is_begun place) xs) (filter (is_begun place) xs))) ≡ true
    by true e h go = last_some x (filter (is_begun place) xs)
    by false e (inl l) go = absurd (let z : ⊥ = grind (arith, nat_tests, e, l) in z)
    by false e (inr h) go = go h

found : (place : ℕ) (xs : List PlacedPart) → SomeBegun place xs → is_some (last_at place xs) ≡ true
unfolding last_at
found place xs h = some_last place xs h

none_kept : (place : ℕ) (xs : List PlacedPart) → AllFrom (place + 1) xs → filter (is_begun place) xs ≡ []
none_kept place [] h = refl
none_kept place (x ∷ xs) h = by (is_begun place x) refl (none_kept place xs h.1)
  where
    by : (b : Bool) → is_begun place x ≡ b → filter (is_begun place) xs ≡ [] → cond b (x ∷ filter (is_begun place) xs) (filter (is_begun place) xs) ≡ []
    by true e go = absurd (let l = h.0 in let z : ⊥ = grind (arith, nat_tests, e, l) in z)
    by false e go = go

last_pushed : (xs : List PlacedPart) (x : PlacedPart) → last_of (xs ++ x ∷ []) ≡ Some x
last_pushed [] x = refl
last_pushed (y ∷ []) x = refl
last_pushed (y ∷ z ∷ zs) x = last_pushed (z ∷ zs) x

-- a part is found at its place, if all after it begin behind that
found_alone : (x : PlacedPart) (xs ys : List PlacedPart) → AllFrom (x.place + 1) ys → last_at x.place (xs ++ x ∷ ys) ≡ Some x
unfolding last_at
found_alone x xs ys h =
    ap last_of (filter-append (is_begun x.place) xs (x ∷ ys)
    ∙ ap (λ l. filter (is_begun x.place) xs ++ l) (ap (λ b. cond b (x ∷ filter (is_begun x.place) ys) (filter (is_begun x.place) ys)) begun
    ∙ ap (λ l. x ∷ l) (none_kept x.place ys h)))
    ∙ last_pushed (filter (is_begun x.place) xs) x
  where
    begun : is_begun x.place x ≡ true
    begun = grind (arith, nat_tests)

found_among : (place token : ℕ) (xs ys zs : List PlacedPart) → AllFrom (place + 1) (ys ++ zs)
    → last_at place ((xs ++ part place token ∷ ys) ++ zs) ≡ Some (part place token)
found_among place token xs ys zs h =
    ap (last_at place) (append_assoc xs (part place token ∷ ys) zs) ∙ found_alone (part place token) xs (ys ++ zs) h

-- ---- frames

module _ (p : ProgramRows) (W : WholeTables p) (L : LaidOut p) where
  module _ (number : ℕ) (r : Routine) (has : routine_at p number ≡ Some r) where
    -- the variables of a block whose routine has no cells for parameters
    variables_filled : (place : ℕ) → 0 < place → place < r.cells → pieces_cells (heading_pieces p r.heading) ≡ 0 → (o : Option ℕ) → r.result ≡ o
        → is_result o place ≡ false → SomeBegun place (variables_of p number r)
    variables_filled place some inside none o e other =
        begun_later (after_result r.result r.parameters) place before (variables_of p number r)
        (variables_begun p number r (after_result r.result r.parameters) r.statements ((L.blocks number r has).first (omega (arith, before, inside))))
      where
        one : r.parameters ≡ 1
        one = let k = (L.routines number r has).parameters in omega (arith, k, none)

        by : (o : Option ℕ) → r.result ≡ o → is_result o place ≡ false → after_result o r.parameters ≤ place
        by None e n = omega (arith, one, some)
        by (Some at) e n =
            let k : at ≡ r.parameters = (L.blocks number r has).result at e in
            let m : at ≡ place → ⊥ = grind (arith, nat_tests, n) in
            grind (arith, k, m, one, some)

        before : after_result r.result r.parameters ≤ place
        before = subst (λ x. after_result x r.parameters ≤ place) (sym e) (by o e other)

    parts_filled : (place : ℕ) → 0 < place → place < r.cells → is_result r.result place ≡ false → (n : ℕ) → pieces_cells (heading_pieces p r.heading) ≡ n
        → SomeBegun place (parameters_of p r ++ variables_of p number r)
    parts_filled place some inside other zero e =
        begun_right place (parameters_of p r) (variables_of p number r) (variables_filled place some inside e r.result refl other)
    parts_filled place some inside other (suc n) e =
        begun_left place (parameters_of p r) (variables_of p number r) (begun_later 1 place (omega (arith, some)) (parameters_of p r)
        (placed_begun (parameters_placed p W L r.heading) (omega (arith, e))))

    filled : (place : ℕ) → 0 < place → place < r.cells → is_filled p number place r ≡ true
    filled place some inside = by (is_result r.result place) refl
      where
        by : (b : Bool) → is_result r.result place ≡ b → (is_result r.result place || is_some (finds (frame_parts p number) place)) ≡ true
        by true e = ap (λ b. b || is_some (finds (frame_parts p number) place)) e
        by false e = ap (λ b. b || is_some (finds (frame_parts p number) place)) e
            ∙ ap (λ o. is_some (finds (frame_parts_in p number o) place)) has
            ∙ found place (parameters_of p r ++ variables_of p number r)
            (parts_filled place some inside e (pieces_cells (heading_pieces p r.heading)) refl)

    -- what is found at the place of a copy's parameter
    copy_found : (place token : ℕ) → place < r.parameters → CopyBegins 1 (heading_tokens p r.heading) (heading_pieces p r.heading) place token
        → finds (frame_parts p number) place ≡ Some (part place token)
    copy_found place token inside c =
        ap (λ o. finds (frame_parts_in p number o) place) has
        ∙ ap (λ xs. last_at place (xs ++ variables_of p number r)) s.is
        ∙ ap (λ n. last_at place ((s.before ++ part n token ∷ s.after) ++ variables_of p number r)) at
        ∙ found_among place token s.before s.after (variables_of p number r)
        (from_append (place + 1) s.after (variables_of p number r) (from_less (place + 1) (min (place + 1) most_cells) (omega (arith, limit)) s.after s.later)
        (from_less (place + 1) r.parameters (omega (arith, inside)) (variables_of p number r)
        (variables_behind p number r r.statements (L.blocks number r has).behind)))
      where
        s : StandsAlone place token (parameters_of p r)
        s = placed_copy (parameters_placed p W L r.heading) c

        limit : place < most_cells
        limit = let k = (L.routines number r has).parameters in omega (arith, k, inside)

        at : min place most_cells ≡ place
        at = omega (arith, limit)

-- ---- names

copy_addressed : (place : ℕ) (r : Row) → IsVariableAt Mode.Copy place r → (address : ℕ) → copy_address r (Some (Value.Place address)) ≡ Some address
copy_addressed place (Row.Name (NameRow.Variable mode of' at level)) h address =
    ap (λ m. copy_address (Row.Name (NameRow.Variable m of' at level)) (Some (Value.Place address))) h.0
copy_addressed place r h address = absurd h

module _ (k : Recorded) (W : WholeTables k.program) (L : LaidOut k.program) (number : ℕ) where
  abbrev scene : Scene
  scene = scene_of k number

  -- each place of a frame before the copies, but that of the link, has a name
  pub place_named : (f : Frame) (place : ℕ) (r : Routine) → routine_at k.program f.routine ≡ Some r → 0 < place → place < r.cells
      → IsSome (local_at scene f place)
  place_named f place r e some inside = local_there k number W f place r e some inside (filled k.program W L f.routine r e place some inside)

  -- a call that was given copies has them from the end of its other cells on
  abbrev pub HasCopies : Call → Type 0
  HasCopies call = (q : Routine) → routine_at k.program call.routine ≡ Some q → 0 < length (copies_in q call.args)
      → HasFirstCopy k.program q call.entry.top call.args

  given : (n : ℕ) (call : Call) → slice_get k.calls n ≡ Some call → (place : ℕ) → arguments_of k.calls n place ≡ slice_get call.args place
  given n call e place =
      ap (argument_by place) (slice_get-map (λ (c : Call). c.args) k.calls n ∙ ap (option_map (λ (c : Call). c.args)) e)

  copy_is : (n : ℕ) (call : Call) → slice_get k.calls n ≡ Some call → (q : Routine) → (h : HasFirstCopy k.program q call.entry.top call.args)
      → copy_of scene (frame n call.routine call.entry.top) (part h.place h.token) ≡ Some (part (call.entry.top + q.cells - call.entry.top) h.token)
  copy_is n call e q h =
      ap (λ v. copy_from call.entry.top h.token (copy_address (row_at k.program h.token) v)) (given n call e h.place ∙ h.address)
      ∙ ap (copy_from call.entry.top h.token) (copy_addressed h.place (row_at k.program h.token) h.named (call.entry.top + q.cells))

  -- so has each place behind them
  pub copy_named : (n : ℕ) (call : Call) → slice_get k.calls n ≡ Some call → HasCopies call → (place : ℕ) (q : Routine)
      → routine_at k.program call.routine ≡ Some q → 0 < place → q.cells ≤ place → place < frame_size q call.args
      → IsSome (local_at scene (frame n call.routine call.entry.top) place)
  copy_named n call e copies place q has some after inside = copy_there k number (frame n call.routine call.entry.top) place q has some after
      (λ none. let h = copies q has (omega (arith, after, inside)) in
      let l = none h.place (part h.place h.token) (part (call.entry.top + q.cells - call.entry.top) h.token) h.inside
      (copy_found k.program W L call.routine q has h.place h.token h.inside h.piece) (copy_is n call e q h) in
      omega (arith, l, after))
