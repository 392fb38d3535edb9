-- Where tables are whole, what each statement does is meant; and so is what each part does.
use Rattle.std.proofs.Common.{if◌then◌else◌, ◌&&◌, ◌++◌, ◌+◌, ◌<◌, ◌==◌, ◌||◌, ◌∙◌, ◌∷◌, ◌≡◌, ◌≤◌, ◌⊎◌, [], ℕ, ℤ, Bool, Err, List, None, Ok, Option, Result}
use Rattle.std.proofs.Common.{Some, ap, arith, false, inl, inr, is_some, length, nat_lt, refl, subst, suc, sym, true, zero}
use Rattle.std.{proofs.lemmas.Bool.Decides.nat_tests, specs.Ordering.int_eq}
use Rattle.cell_value.specs.declared.{faults.OpFault.OpFault, values.Value.Value}
use Rattle.core_program.proofs.ActionsMeant.{IsMeant, copies_meant, dispose_meant, end_line_meant, end_page_meant, frame_meant, made_meant, moved_meant, next}
use Rattle.core_program.proofs.ActionsMeant.{next_char_meant, no, past_meant, pointer_result_meant, read_meant, scan_meant, write_meant, writes_meant}
use Rattle.core_program.proofs.ActionsMeant.{written_meant}
use Rattle.core_program.proofs.WholeActions.{Found, assign_meant, enough_items, found_if, found_on, target_ok, tested_meant, there}
use Rattle.core_program.proofs.WholeParts.{Anything, Fits, Good, Inside, IsWhole, ManyCells, OneCell, Takes, cells_if, cells_not_scalar, gives, gives_call}
use Rattle.core_program.proofs.WholeParts.{good_after, good_components, good_eval, good_if, good_locate, good_size, good_target, good_until, in_part}
use Rattle.core_program.proofs.WholeParts.{is_turn_row, jump_fits, listed, on_one, opened, or_cases, or_right, result_if}
use Rattle.core_program.proofs.WholeRows.{call_formal_good, call_good, eval_good, gather_good, good_value, locate_good, pass_good}
use Rattle.core_program.specs.{Accesses.eval, Accesses.scalar, Accesses.until_end, Actions.Action, Cells.frame_out, Cells.read_value, Cells.write, Cells.writes}
use Rattle.core_program.specs.{Choices.Sought, Choices.along, Choices.choice_of, Choices.choose_at, Headings.signature_at, Headings.signature_in, Heap.dispose}
use Rattle.core_program.specs.{Heap.made_variable, Heap.pointer_result_at, Input.next_char, Input.past_item, Input.scan_on, Layer.layer, Layer.of_body}
use Rattle.core_program.specs.{Layer.outermost, State.moved, Values.is_true, Values.tested, Variants.tag_accessed}
use Rattle.core_program.specs.Output.{Text, char_type, end_line, end_page, written}
use Rattle.core_program.specs.Packing.{copies, first_moved, moves, pack, with_array}
use Rattle.core_program.specs.ProgramRows.{ProgramRows, routine_at, row_at, type_at, type_in}
use Rattle.core_program.specs.Run.{or_no_result, result_of_type, result_read, return_of, type_in_heading, whole}
use Rattle.core_program.specs.Statements.{bounds, bounds_tested, choose, chosen_by, finally, first_turn, has_label, has_turn, inside, item_labelled, jumped}
use Rattle.core_program.specs.Statements.{labelled_in, nothing, of_count, of_records, of_sequence, of_turn, on_labelled, on_normal, on_statement, on_value}
use Rattle.core_program.specs.Statements.{point, statement_in, turn_after, undefine, value_after}
use Rattle.core_program.specs.Transfers.{into, of_printed, of_received, of_rest_of_line, on_scanned, on_text, print, read_for, received, with_host}
use Rattle.core_program.specs.Tree.{ActTree, Body, Cells, Count, Establish, Eval, Exec, Gather, Here, Jump, Locate, Meaningless, Out, Part, Pass, Print}
use Rattle.core_program.specs.Tree.{Receive, RestOfLine, Ret, Scalar, Scanning, Sequence, Sub, Turn}
use Rattle.core_program.specs.WholeTables.{RowFits, ScopedItem, ScopedRecords, ScopedRow, WholeTables, has_result, is_access, is_access_to, is_array_access}
use Rattle.core_program.specs.WholeTables.{is_array_type, is_cells, is_choice_of, is_element_of, is_end, is_function, is_list, is_ordinal, is_ordinal_type}
use Rattle.core_program.specs.WholeTables.{is_read_access, is_record_access, is_record_type, is_result_type, is_scalar, is_simple_type, is_statement}
use Rattle.core_program.specs.WholeTables.{is_statement_row, is_turns_row, is_written_item, type_accessed}
use Rattle.core_program.specs.declared.{components.Components.Components, program.Routine.Routine}
use Rattle.core_program.specs.declared.rows.{Direction.Direction, PartRow.PartRow, Row.Row, StatementRow.StatementRow, TypeRow.TypeRow}
use Rattle.core_program.specs.declared.rows.ItemRow.TheVariants as item
use Rattle.core_program.specs.declared.rows.TypeRow.TheVariants as kind
use Rattle.core_program.specs.declared.scan.Scanned.{Scanned, TheVariants.Further, TheVariants.Whole}

module _ (p : ProgramRows) (W : WholeTables p) where
  done : (part : Part) → IsWhole p W part → Good p W Anything (Sub part Ret)
  done part h = (h, λ out f. tt)

  ended : (here : Here) (a : Action (Unit {0})) → IsMeant a → Good p W Anything (finally here a)
  ended here a h = good_after p W Anything here.line a _ h (λ _. tt)

  normally : (t : ActTree) → Good p W Anything t → (out : Out) → Good p W Anything (on_normal t out)
  normally t h (Jump label base) = tt
  normally t h out = h

  -- ---- assignments

  put_scalar : (here : Here) (target of' : ℕ) → is_access p target ≡ true → Inside p W (length here.records) target → is_simple_type (type_at p of') ≡ true
      → (out : Out) → Fits OneCell out → Good p W Anything (on_value p here target of' out)
  put_scalar here target of' h s e (Scalar v) f = good_target p W Anything target here _ h s (λ addr.
      ended here _ (assign_meant p W (tag_accessed p (row_at p target)) of' addr v (target_ok p W target h) e))
  put_scalar here target of' h s e (Jump label base) f = tt
  put_scalar here target of' h s e out f = absurd f

  put_cells : (here : Here) (target of' : ℕ) → is_access p target ≡ true → Inside p W (length here.records) target
      → (out : Out) → Fits ManyCells out → Good p W Anything (on_value p here target of' out)
  put_cells here target of' h s (Cells vs) f = good_target p W Anything target here _ h s (λ addr. ended here (writes addr vs) (writes_meant addr vs))
  put_cells here target of' h s (Jump label base) f = tt
  put_cells here target of' h s out f = absurd f

  -- ---- case statements

  chosen_good : (here : Here) (s : Sought) → Found (λ n. (is_statement p n ≡ true) × Inside p W (length here.records) n) s → Good p W Anything (choose here s)
  chosen_good here None h = absurd h
  chosen_good here (Some None) h = tt
  chosen_good here (Some (Some n)) h = done (Exec n here) h

  -- ---- for statements

  undefined_good : (here : Here) (place : ℕ) → Good p W Anything (undefine here place)
  undefined_good here place = ended here (write (moved here.base place) Value.Undefined) (write_meant (moved here.base place) Value.Undefined)

  ordinal_is_simple : (t : Option TypeRow) → is_ordinal_type t ≡ true → is_simple_type t ≡ true
  ordinal_is_simple (Some (kind.Ordinal least greatest)) h = refl
  ordinal_is_simple (Some (kind.Subrange host least greatest)) h = refl
  ordinal_is_simple t h = no h

  first_good : (here : Here) (turns : ℕ) (r : Row) → RowFits p turns r → is_turns_row r ≡ true → is_turns_row (row_at p turns) ≡ true
      → Inside p W (length here.records) turns
      → (i j : Value)
      → Good p W Anything (first_turn p here turns r i j)
  first_good here turns (Row.Statement (StatementRow.Turns direction last place of' body)) f h q s (Value.Number i) (Value.Number j) =
      good_if p W Anything (has_turn direction i j) _ (undefine here place) (λ _.
      let e = ordinal_is_simple (type_at p of') f.1 in
      good_after p W Anything here.line (bounds_tested p (type_at p of') i j) _
      (next (tested p (type_at p of') (Value.Number i)) _ (tested_meant p W of' (Value.Number i) e) (λ _. tested_meant p W of' (Value.Number j) e))
      (λ _. done (Count turns i j here) (q, s))) (λ _. undefined_good here place)
  first_good here turns (Row.Statement (StatementRow.Turns direction last place of' body)) f h q s i j = tt
  first_good here turns r f h q s i j = no h

  bounds_good : (here : Here) (initial turns : ℕ) (r : Row) (d : Inside p W (length here.records) turns) → RowFits p turns r → is_turns_row r ≡ true
      → ScopedRow p W.around turns r
      → is_turns_row (row_at p turns) ≡ true → Inside p W (length here.records) turns → is_scalar p initial ≡ true → Inside p W (length here.records) initial
      → Good p W Anything (bounds p here initial turns r)
  bounds_good here initial turns (Row.Statement (StatementRow.Turns direction last place of' body)) d f h s q i e k =
      good_eval p W Anything initial here _ e k (λ x. good_eval p W Anything last here _ f.0 (in_part p W d s.0) (λ y.
      first_good here turns (row_at p turns) (W.rows turns) q q i x y))
  bounds_good here initial turns r d f h s q i e k = no h

  turn_ended : (here : Here) (row : ℕ) (direction : Direction) (place : ℕ) (i last : ℤ) → is_turns_row (row_at p row) ≡ true
      → Inside p W (length here.records) row
      → Good p W Anything (turn_after row here direction place i last)
  turn_ended here row direction place i last q s =
      good_if p W Anything (int_eq i last) (undefine here place) (Sub (Count row (value_after direction i) last here) Ret) (λ _. undefined_good here place)
      (λ _. done (Count row (value_after direction i) last here) (q, s))

  counted : (here : Here) (row : ℕ) (i last : ℤ) (r : Row) (d : Inside p W (length here.records) row) → RowFits p row r → is_turns_row r ≡ true
      → ScopedRow p W.around row r
      → is_turns_row (row_at p row) ≡ true → Inside p W (length here.records) row → Good p W Anything (of_count row here i last r)
  counted here row i last (Row.Statement (StatementRow.Turns direction last' place of' body)) d f h s q k =
      good_after p W Anything here.line (write (moved here.base place) (Value.Number i)) _ (write_meant (moved here.base place) (Value.Number i)) (λ _.
      ((f.2, (in_part p W d s.1.0)), λ out g. normally _ (turn_ended here row direction place i last q k) out))
  counted here row i last r d f h s q k = no h

  -- ---- while and repeat statements

  turned : (here : Here) (row : ℕ) (r : Row) (d : Inside p W (length here.records) row) → RowFits p row r → is_turn_row r ≡ true → ScopedRow p W.around row r
      → is_turn_row (row_at p row) ≡ true → Inside p W (length here.records) row → Good p W Anything (of_turn row here r)
  turned here row (Row.Statement (StatementRow.While line condition body)) d f h s q k = good_eval p W Anything condition here _ f.0 (in_part p W d s.0) (λ v.
      good_if p W Anything (is_true v) _ nothing (λ _. ((f.1, (in_part p W d s.1.0)), λ out g. normally _ (done (Turn row here) (q, k)) out)) (λ _. tt))
  turned here row (Row.Statement (StatementRow.Repeat line statements condition)) d f h s q k = (
    (f.0, f.0, (in_part p W d s.0), (in_part p W d s.0)),
    λ out g. normally _ (good_eval p W Anything condition here _ f.1 (in_part p W d s.1.0) (λ v.
        good_if p W Anything (is_true v) nothing _ (λ _. tt) (λ _. done (Turn row here) (q, k)))) out,
  )
  turned here row r d f h s q k = no h

  -- ---- packing

  array_good : (n : ℕ) (go : ℕ → Components → ActTree) → is_array_access p n ≡ true → ((cells : ℕ) (a : Components) → Good p W Anything (go cells a))
      → Good p W Anything (with_array p (row_at p n) go)
  array_good n go h g = by (row_at p n) h
    where
      by : (r : Row) → is_access_to is_array_type p r ≡ true → Good p W Anything (with_array p r go)
      by (Row.Access a) e = good_components p W Anything (type_accessed a) (row_at p (type_accessed a)) _ (W.rows (type_accessed a)) e (λ c. g _ c)
      by r e = no e

  copied : (here : Here) (packing : Bool) (from to cells : ℕ) → Good p W Anything
      (finally here (if packing then copies from to cells else copies to from cells))
  copied here true from to cells = ended here (copies from to cells) (copies_meant from to cells)
  copied here false from to cells = ended here (copies to from cells) (copies_meant to from cells)

  moved_good : (here : Here) (packing : Bool) (unpacked packed a z : ℕ) (v : Value) → is_array_access p unpacked ≡ true → is_array_access p packed ≡ true
      → Good p W Anything (moves p here packing unpacked packed a z v (finally here))
  moved_good here packing unpacked packed a z v h k = array_good unpacked _ h (λ _ wide. array_good packed _ k (λ cells close.
      good_after p W Anything here.line (first_moved wide close a v) _ (moved_meant wide close a v) (λ at. copied here packing at z cells)))

  array_is_access : (r : Row) → is_access_to is_array_type p r ≡ true → is_access_to is_some p r ≡ true
  array_is_access (Row.Access a) h = by (type_at p (type_accessed a)) h
    where
      by : (t : Option TypeRow) → is_array_type t ≡ true → is_some t ≡ true
      by None e = no e
      by (Some t) e = refl
  array_is_access r h = no h

  packed_good : (here : Here) (packing : Bool) (unpacked index packed : ℕ) → is_array_access p unpacked ≡ true → is_scalar p index ≡ true
      → is_array_access p packed ≡ true → Inside p W (length here.records) unpacked → Inside p W (length here.records) index
      → Inside p W (length here.records) packed
      → Good p W Anything (pack p here packing unpacked index packed (finally here))
  packed_good here true unpacked index packed h e k s i j = good_locate p W Anything unpacked here _ (array_is_access (row_at p unpacked) h) s (λ a.
      good_locate p W Anything packed here _ (array_is_access (row_at p packed) k) j (λ z. good_eval p W Anything index here _ e i (λ v.
      moved_good here true unpacked packed a z v h k)))
  packed_good here false unpacked index packed h e k s i j = good_locate p W Anything packed here _ (array_is_access (row_at p packed) k) j (λ z.
      good_locate p W Anything unpacked here _ (array_is_access (row_at p unpacked) h) s (λ a. good_eval p W Anything index here _ e i (λ v.
      moved_good here false unpacked packed a z v h k)))

  -- ---- items of lists, and what is in them

  abbrev Listed : Here → ℕ → Type 0
  Listed here n = (is_list (is_element_of (is_statement p)) p n ≡ true) × Inside p W (length here.records) n

  abbrev Chosen : Here → ℕ → Type 0
  Chosen here n = (is_statement p n ≡ true) × Inside p W (length here.records) n

  abbrev Labels : ℕ → ℕ → (ℕ → Sought) → Sought
  Labels label at go = item_labelled p (row_at p at) at label go

  abbrev Choices : ℤ → ℕ → (ℕ → Sought) → Sought
  Choices i at go = choose_at (row_at p at) at i go

  label_step : (here : Here) (n at label : ℕ) → is_element_of (is_statement p) (row_at p at) ≡ true → Inside p W (length here.records) at
      → length p.rows < suc n + at
      → ((nx : ℕ) → is_element_of (is_statement p) (row_at p nx) ≡ true → Inside p W (length here.records) nx → length p.rows < n + nx
      → Found (Listed here) (along (Labels label) n nx))
      → Found (Listed here) (along (Labels label) (suc n) at)
  label_step here n at label h t f k = let s = opened p W here at t in looked (row_at p at) s.0 (W.rows at) s.1 h
    where
      looked : (r : Row) (d : Inside p W (length here.records) at) → RowFits p at r → ScopedRow p W.around at r
          → is_element_of (is_statement p) r ≡ true → Found (Listed here) (item_labelled p r at label (along (Labels label) n))
      looked (Row.Item (item.Element x nx)) d g s c =
          let l = g.0 c in
          found_if (Listed here) (has_label (row_at p x) label) (Some (Some at)) _ (λ _. (or_right (is_end at) _ h, t))
          (λ _. found_on p (Listed here) at nx (along (Labels label) n) l.1
          (λ e u. k nx (listed (is_element_of (is_statement p)) p nx e l.0) (in_part p W d s.1.0) (omega (arith, f, u))))
      looked r d g s c = no c

  label_along : (here : Here) (n at label : ℕ) → is_element_of (is_statement p) (row_at p at) ≡ true → Inside p W (length here.records) at
      → length p.rows < n + at
      → Found (Listed here) (along (Labels label) n at)
  label_along here zero at label h t f = absurd (let l = there p (is_element_of (is_statement p)) at refl h in omega (arith, f, l))
  label_along here (suc n) at label h t f = label_step here n at label h t f (λ nx l s g. label_along here n nx label l s g)

  label_found : (here : Here) (at label : ℕ) → Listed here at → Found (Listed here) (labelled_in p (length p.rows) at label)
  label_found here at label h = found_if (Listed here) (is_end at) (Some None) _ (λ _. tt) (λ e.
      label_along here (length p.rows) at label (listed (is_element_of (is_statement p)) p at e h.0) h.1 (enough_items p at e))

  branch_step : (here : Here) (n at : ℕ) (i : ℤ) → is_choice_of (is_statement p) (row_at p at) ≡ true → Inside p W (length here.records) at
      → length p.rows < suc n + at
      → ((nx : ℕ) → is_choice_of (is_statement p) (row_at p nx) ≡ true → Inside p W (length here.records) nx → length p.rows < n + nx
      → Found (Chosen here) (along (Choices i) n nx))
      → Found (Chosen here) (along (Choices i) (suc n) at)
  branch_step here n at i h t f k = let s = opened p W here at t in looked (row_at p at) s.0 (W.rows at) s.1 h
    where
      looked : (r : Row) (d : Inside p W (length here.records) at) → RowFits p at r → ScopedRow p W.around at r
          → is_choice_of (is_statement p) r ≡ true → Found (Chosen here) (choose_at r at i (along (Choices i) n))
      looked (Row.Item (item.Choice v c nx)) d g s hc =
          let l = g.0 hc in
          found_if (Chosen here) (int_eq v i) (Some (Some c)) _ (λ _. (hc, (in_part p W d s.0)))
          (λ _. found_on p (Chosen here) at nx (along (Choices i) n) l.1
          (λ e u. k nx (listed (is_choice_of (is_statement p)) p nx e l.0) (in_part p W d s.1.0) (omega (arith, f, u))))
      looked r d g s hc = no hc

  branch_along : (here : Here) (n at : ℕ) (i : ℤ) → is_choice_of (is_statement p) (row_at p at) ≡ true → Inside p W (length here.records) at
      → length p.rows < n + at
      → Found (Chosen here) (along (Choices i) n at)
  branch_along here zero at i h t f = absurd (let l = there p (is_choice_of (is_statement p)) at refl h in omega (arith, f, l))
  branch_along here (suc n) at i h t f = branch_step here n at i h t f (λ nx l s g. branch_along here n nx i l s g)

  branch_found : (here : Here) (at : ℕ) (i : ℤ) → is_list (is_choice_of (is_statement p)) p at ≡ true → Inside p W (length here.records) at
      → Found (Chosen here) (choice_of p (length p.rows) at i)
  branch_found here at i h t = found_if (Chosen here) (is_end at) (Some None) _ (λ _. tt) (λ e.
      branch_along here (length p.rows) at i (listed (is_choice_of (is_statement p)) p at e h) t (enough_items p at e))

  case_good : (here : Here) (choices : ℕ) → is_list (is_choice_of (is_statement p)) p choices ≡ true → Inside p W (length here.records) choices → (v : Value)
      → Good p W Anything (chosen_by p here choices v)
  case_good here choices h s (Value.Number i) =
      chosen_good here (choice_of p (length p.rows) choices i) (branch_found here choices i h s)
  case_good here choices h s v = tt

  -- ---- sequences

  jumped_good : (here : Here) (first label base : ℕ) (o : Sought) → Listed here first → Found (Listed here) o
      → Good p W Anything (jumped here first label base o)
  jumped_good here first label base None h f = absurd f
  jumped_good here first label base (Some None) h f = tt
  jumped_good here first label base (Some (Some at)) h f = done (Sequence first at here) (h.0, f.0, h.1, f.1)

  after_statement : (here : Here) (first next' : ℕ) → Listed here first → Listed here next' → (out : Out)
      → Good p W Anything (on_statement p here first next' out)
  after_statement here first next' h k (Jump label base) = jumped_good here first label base _ h (found_if (Listed here) (base == here.base) _ (Some None)
      (λ _. label_found here first label h) (λ _. tt))
  after_statement here first next' h k out = done (Sequence first next' here) (h.0, k.0, h.1, k.1)

  sequence_item : (here : Here) (first at : ℕ) (r : Row) (d : Inside p W (length here.records) at) → RowFits p at r → ScopedRow p W.around at r
      → is_element_of (is_statement p) r ≡ true
      → Listed here first → Good p W Anything (of_sequence p here first r)
  sequence_item here first at (Row.Item (item.Element s nx)) d f k h l =
      ((h, (in_part p W d k.0)), λ out g. after_statement here first nx l ((f.0 h).0, (in_part p W d k.1.0)) out)
  sequence_item here first at r d f k h l = no h

  -- ---- with statements

  length_more : (ns : List ℕ) (n : ℕ) → length (ns ++ n ∷ []) ≡ length ns + 1
  length_more [] n = refl
  length_more (m ∷ ns) n = let e = length_more ns n in omega (arith, e)

  record_is_access : (r : Row) → is_access_to is_record_type p r ≡ true → is_access_to is_some p r ≡ true
  record_is_access (Row.Access a) h = by (type_at p (type_accessed a)) h
    where
      by : (t : Option TypeRow) → is_record_type t ≡ true → is_some t ≡ true
      by None e = no e
      by (Some t) e = refl
  record_is_access r h = no h

  -- what needs so many records around it is well inside of more
  item_more : (w v body : ℕ) (More Others : (records at : ℕ) → Type 0) (r : Row) → w ≤ v → ((at : ℕ) → More (w + 1) at → Others (v + 1) at)
      → ScopedItem W.around More w body r → ScopedItem W.around Others v body r
  item_more w v body More Others (Row.Item (item.Element a nx)) l k s = (omega (arith, l, s.0), k nx s.1)
  item_more w v body More Others r l k s = omega (arith, l, s)

  more_records : (n w v at body : ℕ) → w ≤ v → ScopedRecords p W.around n w at body → ScopedRecords p W.around n v at body
  more_records zero w v at body l s = absurd s
  more_records (suc n) w v at body l s = item_more w v body (λ w nx. ScopedRecords p W.around n w nx body) (λ v nx. ScopedRecords p W.around n v nx body)
      (row_at p at) l (λ nx t. more_records n (w + 1) (v + 1) nx body (omega (arith, l)) t) s

  record_good : (here : Here) (at body n : ℕ) (r : Row) → RowFits p at r → is_element_of (is_record_access p) r ≡ true → is_statement p body ≡ true
      → ScopedItem W.around (λ v nx. ScopedRecords p W.around n v nx body) (length here.records) body r → Good p W Anything (of_records here body r)
  record_good here at body n (Row.Item (item.Element a nx)) f h b s =
      good_locate p W Anything a here _ (record_is_access (row_at p a) h) (record { there = s.0 }) (λ addr.
      done (Establish nx body (inside here addr)) (
        (f.1 h).0,
        b,
        (
          n,
          subst (λ k. ScopedRecords p W.around n k nx body)
              (sym (length_more here.records addr)) s.1,
        ),
      ))
  record_good here at body n r f h b s = no h

  scoped_at_end : (w body : ℕ) (More : (records at : ℕ) → Type 0) (r : Row) → is_some (type_in r) ≡ true
      → ScopedItem W.around More w body r → Inside p W w body
  scoped_at_end w body More (Row.Type t) h s = record { there = s }
  scoped_at_end w body More r h s = no h

  type_at_end : (at : ℕ) → is_end at ≡ true → is_some (type_at p at) ≡ true
  type_at_end at e = let q : at ≡ 0 = grind (arith, nat_tests) in ap (λ n. is_some (type_at p n)) q ∙ ap is_some W.integer

  establish_good : (at body : ℕ) (here : Here) → IsWhole p W (Establish at body here)
      → Good p W Anything (until_end at (Sub (Exec body here) Ret) (of_records here body (row_at p at)))
  establish_good at body here (h, b, (zero, s)) = absurd s
  establish_good at body here (h, b, (suc n, s)) = good_if p W Anything (is_end at) _ _
      (λ e. done (Exec body here) (
        b,
        scoped_at_end (length here.records) body (λ v nx. ScopedRecords p W.around n v nx body) (row_at p at) (type_at_end at e)
            s,
      ))
      (λ e. record_good here at body n (row_at p at) (W.rows at) (listed (is_element_of (is_record_access p)) p at e h) b s)

  -- ---- reading

  host_good : (k : Takes) (of' : ℕ) (t : Option TypeRow) (go : ℕ → ActTree) → is_ordinal_type t ≡ true → ((host : ℕ) → Good p W k (go host))
      → Good p W k (with_host of' t go)
  host_good k of' (Some (kind.Ordinal least greatest)) go h g = g of'
  host_good k of' (Some (kind.Subrange host least greatest)) go h g = g host
  host_good k of' t go h g = no h

  read_for_good : (here : Here) (host : ℕ) (go : Value → ActTree) → ((v : Value) → Good p W Anything (go v)) → Good p W Anything (read_for here host go)
  read_for_good here host go g = good_if p W Anything (host == char_type) _ _ (λ _. good_after p W Anything here.line next_char go next_char_meant g)
      (λ _. (tt, λ out f. on_one p W Anything go g out f))

  received_row : (here : Here) (a nx : ℕ) (q : Row) → is_access_to is_ordinal_type p q ≡ true → is_access p a ≡ true → Inside p W (length here.records) a
      → (is_list (is_element_of (is_read_access p)) p nx ≡ true) → Inside p W (length here.records) nx → Good p W Anything (received p here a nx q)
  received_row here a nx (Row.Access x) h e s l i = host_good Anything (type_accessed x) (type_at p (type_accessed x)) _ h (λ host.
      read_for_good here host (into p here a (type_accessed x) nx) (λ v. good_target p W Anything a here _ e s (λ addr.
      good_after p W Anything here.line _ _ (assign_meant p W (tag_accessed p (row_at p a)) (type_accessed x) addr v (target_ok p W a e)
      (ordinal_is_simple (type_at p (type_accessed x)) h)) (λ _. done (Receive nx here) (l, i)))))
  received_row here a nx q h e s l i = no h

  read_is_access : (r : Row) → is_access_to is_ordinal_type p r ≡ true → is_access_to is_some p r ≡ true
  read_is_access (Row.Access a) h = by (type_at p (type_accessed a)) h
    where
      by : (t : Option TypeRow) → is_ordinal_type t ≡ true → is_some t ≡ true
      by None e = no e
      by (Some t) e = refl
  read_is_access r h = no h

  received_item : (here : Here) (at : ℕ) (r : Row) (d : Inside p W (length here.records) at) → RowFits p at r → ScopedRow p W.around at r
      → is_element_of (is_read_access p) r ≡ true
      → Good p W Anything (of_received p here r)
  received_item here at (Row.Item (item.Element a nx)) d f s h =
      received_row here a nx (row_at p a) h (read_is_access (row_at p a) h) (in_part p W d s.0) ((f.2 h).0) (in_part p W d s.1.0)
  received_item here at r d f s h = no h

  scanned_good : (here : Here) (s : Scanned) → Good p W OneCell (on_scanned here s)
  scanned_good here (Further scan) = (tt, λ out f. f)
  scanned_good here (Whole v) = tt

  rest_good : (here : Here) → Good p W Anything (of_rest_of_line here)
  rest_good here = good_after p W Anything here.line past_item _ past_meant
      (λ ended. good_if p W Anything ended nothing _ (λ _. tt) (λ _. done (RestOfLine here) tt))

  -- ---- writing

  printed : (here : Here) (nx : ℕ) (text : Text) (w : Option Value) → is_list is_written_item p nx ≡ true → Inside p W (length here.records) nx
      → Good p W Anything (print here nx text w)
  printed here nx text w h s = good_after p W Anything here.line (written text w) _ (written_meant text w) (λ _. done (Print nx here) (h, s))

  text_scalar : (of' : ℕ) (go : Text → ActTree) → is_ordinal p of' ≡ true → ((text : Text) → Good p W Anything (go text)) → (out : Out) → Fits OneCell out
      → Good p W Anything (on_text p of' go out)
  text_scalar of' go h g (Scalar v) f = host_good Anything of' (type_at p of') _ h (λ host. g _)
  text_scalar of' go h g (Jump label base) f = tt
  text_scalar of' go h g out f = absurd f

  text_cells : (of' : ℕ) (go : Text → ActTree) → ((text : Text) → Good p W Anything (go text)) → (out : Out) → Fits ManyCells out
      → Good p W Anything (on_text p of' go out)
  text_cells of' go g (Cells vs) f = g _
  text_cells of' go g (Jump label base) f = tt
  text_cells of' go g out f = absurd f

  text_good : (here : Here) (v of' : ℕ) (go : Text → ActTree) → (is_scalar p v || is_cells p v) ≡ true → (is_scalar p v ≡ true → is_ordinal p of' ≡ true)
      → Inside p W (length here.records) v
      → ((text : Text) → Good p W Anything (go text)) → Good p W Anything (Sub (Eval v here) (on_text p of' go))
  text_good here v of' go h o s g = by (or_cases (is_scalar p v) (is_cells p v) h)
    where
      by : (is_scalar p v ≡ true) ⊎ (is_cells p v ≡ true) → Good p W Anything (Sub (Eval v here) (on_text p of' go))
      by (inl e) = ((h, s), λ out f. text_scalar of' go (o e) g out (subst (λ b. Fits (cells_if b) out) e f))
      by (inr e) = ((h, s), λ out f. text_cells of' go g out (subst (λ b. Fits (cells_if b) out) (cells_not_scalar p W (row_at p v) e) f))

  printed_item : (here : Here) (at : ℕ) (r : Row) (d : Inside p W (length here.records) at) → RowFits p at r → ScopedRow p W.around at r
      → is_written_item r ≡ true
      → Good p W Anything (of_printed p here r)
  printed_item here at (Row.Item (item.Written v of' nx)) d f s h =
      text_good here v of' (λ text. print here nx text None) f.0.0 f.0.1 (in_part p W d s.0) (λ text. printed here nx text None f.1.0 (in_part p W d s.1.0))
  printed_item here at (Row.Item (item.WrittenWide v of' width nx)) d f s h = text_good here v of' (λ text. eval width here (λ w. print here nx text (Some w)))
      f.0.0 f.0.1 (in_part p W d s.0) (λ text. good_eval p W Anything width here (λ w. print here nx text (Some w)) f.1 (in_part p W d s.1.0)
      (λ w. printed here nx text (Some w) f.2.0 (in_part p W d s.1.1.0)))
  printed_item here at r d f s h = no h

  -- ---- statements

  labelled_out : (n label : ℕ) (here : Here) → is_statement p n ≡ true → Inside p W (length here.records) n → (out : Out)
      → Good p W Anything (on_labelled n label here out)
  labelled_out n label here h s (Jump goal base) = good_if p W Anything ((goal == label) && (base == here.base)) _ _ (λ _. done (Exec n here) (h, s)) (λ _. tt)
  labelled_out n label here h s out = tt

  statement_good : (n : ℕ) (here : Here) (r : Row) (d : Inside p W (length here.records) n) → row_at p n ≡ r → RowFits p n r → ScopedRow p W.around n r
      → Inside p W (length here.records) n
      → is_statement_row r ≡ true → Good p W Anything (statement_in p n here r)
  statement_good n here (Row.Statement StatementRow.Empty) d q f s i h = λ _. tt
  statement_good n here (Row.Statement (StatementRow.Assign line target e of')) d q f s i h =
      good_value p W Anything of' e (record here { line = line }) (on_value p (record here { line = line }) target of') f.1 (in_part p W d s.1.0)
      (λ t out g. put_scalar (record here { line = line }) target of' f.0 (in_part p W d s.0) t out g)
      (λ out g. put_cells (record here { line = line }) target of' f.0 (in_part p W d s.0) out g)
  statement_good n here (Row.Statement (StatementRow.Call line routine levels actuals)) d q f s i h =
      call_good p W Anything (record here { line = line }) routine levels actuals _ f.0 f.1 (in_part p W d s.0) (λ out g. normally nothing tt out)
  statement_good n here (Row.Statement (StatementRow.CallFormal line formal levels actuals)) d q f s i h =
      call_formal_good p W Anything (record here { line = line }) formal levels actuals _ f.0 f.1 (in_part p W d s.0)
      (λ heading routine e m out g. normally nothing tt out)
  statement_good n here (Row.Statement (StatementRow.Goto line label levels)) d q f s i h =
      good_after p W Anything line (frame_out levels here.base) _ (frame_meant levels here.base) (λ base. tt)
  statement_good n here (Row.Statement (StatementRow.Labelled label inner)) d q f s i h = good_if p W Anything (nat_lt n inner) _ Meaningless
      (λ _. ((f.0, (in_part p W d s.0)), λ out g. labelled_out n label here (ap is_statement_row q ∙ refl) i out)) (λ e. no (sym e ∙ f.1))
  statement_good n here (Row.Statement (StatementRow.Compound statements)) d q f s i h =
      λ _. done (Sequence statements statements here) (f, f, (in_part p W d s.0), (in_part p W d s.0))
  statement_good n here (Row.Statement (StatementRow.If line condition then')) d q f s i h =
      good_eval p W Anything condition (record here { line = line }) _ f.0 (in_part p W d s.0) (λ v.
      good_if p W Anything (is_true v) _ nothing (λ _. done (Exec then' (record here { line = line })) (f.1, (in_part p W d s.1.0))) (λ _. tt))
  statement_good n here (Row.Statement (StatementRow.IfElse line condition then' otherwise)) d q f s i h =
      good_eval p W Anything condition (record here { line = line }) _ f.0 (in_part p W d s.0) (λ v.
      good_if p W Anything (is_true v) _ _ (λ _. done (Exec then' (record here { line = line })) (f.1, (in_part p W d s.1.0)))
      (λ _. done (Exec otherwise (record here { line = line })) (f.2, (in_part p W d s.1.1.0))))
  statement_good n here (Row.Statement (StatementRow.Case line selector choices)) d q f s i h =
      good_eval p W Anything selector (record here { line = line }) _ f.0 (in_part p W d s.0)
      (case_good (record here { line = line }) choices f.1 (in_part p W d s.1.0))
  statement_good n here (Row.Statement (StatementRow.Repeat line statements condition)) d q f s i h =
      done (Turn n (record here { line = line })) (ap is_turn_row q ∙ refl, i)
  statement_good n here (Row.Statement (StatementRow.While line condition body)) d q f s i h =
      done (Turn n (record here { line = line })) (ap is_turn_row q ∙ refl, i)
  statement_good n here (Row.Statement (StatementRow.For line initial turns)) d q f s i h =
      let t = opened p W (record here { line = line }) turns (in_part p W d s.1.0) in
      bounds_good (record here { line = line }) initial turns (row_at p turns) t.0 (W.rows turns) f.1 t.1 f.1 (in_part p W d s.1.0) f.0 (in_part p W d s.0)
  statement_good n here (Row.Statement (StatementRow.Turns direction last place of' body)) d q f s i h = no h
  statement_good n here (Row.Statement (StatementRow.With line records' body)) d q f s i h =
      done (Establish records' body (record here { line = line })) (
        f.0,
        f.1,
        (length p.rows, more_records (length p.rows) (W.around n) (length here.records) records' body d.there s),
      )
  statement_good n here (Row.Statement (StatementRow.Read ends_line line actuals)) d q f s i h = (
    (f, (in_part p W d s.0)),
    λ out g. normally _
        (good_if p W Anything ends_line _ nothing (λ _. done (RestOfLine (record here { line = line })) tt) (λ _. tt)) out,
  )
  statement_good n here (Row.Statement (StatementRow.Write ends_line line actuals)) d q f s i h = (
    (f, (in_part p W d s.0)),
    λ out g. normally _
        (good_if p W Anything ends_line _ nothing (λ _. ended (record here { line = line }) end_line end_line_meant) (λ _. tt)) out,
  )
  statement_good n here (Row.Statement (StatementRow.Page line)) d q f s i h = ended (record here { line = line }) end_page end_page_meant
  statement_good n here (Row.Statement (StatementRow.New line a of')) d q f s i h = good_size p W Anything (type_at p of') _ f.1 (λ cells.
      good_after p W Anything line (made_variable cells of') (point (record here { line = line }) a) (made_meant cells of')
      (λ v. good_target p W Anything a (record here { line = line }) _ f.0 (in_part p W d s.0) (λ addr.
      ended (record here { line = line }) (write addr v) (write_meant addr v))))
  statement_good n here (Row.Statement (StatementRow.Dispose line e of')) d q f s i h =
      good_eval p W Anything e (record here { line = line }) _ f.0 (in_part p W d s.0) (λ v.
      good_size p W Anything (type_at p of') _ f.1 (λ cells. ended (record here { line = line }) (dispose cells v) (dispose_meant cells v)))
  statement_good n here (Row.Statement (StatementRow.Pack packing line unpacked index packed)) d q f s i h =
      packed_good (record here { line = line }) packing unpacked index packed f.0 f.1 f.2 (in_part p W d s.0) (in_part p W d s.1.0) (in_part p W d s.1.1.0)
  statement_good n here r d q f s i h = no h

  -- ---- routines

  outer : (r : Routine) → W.around r.statements ≡ 0 → Inside p W 0 r.statements
  outer r e = record { there = omega (arith, e) }

  body_good : (routine base : ℕ) (o : Option Routine) → routine_at p routine ≡ o → is_some o ≡ true → Good p W Anything (of_body base o)
  body_good routine base None q h = no h
  body_good routine base (Some r) q h =
      let t = (W.routines routine r q).statements in let s = outer r (W.outermost routine r q) in
      λ _. done (Sequence r.statements r.statements (outermost r base)) (t, t, s, s)

  result_meant : (r : Result Value OpFault) → IsMeant (or_no_result r)
  result_meant (Ok v) = tt
  result_meant (Err e) = tt

  result_type_good : (line addr : ℕ) (t : Option TypeRow) → is_result_type t ≡ true → Good p W OneCell (result_of_type line addr t)
  result_type_good line addr (Some (kind.Pointer domain)) h = good_after p W OneCell line (pointer_result_at addr) scalar (pointer_result_meant addr) (λ _. tt)
  result_type_good line addr (Some (kind.Ordinal least greatest)) h = good_after p W OneCell line (result_read least greatest addr) scalar
      (next (read_value addr) _ (read_meant addr) (λ v. result_meant _)) (λ _. tt)
  result_type_good line addr (Some (kind.Subrange host least greatest)) h = good_after p W OneCell line (result_read least greatest addr) scalar
      (next (read_value addr) _ (read_meant addr) (λ v. result_meant _)) (λ _. tt)
  result_type_good line addr t h = no h

  result_row : (n line addr : ℕ) (r : Row) → RowFits p n r → has_result (signature_in r) ≡ true
      → Good p W OneCell (result_of_type line addr (type_in_heading p r))
  result_row n line addr (Row.Part (PartRow.Heading name sections (Some t))) f h = result_type_good line addr (type_at p t) (f.1 t refl)
  result_row n line addr (Row.Part (PartRow.Heading name sections None)) f h = no h
  result_row n line addr r f h = no h

  normally_to : (k : Takes) (t : ActTree) → Good p W k t → (out : Out) → Good p W k (on_normal t out)
  normally_to k t h (Jump label base) = jump_fits k label base
  normally_to k t h out = h

  return_good : (base : ℕ) (r : Routine) (o : Option ℕ) → (is_some o ≡ true → has_result (signature_at p r.heading) ≡ true)
      → Good p W (result_if (is_some o)) (return_of p base r o)
  return_good base r None h = tt
  return_good base r (Some place) h = result_row r.heading r.line (moved base place) (row_at p r.heading) (W.rows r.heading) (h refl)

  pub routine_good : (f base : ℕ) (r : Routine) → routine_at p f ≡ Some r → Good p W (gives_call p f) (whole p f base r)
  routine_good f base r q = subst (λ o. Good p W (result_if (is_function o)) (whole p f base r)) (sym q) (
    ap is_some q,
    λ out g.
        normally_to (result_if (is_some r.result)) (return_of p base r r.result) (return_good base r r.result (λ e. sym (W.routines f r q).result ∙ e)) out,
  )

  -- ---- each part

  pub part_good : (part : Part) → IsWhole p W part → Good p W (gives p part) (layer p part)
  part_good (Eval n here) h = eval_good p W n here h
  part_good (Locate n target here) h = locate_good p W n target here h
  part_good (Pass at passed here) h = pass_good p W at passed here h
  part_good (Gather at set here) h = gather_good p W at set here h
  part_good (Establish at body here) h = establish_good at body here h
  part_good (Exec n here) h = let s = opened p W here n h.1 in statement_good n here (row_at p n) s.0 refl (W.rows n) s.1 h.1 h.0
  part_good (Sequence first at here) h = good_until p W Anything at nothing _ tt (λ e.
      let s = opened p W here at h.3 in sequence_item here first at (row_at p at) s.0 (W.rows at) s.1 (listed (is_element_of (is_statement p)) p at e h.1)
      (h.0, h.2))
  part_good (Turn n here) h = let s = opened p W here n h.1 in turned here n (row_at p n) s.0 (W.rows n) h.0 s.1 h.0 h.1
  part_good (Count n i last here) h = let s = opened p W here n h.1 in counted here n i last (row_at p n) s.0 (W.rows n) h.0 s.1 h.0 h.1
  part_good (Receive at here) h = good_until p W Anything at nothing _ tt (λ e.
      let s = opened p W here at h.1 in received_item here at (row_at p at) s.0 (W.rows at) s.1 (listed (is_element_of (is_read_access p)) p at e h.0))
  part_good (Scanning scan here) h = good_after p W OneCell here.line (scan_on scan) _ (scan_meant scan) (scanned_good here)
  part_good (RestOfLine here) h = rest_good here
  part_good (Print at here) h = good_until p W Anything at nothing _ tt (λ e.
      let s = opened p W here at h.1 in printed_item here at (row_at p at) s.0 (W.rows at) s.1 (listed is_written_item p at e h.0))
  part_good (Body routine base) h = body_good routine base (routine_at p routine) refl h
