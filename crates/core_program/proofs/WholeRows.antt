-- Where tables are whole, what each part does is meant.
use Rattle.std.proofs.Common.{◌&&◌, ◌<◌, ◌||◌, ◌∙◌, ◌∷◌, ◌≡◌, ◌≤◌, ◌⊎◌, [], ℕ, Bool, List, None, Option, Result, Some, ap, arith, false, inl, inr, is_some}
use Rattle.std.proofs.Common.{length, nat_lt, refl, slice_get, subst, suc, sym, true, zero}
use Rattle.cell_value.specs.{Arithmetic.arith_of, declared.faults.OpFault.OpFault, declared.values.Value.Value}
use Rattle.core_program.proofs.{ActionsMeant.set_meant, WholeActions.field_meant, WholeActions.tested_meant}
use Rattle.core_program.proofs.ActionsMeant.{MayStand, cell_meant, component_meant, end_meant, fault_meant, frame_meant, line_end_meant, next, no}
use Rattle.core_program.proofs.ActionsMeant.{ordinal_meant, pointed_meant, pointer_meant, reads_meant, reference_meant, referred_meant, routine_cell_meant}
use Rattle.core_program.proofs.WholeArrays.{bounds_meant, conformant_component_meant, dimensions_there, extents_meant, whole_meant}
use Rattle.core_program.proofs.WholeParts.{Fits, Good, Inside, IsWhole, ManyCells, OneCell, Passing, Takes, Variable, and_both, array_if, as_variable}
use Rattle.core_program.proofs.WholeParts.{bounded_conformant, bounded_fits, bounded_is_access, cells_if, cells_not_scalar, conformant_not_simple, gives}
use Rattle.core_program.proofs.WholeParts.{gives_call, good_after, good_bounded, good_bounds, good_cells, good_components, good_dimensions, good_doing}
use Rattle.core_program.proofs.WholeParts.{good_eval, good_formal, good_if, good_locate, good_size, good_until, in_part, listed, on_array, on_passed}
use Rattle.core_program.proofs.WholeParts.{on_variable, opened, or_cases, or_left, or_right, result_if}
use Rattle.core_program.specs.{Actions.◌>>=◌, Actions.Give, Expressions.with_frame_size, Heap.pointed_at, Heap.pointer_at, Heap.pointers_compared, Input.at_end}
use Rattle.core_program.specs.{Input.at_line_end, Passed.Passed, Passed.and_cells, Passed.and_copy, State.moved, Variants.field_at}
use Rattle.core_program.specs.Accesses.{access_in, address, bounded_before, component_found, eval, locate_before, locate_field, of_access, on_address}
use Rattle.core_program.specs.Accesses.{on_bounded, scalar, until_end, value_at, with_record}
use Rattle.core_program.specs.Cells.{cell_out, component, frame_out, ordinal_at, read_values, reference_out, referred, routine_out, set_at}
use Rattle.core_program.specs.Conformant.{Dimensions, WholeArray, bounds_tested, conformant_component_at, dimensions_of, extents_at, whole_at}
use Rattle.core_program.specs.Expressions.{access_value, array_copied, array_placed, call, call_formal, enter, expression_in, gather, of_actual, of_expression}
use Rattle.core_program.specs.Expressions.{of_members, on_actual, operation_result, placed_in, section_bounds, string_in, whole_array, whole_in}
use Rattle.core_program.specs.Headings.{heading_in, is_congruous, lists_match, may_stand_for, same_result, signature_at, signatures_match}
use Rattle.core_program.specs.ProgramRows.{ProgramRows, routine_at, row_at, type_at, type_in}
use Rattle.core_program.specs.Tree.{ActTree, Actuals, Cells, Eval, Gather, Here, Jump, Locate, Meaningless, Out, Pass, Ret, Scalar, Sub}
use Rattle.core_program.specs.Values.{comparison, function_of, in_set, or_fault, sets_compared, sets_of, tested, texts_compared, with_sign_of}
use Rattle.core_program.specs.WholeTables.{RowFits, ScopedRow, WholeTables, gives_one_cell, has_result, is_access, is_access_to, is_actual_item, is_array_type}
use Rattle.core_program.specs.WholeTables.{is_bounded, is_bounded_row, is_cells, is_cells_row, is_conformant, is_conformant_type, is_field_row, is_formal}
use Rattle.core_program.specs.WholeTables.{is_function, is_list, is_member_item, is_routine, is_scalar, is_scalar_row, is_simple_type, is_structured_type}
use Rattle.core_program.specs.WholeTables.{is_text_row, is_value_for, signature_of, type_accessed}
use Rattle.core_program.specs.declared.{components.Extent.Extent, components.HeldSpec.HeldSpec, headings.Signature.Signature, program.Routine.Routine}
use Rattle.core_program.specs.declared.rows.{AccessRow.AccessRow, ExpressionRow.ExpressionRow, Row.Row, TypeRow.TypeRow}
use Rattle.core_program.specs.declared.rows.ExpressionRow.TheVariants as expression
use Rattle.core_program.specs.declared.rows.ItemRow.TheVariants as item

module _ (p : ProgramRows) (W : WholeTables p) where
  -- ---- accesses

  located_before : (row inner : ℕ) (target : Bool) (here : Here) (go : ℕ → ActTree) → nat_lt inner row ≡ true → is_access p inner ≡ true
      → Inside p W (length here.records) inner
      → ((addr : ℕ) → Good p W Variable (go addr)) → Good p W Variable (locate_before row inner target here go)
  located_before row inner target here go l h s g =
      good_if p W Variable (nat_lt inner row) (Sub (Locate inner target here) (on_address go)) Meaningless
      (λ _. ((h, s), λ out f. on_variable p W Variable go g out (as_variable (is_bounded p inner) out f))) (λ e. no (sym e ∙ l))

  array_before : (k : Takes) (row inner : ℕ) (target : Bool) (here : Here) (go : ℕ → ℕ → ActTree) → nat_lt inner row ≡ true → is_bounded p inner ≡ true
      → Inside p W (length here.records) inner
      → ((addr frame : ℕ) → Good p W k (go addr frame)) → Good p W k (bounded_before row inner target here go)
  array_before k row inner target here go l h s g =
      good_if p W k (nat_lt inner row) (Sub (Locate inner target here) (on_bounded go)) Meaningless
      (λ _. ((bounded_is_access p W (row_at p inner) h, s), λ out f. on_array p W k go g out (subst (λ b. Fits (array_if b) out) h f)))
      (λ e. no (sym e ∙ l))

  component_good : (b : Bool) (frame addr : ℕ) → Good p W (array_if b) (component_found b frame addr)
  component_good true frame addr = tt
  component_good false frame addr = tt

  established : (n : ℕ) (rs : List ℕ) (go : ℕ → ActTree) → n < length rs → ((addr : ℕ) → Good p W Variable (go addr))
      → Good p W Variable (with_record (slice_get rs n) go)
  established n [] go h g = absurd (omega (arith, h))
  established zero (r ∷ rs) go h g = g r
  established (suc n) (r ∷ rs) go h g = established n rs go (omega (arith, h)) g

  field_good : (target : Bool) (line addr field : ℕ) → is_field_row (row_at p field) ≡ true → Good p W Variable (locate_field p target line addr field)
  field_good target line addr field h = good_after p W Variable line (field_at p target addr (row_at p field)) address (field_meant p W target addr field h)
      (λ _. tt)

  access_good : (n : ℕ) (target : Bool) (here : Here) (a : AccessRow) (d : Inside p W (length here.records) n) → RowFits p n (Row.Access a)
      → ScopedRow p W.around n (Row.Access a)
      → Good p W (array_if (is_bounded_row p (Row.Access a))) (of_access p n target here a)
  access_good n target here (AccessRow.Variable place levels of') d f s =
      λ _. good_after p W Variable here.line (cell_out levels here.base place) address (cell_meant levels here.base place) (λ _. tt)
  access_good n target here (AccessRow.Reference place levels of') d f s =
      λ _. good_after p W Variable here.line (reference_out levels here.base place) address (reference_meant levels here.base place) (λ _. tt)
  access_good n target here (AccessRow.Conformant place levels of') d f s = λ _. good_after p W (array_if (is_conformant p of')) here.line
      (frame_out levels here.base >>= λ frame. referred (moved frame place) >>= λ addr. Give (addr, frame)) _
      (next (frame_out levels here.base) _ (frame_meant levels here.base) (λ frame.
      next (referred (moved frame place)) _ (referred_meant (moved frame place)) (λ _. tt)))
      (λ x. bounded_fits (is_conformant p of') x.0 x.1)
  access_good n target here (AccessRow.Component inner index array of') d f s =
      array_before (array_if (is_conformant p of')) n inner target here _ f.1 f.0 (in_part p W d s.0) (λ addr frame _.
      good_eval p W (array_if (is_conformant p of')) index here _ f.2 (in_part p W d s.1.0) (λ v.
      good_dimensions p W (array_if (is_conformant p of')) (dimensions_of p array) _ (dimensions_there p W array f.3) (λ a.
      good_after p W (array_if (is_conformant p of')) here.line (conformant_component_at a addr frame v) _ (conformant_component_meant a addr frame v)
      (component_good (is_conformant p of') frame))))
  access_good n target here (AccessRow.Within record' field of') d f s =
      λ _. established record' here.records _ (omega (arith, s, d.there)) (λ addr. field_good target here.line addr field f.0)
  access_good n target here (AccessRow.Index inner index array of') d f s = located_before n inner target here _ f.1 f.0 (in_part p W d s.0) (λ addr _.
      good_eval p W Variable index here _ f.2 (in_part p W d s.1.0) (λ v. good_components p W Variable array (row_at p array) _ (W.rows array) f.3 (λ a.
      good_after p W Variable here.line (component a addr v) address (component_meant a addr v) (λ _. tt))))
  access_good n target here (AccessRow.Field inner field of') d f s = located_before n inner target here _ f.1 f.0 (in_part p W d s.0) (λ addr _.
      field_good target here.line addr field f.2)
  access_good n target here (AccessRow.Dereference inner of') d f s = located_before n inner target here _ f.1 f.0 (in_part p W d s.0) (λ addr _.
      good_after p W Variable here.line (pointed_at addr) address (pointed_meant addr) (λ _. tt))

  located : (n : ℕ) (target : Bool) (here : Here) (r : Row) (d : Inside p W (length here.records) n) → RowFits p n r → ScopedRow p W.around n r
      → is_access_to is_some p r ≡ true
      → Good p W (array_if (is_bounded_row p r)) (access_in p n target here r)
  located n target here (Row.Access a) d f s h = access_good n target here a d f s
  located n target here r d f s h = no h

  -- ---- values of variables, by the rows of their types

  value_good : (line addr n : ℕ) (r : Row) → RowFits p n r → is_some (type_in r) ≡ true → is_conformant_type (type_in r) ≡ false
      → Good p W (cells_if (is_simple_type (type_in r))) (value_at p line addr (type_in r))
  value_good line addr n (Row.Type (TypeRow.Ordinal least greatest)) f h e =
      good_after p W OneCell line (ordinal_at least greatest addr) scalar (ordinal_meant least greatest addr) (λ _. tt)
  value_good line addr n (Row.Type (TypeRow.Subrange host least greatest)) f h e =
      good_after p W OneCell line (ordinal_at least greatest addr) scalar (ordinal_meant least greatest addr) (λ _. tt)
  value_good line addr n (Row.Type (TypeRow.Set packed base)) f h e = good_bounds p W OneCell (type_at p base) _ f (λ least greatest.
      good_after p W OneCell line (set_at least greatest addr) scalar (set_meant least greatest addr) (λ _. tt))
  value_good line addr n (Row.Type (TypeRow.Pointer domain)) f h e = good_after p W OneCell line (pointer_at addr) scalar (pointer_meant addr) (λ _. tt)
  value_good line addr n (Row.Type (TypeRow.Array packed index component cells)) f h e =
      good_after p W ManyCells line (read_values [] addr cells) _ (reads_meant [] addr cells) (λ _. tt)
  value_good line addr n (Row.Type (TypeRow.Record packed region cells variants)) f h e =
      good_after p W ManyCells line (read_values [] addr cells) _ (reads_meant [] addr cells) (λ _. tt)
  value_good line addr n (Row.Type (TypeRow.Conformant packed index component place)) f h e = no (sym e)
  value_good line addr n r f h e = no h

  -- ---- calls

  frame_size_good : (k : Takes) (o : Option Routine) (go : ℕ → ActTree) → is_some o ≡ true → ((cells : ℕ) → Good p W k (go cells))
      → Good p W k (with_frame_size o go)
  frame_size_good k None go h g = no h
  frame_size_good k (Some r) go h g = g r.cells

  pub call_good : (k : Takes) (here : Here) (routine levels actuals : ℕ) (go : Out → ActTree) → is_routine p routine ≡ true
      → is_list is_actual_item p actuals ≡ true
      → Inside p W (length here.records) actuals → ((out : Out) → Fits (gives_call p routine) out → Good p W k (go out))
      → Good p W k (call p here routine levels actuals go)
  call_good k here routine levels actuals go h l s g = (
    (l, s),
    λ out f. on_passed p W k _ (λ passed.
        frame_size_good k (routine_at p routine) _ h (λ cells. good_after p W k here.line (frame_out levels here.base) _ (frame_meant levels here.base)
        (λ frame. (h, g)))) out f,
  )

  -- a routine that may be an actual is there, and it is a function if the parameter is one
  there_is : (heading : ℕ) (o : Option Routine) → is_congruous p heading o ≡ true → is_some o ≡ true
  there_is heading None h = no h
  there_is heading (Some r) h = refl

  same_results : (a b : Option ℕ) → same_result a b ≡ true → is_some a ≡ true → is_some b ≡ true
  same_results None b h e = no e
  same_results (Some x) None h e = no h
  same_results (Some x) (Some y) h e = refl

  same_signatures : (lists : ℕ → ℕ → Bool) (a b : Option Signature) → signatures_match lists a b ≡ true → has_result a ≡ true → has_result b ≡ true
  same_signatures lists None b h e = no e
  same_signatures lists (Some g) None h e = no h
  same_signatures lists (Some g) (Some k) h e = same_results g.result k.result (and_both _ _ h).0 e

  function_by : (heading routine : ℕ) (o : Option Routine) → routine_at p routine ≡ o → is_congruous p heading o ≡ true
      → has_result (signature_at p heading) ≡ true → is_function o ≡ true
  function_by heading routine None q h e = no h
  function_by heading routine (Some r) q h e =
      (W.routines routine r q).result ∙ same_signatures (lists_match (length p.rows) p) (signature_at p heading) (signature_at p r.heading) h e

  pub enter_good : (k : Takes) (heading routine frame : ℕ) (passed : Passed) (go : Out → ActTree) → may_stand_for p heading routine ≡ true
      → ((out : Out) → Fits (gives_call p routine) out → Good p W k (go out)) → Good p W k (enter p routine frame passed go)
  enter_good k heading routine frame passed go m g =
      let h = there_is heading (routine_at p routine) m in
      frame_size_good k (routine_at p routine) _ h (λ cells. (h, g))

  pub call_formal_good : (k : Takes) (here : Here) (formal levels actuals : ℕ) (go : Out → ActTree) → is_formal p formal ≡ true
      → is_list is_actual_item p actuals ≡ true
      → Inside p W (length here.records) actuals
      → ((heading routine : ℕ) → heading_in (row_at p formal) ≡ Some heading → may_stand_for p heading routine ≡ true → (out : Out)
      → Fits (gives_call p routine) out → Good p W k (go out))
      → Good p W k (call_formal p here formal levels actuals go)
  call_formal_good k here formal levels actuals go h l s g = (
    (l, s),
    λ out f. on_passed p W k _ (λ passed.
        good_formal p W k (row_at p formal) _ h (λ place heading e.
        good_doing p W k (MayStand p heading) here.line (routine_out p heading levels here.base place) _ (routine_cell_meant p heading levels here.base place)
        (λ x m.
        enter_good k heading x.0 x.1 passed go m (g heading x.0 e m)))) out f,
  )

  function_there : (o : Option Routine) → is_function o ≡ true → is_some o ≡ true
  function_there None h = no h
  function_there (Some r) h = refl

  formal_there : (o : Option ℕ) → has_result (signature_of p o) ≡ true → is_some o ≡ true
  formal_there None h = no h
  formal_there (Some heading) h = refl

  -- ---- expressions

  operated : (here : Here) (r : Result Value OpFault) → Good p W OneCell (operation_result here r)
  operated here r = good_after p W OneCell here.line (or_fault r) scalar (fault_meant r) (λ _. tt)

  string_good : (o : Option (List ℕ)) → is_some o ≡ true → Good p W ManyCells (string_in o)
  string_good None h = no h
  string_good (Some text) h = tt

  two : (here : Here) (left right n : ℕ) (d : Inside p W (length here.records) n) (go : Value → Value → ActTree) → (is_scalar p left ≡ true)
      × (is_scalar p right ≡ true)
      → (W.around left ≤ W.around n) × ((W.around right ≤ W.around n) × Unit {0}) → ((x y : Value) → Good p W OneCell (go x y))
      → Good p W OneCell (eval left here (λ x. eval right here (λ y. go x y)))
  two here left right n d go f s g = good_eval p W OneCell left here _ f.0 (in_part p W d s.0)
      (λ x. good_eval p W OneCell right here _ f.1 (in_part p W d s.1.0) (λ y. g x y))

  expression_good : (n : ℕ) (here : Here) (e : ExpressionRow) (d : Inside p W (length here.records) n) → RowFits p n (Row.Expression e)
      → ScopedRow p W.around n (Row.Expression e)
      → Good p W (cells_if (gives_one_cell p e)) (of_expression p here e)
  expression_good n here (expression.Constant v) d f s = tt
  expression_good n here (expression.Text token) d f s = string_good (slice_get p.texts token) f
  expression_good n here expression.Nil d f s = tt
  expression_good n here (expression.Sign minus operand) d f s = good_eval p W OneCell operand here _ f (in_part p W d s.0)
      (λ v. operated here (with_sign_of minus v))
  expression_good n here (expression.Not operand) d f s = good_eval p W OneCell operand here _ f (in_part p W d s.0) (λ v. tt)
  expression_good n here (expression.Arithmetic operator left right) d f s = two here left right n d _ f s (λ x y. operated here (arith_of operator x y))
  expression_good n here (expression.Logic operator left right) d f s = two here left right n d _ f s (λ x y. tt)
  expression_good n here (expression.Sets operator left right) d f s = two here left right n d _ f s (λ x y. operated here (sets_of operator x y))
  expression_good n here (expression.Compare order left right) d f s = two here left right n d _ f s (λ x y. operated here (comparison order x y))
  expression_good n here (expression.CompareTexts order left right) d f s = good_cells p W OneCell left here _ f.0 (in_part p W d s.0) (λ xs.
      good_cells p W OneCell right here _ f.1 (in_part p W d s.1.0) (λ ys. operated here (texts_compared order xs ys)))
  expression_good n here (expression.CompareSets order left right) d f s = two here left right n d _ f s (λ x y. operated here (sets_compared order x y))
  expression_good n here (expression.ComparePointers equal left right) d f s =
      two here left right n d _ f s (λ x y. operated here (pointers_compared equal x y))
  expression_good n here (expression.In left right) d f s = two here left right n d _ f s (λ x y. operated here (in_set x y))
  expression_good n here (expression.Set members) d f s = ((f, (in_part p W d s.0)), λ out q. q)
  expression_good n here (expression.Apply routine levels actuals) d f s = subst (λ b. Good p W (cells_if b) (call p here routine levels actuals Ret)) (sym f.0)
      (call_good OneCell here routine levels actuals Ret (function_there (routine_at p routine) f.0) f.1 (in_part p W d s.0)
      (λ out q. subst (λ b. Fits (result_if b) out) f.0 q))
  expression_good n here (expression.ApplyFormal formal levels actuals) d f s =
      subst (λ b. Good p W (cells_if b) (call_formal p here formal levels actuals Ret)) (sym f.0)
      (call_formal_good OneCell here formal levels actuals Ret (formal_there (heading_in (row_at p formal)) f.0) f.1 (in_part p W d s.0)
      (λ heading routine e m out q.
      subst (λ b. Fits (result_if b) out) (function_by heading routine (routine_at p routine) refl m (subst (λ o. has_result (signature_of p o) ≡ true) e f.0))
      q))
  expression_good n here (expression.Function function operand least greatest) d f s =
      good_eval p W OneCell operand here _ f (in_part p W d s.0) (λ v. operated here (function_of function least greatest v))
  expression_good n here expression.Eof d f s = good_after p W OneCell here.line at_end scalar end_meant (λ _. tt)
  expression_good n here expression.Eoln d f s = good_after p W OneCell here.line at_line_end scalar line_end_meant (λ _. tt)

  value_type : (t : Option TypeRow) → (is_simple_type t || is_structured_type t) ≡ true → is_some t ≡ true
  value_type None h = no h
  value_type (Some t) h = refl

  -- an access of a conformant array has no other value than its cells, and finds its bounds
  array_bounded : (t : Option TypeRow) (b : Bool) → is_conformant_type t ≡ true → (is_simple_type t || (is_structured_type t || b)) ≡ true → b ≡ true
  array_bounded (Some (TypeRow.Conformant packed index component place)) b e h = h
  array_bounded t b e h = no e

  other_value : (a : AccessRow) → is_conformant p (type_accessed a) ≡ false
      → (is_simple_type (type_at p (type_accessed a)) || (is_structured_type (type_at p (type_accessed a)) || is_bounded_row p (Row.Access a))) ≡ true
      → (is_simple_type (type_at p (type_accessed a)) || is_structured_type (type_at p (type_accessed a))) ≡ true
  other_value a e h = by (is_simple_type (type_at p (type_accessed a))) (is_structured_type (type_at p (type_accessed a))) h
    where
      by : (x y : Bool) → (x || (y || is_bounded_row p (Row.Access a))) ≡ true → (x || y) ≡ true
      by true y k = refl
      by false true k = refl
      by false false k = no (sym e ∙ bounded_conformant p W a k)

  whole_good : (k : Takes) (n t : ℕ) (here : Here) (go : Dimensions → WholeArray → ActTree) → is_bounded p n ≡ true → is_conformant p t ≡ true
      → Inside p W (length here.records) n → ((d : Dimensions) (w : WholeArray) → Good p W k (go d w)) → Good p W k (whole_array p n t here go)
  whole_good k n t here go b e i g = good_bounded p W k n here _ b i (λ addr frame.
      good_dimensions p W k (dimensions_of p t) _ (dimensions_there p W t e) (λ d.
      good_after p W k here.line (whole_at d addr frame) (go d) (whole_meant d addr frame) (g d)))

  valued : (n : ℕ) (here : Here) (a : AccessRow) → Inside p W (length here.records) n → row_at p n ≡ Row.Access a
      → (is_simple_type (type_at p (type_accessed a)) || (is_structured_type (type_at p (type_accessed a)) || is_bounded_row p (Row.Access a))) ≡ true
      → (b : Bool) → is_conformant p (type_accessed a) ≡ b
      → Good p W (cells_if (is_simple_type (type_at p (type_accessed a)))) (access_value p n (type_accessed a) here b)
  valued n here a i q h true e =
      let b = array_bounded (type_at p (type_accessed a)) (is_bounded_row p (Row.Access a)) e h in
      subst (λ c. Good p W (cells_if c) (access_value p n (type_accessed a) here true)) (sym (conformant_not_simple p W (type_at p (type_accessed a)) e))
      (whole_good ManyCells n (type_accessed a) here _ (ap (λ r. is_bounded_row p r) q ∙ b) e i (λ d w. tt))
  valued n here a i q h false e =
      let t = value_type (type_at p (type_accessed a)) (other_value a e h) in
      good_locate p W (cells_if (is_simple_type (type_at p (type_accessed a)))) n here _ (ap (λ r. is_access_to is_some p r) q ∙ t) i (λ addr.
      value_good here.line addr (type_accessed a) (row_at p (type_accessed a)) (W.rows (type_accessed a)) t e)

  evaluated : (n : ℕ) (here : Here) (r : Row) (d : Inside p W (length here.records) n) → row_at p n ≡ r → RowFits p n r → ScopedRow p W.around n r
      → Inside p W (length here.records) n
      → (is_scalar_row p r || is_cells_row p r) ≡ true → Good p W (cells_if (is_scalar_row p r)) (expression_in p n here r)
  evaluated n here (Row.Expression e) d q f s i h = λ _. expression_good n here e d f s
  evaluated n here (Row.Access a) d q f s i h = valued n here a i q h (is_conformant p (type_accessed a)) refl
  evaluated n here r d q f s i h = no h

  -- ---- actual parameters and members

  more_actuals : (here : Here) (at : ℕ) (passed : Passed) → is_list is_actual_item p at ≡ true → Inside p W (length here.records) at
      → Good p W Passing (Sub (Pass at passed here) Ret)
  more_actuals here at passed h s = ((h, s), λ out f. f)

  value_cases : (t : Option TypeRow) (n : ℕ) → is_value_for p t n ≡ true
      → ((is_simple_type t ≡ true) × (is_scalar p n ≡ true)) ⊎ (is_cells p n ≡ true)
  value_cases t n h = elim (or_cases (is_simple_type t && is_scalar p n) ((is_structured_type t || is_conformant_type t) && is_cells p n) h) [
    | inl e ↦ inl (and_both (is_simple_type t) (is_scalar p n) e)
    | inr e ↦ inr (and_both (is_structured_type t || is_conformant_type t) (is_cells p n) e).1
  ]

  -- the value of an actual or an assignment, by how it ends
  pub good_value : (k : Takes) (t n : ℕ) (here : Here) (next : Out → ActTree) → is_value_for p (type_at p t) n ≡ true → Inside p W (length here.records) n
      → (is_simple_type (type_at p t) ≡ true → (out : Out) → Fits OneCell out → Good p W k (next out))
      → ((out : Out) → Fits ManyCells out → Good p W k (next out)) → Good p W k (Sub (Eval n here) next)
  good_value k t n here next h s g m = by (value_cases (type_at p t) n h)
    where
      by : ((is_simple_type (type_at p t) ≡ true) × (is_scalar p n ≡ true)) ⊎ (is_cells p n ≡ true)
          → Good p W k (Sub (Eval n here) next)
      by (inl e) = ((or_left (is_scalar p n) (is_cells p n) e.1, s), λ out f. g e.0 out (subst (λ b. Fits (cells_if b) out) e.1 f))
      by (inr e) = (
        (or_right (is_scalar p n) (is_cells p n) e, s),
        λ out f. m out (subst (λ b. Fits (cells_if b) out) (cells_not_scalar p W (row_at p n) e) f),
      )

  actual_scalar : (here : Here) (t : ℕ) (go : List Value → ActTree) → is_simple_type (type_at p t) ≡ true → ((vs : List Value) → Good p W Passing (go vs))
      → (out : Out) → Fits OneCell out → Good p W Passing (on_actual p here (type_at p t) go out)
  actual_scalar here t go h g (Scalar v) f = good_after p W Passing here.line (tested p (type_at p t) v) _ (tested_meant p W t v h) (λ w. g _)
  actual_scalar here t go h g (Jump label base) f = tt
  actual_scalar here t go h g out f = absurd f

  actual_cells : (here : Here) (t : Option TypeRow) (go : List Value → ActTree) → ((vs : List Value) → Good p W Passing (go vs))
      → (out : Out) → Fits ManyCells out → Good p W Passing (on_actual p here t go out)
  actual_cells here t go g (Cells vs) f = g vs
  actual_cells here t go g (Jump label base) f = tt
  actual_cells here t go g out f = absurd f

  -- arrays as actuals

  section_good : (here : Here) (first : Bool) (specs : List HeldSpec) (es : List Extent) (passed : Passed) (go : Passed → ActTree)
      → ((q : Passed) → Good p W Passing (go q)) → Good p W Passing (section_bounds here first specs es passed go)
  section_good here true specs es passed go g = good_after p W Passing here.line (bounds_tested es specs) _ (bounds_meant es specs) (λ _. g _)
  section_good here false specs es passed go g = g passed

  array_type_there : (t : Option TypeRow) → is_array_type t ≡ true → is_some t ≡ true
  array_type_there None h = no h
  array_type_there (Some t) h = refl

  -- such an access finds bounds if it is of a conformant array, and is of an array type if not
  actual_bounded : (t : Option TypeRow) (b : Bool) → is_conformant_type t ≡ true → (is_array_type t || b) ≡ true → b ≡ true
  actual_bounded (Some (TypeRow.Conformant packed index component place)) b e h = h
  actual_bounded t b e h = no e

  actual_fixed : (a : AccessRow) → is_conformant p (type_accessed a) ≡ false
      → (is_array_type (type_at p (type_accessed a)) || is_bounded_row p (Row.Access a)) ≡ true
      → is_some (type_at p (type_accessed a)) ≡ true
  actual_fixed a e h = elim (or_cases (is_array_type (type_at p (type_accessed a))) (is_bounded_row p (Row.Access a)) h) [
    | inl k ↦ array_type_there (type_at p (type_accessed a)) k
    | inr k ↦ no (sym e ∙ bounded_conformant p W a k)
  ]

  placed_good : (n : ℕ) (specs : List HeldSpec) (here : Here) (r : Row) (go : List Extent → ℕ → ActTree) → row_at p n ≡ r
      → Inside p W (length here.records) n → (is_access_to is_array_type p r || is_bounded_row p r) ≡ true
      → ((es : List Extent) (addr : ℕ) → Good p W Passing (go es addr)) → Good p W Passing (placed_in p n specs here r go)
  placed_good n specs here (Row.Access a) go q i h g = by (is_conformant p (type_accessed a)) refl
    where
      by : (b : Bool) → is_conformant p (type_accessed a) ≡ b → Good p W Passing (array_placed p n (type_accessed a) specs here b go)
      by true e =
          let b = actual_bounded (type_at p (type_accessed a)) (is_bounded_row p (Row.Access a)) e h in
          good_bounded p W Passing n here _ (ap (λ r. is_bounded_row p r) q ∙ b) i (λ addr frame.
          good_dimensions p W Passing (dimensions_of p (type_accessed a)) _ (dimensions_there p W (type_accessed a) e) (λ d.
          good_after p W Passing here.line (extents_at d.specs frame) _ (extents_meant d.specs frame) (λ es. g _ addr)))
      by false e = good_locate p W Passing n here _ (ap (λ r. is_access_to is_some p r) q ∙ actual_fixed a e h) i (λ addr. g _ addr)
  placed_good n specs here r go q i h g = no h

  copied_good : (n : ℕ) (specs : List HeldSpec) (here : Here) (r : Row) (go : WholeArray → ActTree) → row_at p n ≡ r
      → Inside p W (length here.records) n → (is_text_row r || (is_access_to is_array_type p r || is_bounded_row p r)) ≡ true
      → ((w : WholeArray) → Good p W Passing (go w)) → Good p W Passing (whole_in p n specs here r go)
  copied_good n specs here (Row.Access a) go q i h g = by (is_conformant p (type_accessed a)) refl
    where
      by : (b : Bool) → is_conformant p (type_accessed a) ≡ b → Good p W Passing (array_copied p n (type_accessed a) specs here b go)
      by true e =
          let b = actual_bounded (type_at p (type_accessed a)) (is_bounded_row p (Row.Access a)) e h in
          whole_good Passing n (type_accessed a) here _ (ap (λ r. is_bounded_row p r) q ∙ b) e i (λ d w. g _)
      by false e =
          let t = actual_fixed a e h in
          good_locate p W Passing n here _ (ap (λ r. is_access_to is_some p r) q ∙ t) i (λ addr.
          good_size p W Passing (type_at p (type_accessed a)) _ t (λ cells.
          good_after p W Passing here.line (read_values [] addr cells) _ (reads_meant [] addr cells) (λ vs. g _)))
  copied_good n specs here (Row.Expression (ExpressionRow.Text token)) go q i h g =
      good_cells p W Passing n here _ (ap (λ r. is_cells_row p r) q) i (λ vs. g _)
  copied_good n specs here r go q i h g = no h

  actual_good : (n : ℕ) (here : Here) (passed : Passed) (r : Row) (d : Inside p W (length here.records) n) → RowFits p n r → ScopedRow p W.around n r
      → is_actual_item r ≡ true
      → Good p W Passing (of_actual p passed here r)
  actual_good n here passed (Row.Item (item.Value v of' nx)) d f s h =
      let go : List Value → ActTree = λ vs. Sub (Pass nx (and_cells passed vs) here) Ret in
      good_value Passing of' v here (on_actual p here (type_at p of') go) f.0 (in_part p W d s.0)
      (λ e out q. actual_scalar here of' go e (λ vs. more_actuals here nx (and_cells passed vs) f.1.0 (in_part p W d s.1.0)) out q)
      (λ out q. actual_cells here (type_at p of') go (λ vs. more_actuals here nx (and_cells passed vs) f.1.0 (in_part p W d s.1.0)) out q)
  actual_good n here passed (Row.Item (item.Place a nx)) d f s h =
      good_locate p W Passing a here _ f.0 (in_part p W d s.0) (λ addr. more_actuals here nx (and_cells passed (Value.Place addr ∷ [])) f.1.0
      (in_part p W d s.1.0))
  actual_good n here passed (Row.Item (item.ArrayPlace first a of' nx)) d f s h =
      good_dimensions p W Passing (dimensions_of p of') _ (dimensions_there p W of' f.1) (λ c.
      placed_good a c.specs here (row_at p a) _ refl (in_part p W d s.0) f.0 (λ es addr.
      section_good here first c.specs es passed _ (λ q. more_actuals here nx (and_cells q (Value.Place addr ∷ [])) f.2.0 (in_part p W d s.1.0))))
  actual_good n here passed (Row.Item (item.ArrayValue first v of' nx)) d f s h =
      good_dimensions p W Passing (dimensions_of p of') _ (dimensions_there p W of' f.1) (λ c.
      copied_good v c.specs here (row_at p v) _ refl (in_part p W d s.0) f.0 (λ w.
      section_good here first c.specs w.extents passed _ (λ q. more_actuals here nx (and_copy q w.cells) f.2.0 (in_part p W d s.1.0))))
  actual_good n here passed (Row.Item (item.Routine routine levels nx)) d f s h = λ _.
      good_after p W Passing here.line (frame_out levels here.base >>= λ frame. Give (routine, frame)) _
      (next (frame_out levels here.base) _ (frame_meant levels here.base) (λ _. tt))
      (λ x. more_actuals here nx (and_cells passed (Value.Routine x.0 x.1 ∷ [])) f.1.0 (in_part p W d s.0))
  actual_good n here passed (Row.Item (item.RoutineFormal formal levels nx)) d f s h = good_formal p W Passing (row_at p formal) _ f.0 (λ place heading e _.
      good_doing p W Passing (MayStand p heading) here.line (routine_out p heading levels here.base place) _
      (routine_cell_meant p heading levels here.base place)
      (λ x m. more_actuals here nx (and_cells passed (Value.Routine x.0 x.1 ∷ [])) f.1.0 (in_part p W d s.0)))
  actual_good n here passed r d f s h = no h

  more_members : (here : Here) (at : ℕ) (r : Result Value OpFault) → is_list is_member_item p at ≡ true → Inside p W (length here.records) at
      → Good p W OneCell (gather here at r)
  more_members here at r h s = good_after p W OneCell here.line (or_fault r) _ (fault_meant r) (λ set. ((h, s), λ out f. f))

  member_good : (n : ℕ) (set : Value) (here : Here) (r : Row) (d : Inside p W (length here.records) n) → RowFits p n r → ScopedRow p W.around n r
      → is_member_item r ≡ true
      → Good p W OneCell (of_members set here r)
  member_good n set here (Row.Item (item.Member v nx)) d f s h =
      good_eval p W OneCell v here _ f.0 (in_part p W d s.0) (λ x. more_members here nx _ f.1.0 (in_part p W d s.1.0))
  member_good n set here (Row.Item (item.Members first last nx)) d f s h = good_eval p W OneCell first here _ f.0 (in_part p W d s.0) (λ x.
      good_eval p W OneCell last here _ f.1 (in_part p W d s.1.0) (λ y. more_members here nx _ f.2.0 (in_part p W d s.1.1.0)))
  member_good n set here r d f s h = no h

  -- ---- the parts of expressions

  pub eval_good : (n : ℕ) (here : Here) → IsWhole p W (Eval n here) → Good p W (gives p (Eval n here)) (expression_in p n here (row_at p n))
  eval_good n here (h, i) = let s = opened p W here n i in evaluated n here (row_at p n) s.0 refl (W.rows n) s.1 i h

  pub locate_good : (n : ℕ) (target : Bool) (here : Here) → IsWhole p W (Locate n target here)
      → Good p W (array_if (is_bounded p n)) (access_in p n target here (row_at p n))
  locate_good n target here (h, i) = let s = opened p W here n i in located n target here (row_at p n) s.0 (W.rows n) s.1 h

  pub pass_good : (at : ℕ) (passed : Passed) (here : Here) → IsWhole p W (Pass at passed here)
      → Good p W Passing (until_end at (Ret (Actuals passed)) (of_actual p passed here (row_at p at)))
  pass_good at passed here (h, i) = let s = opened p W here at i in good_until p W Passing at (Ret (Actuals passed)) _ tt
      (λ e. actual_good at here passed (row_at p at) s.0 (W.rows at) s.1 (listed is_actual_item p at e h))

  pub gather_good : (at : ℕ) (set : Value) (here : Here) → IsWhole p W (Gather at set here)
      → Good p W OneCell (until_end at (scalar set) (of_members set here (row_at p at)))
  gather_good at set here (h, i) = let s = opened p W here at i in good_until p W OneCell at (scalar set) _ tt
      (λ e. member_good at set here (row_at p at) s.0 (W.rows at) s.1 (listed is_member_item p at e h))
