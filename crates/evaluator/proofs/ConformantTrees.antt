-- Conformant arrays, as a body has still to deal with them.
use Rattle.std.proofs.Common.{if◌then◌else◌, ◌++◌, ◌<◌, ◌∙◌, ◌∷◌, ◌≡◌, [], ℕ, Bool, List, None, Option, Some, ap, append-nil, false, refl, sym, true}
use Rattle.std.proofs.lemmas.Bool.{lt-ltb}
use Rattle.cell_value.specs.declared.values.Value.{Value}
use Rattle.core_program.specs.{Cells.read_values, Conformant.fixed_extents, Conformant.inner_extents, Conformant.whole_at, Passed.Passed, Passed.and_cells}
use Rattle.core_program.specs.{Passed.and_copy, ProgramRows.ProgramRows, ProgramRows.row_at, ProgramRows.type_at, WholeTables.is_conformant_type}
use Rattle.core_program.specs.Accesses.{bounded_before, component_found, eval, is_conformant, no_row, of_access, on_address, on_bounded, on_cells}
use Rattle.core_program.specs.Accesses.{spend, type_accessed, value_at, with_dimensions, with_size}
use Rattle.core_program.specs.Actions.{◌>>=◌, Action, Fail, Give, NoMeaning, Perform}
use Rattle.core_program.specs.Conformant.{Dimensions, WholeArray, bound_values, bounds_tested, conformant_component_at, dimensions_of, extents_at}
use Rattle.core_program.specs.Expressions.{access_value, array_copied, array_placed, of_actual, placed_in, section_bounds, text_whole, whole_in}
use Rattle.core_program.specs.Tree.{ActTree, Address, Bounded, Cells, Do, Eval, Here, Locate, Out, Pass, Ret, Sub, bind, doing}
use Rattle.core_program.specs.declared.components.{Extent.Extent, HeldSpec.HeldSpec}
use Rattle.core_program.specs.declared.rows.{AccessRow.AccessRow, ExpressionRow.ExpressionRow, ItemRow.ItemRow, Row.Row, TypeRow.TypeRow}
use Rattle.eval_ops.specs.Arrays.{size_in}
use Rattle.eval_ops.specs.Conformant.{bounds_passed, conformant_copied, conformant_extents, fixed_copied, or_not_meant, text_actual, whole_passed}
use Rattle.evaluator.specs.Rest.{Lists, after_part, array_found, array_passed, conformant_indexed, here, place_found, place_passed, value_wanted}
use Rattle.evaluator.specs.declared.tasks.{Home.Home, Located.Located, Task.Task}

-- an action after another, as what follows it
pub doing_bind : {A B : Type 0} (line : ℕ) (a : Action A) (f : A → Action B) (k : B → ActTree)
    → doing line (a >>= f) k ≡ doing line a (λ x. doing line (f x) k)
doing_bind line (Give x) f k = refl
doing_bind line (Fail why) f k = refl
doing_bind line NoMeaning f k = refl
doing_bind line (Perform act next) f k = λ i. Do line act (λ x. doing_bind line (next x) f k i)

-- what follows the dimensions of a type
with_meant : {A : Type 0} (line : ℕ) (o : Option Dimensions) (g : Dimensions → Action A) (k : A → ActTree)
    → with_dimensions o (λ d. doing line (g d) k) ≡ doing line (or_not_meant o >>= g) k
with_meant line None g k = refl
with_meant line (Some d) g k = refl

-- the same where what follows the action takes them too
with_both : {A B : Type 0} (line : ℕ) (o : Option Dimensions) (g : Dimensions → Action A) (h : Dimensions → A → B) (k : B → ActTree)
    → with_dimensions o (λ d. doing line (g d) (λ x. k (h d x))) ≡ doing line (or_not_meant o >>= λ d. g d >>= λ x. Give (h d x)) k
with_both line None g h k = refl
with_both line (Some d) g h k = sym (doing_bind line (g d) (λ x. Give (h d x)) k)

sized : {A : Type 0} (line : ℕ) (t : Option TypeRow) (g : ℕ → Action A) (k : A → ActTree)
    → with_size t (λ n. doing line (g n) k) ≡ doing line (or_not_meant (size_in t) >>= g) k
sized line None g k = refl
sized line (Some t) g k = refl

-- ---- accesses

pub component_indexed : (p : ProgramRows) (home : Home) (line row : ℕ) (target : Bool) (access index array of' : ℕ)
    → of_access p row target (here home line) (AccessRow.Component access index array of')
    ≡ bounded_before row access target (here home line) (conformant_indexed p home index array of' line)
component_indexed p home line row target access index array of' =
    let h = here home line in
    λ i. bounded_before row access target h (λ addr frame. spend h (eval index h (λ v.
    with_meant line (dimensions_of p array) (λ d. conformant_component_at d addr frame v) (component_found (is_conformant p of') frame) i)))

-- the array of which a component is accessed
pub bounded_before_it : (row access : ℕ) (target : Bool) (h : Here) (go : ℕ → ℕ → ActTree) (K : Out → ActTree) → access < row
    → bind (bounded_before row access target h go) K ≡ bind (Sub (Locate access target h) (on_bounded go)) K
bounded_before_it row access target h go K l =
    ap (λ b. bind (if b then Sub (Locate access target h) (on_bounded go) else no_row) K) (lt-ltb access row l)

-- a component that is found
pub found_by : (b : Bool) (frame addr : ℕ) (K : Out → ActTree)
    → bind (component_found b frame addr) K ≡ (if b then K (Bounded addr frame) else K (Address addr))
found_by true frame addr K = refl
found_by false frame addr K = refl

-- an access for its value
pub access_wanted : (p : ProgramRows) (row t : ℕ) (h : Here) (b : Bool)
    → access_value p row t h b ≡ Sub (Locate row false h) (value_wanted p h.line t b)
access_wanted p row t h true = λ i. Sub (Locate row false h) (on_bounded (λ addr frame.
    with_meant h.line (dimensions_of p t) (λ d. whole_at d addr frame) (λ w. Ret (Cells w.cells)) i))
access_wanted p row t h false = refl

-- by an address, the value of a variable of a type that is no conformant one; by a conformant array, that of any
pub wanted_at : (p : ProgramRows) (line of' addr : ℕ) → value_wanted p line of' (is_conformant p of') (Address addr) ≡ value_at p line addr (type_at p of')
wanted_at p line of' addr = by (type_at p of') refl
  where
    by : (t : Option TypeRow) → type_at p of' ≡ t → value_wanted p line of' (is_conformant_type t) (Address addr) ≡ value_at p line addr t
    by (Some (TypeRow.Conformant packed index component place)) e = refl
    by (Some (TypeRow.Ordinal least greatest)) e = ap (value_at p line addr) e
    by (Some (TypeRow.Subrange host least greatest)) e = ap (value_at p line addr) e
    by (Some (TypeRow.Set packed base)) e = ap (value_at p line addr) e
    by (Some (TypeRow.Pointer domain)) e = ap (value_at p line addr) e
    by (Some (TypeRow.Array packed index component cells)) e = ap (value_at p line addr) e
    by (Some (TypeRow.Record packed region cells variants)) e = ap (value_at p line addr) e
    by None e = ap (value_at p line addr) e

-- what waits for an address takes that of a conformant array
pub located_alike : (p : ProgramRows) (home : Home) (l : Located) (vs : List Value) (ls : Lists) (addr frame : ℕ)
    → ((a b : ℕ) → l ≡ Located.Value a b → ⊥)
    → after_part p home (Task.Located l) vs ls (Bounded addr frame) ≡ after_part p home (Task.Located l) vs ls (Address addr)
located_alike p home (Located.Value a b) vs ls addr frame f = absurd (f a b refl)
located_alike p home l vs ls addr frame f = refl

-- ---- actuals

-- dimensions that are meant are those that the tables have
pub dimensions_known : (o : Option Dimensions) (d : Dimensions) → or_not_meant o ≡ Give d → o ≡ Some d
dimensions_known None d e = absurd (let q : ⊥ = cc in q)
dimensions_known (Some x) d e = (let q : x ≡ d = cc in ap Some q)

passed_same : (q : Passed) → q ≡ and_cells q []
passed_same q = sym (ap (λ l. record q { cells = l }) (append-nil q.cells))

section_meant : (h : Here) (first : Bool) (specs : List HeldSpec) (es : List Extent) (q : Passed) (go : Passed → ActTree)
    → section_bounds h first specs es q go ≡ doing h.line (bounds_passed first specs es) (λ bs. go (and_cells q bs))
section_meant h true specs es q go =
    sym (doing_bind h.line (bounds_tested es specs) (λ _. Give (bound_values es)) (λ bs. go (and_cells q bs)))
section_meant h false specs es q go = ap go (passed_same q)

module _ (p : ProgramRows) (home : Home) (line : ℕ) (first : Bool) (of' next : ℕ) (q : Passed) (d : Dimensions) (known : dimensions_of p of' ≡ Some d) where
  abbrev at_work : Here
  at_work = here home line

  -- the cells of an array's place, once its extents are known
  abbrev place_known : List Extent → (addr : ℕ) → ActTree
  place_known es addr = section_bounds at_work first d.specs es q (λ r. Sub (Pass next (and_cells r (Value.Place addr ∷ [])) at_work) Ret)

  place_meant : (a : Action (List Extent)) (addr : ℕ)
      → doing line a (λ es. place_known es addr) ≡ doing line (a >>= λ es. bounds_passed first d.specs es) (place_passed home next line q addr)
  place_meant a addr =
      (λ i. doing line a (λ es. section_meant at_work first d.specs es q (λ r. Sub (Pass next (and_cells r (Value.Place addr ∷ [])) at_work) Ret) i))
      ∙ sym (doing_bind line a (λ es. bounds_passed first d.specs es) (place_passed home next line q addr))

  -- an array that is known
  abbrev array_known : WholeArray → ActTree
  array_known w = section_bounds at_work first d.specs w.extents q (λ r. Sub (Pass next (and_copy r w.cells) at_work) Ret)

  array_meant : (a : Action WholeArray)
      → doing line a array_known ≡ doing line (a >>= λ w. whole_passed first d.specs w) (array_passed home next line q)
  array_meant a =
      (λ i. doing line a (λ w. (section_meant at_work first d.specs w.extents q (λ r. Sub (Pass next (and_copy r w.cells) at_work) Ret)
      ∙ sym (doing_bind line (bounds_passed first d.specs w.extents) (λ bs. Give (record { bounds = bs; cells = w.cells }))
      (array_passed home next line q))) i))
      ∙ sym (doing_bind line a (λ w. whole_passed first d.specs w) (array_passed home next line q))

  -- by the dimensions of the parameter
  by_schema : {A : Type 0} (f : Dimensions → Action A) (k : A → ActTree)
      → doing line (f d) k ≡ doing line (or_not_meant (dimensions_of p of') >>= f) k
  by_schema f k = ap (λ o. doing line (or_not_meant o >>= f) k) (sym known)

  places : (access t : ℕ) (b : Bool) → array_placed p access t d.specs at_work b place_known
      ≡ Sub (Locate access false at_work) (place_found p home first of' t next line q b)
  places access t true = λ i. Sub (Locate access false at_work) (on_bounded (λ addr frame. (
      with_both line (dimensions_of p t) (λ e. extents_at e.specs frame) (λ e es. es ++ inner_extents p e d.specs) (λ es. place_known es addr)
      ∙ place_meant (conformant_extents p d.specs t frame) addr
      ∙ by_schema (λ s. conformant_extents p s.specs t frame >>= λ es. bounds_passed first s.specs es) (place_passed home next line q addr)) i))
  places access t false = λ i. Sub (Locate access false at_work) (on_address (λ addr. (
      place_meant (Give (fixed_extents p d.specs (type_at p t))) addr
      ∙ by_schema (λ s. bounds_passed first s.specs (fixed_extents p s.specs (type_at p t))) (place_passed home next line q addr)) i))

  -- an actual variable parameter
  pub place_located : (access : ℕ) (a : AccessRow) → row_at p access ≡ Row.Access a
      → of_actual p q at_work (Row.Item (ItemRow.ArrayPlace first access of' next))
      ≡ Sub (Locate access false at_work) (place_found p home first of' (type_accessed a) next line q (is_conformant p (type_accessed a)))
  place_located access a r =
      ap (λ o. with_dimensions o (λ s. placed_in p access s.specs at_work (row_at p access) (λ es addr.
      section_bounds at_work first s.specs es q (λ r. Sub (Pass next (and_cells r (Value.Place addr ∷ [])) at_work) Ret)))) known
      ∙ ap (λ x. placed_in p access d.specs at_work x place_known) r ∙ places access (type_accessed a) (is_conformant p (type_accessed a))

  arrays : (access t : ℕ) (b : Bool) → array_copied p access t d.specs at_work b array_known
      ≡ Sub (Locate access false at_work) (array_found p home first of' t next line q b)
  arrays access t true = λ i. Sub (Locate access false at_work) (on_bounded (λ addr frame. (
      with_both line (dimensions_of p t) (λ e. whole_at e addr frame)
      (λ e w. record { extents = w.extents ++ inner_extents p e d.specs; cells = w.cells }) array_known
      ∙ array_meant (conformant_copied p d.specs t addr frame)
      ∙ by_schema (λ s. conformant_copied p s.specs t addr frame >>= λ w. whole_passed first s.specs w) (array_passed home next line q)) i))
  arrays access t false = λ i. Sub (Locate access false at_work) (on_address (λ addr. (
      fixed addr
      ∙ array_meant (fixed_copied p d.specs t addr)
      ∙ by_schema (λ s. fixed_copied p s.specs t addr >>= λ w. whole_passed first s.specs w) (array_passed home next line q)) i))
    where
      fixed : (addr : ℕ) → with_size (type_at p t) (λ n. doing line (read_values [] addr n) (λ vs.
          array_known (record { extents = fixed_extents p d.specs (type_at p t); cells = vs }))) ≡ doing line (fixed_copied p d.specs t addr) array_known
      fixed addr =
          (λ i. with_size (type_at p t) (λ n. sym (doing_bind line (read_values [] addr n)
          (λ vs. Give (record { extents = fixed_extents p d.specs (type_at p t); cells = vs })) array_known) i))
          ∙ sized line (type_at p t) (λ n. read_values [] addr n >>= λ vs. Give (record { extents = fixed_extents p d.specs (type_at p t); cells = vs }))
          array_known

  -- an actual value parameter, by the row of its expression
  value_by : (value : ℕ) (x : Row) → row_at p value ≡ x
      → of_actual p q at_work (Row.Item (ItemRow.ArrayValue first value of' next)) ≡ whole_in p value d.specs at_work x array_known
  value_by value x r =
      ap (λ o. with_dimensions o (λ s. whole_in p value s.specs at_work (row_at p value) (λ w.
      section_bounds at_work first s.specs w.extents q (λ r. Sub (Pass next (and_copy r w.cells) at_work) Ret)))) known
      ∙ ap (λ x. whole_in p value d.specs at_work x array_known) r

  -- one that is a variable, and one that is a string
  pub array_located : (access : ℕ) (a : AccessRow) → row_at p access ≡ Row.Access a
      → of_actual p q at_work (Row.Item (ItemRow.ArrayValue first access of' next))
      ≡ Sub (Locate access false at_work) (array_found p home first of' (type_accessed a) next line q (is_conformant p (type_accessed a)))
  array_located access a r = value_by access (Row.Access a) r ∙ arrays access (type_accessed a) (is_conformant p (type_accessed a))

  pub text_located : (value : ℕ) (x : ExpressionRow) → row_at p value ≡ Row.Expression x
      → of_actual p q at_work (Row.Item (ItemRow.ArrayValue first value of' next))
      ≡ Sub (Eval value at_work) (on_cells (λ ws. doing line (text_actual p first of' ws) (array_passed home next line q)))
  text_located value x r = value_by value (Row.Expression x) r ∙ (λ i. Sub (Eval value at_work) (on_cells (λ ws. (
      array_meant (Give (text_whole ws)) ∙ by_schema (λ s. whole_passed first s.specs (text_whole ws)) (array_passed home next line q)) i)))
