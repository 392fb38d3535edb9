-- Where tables are whole, the actions that look up rows are meant.
use Rattle.std.proofs.Common.{if◌then◌else◌, ◌&&◌, ◌+◌, ◌<◌, ◌||◌, ◌∙◌, ◌∷◌, ◌≡◌, ◌⊎◌, [], ℕ, ℤ, Bool, List, None, Option, Some, ap, arith, false, inl, inr}
use Rattle.std.proofs.Common.{is_some, length, nat_lt, refl, replicate, slice_get, subst, suc, sym, true, unwrap_or, zero}
use Rattle.std.{proofs.lemmas.Bool.Decides.nat_tests, specs.Ordering.int_eq}
use Rattle.cell_value.specs.declared.values.Value.{Value}
use Rattle.core_program.proofs.ActionsMeant.{IsMeant, fault_meant, if_meant, next, no, read_meant, write_meant, writes_meant}
use Rattle.core_program.proofs.WholeParts.{listed, or_second}
use Rattle.core_program.specs.{Actions.◌>>=◌, Actions.Action, Actions.NoMeaning, Cells.read_value, Cells.write, State.moved, Values.as_tested, Values.set_test}
use Rattle.core_program.specs.{Values.tested, declared.variants.VariantPart.VariantPart}
use Rattle.core_program.specs.Choices.{Sought, along, choice_of, choose_at, on_to}
use Rattle.core_program.specs.ProgramRows.{ProgramRows, row_at, type_at, type_in}
use Rattle.core_program.specs.Variants.{activate, all_entered, answered, assign_to, at_position, changes, chosen, field_at, is_at, on_variant, or_activated}
use Rattle.core_program.specs.Variants.{part_in, position_at, position_in, tag_accessed, tag_before, tag_of, undefine_if, variant_entered, variant_in}
use Rattle.core_program.specs.WholeTables.{Goes, RowFits, WholeTables, is_access_to, is_choice_of, is_end, is_field_row, is_holder_row, is_list}
use Rattle.core_program.specs.WholeTables.{is_ordinal_type, is_simple_type, is_variant, is_variant_row, is_variants_row}
use Rattle.core_program.specs.declared.rows.{AccessRow.AccessRow, ItemRow.ItemRow, NameRow.NameRow, Row.Row, TypeRow.TypeRow}
use Rattle.core_program.specs.declared.rows.PartRow.TheVariants as part

-- ---- rows that are there

pub below_length : (rs : List Row) (n : ℕ) → (unwrap_or (slice_get rs n) Row.Nothing ≡ Row.Nothing) ⊎ (n < length rs)
below_length [] n = inl refl
below_length (r ∷ rs) zero = inr (omega arith)
below_length (r ∷ rs) (suc n) = elim (below_length rs n) [ inl e ↦ inl e | inr h ↦ inr (omega (arith, h)) ]

-- ---- what is found

abbrev pub Found : (ℕ → Type 0) → Sought → Type 0
Found P None = ⊥
Found P (Some None) = Unit {0}
Found P (Some (Some x)) = P x

pub found_if : (P : ℕ → Type 0) (b : Bool) (x y : Sought) → (b ≡ true → Found P x) → (b ≡ false → Found P y) → Found P (if b then x else y)
found_if P true x y h k = h refl
found_if P false x y h k = k refl

module _ (p : ProgramRows) where
  pub there : (test : Row → Bool) (at : ℕ) → test Row.Nothing ≡ false → test (row_at p at) ≡ true → at < length p.rows
  there test at e h = elim (below_length p.rows at) [ inl q ↦ no (sym e ∙ sym (ap test q) ∙ h) | inr l ↦ l ]

  -- where a list goes on, it does so after this item
  pub goes_on : (at nx : ℕ) → (is_end nx || nat_lt at nx) ≡ true → is_end nx ≡ false → nat_lt at nx ≡ true
  goes_on at nx h e = or_second (is_end nx) (nat_lt at nx) e h

  -- all rows are enough to look at from an item on
  pub enough_items : (at : ℕ) → is_end at ≡ false → length p.rows < length p.rows + at
  enough_items at e = let k : 0 < at = grind (arith, nat_tests) in omega (arith, k)

  -- the search goes on, if the list does
  pub found_on : (P : ℕ → Type 0) (at nx : ℕ) (go : ℕ → Sought) → (is_end nx || nat_lt at nx) ≡ true
      → (is_end nx ≡ false → at < nx → Found P (go nx)) → Found P (on_to at nx go)
  found_on P at nx go h k = found_if P (is_end nx) (Some None) _ (λ _. tt) (λ e.
      found_if P (nat_lt at nx) (go nx) None (λ t. k e (let l : at < nx = grind (arith, nat_tests) in l)) (λ z. no (sym z ∙ goes_on at nx h e)))

  -- ---- constants that choose

  abbrev Choices : ℤ → ℕ → (ℕ → Sought) → Sought
  Choices i at go = choose_at (row_at p at) at i go

  choice_step : (P : ℕ → Bool) (n at : ℕ) (i : ℤ) → ((v : ℤ) (c nx : ℕ) → row_at p at ≡ Row.Item (ItemRow.Choice v c nx) → P c ≡ true
      → Goes (is_choice_of P) p at nx)
      → is_choice_of P (row_at p at) ≡ true → length p.rows < suc n + at
      → ((nx : ℕ) → is_choice_of P (row_at p nx) ≡ true → length p.rows < n + nx → Found (λ c. P c ≡ true) (along (Choices i) n nx))
      → Found (λ c. P c ≡ true) (along (Choices i) (suc n) at)
  choice_step P n at i G h f k = looked (row_at p at) refl h
    where
      looked : (r : Row) → row_at p at ≡ r → is_choice_of P r ≡ true → Found (λ c. P c ≡ true) (choose_at r at i (along (Choices i) n))
      looked (Row.Item (ItemRow.Choice v c nx)) q hc =
          let g = G v c nx q hc in
          found_if (λ c. P c ≡ true) (int_eq v i) (Some (Some c)) _ (λ _. hc)
          (λ _. found_on (λ c. P c ≡ true) at nx (along (Choices i) n) g.1 (λ e l. k nx (listed (is_choice_of P) p nx e g.0) (omega (arith, f, l))))
      looked r q hc = no hc

  choice_along : (P : ℕ → Bool) → ((at : ℕ) (v : ℤ) (c nx : ℕ) → row_at p at ≡ Row.Item (ItemRow.Choice v c nx) → P c ≡ true → Goes (is_choice_of P) p at nx)
      → (n at : ℕ) (i : ℤ) → is_choice_of P (row_at p at) ≡ true → length p.rows < n + at → Found (λ c. P c ≡ true) (along (Choices i) n at)
  choice_along P G zero at i h f = absurd (let l = there (is_choice_of P) at refl h in omega (arith, f, l))
  choice_along P G (suc n) at i h f = choice_step P n at i (G at) h f (λ nx l g. choice_along P G n nx i l g)

  module _ (W : WholeTables p) where
    fits : (at : ℕ) (r : Row) → row_at p at ≡ r → RowFits p at r
    fits at r e = subst (λ q. RowFits p at q) e (W.rows at)

    arm_found : (at : ℕ) (i : ℤ) → is_list (is_choice_of (is_variant p)) p at ≡ true → Found (λ v. is_variant p v ≡ true) (choice_of p (length p.rows) at i)
    arm_found at i h = found_if (λ v. is_variant p v ≡ true) (is_end at) (Some None) _ (λ _. tt) (λ e.
        choice_along (is_variant p) (λ at v c nx e s. (fits at (Row.Item (ItemRow.Choice v c nx)) e).1 s) (length p.rows) at i
        (listed (is_choice_of (is_variant p)) p at e h) (enough_items at e))

    -- ---- tests of values

    set_tested_meant : (t : Option TypeRow) (v : Value) → is_ordinal_type t ≡ true → IsMeant (as_tested (set_test t v))
    set_tested_meant (Some (TypeRow.Ordinal least greatest)) v h = fault_meant _
    set_tested_meant (Some (TypeRow.Subrange host least greatest)) v h = fault_meant _
    set_tested_meant t v h = no h

    tested_row : (n : ℕ) (r : Row) (v : Value) → RowFits p n r → is_simple_type (type_in r) ≡ true → IsMeant (tested p (type_in r) v)
    tested_row n (Row.Type (TypeRow.Ordinal least greatest)) v f h = fault_meant _
    tested_row n (Row.Type (TypeRow.Subrange host least greatest)) v f h = fault_meant _
    tested_row n (Row.Type (TypeRow.Set packed base)) v f h = set_tested_meant (type_at p base) v f
    tested_row n (Row.Type (TypeRow.Pointer domain)) v f h = tt
    tested_row n (Row.Type t) v f h = no h
    tested_row n r v f h = no h

    pub tested_meant : (t : ℕ) (v : Value) → is_simple_type (type_at p t) ≡ true → IsMeant (tested p (type_at p t) v)
    tested_meant t v h = tested_row t (row_at p t) v (W.rows t) h

    -- ---- variants

    abbrev pub PartOk : VariantPart → Type 0
    PartOk part = is_list (is_choice_of (is_variant p)) p part.values ≡ true

    position_row : (r : Row) → is_variant_row r ≡ true → is_some (position_in r) ≡ true
    position_row (Row.Part (part.Variant variants position)) h = refl
    position_row r h = no h

    position_there : (s : Sought) → Found (λ v. is_variant p v ≡ true) s → is_some (position_at p s) ≡ true
    position_there None h = absurd h
    position_there (Some None) h = refl
    position_there (Some (Some v)) h = position_row (row_at p v) h

    chosen_there : (part : VariantPart) (v : Value) → PartOk part → is_some (chosen p part v) ≡ true
    chosen_there part (Value.Number i) h = by part.hidden
      where
        by : (b : Bool) → is_some (if b then Some (Some i) else position_at p (choice_of p (length p.rows) part.values i)) ≡ true
        by true = refl
        by false = position_there _ (arm_found part.values i h)
    chosen_there part v h = refl

    answered_meant : {A B : Type 0} (o : Option A) (go : A → Action B) → is_some o ≡ true → ((x : A) → IsMeant (go x)) → IsMeant (answered o go)
    answered_meant None go h k = no h
    answered_meant (Some x) go h k = k x

    undefine_meant : (b : Bool) (addr cells : ℕ) → IsMeant (undefine_if b addr cells)
    undefine_meant true addr cells = writes_meant addr (replicate cells Value.Undefined)
    undefine_meant false addr cells = tt

    activate_meant : (part : VariantPart) (addr : ℕ) (tag : Value) → PartOk part → IsMeant (activate p part addr tag)
    activate_meant part addr tag h = next (read_value addr) _ (read_meant addr) (λ before. next (write addr tag) _ (write_meant addr tag) (λ _.
        answered_meant (chosen p part before) _ (chosen_there part before h) (λ was. answered_meant (chosen p part tag) _ (chosen_there part tag h) (λ now.
        undefine_meant (changes was now) (moved addr 1) part.cells))))

    activated_meant : (target : Bool) (part : VariantPart) (position addr : ℕ) (b : Bool) → PartOk part → IsMeant (or_activated p target part position addr b)
    activated_meant target part position addr true h = tt
    activated_meant target part position addr false h = if_meant (λ _. Unit {0}) (target && part.hidden) _ _ (activate_meant part addr _ h) tt

    variant_meant : (target : Bool) (addr : ℕ) (part : VariantPart) (position : ℕ) → PartOk part → IsMeant (variant_entered p target addr part position)
    variant_meant target addr part position h = next (read_value (moved addr part.offset)) _ (read_meant (moved addr part.offset)) (λ tag.
        answered_meant (chosen p part tag) _ (chosen_there part tag h)
        (λ now. activated_meant target part position (moved addr part.offset) (is_at now position) h))

    -- the variant part of a variant, which the holder of the part is in front of
    part_meant : (target : Bool) (addr n holder variants position : ℕ) (q : Row) → RowFits p variants q → is_variants_row q ≡ true → variants < holder
        → ((h : ℕ) → h < holder → is_holder_row (row_at p h) ≡ true → IsMeant (all_entered p target addr n h))
        → IsMeant (on_variant (at_position (part_in q) position) (λ part position. if nat_lt part.holder holder
        then (all_entered p target addr n part.holder >>= λ _. variant_entered p target addr part position) else NoMeaning))
    part_meant target addr n holder variants position (Row.Part (part.Variants hidden offset cells values outer)) f h l k = by (nat_lt outer holder) refl
      where
        there_is : VariantPart
        there_is = record { hidden = hidden; offset = offset; cells = cells; values = values; holder = outer }

        before : outer < holder
        before = let m : outer < variants = (let e = f.2 in grind (arith, nat_tests)) in omega (arith, m, l)

        by : (b : Bool) → nat_lt outer holder ≡ b
            → IsMeant (if b then (all_entered p target addr n outer >>= λ _. variant_entered p target addr there_is position) else NoMeaning)
        by true e = next (all_entered p target addr n outer) _ (k outer before f.1) (λ _. variant_meant target addr there_is position f.0)
        by false e = absurd (let m = before in grind (arith, nat_tests))
    part_meant target addr n holder variants position q f h l k = no h

    entered_row : (target : Bool) (addr n holder : ℕ) (r : Row) → RowFits p holder r → is_holder_row r ≡ true
        → ((h : ℕ) → h < holder → is_holder_row (row_at p h) ≡ true → IsMeant (all_entered p target addr n h))
        → IsMeant (on_variant (variant_in p r) (λ part position. if nat_lt part.holder holder
        then (all_entered p target addr n part.holder >>= λ _. variant_entered p target addr part position) else NoMeaning))
    entered_row target addr n holder (Row.Part (part.Variant variants position)) f h k =
        part_meant target addr n holder variants position (row_at p variants) (W.rows variants) f.0 (let e = f.1 in grind (arith, nat_tests)) k
    entered_row target addr n holder (Row.Type (TypeRow.Record packed region cells variants)) f h k = tt
    entered_row target addr n holder (Row.Type t) f h k = no h
    entered_row target addr n holder r f h k = no h

    entered_meant : (target : Bool) (addr n holder : ℕ) → holder < n → is_holder_row (row_at p holder) ≡ true → IsMeant (all_entered p target addr n holder)
    entered_meant target addr zero holder l h = absurd (omega (arith, l))
    entered_meant target addr (suc n) holder l h = entered_row target addr n holder (row_at p holder) (W.rows holder) h
        (λ outer m e. entered_meant target addr n outer (omega (arith, l, m)) e)

    field_row : (target : Bool) (addr n : ℕ) (r : Row) → RowFits p n r → is_field_row r ≡ true → IsMeant (field_at p target addr r)
    field_row target addr n (Row.Name (NameRow.Field of' offset holder)) f h =
        next (all_entered p target addr (holder + 1) holder) _ (entered_meant target addr (holder + 1) holder (omega arith) f.1) (λ _. tt)
    field_row target addr n (Row.Name (NameRow.Tag of' offset holder variants)) f h =
        next (all_entered p target addr (holder + 1) holder) _ (entered_meant target addr (holder + 1) holder (omega arith) f.1) (λ _. tt)
    field_row target addr n r f h = no h

    pub field_meant : (target : Bool) (addr field : ℕ) → is_field_row (row_at p field) ≡ true → IsMeant (field_at p target addr (row_at p field))
    field_meant target addr field h = field_row target addr field (row_at p field) (W.rows field) h

    -- ---- assignments

    abbrev pub TagOk : Option (Option VariantPart) → Type 0
    TagOk None = ⊥
    TagOk (Some None) = Unit {0}
    TagOk (Some (Some part)) = PartOk part

    tag_part : (n : ℕ) (q : Row) → RowFits p n q → is_variants_row q ≡ true → TagOk (tag_before (part_in q))
    tag_part n (Row.Part (part.Variants hidden offset cells values holder)) f h = f.0
    tag_part n q f h = no h

    tag_row : (n : ℕ) (r : Row) → RowFits p n r → is_field_row r ≡ true → TagOk (tag_of p r)
    tag_row n (Row.Name (NameRow.Field of' offset holder)) f h = tt
    tag_row n (Row.Name (NameRow.Tag of' offset holder variants)) f h = tag_part variants (row_at p variants) (W.rows variants) f.2
    tag_row n r f h = no h

    target_row : (n : ℕ) (r : Row) → RowFits p n r → is_access_to is_some p r ≡ true → TagOk (tag_accessed p r)
    target_row n (Row.Access (AccessRow.Within record' field of')) f h = tag_row field (row_at p field) (W.rows field) f.0
    target_row n (Row.Access (AccessRow.Field inner field of')) f h = tag_row field (row_at p field) (W.rows field) f.2
    target_row n (Row.Access a) f h = tt
    target_row n r f h = no h

    pub target_ok : (n : ℕ) → is_access_to is_some p (row_at p n) ≡ true → TagOk (tag_accessed p (row_at p n))
    target_ok n h = target_row n (row_at p n) (W.rows n) h

    pub assign_meant : (o : Option (Option VariantPart)) (t addr : ℕ) (v : Value) → TagOk o → is_simple_type (type_at p t) ≡ true
        → IsMeant (assign_to p o (type_at p t) addr v)
    assign_meant None t addr v h s = absurd h
    assign_meant (Some None) t addr v h s = next (tested p (type_at p t) v) (write addr) (tested_meant t v s) (λ w. write_meant addr w)
    assign_meant (Some (Some part)) t addr v h s =
        next (tested p (type_at p t) v) (activate p part addr) (tested_meant t v s) (λ w. activate_meant part addr w h)
