-- Where tables are laid out, the parts of a frame that are variables of the block stand behind the parameters.
use Rattle.std.proofs.Common.{if◌then◌else◌, ◌&&◌, ◌++◌, ◌+◌, ◌-◌, ◌==◌, ◌||◌, ◌∙◌, ◌∷◌, ◌≡◌, ◌≤◌, [], ℕ, Bool, List, None, Option, Some, ap, arith, eqb-true}
use Rattle.std.proofs.Common.{false, filter_map, inl, inr, nat_le, option_to_list, refl, subst, suc, sym, true, zero}
use Rattle.std.{proofs.lemmas.Bool.Decides.nat_tests, proofs.lemmas.List.Elements.filter_map-append, specs.List.cons_option, specs.List.range_with_len}
use Rattle.core_program.proofs.{ActionsMeant.no, WholeParts.and_both, WholeParts.or_cases}
use Rattle.core_program.specs.ProgramRows.{ProgramRows, row_at}
use Rattle.core_program.specs.declared.{program.Routine.Routine, rows.Mode.Mode, rows.NameRow.NameRow, rows.PartRow.PartRow, rows.Row.Row}
use Rattle.run_laws.specs.LaidOut.{all_behind, has_place, is_behind, some_has}
use Rattle.run_laws.specs.LaidOut as laid
use Rattle.cell_names.proofs.PartsInTurn.{block_before, block_first, block_here}
use Rattle.cell_names.specs.Layouts.{block_start, is_name_of, own_between, own_in, part}
use Rattle.cell_names.specs.declared.places.PlacedPart.{PlacedPart}
use Rattle.debuggee.proofs.ParametersPlaced.{AllFrom, SomeBegun, begun_left, begun_right, from_append}

-- ---- rows

same_name : (r : Row) (number name : ℕ) → laid.is_name_of r number name ≡ is_name_of r number name
same_name (Row.Name (NameRow.Routine assigned n region)) number name = refl
same_name (Row.Part (PartRow.Completing first)) number name = refl
same_name r number name = refl

-- a routine's name is no variable
none_named : (level token : ℕ) (r : Row) (number name : ℕ) → is_name_of r number name ≡ true → own_in level token r ≡ None
none_named level token (Row.Name (NameRow.Routine assigned n region)) number name h = refl
none_named level token (Row.Part q) number name h = refl
none_named level token r number name h = no h

own_behind : (level parameters token : ℕ) (r : Row) → is_behind level parameters r ≡ true → AllFrom parameters (option_to_list (own_in level token r))
own_behind level parameters token (Row.Name (NameRow.Variable Mode.Own of' place l)) h = by (l == level) h
  where
    by : (b : Bool) → (if b then nat_le parameters place else true) ≡ true
        → AllFrom parameters (option_to_list (if b then Some (part place token) else None))
    by true h = (grind (arith, nat_tests, h), tt)
    by false h = tt
own_behind level parameters token r h = tt

own_begun : (level place token : ℕ) (r : Row) → has_place level place r ≡ true → SomeBegun place (option_to_list (own_in level token r))
own_begun level place token (Row.Name (NameRow.Variable Mode.Own of' at l)) h = by (l == level) h
  where
    by : (b : Bool) → (if b then at == place else false) ≡ true → SomeBegun place (option_to_list (if b then Some (part at token) else None))
    by true h = let e : at ≡ place = eqb-true at place h in inl (omega (arith, e))
    by false h = no h
own_begun level place token r h = no h

-- ---- one token more

range_more : (a n : ℕ) → range_with_len a (suc n) ≡ range_with_len a n ++ (a + n) ∷ []
range_more a zero = ap (λ k. k ∷ []) (let e : a ≡ a + zero = omega arith in e)
range_more a (suc n) = ap (λ l. a ∷ l) (range_more (a + 1) n ∙ ap (λ k. range_with_len (a + 1) n ++ k ∷ [])
    (let e : (a + 1) + n ≡ a + suc n = omega arith in e))

one_listed : (o : Option PlacedPart) → cons_option o [] ≡ option_to_list o
one_listed None = refl
one_listed (Some x) = refl

module _ (p : ProgramRows) where
  own_more : (level from token : ℕ) → from ≤ token
      → own_between p level from (suc token) ≡ own_between p level from token ++ option_to_list (own_in level token (row_at p token))
  unfolding own_between
  own_more level from token l =
      let own = λ (t : ℕ). own_in level t (row_at p t) in
      let n : suc token - from ≡ suc (token - from) = omega (arith, l) in
      let t : from + (token - from) ≡ token = omega (arith, l) in
      ap (λ k. filter_map own (range_with_len from k)) n ∙ ap (filter_map own) (range_more from (token - from))
      ∙ ap (λ k. filter_map own (range_with_len from (token - from) ++ k ∷ [])) t
      ∙ filter_map-append own (range_with_len from (token - from)) (token ∷ [])
      ∙ ap (λ xs. filter_map own (range_with_len from (token - from)) ++ xs) (one_listed (own token))

  own_none : (level from : ℕ) → own_between p level from from ≡ []
  unfolding own_between
  own_none level from = ap (λ n. filter_map (λ t. own_in level t (row_at p t)) (range_with_len from n)) (let e : from - from ≡ zero = omega arith in e)

  module _ (number : ℕ) (r : Routine) where
    abbrev start : ℕ → ℕ
    start token = block_start p number r.name token

    -- the block's variables before a token
    abbrev own : ℕ → List PlacedPart
    own token = own_between p r.level (start token) token

    abbrev names : ℕ → Bool
    names token = is_name_of (row_at p token) number r.name

    starts_here : (token : ℕ) → names token ≡ true → start (suc token) ≡ token
    starts_here token e =
        let n : suc token - 1 ≡ token = omega arith in
        block_here p number r.name (suc token) true (omega arith) (sym (ap names n ∙ e)) refl ∙ n

    starts_before : (token : ℕ) → names token ≡ false → start (suc token) ≡ start token
    starts_before token e =
        let n : suc token - 1 ≡ token = omega arith in
        block_before p number r.name (suc token) false (omega arith) (sym (ap names n ∙ e)) refl ∙ ap start n

    start_low : (token : ℕ) → start token ≤ token
    start_low zero = let e = block_first p number r.name 0 (omega arith) in omega (arith, e)
    start_low (suc token) = by (names token) refl (start_low token)
      where
        by : (b : Bool) → names token ≡ b → start token ≤ token → start (suc token) ≤ suc token
        by true e l = let s = starts_here token e in omega (arith, s)
        by false e l = let s = starts_before token e in omega (arith, s, l)

    none_here : (token : ℕ) → names token ≡ true → own (suc token) ≡ []
    none_here token e =
        ap (λ s. own_between p r.level s (suc token)) (starts_here token e)
        ∙ own_more r.level token token (omega arith)
        ∙ ap (λ xs. xs ++ option_to_list (own_in r.level token (row_at p token))) (own_none r.level token)
        ∙ ap option_to_list (none_named r.level token (row_at p token) number r.name e)

    one_here : (token : ℕ) → names token ≡ false → own (suc token) ≡ own token ++ option_to_list (own_in r.level token (row_at p token))
    one_here token e = ap (λ s. own_between p r.level s (suc token)) (starts_before token e) ∙ own_more r.level (start token) token (start_low token)

    -- what the tests say where they come by a token that is a name, or none
    abbrev behind_on : (token : ℕ) → Bool → Bool
    behind_on token b = if b then true else is_behind r.level r.parameters (row_at p token) && all_behind p number r token

    abbrev some_on : (place token : ℕ) → Bool → Bool
    some_on place token b = if b then false else has_place r.level place (row_at p token) || some_has p number r place token

    pub variables_behind : (token : ℕ) → all_behind p number r token ≡ true → AllFrom r.parameters (own token)
    variables_behind zero h = subst (AllFrom r.parameters) (sym (ap (λ s. own_between p r.level s 0) first ∙ own_none r.level 0)) tt
      where
        first : start 0 ≡ 0
        first = block_first p number r.name 0 (omega arith)
    variables_behind (suc token) h =
        by (names token) refl (subst (λ b. behind_on token b ≡ true) (same_name (row_at p token) number r.name) h) (variables_behind token)
      where
        by : (b : Bool) → names token ≡ b → behind_on token b ≡ true → (all_behind p number r token ≡ true → AllFrom r.parameters (own token))
            → AllFrom r.parameters (own (suc token))
        by true e h go = subst (AllFrom r.parameters) (sym (none_here token e)) tt
        by false e h go =
            let k = and_both (is_behind r.level r.parameters (row_at p token)) (all_behind p number r token) h in
            subst (AllFrom r.parameters) (sym (one_here token e)) (from_append r.parameters (own token) _ (go k.1)
            (own_behind r.level r.parameters token (row_at p token) k.0))

    pub variables_begun : (place token : ℕ) → some_has p number r place token ≡ true → SomeBegun place (own token)
    variables_begun place zero h = no h
    variables_begun place (suc token) h =
        by (names token) refl (subst (λ b. some_on place token b ≡ true) (same_name (row_at p token) number r.name) h) (variables_begun place token)
      where
        by : (b : Bool) → names token ≡ b → some_on place token b ≡ true → (some_has p number r place token ≡ true → SomeBegun place (own token))
            → SomeBegun place (own (suc token))
        by true e h go = no h
        by false e h go = subst (SomeBegun place) (sym (one_here token e))
            (elim (or_cases (has_place r.level place (row_at p token)) (some_has p number r place token) h) [
              | inl i ↦ begun_right place (own token) _ (own_begun r.level place token (row_at p token) i)
              | inr i ↦ begun_left place (own token) _ (go i)
            ])
