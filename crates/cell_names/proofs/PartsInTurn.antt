-- Which parts have each place, as one list of parts after another is added.
use Rattle.std.proofs.Common.{◌++◌, ◌+◌, ◌-◌, ◌<◌, ◌∙◌, ◌∷◌, ◌≡◌, ◌≤◌, [], ℕ, Bool, List, None, Option, Some, ap, append-nil, append_assoc, arith, false}
use Rattle.std.proofs.Common.{filter, filter_map, option_to_list, refl, suc, sym, true, zero}
use Rattle.std.{proofs.lemmas.List.Elements.filter-append, specs.List.cons_option, specs.List.range_with_len}
use Rattle.cell_value.specs.Effects.{last_of}
use Rattle.core_program.specs.ProgramRows.{ProgramRows, row_at, type_at}
use Rattle.cell_names.specs.{Places.finds, Places.is_begun, Places.last_at, declared.places.PlacedPart.PlacedPart}
use Rattle.cell_names.specs.Layouts.{block_start, bounds_by, bounds_parts, component_in, is_name_of, most_sections, next_name, own_between, own_in, parts_after}
use Rattle.cell_names.specs.Layouts.{parts_at, section_after, section_of, section_parts, sections_parts, spec_parts, token_or_zero}

later : {X : Type 0} → Option X → Option X → Option X
later None earlier = earlier
later (Some x) earlier = Some x

later_some : {X : Type 0} (x : X) (o : Option X) → later (Some x) o ≡ Some x
unfolding later
later_some x o = refl

later_none : {X : Type 0} (o : Option X) → later None o ≡ o
unfolding later
later_none o = refl

some_last : {X : Type 0} (y : X) (ys : List X) (o : Option X) → last_of (y ∷ ys) ≡ later (last_of (y ∷ ys)) o
unfolding later
some_last y [] o = refl
some_last y (z ∷ zs) o = some_last z zs o

last_later : {X : Type 0} (xs ys : List X) → last_of (xs ++ ys) ≡ later (last_of ys) (last_of xs)
unfolding later
last_later [] [] = refl
last_later [] (y ∷ ys) = some_last y ys None
last_later (x ∷ []) [] = refl
last_later (x ∷ []) (y ∷ ys) = some_last y ys (Some x)
last_later (x ∷ z ∷ zs) ys = last_later (z ∷ zs) ys

last_at_later : (at : ℕ) (xs ys : List PlacedPart) → last_at at (xs ++ ys) ≡ later (last_at at ys) (last_at at xs)
unfolding last_at
last_at_later at xs ys = ap last_of (filter-append (is_begun at) xs ys) ∙ last_later (filter (is_begun at) xs) (filter (is_begun at) ys)

-- lists that find the same do so with more after them
pub finds_more : (xs ys more : List PlacedPart) → finds xs ≡ finds ys → finds (xs ++ more) ≡ finds (ys ++ more)
finds_more xs ys more same = λ i at.
    (last_at_later at xs more ∙ ap (λ (f : ℕ → Option PlacedPart). later (last_at at more) (f at)) same ∙ sym (last_at_later at ys more)) i

-- one list and then another
pub finds_both : (old mid new first second : List PlacedPart) → finds mid ≡ finds (old ++ first) → finds new ≡ finds (mid ++ second)
    → finds new ≡ finds (old ++ (first ++ second))
finds_both old mid new first second a b =
    b ∙ finds_more mid (old ++ first) second a ∙ ap finds (append_assoc old first second)

-- one list and then what is left
pub finds_on : (old new first rest all : List PlacedPart) → finds new ≡ finds (old ++ first) → finds (old ++ (first ++ rest)) ≡ finds all
    → finds (new ++ rest) ≡ finds all
finds_on old new first rest all a b =
    finds_more new (old ++ first) rest a ∙ ap finds (append_assoc old first rest) ∙ b

pub finds_all : (xs all : List PlacedPart) → finds (xs ++ []) ≡ finds all → finds xs ≡ finds all
finds_all xs all e = ap finds (sym (append-nil xs)) ∙ e

-- one more name of a section
pub section_on : (p : ProgramRows) (old new all : List PlacedPart) (count counter token next : ℕ) → counter < count → next ≡ next_name token
    → finds new ≡ finds (old ++ parts_at p token) → finds (old ++ section_parts p (count - counter) token) ≡ finds all
    → finds (new ++ section_parts p (count - (counter + 1)) next) ≡ finds all
section_on p old new all count counter token next below is pushed so_far =
    let e : count - counter ≡ suc (count - (counter + 1)) = omega (arith, below) in
    let s : finds (old ++ section_parts p (suc (count - (counter + 1))) token) ≡ finds all =
    ap (λ n. finds (old ++ section_parts p n token)) (sym e) ∙ so_far in
    rw is (finds_on old new (parts_at p token) (section_parts p (count - (counter + 1)) (next_name token)) all pushed s)

sections_on_by : (p : ProgramRows) (old new all : List PlacedPart) (most slot : ℕ) (next : Option ℕ) → next ≡ section_after (row_at p slot)
    → finds new ≡ finds (old ++ section_of p (row_at p slot)) → finds (old ++ sections_parts p (suc most) slot) ≡ finds all
    → finds (new ++ parts_after (sections_parts p most) next) ≡ finds all
sections_on_by p old new all most slot next is pushed so_far =
    rw is (finds_on old new (section_of p (row_at p slot)) (parts_after (sections_parts p most) (section_after (row_at p slot))) all pushed so_far)

-- one more section
pub sections_on : (p : ProgramRows) (old new all : List PlacedPart) (most counter slot : ℕ) (next : Option ℕ) → counter < most
    → next ≡ section_after (row_at p slot)
    → finds new ≡ finds (old ++ section_of p (row_at p slot)) → finds (old ++ sections_parts p (most - counter) slot) ≡ finds all
    → finds (new ++ parts_after (sections_parts p (most - (counter + 1))) next) ≡ finds all
sections_on p old new all most counter slot next below is pushed so_far =
    let e : most - counter ≡ suc (most - (counter + 1)) = omega (arith, below) in
    let s : finds (old ++ sections_parts p (suc (most - (counter + 1))) slot) ≡ finds all =
    ap (λ n. finds (old ++ sections_parts p n slot)) (sym e) ∙ so_far in
    sections_on_by p old new all (most - (counter + 1)) slot next is pushed s

pub most_is : most_sections ≡ 1048576
unfolding most_sections
most_is = refl

-- no more sections are gone through
pub sections_end : (p : ProgramRows) (old all : List PlacedPart) (counter slot : ℕ) → 1048576 ≤ counter
    → finds (old ++ sections_parts p (most_sections - counter) slot) ≡ finds all → finds old ≡ finds all
sections_end p old all counter slot past so_far =
    let m = most_is in
    let e : most_sections - counter ≡ zero = omega (arith, past, m) in
    finds_all old all (ap (λ n. finds (old ++ sections_parts p n slot)) (sym e) ∙ so_far)

bounds_left : (p : ProgramRows) (old all : List PlacedPart) (most counter spec : ℕ) (o : Option ℕ) → counter < most → o ≡ component_in (type_at p spec)
    → finds (old ++ bounds_parts p (most - counter) spec) ≡ finds all
    → finds (old ++ bounds_by p (bounds_parts p (most - (counter + 1))) spec o) ≡ finds all
bounds_left p old all most counter spec o below is so_far =
    let e : most - counter ≡ suc (most - (counter + 1)) = omega (arith, below) in
    ap (λ c. finds (old ++ bounds_by p (bounds_parts p (most - (counter + 1))) spec c)) is ∙ ap (λ n. finds (old ++ bounds_parts p n spec)) (sym e) ∙ so_far

-- the bounds of one more spec
pub bounds_on : (p : ProgramRows) (old new all : List PlacedPart) (most counter spec component : ℕ) → counter < most
    → Some component ≡ component_in (type_at p spec)
    → finds new ≡ finds (old ++ spec_parts p spec) → finds (old ++ bounds_parts p (most - counter) spec) ≡ finds all
    → finds (new ++ bounds_parts p (most - (counter + 1)) component) ≡ finds all
bounds_on p old new all most counter spec component below is pushed so_far =
    finds_on old new (spec_parts p spec) (bounds_parts p (most - (counter + 1)) component) all pushed
    (bounds_left p old all most counter spec (Some component) below is so_far)

-- there are no more specs
pub bounds_none : (p : ProgramRows) (old all : List PlacedPart) (most counter spec : ℕ) → counter < most
    → ◌≡◌ {A = Option ℕ} None (component_in (type_at p spec))
    → finds (old ++ bounds_parts p (most - counter) spec) ≡ finds all → finds old ≡ finds all
bounds_none p old all most counter spec below is so_far = finds_all old all (bounds_left p old all most counter spec None below is so_far)

pub bounds_end : (p : ProgramRows) (old all : List PlacedPart) (counter spec : ℕ) → 1048576 ≤ counter
    → finds (old ++ bounds_parts p (most_sections - counter) spec) ≡ finds all → finds old ≡ finds all
bounds_end p old all counter spec past so_far =
    let m = most_is in
    let e : most_sections - counter ≡ zero = omega (arith, past, m) in
    finds_all old all (ap (λ n. finds (old ++ bounds_parts p n spec)) (sym e) ∙ so_far)

range_last : (a n : ℕ) → range_with_len a (suc n) ≡ range_with_len a n ++ (a + n) ∷ []
range_last a zero = ap (λ k. k ∷ []) (let e : a ≡ a + zero = omega arith in e)
range_last a (suc n) = ap (λ l. a ∷ l) (range_last (a + 1) n ∙ ap (λ k. range_with_len (a + 1) n ++ k ∷ [])
    (let e : (a + 1) + n ≡ a + suc n = omega arith in e))

kept_last : (test : ℕ → Bool) (n : ℕ) → test n ≡ true → last_of (filter test (range_with_len 0 (suc n))) ≡ Some n
kept_last test n e =
    ap (λ l. last_of (filter test l)) (range_last 0 n ∙ ap (λ k. range_with_len 0 n ++ k ∷ []) (let z : 0 + n ≡ n = omega arith in z))
    ∙ ap last_of (filter-append test (range_with_len 0 n) (n ∷ [])) ∙ last_later (filter test (range_with_len 0 n)) (filter test (n ∷ []))
    ∙ (let k : filter test (n ∷ []) ≡ n ∷ [] = simp e refl in
    let f : later (last_of (n ∷ [])) (last_of (filter test (range_with_len 0 n))) ≡ Some n = later_some n (last_of (filter test (range_with_len 0 n))) in
    ap (λ l. later (last_of l) (last_of (filter test (range_with_len 0 n)))) k ∙ f)

dropped_last : (test : ℕ → Bool) (n : ℕ) → test n ≡ false → last_of (filter test (range_with_len 0 (suc n))) ≡ last_of (filter test (range_with_len 0 n))
dropped_last test n e =
    ap (λ l. last_of (filter test l)) (range_last 0 n ∙ ap (λ k. range_with_len 0 n ++ k ∷ []) (let z : 0 + n ≡ n = omega arith in z))
    ∙ ap last_of (filter-append test (range_with_len 0 n) (n ∷ [])) ∙ last_later (filter test (range_with_len 0 n)) (filter test (n ∷ []))
    ∙ (let k : filter test (n ∷ []) ≡ [] = simp e refl in
    let f : later (last_of []) (last_of (filter test (range_with_len 0 n))) ≡ last_of (filter test (range_with_len 0 n)) =
    later_none (last_of (filter test (range_with_len 0 n))) in
    ap (λ l. later (last_of l) (last_of (filter test (range_with_len 0 n)))) k ∙ f)

-- the block begins at a token that is a name of its routine
pub block_here : (p : ProgramRows) (number name token : ℕ) (b : Bool) → 0 < token → b ≡ is_name_of (row_at p (token - 1)) number name → b ≡ true
    → block_start p number name token ≡ token - 1
unfolding block_start
block_here p number name token b some is e =
    let s : token ≡ suc (token - 1) = omega (arith, some) in
    let test = λ (t : ℕ). is_name_of (row_at p t) number name in
    ap (λ n. token_or_zero (last_of (filter test (range_with_len 0 n)))) s ∙ ap token_or_zero (kept_last test (token - 1) (sym is ∙ e))

-- it begins before one that is none
pub block_before : (p : ProgramRows) (number name token : ℕ) (b : Bool) → 0 < token → b ≡ is_name_of (row_at p (token - 1)) number name → b ≡ false
    → block_start p number name token ≡ block_start p number name (token - 1)
unfolding block_start
block_before p number name token b some is e =
    let s : token ≡ suc (token - 1) = omega (arith, some) in
    let test = λ (t : ℕ). is_name_of (row_at p t) number name in
    ap (λ n. token_or_zero (last_of (filter test (range_with_len 0 n)))) s ∙ ap token_or_zero (dropped_last test (token - 1) (sym is ∙ e))

pub block_first : (p : ProgramRows) (number name token : ℕ) → token ≤ 0 → block_start p number name token ≡ 0
unfolding block_start
block_first p number name token none =
    ap (λ n. token_or_zero (last_of (filter (λ t. is_name_of (row_at p t) number name) (range_with_len 0 n)))) (let z : token ≡ 0 = omega (arith, none) in z)

listed : {X : Type 0} (o : Option X) (xs : List X) → cons_option o xs ≡ option_to_list o ++ xs
listed None xs = refl
listed (Some x) xs = refl

own_first : (p : ProgramRows) (level from to : ℕ) → from < to
    → own_between p level from to ≡ option_to_list (own_in level from (row_at p from)) ++ own_between p level (from + 1) to
unfolding own_between
own_first p level from to below =
    let own = λ (t : ℕ). own_in level t (row_at p t) in
    ap (λ n. filter_map own (range_with_len from n)) (let e : to - from ≡ suc (to - (from + 1)) = omega (arith, below) in e)
    ∙ listed (own from) (filter_map own (range_with_len (from + 1) (to - (from + 1))))

own_none : (p : ProgramRows) (level from to : ℕ) → to ≤ from → own_between p level from to ≡ []
unfolding own_between
own_none p level from to past =
    ap (λ n. filter_map (λ t. own_in level t (row_at p t)) (range_with_len from n)) (let e : to - from ≡ zero = omega (arith, past) in e)

-- one more token is gone over
pub own_on : (p : ProgramRows) (old new all : List PlacedPart) (level token to : ℕ) (one : Option PlacedPart) → token < to
    → one ≡ own_in level token (row_at p token)
    → finds new ≡ finds (old ++ option_to_list one) → finds (old ++ own_between p level token to) ≡ finds all
    → finds (new ++ own_between p level (token + 1) to) ≡ finds all
own_on p old new all level token to one below is pushed so_far =
    let rest = own_between p level (token + 1) to in
    finds_on old new (option_to_list one) rest all pushed
    (ap (λ o. finds (old ++ (option_to_list o ++ rest))) is ∙ ap (λ l. finds (old ++ l)) (sym (own_first p level token to below)) ∙ so_far)

pub own_end : (p : ProgramRows) (old all : List PlacedPart) (level token to : ℕ) → to ≤ token → finds (old ++ own_between p level token to) ≡ finds all
    → finds old ≡ finds all
own_end p old all level token to past so_far = finds_all old all (ap (λ l. finds (old ++ l)) (sym (own_none p level token to past)) ∙ so_far)
